-- What a job's words are afterwards, and what of them stays.
use Rattle.std.specs.Prelude.{ℕ, ◌≡◌, ◌<◌, true, List, length, Option}
use Rattle.frame_ast.specs.declared.kernel.Kernel.{Kernel}
use Rattle.frame_ast.specs.declared.script.Arg.{Arg}
use Rattle.frame_ast.specs.Checked.{IsChecked}
use Rattle.frame_ast.specs.Contents.{Contents}
use Rattle.frame_ast.specs.Ranges.{Starts}
use Rattle.frame_ast.specs.Schedules.{arguments_of}
use Rattle.frame_ast.specs.States.{ScriptState}
use Rattle.kernel_exec.specs.Binds.{IsWordOf, widths}
use Rattle.kernel_exec.specs.Conditions.{BindsFit}
use Rattle.kernel_exec.specs.Laws.{at_indexes}
use Rattle.merge_laws.specs.Graph.{Cells}
use Rattle.plan_laws.specs.Binds.{bind_of_container, binds_by}
use Rattle.frame_ast.specs.Fitting.{ArgsFit, AreUnshared}
use Rattle.plan_laws.specs.Leaving.{AllHeld, JobLeaves}
use Rattle.plan_laws.specs.Running.{on_contents}

-- no word is of two containers that are alive, and their words are below a limit
pub record AreApartBelow (starts : Starts) (s : ScriptState) (limit : ℕ) : Type 0 where
  pub apart : (c d w : ℕ)
      → c < s.made
      → d < s.made
      → s.alive c ≡ true
      → s.alive d ≡ true
      → IsWordOf (bind_of_container starts s c) w
      → IsWordOf (bind_of_container starts s d) w
      → c ≡ d
  pub below : (c w : ℕ) → c < s.made → s.alive c ≡ true → IsWordOf (bind_of_container starts s c) w → w < limit

-- What so many indexes of a job with these arguments, each with so many steps, make of the words and of the contents.

abbrev pub words_left : Starts → ScriptState → Kernel → List ℕ → List Arg → ℕ → ℕ → Cells → Cells
words_left starts s kernel ws args steps n cells =
    (at_indexes kernel (binds_by starts s kernel.params.items ws args) steps n 0 cells).store

abbrev pub contents_left : Starts → ScriptState → Kernel → List ℕ → List Arg → ℕ → ℕ → List Contents
contents_left starts s kernel ws args steps n =
    let given = widths (binds_by starts s kernel.params.items ws args) in
    (on_contents kernel given steps n 0 (arguments_of s kernel.params.items args)).store

-- It leaves the contents that the language says.
abbrev pub JobsLeave : Type 0
JobsLeave = (starts : Starts) (s : ScriptState) (kernel : Kernel) (ws : List ℕ) (args : List Arg)
    (defer : Option (ℕ × ℕ)) (steps n limit : ℕ) (old new : Cells)
    → IsChecked kernel
    → BindsFit kernel (binds_by starts s kernel.params.items ws args)
    → ArgsFit s defer kernel.params.items args
    → length ws ≡ length kernel.params.items
    → AreUnshared s kernel.params.items args
    → AllHeld starts s old
    → AreApartBelow starts s limit
    → ((w : ℕ) → w < limit → new w ≡ words_left starts s kernel ws args steps n old w)
    → JobLeaves starts s kernel.params.items ws args old new (contents_left starts s kernel ws args steps n)
