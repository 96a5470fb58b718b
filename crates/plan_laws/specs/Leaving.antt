-- What a job is given, and what it leaves: words stand for the contents of its arguments, and afterwards for those of
-- the containers.
use Rattle.std.specs.Prelude.{ℕ, ◌≡◌, ◌<◌, true, false, List, length, Option, Some, slice_get}
use Rattle.frame_ast.specs.declared.kernel.Param.{Param}
use Rattle.frame_ast.specs.declared.script.Arg.{Arg}
use Rattle.frame_ast.specs.declared.script.Arg.TheVariants.{Name}
use Rattle.frame_ast.specs.Contents.{Contents}
use Rattle.frame_ast.specs.Fitting.{ArgsFit, AreUnshared, is_written}
use Rattle.frame_ast.specs.Ranges.{Starts}
use Rattle.frame_ast.specs.Schedules.{arguments_of, leave_all}
use Rattle.frame_ast.specs.States.{ScriptState, container_at}
use Rattle.kernel_exec.specs.declared.binds.Bind.{Bind}
use Rattle.kernel_exec.specs.Binds.{IsWordOf}
use Rattle.kernel_exec.specs.Footprint.{IsLength}
use Rattle.kernel_exec.specs.Layout.{Holds, StandFor}
use Rattle.merge_laws.specs.Graph.{Cells}
use Rattle.plan_laws.specs.Binds.{bind_of_container, binds_by}

-- WHAT IS GIVEN

-- the words of each container that is alive stand for its contents
abbrev pub AllHeld : Starts → ScriptState → Cells → Type 0
AllHeld starts s cells = (c : ℕ) → c < s.made → s.alive c ≡ true
    → Holds cells (bind_of_container starts s c) (s.contents c)

-- The words that a job is given stand for the contents of its arguments.
abbrev pub ArgumentsStand : Type 0
ArgumentsStand = (starts : Starts) (s : ScriptState) (cells : Cells) (params : List Param) (widths : List ℕ)
    (args : List Arg) (defer : Option (ℕ × ℕ))
    → AllHeld starts s cells
    → ArgsFit s defer params args
    → length widths ≡ length params
    → StandFor (binds_by starts s params widths args) cells (arguments_of s params args)

-- WHAT IS LEFT

-- The words of containers afterwards: through each bind they stand for what the job made of the argument, and a word
-- changes only where a bind that is written has it; of a view no length.
pub record JobLeaves (starts : Starts) (s : ScriptState) (params : List Param) (widths : List ℕ) (args : List Arg)
    (old new : Cells) (news : List Contents) : Type 0 where
  pub stand : StandFor (binds_by starts s params widths args) new news
  pub same : (c w : ℕ) → c < s.made → s.alive c ≡ true → IsWordOf (bind_of_container starts s c) w
      → is_written s params args c ≡ false
      → new w ≡ old w
  pub outside : (c w x : ℕ) (p : Param) (n : ℕ) (b : Bind)
      → slice_get params x ≡ Some p
      → slice_get args x ≡ Some (Name n)
      → container_at s n ≡ c
      → slice_get (binds_by starts s params widths args) x ≡ Some b
      → IsWordOf (bind_of_container starts s c) w
      → (IsWordOf b w → IsLength b w)
      → new w ≡ old w

-- The words that a job leaves stand for the contents of the containers.
abbrev pub LeftContentsAreHeld : Type 0
LeftContentsAreHeld = (starts : Starts) (s : ScriptState) (params : List Param) (widths : List ℕ) (args : List Arg)
    (defer : Option (ℕ × ℕ)) (old new : Cells) (news : List Contents)
    → AllHeld starts s old
    → ArgsFit s defer params args
    → length widths ≡ length params
    → AreUnshared s params args
    → JobLeaves starts s params widths args old new news
    → AllHeld starts (leave_all params args news s) new
