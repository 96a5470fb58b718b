-- The form of contents, and what keeps it.
use Rattle.std.specs.Prelude.{◌≡◌, ℕ, ◌<◌, nat_eq, if◌then◌else◌, pos, List, [], ◌∷◌, length, replicate, take, None, Some, slice_get}
use Rattle.frame_ast.specs.declared.kernel.Kernel.{Kernel}
use Rattle.frame_ast.specs.declared.script.Order.{Order}
use Rattle.frame_ast.specs.declared.script.Order.TheVariants.{SetCapacity}
use Rattle.frame_ast.specs.declared.script.Statement.{Statement}
use Rattle.frame_ast.specs.declared.script.Script.{Script}
use Rattle.frame_ast.specs.Contents.{Contents, Cells, Single, Items, Pairs, Entries, IsHeld}
use Rattle.frame_ast.specs.JobRuns.{run_of}
use Rattle.frame_ast.specs.States.{ScriptState, container_at}
use Rattle.frame_ast.specs.Orders.{Table, setting, new_list}
use Rattle.frame_ast.specs.Checks.{refusal}
use Rattle.frame_ast.specs.Effects.{effect}
use Rattle.frame_ast.specs.Scripts.{final}
use Rattle.frame_ast.specs.Checked.{IsChecked}
use Rattle.frame_ast.specs.Accepted.{IsAccepted}

-- The form of contents is what a new container of their length, capacity or room holds.
abbrev pub form_of : Contents → Contents
form_of (Cells xs) = Cells (replicate (length xs) (pos 0))
form_of (Single z) = Single (pos 0)
form_of (Items cap xs) = Items cap []
form_of (Pairs cap ps) = Pairs cap []
form_of (Entries room es) = Entries room (replicate (length es) None)

-- A JOB KEEPS THE FORM OF EACH ARGUMENT, AND LEAVES WHAT CAN BE HELD

-- new contents of the same form, which the container can hold
pub record IsKept (old new : Contents) : Type 0 where
  pub form : form_of new ≡ form_of old
  pub held : IsHeld new

abbrev pub AreHeld : List Contents → Type 0
AreHeld [] = Unit {0}
AreHeld (c ∷ more) = IsHeld c × AreHeld more

-- as many contents, each of which is kept
abbrev pub AreKept : List Contents → List Contents → Type 0
AreKept [] [] = Unit {0}
AreKept [] (new ∷ news) = ⊥
AreKept (old ∷ olds) [] = ⊥
AreKept (old ∷ olds) (new ∷ news) = IsKept old new × AreKept olds news

abbrev pub JobsKeepForms : Type 0
JobsKeepForms = (k : Kernel) → IsChecked k → (widths : List ℕ) (steps n : ℕ) (args : List Contents) → AreHeld args →
    AreKept args (run_of k widths steps n args).store

-- A STATEMENT KEEPS THE FORM OF EACH CONTAINER, BUT THAT `setcapacity` GIVES A LIST ITS NEW CAPACITY

-- The form of a container after an accepted statement. A refused one changes no contents.
abbrev pub form_after : ScriptState → Order → ℕ → Contents
form_after s (SetCapacity name cap) c = if nat_eq c (container_at s name) then new_list cap else form_of (s.contents c)
form_after s _ c = form_of (s.contents c)

abbrev pub StatementsKeepForms : Type 0
StatementsKeepForms = (script : Script) → IsAccepted script → (table : Table) (n : ℕ) (x : Statement) →
    slice_get script.statements.items n ≡ Some x →
    let g = setting script table in
    let s = final g (take n script.statements.items) in
    refusal g s x.act ≡ None → (c : ℕ) → c < s.made →
    form_of ((effect g x.line s x.act).contents c) ≡ form_after s x.act c
