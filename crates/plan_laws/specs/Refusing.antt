-- A statement that is refused, whatever the cells are.
use Rattle.std.specs.Prelude.{ℕ, ◌≡◌, ◌<◌, ◌^◌, [], ◌∷◌, length, Some}
use Rattle.frame_ast.specs.declared.script.Statement.{Statement}
use Rattle.frame_ast.specs.Refusals.{Refused}
use Rattle.frame_ast.specs.Orders.{Setting, name_text}
use Rattle.frame_ast.specs.States.{ScriptState}
use Rattle.frame_ast.specs.Checks.{refusal}
use Rattle.frame_ast.specs.Scripts.{act}
use Rattle.frame_core.specs.declared.plan.Act.TheVariants.{Say}
use Rattle.frame_core.specs.Names.{name_of}
use Rattle.plan_laws.specs.Drafts.{Draft}
use Rattle.plan_laws.specs.Planned.{Outline, IsPlanned, Adds}

abbrev pub RefusalsArePlanned : Type 0
RefusalsArePlanned = (x : Outline)
    → x.plan.cells < 2 ^ 32
    → (g : Setting) (s : ScriptState) (st : Statement) (r : Refused) (name : ℕ) (d e : Draft)
    → IsPlanned x s d
    → s.passing ≡ 0
    → refusal g s st.act ≡ Some r
    → name < length x.plan.names
    → name_of x.plan name ≡ name_text g r.name
    → Adds d e (record { line = st.line; name = name; act = Say r.cause } ∷ [])
    → IsPlanned x (act g s st) e
