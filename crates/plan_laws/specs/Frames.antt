-- `frame`: temp containers end, and each that is overdue is reported.
use Rattle.std.specs.Prelude.{ℕ, zero, suc, ◌≡◌, ◌<◌, ◌^◌, if◌then◌else◌, List, [], ◌∷◌, ◌++◌, length}
use Rattle.frame_ast.specs.Effects.{is_overdue, next_frame}
use Rattle.frame_ast.specs.Laws.{IsKnown}
use Rattle.frame_ast.specs.Orders.{Setting, name_text}
use Rattle.frame_ast.specs.States.{ScriptState}
use Rattle.frame_core.specs.declared.plan.Act.TheVariants.{Report}
use Rattle.frame_core.specs.declared.plan.Op.{Op}
use Rattle.frame_core.specs.declared.plan.Plan.{Plan}
use Rattle.frame_core.specs.Names.{name_of}
use Rattle.plan_laws.specs.Drafts.{Draft}
use Rattle.plan_laws.specs.Planned.{Outline, IsPlanned, Adds}

-- a report of a container, in the line of the `frame`
abbrev pub report_op : ScriptState → ℕ → ℕ → Op
report_op s line c = record { line = line; name = (s.making c).name; act = Report (s.making c).line }

-- the reports of the containers below n, in the order of their making
abbrev pub report_ops : ScriptState → ℕ → ℕ → List Op
report_ops s line zero = []
report_ops s line (suc c) = report_ops s line c ++ (if is_overdue s c then report_op s line c ∷ [] else [])

-- the plan has the name of each container
pub record HasNames (plan : Plan) (g : Setting) (s : ScriptState) : Type 0 where
  pub below : (c : ℕ) → c < s.made → (s.making c).name < length plan.names
  pub text : (c : ℕ) → c < s.made → name_of plan (s.making c).name ≡ name_text g (s.making c).name

abbrev pub FramesArePlanned : Type 0
FramesArePlanned = (x : Outline) (g : Setting) (s : ScriptState) (line : ℕ) (d e : Draft)
    → x.plan.cells < 2 ^ 32
    → IsKnown s
    → IsPlanned x s d
    → HasNames x.plan g s
    → Adds d e (report_ops s line s.made)
    → IsPlanned x (next_frame g line s) e
