-- A statement that changes what statements see, and leaves the draft to its caller: what it needs, and what its answer
-- is.
--
-- Such a statement has no draft. It goes on with every one that takes its answer, so what has to hold of the plan is
-- argued where the answer is pushed.
use Rattle.std.specs.Prelude.{ℕ, ◌≡◌, ℤ, List, [], ◌∷◌, ◌++◌, length, Option, None, Some, Vec}
use Rattle.std.specs.declared.alloc.Global.{Global}
use Rattle.job_base.specs.declared.JobId.{JobId}
use Rattle.job_base.specs.declared.Span.{Span}
use Rattle.frame_ast.specs.declared.script.Order.{Order}
use Rattle.frame_ast.specs.declared.script.Script.{Script}
use Rattle.frame_ast.specs.declared.script.Statement.{Statement}
use Rattle.frame_ast.specs.Orders.{Table}
use Rattle.frame_core.specs.declared.plan.Act.TheVariants.{Fill, Say}
use Rattle.frame_core.specs.declared.plan.Op.{Op}
use Rattle.frame_core.specs.declared.plan.Segment.{Segment}
use Rattle.plan_state.specs.declared.answer.Answer.{Answer}
use Rattle.plan_state.specs.declared.answer.Answer.TheVariants.{Nothing, Refused, Does, Fills, Waits, Reports}
use Rattle.plan_state.specs.declared.state.Draft.{Draft}
use Rattle.plan_state.specs.declared.state.PlanFault.{PlanFault}
use Rattle.plan_state.specs.declared.state.Planner.{Planner}
use Rattle.plan_state.specs.declared.state.World.{World}
use Rattle.plan_state.specs.Steps.{state_after, IsBefore, IsReady, HasStepped, GoesOn, PassesLimit}

-- WHAT A DRAFT TAKES

-- The segment at hand has some operations more, and all else of the draft is as it was.
pub record HasOps (old new : Draft) (more : List Op) : Type 0 where
  pub ops : new.ops.items ≡ old.ops.items ++ more
  pub rest : new ≡ record old { ops = new.ops }

-- it has one more
abbrev pub HasOp : Draft → Draft → Op → Type 0
HasOp old new op = HasOps old new (op ∷ [])

-- The plan has one literal more, and the segment at hand fills words with it.
pub record HasLiteral (old new : Draft) (line name : ℕ) (span : Span) (literal : Vec ℤ Global) : Type 0 where
  pub literals : new.literals.items ≡ old.literals.items ++ literal ∷ []
  pub ops : new.ops.items ≡ old.ops.items ++ record {
    line = line;
    name = name;
    act = Fill span (Some (length old.literals.items));
  } ∷ []
  pub rest : new ≡ record old { literals = new.literals; ops = new.ops }

-- Words are filled: with zeros, or with elements, which are a literal of the plan.
abbrev pub HasFilled : Draft → Draft → ℕ → ℕ → Span → Option (Vec ℤ Global) → Type 0
HasFilled old new line name span None = HasOp old new (record { line = line; name = name; act = Fill span None })
HasFilled old new line name span (Some literal) = HasLiteral old new line name span literal

-- The segment at hand is closed without starting a job, and the next one waits for some jobs.
pub record IsClosed (old new : Draft) (after : List JobId) : Type 0 where
  pub segment : Segment
  pub waits_were : segment.waits.items ≡ old.waits.items
  pub ops_were : segment.ops.items ≡ old.ops.items
  pub starts : segment.starts ≡ None
  pub segments : new.segments.items ≡ old.segments.items ++ segment ∷ []
  pub waits : new.waits.items ≡ after
  pub ops : new.ops.items ≡ []
  pub rest : new ≡ record old { segments = new.segments; waits = new.waits; ops = new.ops }

-- A draft took an answer, at the line of its statement.
abbrev pub HasTaken : Draft → Draft → ℕ → Answer → Type 0
HasTaken old new line Nothing = new ≡ old
HasTaken old new line (Refused name refusal) =
    HasOp old new (record { line = line; name = name; act = Say refusal })
HasTaken old new line (Does name act) = HasOp old new (record { line = line; name = name; act = act })
HasTaken old new line (Fills name span values) = HasFilled old new line name span values
HasTaken old new line (Waits jobs) = IsClosed old new jobs.items
HasTaken old new line (Reports ops) = HasOps old new ops.items

-- WHAT SUCH A STATEMENT NEEDS: some planner with this world stands before it.
abbrev pub IsReadyFor : World → Order → Type 0
IsReadyFor w x = (line : ℕ) × (p : Planner) × IsReady (record p { world = w }) (record { line = line; act = x })

-- WHAT IT ANSWERS: each planner with this world goes on by it, where its draft takes the answer.
abbrev pub Answers : World → World → Order → Answer → Type 0
Answers old new x answer = (line : ℕ) (p : Planner) (draft : Draft)
    → HasTaken p.draft draft line answer
    → GoesOn (record p { world = old }) (record p { world = new; draft = draft }) (record { line = line; act = x })

-- the same at its line, which a container keeps that it makes, where it is of this script and has this table
abbrev pub AnswersIn : Script → Table → World → World → Statement → Answer → Type 0
AnswersIn script table old new x answer = (p : Planner) (draft : Draft)
    → HasTaken p.draft draft x.line answer
    → (b : IsBefore script table (record p { world = old }) x)
    → HasStepped b (record p { world = new; draft = draft })

-- A fault comes where each planner with this world passes a limit by the statement.
abbrev pub ExceedsIn : Script → Table → PlanFault → World → Statement → Type 0
ExceedsIn script table fault w x = (p : Planner) (b : IsBefore script table (record p { world = w }) x)
    → PassesLimit fault (state_after script table b.n x)
