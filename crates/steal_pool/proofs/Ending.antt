-- A run by turns that is over.
use Rattle.std.proofs.Common.{◌≡◌, ℕ, false, List, Option, Some, length, refl, sym, subst}
use Rattle.std.specs.Prelude.{◌↔◌, IsTrue}
use Rattle.frame_core.specs.declared.plan.Plan.{Plan}
use Rattle.frame_core.specs.Know.{Know}
use Rattle.frame_core.specs.Output.{plan_lines}
use Rattle.plan_run.specs.Runs.{IsReport, RunsBetween, is_fault, report_of}
use Rattle.plan_run.specs.Says.{SaysTo, said_to}
use Rattle.plan_run.proofs.Running.{all_lines}
use Rattle.steal_pool.specs.declared.place.Place.{Place}
use Rattle.steal_pool.specs.declared.standing.Standing.{Standing}
use Rattle.steal_pool.specs.declared.turns.ScriptTurn.{ScriptTurn}
use Rattle.steal_pool.specs.declared.turns.ScriptTurn.TheVariants.{Again, Over}
use Rattle.steal_pool.specs.Seats.{IsFirst}
use Rattle.steal_pool.specs.Turns.{HasSaid, IfOver, StandsAt, is_over}
use Rattle.steal_pool.proofs.Standings.{stands_last}

module _ {S : Type 0} (taken : S → Option (List ℕ)) (faults : S → ℕ) (plan : Plan) where
  -- it ended as a run does, whatever was known of its beginning
  pub over_run : (begins : S → List ℕ → Type 0) (turn : ScriptTurn) (sink : S) (waits : List ℕ) (at : Standing)
      → (IsTrue (is_over turn) ↔ at.segment ≡ length plan.segments.items) → IfOver turn (λ end. is_fault end ≡ at.failed)
      → IfOver turn (λ end. IsReport plan (report_of end))
      → ((first : S) (waited : List ℕ) → begins first waited → HasSaid taken faults plan first waited sink waits at)
      → IfOver turn (λ end. (first : S) (waited : List ℕ) → begins first waited → RunsBetween taken faults plan (plan_lines plan) first waited sink waits end)
  over_run begins Again sink waits at over fault report said = tt
  over_run begins (Over end) sink waits at over fault report said = λ first waited old. (
    subst (λ b. SaysTo taken faults first waited false sink waits b (plan_lines plan)) (sym fault)
        (all_lines plan (said_to taken faults first waited false) (said_to taken faults sink waits at.failed) at.segment (over.0 refl) (said first waited old)),
    report,
  )

-- the first place of a run that is over
pub over_first : {S : Type 0} (home : S → List ℕ) (know : S → Know) (name : List ℕ) (plan : Plan) (turn : ScriptTurn)
    (at : Standing) (place : Place S) → (IsTrue (is_over turn) ↔ at.segment ≡ length plan.segments.items) → (held : S) → place.seat ≡ Some held
    → home held ≡ name → StandsAt plan at (know held) → IfOver turn (λ _. IsFirst home know name (length plan.segments.items) place)
over_first home know name plan Again at place over held is at_home stands = tt
over_first home know name plan (Over end) at place over held is at_home stands =
    record { held = held; is = is; at_home = at_home; after = stands_last plan at (know held) stands (over.0 refl) }
