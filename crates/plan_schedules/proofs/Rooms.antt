-- How many jobs and pieces a planner has, and room for.
use Rattle.std.proofs.Common.{◌≡◌, ℕ, suc, ◌+◌, ◌*◌, ◌<◌, ◌≤◌, ◌≢◌, ⊎_elim, Bool, true, false, cond, List, [], ◌∷◌, length, Some, refl, sym, ap, subst, arith, ne_eqb}
use Rattle.std.specs.Prelude.{slice_get, vec_len, nat_eq}
use Rattle.std.specs.Int.{div_ceil}
use Rattle.std.proofs.lemmas.Bool.{cases_eq, cond-false}
use Rattle.std.proofs.lemmas.Grind.{div_ceil_times}
use Rattle.job_base.specs.declared.limits.TheConstants.{MOST_PIECES}
use Rattle.batch_cut.specs.Cuts.{count_of as pieces_in}
use Rattle.frame_ast.specs.declared.script.Script.{Script}
use Rattle.frame_ast.specs.declared.script.Statement.{Statement}
use Rattle.frame_ast.specs.Orders.{Table}
use Rattle.frame_ast.specs.States.{ScriptState}
use Rattle.job_handle.specs.Books.{count_of}
use Rattle.frame_core.specs.declared.plan.JobPlan.{JobPlan}
use Rattle.frame_core.specs.Names.{pieces_of, pieces_before}
use Rattle.plan_laws.specs.Planned.{IsPlanned}
use Rattle.plan_state.specs.declared.state.Planner.{Planner}
use Rattle.plan_state.specs.Stands.{draft_of}
use Rattle.plan_state.specs.Steps.{state_at, IsBefore}
use Rattle.plan_state.proofs.Outlining.{outline, agrees, jobs_are}

few_parts : (n step : ℕ) → 1 ≤ step → n ≤ MOST_PIECES * step → pieces_in n step ≤ MOST_PIECES
few_parts n step pos le = ⊎_elim
    (λ z. let one : pieces_in n step ≡ 1 = ap (λ k. pieces_in k step) z in omega arith)
    (λ ne. subst (λ k. k ≤ MOST_PIECES) (sym (cond-false (nat_eq n 0) 1 (div_ceil n step) (ne_eqb n 0 ne)))
    (under (div_ceil n step) (div_ceil_times n step pos).1))
    (cases_eq n 0)
  where
    under : (k : ℕ) → k * step < n + step → k ≤ MOST_PIECES
    under k lt = grind arith

job_few : (parallel : Bool) (n step : ℕ) → 1 ≤ step → n ≤ MOST_PIECES * step → cond parallel (pieces_in n step) 1 ≤ MOST_PIECES
job_few true n step pos le = few_parts n step pos le
job_few false n step pos le = omega arith

all_few : (jobs : List JobPlan) → ((j : ℕ) (job : JobPlan) → slice_get jobs j ≡ Some job → pieces_of job ≤ MOST_PIECES)
    → pieces_before jobs (length jobs) ≤ MOST_PIECES * length jobs
all_few [] each = omega arith
all_few (x ∷ more) each =
    let here = each 0 x refl in
    let rest = all_few more (λ j job at. each (suc j) job at) in
    omega arith

module _ {script : Script} {table : Table} {p : Planner} {x : Statement} (b : IsBefore script table p x) where
  open b use {begun, n, found, stands as st}

  abbrev s : ScriptState
  s = state_at script table n

  planned : IsPlanned (outline p script table begun n s found st) s (draft_of p)
  planned = st.planned (outline p script table begun n s found st) (agrees p script table begun n s found st)

  counted : count_of p.world.jobs ≡ p.world.jobs_before + length p.draft.jobs.items
  counted = let c = jobs_are p script table begun n s found st in let e = st.knows.jobs.count in let b = st.numbers.before in omega arith

  pub few_pieces : p.draft.pieces ≤ 64 * 4096
  few_pieces =
      let each = all_few p.draft.jobs.items (λ j job at. let f = planned.fitting.jobs_fit j job at in
      job_few job.parallel job.cut.n job.cut.step f.2.cut.step.0 f.2.cut.pieces) in
      let e = st.numbers.pieces in let c = counted in let room = p.world.jobs.few in omega arith

  pub jobs_after : p.world.jobs_before ≤ count_of p.world.jobs
  jobs_after = let c = counted in omega arith

  pub job_room : count_of p.world.jobs ≢ 4096 → vec_len p.draft.jobs < 4096
  job_room ne = let c = counted in let room = p.world.jobs.few in let len = p.draft.jobs.ok.0 in omega arith
