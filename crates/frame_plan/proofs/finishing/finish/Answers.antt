use Rattle.std.proofs.Common.{◌≡◌, ◌+◌, ◌≤◌, ◌++◌, ◌∷◌, [], length, None, true, refl, sym, ap, subst, ◌∙◌, arith}
use Rattle.std.proofs.lemmas.List.{append_assoc}
use Rattle.frame_core.specs.declared.plan.Segment.{Segment}
use Rattle.frame_core.specs.Names.{has_job}
use Rattle.plan_laws.specs.Planned.{AreJobsUpTo}
use Rattle.slot_store.specs.Stores.{peak_of}
use Rattle.plan_state.specs.declared.state.Draft.{Draft}
use Rattle.plan_state.specs.Growth.{first_jobs, unless_none, waits_by}
use Rattle.frame_plan.specs.Runs.{AreWithin}
use Rattle.plan_state.specs.Steps.{state_at}
use Rattle.plan_statements.proofs.CompletedJobs.{has_set, rising_up_to}
use Rattle.plan_state.proofs.Quiet.{given_finished, waits_finished}
use Rattle.frame_plan.proofs.Wholes.{jobs_few, pieces_small, cells_small, is_done, live_low}
use Rattle.frame_plan.proofs.finishing.finish.Goals as goal

pub overflow_cast-len : goal.overflow_cast-len
overflow_cast-len c =
    let r = c.requires in
    let few = jobs_few r.1 in
    let len = c.args.planner.now.draft.jobs.ok.0 in
    let e = c.len.ensures in
    omega arith

pub overflow_add-result : goal.overflow_add-result
overflow_add-result c =
    let r = c.requires in
    let few = pieces_small r.1 in
    let less : peak_of c.args.planner.now.world.store ≤ 8388608 = cells_small r.1 in
    let is : c.replace-kernels.result.pieces ≡ c.args.planner.now.draft.pieces = ap (λ (w : Draft). w.pieces) c.replace-kernels.ensures.value in
    let cells : c.peak-cells.result ≡ peak_of c.args.planner.now.world.store = c.peak-cells.ensures in
    omega arith

pub returns-clause-plan : goal.returns-clause-plan
returns-clause-plan c script names =
    let p = c.args.planner.now in
    let v : c.replace-kernels.result ≡ p.draft = c.replace-kernels.ensures.value in
    let last : Segment = record { waits = c.replace-kernels.result.waits; ops = c.replace-kernels.result.ops; starts = None } in
    let final : Segment = record { waits = c.in_ok-all.all; ops = c.new.result; starts = None } in
    let count : c.len.result ≡ length p.draft.jobs.items = (let len = p.draft.jobs.ok.0 in let e = c.len.ensures in omega arith) in
    let all : c.in_ok-all.all.items ≡ first_jobs (length p.draft.jobs.items) = c.in_ok-all.ensures ∙ ap first_jobs count in
    let segments = c.in_ok-push-2.ensures.items ∙ ap (λ l. l ++ final ∷ [])
    (c.in_ok-push.ensures.items ∙ ap (λ (w : Draft). w.segments.items ++ last ∷ []) v) in
    record {
      cells = c.peak-cells.ensures;
      first = ap (λ (w : Draft). w.first.items) v;
      kernels = ap (λ (w : Draft). w.kernels.items) v;
      codes = ap (λ (w : Draft). w.codes.items) v;
      jobs = ap (λ (w : Draft). w.jobs.items) v;
      spans = given_finished p.draft.segments.items _ last final p.draft.ops.items segments (ap (λ (w : Draft). w.ops.items) v) c.new.ensures.items;
      waits = waits_finished p.draft.segments.items _ last final p.draft.waits.items segments (ap (λ (w : Draft). w.waits.items) v)
          ∙ ap (λ ids. waits_by p ++ unless_none ids) all;
      segments_later = last ∷ final ∷ [];
      segments = segments ∙ append_assoc p.draft.segments.items (last ∷ []) (final ∷ []);
      done = λ at. is_done at _ last final names
          (ap (λ (w : Draft). w.kernels.items) v) (ap (λ (w : Draft). w.codes.items) v) (ap (λ (w : Draft). w.literals.items) v)
          (ap (λ (w : Draft). w.jobs.items) v) c.peak-cells.ensures (ap (λ (w : Draft). w.first.items) v)
          (ap (λ (w : Draft). c.peak-cells.result + w.pieces) v)
          segments
          (ap (λ (w : Draft). w.waits.items) v)
          (ap (λ (w : Draft). w.ops.items) v)
          refl
          (subst (AreJobsUpTo (length p.draft.jobs.items)) (sym all) (rising_up_to (λ j. true) (length p.draft.jobs.items)))
          (λ j pos le. ap (λ ids. has_job ids j) all ∙ has_set (λ j. true) (length p.draft.jobs.items) j pos le)
          c.new.ensures.items
          refl;
      within = λ at. subst (λ k. AreWithin k at.found (state_at script at.table at.n)) (sym c.peak-cells.ensures) (live_low at);
    }
