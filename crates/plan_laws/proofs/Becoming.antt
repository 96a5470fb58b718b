-- What a finished draft becomes: a well ordered plan, whose run in script order says and leaves what the script does.
use Rattle.std.proofs.Common.{◌≡◌, ℕ, zero, suc, ◌+◌, ◌-◌, ◌<◌, ◌^◌, ◌⊎◌, inl, inr, ⊎_elim, true, List, [], ◌∷◌, ◌++◌, length, map, Some, refl, sym, ap, subst, ◌∙◌, arith, append-nil}
use Rattle.std.specs.Prelude.{slice_get}
use Rattle.std.specs.List.{All}
use Rattle.frame_ast.specs.declared.kernel.Kernel.{Kernel}
use Rattle.frame_ast.specs.Checked.{IsChecked}
use Rattle.frame_ast.specs.Contents.{Contents}
use Rattle.frame_ast.specs.Laws.{IsKnown}
use Rattle.frame_ast.specs.States.{ScriptState}
use Rattle.kernel_exec.specs.Layout.{Holds, StandFor}
use Rattle.merge_laws.specs.Graph.{cells_before}
use Rattle.frame_core.specs.declared.piece.Piece.TheVariants.{OfScript, OfJob}
use Rattle.frame_core.specs.declared.piece.Piece.{Piece}
use Rattle.frame_core.specs.declared.plan.JobPlan.{JobPlan}
use Rattle.frame_core.specs.declared.plan.Segment.{Segment}
use Rattle.frame_core.specs.declared.plan.Plan.{Plan}
use Rattle.frame_core.specs.Names.{is_job, has_job, number_in, waits_in, starts_in, segment_at, job_at, pieces_of, pieces_before, starts_from, numbers_from}
use Rattle.frame_core.specs.Pieces.{order_from, script_order, starter_of}
use Rattle.frame_core.specs.Graphs.{graph_of, before_piece, piece_at, cells_at, cells_after}
use Rattle.frame_core.specs.Ordered.{OpFits, IsSized, JobFits, AreCodesOf, AreJobsFitting, AreInOrder, OpsStand, WordsStand}
use Rattle.frame_core.specs.Output.{plan_traps}
use Rattle.frame_core.proofs.Small.{some_is, none_some, get_below, get_either, get_behind}
use Rattle.frame_core.proofs.Planned.{cells_fit}
use Rattle.frame_core.proofs.Orders.{StartsAll, starter_below, starter_starts}
use Rattle.plan_laws.specs.Binds.{bind_of_container}
use Rattle.plan_laws.specs.Drafts.{Draft, Output, segment_piece, started_traps, with_ops, with_traps, no_output, output_onto, output_closed, output_of, closed_pieces, cells_of, cells_past}
use Rattle.plan_laws.specs.Ending.{Ends, IsReported}
use Rattle.plan_laws.specs.Finishing.{IsPlanFrom, IsDone, DraftsBecomePlans}
use Rattle.plan_laws.specs.Planned.{Outline, jobs_before, renumbered, AreJobsUpTo, SegmentFits, SegmentsFit, StartedStand, ClosedStand, IsPlanned}
use Rattle.plan_laws.specs.WholePlans.{turned}
use Rattle.plan_laws.proofs.WholePlans.{length-turned}
use Rattle.plan_laws.proofs.Closing.{output_onto-one, closed_stand-one, starts_from-one, segments_fit-one, jobs_started, length-both}
use Rattle.plan_laws.proofs.Statements.Completing.{All-nothing}
use Rattle.plan_laws.proofs.Earlier.{begun_below, segment_fits, some_segment, id_of, earlier}
use Rattle.plan_laws.proofs.Ending.{all_onto, order_more, count, are_from, cells_are, no_place, begins, lines_are_reported}
use Rattle.plan_laws.proofs.Finishing as finished
use Rattle.plan_laws.proofs.Finishing.{finished_plans_are_ordered}
use Rattle.plan_laws.proofs.Walking.{Walked, walk, ops_at, binds_at, StartedStands}

module _ (x : Outline) (s : ScriptState) (d : Draft) (last final : Segment) (known : IsKnown s) (was : IsPlanned x s d) (from : IsPlanFrom x d last final)
    (sized : IsSized x.plan)
    (checked : (n : ℕ) (k : Kernel) → slice_get x.plan.kernels.items n ≡ Some k → IsChecked k)
    (coded : AreCodesOf x.plan.kernels.items x.plan.codes.items) where
  abbrev plan : Plan
  plan = x.plan

  abbrev n : ℕ
  n = length d.jobs

  abbrev segments : List Segment
  segments = d.segments ++ last ∷ []

  small : plan.cells < 2 ^ 32
  small = cells_fit plan sized

  ends : Ends plan segments final
  ends = finished.ends x small s d last final known was from sized.words_are

  jobs_long : length plan.jobs.items ≡ n
  jobs_long = ap length from.jobs

  starts : StartsAll plan
  starts = finished.starts_are x small s d last final known was from sized.words_are ∙ ap (numbers_from 1) (sym jobs_long)

  closed_starts : starts_from segments ≡ numbers_from 1 n
  closed_starts = starts_from-one d.segments last ∙ ap (λ o. starts_from d.segments ++ number_in o) from.starts ∙ append-nil (starts_from d.segments)
      ∙ was.fitting.starts

  -- ---- what its numbers name

  last_fits : SegmentFits plan n last
  last_fits = record { waits = subst (AreJobsUpTo n) (sym from.waits) was.fitting.waits; ops = subst (All (OpFits plan)) (sym from.ops) was.fitting.ops }

  final_fits : SegmentFits plan n final
  final_fits = record { waits = from.final_known; ops = subst (All (OpFits plan)) (sym from.final_ops) (All-nothing (OpFits plan)) }

  fits : SegmentsFit plan 0 plan.segments.items
  fits = subst (SegmentsFit plan 0) (sym ends.segments_are)
      (segments_fit-one plan 0 segments final
      (segments_fit-one plan 0 d.segments last was.fitting.closed (subst (λ k. SegmentFits plan k last)
      (sym (jobs_started d.segments n was.fitting.starts)) last_fits))
      (subst (λ k. SegmentFits plan k final) (sym (jobs_started segments n closed_starts)) final_fits))

  on_draft : (j : ℕ) (y : JobPlan) → job_at plan j ≡ Some y → slice_get d.jobs j ≡ Some y
  on_draft j y h = ap (λ js. slice_get js j) (sym from.jobs) ∙ h

  deps : (j : ℕ) (y : JobPlan) → job_at plan j ≡ Some y → AreJobsUpTo j y.deps.items
  deps j y h = was.fitting.deps j y (on_draft j y h)

  jobs_fit : AreJobsFitting plan
  jobs_fit = record {
    checked = checked;
    coded = coded;
    has_kernel = λ j y h. let r = was.fitting.jobs_fit j y (on_draft j y h) in get_below plan.kernels.items y.kernel r.0 r.1;
    fits = λ j y k h hk. let r = was.fitting.jobs_fit j y (on_draft j y h) in subst (JobFits plan y) (some_is (sym r.1 ∙ hk)) r.2;
  }

  order : AreInOrder plan
  order = record {
    last = length segments;
    last_is = sym (count plan segments final ends);
    starts = starts;
    waits = λ k it h.
        let f = (segment_fits plan 0 plan.segments.items k it fits h).waits in (
          f.0,
          λ i id lt. let le = f.1 i id lt in let b = begun_below plan.segments.items k in
              let l = jobs_started plan.segments.items (length plan.jobs.items) starts in omega arith,
        );
    last_waits = λ j lt.
        let l = jobs_long in
        ap (λ o. has_job (waits_in o) (suc j)) (finished.final_at x small s d last final known was from sized.words_are)
        ∙ from.final_waits (suc j) (omega arith) (omega arith);
    firsts = λ j y h. was.fitting.firsts j y (on_draft j y h) ∙ ap (λ js. pieces_before js j) (sym from.jobs);
    earlier = earlier plan starts fits deps;
  }

  -- ---- the run

  closed_stand : ClosedStand plan [] segments
  closed_stand = closed_stand-one plan [] d.segments last was.standing.closed
      (subst (λ ops. OpsStand plan ops (cells_past plan (closed_pieces plan d))) (sym from.ops) was.standing.ops)
      (subst (StartedStand plan (segment_piece plan last.waits.items last.ops.items ∷ closed_pieces plan d)) (sym from.starts) tt)

  walked : Walked plan segments final ends starts 0 segments (output_onto plan [] no_output segments).traps (0 + n)
  walked = walk plan segments final ends starts segments 0 [] no_output 0 n (are_from plan segments final ends) (begins plan segments final ends)
      (sym (no_place plan segments final ends plan.segments.items)) closed_starts closed_stand refl

  -- a segment is one of those of the draft, or the final one
  segment_is : (k : ℕ) (it : Segment) → segment_at plan k ≡ Some it → (slice_get segments k ≡ Some it) ⊎ (final ≡ it)
  segment_is k it h = ⊎_elim (λ l. inl l.1) (λ r. inr (one r.0 r.2)) (get_either segments (final ∷ []) k it
      (ap (λ ss. slice_get ss k) (sym ends.segments_are) ∙ h))
    where
      one : (i : ℕ) → slice_get (final ∷ []) i ≡ Some it → final ≡ it
      one zero e = some_is e
      one (suc i) e = absurd (none_some e)

  ops_stand : (k : ℕ) (it : Segment) → segment_at plan k ≡ Some it → OpsStand plan it.ops.items (before_piece plan (OfScript k))
  ops_stand k it h = ⊎_elim
      (λ e. let z : 0 + k ≡ k = omega arith in subst (λ k. OpsStand plan it.ops.items (before_piece plan (OfScript k))) z
      (ops_at plan segments final ends starts segments 0 k it walked.all_stand e))
      (λ e. subst (λ (it : Segment). OpsStand plan it.ops.items (before_piece plan (OfScript k))) e
      (subst (λ ops. OpsStand plan ops (before_piece plan (OfScript k))) (sym from.final_ops) tt))
      (segment_is k it h)

  abbrev JobStands : ℕ → Type 0
  JobStands a = (y : JobPlan) → job_at plan a ≡ Some y → (i : ℕ) → i < pieces_of y
      → (contents : List Contents) × StandFor y.binds.items (before_piece plan (OfJob a i)) contents

  job_stands : (j : ℕ) → j < length plan.jobs.items → JobStands j
  job_stands j lt =
      let k = starter_of plan j in
      let it = some_segment plan.segments.items k (starter_below plan starts j lt) in
      let is : is_job it.0.starts (suc j) ≡ true = ap (λ o. is_job (starts_in o) (suc j)) (sym it.1) ∙ starter_starts plan starts j lt in
      let o = id_of it.0.starts (suc j) is in
      let same = o.2 in
      let down : o.0.0 - 1 ≡ j = omega arith in
      ⊎_elim
      (λ e. subst JobStands down (subst (StartedStands plan segments final ends starts) o.1
      (binds_at plan segments final ends starts segments 0 k it.0 walked.all_stand e)))
      (λ e. absurd (none_some (sym from.final_starts ∙ (ap (λ (it : Segment). it.starts) e ∙ o.1))))
      (segment_is k it.0 it.1)

  stand : WordsStand plan
  stand = record { ops = ops_stand; binds = λ j i y h lt. job_stands j (get_below plan.jobs.items j y h) y h i lt }

  -- ---- what it tells

  told_same : output_onto plan [] no_output segments ≡ with_traps [] (output_of plan d)
  told_same = output_onto-one plan [] no_output d.segments last
      ∙ (λ i. with_traps (started_traps plan (segment_piece plan (from.waits i) (from.ops i) ∷ closed_pieces plan d) (from.starts i))
      (with_ops plan (from.ops i) (cells_past plan (closed_pieces plan d)) (output_closed plan d)))

  told : IsReported plan segments
  told = lines_are_reported plan segments final ends

  traps_are : (output_of plan d).traps ≡ plan_traps plan
  unfolding plan_traps
  traps_are =
      let z : 0 + n ≡ length plan.jobs.items = (let l = jobs_long in omega arith) in
      sym (append-nil (output_of plan d).traps) ∙ sym (ap (λ (t : Output). t.traps) told_same) ∙ walked.all_traps
      ∙ ap (Rattle.frame_core.specs.Output.jobs_traps plan) z

  -- ---- the cells after it

  cells_same : cells_of plan d ≡ cells_after plan
  unfolding cells_after script_order graph_of
  cells_same =
      let before : List Piece = turned [] (order_from plan.jobs.items 0 segments) in
      let m : ℕ = length (order_from plan.jobs.items 0 segments) in
      let long : length before ≡ m = (let l = length-turned (order_from plan.jobs.items 0 segments) [] in omega arith) in
      ap (cells_past plan) (sym (finished.pieces_are x small s d last final known was from sized.words_are)
      ∙ sym (all_onto plan segments 0 [] (are_from plan segments final ends)))
      ∙ cells_are plan segments final ends before (begins plan segments final ends)
      ∙ ap (cells_before (graph_of plan)) long
      ∙ sym (one_more m refl)
    where
      one_more : (m : ℕ) → m ≡ length (order_from plan.jobs.items 0 segments)
          → cells_before (graph_of plan) (length (script_order plan)) ≡ cells_before (graph_of plan) m
      one_more m e =
          let z : 0 + length segments ≡ length segments = omega arith in
          let orders : order_from plan.jobs.items 0 plan.segments.items ≡ order_from plan.jobs.items 0 segments ++ OfScript (length segments) ∷ [] =
          ap (order_from plan.jobs.items 0) ends.segments_are ∙ order_more plan.jobs.items 0 segments final ends.starts
          ∙ ap (λ k. order_from plan.jobs.items 0 segments ++ OfScript k ∷ []) z in
          let l = length-both (order_from plan.jobs.items 0 segments) (OfScript (length segments) ∷ []) in
          let long : length (order_from plan.jobs.items 0 plan.segments.items) ≡ suc m = (let o = ap length orders in omega arith) in
          let at : piece_at plan m ≡ Some (OfScript (length segments)) =
          ap (λ ps. slice_get ps m) orders ∙ (let y : m ≡ length (order_from plan.jobs.items 0 segments) + 0 = omega arith in
          ap (slice_get (order_from plan.jobs.items 0 segments ++ OfScript (length segments) ∷ [])) y)
          ∙ get_behind (order_from plan.jobs.items 0 segments) (OfScript (length segments) ∷ []) 0 in
          ap (cells_before (graph_of plan)) long
          ∙ ap (λ o. cells_at plan o (cells_before (graph_of plan) m)) at
          ∙ finished.effect_is x small s d last final known was from sized.words_are (cells_before (graph_of plan) m)

  done : IsDone x s
  done = record {
    well_ordered = record {
      sized = sized;
      jobs = jobs_fit;
      ops = λ k it h. (segment_fits plan 0 plan.segments.items k it fits h).ops;
      order = order;
      conflicts = finished_plans_are_ordered x s d last final small known was from sized.words_are;
      stand = stand;
    };
    lines = was.output.lines ∙ ap (λ l. x.begun.lines ++ l) (sym (told.lines ∙ ap (λ (t : Output). t.lines) told_same));
    refused = was.output.refused ∙ ap (λ k. x.begun.refused + k) (sym (told.refused ∙ ap (λ (t : Output). t.refused) told_same));
    traps = was.output.traps ∙ ap (λ ts. x.begun.traps ++ map (renumbered (jobs_before x)) ts) traps_are;
    contents = λ c below alive. subst (λ cells. Holds cells (bind_of_container x.starts s c) (s.contents c)) cells_same (was.standing.contents c below alive);
  }

pub drafts_become_plans : DraftsBecomePlans
drafts_become_plans x s d last final known was from sized checked = done x s d last final known was from sized checked
