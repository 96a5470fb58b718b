use Rattle.std.proofs.Common.{◌≡◌, suc, ◌+◌, ◌<◌, length, sym, ap, subst, ◌∙◌, arith}
use Rattle.std.specs.Prelude.{slice_get}
use Rattle.frame_core.specs.declared.plan.Plan.{Plan}
use Rattle.frame_core.specs.Know.{piece_count}
use Rattle.frame_core.specs.Names.{job_pieces}
use Rattle.frame_core.proofs.Extents.Within.{reads_stay_within}
use Rattle.lock_board.specs.Layouts.{AreEnds, AreFollowers, AreJobNumbers, AreStarts, AreSpans, AreWaits, AreWithin, NameJobs, ReadsWithin, StartJobs}
use Rattle.lock_board.specs.Rooms.{HasRoom}
use Rattle.lock_board.proofs.Spans.{room_there}
use Rattle.lock_board.proofs.layout.Layout.of_plan.Goals as goal

pub invariant_of-result : goal.invariant_of-result
invariant_of-result g c =
    let e = c.requires.plan in
    let up : suc (length c.args.plan.now.jobs.items) ≡ length c.args.plan.now.jobs.items + 1 = omega arith in
    record {
      words_are = ap (λ (p : Plan). p.words) e;
      parts_are = c.job_pieces-parts.ensures ∙ ap job_pieces e;
      end_count = c.in_ok-ends.ensures.size ∙ (up ∙ ap (λ (p : Plan). length p.jobs.items + 1) e);
      ends_are = subst (λ p. AreEnds p c.in_ok-ends.ends.items) e c.in_ok-ends.ensures.ends;
      job_count = c.in_ok-jobs.ensures.size ∙ ap job_pieces e;
      jobs_are = subst (λ p. AreJobNumbers p c.in_ok-jobs.jobs.items) e c.in_ok-jobs.ensures.jobs;
      span_count = c.in_ok-spans.ensures.size ∙ ap piece_count e;
      spans_are = subst (λ p. AreSpans p c.in_ok-spans.spans.items) e c.in_ok-spans.ensures.spans;
      within = subst (λ p. AreWithin p c.in_ok-spans.spans.items) e c.in_ok-spans.ensures.within;
      room_is = subst (λ q. HasRoom q c.in-Some.room) e (λ p low.
          room_there c.args.plan.now c.in_ok-spans.spans.items c.in-Some.room c.in_ok-spans.ensures.spans
          (λ q v at. c.in-Some.ensures q v (ap (λ l. slice_get l q) c.deref-2.ensures.value ∙ at)) p
          (subst (λ n. p < n) (sym c.in_ok-spans.ensures.size) low));
      follower_count = c.in_ok-followers.ensures.size ∙ ap (λ (p : Plan). length p.jobs.items) e;
      followers_are = subst (λ p. AreFollowers p c.in_ok-followers.followers.items) e c.in_ok-followers.ensures.followers;
      wait_count = c.in_ok-waits.ensures.size ∙ ap (λ (p : Plan). length p.segments.items) e;
      waits_are = subst (λ p. AreWaits p c.in_ok-waits.waits.items) e c.in_ok-waits.ensures.waits;
      waits_name = subst (λ p. NameJobs p c.in_ok-waits.waits.items) e c.in_ok-waits.ensures.jobs;
      start_count = c.in_ok-starts.ensures.size ∙ ap (λ (p : Plan). length p.segments.items) e;
      starts_are = subst (λ p. AreStarts p c.in_ok-starts.starts.items) e c.in_ok-starts.ensures.starts;
      reads_within = subst ReadsWithin e (reads_stay_within c.args.plan.now c.requires.well);
      starts_name = subst (λ p. StartJobs p c.in_ok-starts.starts.items) e c.in_ok-starts.ensures.jobs;
    }
