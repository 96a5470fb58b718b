-- An opening keeps what the content keeps: a piece is opened where all its predecessors are ended.
use Rattle.std.proofs.Common.{◌≡◌, ℕ, suc, ◌+◌, ◌<◌, ⊎_elim, Bool, true, cond, not, ◌&&◌, eqb-true, eq-eqb, ltb, List, length, set, ℤ, refl, sym, ap, subst, ◌∙◌, arith, Option, Some, None}
use Rattle.std.specs.Prelude.{slice_index, nat_eq}
use mathlib.Core.Logic.{dite}
use native.Mathlib.Decide.{ℕ_discrete}
use Rattle.job_base.specs.Cells.{cells_of}
use Rattle.merge_laws.specs.Numbers.{tally}
use Rattle.merge_laws.specs.Core.{IsReady}
use Rattle.merge_laws.specs.Merge.{IsConsistent}
use Rattle.merge_laws.specs.Jobs.{IsPredecessor, starts, feeds, comes_before, is_awaited}
use Rattle.merge_laws.proofs.Sums.{tally_none}
use Rattle.std.proofs.lemmas.Bool.{and_parts}
use Rattle.frame_core.specs.declared.piece.Piece.{Piece}
use Rattle.frame_core.specs.declared.piece.Piece.TheVariants.{OfScript, OfJob}
use Rattle.frame_core.specs.declared.plan.Plan.{Plan}
use Rattle.frame_core.specs.Names.{has_job, deps_in, waits_in, job_at, segment_at, job_pieces}
use Rattle.frame_core.specs.Pieces.{segment_place, starter_of, place_of, number_of, piece_numbered, IsPieceOf}
use Rattle.frame_core.specs.Events.{place_numbered}
use Rattle.frame_core.specs.Graphs.{piece_at, is_part_of, graph_of, jobs_of}
use Rattle.frame_core.specs.Know.{piece_count}
use Rattle.frame_core.specs.Laws.{IsNamed, MeetsTheLaws}
use Rattle.frame_core.proofs.Boards.{is_of_job, part_is, segment_is, starter_is, dependency_is, waits_are, jobs_are, segments_are}
use Rattle.frame_core.proofs.Planned.{plans_meet_the_laws, pieces_are_named}
use Rattle.frame_core.proofs.Small.{not_both, either_bool, get_below}
use Rattle.lock_board.specs.declared.state.State.{State}
use Rattle.lock_board.specs.declared.state.State.TheVariants.{Closed, Open, Begun, Ended, Counted}
use Rattle.lock_board.specs.States.{is_over, is_counted, state_of, state_in, state_at}
use Rattle.lock_board.specs.Locked.{leased, core_of, locked, unfinished, starter_number, MayOpenNow, IsKept}
use Rattle.frame_core.proofs.Standing.{stands}
use Rattle.lock_board.proofs.Places.{test_kept, test_kept_at, set_there, uncounted_same, unfinished_same, is_unfinished}
use Rattle.lock_board.proofs.Counting.{all_counted, no_test, and_false}

counted_over : (s : State) → is_counted s ≡ true → is_over s ≡ true
counted_over Counted e = refl
counted_over Closed e = absurd (not_both e refl)
counted_over Open e = absurd (not_both e refl)
counted_over (Begun k) e = absurd (not_both e refl)
counted_over Ended e = absurd (not_both e refl)

part_at : (o : Option Piece) (j : ℕ) → is_part_of o j ≡ true → (i : ℕ) × (o ≡ Some (OfJob j i))
part_at None j t = absurd (not_both t refl)
part_at (Some (OfScript k)) j t = absurd (not_both t refl)
part_at (Some (OfJob d i)) j t = (i, ap (λ k. Some (OfJob k i)) (eqb-true d j t))

one_job : (j i d h : ℕ) → OfJob j i ≡ OfJob d h → j ≡ d
one_job j i d h e = cc

module _ (plan : Plan) (states : List State) (cells : List ℤ) (rests waits dues : List ℕ) (C : IsKept plan (locked states cells rests waits dues)) where
  abbrev named : IsNamed plan
  named = pieces_are_named plan C.well

  abbrev laws : MeetsTheLaws plan
  laws = plans_meet_the_laws plan C.well

  -- where nothing of a job is left to count, its pieces are over
  finished_over : (i r : ℕ) → i < length plan.jobs.items → slice_index rests i ≡ 0 → (jobs_of plan).is_part r i ≡ true → is_over (state_at plan states r) ≡ true
  finished_over i r lt none t =
      let o = part_at (piece_at plan r) i (sym (part_is plan r i) ∙ t) in
      let x : Piece = OfJob i o.0 in
      let there = (named.placed r x o.1).0 in
      let n = named.number x there in
      let num : ℕ = number_of plan x in
      let all = all_counted plan states i (sym (C.rest_is i lt) ∙ none) num (is_of_job plan i o.0 num n.1) in
      ap (λ (y : Option Piece). is_over (state_in states plan y)) o.1 ∙ counted_over (state_of states num) all

  -- a segment that stands at its place
  segment_over : (k : ℕ) → k < length plan.segments.items → is_over (state_of states (job_pieces plan + k)) ≡ true
      → is_over (state_at plan states (segment_place plan.jobs.items plan.segments.items k)) ≡ true
  unfolding place_of
  segment_over k lt e = ap (λ (y : Option Piece). is_over (state_in states plan y)) (named.place (OfScript k) lt) ∙ e

  module _ (p : ℕ) (low : p < piece_count plan) where
    abbrev at : ℕ
    at = place_numbered plan p

    at_segment : (k : ℕ) → piece_numbered plan p ≡ OfScript k → at ≡ (jobs_of plan).segment_at k
    unfolding place_of
    at_segment k e = ap (place_of plan) e ∙ sym (segment_is plan k)

    at_part : (j i : ℕ) → piece_numbered plan p ≡ OfJob j i → (jobs_of plan).is_part at j ≡ true
    at_part j i e = part_is plan at j ∙ (ap (λ o. is_part_of o j) (stands plan named p low ∙ ap Some e) ∙ eq-eqb j j refl)

    -- A PIECE OF A JOB

    part_ready : (j i : ℕ) → j < length plan.jobs.items → piece_numbered plan p ≡ OfJob j i → unfinished plan states rests j ≡ 0
        → IsReady (graph_of plan) (λ q. is_over (state_at plan states q)) at
    part_ready j i lt is none r t = by (laws.of.predecessor r at t)
      where
        mine : (j' : ℕ) → (jobs_of plan).is_part at j' ≡ true → j' ≡ j
        mine j' t' = laws.jobs.one_job at j' j t' (at_part j i is)

        over : is_over (state_of states (starter_number plan j)) ≡ true
        over = ⊎_elim (λ y. y)
            (λ f. let one : unfinished plan states rests j ≡ 1 + tally (is_unfinished plan rests j) (length plan.jobs.items) =
            ap (λ (b : Bool). cond b 0 1 + tally (is_unfinished plan rests j) (length plan.jobs.items)) f in absurd (omega arith))
            (either_bool (is_over (state_of states (starter_number plan j))))

        deps_done : tally (is_unfinished plan rests j) (length plan.jobs.items) ≡ 0
        deps_done = let one : unfinished plan states rests j ≡ 0 + tally (is_unfinished plan rests j) (length plan.jobs.items) =
            ap (λ (b : Bool). cond b 0 1 + tally (is_unfinished plan rests j) (length plan.jobs.items)) over in omega arith

        below : starter_of plan j < length plan.segments.items
        below = Rattle.frame_core.proofs.Orders.starter_below plan C.well.order.starts j lt

        by : IsPredecessor (jobs_of plan) r at → is_over (state_at plan states r) ≡ true
        by (starts j' lj part e) =
            let same = mine j' part in
            let here : r ≡ segment_place plan.jobs.items plan.segments.items (starter_of plan j) =
            e ∙ (ap (jobs_of plan).segment_at (starter_is plan j' ∙ ap (starter_of plan) same) ∙ segment_is plan (starter_of plan j)) in
            ap (λ n. is_over (state_at plan states n)) here ∙ segment_over (starter_of plan j) below over
        by (feeds i' j' li lj part dep lr from) =
            let same = mine j' part in
            let dep' : (ltb i' (length plan.jobs.items) && has_job (deps_in (job_at plan j)) (suc i')) ≡ true = sym (dependency_is plan i' j)
            ∙ subst (λ n. (jobs_of plan).is_dependency i' n ≡ true) same dep in
            let has = (and_parts (ltb i' (length plan.jobs.items)) (has_job (deps_in (job_at plan j)) (suc i')) dep').1 in
            let li' : i' < length plan.jobs.items = subst (λ n. i' < n) (jobs_are plan) li in
            let done = and_false (has_job (deps_in (job_at plan j)) (suc i')) (not (nat_eq (slice_index rests i') 0)) has
            (tally_none (is_unfinished plan rests j) (length plan.jobs.items) deps_done i' li') in
            finished_over i' r li' (eqb-true (slice_index rests i') 0 (no_test (nat_eq (slice_index rests i') 0) done)) from
        by (comes_before k lk here e) = absurd (not_both (subst (λ n. (jobs_of plan).is_part n j ≡ true) here (at_part j i is)) (laws.jobs.no_job (suc k) j lk))
        by (is_awaited i' k li lk here w lr from) = absurd (not_both (subst (λ n. (jobs_of plan).is_part n j ≡ true) here (at_part j i is))
            (laws.jobs.no_job k j lk))

    -- A SEGMENT

    segment_ready : (k : ℕ) → k < length plan.segments.items → piece_numbered plan p ≡ OfScript k
        → ((l : ℕ) → suc l ≡ k → is_over (state_of states (job_pieces plan + l)) ≡ true)
        → ((i : ℕ) → i < length plan.jobs.items → has_job (waits_in (segment_at plan k)) (suc i) ≡ true → slice_index rests i ≡ 0)
        → IsReady (graph_of plan) (λ q. is_over (state_at plan states q)) at
    segment_ready k lt is before waited r t = by (laws.of.predecessor r at t)
      where
        lt' : k < (jobs_of plan).segments
        lt' = subst (λ n. k < n) (sym (segments_are plan)) lt

        mine : (l : ℕ) → l < (jobs_of plan).segments → at ≡ (jobs_of plan).segment_at l → l ≡ k
        mine l ll e = laws.jobs.one_segment l k ll lt' (sym e ∙ at_segment k is)

        by : IsPredecessor (jobs_of plan) r at → is_over (state_at plan states r) ≡ true
        by (starts j' lj part e) = absurd (not_both (subst (λ n. (jobs_of plan).is_part n j' ≡ true) (at_segment k is) part) (laws.jobs.no_job k j' lt'))
        by (feeds i' j' li lj part dep lr from) = absurd (not_both (subst (λ n. (jobs_of plan).is_part n j' ≡ true) (at_segment k is) part)
            (laws.jobs.no_job k j' lt'))
        by (comes_before l ll here e) =
            let next = mine (suc l) ll here in
            ap (λ n. is_over (state_at plan states n)) (e ∙ segment_is plan l) ∙ segment_over l (omega arith) (before l next)
        by (is_awaited i' l li ll here w lr from) =
            let same = mine l ll here in
            let li' : i' < length plan.jobs.items = subst (λ n. i' < n) (jobs_are plan) li in
            let has : has_job (waits_in (segment_at plan k)) (suc i') ≡ true = sym (waits_are plan k i')
            ∙ subst (λ n. (jobs_of plan).waits n i' ≡ true) same w in
            finished_over i' r li' (waited i' li' has) from

    -- THE CONTENT AFTERWARDS

    module _ (size : length states ≡ piece_count plan) (is_closed : state_of states p ≡ Closed) where
      abbrev now : List State
      now = set states p Open

      abbrev there : p < length states
      there = subst (λ n. p < n) (sym size) low

      same_core : core_of plan now (cells_of cells) ≡ core_of plan states (cells_of cells)
      same_core = λ y. record {
        ended = λ q. test_kept_at states p Open there plan is_over (sym (ap is_over is_closed)) q y;
        lease = λ q. test_kept_at states p Open there plan (leased plan q) (sym (ap (leased plan q) is_closed)) q y;
        cells = cells_of cells;
      }

      pub opened_kept : IsReady (graph_of plan) (λ q. is_over (state_at plan states q)) at → IsKept plan (locked now cells rests waits dues)
      opened_kept ready = record {
        well = C.well;
        consistent = subst (IsConsistent (graph_of plan)) (sym same_core) C.consistent;
        ready = λ n lt live q b. test_kept_at states p Open there plan is_over (sym (ap is_over is_closed)) q ∙ dite (ℕ_discrete n p)
            (λ e. ready q (subst (λ m. (graph_of plan).precedes q (place_numbered plan m) ≡ true) e b))
            (λ ne. C.ready n lt (λ z. live (set_there states p Open there n ne ∙ z)) q b);
        rest_is = λ j lt. C.rest_is j lt ∙ sym (uncounted_same plan states now j (test_kept states p Open there is_counted (sym (ap is_counted is_closed))));
        wait_is = λ j lt. C.wait_is j lt
            ∙ ap (λ n. n + slice_index dues j) (sym (unfinished_same plan states now rests j
            (test_kept states p Open there is_over (sym (ap is_over is_closed)) (starter_number plan j))));
        fits = C.fits;
      }

      -- a job that waits for nothing more
      pub part_opened : (j i : ℕ) → j < length plan.jobs.items → piece_numbered plan p ≡ OfJob j i → slice_index waits j ≡ 0
          → IsKept plan (locked now cells rests waits dues)
      part_opened j i lt is none = let e = C.wait_is j lt in opened_kept (part_ready j i lt is (omega arith))

      pub segment_opened : (k : ℕ) → k < length plan.segments.items → piece_numbered plan p ≡ OfScript k
          → ((l : ℕ) → suc l ≡ k → is_over (state_of states (job_pieces plan + l)) ≡ true)
          → ((i : ℕ) → i < length plan.jobs.items → has_job (waits_in (segment_at plan k)) (suc i) ≡ true → slice_index rests i ≡ 0)
          → IsKept plan (locked now cells rests waits dues)
      segment_opened k lt is before waited = opened_kept (segment_ready k lt is before waited)

      opened_by : (x : Piece) → piece_numbered plan p ≡ x → MayOpenNow plan states rests waits x → IsKept plan (locked now cells rests waits dues)
      opened_by (OfJob j i) is may =
          let there = subst (IsPieceOf plan) is (named.numbered p low).0 in
          part_opened j i (get_below plan.jobs.items j there.0 there.1) is may
      opened_by (OfScript k) is may = segment_opened k (subst (IsPieceOf plan) is (named.numbered p low).0) is may.0 (λ i lt has. may.1 i has)

      pub opened_as : MayOpenNow plan states rests waits (piece_numbered plan p) → IsKept plan (locked now cells rests waits dues)
      opened_as may = opened_by (piece_numbered plan p) refl may
