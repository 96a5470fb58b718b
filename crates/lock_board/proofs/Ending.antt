-- An end keeps what the content keeps.
use Rattle.std.proofs.Common.{◌≡◌, ◌≢◌, ℕ, suc, ◌+◌, ◌-◌, ◌<◌, ◌≤◌, ◌^◌, ⊎_elim, Bool, true, false, cond, List, length, set, ℤ, refl, sym, ap, subst, ◌∙◌, arith}
use Rattle.std.specs.Prelude.{slice_index}
use mathlib.Core.Logic.{dite}
use native.Mathlib.Decide.{ℕ_discrete}
use Rattle.job_base.specs.Cells.{cells_of}
use Rattle.merge_laws.specs.Numbers.{tally}
use Rattle.merge_laws.specs.Graph.{cells_before}
use Rattle.merge_laws.specs.Core.{Core}
use Rattle.merge_laws.specs.Steps.{Ends}
use Rattle.merge_laws.proofs.Merging.{ends_keep_the_merge}
use Rattle.frame_core.specs.declared.plan.Plan.{Plan}
use Rattle.frame_core.specs.Names.{is_job, starts_in, segment_at, job_pieces}
use Rattle.frame_core.specs.Pieces.{starter_of, piece_numbered}
use Rattle.frame_core.specs.Effects.{piece_cells}
use Rattle.frame_core.specs.Events.{place_numbered}
use Rattle.frame_core.specs.Graphs.{graph_of, before_number}
use Rattle.frame_core.specs.Know.{due_once, piece_count, writes}
use Rattle.frame_core.specs.Laws.{IsNamed}
use Rattle.frame_core.proofs.Small.{not_both, either_bool}
use Rattle.frame_core.proofs.Orders.{starter_starts, starter_alone}
use Rattle.frame_core.proofs.Planned.{plans_meet_the_laws, pieces_are_named}
use Rattle.lock_board.specs.declared.state.State.{State}
use Rattle.lock_board.specs.declared.state.State.TheVariants.{Closed, Begun, Ended}
use Rattle.lock_board.specs.States.{is_over, is_counted, state_of, state_at}
use Rattle.lock_board.specs.Started.{started_in, started_by}
use Rattle.frame_core.proofs.Numbered.{of_job, segment_numbered}
use Rattle.std.proofs.lemmas.Bool.{cases_lt}
use Rattle.lock_board.specs.Locked.{leased, core_of, locked, unfinished, starter_number, IsKept}
use Rattle.frame_core.proofs.Standing.{writes_there, after_there}
use Rattle.lock_board.proofs.Places.{state_there, test_kept, at_here, at_there, set_here, set_there, uncounted_same, unfinished_same, is_unfinished}

begun_closed : (k : ℕ) → Begun k ≡ Closed → ⊥
begun_closed k e = cc

module _ (plan : Plan) (states : List State) (cells : List ℤ) (rests waits dues : List ℕ) (p seat : ℕ) (low : p < piece_count plan)
    (size : length states ≡ piece_count plan) (is_begun : state_of states p ≡ Begun seat) (C : IsKept plan (locked states cells rests waits dues)) where
  abbrev named : IsNamed plan
  named = pieces_are_named plan C.well

  abbrev at : ℕ
  at = place_numbered plan p

  abbrev c : Core
  c = core_of plan states (cells_of cells)

  abbrev now : List State
  now = set states p Ended

  abbrev there : p < length states
  there = subst (λ n. p < n) (sym size) low

  more_over : (q : ℕ) → is_over (state_at plan states q) ≡ true → is_over (state_at plan now q) ≡ true
  more_over q e = dite (ℕ_discrete q at)
      (λ i. ap (λ n. is_over (state_at plan now n)) i ∙ ap is_over (at_here states p Ended there plan named low))
      (λ ne. ap is_over (at_there states p Ended there plan named low q ne) ∙ e)

  module _ (cells' : List ℤ) (written : (w : ℕ) → writes plan p w ≡ true → cells_of cells' w ≡ piece_cells plan (piece_numbered plan p)
      (before_number plan p) w)
      (others : (w : ℕ) → writes plan p w ≡ false → cells_of cells' w ≡ cells_of cells w) where
    abbrev d : Core
    d = core_of plan now (cells_of cells')

    ends : Ends (graph_of plan) c d at
    ends = record {
      was = record { piece = at; local = cells_before (graph_of plan) at };
      lease = ap (leased plan at) (state_there plan named p low states ∙ is_begun);
      local = cells_of cells';
      local_is = λ w t. written w (sym (writes_there plan named p low w) ∙ t) ∙ sym (after_there plan named p low w);
      leases = record {
        here = ap (leased plan at) (at_here states p Ended there plan named low);
        there = λ q ne. ap (leased plan q) (at_there states p Ended there plan named low q ne);
      };
      ended_here = ap is_over (at_here states p Ended there plan named low);
      ended_there = λ q ne. ap is_over (at_there states p Ended there plan named low q ne);
      written = λ w t. refl;
      others = λ w t. others w (sym (writes_there plan named p low w) ∙ t);
    }

    pub ended_kept : (dues' : List ℕ) → ((j : ℕ) → j < length plan.jobs.items
        → unfinished plan states rests j + slice_index dues j ≡ unfinished plan now rests j + slice_index dues' j)
        → IsKept plan (locked now cells' rests waits dues')
    ended_kept dues' due = record {
      well = C.well;
      consistent = (ends_keep_the_merge (graph_of plan) c d (plans_meet_the_laws plan C.well).ordered C.consistent at ends).0;
      ready = λ n lt live r b. more_over r (C.ready n lt (λ z. live (still n z)) r b);
      rest_is = λ j lt. C.rest_is j lt ∙ sym (uncounted_same plan states now j (test_kept states p Ended there is_counted (sym (ap is_counted is_begun))));
      wait_is = λ j lt. C.wait_is j lt ∙ due j lt;
      fits = C.fits;
    }
      where
        still : (n : ℕ) → state_of states n ≡ Closed → state_of now n ≡ Closed
        still n z = set_there states p Ended there n (λ e. begun_closed seat (sym is_begun ∙ (ap (state_of states) (sym e) ∙ z))) ∙ z

  -- what isn't this piece stays
  other_stays : (j : ℕ) → starter_number plan j ≢ p → unfinished plan now rests j ≡ unfinished plan states rests j
  other_stays j ne = unfinished_same plan states now rests j (ap is_over (set_there states p Ended there (starter_number plan j) ne))

  -- a piece of a job starts none
  pub part_dues : p < job_pieces plan → (j : ℕ) → j < length plan.jobs.items
      → unfinished plan states rests j + slice_index dues j ≡ unfinished plan now rests j + slice_index dues j
  part_dues part j lt = ap (λ n. n + slice_index dues j) (sym (other_stays j (λ e. omega arith)))

  -- a segment starts a job, whose release is due
  pub segment_dues : (k : ℕ) → p ≡ job_pieces plan + k → (dues' : List ℕ)
      → ((j : ℕ) → j < length plan.jobs.items → slice_index dues' j ≡ slice_index dues j + due_once (starts_in (segment_at plan k)) (suc j))
      → (j : ℕ) → j < length plan.jobs.items → unfinished plan states rests j + slice_index dues j ≡ unfinished plan now rests j + slice_index dues' j
  segment_dues k is dues' more j lt = ⊎_elim
      (λ t. let same : k ≡ starter_of plan j = starter_alone plan C.well.order.starts j k t in
      let here : starter_number plan j ≡ p = omega arith in
      let one : due_once (starts_in (segment_at plan k)) (suc j) ≡ 1 = ap (λ (b : Bool). cond b 1 0) t in
      let m = more j lt in
      let was : unfinished plan states rests j ≡ 1 + tally (is_unfinished plan rests j) (length plan.jobs.items) =
      ap (λ (b : Bool). cond b 0 1 + tally (is_unfinished plan rests j) (length plan.jobs.items))
      (ap (λ n. is_over (state_of states n)) here ∙ ap is_over is_begun) in
      let is_now : unfinished plan now rests j ≡ 0 + tally (is_unfinished plan rests j) (length plan.jobs.items) =
      ap (λ (b : Bool). cond b 0 1 + tally (is_unfinished plan rests j) (length plan.jobs.items))
      (ap (λ n. is_over (state_of now n)) here ∙ ap is_over (set_here states p Ended there)) in
      by_numbers (unfinished plan states rests j) (unfinished plan now rests j) (tally (is_unfinished plan rests j) (length plan.jobs.items))
      (slice_index dues j) (slice_index dues' j) was is_now (m ∙ ap (λ n. slice_index dues j + n) one))
      (λ f. let ne : starter_number plan j ≢ p = λ e. let same : k ≡ starter_of plan j = omega arith in
      not_both (subst (λ n. is_job (starts_in (segment_at plan n)) (suc j) ≡ true) (sym same) (starter_starts plan C.well.order.starts j lt)) f in
      let none : due_once (starts_in (segment_at plan k)) (suc j) ≡ 0 = ap (λ (b : Bool). cond b 1 0) f in
      let m = more j lt in
      let kept : slice_index dues' j ≡ slice_index dues j = omega arith in
      sym (ap (λ n. n + slice_index dues' j) (other_stays j ne) ∙ ap (λ n. unfinished plan states rests j + n) kept))
      (either_bool (is_job (starts_in (segment_at plan k)) (suc j)))
    where
      by_numbers : (u v t x y : ℕ) → u ≡ 1 + t → v ≡ 0 + t → y ≡ x + 1 → u + x ≡ v + y
      by_numbers u v t x y a b e = omega arith

  -- the duties that the end brings, by what the piece starts
  pub more_dues : (dues' : List ℕ) → ((j : ℕ) → slice_index dues' j ≡ slice_index dues j + started_by plan p (suc j))
      → (j : ℕ) → j < length plan.jobs.items → unfinished plan states rests j + slice_index dues j ≡ unfinished plan now rests j + slice_index dues' j
  more_dues dues' more j lt = ⊎_elim
      (λ part. let is = of_job plan p part in
      let none : started_by plan p (suc j) ≡ 0 = ap (λ x. started_in plan x (suc j)) is.2 in
      let m = more j in
      let same : slice_index dues' j ≡ slice_index dues j = omega arith in
      part_dues part j lt ∙ ap (λ n. unfinished plan now rests j + n) (sym same))
      (λ le. let k : ℕ = p - job_pieces plan in
      segment_dues k (omega arith) dues' (λ i li. more i ∙ ap (λ x. slice_index dues i + started_in plan x (suc i)) (segment_numbered plan p le)) j lt)
      (cases_lt p (job_pieces plan))

  -- They fit 32 bits, since as many predecessors aren't released.
  pub dues_fit : (j : ℕ) → j < length plan.jobs.items → slice_index dues j + started_by plan p (suc j) < 2 ^ 32
  dues_fit j lt = ⊎_elim
      (λ part. let is = of_job plan p part in
      let none : started_by plan p (suc j) ≡ 0 = ap (λ x. started_in plan x (suc j)) is.2 in
      let w = C.wait_is j lt in
      let f = C.fits j lt in
      omega arith)
      (λ le. let k : ℕ = p - job_pieces plan in
      let w = C.wait_is j lt in
      let f = C.fits j lt in
      let some : started_by plan p (suc j) ≡ due_once (starts_in (segment_at plan k)) (suc j) =
      ap (λ x. started_in plan x (suc j)) (segment_numbered plan p le) in
      at_segment k (omega arith) w f some)
      (cases_lt p (job_pieces plan))
    where
      by_less : (w u x o n : ℕ) → w ≡ u + x → w < n → o ≤ u → x + o < n
      by_less w u x o n e f le = omega arith

      at_segment : (k : ℕ) → p ≡ job_pieces plan + k → slice_index waits j ≡ unfinished plan states rests j + slice_index dues j → slice_index waits j < 2 ^ 32
          → started_by plan p (suc j) ≡ due_once (starts_in (segment_at plan k)) (suc j) → slice_index dues j + started_by plan p (suc j) < 2 ^ 32
      at_segment k is w f some = by_less (slice_index waits j) (unfinished plan states rests j) (slice_index dues j) (started_by plan p (suc j)) (2 ^ 32) w f
          (subst (λ n. n ≤ unfinished plan states rests j) (sym some) (⊎_elim
          (λ t. let same : k ≡ starter_of plan j = starter_alone plan C.well.order.starts j k t in
          let here : starter_number plan j ≡ p = omega arith in
          let one : due_once (starts_in (segment_at plan k)) (suc j) ≡ 1 = ap (λ (b : Bool). cond b 1 0) t in
          let was : unfinished plan states rests j ≡ 1 + tally (is_unfinished plan rests j) (length plan.jobs.items) =
          ap (λ (b : Bool). cond b 0 1 + tally (is_unfinished plan rests j) (length plan.jobs.items))
          (ap (λ n. is_over (state_of states n)) here ∙ ap is_over is_begun) in
          omega arith)
          (λ no. let none : due_once (starts_in (segment_at plan k)) (suc j) ≡ 0 = ap (λ (b : Bool). cond b 1 0) no in omega arith)
          (either_bool (is_job (starts_in (segment_at plan k)) (suc j)))))
