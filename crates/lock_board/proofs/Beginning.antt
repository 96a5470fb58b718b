-- A begin keeps what the content keeps.
use Rattle.std.proofs.Common.{◌≡◌, ℕ, ◌+◌, ◌<◌, true, List, length, set, ℤ, refl, sym, ap, subst, ◌∙◌}
use Rattle.std.specs.Prelude.{slice_index}
use Rattle.job_base.specs.Cells.{cells_of}
use Rattle.merge_laws.specs.Graph.{cells_before}
use Rattle.merge_laws.specs.Core.{Core}
use Rattle.merge_laws.specs.Steps.{MayBegin, Begins}
use Rattle.merge_laws.proofs.Merging.{what_may_begin_is_clear, begins_keep_the_merge}
use Rattle.frame_core.specs.declared.plan.Plan.{Plan}
use Rattle.frame_core.specs.Events.{place_numbered}
use Rattle.frame_core.specs.Graphs.{graph_of, before_number}
use Rattle.frame_core.specs.Know.{piece_count, reads}
use Rattle.frame_core.specs.Laws.{IsNamed}
use Rattle.frame_core.proofs.Planned.{plans_meet_the_laws, pieces_are_named}
use Rattle.lock_board.specs.declared.state.State.{State}
use Rattle.lock_board.specs.declared.state.State.TheVariants.{Closed, Open, Begun}
use Rattle.lock_board.specs.States.{is_over, is_counted, state_of, state_at}
use Rattle.lock_board.specs.Locked.{leased, core_of, locked, starter_number, IsKept}
use Rattle.frame_core.proofs.Standing.{place_low, reads_there, before_there}
use Rattle.lock_board.proofs.Places.{state_there, test_kept, test_kept_at, at_here, at_there, lease_is, uncounted_same, unfinished_same, set_there}

open_begun : (k : ℕ) → Open ≡ Begun k → ⊥
open_begun k e = cc

open_closed : Open ≡ Closed → ⊥
open_closed e = cc

module _ (plan : Plan) (states : List State) (cells : List ℤ) (rests waits dues : List ℕ) (p : ℕ) (low : p < piece_count plan)
    (size : length states ≡ piece_count plan) (is_open : state_of states p ≡ Open) (C : IsKept plan (locked states cells rests waits dues)) where
  abbrev named : IsNamed plan
  named = pieces_are_named plan C.well

  abbrev at : ℕ
  at = place_numbered plan p

  abbrev c : Core
  c = core_of plan states (cells_of cells)

  may_begin : MayBegin (graph_of plan) c at
  may_begin = record {
    below = place_low plan named p low;
    unended = ap is_over (state_there plan named p low states ∙ is_open);
    unleased = λ k l e q.
        let h = lease_is plan k (state_at plan states k) l e in
        let same : k ≡ at = sym h.piece ∙ q in
        open_begun h.seat (sym is_open ∙ (sym (state_there plan named p low states) ∙ (ap (state_at plan states) (sym same) ∙ h.begun)));
    ready = C.ready p low (λ z. open_closed (sym is_open ∙ z));
  }

  -- on its footprint the cells are those before the piece in script order
  pub begun_cells : (w : ℕ) → reads plan p w ≡ true → cells_of cells w ≡ before_number plan p w
  begun_cells w r =
      (what_may_begin_is_clear (graph_of plan) c (plans_meet_the_laws plan C.well).ordered C.consistent at may_begin).cells w
      (reads_there plan named p low w ∙ r)
      ∙ sym (before_there plan named p low w)

  module _ (seat : ℕ) where
    abbrev now : List State
    now = set states p (Begun seat)

    abbrev there : p < length states
    there = subst (λ n. p < n) (sym size) low

    same_over : (q : ℕ) → is_over (state_at plan now q) ≡ is_over (state_at plan states q)
    same_over = test_kept_at states p (Begun seat) there plan is_over (sym (ap is_over is_open))

    begins : Begins (graph_of plan) c (core_of plan now (cells_of cells)) at at
    begins = record {
      free = ap (leased plan at) (state_there plan named p low states ∙ is_open);
      local = cells_before (graph_of plan) at;
      local_is = λ w r. refl;
      leases = record {
        here = ap (leased plan at) (at_here states p (Begun seat) there plan named low);
        there = λ q ne. ap (leased plan q) (at_there states p (Begun seat) there plan named low q ne);
      };
      ended = same_over;
      cells = λ w. refl;
    }

    pub begun_kept : IsKept plan (locked now cells rests waits dues)
    begun_kept = record {
      well = C.well;
      consistent = (begins_keep_the_merge (graph_of plan) c (core_of plan now (cells_of cells))
          (plans_meet_the_laws plan C.well).ordered C.consistent at at may_begin begins).0;
      ready = λ n lt live r b. same_over r ∙ C.ready n lt (λ z. live (still n z)) r b;
      rest_is = λ j lt. C.rest_is j lt ∙ sym (uncounted_same plan states now j
          (test_kept states p (Begun seat) there is_counted (sym (ap is_counted is_open))));
      wait_is = λ j lt. C.wait_is j lt
          ∙ ap (λ n. n + slice_index dues j) (sym (unfinished_same plan states now rests j
          (test_kept states p (Begun seat) there is_over (sym (ap is_over is_open)) (starter_number plan j))));
      fits = C.fits;
    }
      where
        still : (n : ℕ) → state_of states n ≡ Closed → state_of now n ≡ Closed
        still n z = set_there states p (Begun seat) there n (λ e. open_closed (sym is_open ∙ (ap (state_of states) (sym e) ∙ z))) ∙ z
