-- The states of pieces, by their numbers and by their places.
use Rattle.std.proofs.Common.{◌≡◌, ◌≢◌, ℕ, suc, ◌+◌, ◌<◌, ◌≤◌, ◌⊎◌, inl, inr, ⊎_elim, Bool, true, false, not, ◌&&◌, eqb, List, length, get_or, set, length-set, get_or-set_same, get_or-set_other, refl, sym, ap, subst, ◌∙◌, arith, Option, Some, None}
use Rattle.std.specs.Prelude.{slice_index, nat_eq}
use mathlib.Core.Logic.{dite}
use native.Mathlib.Decide.{ℕ_discrete}
use Rattle.merge_laws.specs.Numbers.{tally}
use Rattle.merge_laws.specs.Core.{Lease}
use Rattle.merge_laws.proofs.Sums.{tally_same}
use Rattle.frame_core.specs.declared.piece.Piece.{Piece}
use Rattle.frame_core.specs.declared.plan.Plan.{Plan}
use Rattle.frame_core.specs.Names.{has_job, deps_in, job_at}
use Rattle.frame_core.specs.Pieces.{place_of, number_of, piece_numbered}
use Rattle.frame_core.specs.Events.{place_numbered}
use Rattle.frame_core.specs.Graphs.{piece_at}
use Rattle.frame_core.specs.Know.{piece_count, is_of}
use Rattle.frame_core.specs.Laws.{IsNamed}
use Rattle.frame_core.proofs.Small.{some_is, none_some}
use Rattle.frame_core.proofs.Standing.{stands}
use Rattle.lock_board.specs.declared.state.State.{State}
use Rattle.lock_board.specs.declared.state.State.TheVariants.{Closed, Open, Begun, Ended, Counted}
use Rattle.lock_board.specs.States.{is_over, is_counted, state_of, state_in, state_at}
use Rattle.lock_board.specs.Locked.{leased, uncounted, unfinished, starter_number}

pub state_there : (plan : Plan) (named : IsNamed plan) (p : ℕ) → p < piece_count plan → (states : List State)
    → state_at plan states (place_numbered plan p) ≡ state_of states p
state_there plan named p low states = ap (state_in states plan) (stands plan named p low) ∙ ap (state_of states) (named.numbered p low).1

-- A STATE CHANGES

module _ (states : List State) (p : ℕ) (s : State) (low : p < length states) where
  pub set_here : state_of (set states p s) p ≡ s
  set_here = get_or-set_same states p s Closed low

  pub set_there : (q : ℕ) → q ≢ p → state_of (set states p s) q ≡ state_of states q
  set_there q ne = get_or-set_other states p q s Closed ne

  -- a test that answers the same of both states answers the same everywhere
  pub test_kept : {A : Type 0} (f : State → A) → f s ≡ f (state_of states p) → (q : ℕ) → f (state_of (set states p s) q) ≡ f (state_of states q)
  test_kept f e q = dite (ℕ_discrete q p)
      (λ i. ap (λ n. f (state_of (set states p s) n)) i ∙ (ap f set_here ∙ (e ∙ ap (λ n. f (state_of states n)) (sym i))))
      (λ ne. ap f (set_there q ne))

  module _ (plan : Plan) where
    pub test_kept_at : {A : Type 0} (f : State → A) → f s ≡ f (state_of states p) → (q : ℕ) → f (state_at plan (set states p s) q) ≡ f (state_at plan states q)
    test_kept_at f e q = by (piece_at plan q)
      where
        by : (o : Option Piece) → f (state_in (set states p s) plan o) ≡ f (state_in states plan o)
        by None = refl
        by (Some x) = test_kept f e (number_of plan x)

    module _ (named : IsNamed plan) (below : p < piece_count plan) where
      pub at_here : state_at plan (set states p s) (place_numbered plan p) ≡ s
      at_here = state_there plan named p below (set states p s) ∙ set_here

      pub at_there : (q : ℕ) → q ≢ place_numbered plan p → state_at plan (set states p s) q ≡ state_at plan states q
      at_there q ne = by (piece_at plan q) refl
        where
          by : (o : Option Piece) → piece_at plan q ≡ o → state_in (set states p s) plan o ≡ state_in states plan o
          by None e = refl
          by (Some x) e =
              let is = named.placed q x e in
              set_there (number_of plan x) (λ same. ne (sym is.1 ∙ ap (place_of plan) (sym (named.number x is.0).1 ∙ ap (piece_numbered plan) same)))

-- LEASES

pub record IsLeased (plan : Plan) (q : ℕ) (s : State) (l : Lease) : Type 0 where
  pub seat : ℕ
  pub begun : s ≡ Begun seat
  pub piece : l.piece ≡ q

pub lease_is : (plan : Plan) (q : ℕ) (s : State) (l : Lease) → leased plan q s ≡ Some l → IsLeased plan q s l
lease_is plan q (Begun k) l e = record { seat = k; begun = refl; piece = ap (λ (x : Lease). x.piece) (sym (some_is e)) }
lease_is plan q Closed l e = absurd (none_some e)
lease_is plan q Open l e = absurd (none_some e)
lease_is plan q Ended l e = absurd (none_some e)
lease_is plan q Counted l e = absurd (none_some e)

-- COUNTS THAT STAY

pub uncounted_same : (plan : Plan) (states states' : List State) (j : ℕ) → ((q : ℕ) → is_counted (state_of states' q) ≡ is_counted (state_of states q))
    → uncounted plan states' j ≡ uncounted plan states j
uncounted_same plan states states' j same = tally_same (λ q. is_of plan (suc j) q && not (is_counted (state_of states' q)))
    (λ q. is_of plan (suc j) q && not (is_counted (state_of states q)))
    (piece_count plan) (λ q lt. ap (λ (b : Bool). is_of plan (suc j) q && not b) (same q))

abbrev pub is_unfinished : Plan → List ℕ → ℕ → ℕ → Bool
is_unfinished plan rests j d = has_job (deps_in (job_at plan j)) (suc d) && not (nat_eq (slice_index rests d) 0)

pub unfinished_same : (plan : Plan) (states states' : List State) (rests : List ℕ) (j : ℕ)
    → is_over (state_of states' (starter_number plan j)) ≡ is_over (state_of states (starter_number plan j))
    → unfinished plan states' rests j ≡ unfinished plan states rests j
unfinished_same plan states states' rests j same = ap (λ (b : Bool). Rattle.std.proofs.Common.cond b 0 1 + tally (is_unfinished plan rests j)
    (length plan.jobs.items)) same
