-- A plan can't get stuck, and a run can go on until it has ended.
use Rattle.std.proofs.Common.{◌≡◌, ℕ, zero, suc, ◌<◌, ◌⊎◌, inl, inr, ⊎_elim, Bool, true, false, List, [], ◌∷◌, refl, subst, sym, ◌∙◌, arith, Option, Some, None}
use Rattle.std.proofs.lemmas.Bool.{cases_Bool}
use Rattle.merge_laws.specs.Graph.{PieceGraph}
use Rattle.merge_laws.specs.Core.{Lease}
use Rattle.merge_laws.specs.MergeLaws.{APieceMayBegin}
use Rattle.merge_laws.specs.Runs.{RunState, start, core_of, Event, take, steal, finish, IsLegal, finished, after, run, IsLegalRun, RunsCanGoOn}
use Rattle.merge_laws.proofs.Tests.{none_some, by_equal}
use Rattle.merge_laws.proofs.Merging.{changed}
use Rattle.merge_laws.proofs.Running.{with_lease_changes}

-- of the first n pieces all are ended, or there is a first one that isn't
first_unended : (ended : ℕ → Bool) (n : ℕ) → ((p : ℕ) → p < n → ended p ≡ true) ⊎ ((p : ℕ) × (p < n) × (ended p ≡ false) × ((q : ℕ) → q < p → ended q ≡ true))
first_unended ended zero = inl (λ p lt. absurd (omega arith))
first_unended ended (suc n) = ⊎_elim
    (λ all. ⊎_elim
    (λ t. inl (λ p lt. by_equal p n (λ e. subst (λ k. ended k ≡ true) (sym e) t) (λ ne. all p (omega arith))))
    (λ f. inr (n, omega arith, f, all)) (cases_Bool (ended n)))
    (λ t. let lt = t.1 in inr (t.0, omega arith, t.2, t.3)) (first_unended ended n)

-- the first piece that isn't ended may begin, since its predecessors are earlier
pub a_piece_may_begin : APieceMayBegin
a_piece_may_begin g c o none = ⊎_elim inl
    (λ t. inr (
      t.0,
      record {
        below = t.1;
        unended = t.2;
        unleased = λ k l e. absurd (none_some (sym (none k) ∙ e));
        ready = λ q b. t.3 q (o.earlier q t.0 t.1 b);
      },
    )) (first_unended c.ended g.count)

-- LEASES OF SEATS

either_lease : (x : Option Lease) → (x ≡ None) ⊎ ((l : Lease) × (x ≡ Some l))
either_lease None = inl refl
either_lease (Some l) = inr (l, refl)

-- of the first n seats none has a lease, or one has
either_seat : (f : ℕ → Option Lease) (n : ℕ) → ((k : ℕ) → k < n → f k ≡ None) ⊎ ((k : ℕ) × (l : Lease) × (f k ≡ Some l))
either_seat f zero = inl (λ k lt. absurd (omega arith))
either_seat f (suc n) = ⊎_elim
    (λ none. ⊎_elim
    (λ e. inl (λ k lt. by_equal k n (λ q. subst (λ i. f i ≡ None) (sym q) e) (λ ne. none k (omega arith))))
    (λ t. inr (n, t.0, t.1)) (either_lease (f n)))
    inr (either_seat f n)

abbrev SeatsAreBelow : RunState → Type 0
SeatsAreBelow s = (k : ℕ) (l : Lease) → s.lease k ≡ Some l → k < 64

finished_below : (g : PieceGraph) (s : RunState) → SeatsAreBelow s → (k : ℕ) (x : Option Lease) → SeatsAreBelow (finished g s k x)
finished_below g s B k None = B
finished_below g s B k (Some x) = λ j l e. ⊎_elim (λ y. absurd (none_some y.1)) (λ y. B j l y.1) (changed (with_lease_changes s.lease k None) j l e)

after_below : (g : PieceGraph) (s : RunState) → SeatsAreBelow s → (e : Event) → IsLegal g s e → SeatsAreBelow (after g s e)
after_below g s B (take k p) M = λ j l e. ⊎_elim (λ y. subst (λ i. i < 64) (sym y.0) M.seat_below) (λ y. B j l y.1)
    (changed (with_lease_changes s.lease k (Some record { piece = p; local = s.cells })) j l e)
after_below g s B (steal k v p) M = λ j l e. ⊎_elim (λ y. subst (λ i. i < 64) (sym y.0) M.seat_below) (λ y. B j l y.1)
    (changed (with_lease_changes s.lease k (Some record { piece = p; local = s.cells })) j l e)
after_below g s B (finish k p) M = finished_below g s B k (s.lease k)

run_below : (g : PieceGraph) (s : RunState) → SeatsAreBelow s → (es : List Event) → IsLegalRun g s es → SeatsAreBelow (run g s es)
run_below g s B [] h = B
run_below g s B (e ∷ es) h = run_below g (after g s e) (after_below g s B e h.0) es h.1

-- who has a lease may finish, and where nobody has one the seat 0 may take a piece
pub runs_can_go_on : RunsCanGoOn
runs_can_go_on g o es h =
    let s : RunState = run g (start g) es in
    let below : SeatsAreBelow s = run_below g (start g) (λ k l e. absurd (none_some e)) es h in
    ⊎_elim
    (λ none.
    let free : (k : ℕ) → s.lease k ≡ None = λ k. ⊎_elim (λ e. e) (λ t. none k (below k t.0 t.1)) (either_lease (s.lease k)) in
    ⊎_elim inl (λ t. inr (take 0 t.0, record { may_begin = t.1; seat_below = omega arith; seat_free = free 0; segment_first = λ b. refl }))
    (a_piece_may_begin g (core_of s) o free))
    (λ t. inr (finish t.0 t.1.piece, record { local = t.1.local; lease = t.2 })) (either_seat s.lease 64)
