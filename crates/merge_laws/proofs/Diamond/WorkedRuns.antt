-- Worked runs of the diamond, and lists of events that are no runs.
use Rattle.std.proofs.Common.{◌≡◌, ◌≢◌, ℕ, zero, suc, ◌<◌, ⊎_elim, Bool, true, [], ◌∷◌, refl, sym, ◌∙◌, arith, Option, Some, None}
use Rattle.merge_laws.specs.Numbers.{has}
use Rattle.merge_laws.specs.Core.{Lease}
use Rattle.merge_laws.specs.Runs.{RunState, start, take, steal, finish, with_lease, MayTake, IsLegalRun, after, run, IsEnded}
use Rattle.merge_laws.specs.Diamond.{diamond_precedes, diamond, crossed}
use Rattle.merge_laws.specs.Examples.{DiamondRuns, IllegalRuns}
use Rattle.merge_laws.proofs.Tests.{not_both, none_some}
use Rattle.merge_laws.proofs.Merging.{changed, same_piece}
use Rattle.merge_laws.proofs.Running.{with_lease_changes}

-- a piece that isn't leased isn't after another piece is, and after a lease is gone
unleased_with : (f : ℕ → Option Lease) (k p : ℕ) (x : Lease) → ((j : ℕ) (l : Lease) → f j ≡ Some l → l.piece ≢ p) → x.piece ≢ p → (j : ℕ) (l : Lease)
    → with_lease f k (Some x) j ≡ Some l → l.piece ≢ p
unleased_with f k p x none other j l e = ⊎_elim (λ y q. other (same_piece y.1 ∙ q)) (λ y. none j l y.1) (changed (with_lease_changes f k (Some x)) j l e)

unleased_without : (f : ℕ → Option Lease) (k p : ℕ) → ((j : ℕ) (l : Lease) → f j ≡ Some l → l.piece ≢ p) → (j : ℕ) (l : Lease) → with_lease f k None j ≡ Some l
    → l.piece ≢ p
unleased_without f k p none j l e = ⊎_elim (λ y. absurd (none_some y.1)) (λ y. none j l y.1) (changed (with_lease_changes f k None) j l e)

-- what is ended before each piece of the diamond
ready_first : (ended : ℕ → Bool) (q : ℕ) → diamond_precedes q 0 ≡ true → ended q ≡ true
ready_first ended zero b = absurd (not_both b refl)
ready_first ended (suc zero) b = absurd (not_both b refl)
ready_first ended (suc (suc zero)) b = absurd (not_both b refl)
ready_first ended (suc (suc (suc q))) b = absurd (not_both b refl)

ready_part : (ended : ℕ → Bool) → ended 0 ≡ true → (p : ℕ) → p < 2 → (q : ℕ) → diamond_precedes q (suc p) ≡ true → ended q ≡ true
ready_part ended e p lt zero b = e
ready_part ended e zero lt (suc zero) b = absurd (not_both b refl)
ready_part ended e (suc zero) lt (suc zero) b = absurd (not_both b refl)
ready_part ended e (suc (suc p)) lt (suc zero) b = absurd (omega arith)
ready_part ended e zero lt (suc (suc zero)) b = absurd (not_both b refl)
ready_part ended e (suc zero) lt (suc (suc zero)) b = absurd (not_both b refl)
ready_part ended e (suc (suc p)) lt (suc (suc zero)) b = absurd (omega arith)
ready_part ended e p lt (suc (suc (suc q))) b = absurd (not_both b refl)

ready_last : (ended : ℕ → Bool) → ended 0 ≡ true → ended 1 ≡ true → ended 2 ≡ true → (q : ℕ) → diamond_precedes q 3 ≡ true → ended q ≡ true
ready_last ended a b c zero t = a
ready_last ended a b c (suc zero) t = b
ready_last ended a b c (suc (suc zero)) t = c
ready_last ended a b c (suc (suc (suc q))) t = absurd (not_both t refl)

-- the states of the crossed run
abbrev after_first : RunState
after_first = run diamond (start diamond) (take 0 0 ∷ finish 0 0 ∷ [])

none_first : (p : ℕ) → 0 ≢ p → (j : ℕ) (l : Lease) → after_first.lease j ≡ Some l → l.piece ≢ p
none_first p n = unleased_without (with_lease (start diamond).lease 0 (Some record { piece = 0; local = (start diamond).cells })) 0 p
    (unleased_with (start diamond).lease 0 p (record { piece = 0; local = (start diamond).cells }) (λ j l e. absurd (none_some e)) n)

first_taken : MayTake diamond (start diamond) 0 0
first_taken = record {
  may_begin = record { below = omega arith; unended = refl; unleased = λ j l e. absurd (none_some e); ready = ready_first (λ p. has p []) };
  seat_below = omega arith;
  seat_free = refl;
  segment_first = λ s. refl;
}

later_taken : MayTake diamond after_first 2 2
later_taken = record {
  may_begin = record {
    below = omega arith;
    unended = refl;
    unleased = none_first 2 (λ q. omega arith);
    ready = ready_part (λ p. has p (0 ∷ [])) refl 1 (omega arith);
  };
  seat_below = omega arith;
  seat_free = refl;
  segment_first = λ s. absurd (not_both s refl);
}

earlier_stolen : MayTake diamond (after diamond after_first (take 2 2)) 1 1
earlier_stolen = record {
  may_begin = record {
    below = omega arith;
    unended = refl;
    unleased = unleased_with after_first.lease 2 1 (record { piece = 2; local = after_first.cells }) (none_first 1 (λ q. omega arith))
        (λ q. let two : 2 ≡ 1 = q in omega arith);
    ready = ready_part (λ p. has p (0 ∷ [])) refl 0 (omega arith);
  };
  seat_below = omega arith;
  seat_free = refl;
  segment_first = λ s. absurd (not_both s refl);
}

-- both pieces of the job are leased
abbrev second_lease : ℕ → Option Lease
second_lease = with_lease after_first.lease 2 (Some record { piece = 2; local = after_first.cells })

abbrev both_lease : ℕ → Option Lease
both_lease = with_lease second_lease 1 (Some record { piece = 1; local = after_first.cells })

none_last : (j : ℕ) (l : Lease) → both_lease j ≡ Some l → l.piece ≢ 3
none_last = unleased_with second_lease 1 3 (record { piece = 1; local = after_first.cells })
    (unleased_with after_first.lease 2 3 (record { piece = 2; local = after_first.cells }) (none_first 3 (λ q. omega arith))
    (λ q. let two : 2 ≡ 3 = q in omega arith))
    (λ q. let one : 1 ≡ 3 = q in omega arith)

abbrev after_job : RunState
after_job = run diamond after_first (take 2 2 ∷ steal 1 2 1 ∷ finish 2 2 ∷ finish 1 1 ∷ [])

last_taken : MayTake diamond after_job 0 3
last_taken = record {
  may_begin = record {
    below = omega arith;
    unended = refl;
    unleased = unleased_without (with_lease both_lease 2 None) 1 3 (unleased_without both_lease 2 3 none_last);
    ready = ready_last (λ p. has p (1 ∷ 2 ∷ 0 ∷ [])) refl refl refl;
  };
  seat_below = omega arith;
  seat_free = refl;
  segment_first = λ s. refl;
}

crossed_legal : IsLegalRun diamond (start diamond) crossed
crossed_legal = (
  first_taken,
  (
    record { local = (start diamond).cells; lease = refl },
    (
      later_taken,
      (
        earlier_stolen,
        (
          record { local = after_first.cells; lease = refl },
          (
            record { local = after_first.cells; lease = refl },
            (last_taken, (record { local = after_job.cells; lease = refl }, tt)),
          ),
        ),
      ),
    ),
  ),
)

crossed_ended : IsEnded diamond (run diamond (start diamond) crossed)
crossed_ended zero lt = refl
crossed_ended (suc zero) lt = refl
crossed_ended (suc (suc zero)) lt = refl
crossed_ended (suc (suc (suc zero))) lt = refl
crossed_ended (suc (suc (suc (suc p)))) lt = absurd (omega arith)

pub diamond_runs : DiamondRuns
diamond_runs = record {
  script_order = (refl, refl, refl, refl);
  in_order = (refl, refl, refl, refl);
  out_of_order = (refl, refl, refl, refl);
  legal = crossed_legal;
  ended = crossed_ended;
  half = (refl, refl, refl, refl);
}

pub illegal_runs : IllegalRuns
illegal_runs = record {
  too_early = λ h. not_both (h.0.may_begin.ready 0 refl) refl;
  too_early_still = λ h. not_both (h.1.0.may_begin.ready 0 refl) refl;
  twice_at_once = λ h. h.1.0.may_begin.unleased 0 (record { piece = 0; local = (start diamond).cells }) refl refl;
  twice = λ h. not_both refl h.1.1.0.may_begin.unended;
  busy = λ h. none_some (sym h.1.1.1.0.seat_free);
  past = λ h. let lt : 64 < 64 = h.1.1.0.seat_below in omega arith;
  segment_elsewhere = λ h. let q : 1 ≡ 0 = h.0.segment_first refl in omega arith;
  segment_stolen = λ h. let q : 1 ≡ 0 = h.0.segment_first refl in omega arith;
  unleased = λ h. none_some h.0.lease;
  by_another = λ h. none_some h.1.0.lease;
  no_piece = λ h. let lt : 4 < 4 = h.0.may_begin.below in omega arith;
}
