-- Room in a store's lists, and places for slots.
use Rattle.std.proofs.Common.{◌≡◌, ℕ, zero, suc, ◌<◌, ◌≤◌, Bool, true, false, if◌then◌else◌, List, [], ◌∷◌, ◌++◌, length, set, sum_by, refl, ap, sym, ◌∙◌, subst, arith}
use Rattle.std.proofs.lemmas.List.Sums.{sum_by-cons, sum_by_push, count_by-le-length}
use Rattle.std.proofs.lemmas.List.{length_push}
use Rattle.std.proofs.lemmas.Bool.{both_ways, cond-true, cond-false}
use Rattle.slot_store.specs.declared.place.State.{State}
use Rattle.slot_store.specs.declared.place.State.TheVariants.{Free, Taken, Held}
use Rattle.slot_store.specs.declared.place.Place.{Place}
use Rattle.slot_store.specs.declared.place.Waiting.{Waiting}
use Rattle.slot_store.specs.declared.space.FreeSpace.{FreeSpace}
use Rattle.job_base.specs.declared.Span.{Span}
use Rattle.slot_store.specs.Spaces.{is_live, AreHoles, AreSmall}
use Rattle.slot_store.specs.Places.{unused, in_use, is_taken, is_held, place_at, has_live, live_len, used_once, taken_once, held_once, times}
use Rattle.slot_store.specs.Kept.{AreKept}
use Rattle.slot_store.proofs.Cuts.{is_live_word}
use Rattle.slot_store.proofs.Placing.{live_same}

pub place_push : (ps : List Place) (s : ℕ) → place_at (ps ++ unused ∷ []) s ≡ place_at ps s
place_push [] zero = refl
place_push [] (suc s) = refl
place_push (p ∷ ps) zero = refl
place_push (p ∷ ps) (suc s) = place_push ps s

-- the free lists and the list of held slots are the same
pub kept_moved : (ps : List Place) (space numbers space' numbers' : FreeSpace) (waiting waiting' : List Waiting) (count peak : ℕ)
    → AreKept ps space numbers waiting count peak → space'.holes.items ≡ space.holes.items → space'.top ≡ space.top → numbers'.holes.items ≡ numbers.holes.items
    → numbers'.top ≡ numbers.top → waiting' ≡ waiting → AreKept ps space' numbers' waiting' count peak
kept_moved ps space numbers space' numbers' waiting waiting' count peak K a b c d e = record {
  words = λ w. ap (λ l. is_live l space'.top w) a ∙ (ap (λ t. is_live space.holes.items t w) b ∙ K.words w);
  slots = λ s. ap (λ l. is_live l numbers'.top s) c ∙ (ap (λ t. is_live numbers.holes.items t s) d ∙ K.slots s);
  apart = K.apart;
  live = K.live;
  few = K.few;
  below = let h = K.below in omega arith;
  known = let h = K.known in omega arith;
  held = λ s. ap (λ l. times l s) e ∙ K.held s;
}

-- a place more that was never taken
pub kept_longer : (ps : List Place) (space numbers : FreeSpace) (waiting : List Waiting) (count peak : ℕ) → AreKept ps space numbers waiting count peak
    → AreKept (ps ++ unused ∷ []) space numbers waiting count peak
kept_longer ps space numbers waiting count peak K = record {
  words = λ w. K.words w ∙ sym (live_same ps (ps ++ unused ∷ []) (place_push ps) w);
  slots = λ s. K.slots s ∙ sym (ap (λ (p : Place). in_use p.state) (place_push ps s));
  apart = λ s t w a b. K.apart s t w (subst (λ (p : Place). has_live p w ≡ true) (place_push ps s) a)
      (subst (λ (p : Place). has_live p w ≡ true) (place_push ps t) b);
  live = let h = K.live in let q = sum_by_push live_len ps unused in omega arith;
  few = K.few;
  below = K.below;
  known = let h = K.known in let q = length_push ps unused in omega arith;
  held = λ s. K.held s ∙ sym (ap (λ (p : Place). held_once p) (place_push ps s));
}

pub used_le : (ps : List Place) → sum_by used_once ps ≤ length ps
used_le ps = count_by-le-length (λ (p : Place). in_use p.state) ps

pub taken_le : (ps : List Place) → sum_by taken_once ps ≤ length ps
taken_le ps = count_by-le-length (λ (p : Place). is_taken p.state) ps

-- where the first n slots are in use, n are in use
pub filled : (ps : List Place) (n : ℕ) → ((t : ℕ) → t < n → in_use (place_at ps t).state ≡ true) → n ≤ sum_by used_once ps
filled ps zero all = omega arith
filled [] (suc n) all = absurd (both_ways false refl (all 0 (omega arith)))
filled (p ∷ ps) (suc n) all =
    let r = filled ps n (λ t lt. all (suc t) (omega arith)) in
    let one : used_once p ≡ 1 = cond-true (in_use p.state) 1 0 (all 0 (omega arith)) in
    let q = sum_by-cons used_once p ps in omega arith

none : (holes : List Span) (top : ℕ) → AreHoles 0 holes top → AreSmall holes 1 (length holes) → holes ≡ []
none [] top H small = refl
none (x ∷ holes) top H small = let a = small 0 (omega arith) in let b = H.1.0 in absurd (omega arith)

-- where no slot below the top is free, the slots below it are all in use
pub slots_used : (ps : List Place) (space numbers : FreeSpace) (waiting : List Waiting) (count peak : ℕ) → AreKept ps space numbers waiting count peak
    → AreHoles 0 numbers.holes.items numbers.top → AreSmall numbers.holes.items 1 (length numbers.holes.items) → numbers.top ≤ sum_by used_once ps
slots_used ps space numbers waiting count peak K H small = filled ps numbers.top
    (λ t lt. sym (K.slots t) ∙ (ap (λ l. is_live l numbers.top t) (none numbers.holes.items numbers.top H small) ∙ is_live_word [] numbers.top t lt refl))

-- WHAT IS KEPT OF ROOM

pub in_list : (ps : List Place) (s : ℕ) → in_use (place_at ps s).state ≡ true → s < length ps
in_list [] s e = absurd (both_ways false refl e)
in_list (p ∷ ps) zero e = omega arith
in_list (p ∷ ps) (suc s) e = let r = in_list ps s e in omega arith

pub used_if_taken : (q : State) → is_taken q ≡ true → in_use q ≡ true
used_if_taken Free e = absurd (both_ways false refl e)
used_if_taken Taken e = refl
used_if_taken (Held users) e = absurd (both_ways false refl e)

pub not_held_if_taken : (q : State) → is_taken q ≡ true → is_held q ≡ false
not_held_if_taken Free e = absurd (both_ways false refl e)
not_held_if_taken Taken e = refl
not_held_if_taken (Held users) e = absurd (both_ways false refl e)

pub same_length : (xs : List Place) (i : ℕ) (y : Place) → length (set xs i y) ≡ length xs
same_length [] i y = refl
same_length (x ∷ xs) zero y = refl
same_length (x ∷ xs) (suc i) y = ap suc (same_length xs i y)

pub none_if_free : (p : Place) → in_use p.state ≡ false → used_once p ≡ 0
none_if_free p e = cond-false (in_use p.state) 1 0 e

-- the places after a push that may have found no memory
pub pushed_kept : (ok : Bool) (ps qs : List Place) (space numbers : FreeSpace) (waiting : List Waiting) (count peak : ℕ)
    → qs ≡ (if ok then ps ++ unused ∷ [] else ps) → AreKept ps space numbers waiting count peak → AreKept qs space numbers waiting count peak
pushed_kept true ps qs space numbers waiting count peak e K = subst (λ l. AreKept l space numbers waiting count peak) (sym e)
    (kept_longer ps space numbers waiting count peak K)
pushed_kept false ps qs space numbers waiting count peak e K = subst (λ l. AreKept l space numbers waiting count peak) (sym e) K

pub pushed_sum : (f : Place → ℕ) → f unused ≡ 0 → (ok : Bool) (ps qs : List Place) → qs ≡ (if ok then ps ++ unused ∷ [] else ps) → sum_by f qs ≡ sum_by f ps
pushed_sum f none true ps qs e = let q = sum_by_push f ps unused in ap (sum_by f) e ∙ omega arith
pushed_sum f none false ps qs e = ap (sum_by f) e
