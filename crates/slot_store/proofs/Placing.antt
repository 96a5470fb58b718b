-- One slot's place changes.
use Rattle.std.proofs.Common.{◌≡◌, ◌≢◌, ℕ, zero, suc, ◌+◌, ◌<◌, ◌≤◌, max, ⊎_elim, Bool, true, false, if◌then◌else◌, ◌&&◌, ◌||◌, not, nat_eq, List, [], ◌∷◌, length, set, refl, ap, sym, ◌∙◌, subst, arith, get_or-set_same, get_or-set_other}
use Rattle.std.proofs.lemmas.List.Sums.{sum_by-set}
use Rattle.std.proofs.lemmas.Bool.{and_from, and_left, and_parts, or_cases, or_left, or_right, not_from_false, cases_lt, cases_eq, cases_Bool, both_ways, eq-eqb, ne_eqb, cond-true, cond-false}
use Rattle.job_base.specs.declared.Span.{Span}
use Rattle.job_base.specs.declared.limits.TheConstants.{MOST_LIVE_WORDS}
use Rattle.frame_ast.specs.Ranges.{IsFirstFit}
use Rattle.slot_store.specs.declared.place.State.{State}
use Rattle.slot_store.specs.declared.place.State.TheVariants.{Free, Taken, Held}
use Rattle.slot_store.specs.declared.place.Place.{Place}
use Rattle.slot_store.specs.declared.place.Waiting.{Waiting}
use Rattle.slot_store.specs.declared.space.FreeSpace.{FreeSpace}
use Rattle.slot_store.specs.Spaces.{has_word, is_live}
use Rattle.slot_store.specs.Places.{unused, in_use, is_held, place_at, has_live, some_live, live_len, held_once}
use Rattle.slot_store.specs.Kept.{AreKept}
use Rattle.slot_store.proofs.Words.{inside, within, below, above}

pub live_at : (ps : List Place) (s w : ℕ) → has_live (place_at ps s) w ≡ true → some_live ps w ≡ true
live_at [] s w h = h
live_at (p ∷ ps) zero w h = or_left _ _ h
live_at (p ∷ ps) (suc s) w h = or_right _ _ (live_at ps s w h)

pub at_live : (ps : List Place) (w : ℕ) → some_live ps w ≡ true → (s : ℕ) × (has_live (place_at ps s) w ≡ true)
at_live [] w h = (0, h)
at_live (p ∷ ps) w h = ⊎_elim (λ a. (0, a)) (λ b. let r = at_live ps w b in (suc r.0, r.1)) (or_cases _ _ h)

-- two answers are one where each is true with the other
pub same_bool : (a b : Bool) → (a ≡ true → b ≡ true) → (b ≡ true → a ≡ true) → a ≡ b
same_bool true b f g = sym (f refl)
same_bool false true f g = g refl
same_bool false false f g = refl

pub live_same : (ps qs : List Place) → ((s : ℕ) → place_at qs s ≡ place_at ps s) → (w : ℕ) → some_live qs w ≡ some_live ps w
live_same ps qs e w = same_bool _ _
    (λ h. let r = at_live qs w h in live_at ps r.0 w (subst (λ (p : Place). has_live p w ≡ true) (e r.0) r.1))
    (λ h. let r = at_live ps w h in live_at qs r.0 w (subst (λ (p : Place). has_live p w ≡ true) (sym (e r.0)) r.1))

pub one_word : (s t : ℕ) → has_word (record { start = s; len = 1 }) t ≡ nat_eq t s
one_word s t = ⊎_elim
    (λ e. inside (record { start = s; len = 1 }) t (omega arith) (omega arith) ∙ sym (eq-eqb t s e))
    (λ n. ⊎_elim (λ lt. below (record { start = s; len = 1 }) t lt) (λ ge. above (record { start = s; len = 1 }) t (omega arith)) (cases_lt t s)
    ∙ sym (ne_eqb t s n)) (cases_eq t s)

pub Apart : List Place → Type 0
Apart ps = (s t w : ℕ) → has_live (place_at ps s) w ≡ true → has_live (place_at ps t) w ≡ true → s ≡ t

-- Slot s gets the place p.
module _ (ps : List Place) (s : ℕ) (p : Place) (known : s < length ps) where
  pub here : place_at (set ps s p) s ≡ p
  here = get_or-set_same ps s p unused known

  pub there : (t : ℕ) → t ≢ s → place_at (set ps s p) t ≡ place_at ps t
  there t n = get_or-set_other ps s t p unused n

  pub at : (t : ℕ) → place_at (set ps s p) t ≡ (if nat_eq t s then p else place_at ps t)
  at t = ⊎_elim
      (λ e. ap (λ m. place_at (set ps s p) m) e ∙ (here ∙ sym (cond-true (nat_eq t s) p (place_at ps t) (eq-eqb t s e))))
      (λ n. there t n ∙ sym (cond-false (nat_eq t s) p (place_at ps t) (ne_eqb t s n))) (cases_eq t s)

  module _ (apart : (s t w : ℕ) → has_live (place_at ps s) w ≡ true → has_live (place_at ps t) w ≡ true → s ≡ t) where
    pub live_set : (w : ℕ) → some_live (set ps s p) w ≡ (has_live p w || (some_live ps w && not (has_live (place_at ps s) w)))
    live_set w = same_bool _ _ forth (λ h. ⊎_elim back_here back_there (or_cases _ _ h))
      where
        back_here : has_live p w ≡ true → some_live (set ps s p) w ≡ true
        back_here h = live_at (set ps s p) s w (subst (λ (q : Place). has_live q w ≡ true) (sym here) h)

        back_there : (some_live ps w && not (has_live (place_at ps s) w)) ≡ true → some_live (set ps s p) w ≡ true
        back_there h =
            let a = and_parts _ _ h in
            let r = at_live ps w a.0 in
            ⊎_elim (λ e. absurd (lost (has_live (place_at ps s) w) (subst (λ m. has_live (place_at ps m) w ≡ true) e r.1) a.1))
            (λ n. live_at (set ps s p) r.0 w (subst (λ (q : Place). has_live q w ≡ true) (sym (there r.0 n)) r.1)) (cases_eq r.0 s)
          where
            lost : (b : Bool) → b ≡ true → not b ≡ true → ⊥
            lost true e f = cc
            lost false e f = cc

        forth : some_live (set ps s p) w ≡ true → (has_live p w || (some_live ps w && not (has_live (place_at ps s) w))) ≡ true
        forth h = let r = at_live (set ps s p) w h in
            ⊎_elim (λ e. or_left _ _ (subst (λ (q : Place). has_live q w ≡ true) (ap (λ m. place_at (set ps s p) m) e ∙ here) r.1))
            (λ n. let l : has_live (place_at ps r.0) w ≡ true = subst (λ (q : Place). has_live q w ≡ true) (there r.0 n) r.1 in
            or_right _ _ (and_from _ _ (live_at ps r.0 w l) (not_from_false _ (other (has_live (place_at ps s) w) (λ b. n (apart r.0 s w l b))))))
            (cases_eq r.0 s)
          where
            other : (b : Bool) → (b ≡ true → ⊥) → b ≡ false
            other true f = absurd (f refl)
            other false f = refl

    pub apart_set : ((w t : ℕ) → has_live p w ≡ true → t ≢ s → has_live (place_at ps t) w ≡ false) → (a b w : ℕ) → has_live (place_at (set ps s p) a) w ≡ true
        → has_live (place_at (set ps s p) b) w ≡ true → a ≡ b
    apart_set new a b w h k = ⊎_elim
        (λ e. ⊎_elim (λ f. e ∙ sym f)
        (λ n. absurd (both_ways _ (new w b (subst (λ (q : Place). has_live q w ≡ true) (ap (λ m. place_at (set ps s p) m) e ∙ here) h) n)
        (subst (λ (q : Place). has_live q w ≡ true) (there b n) k)))
        (cases_eq b s))
        (λ m. ⊎_elim
        (λ f. absurd (both_ways _ (new w a (subst (λ (q : Place). has_live q w ≡ true) (ap (λ m. place_at (set ps s p) m) f ∙ here) k) m)
        (subst (λ (q : Place). has_live q w ≡ true) (there a m) h)))
        (λ n. apart a b w (subst (λ (q : Place). has_live q w ≡ true) (there a m) h) (subst (λ (q : Place). has_live q w ≡ true) (there b n) k))
        (cases_eq b s))
        (cases_eq a s)

-- a slot that is not in use has no live word
pub idle : (p : Place) (w : ℕ) → in_use p.state ≡ false → has_live p w ≡ false
idle p w e = and_left _ _ e

-- SLOT s, WHICH IS FREE, IS TAKEN

module _ (ps : List Place) (space numbers space' numbers' : FreeSpace) (waiting : List Waiting) (count peak : ℕ)
    (K : AreKept ps space numbers waiting count peak) (s version : ℕ) (span : Span) (known : s < length ps) where
  abbrev p : Place
  p = record { state = Taken; version = version; span = span }

  module _ (slot : IsFirstFit (is_live numbers.holes.items numbers.top) 1 s)
      (words : IsFirstFit (is_live space.holes.items space.top) span.len span.start) where
    pub was_free : in_use (place_at ps s).state ≡ false
    was_free = sym (K.slots s) ∙ slot.free s (omega arith) (omega arith)

    pub others_used : (t : ℕ) → t < s → in_use (place_at ps t).state ≡ true
    others_used t lt = sym (K.slots t) ∙ used (is_live numbers.holes.items numbers.top t)
        (λ e. slot.lowest t lt (λ w a b. let q : w ≡ t = omega arith in subst (λ m. is_live numbers.holes.items numbers.top m ≡ false) (sym q) e))
      where
        used : (b : Bool) → (b ≡ false → ⊥) → b ≡ true
        used true f = refl
        used false f = absurd (f refl)

    pub fit : IsFirstFit (some_live ps) span.len span.start
    fit = record {
      free = λ w a b. sym (K.words w) ∙ words.free w a b;
      lowest = λ lower lt free. words.lowest lower lt (λ w a b. K.words w ∙ free w a b);
    }

    not_live : (w t : ℕ) → has_live p w ≡ true → has_live (place_at ps t) w ≡ false
    not_live w t h = ⊎_elim (λ l. absurd (both_ways _ (fit.free w (within span w h).0 (within span w h).1) (live_at ps t w l))) (λ f. f)
        (cases_Bool (has_live (place_at ps t) w))

    pub took : ((w : ℕ) → is_live numbers'.holes.items numbers'.top w ≡ (is_live numbers.holes.items numbers.top w
        || has_word (record { start = s; len = 1 }) w)) → numbers'.top ≤ max numbers.top (s + 1)
        → ((w : ℕ) → is_live space'.holes.items space'.top w ≡ (is_live space.holes.items space.top w
        || has_word (record { start = span.start; len = span.len }) w)) → space'.top ≤ max space.top (span.start + span.len)
        → count + span.len ≤ MOST_LIVE_WORDS → AreKept (set ps s p) space' numbers' waiting (count + span.len) (max peak (span.start + span.len))
    took slots slots_top live top few = record {
      words = λ w. live w ∙ (ap (λ b. b || has_word span w) (K.words w) ∙
          (turn (some_live ps w) (has_word span w) (has_live (place_at ps s) w) (idle (place_at ps s) w was_free) ∙ sym (live_set ps s p known K.apart w)));
      slots = λ t. slots t ∙ (ap (λ b. is_live numbers.holes.items numbers.top t || b) (one_word s t) ∙ ⊎_elim
          (λ e. or_right _ _ (eq-eqb t s e) ∙ sym (ap (λ (q : Place). in_use q.state) (ap (λ m. place_at (set ps s p) m) e ∙ here ps s p known)))
          (λ n. ap (λ b. is_live numbers.holes.items numbers.top t || b) (ne_eqb t s n)
          ∙ (sym (or_false _) ∙ (K.slots t ∙ sym (ap (λ (q : Place). in_use q.state) (there ps s p known t n))))) (cases_eq t s));
      apart = apart_set ps s p known K.apart (λ w t h n. not_live w t h);
      live = let sums = sum_by-set live_len ps s p unused known in
          let none : live_len (place_at ps s) ≡ 0 = cond-false (in_use (place_at ps s).state) (place_at ps s).span.len 0 was_free in
          let a = K.live in omega arith;
      few = few;
      below = let a = K.below in omega arith;
      known = let a = K.known in let n = same_length ps s in omega (arith, n p);
      held = λ t. K.held t ∙ ⊎_elim
          (λ e. ap (λ m. held_once (place_at ps m)) e ∙ (free_not_held (place_at ps s) was_free
          ∙ sym (ap (λ (q : Place). held_once q) (ap (λ m. place_at (set ps s p) m) e ∙ here ps s p known))))
          (λ n. sym (ap (λ (q : Place). held_once q) (there ps s p known t n))) (cases_eq t s);
    }
      where
        turn : (l h o : Bool) → o ≡ false → (l || h) ≡ (h || (l && not o))
        turn true true o e = refl
        turn false true o e = refl
        turn true false true e = e
        turn true false false e = refl
        turn false false o e = refl

        or_false : (b : Bool) → b ≡ (b || false)
        or_false true = refl
        or_false false = refl

        same_length : (xs : List Place) (i : ℕ) (y : Place) → length (set xs i y) ≡ length xs
        same_length [] i y = refl
        same_length (x ∷ xs) zero y = refl
        same_length (x ∷ xs) (suc i) y = ap suc (same_length xs i y)

        not_held : (q : State) → in_use q ≡ false → is_held q ≡ false
        not_held Free e = refl
        not_held Taken e = refl
        not_held (Held users) e = absurd (both_ways true e refl)

        free_not_held : (q : Place) → in_use q.state ≡ false → held_once q ≡ 0
        free_not_held q e = cond-false (is_held q.state) 1 0 (not_held q.state e)

-- first fit among the words of places that are the same
pub fit_same : (ps qs : List Place) (len start : ℕ) → ((s : ℕ) → place_at qs s ≡ place_at ps s) → IsFirstFit (some_live qs) len start
    → IsFirstFit (some_live ps) len start
fit_same ps qs len start e F = record {
  free = λ w a b. sym (live_same ps qs e w) ∙ F.free w a b;
  lowest = λ lower lt free. F.lowest lower lt (λ w a b. live_same ps qs e w ∙ free w a b);
}
