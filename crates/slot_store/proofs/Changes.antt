-- A slot comes back, is held, or gets another range.
use Rattle.std.proofs.Common.{◌≡◌, ℕ, ◌+◌, ◌-◌, ◌<◌, ◌≤◌, max, ⊎_elim, Bool, true, false, ◌&&◌, ◌||◌, not, nat_eq, if◌then◌else◌, List, [], ◌∷◌, ◌++◌, length, set, refl, ap, sym, ◌∙◌, subst, arith}
use Rattle.std.proofs.lemmas.List.Sums.{sum_by-set, sum_by_push}
use Rattle.std.proofs.lemmas.Bool.{cases_eq, cases_Bool, both_ways, eq-eqb, eqb-true, ne_eqb, cond-true, cond-false}
use Rattle.job_base.specs.declared.Span.{Span}
use Rattle.job_base.specs.declared.limits.TheConstants.{MOST_LIVE_WORDS}
use Rattle.frame_ast.specs.Ranges.{IsFirstFit}
use Rattle.slot_store.specs.declared.place.State.{State}
use Rattle.slot_store.specs.declared.place.State.TheVariants.{Free, Taken, Held}
use Rattle.slot_store.specs.declared.place.Place.{Place}
use Rattle.slot_store.specs.declared.place.Waiting.{Waiting}
use Rattle.slot_store.specs.declared.space.FreeSpace.{FreeSpace}
use Rattle.slot_store.specs.Spaces.{has_word, is_live}
use Rattle.slot_store.specs.Places.{unused, in_use, is_taken, is_held, place_at, has_live, some_live, live_len, held_once, times}
use Rattle.slot_store.specs.Kept.{AreKept}
use Rattle.slot_store.proofs.Words.{within}
use Rattle.slot_store.proofs.Placing.{live_at, one_word, here, there, live_set, apart_set}
use Rattle.slot_store.proofs.Rooms.{not_held_if_taken, same_length}

or_false : (b : Bool) → b ≡ (b || false)
or_false true = refl
or_false false = refl

pub live_is : (p : Place) (w : ℕ) → in_use p.state ≡ true → has_live p w ≡ has_word p.span w
live_is p w e = ap (λ b. b && has_word p.span w) e

module _ (ps : List Place) (space numbers : FreeSpace) (waiting : List Waiting) (count peak : ℕ) (K : AreKept ps space numbers waiting count peak) (s : ℕ)
    (known : s < length ps) (used : in_use (place_at ps s).state ≡ true) where
  -- the words of the slot's range are live, and so is the slot
  pub words_live : (w : ℕ) → has_word (place_at ps s).span w ≡ true → is_live space.holes.items space.top w ≡ true
  words_live w h = K.words w ∙ live_at ps s w (live_is (place_at ps s) w used ∙ h)

  pub slot_live : (w : ℕ) → has_word (record { start = s; len = 1 }) w ≡ true → is_live numbers.holes.items numbers.top w ≡ true
  slot_live w h = K.slots w ∙ ap (λ m. in_use (place_at ps m).state) (eqb-true w s (sym (one_word s w) ∙ h)) ∙ used

  pub len_le : (place_at ps s).span.len ≤ count
  len_le = let q = sum_by-set live_len ps s unused unused known in
      let e : live_len (place_at ps s) ≡ (place_at ps s).span.len = cond-true (in_use (place_at ps s).state) (place_at ps s).span.len 0 used in
      let l = K.live in omega arith

  -- the slot is free again, with any version
  pub freed : (space' numbers' : FreeSpace) (waiting' : List Waiting) (p : Place) → in_use p.state ≡ false
      → ((w : ℕ) → is_live space'.holes.items space'.top w ≡ (is_live space.holes.items space.top w && not (has_word (place_at ps s).span w)))
      → space'.top ≤ space.top
      → ((w : ℕ) → is_live numbers'.holes.items numbers'.top w ≡ (is_live numbers.holes.items numbers.top w
      && not (has_word (record { start = s; len = 1 }) w))) → numbers'.top ≤ numbers.top
      → ((t : ℕ) → times waiting' t ≡ held_once (place_at (set ps s p) t))
      → AreKept (set ps s p) space' numbers' waiting' (count - (place_at ps s).span.len) peak
  freed space' numbers' waiting' p idle live top slots slots_top held = record {
    words = λ w. live w ∙ (ap (λ b. b && not (has_word (place_at ps s).span w)) (K.words w)
        ∙ (ap (λ b. some_live ps w && not b) (sym (live_is (place_at ps s) w used))
        ∙ (ap (λ b. (b && has_word p.span w) || (some_live ps w && not (has_live (place_at ps s) w))) (sym idle) ∙ sym (live_set ps s p known K.apart w))));
    slots = λ t. slots t ∙ ⊎_elim
        (λ e. ap (λ b. is_live numbers.holes.items numbers.top t && not b) (one_word s t ∙ eq-eqb t s e)
        ∙ (and_no (is_live numbers.holes.items numbers.top t) ∙ (sym idle
        ∙ sym (ap (λ (q : Place). in_use q.state) (ap (λ m. place_at (set ps s p) m) e ∙ here ps s p known)))))
        (λ n. ap (λ b. is_live numbers.holes.items numbers.top t && not b) (one_word s t ∙ ne_eqb t s n)
        ∙ (and_yes (is_live numbers.holes.items numbers.top t) ∙ (K.slots t ∙ sym (ap (λ (q : Place). in_use q.state) (there ps s p known t n)))))
        (cases_eq t s);
    apart = apart_set ps s p known K.apart (λ w t h n. absurd (both_ways (in_use p.state && has_word p.span w) (ap (λ b. b && has_word p.span w) idle) h));
    live = let q = sum_by-set live_len ps s p unused known in
        let e : live_len (place_at ps s) ≡ (place_at ps s).span.len = cond-true (in_use (place_at ps s).state) (place_at ps s).span.len 0 used in
        let z : live_len p ≡ 0 = cond-false (in_use p.state) p.span.len 0 idle in
        let l = K.live in omega arith;
    few = let f = K.few in omega arith;
    below = let b = K.below in omega arith;
    known = let k = K.known in let n = same_length ps s p in omega arith;
    held = held;
  }
    where
      and_no : (b : Bool) → (b && not true) ≡ false
      and_no true = refl
      and_no false = refl

      and_yes : (b : Bool) → (b && not false) ≡ b
      and_yes true = refl
      and_yes false = refl

  -- the same where the place was read
  pub freed_of : (x : Place) → x ≡ place_at ps s → (space' numbers' : FreeSpace) (waiting' : List Waiting) (p : Place) → in_use p.state ≡ false
      → ((w : ℕ) → is_live space'.holes.items space'.top w ≡ (is_live space.holes.items space.top w && not (has_word x.span w))) → space'.top ≤ space.top
      → ((w : ℕ) → is_live numbers'.holes.items numbers'.top w ≡ (is_live numbers.holes.items numbers.top w
      && not (has_word (record { start = s; len = 1 }) w))) → numbers'.top ≤ numbers.top
      → ((t : ℕ) → times waiting' t ≡ held_once (place_at (set ps s p) t)) → AreKept (set ps s p) space' numbers' waiting' (count - x.span.len) peak
  freed_of x e space' numbers' waiting' p idle = subst
      (λ (y : Place). ((w : ℕ) → is_live space'.holes.items space'.top w ≡ (is_live space.holes.items space.top w && not (has_word y.span w)))
      → space'.top ≤ space.top
      → ((w : ℕ) → is_live numbers'.holes.items numbers'.top w ≡ (is_live numbers.holes.items numbers.top w
      && not (has_word (record { start = s; len = 1 }) w))) → numbers'.top ≤ numbers.top
      → ((t : ℕ) → times waiting' t ≡ held_once (place_at (set ps s p) t)) → AreKept (set ps s p) space' numbers' waiting' (count - y.span.len) peak)
      (sym e) (freed space' numbers' waiting' p idle)

  -- the slot stays in use, with the same range
  pub stays : (waiting' : List Waiting) (p : Place) → in_use p.state ≡ true → p.span ≡ (place_at ps s).span
      → ((t : ℕ) → times waiting' t ≡ held_once (place_at (set ps s p) t)) → AreKept (set ps s p) space numbers waiting' count peak
  stays waiting' p use_p same held = record {
    words = λ w. K.words w ∙ (again (has_live (place_at ps s) w) (some_live ps w) (λ h. live_at ps s w h)
        ∙ (ap (λ b. b || (some_live ps w && not (has_live (place_at ps s) w))) (sym (like w)) ∙ sym (live_set ps s p known K.apart w)));
    slots = λ t. K.slots t ∙ ⊎_elim
        (λ e. ap (λ m. in_use (place_at ps m).state) e ∙ (used ∙ (sym use_p
        ∙ sym (ap (λ (q : Place). in_use q.state) (ap (λ m. place_at (set ps s p) m) e ∙ here ps s p known)))))
        (λ n. sym (ap (λ (q : Place). in_use q.state) (there ps s p known t n))) (cases_eq t s);
    apart = apart_set ps s p known K.apart (λ w t h n. ⊎_elim (λ l. absurd (n (K.apart t s w l (sym (like w) ∙ h)))) (λ f. f)
        (cases_Bool (has_live (place_at ps t) w)));
    live = let q = sum_by-set live_len ps s p unused known in
        let e : live_len (place_at ps s) ≡ (place_at ps s).span.len = cond-true (in_use (place_at ps s).state) (place_at ps s).span.len 0 used in
        let z : live_len p ≡ p.span.len = cond-true (in_use p.state) p.span.len 0 use_p in
        let y : p.span.len ≡ (place_at ps s).span.len = ap (λ (x : Span). x.len) same in
        let l = K.live in omega arith;
    few = K.few;
    below = K.below;
    known = let k = K.known in let n = same_length ps s p in omega arith;
    held = held;
  }
    where
      like : (w : ℕ) → has_live p w ≡ has_live (place_at ps s) w
      like w = live_is p w use_p ∙ (ap (λ (x : Span). has_word x w) same ∙ sym (live_is (place_at ps s) w used))

      again : (h l : Bool) → (h ≡ true → l ≡ true) → l ≡ (h || (l && not h))
      again true l f = f refl
      again false true f = refl
      again false false f = refl

  -- the slot gets another range, of words that were not live
  module _ (version len start : ℕ) where
    abbrev span : Span
    span = record { start = start; len = len }

    abbrev p : Place
    p = record { state = Taken; version = version; span = span }

    pub moved : (space' : FreeSpace) (top : ℕ) (between : ℕ → Bool) → is_taken (place_at ps s).state ≡ true
        → IsFirstFit (is_live space.holes.items space.top) len start
        → ((w : ℕ) → between w ≡ (is_live space.holes.items space.top w || has_word (record { start = start; len = len }) w))
        → top ≤ max space.top (start + len)
        → ((w : ℕ) → is_live space'.holes.items space'.top w ≡ (between w && not (has_word (place_at ps s).span w))) → space'.top ≤ top
        → count + len ≤ MOST_LIVE_WORDS
        → AreKept (set ps s (record { state = Taken; version = version; span = record { start = start; len = len } })) space' numbers waiting
        (count + len - (place_at ps s).span.len) (max peak (start + len))
    moved space' top between is_now fit first top_first after_it top_then few =
        let l = len_le in
        record {
          words = λ w. after_it w ∙ (ap (λ b. b && not (has_word (place_at ps s).span w)) (first w ∙ ap (λ b. b || has_word span w) (K.words w))
              ∙ (ap (λ b. (some_live ps w || has_word span w) && not b) (sym (live_is (place_at ps s) w used))
              ∙ (swap (has_live (place_at ps s) w) (some_live ps w) (has_word span w) (λ h. live_at ps s w h)
              (λ h. sym (K.words w) ∙ fit.free w (within span w h).0 (within span w h).1) ∙ sym (live_set ps s p known K.apart w))));
          slots = λ t. K.slots t ∙ ⊎_elim
              (λ e. ap (λ m. in_use (place_at ps m).state) e ∙ (used ∙ sym
              (ap (λ (q : Place). in_use q.state) (ap (λ m. place_at (set ps s p) m) e ∙ here ps s p known))))
              (λ n. sym (ap (λ (q : Place). in_use q.state) (there ps s p known t n))) (cases_eq t s);
          apart = apart_set ps s p known K.apart (λ w t h n. ⊎_elim (λ l. absurd
              (both_ways _ (sym (K.words w) ∙ fit.free w (within span w h).0 (within span w h).1) (live_at ps t w l))) (λ f. f)
              (cases_Bool (has_live (place_at ps t) w)));
          live = let q = sum_by-set live_len ps s p unused known in
              let e : live_len (place_at ps s) ≡ (place_at ps s).span.len = cond-true (in_use (place_at ps s).state) (place_at ps s).span.len 0 used in
              let k = K.live in omega arith;
          few = omega arith;
          below = let b = K.below in omega arith;
          known = let k = K.known in let n = same_length ps s p in omega arith;
          held = λ t. K.held t ∙ ⊎_elim
              (λ e. ap (λ m. held_once (place_at ps m)) e ∙ (cond-false (is_held (place_at ps s).state) 1 0 (not_held_if_taken (place_at ps s).state is_now)
              ∙ sym (ap held_once (ap (λ m. place_at (set ps s p) m) e ∙ here ps s p known))))
              (λ n. sym (ap held_once (there ps s p known t n))) (cases_eq t s);
        }
      where
        swap : (h l n : Bool) → (h ≡ true → l ≡ true) → (n ≡ true → l ≡ false) → ((l || n) && not h) ≡ (n || (l && not h))
        swap true true true f g = absurd (both_ways true (g refl) refl)
        swap true true false f g = refl
        swap true false n f g = absurd (both_ways false refl (f refl))
        swap false true true f g = refl
        swap false true false f g = refl
        swap false false true f g = refl
        swap false false false f g = refl

-- the same where the place was read
pub moved_of : (ps : List Place) (space numbers : FreeSpace) (waiting : List Waiting) (count peak : ℕ) (K : AreKept ps space numbers waiting count peak) (s : ℕ)
    (known : s < length ps) (used : in_use (place_at ps s).state ≡ true) (x : Place) → x ≡ place_at ps s → (version len start : ℕ) (between space' : FreeSpace)
    → is_taken (place_at ps s).state ≡ true → IsFirstFit (is_live space.holes.items space.top) len start
    → ((w : ℕ) → is_live between.holes.items between.top w ≡ (is_live space.holes.items space.top w || has_word (record { start = start; len = len }) w))
    → between.top ≤ max space.top (start + len)
    → ((w : ℕ) → is_live space'.holes.items space'.top w ≡ (is_live between.holes.items between.top w && not (has_word x.span w))) → space'.top ≤ between.top
    → count + len ≤ MOST_LIVE_WORDS
    → AreKept (set ps s (record { state = Taken; version = version; span = record { start = start; len = len } })) space' numbers waiting
    (count + len - x.span.len) (max peak (start + len))
moved_of ps space numbers waiting count peak K s known used x e version len start between space' is_now fit first top_first after_it top_then few =
    subst (λ (y : Place). AreKept (set ps s (record { state = Taken; version = version; span = record { start = start; len = len } })) space' numbers waiting
    (count + len - y.span.len) (max peak (start + len))) (sym e)
    (moved ps space numbers waiting count peak K s known used version len start space' between.top
    (λ w. is_live between.holes.items between.top w) is_now fit first top_first
    (λ w. subst (λ (y : Place). is_live space'.holes.items space'.top w ≡ (is_live between.holes.items between.top w && not (has_word y.span w))) e
    (after_it w)) top_then few)

pub kept_fit : (ps : List Place) (space numbers : FreeSpace) (waiting : List Waiting) (count peak len start : ℕ) → AreKept ps space numbers waiting count peak
    → IsFirstFit (is_live space.holes.items space.top) len start → IsFirstFit (some_live ps) len start
kept_fit ps space numbers waiting count peak len start K F = record {
  free = λ w a b. sym (K.words w) ∙ F.free w a b;
  lowest = λ lower lt free. F.lowest lower lt (λ w a b. K.words w ∙ free w a b);
}

abbrev cond-one : Bool → ℕ
cond-one b = if b then 1 else 0

-- the list of held slots, where slot s is taken and stays as it is or is held
pub not_listed : (ps : List Place) (waiting : List Waiting) (s : ℕ) (p : Place) → s < length ps → is_taken (place_at ps s).state ≡ true → in_use p.state ≡ false
    → ((t : ℕ) → times waiting t ≡ held_once (place_at ps t)) → (t : ℕ) → times waiting t ≡ held_once (place_at (set ps s p) t)
not_listed ps waiting s p known is_now idle held t = held t ∙ ⊎_elim
    (λ e. ap (λ m. held_once (place_at ps m)) e ∙ (cond-false (is_held (place_at ps s).state) 1 0 (not_held_if_taken (place_at ps s).state is_now)
    ∙ (sym (cond-false (is_held p.state) 1 0 (free_not_held p.state idle)) ∙ sym (ap held_once (ap (λ m. place_at (set ps s p) m) e ∙ here ps s p known)))))
    (λ n. sym (ap held_once (there ps s p known t n))) (cases_eq t s)
  where
    free_not_held : (q : State) → in_use q ≡ false → is_held q ≡ false
    free_not_held Free e = refl
    free_not_held Taken e = refl
    free_not_held (Held users) e = absurd (both_ways true e refl)

pub listed : (ps : List Place) (waiting : List Waiting) (s job : ℕ) (p : Place) → s < length ps → is_taken (place_at ps s).state ≡ true → is_held p.state ≡ true
    → ((t : ℕ) → times waiting t ≡ held_once (place_at ps t)) → (t : ℕ) → times (waiting ++ (record { slot = s; job = job }) ∷ []) t ≡ held_once
    (place_at (set ps s p) t)
listed ps waiting s job p known is_now now held t = sum_by_push (λ (x : Waiting). cond-one (nat_eq x.slot t)) waiting (record { slot = s; job = job }) ∙ ⊎_elim
    (λ e. let a = held t in
    let b : held_once (place_at ps t) ≡ 0 = subst (λ m. held_once (place_at ps m) ≡ 0) (sym e)
    (cond-false (is_held (place_at ps s).state) 1 0 (not_held_if_taken (place_at ps s).state is_now)) in
    let d : held_once (place_at (set ps s p) t) ≡ 1 = ap held_once (ap (λ m. place_at (set ps s p) m) e ∙ here ps s p known)
    ∙ cond-true (is_held p.state) 1 0 now in
    let f : cond-one (nat_eq s t) ≡ 1 = cond-true (nat_eq s t) 1 0 (eq-eqb s t (sym e)) in omega arith)
    (λ n. let a = held t in
    let d : held_once (place_at (set ps s p) t) ≡ held_once (place_at ps t) = ap held_once (there ps s p known t n) in
    let f : cond-one (nat_eq s t) ≡ 0 = cond-false (nat_eq s t) 1 0 (ne_eqb s t (λ e. n (sym e))) in omega arith)
    (cases_eq t s)

pub kept_listed : (ps : List Place) (space numbers : FreeSpace) (waiting waiting' : List Waiting) (count peak : ℕ) → AreKept ps space numbers waiting count peak
    → ((s : ℕ) → times waiting' s ≡ times waiting s) → AreKept ps space numbers waiting' count peak
kept_listed ps space numbers waiting waiting' count peak K same = record {
  words = K.words;
  slots = K.slots;
  apart = K.apart;
  live = K.live;
  few = K.few;
  below = K.below;
  known = K.known;
  held = λ s. same s ∙ K.held s;
}
