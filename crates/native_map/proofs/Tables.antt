-- Tables of places that hold keys, one of whose places may be a hole: it is held, and its key doesn't count.
use Rattle.std.proofs.Common.{◌≡◌, ℕ, ℤ, zero, suc, ◌+◌, ◌<◌, ◌≤◌, ◌≢◌, Bool, true, false, Option, Some, None, refl, sym, ap, subst, ◌∙◌, arith, inl, inr}
use Rattle.std.proofs.lemmas.Bool.{cases_Bool, cases_eq, cases_lt, true≢false}
use Rattle.native_map.specs.Table.{next_place, distance, one_if, held_count}
use Rattle.native_map.proofs.Ints.{cases_int}
use Rattle.native_map.proofs.Probing.{distance_is, next_is, next_below, distance_none, distance_below, distance_some, distance_apart, distance_by, distance_past}

-- ---- how many places hold a pair

pub count_same : (held held' : ℕ → Bool) (n : ℕ) → ((x : ℕ) → x < n → held' x ≡ held x) → held_count held' n ≡ held_count held n
count_same held held' zero same = refl
count_same held held' (suc n) same =
    let here = ap one_if (same n (omega arith)) in
    let rest = count_same held held' n (λ x hx. same x (omega arith)) in
    omega (arith, here, rest)

pub count_more : (held held' : ℕ → Bool) (n p : ℕ) → p < n → held p ≡ false → held' p ≡ true → ((x : ℕ) → x ≢ p → held' x ≡ held x)
    → held_count held' n ≡ held_count held n + 1
count_more held held' zero p hp free now same = absurd (omega arith)
count_more held held' (suc n) p hp free now same = elim (cases_eq n p) [
  | inl e ↦
      let before : one_if (held n) ≡ 0 = ap one_if (ap held e ∙ free) in
      let after : one_if (held' n) ≡ 1 = ap one_if (ap held' e ∙ now) in
      let rest = count_same held held' n (λ x hx. same x (λ q. omega arith)) in
      omega (arith, before, after, rest)
  | inr ne ↦
      let here = ap one_if (same n ne) in
      let rest = count_more held held' n p (omega arith) free now same in
      omega (arith, here, rest)
]

pub count_none : (held : ℕ → Bool) (n : ℕ) → ((x : ℕ) → x < n → held x ≡ false) → held_count held n ≡ 0
count_none held zero none = refl
count_none held (suc n) none =
    let here : one_if (held n) ≡ 0 = ap one_if (none n (omega arith)) in
    let rest = count_none held n (λ x hx. none x (omega arith)) in
    omega (arith, here, rest)

-- fewer pairs than places leave a place free
pub some_free : (held : ℕ → Bool) (n : ℕ) → held_count held n < n → (e : ℕ) × (e < n) × (held e ≡ false)
some_free held zero less = absurd (omega arith)
some_free held (suc n) less = elim (cases_Bool (held n)) [
  | inr free ↦ (n, omega arith, free)
  | inl full ↦
      let here : one_if (held n) ≡ 1 = ap one_if full in
      let w = some_free held n (omega (arith, here)) in
      (w.0, omega (arith, w.1), w.2)
]

module _ (t : ℕ) (home : ℤ → ℕ) (home_below : (k : ℤ) → home k < t) where
  -- no key stands in two places, and the reached to each key is held
  pub record IsTable (held : ℕ → Bool) (key : ℕ → ℤ) (hole : ℕ) : Type 0 where
    pub once : (p q : ℕ) → p < t → q < t → p ≢ hole → q ≢ hole → held p ≡ true → held q ≡ true → key p ≡ key q → p ≡ q
    pub reached : (q x : ℕ) → q < t → x < t → q ≢ hole → held q ≡ true → distance t (home (key q)) x < distance t (home (key q)) q → held x ≡ true

  -- the pairs that the places hold are those that `get` gives
  pub record Gives (held : ℕ → Bool) (key value : ℕ → ℤ) (get : ℤ → Option ℤ) (hole : ℕ) : Type 0 where
    pub given : (q : ℕ) → q < t → q ≢ hole → held q ≡ true → get (key q) ≡ Some (value q)
    pub stands : (k v : ℤ) → get k ≡ Some v → (q : ℕ) × (q < t) × (q ≢ hole) × (held q ≡ true) × (key q ≡ k)

  -- the search for the hole's filler has come from the hole i to j; e is a place that holds nothing
  pub record Shifts (held : ℕ → Bool) (key : ℕ → ℤ) (i j e : ℕ) : Type 0 where
    pub i_below : i < t
    pub j_below : j < t
    pub e_below : e < t
    pub i_held : held i ≡ true
    pub e_free : held e ≡ false
    pub begun : 0 < distance t i j
    pub ahead : distance t i j ≤ distance t i e
    -- the reached to each key between them doesn't lead over the hole
    pub passed : (q : ℕ) → q < t → 0 < distance t i q → distance t i q < distance t i j → distance t (home (key q)) q ≤ distance t (home (key q)) i

  -- the hole may become free when the next_place place is
  pub freed : (held : ℕ → Bool) (key : ℕ → ℤ) (i j e : ℕ) → IsTable held key i → Shifts held key i j e → held j ≡ false
      → (held' : ℕ → Bool) → (held' i ≡ false) → ((x : ℕ) → x ≢ i → held' x ≡ held x) → IsTable held' key t
  freed held key i j e is at free held' here there = record {
    once = λ p q hp hq _ _ sp sq same.
        let not_p : p ≢ i = λ e. true≢false (sym sp ∙ ap held' e ∙ here) in
        let not_q : q ≢ i = λ e. true≢false (sym sq ∙ ap held' e ∙ here) in
        is.once p q hp hq not_p not_q (sym (there p not_p) ∙ sp) (sym (there q not_q) ∙ sq) same;
    reached = λ q x hq hx _ sq lt.
        let not_q : q ≢ i = λ e. true≢false (sym sq ∙ ap held' e ∙ here) in
        let held_q : held q ≡ true = sym (there q not_q) ∙ sq in
        let h = home (key q) in
        let hh : h < t = home_below (key q) in
        let j_not_q : j ≢ q = λ e. true≢false (sym held_q ∙ ap held (sym e) ∙ free) in
        elim (cases_eq x i) [
          | inr not_x ↦ there x not_x ∙ is.reached q x hq hx not_q held_q lt
          | inl same ↦
              let lt' : distance t h i < distance t h q = rw same at lt in
              elim (cases_lt (distance t i q) (distance t i j)) [
                | inl between ↦ absurd (
                    let some : 0 < distance t i q = distance_some t i q at.i_below hq not_q in
                    omega (arith, at.passed q hq some between))
                | inr beyond ↦ absurd (
                    let far = distance_past t h i q hh at.i_below hq (omega arith) in
                    let apart : distance t i j ≢ distance t i q = λ e. j_not_q (distance_apart t i j q at.i_below at.j_below hq e) in
                    let near : distance t h j ≡ distance t h i + distance t i j =
                    distance_by t h i j hh at.i_below at.j_below (omega (arith, distance_below t h q hh hq)) in
                    true≢false (sym (is.reached q j hq at.j_below not_q held_q (omega arith)) ∙ free))
              ]
        ];
  }

  -- a held place that needs no reached over the hole is passed
  pub skipped : (held : ℕ → Bool) (key : ℕ → ℤ) (i j e : ℕ) → Shifts held key i j e → held j ≡ true
      → distance t (home (key j)) j ≤ distance t (home (key j)) i → Shifts held key i (next_place t j) e
  skipped held key i j e at held_j stays =
      let j_not_e : j ≢ e = λ same. true≢false (sym held_j ∙ ap held same ∙ at.e_free) in
      let apart : distance t i j ≢ distance t i e = λ same. j_not_e (distance_apart t i j e at.i_below at.j_below at.e_below same) in
      let further : distance t i (next_place t j) ≡ distance t i j + 1 =
      let a = distance_below t i e at.i_below at.e_below in
      let b = at.ahead in
      omega (
        arith,
        distance_is t i j at.i_below at.j_below,
        next_is t j at.j_below,
        distance_is t i (next_place t j) at.i_below (next_below t j at.j_below),
        at.i_below,
      ) in
      record {
        i_below = at.i_below;
        j_below = next_below t j at.j_below;
        e_below = at.e_below;
        i_held = at.i_held;
        e_free = at.e_free;
        begun = omega arith;
        ahead = omega (arith, at.ahead);
        passed = λ q hq some less. elim (cases_eq (distance t i q) (distance t i j)) [
          | inl same ↦ let at_j = distance_apart t i q j at.i_below hq at.j_below same in
              subst (λ p. distance t (home (key p)) p ≤ distance t (home (key p)) i) (sym at_j) stays
          | inr other ↦ at.passed q hq some (omega arith)
        ];
      }

  module _ (held : ℕ → Bool) (key value : ℕ → ℤ) (i j e : ℕ) (at : Shifts held key i j e) (held_j : held j ≡ true)
      (over : distance t (home (key j)) i < distance t (home (key j)) j)
      (key' value' : ℕ → ℤ) (key_here : key' i ≡ key j) (value_here : value' i ≡ value j)
      (key_there : (x : ℕ) → x ≢ i → key' x ≡ key x) (value_there : (x : ℕ) → x ≢ i → value' x ≡ value x) where
    j_not_i : j ≢ i
    j_not_i same = omega (arith, at.begun, ap (distance t i) same, distance_none t i)

    -- the hole is filled from the next_place place, which is the hole then
    pub moved : IsTable held key i → IsTable held key' j
    moved is = record {
      once = λ p q hp hq not_p not_q sp sq same. elim (cases_eq p i) [
        | inl p_i ↦ elim (cases_eq q i) [
          | inl q_i ↦ p_i ∙ sym q_i
          | inr q_o ↦ absurd (not_q (is.once q j hq at.j_below q_o j_not_i sq held_j (sym (key_there q q_o) ∙ sym same ∙ ap key' p_i ∙ key_here)))
        ]
        | inr p_o ↦ elim (cases_eq q i) [
          | inl q_i ↦ absurd (not_p (is.once p j hp at.j_below p_o j_not_i sp held_j (sym (key_there p p_o) ∙ same ∙ ap key' q_i ∙ key_here)))
          | inr q_o ↦ is.once p q hp hq p_o q_o sp sq (sym (key_there p p_o) ∙ same ∙ key_there q q_o)
        ]
      ];
      reached = λ q x hq hx not_q sq lt. elim (cases_eq q i) [
        | inl q_i ↦
            let k : key' q ≡ key j = ap key' q_i ∙ key_here in
            let less : distance t (home (key j)) x < distance t (home (key j)) i =
            subst (λ k. distance t (home k) x < distance t (home k) i) k
            (subst (λ p. distance t (home (key' q)) x < distance t (home (key' q)) p) q_i lt) in
            is.reached j x at.j_below hx j_not_i held_j (omega arith)
        | inr q_o ↦ is.reached q x hq hx q_o sq (subst (λ k. distance t (home k) x < distance t (home k) q) (key_there q q_o) lt)
      ];
    }

    pub moved_gives : (get : ℤ → Option ℤ) → Gives held key value get i → Gives held key' value' get j
    moved_gives get is = record {
      given = λ q hq not_q sq. elim (cases_eq q i) [
        | inl q_i ↦ ap get (ap key' q_i ∙ key_here) ∙ is.given j at.j_below j_not_i held_j ∙ ap Some (sym value_here ∙ ap value' (sym q_i))
        | inr q_o ↦ ap get (key_there q q_o) ∙ is.given q hq q_o sq ∙ ap Some (sym (value_there q q_o))
      ];
      stands = λ k v g.
          let w = is.stands k v g in
          elim (cases_eq w.0 j) [
            | inl q_j ↦ (i, at.i_below, (λ same. j_not_i (sym same)), at.i_held, key_here ∙ ap key (sym q_j) ∙ w.4)
            | inr q_o ↦ (w.0, w.1, q_o, w.3, key_there w.0 w.2 ∙ w.4)
          ];
    }

    -- and the search for the next_place filler begins
    pub moved_on : Shifts held key' j (next_place t j) e
    moved_on =
        let j_not_e : j ≢ e = λ same. true≢false (sym held_j ∙ ap held same ∙ at.e_free) in
        let one : distance t j (next_place t j) ≡ 1 = omega (
          arith,
          next_is t j at.j_below,
          distance_is t j (next_place t j) at.j_below
              (next_below t j at.j_below),
          distance_is t j e at.j_below at.e_below,
          j_not_e,
          at.e_below,
          at.j_below,
        ) in
        record {
          i_below = at.j_below;
          j_below = next_below t j at.j_below;
          e_below = at.e_below;
          i_held = held_j;
          e_free = at.e_free;
          begun = omega arith;
          ahead = let far = distance_some t j e at.j_below at.e_below (λ same. j_not_e (sym same)) in omega arith;
          passed = λ q hq some less. absurd (omega arith);
        }

  -- what the places hold is the same where the hole becomes free
  pub freed_gives : (held : ℕ → Bool) (key value : ℕ → ℤ) (get : ℤ → Option ℤ) (i : ℕ) → Gives held key value get i
      → (held' : ℕ → Bool) → (held' i ≡ false) → ((x : ℕ) → x ≢ i → held' x ≡ held x) → Gives held' key value get t
  freed_gives held key value get i is held' here there = record {
    given = λ q hq _ sq.
        let not_q : q ≢ i = λ e. true≢false (sym sq ∙ ap held' e ∙ here) in
        is.given q hq not_q (sym (there q not_q) ∙ sq);
    stands = λ k v g. let w = is.stands k v g in (w.0, w.1, (λ same. omega (arith, w.1)), there w.0 w.2 ∙ w.3, w.4);
  }

  no_hole : (x : ℕ) → x < t → x ≢ t
  no_hole x hx e = omega arith

  -- ---- a new key in a place that was free
  module _ (held : ℕ → Bool) (key value : ℕ → ℤ) (p : ℕ) (hp : p < t) (free : held p ≡ false) (k v : ℤ)
      (absent : (q : ℕ) → q < t → held q ≡ true → key q ≢ k)
      (held' : ℕ → Bool) (key' value' : ℕ → ℤ) (held_here : held' p ≡ true) (key_here : key' p ≡ k) (value_here : value' p ≡ v)
      (held_there : (x : ℕ) → x ≢ p → held' x ≡ held x) (key_there : (x : ℕ) → x ≢ p → key' x ≡ key x)
      (value_there : (x : ℕ) → x ≢ p → value' x ≡ value x) where
    pub filled_table : ((x : ℕ) → x < t → distance t (home k) x < distance t (home k) p → held x ≡ true) → IsTable held key t → IsTable held' key' t
    filled_table reached is = record {
      once = λ a b ha hb _ _ sa sb same. elim (cases_eq a p) [
        | inl a_p ↦ elim (cases_eq b p) [
          | inl b_p ↦ a_p ∙ sym b_p
          | inr b_o ↦ absurd (absent b hb (sym (held_there b b_o) ∙ sb) (sym (key_there b b_o) ∙ sym same ∙ ap key' a_p ∙ key_here))
        ]
        | inr a_o ↦ elim (cases_eq b p) [
          | inl b_p ↦ absurd (absent a ha (sym (held_there a a_o) ∙ sa) (sym (key_there a a_o) ∙ same ∙ ap key' b_p ∙ key_here))
          | inr b_o ↦ is.once a b ha hb (no_hole a ha) (no_hole b hb) (sym (held_there a a_o) ∙ sa) (sym (held_there b b_o) ∙ sb)
              (sym (key_there a a_o) ∙ same ∙ key_there b b_o)
        ]
      ];
      reached = λ q x hq hx _ sq lt. elim (cases_eq x p) [
        | inl x_p ↦ ap held' x_p ∙ held_here
        | inr x_o ↦ held_there x x_o ∙ elim (cases_eq q p) [
          | inl q_p ↦ reached x hx (subst (λ k. distance t (home k) x < distance t (home k) p) (ap key' q_p ∙ key_here)
              (subst (λ z. distance t (home (key' q)) x < distance t (home (key' q)) z) q_p lt))
          | inr q_o ↦ is.reached q x hq hx (no_hole q hq) (sym (held_there q q_o) ∙ sq)
              (subst (λ k. distance t (home k) x < distance t (home k) q) (key_there q q_o) lt)
        ]
      ];
    }

    pub filled_gives : (find find' : ℤ → Option ℤ) → find' k ≡ Some v → ((q : ℤ) → q ≢ k → find' q ≡ find q) → Gives held key value find t
        → Gives held' key' value' find' t
    filled_gives find find' here there is = record {
      given = λ q hq _ sq. elim (cases_eq q p) [
        | inl q_p ↦ ap find' (ap key' q_p ∙ key_here) ∙ here ∙ ap Some (sym value_here ∙ ap value' (sym q_p))
        | inr q_o ↦
            let held_q : held q ≡ true = sym (held_there q q_o) ∙ sq in
            ap find' (key_there q q_o) ∙ there (key q) (absent q hq held_q) ∙ is.given q hq (no_hole q hq) held_q ∙ ap Some (sym (value_there q q_o))
      ];
      stands = λ a w g. elim (cases_int a k) [
        | inl a_k ↦ (p, hp, no_hole p hp, held_here, key_here ∙ sym a_k)
        | inr a_o ↦
            let s = is.stands a w (sym (there a a_o) ∙ g) in
            let o : s.0 ≢ p = λ e. true≢false (sym s.3 ∙ ap held e ∙ free) in
            (s.0, s.1, s.2, held_there s.0 o ∙ s.3, key_there s.0 o ∙ s.4)
      ];
    }

  module _ (held : ℕ → Bool) (key value : ℕ → ℤ) (p : ℕ) (hp : p < t) (held_p : held p ≡ true) (k : ℤ) (key_p : key p ≡ k) (is : IsTable held key t) where
    other_key : (q : ℕ) → q < t → q ≢ p → held q ≡ true → key q ≢ k
    other_key q hq ne held_q same = ne (is.once q p hq hp (no_hole q hq) (no_hole p hp) held_q held_p (same ∙ sym key_p))

    -- a new value of a key
    pub rewritten_gives : (v : ℤ) (value' : ℕ → ℤ) → value' p ≡ v → ((x : ℕ) → x ≢ p → value' x ≡ value x)
        → (find find' : ℤ → Option ℤ) → find' k ≡ Some v → ((q : ℤ) → q ≢ k → find' q ≡ find q) → Gives held key value find t → Gives held key value' find' t
    rewritten_gives v value' value_here value_there find find' here there gives = record {
      given = λ q hq _ sq. elim (cases_eq q p) [
        | inl q_p ↦ ap find' (ap key q_p ∙ key_p) ∙ here ∙ ap Some (sym value_here ∙ ap value' (sym q_p))
        | inr q_o ↦ there (key q) (other_key q hq q_o sq) ∙ gives.given q hq (no_hole q hq) sq ∙ ap Some (sym (value_there q q_o))
      ];
      stands = λ a w g. elim (cases_int a k) [
        | inl a_k ↦ (p, hp, no_hole p hp, held_p, key_p ∙ sym a_k)
        | inr a_o ↦ gives.stands a w (sym (there a a_o) ∙ g)
      ];
    }

    -- a key's place becomes a hole
    pub opened : IsTable held key p
    opened = record {
      once = λ a b ha hb _ _ sa sb same. is.once a b ha hb (no_hole a ha) (no_hole b hb) sa sb same;
      reached = λ q x hq hx _ sq lt. is.reached q x hq hx (no_hole q hq) sq lt;
    }

    pub opened_gives : (find find' : ℤ → Option ℤ) → find' k ≡ None → ((q : ℤ) → q ≢ k → find' q ≡ find q) → Gives held key value find t
        → Gives held key value find' p
    opened_gives find find' here there gives = record {
      given = λ q hq not_p sq. there (key q) (other_key q hq not_p sq) ∙ gives.given q hq (no_hole q hq) sq;
      stands = λ a w g. elim (cases_int a k) [
        | inl a_k ↦ let n = sym here ∙ ap find' (sym a_k) ∙ g in absurd (cc)
        | inr a_o ↦
            let s = gives.stands a w (sym (there a a_o) ∙ g) in
            (s.0, s.1, (λ e. a_o (sym s.4 ∙ ap key e ∙ key_p)), s.3, s.4)
      ];
    }

    pub opened_on : (e : ℕ) → e < t → held e ≡ false → Shifts held key p (next_place t p) e
    opened_on e he e_free =
        let ne : p ≢ e = λ same. true≢false (sym held_p ∙ ap held same ∙ e_free) in
        let far = distance_some t p e hp he (λ same. ne (sym same)) in
        let one : distance t p (next_place t p) ≡ 1 = omega (
          arith,
          next_is t p hp,
          distance_is t p (next_place t p) hp (next_below t p hp),
          distance_is t p e hp he,
          ne,
        ) in
        record {
          i_below = hp;
          j_below = next_below t p hp;
          e_below = he;
          i_held = held_p;
          e_free = e_free;
          begun = omega arith;
          ahead = omega arith;
          passed = λ q hq some less. absurd (omega arith);
        }
