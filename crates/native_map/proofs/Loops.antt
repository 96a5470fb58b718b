-- One turn of each loop.
use Rattle.std.proofs.Common.{◌≡◌, ℕ, ℤ, pos, suc, ◌+◌, ◌-◌, ◌<◌, Bool, true, false, cond, not, ◌||◌, Option, Some, None, refl, sym, ap, ◌∙◌, arith}
use Rattle.std.specs.Ordering.{int_eq}
use Rattle.job_base.specs.Cells.{with_cell}
use Rattle.native_map.specs.declared.MapAt.{MapAt}
use Rattle.native_map.specs.declared.search.Spot.TheVariants.{Held, Free, Nowhere}
use Rattle.native_map.specs.Table.{next_place, probe, flag_word, holds, key_at, stops, places, place_of, home, spot_in, spot_of}
use Rattle.native_map.specs.Words.{nearer, nearest, copied, passes, shifted, with_place, gathered}

pub probe_more : (stops : ℕ → Bool) (t n i p : ℕ) (r : Option ℕ) → i < n → stops p ≡ false → probe stops t (n - i) p ≡ r
    → probe stops t (n - (i + 1)) (next_place t p) ≡ r
probe_more stops t n i p r lt s e =
    let c : n - i ≡ suc (n - (i + 1)) = omega arith in
    sym (ap (λ b. cond b (Some p) (probe stops t (n - (i + 1)) (next_place t p))) s) ∙ sym (ap (λ m. probe stops t m p) c) ∙ e

pub probe_stop : (stops : ℕ → Bool) (t n i p : ℕ) → i < n → stops p ≡ true → probe stops t (n - i) p ≡ Some p
probe_stop stops t n i p lt s =
    let c : n - i ≡ suc (n - (i + 1)) = omega arith in
    ap (λ m. probe stops t m p) c ∙ ap (λ b. cond b (Some p) (probe stops t (n - (i + 1)) (next_place t p))) s

-- a place that holds another key doesn't stop the search
pub goes_by : (cells : ℕ → ℤ) (start p : ℕ) (k : ℤ) → holds cells start p ≡ true → int_eq (key_at cells start p) k ≡ false → stops cells start k p ≡ false
goes_by cells start p k held other = ap (λ b. (not b || int_eq (key_at cells start p) k)) held ∙ other

pub stops_at : (cells : ℕ → ℤ) (start p : ℕ) (k : ℤ) → int_eq (key_at cells start p) k ≡ true → stops cells start k p ≡ true
stops_at cells start p k same = elim (holds cells start p) as (λ b. (not b || int_eq (key_at cells start p) k) ≡ true) [ true ↦ same | false ↦ refl ]

pub stops_free : (cells : ℕ → ℤ) (start p : ℕ) (k : ℤ) → holds cells start p ≡ false → stops cells start k p ≡ true
stops_free cells start p k free = ap (λ b. (not b || int_eq (key_at cells start p) k)) free

pub spot_held : (at : MapAt) (cells : ℕ → ℤ) (k : ℤ) (p : ℕ) → holds cells at.start p ≡ true → place_of at cells k ≡ Some p → Held p ≡ spot_of at cells k
spot_held at cells k p held e = sym (ap (spot_in at cells) e ∙ ap (λ b. cond b (Held p) (Free p)) held)

pub spot_free : (at : MapAt) (cells : ℕ → ℤ) (k : ℤ) (p : ℕ) → holds cells at.start p ≡ false → place_of at cells k ≡ Some p → Free p ≡ spot_of at cells k
spot_free at cells k p free e = sym (ap (spot_in at cells) e ∙ ap (λ b. cond b (Held p) (Free p)) free)

pub spot_nowhere : (at : MapAt) (cells : ℕ → ℤ) (k : ℤ) → place_of at cells k ≡ None → Nowhere ≡ spot_of at cells k
spot_nowhere at cells k e = sym (ap (spot_in at cells) e)

pub probe_over : (stops : ℕ → Bool) (t n p : ℕ) → probe stops t (n - n) p ≡ None
probe_over stops t n p = let e : n - n ≡ 0 = omega arith in ap (λ m. probe stops t m p) e

pub begins : (at : MapAt) (cells : ℕ → ℤ) (k : ℤ) (t h : ℕ) → t ≡ places at.cap → h ≡ home t k
    → probe (stops cells at.start k) t (t - 0) h ≡ place_of at cells k
unfolding place_of
begins at cells k t h e f = let z : t - 0 ≡ t = omega arith in rw (z, f, e) refl

pub shift_stop : (at : MapAt) (cells : ℕ → ℤ) (n c i j : ℕ) → c < n → holds cells at.start j ≡ false
    → shifted at (n - c) cells i j ≡ with_cell cells (flag_word at.start i) (pos 0)
shift_stop at cells n c i j lt free =
    let s : n - c ≡ suc (n - (c + 1)) = omega arith in
    ap (λ m. shifted at m cells i j) s
    ∙ ap (λ b. cond b (cond (passes at cells i j) (shifted at (n - (c + 1)) (copied at cells i j) j (next_place (places at.cap) j))
    (shifted at (n - (c + 1)) cells i (next_place (places at.cap) j))) (with_cell cells (flag_word at.start i) (pos 0))) free

pub shift_more : (at : MapAt) (cells : ℕ → ℤ) (n c i j : ℕ) → c < n → holds cells at.start j ≡ true
    → (cells' : ℕ → ℤ) → cells' ≡ cond (passes at cells i j) (copied at cells i j) cells → (i' : ℕ) → i' ≡ cond (passes at cells i j) j i
    → shifted at (n - (c + 1)) cells' i' (next_place (places at.cap) j) ≡ shifted at (n - c) cells i j
shift_more at cells n c i j lt held cells' e i' f =
    let s : n - c ≡ suc (n - (c + 1)) = omega arith in
    let m = n - (c + 1) in
    let k = next_place (places at.cap) j in
    ap (λ x. shifted at m x i' k) e ∙ ap (λ x. shifted at m (cond (passes at cells i j) (copied at cells i j) cells) x k) f
    ∙ elim (passes at cells i j) as (λ b. shifted at m (cond b (copied at cells i j) cells) (cond b j i) k ≡ cond b (shifted at m (copied at cells i j) j k)
    (shifted at m cells i k)) [ true ↦ refl | false ↦ refl ]
    ∙ sym (ap (λ b. cond b (cond (passes at cells i j) (shifted at m (copied at cells i j) j k) (shifted at m cells i k))
    (with_cell cells (flag_word at.start i) (pos 0))) held)
    ∙ sym (ap (λ m. shifted at m cells i j) s)

pub shift_over : (at : MapAt) (cells : ℕ → ℤ) (n i j : ℕ) → shifted at (n - n) cells i j ≡ with_cell cells (flag_word at.start i) (pos 0)
shift_over at cells n i j = let e : n - n ≡ 0 = omega arith in ap (λ m. shifted at m cells i j) e

pub below_either : (b : Bool) (i j t : ℕ) → i < t → j < t → cond b j i < t
below_either true i j t hi hj = hj
below_either false i j t hi hj = hi

pub nearest_more : (at : MapAt) (cells : ℕ → ℤ) (k : Option ℤ) (p : ℕ) → nearer at cells k (nearest at cells k p) p ≡ nearest at cells k (p + 1)
nearest_more at cells k p = let e : suc p ≡ p + 1 = omega arith in ap (λ n. nearest at cells k n) e

pub gathered_more : (at : MapAt) (cells : ℕ → ℤ) (p : ℕ) → with_place at cells (gathered at cells p) p ≡ gathered at cells (p + 1)
gathered_more at cells p = let e : suc p ≡ p + 1 = omega arith in ap (λ n. gathered at cells n) e
