-- The word form of each call: its answer and the cells after, from the cells before.
use Rattle.std.specs.Prelude.{ℕ, ℤ, pos, negsuc, min, zero, suc, Bool, true, false, not, ◌&&◌, nat_lt, if◌then◌else◌, Option, Some, None, is_some, Result, Ok, Err, int_lt, ◌+ℤ◌, List, [], ◌∷◌, ◌++◌, length}
use Rattle.std.specs.Int.{w64, int_wrapping_sub}
use Rattle.job_base.specs.declared.Trap.{Trap}
use Rattle.job_base.specs.declared.Trap.TheVariants.{Full, PresentKey}
use Rattle.job_base.specs.Cells.{with_cell}
use Rattle.frame_ast.specs.Contents.{present_value}
use Rattle.native_map.specs.declared.MapAt.{MapAt}
use Rattle.native_map.specs.declared.search.Spot.{Spot}
use Rattle.native_map.specs.declared.search.Spot.TheVariants.{Held, Free, Nowhere}
use Rattle.native_map.specs.Table.{places, flag_word, key_word, value_word, holds, key_at, value_at, next_place, distance, home, spot_of, value_of}

-- ---- searching

abbrev pub get_words : MapAt → (ℕ → ℤ) → ℤ → Result ℤ Trap
get_words at cells k = present_value (value_of at cells k)

abbrev pub has_words : MapAt → (ℕ → ℤ) → ℤ → Bool
has_words at cells k = is_some (value_of at cells k)

-- ---- adding

abbrev pub is_full : MapAt → (ℕ → ℤ) → Bool
is_full at cells = not (int_lt (cells at.start) (pos at.cap))

-- the cells with a pair at place p, and the count one higher
abbrev pub filled : MapAt → (ℕ → ℤ) → ℕ → ℤ → ℤ → ℕ → ℤ
filled at cells p k v =
    with_cell (with_cell (with_cell (with_cell cells (key_word at.start p) k) (value_word at.start p) v)
    (flag_word at.start p) (pos 1)) at.start (cells at.start +ℤ pos 1)

abbrev pub add_words_at : MapAt → (ℕ → ℤ) → ℕ → ℤ → ℤ → Result (Unit {0}) Trap × (ℕ → ℤ)
add_words_at at cells p k v = if is_full at cells then (Err Full, cells) else (Ok tt, filled at cells p k v)

abbrev pub put_words_in : MapAt → (ℕ → ℤ) → Spot → ℤ → ℤ → Result (Unit {0}) Trap × (ℕ → ℤ)
put_words_in at cells (Held p) k v = (Ok tt, with_cell cells (value_word at.start p) v)
put_words_in at cells (Free p) k v = add_words_at at cells p k v
put_words_in at cells Nowhere k v = (Err Full, cells)

abbrev pub put_words : MapAt → (ℕ → ℤ) → ℤ → ℤ → Result (Unit {0}) Trap × (ℕ → ℤ)
put_words at cells k v = put_words_in at cells (spot_of at cells k) k v

abbrev pub add_words_in : MapAt → (ℕ → ℤ) → Spot → ℤ → ℤ → Result (Unit {0}) Trap × (ℕ → ℤ)
add_words_in at cells (Held p) k v = (Err PresentKey, cells)
add_words_in at cells (Free p) k v = add_words_at at cells p k v
add_words_in at cells Nowhere k v = (Err Full, cells)

abbrev pub add_words : MapAt → (ℕ → ℤ) → ℤ → ℤ → Result (Unit {0}) Trap × (ℕ → ℤ)
add_words at cells k v = add_words_in at cells (spot_of at cells k) k v

abbrev pub try_add_words_at : MapAt → (ℕ → ℤ) → ℕ → ℤ → ℤ → Result Bool Trap × (ℕ → ℤ)
try_add_words_at at cells p k v = if is_full at cells then (Err Full, cells) else (Ok true, filled at cells p k v)

abbrev pub try_add_words_in : MapAt → (ℕ → ℤ) → Spot → ℤ → ℤ → Result Bool Trap × (ℕ → ℤ)
try_add_words_in at cells (Held p) k v = (Ok false, cells)
try_add_words_in at cells (Free p) k v = try_add_words_at at cells p k v
try_add_words_in at cells Nowhere k v = (Err Full, cells)

abbrev pub try_add_words : MapAt → (ℕ → ℤ) → ℤ → ℤ → Result Bool Trap × (ℕ → ℤ)
try_add_words at cells k v = try_add_words_in at cells (spot_of at cells k) k v

-- ---- removing

-- whether the search for the key at place j passes place i
abbrev pub passes : MapAt → (ℕ → ℤ) → ℕ → ℕ → Bool
passes at cells i j =
    let t = places at.cap in
    let h = home t (key_at cells at.start j) in
    nat_lt (distance t h i) (distance t h j)

-- the cells with the key and the value of place j at place i too
abbrev pub copied : MapAt → (ℕ → ℤ) → ℕ → ℕ → ℕ → ℤ
copied at cells i j = with_cell (with_cell cells (key_word at.start i) (key_at cells at.start j))
    (value_word at.start i) (value_at cells at.start j)

-- Backward shift deletion: place i becomes free. Up to the end of the cluster, from place j on, each pair whose search
-- passes the gap moves back into it, and leaves a gap in turn.
abbrev pub shifted : MapAt → ℕ → (ℕ → ℤ) → ℕ → ℕ → ℕ → ℤ
shifted at zero cells i j = with_cell cells (flag_word at.start i) (pos 0)
shifted at (suc n) cells i j =
    if holds cells at.start j
    then (if passes at cells i j then shifted at n (copied at cells i j) j
    (next_place (places at.cap) j) else shifted at n cells i (next_place (places at.cap) j))
    else with_cell cells (flag_word at.start i) (pos 0)

abbrev pub remove_words_in : MapAt → (ℕ → ℤ) → Spot → Bool × (ℕ → ℤ)
remove_words_in at cells (Held p) =
    let t = places at.cap in
    (true, with_cell (shifted at t cells p (next_place t p)) at.start (int_wrapping_sub w64 (cells at.start) (pos 1)))
remove_words_in at cells (Free p) = (false, cells)
remove_words_in at cells Nowhere = (false, cells)

abbrev pub remove_words : MapAt → (ℕ → ℤ) → ℤ → Bool × (ℕ → ℤ)
remove_words at cells k = remove_words_in at cells (spot_of at cells k)

-- the flags of the first places become 0
abbrev pub emptied : MapAt → (ℕ → ℤ) → ℕ → ℕ → ℤ
emptied at cells zero = cells
emptied at cells (suc n) = with_cell (emptied at cells n) (flag_word at.start n) (pos 0)

abbrev pub clear_words : MapAt → (ℕ → ℤ) → ℕ → ℤ
clear_words at cells = with_cell (emptied at cells (places at.cap)) at.start (pos 0)

-- ---- listing

-- the count word, brought into its range
abbrev pub counted : ℕ → ℤ → ℕ
counted cap (pos n) = min n cap
counted cap (negsuc n) = 0

abbrev pub count_words : MapAt → (ℕ → ℤ) → ℕ
count_words at cells = counted at.cap (cells at.start)

abbrev pub is_above : Option ℤ → ℤ → Bool
is_above None q = true
is_above (Some k) q = int_lt k q

abbrev pub is_nearer : Option (ℤ × ℤ) → ℤ → Bool
is_nearer None q = true
is_nearer (Some best) q = int_lt q best.0

-- the best pair so far, or the pair at place p
abbrev pub nearer : MapAt → (ℕ → ℤ) → Option ℤ → Option (ℤ × ℤ) → ℕ → Option (ℤ × ℤ)
nearer at cells k best p =
    if holds cells at.start p && (is_above k (key_at cells at.start p) && is_nearer best (key_at cells at.start p))
    then Some (key_at cells at.start p, value_at cells at.start p) else best

-- the pair with the least key above, among the first places
abbrev pub nearest : MapAt → (ℕ → ℤ) → Option ℤ → ℕ → Option (ℤ × ℤ)
nearest at cells k zero = None
nearest at cells k (suc n) = nearer at cells k (nearest at cells k n) n

abbrev pub next_words : MapAt → (ℕ → ℤ) → Option ℤ → Option (ℤ × ℤ)
next_words at cells k = nearest at cells k (places at.cap)

-- the pairs with that of place p behind them, where it holds one and a map may have one more
abbrev pub with_place : MapAt → (ℕ → ℤ) → List (ℤ × ℤ) → ℕ → List (ℤ × ℤ)
with_place at cells ps p =
    if holds cells at.start p && nat_lt (length ps) at.cap then ps
    ++ (key_at cells at.start p, value_at cells at.start p) ∷ [] else ps

-- the pairs that the first places hold, in the order of the places, as many as a map may have
abbrev pub gathered : MapAt → (ℕ → ℤ) → ℕ → List (ℤ × ℤ)
gathered at cells zero = []
gathered at cells (suc n) = with_place at cells (gathered at cells n) n

abbrev pub all_gathered : MapAt → (ℕ → ℤ) → List (ℤ × ℤ)
all_gathered at cells = gathered at cells (places at.cap)
