-- The table in a map's words: its places, the hash, and how a key is searched for.
use Rattle.std.specs.Prelude.{ℕ, ℤ, pos, zero, suc, ◌+◌, ◌-◌, ◌*◌, ◌/◌, ◌%◌, ◌^◌, ◌<◌, Bool, true, false, not, ◌==◌, ◌||◌, nat_le, if◌then◌else◌, Option, Some, None, bit_and, bit_xor, refl}
use Rattle.std.specs.Ordering.{int_eq}
use Rattle.std.specs.Int.{cast_unsigned, w64}
unfoldable pub use Rattle.native_map.specs.Places.{places}
use Rattle.native_map.specs.Places.{mask_of}
use Rattle.native_map.specs.declared.MapAt.{MapAt}
use Rattle.native_map.specs.declared.search.Spot.{Spot}
use Rattle.native_map.specs.declared.search.Spot.TheVariants.{Held, Free, Nowhere}

-- the map of a capacity whose words begin at a word
abbrev pub map_at : ℕ → ℕ → MapAt
map_at start cap = record { start = start; cap = cap; mask = mask_of cap; sized = refl }

-- ---- the words

-- The count stands in the first word. Then each place has three: whether it holds a pair, its key and its value.
abbrev pub flag_word : ℕ → ℕ → ℕ
flag_word start p = start + (3 * p + 1)

abbrev pub key_word : ℕ → ℕ → ℕ
key_word start p = start + (3 * p + 2)

abbrev pub value_word : ℕ → ℕ → ℕ
value_word start p = start + (3 * p + 3)

-- the first word behind the map
abbrev pub end_of : MapAt → ℕ
end_of at = at.start + (3 * places at.cap + 1)

-- whether a place holds a pair, and which
abbrev pub holds : (ℕ → ℤ) → ℕ → ℕ → Bool
holds cells start p = not (int_eq (cells (flag_word start p)) (pos 0))

abbrev pub key_at : (ℕ → ℤ) → ℕ → ℕ → ℤ
key_at cells start p = cells (key_word start p)

abbrev pub value_at : (ℕ → ℤ) → ℕ → ℕ → ℤ
value_at cells start p = cells (value_word start p)

abbrev pub one_if : Bool → ℕ
one_if true = 1
one_if false = 0

-- how many of the first places hold a pair
abbrev pub held_count : (ℕ → Bool) → ℕ → ℕ
held_count held zero = 0
held_count held (suc n) = one_if (held n) + held_count held n

-- ---- the places in a circle of t

-- the place behind p
abbrev pub next_place : ℕ → ℕ → ℕ
next_place t p = if p + 1 == t then 0 else p + 1

-- how many places it is on from a to b
abbrev pub distance : ℕ → ℕ → ℕ → ℕ
distance t a b = if nat_le a b then b - a else b + t - a

-- linear probing: the first place from p on that stops a search, among n
abbrev pub probe : (ℕ → Bool) → ℕ → ℕ → ℕ → Option ℕ
probe stops t zero p = None
probe stops t (suc n) p = if stops p then Some p else probe stops t n (next_place t p)

-- ---- the hash

-- The bits of a key, mixed as SplitMix64 ends: twice the high bits are folded into the low ones and the number is
-- multiplied.
unfoldable pub mixed : ℕ → ℕ
mixed x =
    let y = (bit_xor x (x / 2 ^ 30) * 0xbf58476d1ce4e5b9) % 2 ^ 64 in
    let z = (bit_xor y (y / 2 ^ 27) * 0x94d049bb133111eb) % 2 ^ 64 in
    bit_xor z (z / 2 ^ 31)

-- the home place of a key among t, a power of two
unfoldable pub home : ℕ → ℤ → ℕ
home t k = bit_and (mixed (cast_unsigned w64 k)) (t - 1)

-- ---- the search

-- It stops at a place that holds nothing, or the key.
abbrev pub stops : (ℕ → ℤ) → ℕ → ℤ → ℕ → Bool
stops cells start k p = not (holds cells start p) || int_eq (key_at cells start p) k

-- the place where the search for a key ends
unfoldable pub place_of : MapAt → (ℕ → ℤ) → ℤ → Option ℕ
place_of at cells k = probe (stops cells at.start k) (places at.cap) (places at.cap) (home (places at.cap) k)

-- what stands at the place where a search ended
abbrev pub spot_in : MapAt → (ℕ → ℤ) → Option ℕ → Spot
spot_in at cells None = Nowhere
spot_in at cells (Some p) = if holds cells at.start p then Held p else Free p

abbrev pub spot_of : MapAt → (ℕ → ℤ) → ℤ → Spot
spot_of at cells k = spot_in at cells (place_of at cells k)

-- a place where a search ended is one of t
abbrev pub IsWithin : ℕ → Spot → Type 0
IsWithin t (Held p) = p < t
IsWithin t (Free p) = p < t
IsWithin t Nowhere = Unit {0}

-- the value that a search found
abbrev pub value_in : MapAt → (ℕ → ℤ) → Spot → Option ℤ
value_in at cells (Held p) = Some (value_at cells at.start p)
value_in at cells (Free p) = None
value_in at cells Nowhere = None

abbrev pub value_of : MapAt → (ℕ → ℤ) → ℤ → Option ℤ
value_of at cells k = value_in at cells (spot_of at cells k)
