-- Texts and their places: the buckets, and the tree of the texts in whose bucket another one is.
use Rattle.std.specs.Prelude.{◌≡◌, ℕ, ◌*◌, ◌/◌, ◌%◌, ◌<◌, ◌^◌, cond, List, length, Option, Some, None, slice_index_or}
use Rattle.std.specs.Cmp.Lexicographic.{slice_cmp}
use Rattle.std.specs.Ordering.{nat_cmp, is_eq}
use Rattle.std.specs.Str.{bytes_eq}
use Rattle.std.specs.Hash.FoldHasher.{initial, write, finish}
use Rattle.std.specs.Map.{lookup}
use Rattle.std.specs.Borrow.{Bor}
use Rattle.text_places.specs.declared.places.Placed.{Placed}

-- where texts are found
pub record Places : Type 0 where
  -- the first text of each bucket
  pub firsts : List (Option Placed)
  -- the texts in whose bucket an earlier one is
  pub others : List (Bor (List ℕ) × ℕ)

-- the bucket of a text, where there are so many: each has as large a part of the lower halves of all hashes
abbrev pub bucket_of : ℕ → List ℕ → ℕ
bucket_of count text = finish (write initial text) % 2 ^ 32 * count / 2 ^ 32

-- the first text of a bucket
abbrev pub first_of : List (Option Placed) → ℕ → Option Placed
first_of firsts bucket = slice_index_or firsts bucket None

-- the first text of a text's bucket
abbrev pub first_for : List (Option Placed) → List ℕ → Option Placed
first_for firsts text = first_of firsts (bucket_of (length firsts) text)

-- the place of a text in whose bucket an earlier one is
abbrev pub other_of : List (Bor (List ℕ) × ℕ) → List ℕ → Option ℕ
other_of others text = lookup (λ k. is_eq (slice_cmp nat_cmp text k.now)) others

-- the place of a text by the first text of its bucket, and by its place among the others
abbrev pub place_by : Option Placed → Option ℕ → List ℕ → Option ℕ
place_by None other text = None
place_by (Some first) other text = cond (bytes_eq first.text.now text) (Some first.place) other

-- the place of a text
abbrev pub place_of : Places → List ℕ → Option ℕ
place_of places text = place_by (first_for places.firsts text) (other_of places.others text) text

-- there are some buckets, or none yet; no text is among the others whose bucket no text has
pub record Separates (count : ℕ) (firsts : List (Option Placed)) (others : List (Bor (List ℕ) × ℕ)) : Type 0 where
  pub some_buckets : 0 < count
  pub few_to_be : count < 2 ^ 32
  pub few_buckets : length firsts < 2 ^ 32
  pub apart : (text : List ℕ) → first_for firsts text ≡ None → other_of others text ≡ None
