-- The names that are known, and the table and the map that find their places.
use Rattle.std.specs.Prelude.{◌≡◌, ℕ, ◌*◌, ◌/◌, ◌<◌, ◌^◌, cond, List, length, map, Option, Some, None, slice_get, slice_index_or}
use Rattle.std.specs.Str.{bytes_eq}
use Rattle.std.specs.Hash.FoldHasher.{initial, write, finish}
use Rattle.text_places.specs.Places.{Places, place_of}
use Rattle.script_names.specs.declared.names.Entry.{Entry}
use Rattle.script_names.specs.Names.{Name, place_in}

abbrev pub known_of : Entry → Name
known_of e = record { text = e.text.now; kind = e.kind }

-- the hash of a name: half of what std's hasher makes of its bytes
abbrev pub hash_of : List ℕ → ℕ
hash_of text = finish (write initial text) / 2 ^ 32

-- the bucket of a name, where there are so many: each has as large a part of all hashes
abbrev pub bucket_of : ℕ → List ℕ → ℕ
bucket_of count text = hash_of text * count / 2 ^ 32

-- the place of the first name of a bucket
abbrev pub first_of : List (Option ℕ) → ℕ → Option ℕ
first_of firsts bucket = slice_index_or firsts bucket None

-- the place of the first name of a text's bucket
abbrev pub first_for : List (Option ℕ) → List ℕ → Option ℕ
first_for firsts text = first_of firsts (bucket_of (length firsts) text)

-- the place of a name in whose bucket an earlier name is
abbrev pub other_of : Places → List ℕ → Option ℕ
other_of others text = place_of others text

-- a known name is found at the first name of its bucket, or among the others; no other name is found
pub record IsIndex (firsts : List (Option ℕ)) (others : Places) (entries : List Entry) : Type 0 where
  pub few : length entries < 2 ^ 32
  pub some_buckets : 0 < length firsts
  pub few_buckets : length firsts < 2 ^ 32
  -- each first name is one of them
  pub within : (bucket place : ℕ) → first_of firsts bucket ≡ Some place → place < length entries
  -- no name has a bucket that no first name has
  pub missing : (text : List ℕ) → first_for firsts text ≡ None → place_in (map known_of entries) text ≡ None
  pub apart : (text : List ℕ) → first_for firsts text ≡ None → other_of others text ≡ None
  -- a name is the first of its bucket, or one of the others
  pub finds : (text : List ℕ) (place : ℕ) (first : Entry) → first_for firsts text ≡ Some place
      → slice_get entries place ≡ Some first →
      place_in (map known_of entries) text ≡ cond (bytes_eq first.text.now text) (Some place) (other_of others text)
