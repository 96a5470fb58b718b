-- Which contents the words of a map stand for.
use Rattle.std.specs.Prelude.{◌≡◌, ℕ, ℤ, pos, ◌<◌, ◌≤◌, true, Some, List, length, IsTrue, ◌⊎◌}
use Rattle.std.specs.Ordering.{int_cmp}
use Rattle.std.specs.FinMap.Entries.{is_sorted}
use Rattle.job_base.specs.Forms.{IsForm}
use Rattle.frame_ast.specs.Contents.{Contents, Pairs, value_of_key}
use Rattle.native_map.specs.declared.MapAt.{MapAt}
use Rattle.native_map.specs.Table.{places, flag_word, key_at, holds, place_of, value_of, held_count, end_of}

-- The table holds these pairs. They are listed by rising key; which place has which is the table's own choice.
pub record HoldsPairs (at : MapAt) (cells : ℕ → ℤ) (ps : List (ℤ × ℤ)) : Type 0 where
  pub rising : IsTrue (is_sorted int_cmp ps)
  pub flags : (p : ℕ) → p < places at.cap → (cells (flag_word at.start p) ≡ pos 0)
      ⊎ (cells (flag_word at.start p) ≡ pos 1)
  -- The search for each key that stands in a place ends at that place, so no key stands in two.
  pub searched : (p : ℕ) → p < places at.cap → holds cells at.start p ≡ true
      → place_of at cells (key_at cells at.start p) ≡ Some p
  pub pairs : (k : ℤ) → value_of_key ps k ≡ value_of at cells k
  -- the count is the number of places that hold a pair
  pub number : held_count (holds cells at.start) (places at.cap) ≡ length ps
  pub count : cells at.start ≡ pos (length ps)
  pub within : length ps ≤ at.cap

-- The words stand for a map of its capacity, with the pairs that its table holds.
abbrev pub StandsFor : MapAt → (ℕ → ℤ) → Contents → Type 0
StandsFor at cells contents = (ps : List (ℤ × ℤ)) × (contents ≡ Pairs at.cap ps) × HoldsPairs at cells ps

-- the word form of an effect on a map's contents
abbrev pub IsWordForm : {A : Type 0} → MapAt → ((ℕ → ℤ) → A × (ℕ → ℤ)) → (Contents → A × Contents) → Type 0
IsWordForm at form effect = IsForm at.start (end_of at) (StandsFor at) form effect
