-- A part of an array, which is an array of its own in the same words.
use Rattle.std.specs.Prelude.{ℕ, ◌+◌, nat_le, if◌then◌else◌, ℤ, List, ◌++◌, take, drop, Option, Some, None}
use Rattle.job_base.specs.Forms.{SameBeyond}
use Rattle.frame_ast.specs.Contents.{Contents, Cells, elements}
use Rattle.native_array.specs.declared.array.ArrayAt.{ArrayAt}
use Rattle.native_array.specs.Layout.{end_of, StandsFor}

abbrev pub slice_of : ArrayAt → ℕ → ℕ → Option ArrayAt
slice_of at start len = if nat_le (start + len) at.len then Some
    (record { start = at.start + start; len = len }) else None

-- the part has the `len` elements of the array from `start` on
pub record IsPartOf (at part : ArrayAt) (start len : ℕ) : Type 0 where
  pub reads : (cells : ℕ → ℤ) (c : Contents) → StandsFor at cells c
      → StandsFor part cells (Cells (take len (drop start (elements c))))
  -- a change of the part's words alone changes these elements and no others
  pub writes : (old new : ℕ → ℤ) (c : Contents) (ys : List ℤ) → StandsFor at old c → StandsFor part new (Cells ys)
      → SameBeyond part.start (end_of part) old new
      → StandsFor at new (Cells (take start (elements c) ++ ys ++ drop (start + len) (elements c)))
