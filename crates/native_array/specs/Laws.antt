-- What holds of the words of arrays and references, whatever is called.
use Rattle.std.specs.Prelude.{◌≡◌, ℕ, ◌+◌, ◌<◌, ◌≤◌, ℤ, pos, replicate}
use Rattle.job_base.specs.Forms.{AlikeWithin}
use Rattle.frame_ast.specs.Contents.{Contents, Cells, Single}
use Rattle.native_array.specs.declared.array.ArrayAt.{ArrayAt}
use Rattle.native_array.specs.declared.reference.RefAt.{RefAt}
use Rattle.native_array.specs.Layout.{end_of, StandsFor, RefStandsFor}

-- words of 0 stand for zeros
pub record ZeroWordsAreZeros : Type 0 where
  pub array : (at : ArrayAt) (cells : ℕ → ℤ) → ((w : ℕ) → at.start ≤ w → w < end_of at → cells w ≡ pos 0)
      → StandsFor at cells (Cells (replicate at.len (pos 0)))
  pub reference : (at : RefAt) (cells : ℕ → ℤ) → cells at.start ≡ pos 0 → RefStandsFor at cells (Single (pos 0))

-- what words stand for rests on the words of the container alone
pub record OwnWordsDecide : Type 0 where
  pub array : (at : ArrayAt) (a b : ℕ → ℤ) (c : Contents) → AlikeWithin at.start (end_of at) a b → StandsFor at a c
      → StandsFor at b c
  pub reference : (at : RefAt) (a b : ℕ → ℤ) (c : Contents) → AlikeWithin at.start (at.start + 1) a b
      → RefStandsFor at a c → RefStandsFor at b c
