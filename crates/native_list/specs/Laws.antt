-- What holds of the words of lists, whatever is called.
use Rattle.std.specs.Prelude.{◌≡◌, ℕ, ◌<◌, ◌≤◌, ℤ, pos, []}
use Rattle.job_base.specs.Forms.{AlikeWithin}
use Rattle.frame_ast.specs.Contents.{Contents, Items}
use Rattle.native_list.specs.declared.ListAt.{ListAt}
use Rattle.native_list.specs.Layout.{end_of, StandsFor}

-- words of 0 stand for the empty list
abbrev pub ZeroWordsAreEmpty : Type 0
ZeroWordsAreEmpty = (at : ListAt) (cells : ℕ → ℤ) → ((w : ℕ) → at.start ≤ w → w < end_of at → cells w ≡ pos 0)
    → StandsFor at cells (Items at.cap [])

pub record OwnWordsDecide : Type 0 where
  -- what words stand for rests on the words of the list alone
  pub same : (at : ListAt) (a b : ℕ → ℤ) (c : Contents) → AlikeWithin at.start (end_of at) a b → StandsFor at a c
      → StandsFor at b c
  -- and is one thing
  pub once : (at : ListAt) (cells : ℕ → ℤ) (c d : Contents) → StandsFor at cells c → StandsFor at cells d → c ≡ d
