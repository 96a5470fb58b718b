-- What holds of the words of streams, whatever is called.
use Rattle.std.specs.Prelude.{◌≡◌, ℕ, ◌<◌, ◌≤◌, ℤ, pos, None, replicate}
use Rattle.job_base.specs.Forms.{AlikeWithin}
use Rattle.frame_ast.specs.Contents.{Contents, Entries}
use Rattle.native_stream.specs.declared.StreamAt.{StreamAt}
use Rattle.native_stream.specs.Layout.{end_of, StandsFor}

-- words of 0 stand for a stream of which no index is written
abbrev pub ZeroWordsAreUnwritten : Type 0
ZeroWordsAreUnwritten = (at : StreamAt) (cells : ℕ → ℤ) → ((w : ℕ) → at.start ≤ w → w < end_of at → cells w ≡ pos 0)
    → StandsFor at cells (Entries at.room (replicate at.count None))

pub record OwnWordsDecide : Type 0 where
  -- what words stand for rests on the words of the stream alone
  pub same : (at : StreamAt) (a b : ℕ → ℤ) (c : Contents) → AlikeWithin at.start (end_of at) a b → StandsFor at a c
      → StandsFor at b c
  -- and is one thing
  pub once : (at : StreamAt) (cells : ℕ → ℤ) (c d : Contents) → StandsFor at cells c → StandsFor at cells d → c ≡ d
