-- What holds of the words of maps, whatever is called.
use Rattle.std.specs.Prelude.{◌≡◌, ℕ, ◌<◌, ◌≤◌, ℤ, pos, []}
use Rattle.frame_ast.specs.Contents.{Pairs}
use Rattle.native_map.specs.declared.MapAt.{MapAt}
use Rattle.native_map.specs.Table.{end_of}
use Rattle.native_map.specs.Layout.{StandsFor}

-- words of 0 stand for the empty map
abbrev pub ZeroWordsAreEmpty : Type 0
ZeroWordsAreEmpty = (at : MapAt) (cells : ℕ → ℤ) → ((w : ℕ) → at.start ≤ w → w < end_of at → cells w ≡ pos 0)
    → StandsFor at cells (Pairs at.cap [])
