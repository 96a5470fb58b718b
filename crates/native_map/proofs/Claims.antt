-- What is said of a call again and again.
use Rattle.std.proofs.Common.{ℕ, ℤ}
use Rattle.job_base.specs.Forms.{AlikeWithin, SameBeyond, Reaches}
use Rattle.frame_ast.specs.Contents.{Contents}
use Rattle.native_map.specs.declared.MapAt.{MapAt}
use Rattle.native_map.specs.Table.{end_of}
use Rattle.native_map.specs.Layout.{StandsFor}

-- a call whose answer and cells these are has this effect
abbrev pub Becomes : {A : Type 0} → MapAt → A × (ℕ → ℤ) → A × Contents → Type 0
Becomes at after effect = Reaches (StandsFor at) after effect

-- each cell outside the map stays
abbrev pub SameOutside : MapAt → (ℕ → ℤ) → (ℕ → ℤ) → Type 0
SameOutside at old new = SameBeyond at.start (end_of at) old new

-- the cells agree on the words of the map
abbrev pub Alike : MapAt → (ℕ → ℤ) → (ℕ → ℤ) → Type 0
Alike at a b = AlikeWithin at.start (end_of at) a b
