-- Bounds on the lengths of holes, by the block of numbers in which they start.
use Rattle.std.specs.Prelude.{ℕ, ◌-◌, ◌/◌, ◌<◌, ◌≤◌, min, List, length, slice_index}
use Rattle.job_base.specs.declared.Span.{Span}
use Rattle.slot_store.specs.declared.blocks.TheConstants.{BLOCK, BLOCKS}
use Rattle.slot_store.specs.Spaces.{start_of, len_of}

-- The block of a number: each has `BLOCK` numbers, but for the last one, which has all others.
abbrev pub block_of : ℕ → ℕ
block_of w = min (w / BLOCK) (BLOCKS - 1)

-- no hole is longer than the bound of its block
abbrev pub AreBounded : List ℕ → List Span → Type 0
AreBounded bounds holes = (k : ℕ) → k < length holes → len_of holes k ≤ slice_index bounds (block_of (start_of holes k))
