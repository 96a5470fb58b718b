use Rattle.std.proofs.Common.{ℕ, ◌≡◌, ◌≤◌, vec_len}
use Rattle.kernel_code.specs.Known.{stands_in}
use Rattle.kernel_code.proofs.check.streams.close_blocks.Given as goal

abbrev pub invariant-loop-block : goal.invariant-loop-block
invariant-loop-block l = (x j : ℕ) → l.node ≤ j → stands_in x j l.blocks.items ≡ stands_in x j l.initial.blocks.items

abbrev pub decreases-loop-block : goal.decreases-loop-block
decreases-loop-block l = vec_len l.blocks
