use Rattle.job_depth.specs.Direct.{level_of, number_of}
use Rattle.job_depth.proofs.Chaining.{IsWalkedTo}
use Rattle.job_depth.proofs.chain.chain_to.Given as goal

abbrev pub invariant-loop-job : goal.invariant-loop-job
invariant-loop-job l = IsWalkedTo l.plan l.found.levels.items l.fn.last l.job l.chain.items

abbrev pub decreases-loop-job : goal.decreases-loop-job
decreases-loop-job l = level_of l.found.levels.items (number_of l.job)
