use Rattle.std.proofs.Common.{ap, subst, ◌≤◌}
use Rattle.job_base.specs.declared.limits.TheConstants.{MOST_WORKERS}
use Rattle.frame_top.proofs.Asked.{workers_in_command, workers_fit}
use Rattle.frame_top.proofs.inputs.options_of.Goals as goal

pub returns-in-Run-clause-some : goal.returns-in-Run-clause-some
returns-in-Run-clause-some c = subst (λ n. 1 ≤ n) (ap workers_in_command c.in-Run.is) (workers_fit _ _ c.requires.asked.1).0

pub returns-in-Run-clause-most : goal.returns-in-Run-clause-most
returns-in-Run-clause-most c = subst (λ n. n ≤ MOST_WORKERS) (ap workers_in_command c.in-Run.is) (workers_fit _ _ c.requires.asked.1).1

pub returns-in-Gen-clause-some : goal.returns-in-Gen-clause-some
returns-in-Gen-clause-some c = subst (λ n. 1 ≤ n) (ap workers_in_command c.in-Gen.is) (workers_fit _ _ c.requires.asked.1).0

pub returns-in-Gen-clause-most : goal.returns-in-Gen-clause-most
returns-in-Gen-clause-most c = subst (λ n. n ≤ MOST_WORKERS) (ap workers_in_command c.in-Gen.is) (workers_fit _ _ c.requires.asked.1).1
