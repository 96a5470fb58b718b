use Rattle.std.proofs.Common.{◌≡◌, ◌++◌, drop, map}
use Rattle.trace_view.specs.Shapes.{job_shape, job_shapes}
use Rattle.trace_view.proofs.jobs.job_traces.Given as goal

abbrev pub invariant-loop-j : goal.invariant-loop-j
invariant-loop-j l = map job_shape l.traces.items ++ job_shapes l.script l.plan l.story l.j (drop l.j l.plan.jobs.items)
    ≡ job_shapes l.script l.plan l.story 0 l.plan.jobs.items
