use Rattle.std.proofs.Common.{ap, ◌∙◌}
use Rattle.trace_view.specs.Shapes.{arrow_shapes}
use Rattle.trace_view.proofs.section.section_trace.Goals as goal

pub returns-clause-timeline : goal.returns-clause-timeline
returns-clause-timeline c = record {
  jobs = c.in_ok-job_traces.ensures;
  segments = c.in_ok-shown_segments.ensures;
  waits = c.in_ok-found.found.items;
  are_arrows = c.in_ok-found.ensures;
  arrows = c.in_ok-arrow_traces.ensures ∙ ap (λ xs. arrow_shapes 1 xs) c.deref.ensures.value;
}
