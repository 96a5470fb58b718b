use Rattle.std.proofs.Common.{◌≡◌, ◌++◌, drop, map}
use Rattle.frame_view.specs.Boxes.{box_of, job_boxes}
use Rattle.frame_view.proofs.boxes.job_nodes.Given as goal

abbrev pub invariant-loop-j : goal.invariant-loop-j
invariant-loop-j l = map box_of l.nodes.items ++ job_boxes l.script l.story l.depth l.before l.j (drop l.j l.plan.jobs.items)
    ≡ job_boxes l.script l.story l.depth l.before 0 l.plan.jobs.items
