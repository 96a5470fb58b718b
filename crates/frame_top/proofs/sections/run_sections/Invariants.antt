use Rattle.std.proofs.Common.{[]}
use Rattle.plan_statements.specs.Tables.{columns_of}
use Rattle.frame_top.specs.Seen.{HasSeenTo}
use Rattle.frame_top.proofs.Looping.{InSections}
use Rattle.frame_top.proofs.sections.run_sections.Given as goal

abbrev pub invariant-loop-section : goal.invariant-loop-section
invariant-loop-section g l =
    (here : InSections g.S.Sink.taken g.S.Sink.faults l.script (columns_of l.table) l._section l.book l.progress l.fn.sink l.sink)
    × (g.W.Watch.Saw l.script l.fn.watch l.fn.watch []
    → HasSeenTo (g.W.Watch.Saw l.script l.fn.watch l.watch) l.script (columns_of l.table) here.from)
