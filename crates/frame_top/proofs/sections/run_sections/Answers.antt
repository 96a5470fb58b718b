use Rattle.std.proofs.Common.{[], refl, subst, arith}
use Rattle.plan_statements.specs.Tables.{columns_of}
use Rattle.frame_top.specs.Answers.{Caused}
use Rattle.frame_top.specs.Running.{RunsOn}
use Rattle.frame_top.specs.Seen.{HasSeenTo}
use Rattle.frame_top.proofs.Looping.{InSections, at_first, one_more, at_last, at_none}
use Rattle.frame_top.proofs.Sectioning.{too_many}
use Rattle.frame_top.proofs.Seeing.{none_seen, more_seen, all_seen, closed_none}
use Rattle.frame_top.proofs.sections.run_sections.Goals as goal

pub loop-section-init : goal.loop-section-init
loop-section-init g c =
    let here = at_first g.S.Sink.taken g.S.Sink.faults _ _ c.args.first _ c.args.sink.now c.requires.begins c.in-Ok.ensures.held
    c.in-Ok.ensures.waits c.in-Ok.ensures.failed (c.in-Ok.ensures.report _ refl refl) in
    (here, λ saw. none_seen _ _ (g.W.Watch.Saw c.args.script.now c.args.watch.now c.args.watch.now) here.from (here.ran.begins refl) saw)

pub returns-in-Ok-false : goal.returns-in-Ok-false
returns-in-Ok-false g c =
    let was = c.loop-section.invariant.0 in
    let next = c.in-Ok-false.ensures.next c.loop-section._section was.from was.ran in
    let last = subst (λ b. RunsOn g.S.Sink.taken g.S.Sink.faults c.args.script.now
    (columns_of c.args.table.now) c.loop-section._section was.from c.loop-section.sink c.loop-section.progress c.run_next_section.new.sink
    c.run_next_section.new.book
    c.run_next_section.new.progress b) c.in-Ok-false.field-0-test next in
    record {
      answer = Caused _ refl (at_last g.S.Sink.taken g.S.Sink.faults _ _ c.loop-section._section _ _ _ _ _ _ _ was last
          c.finish.new.sink c.finish.new.progress c.finish.result c.finish.ensures.closed);
      seen = λ saw ran.
          let before = c.loop-section.invariant.1 saw in
          all_seen _ _ _ (g.W.Watch.Saw c.args.script.now c.args.watch.now c.run_next_section.new.watch) _ _ _ _ _ before last.goes _
          (c.in-Ok-false.ensures.seen c.loop-section._section was.from was.ran c.args.watch.now before.sections before.seen);
      later = let first = was.later in let second = c.in-Ok-false.ensures.later in let third = c.finish.ensures.later in omega (arith, first, second, third);
    }

pub returns-in-Err : goal.returns-in-Err
returns-in-Err g c =
    let was = c.loop-section.invariant.0 in
    record {
      answer = at_none g.S.Sink.taken g.S.Sink.faults _ _ c.loop-section._section _ c.loop-section.progress c.run_next_section.new.progress _
          c.loop-section.sink _ _ _
          _ was
          c.in-Err.ensures.sink c.in-Err.ensures.waits c.in-Err.ensures.failed c.close.ensures.closed;
      seen = λ saw ran. absurd (closed_none _ _ _ _ _ _ _ _ _ c.close.ensures.closed refl ran);
      later = let first = was.later in let second = c.in-Err.ensures.later in let third = c.close.ensures.later in
          omega (arith, first, second, third);
    }

pub loop-section-preserved : goal.loop-section-preserved
loop-section-preserved g c =
    let was = c.loop-section.invariant.0 in
    let next = c.in-Ok-true.ensures.next c.loop-section._section was.from was.ran in
    let more = subst (λ b. RunsOn g.S.Sink.taken g.S.Sink.faults c.args.script.now (columns_of c.args.table.now) c.loop-section._section was.from
    c.loop-section.sink c.loop-section.progress c.run_next_section.new.sink c.run_next_section.new.book c.run_next_section.new.progress b)
    c.in-Ok-true.field-0-test next in
    let one = one_more g.S.Sink.taken g.S.Sink.faults _ _ c.loop-section._section _ _ _ _ _ _ _ was more c.in-Ok-true.ensures.later in
    subst (λ n. (here : InSections g.S.Sink.taken g.S.Sink.faults c.args.script.now
    (columns_of c.args.table.now) n c.run_next_section.new.book c.run_next_section.new.progress c.args.sink.now c.run_next_section.new.sink)
    × (g.W.Watch.Saw c.args.script.now c.args.watch.now c.args.watch.now []
    → HasSeenTo (g.W.Watch.Saw c.args.script.now c.args.watch.now c.run_next_section.new.watch) c.args.script.now (columns_of c.args.table.now) here.from))
    (omega arith) (
      one.0,
      λ saw.
          let before = c.loop-section.invariant.1 saw in
          more_seen _ _ _ (g.W.Watch.Saw c.args.script.now c.args.watch.now c.run_next_section.new.watch) _ _ _ _ _ before more.goes _
          c.in-Ok-true.field-0-test one.0.from one.1
          (c.in-Ok-true.ensures.seen c.loop-section._section was.from was.ran c.args.watch.now before.sections before.seen),
    )

pub unreachable-requires : goal.unreachable-requires
unreachable-requires g c =
    let many = c.loop-section-test.false in
    let was = c.loop-section.invariant.0 in
    let tests = was.ran.tests in
    too_many _ was.from c.requires.accepted (omega arith)
