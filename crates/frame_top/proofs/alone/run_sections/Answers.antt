use Rattle.std.proofs.Common.{refl, subst, arith}
use Rattle.plan_statements.specs.Tables.{columns_of}
use Rattle.frame_top.specs.Answers.{Caused}
use Rattle.frame_top.specs.Running.{RunsOn}
use Rattle.frame_top.proofs.Looping.{InSections, at_first, one_more, at_last, at_none}
use Rattle.frame_top.proofs.Sectioning.{too_many}
use Rattle.frame_top.proofs.alone.run_sections.Goals as goal

pub loop-section-init : goal.loop-section-init
loop-section-init g c =
    at_first g.S.Sink.taken g.S.Sink.faults _ _ c.args.first _ c.args.sink.now c.requires.begins c.in-Ok.ensures.held
    c.in-Ok.ensures.waits c.in-Ok.ensures.failed (c.in-Ok.ensures.report _ refl refl)

pub returns-in-Ok-false : goal.returns-in-Ok-false
returns-in-Ok-false g c =
    let was = c.loop-section.invariant in
    let next = c.in-Ok-false.ensures.next c.loop-section._section was.from was.ran in
    record {
      answer = Caused _ refl (at_last g.S.Sink.taken g.S.Sink.faults _ _ c.loop-section._section _ _ _ _ _ _ _ was
          (subst (λ b. RunsOn g.S.Sink.taken g.S.Sink.faults c.args.script.now
          (columns_of c.args.table.now) c.loop-section._section was.from c.loop-section.sink c.loop-section.progress c.run_next_section.new.sink
          c.run_next_section.new.book
          c.run_next_section.new.progress b) c.in-Ok-false.field-0-test next)
          c.finish.new.sink c.finish.new.progress c.finish.result c.finish.ensures.closed);
      later = let first = was.later in let second = c.in-Ok-false.ensures.later in let third = c.finish.ensures.later in omega (arith, first, second, third);
    }

pub returns-in-Err : goal.returns-in-Err
returns-in-Err g c =
    record {
      answer = at_none g.S.Sink.taken g.S.Sink.faults _ _ c.loop-section._section _ c.loop-section.progress c.run_next_section.new.progress _
          c.loop-section.sink _ _ _
          _ c.loop-section.invariant
          c.in-Err.ensures.sink c.in-Err.ensures.waits c.in-Err.ensures.failed c.close.ensures.closed;
      later = let first = c.loop-section.invariant.later in let second = c.in-Err.ensures.later in let third = c.close.ensures.later in
          omega (arith, first, second, third);
    }

pub loop-section-preserved : goal.loop-section-preserved
loop-section-preserved g c =
    let was = c.loop-section.invariant in
    let next = c.in-Ok-true.ensures.next c.loop-section._section was.from was.ran in
    subst (λ n. InSections g.S.Sink.taken g.S.Sink.faults c.args.script.now
    (columns_of c.args.table.now) n c.run_next_section.new.book c.run_next_section.new.progress c.args.sink.now c.run_next_section.new.sink) (omega arith)
    (one_more g.S.Sink.taken g.S.Sink.faults _ _ c.loop-section._section _ _ _ _ _ _ _ was
    (subst (λ b. RunsOn g.S.Sink.taken g.S.Sink.faults c.args.script.now (columns_of c.args.table.now) c.loop-section._section was.from c.loop-section.sink
    c.loop-section.progress c.run_next_section.new.sink c.run_next_section.new.book c.run_next_section.new.progress b) c.in-Ok-true.field-0-test next)
    c.in-Ok-true.ensures.later).0

pub unreachable-requires : goal.unreachable-requires
unreachable-requires g c =
    let many = c.loop-section-test.false in
    let tests = c.loop-section.invariant.ran.tests in
    too_many _ c.loop-section.invariant.from c.requires.accepted (omega arith)
