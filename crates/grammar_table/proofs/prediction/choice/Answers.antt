use Rattle.std.proofs.Common.{◌∙◌, sym}
use Rattle.grammar_table.proofs.Steps.{found-here, found-later}
use Rattle.grammar_table.proofs.prediction.choice.Goals as goal

pub returns-then-eq : goal.returns-then-eq
returns-then-eq c =
    sym (c.loop-first.invariant ∙ found-here c.args.choices.now c.loop-first.first-index _ c.args.kind c.loop-first-test.true (sym c.eq.ensures ∙ c.if-eq.true))

pub loop-first-preserved : goal.loop-first-preserved
loop-first-preserved c =
    c.loop-first.invariant ∙ found-later c.args.choices.now c.loop-first.first-index _ c.args.kind c.loop-first-test.true (sym c.eq.ensures ∙ c.if-eq.false)
