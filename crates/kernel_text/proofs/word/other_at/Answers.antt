use Rattle.std.proofs.Common.{rules, arith}
use Rattle.kernel_text.proofs.Words.FrontsAt.{at_blank, at_comment}
use Rattle.kernel_text.proofs.Words.Begun.{begun_other}
use Rattle.kernel_text.proofs.word.other_at.Goals as goal

pub symbol_at-requires-clause-other : goal.symbol_at-requires-clause-other
symbol_at-requires-clause-other c =
    begun_other _ (omega (arith, c.type_inv.source c.args.place)) c.requires.other (search rules) (search rules) (search rules) (search rules) (search rules)

pub returns-in-32-clause-kind : goal.returns-in-32-clause-kind
returns-in-32-clause-kind c = (at_blank c.args.source.now c.args.place c.requires.some c.in-32.is).kind_is

pub returns-in-32-clause-end : goal.returns-in-32-clause-end
returns-in-32-clause-end c = (at_blank c.args.source.now c.args.place c.requires.some c.in-32.is).end_is

pub returns-in-35-clause-kind : goal.returns-in-35-clause-kind
returns-in-35-clause-kind c = (at_comment c.args.source.now c.args.place c.line_end.result c.requires.some c.in-35.is c.line_end.ensures.run).kind_is

pub returns-in-35-clause-end : goal.returns-in-35-clause-end
returns-in-35-clause-end c = (at_comment c.args.source.now c.args.place c.line_end.result c.requires.some c.in-35.is c.line_end.ensures.run).end_is
