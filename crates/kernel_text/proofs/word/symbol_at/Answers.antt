use Rattle.std.proofs.Common.{Some, ap, ◌∙◌, sym, arith}
use Rattle.kernel_text.proofs.Words.FrontsAt.{at_pair, at_single}
use Rattle.kernel_text.proofs.word.symbol_at.Goals as goal
use Rattle.kernel_text.proofs.word.symbol_at.Goals.{else-next-source-via-else-next-source, else-next-source-via-then-next-source+in-None-1}

pub returns-clause-kind : goal.returns-clause-kind
returns-clause-kind c =
    (at_pair c.args.source.now c.args.place c.in-Some.kind c.if-next-source.true c.requires.other (sym c.in-Some.ensures)).kind_is

pub returns-clause-end : goal.returns-clause-end
returns-clause-end c =
    (at_pair c.args.source.now c.args.place c.in-Some.kind c.if-next-source.true c.requires.other (sym c.in-Some.ensures)).end_is

pub returns-2-clause-kind : goal.returns-2-clause-kind
returns-2-clause-kind c =
    ap Some c.unwrap_or-kind.ensures
    ∙ (at_single c.args.source.now c.args.place c.single_symbol.result c.requires.some c.requires.other
    (λ two. elim c.else-next-source.branch [
      | else-next-source-via-else-next-source w ↦ absurd
          (omega arith)
      | else-next-source-via-then-next-source+in-None-1 w ↦ cc
    ])
    (sym c.single_symbol.ensures)).kind_is

pub returns-2-clause-end : goal.returns-2-clause-end
returns-2-clause-end c =
    (at_single c.args.source.now c.args.place c.single_symbol.result c.requires.some c.requires.other
    (λ two. elim c.else-next-source.branch [
      | else-next-source-via-else-next-source w ↦ absurd
          (omega arith)
      | else-next-source-via-then-next-source+in-None-1 w ↦ cc
    ])
    (sym c.single_symbol.ensures)).end_is
