use Rattle.std.proofs.Common.{arith}
use Rattle.kernel_text.proofs.Words.FrontsAt.{at_text, at_quote}
use Rattle.kernel_text.proofs.word.text_at.Goals as goal
use Rattle.kernel_text.proofs.word.text_at.Goals.{else-quote-place-via-then-quote-place+then-quote-source+else-source-quote-eq34, else-quote-place-via-then-quote-place+else-quote-source, else-quote-place-via-else-quote-place}

pub returns-then-source-quote-eq34-clause-kind : goal.returns-then-source-quote-eq34-clause-kind
returns-then-source-quote-eq34-clause-kind c =
    (at_text c.args.source.now c.args.place c.text_end-quote.result c.requires.some c.requires.quote c.text_end-quote.ensures.run (omega arith)
    (omega arith) c.if-source-quote-eq34.true).kind_is

pub returns-then-source-quote-eq34-clause-end : goal.returns-then-source-quote-eq34-clause-end
returns-then-source-quote-eq34-clause-end c =
    (at_text c.args.source.now c.args.place c.text_end-quote.result c.requires.some c.requires.quote c.text_end-quote.ensures.run (omega arith)
    (omega arith) c.if-source-quote-eq34.true).end_is

pub returns-else-quote-place-clause-kind : goal.returns-else-quote-place-clause-kind
returns-else-quote-place-clause-kind c =
    (at_quote c.args.source.now c.args.place c.text_end-quote.result c.requires.some c.requires.quote c.text_end-quote.ensures.run
    (λ inside within quote. elim c.else-quote-place.branch [
      | else-quote-place-via-then-quote-place+then-quote-source+else-source-quote-eq34 w ↦ w.if-source-quote-eq34.false quote
      | else-quote-place-via-then-quote-place+else-quote-source w ↦ absurd (omega arith)
      | else-quote-place-via-else-quote-place w ↦ absurd (omega arith)
    ])).kind_is

pub returns-else-quote-place-clause-end : goal.returns-else-quote-place-clause-end
returns-else-quote-place-clause-end c =
    (at_quote c.args.source.now c.args.place c.text_end-quote.result c.requires.some c.requires.quote c.text_end-quote.ensures.run
    (λ inside within quote. elim c.else-quote-place.branch [
      | else-quote-place-via-then-quote-place+then-quote-source+else-source-quote-eq34 w ↦ w.if-source-quote-eq34.false quote
      | else-quote-place-via-then-quote-place+else-quote-source w ↦ absurd (omega arith)
      | else-quote-place-via-else-quote-place w ↦ absurd (omega arith)
    ])).end_is
