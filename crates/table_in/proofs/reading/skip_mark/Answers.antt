use Rattle.table_in.proofs.WholeLemmas.{short_text, marked_text, unmarked_text}
use Rattle.table_in.proofs.reading.skip_mark.Goals as goal

pub returns-then-source-lt3 : goal.returns-then-source-lt3
returns-then-source-lt3 c = short_text c.args.source.now c.if-source-lt3.true

pub returns-then-is_mark : goal.returns-then-is_mark
returns-then-is_mark c = marked_text c.args.source.now c.if-source-lt3.false c.if-is_mark.ensures

pub returns-else-is_mark : goal.returns-else-is_mark
returns-else-is_mark c = unmarked_text c.args.source.now c.if-source-lt3.false c.if-is_mark.ensures
