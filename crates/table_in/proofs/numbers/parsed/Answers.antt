use Rattle.std.proofs.Common.{◌∙◌}
use Rattle.table_in.proofs.NumberLemmas.{signed_from, number_text}
use Rattle.table_in.proofs.numbers.parsed.Goals as goal

pub returns-in-Ok : goal.returns-in-Ok
returns-in-Ok c =
    let parse = c.parse.ensures.value.0 in
    c.ok.ensures.value ∙ signed_from c.args.text.now c.parse.result (rw c.in-Ok.ensures.cases.0 at parse) c.requires

pub returns-in-Err : goal.returns-in-Err
returns-in-Err c = number_text c.args.text.now c.in-Err.ensures.cases.0
