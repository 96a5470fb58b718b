use Rattle.std.proofs.Common.{◌<◌, length, sym, arith}
use Rattle.plan_statements.specs.Tables.{columns_of}
use Rattle.frame_top.proofs.Framing.{at_missing, index_there, column_answers, column_said, none_missing}
use Rattle.frame_top.proofs.frame.refuse_missing.Goals as goal

pub index-requires : goal.index-requires
index-requires g c =
    let m = at_missing _ _ _ (sym c.in-Some.ensures) in
    let low : c.in-Some.place < length c.args.script.now.statements.items = index_there _ _ _ m.1 in
    let o = c.args.script.now.statements.ok.0 in
    omega arith

pub returns-in-Some-clause-missing : goal.returns-in-Some-clause-missing
returns-in-Some-clause-missing g c depth workers =
    column_answers g.S.Sink.taken g.S.Sink.faults _ _ depth workers _ _ _ _ _ _
    (sym c.in-Some.ensures) c.index.ensures c.column_name-name.ensures c.refuse_column.ensures.said

pub returns-in-Some-clause-said : goal.returns-in-Some-clause-said
returns-in-Some-clause-said g c =
    column_said g.S.Sink.taken g.S.Sink.faults _ _ _ _ _ _ _ _
    (sym c.in-Some.ensures) c.index.ensures c.column_name-name.ensures c.refuse_column.ensures.said

pub returns-clause-none : goal.returns-clause-none
returns-clause-none g c e = none_missing (columns_of c.args.table.now) 0 c.args.script.now.statements.items (sym c.in_default.ensures)
