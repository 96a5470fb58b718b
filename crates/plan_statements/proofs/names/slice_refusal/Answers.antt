use Rattle.std.proofs.Common.{sym, ap, ◌∙◌, arith}
use Rattle.plan_state.specs.Accesses.{length_in}
use Rattle.plan_state.proofs.Accessing.{read_some}
use Rattle.plan_statements.proofs.NewNames.{slice_ready, slice_gone, slice_long, slice_fits, source_has}
use Rattle.plan_statements.proofs.names.slice_refusal.Goals as goal

pub is_disposed-requires-clause-name : goal.is_disposed-requires-clause-name
is_disposed-requires-clause-name c = let r = c.requires.ready in (slice_ready r.0 c.args.name c.args.of c.args.start c.args.len
    (record r.1 { world = c.args.world.now }) r.2).of_in

pub is_disposed-requires-clause-there : goal.is_disposed-requires-clause-there
is_disposed-requires-clause-there c = let r = c.requires.ready in
    (slice_ready r.0 c.args.name c.args.of c.args.start c.args.len (record r.1 { world = c.args.world.now }) r.2).there

pub returns-then-is_disposed : goal.returns-then-is_disposed
returns-then-is_disposed c line p = slice_gone line c.args.name c.args.of c.args.start c.args.len
    (record p { world = c.args.world.now }) c.is_disposed.result c.is_disposed.ensures c.if-is_disposed.true

pub overflow_add-start : goal.overflow_add-start
overflow_add-start c =
    let r = c.requires.ready in
    let may = slice_ready r.0 c.args.name c.args.of c.args.start c.args.len (record r.1 { world = c.args.world.now }) r.2 in
    let a = may.start_few in
    let b = may.len_few in
    omega arith

pub index-requires : goal.index-requires
index-requires c = let r = c.requires.ready in (slice_ready r.0 c.args.name c.args.of c.args.start c.args.len
    (record r.1 { world = c.args.world.now }) r.2).of_in

pub bind-requires : goal.bind-requires
bind-requires c =
    let r = c.requires.ready in
    let may = slice_ready r.0 c.args.name c.args.of c.args.start c.args.len (record r.1 { world = c.args.world.now }) r.2 in
    record { there = may.there c.args.of c.index.result.now (read_some c.args.world.now.values c.args.of c.index.result.now may.of_in c.index.ensures) }

pub length_of-requires : goal.length_of-requires
length_of-requires c =
    let r = c.requires.ready in
    let may = slice_ready r.0 c.args.name c.args.of c.args.start c.args.len (record r.1 { world = c.args.world.now }) r.2 in
    let has = source_has r.0 c.args.name c.args.of c.args.start c.args.len
    (record r.1 { world = c.args.world.now }) r.2 c.is_disposed.result c.is_disposed.ensures c.if-is_disposed.false
    c.index.result.now (read_some c.args.world.now.values c.args.of c.index.result.now may.of_in c.index.ensures) in
    (has.0, ap length_in c.bind.ensures ∙ has.1)

pub returns-then-start-len : goal.returns-then-start-len
returns-then-start-len c line p =
    let r = c.requires.ready in
    let may = slice_ready r.0 c.args.name c.args.of c.args.start c.args.len (record r.1 { world = c.args.world.now }) r.2 in
    slice_long line c.args.name c.args.of c.args.start c.args.len
    (record p { world = c.args.world.now }) c.is_disposed.result c.is_disposed.ensures c.if-is_disposed.false
    c.index.result.now (read_some c.args.world.now.values c.args.of c.index.result.now may.of_in c.index.ensures)
    c.length_of.result (ap length_in (sym c.bind.ensures) ∙ c.length_of.ensures) c.if-start-len.true

pub returns : goal.returns
returns c line p =
    let r = c.requires.ready in
    let may = slice_ready r.0 c.args.name c.args.of c.args.start c.args.len (record r.1 { world = c.args.world.now }) r.2 in
    slice_fits line c.args.name c.args.of c.args.start c.args.len
    (record p { world = c.args.world.now }) c.is_disposed.result c.is_disposed.ensures c.if-is_disposed.false
    c.index.result.now (read_some c.args.world.now.values c.args.of c.index.result.now may.of_in c.index.ensures)
    c.length_of.result (ap length_in (sym c.bind.ensures) ∙ c.length_of.ensures) c.if-start-len.false
