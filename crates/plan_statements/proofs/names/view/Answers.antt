use Rattle.std.proofs.Common.{subst}
use Rattle.frame_ast.specs.declared.script.Order.TheVariants.{View as ViewOf}
use Rattle.plan_state.specs.Accesses.{IsRenamed}
use Rattle.plan_state.proofs.Accessing.{read_some}
use Rattle.plan_state.proofs.Answering.{nothing_taken, was_pushed}
use Rattle.plan_statements.proofs.NewNames.{view_ready, view_source, view_refused, viewed}
use Rattle.plan_statements.proofs.names.view.Goals as goal

pub is_disposed-requires-clause-name : goal.is_disposed-requires-clause-name
is_disposed-requires-clause-name c = let r = c.requires.ready in (view_ready r.0 c.args.name c.args.of (record r.1 { world = c.args.world.now }) r.2).of_in

pub set_value-requires : goal.set_value-requires
set_value-requires c = let r = c.requires.ready in (view_ready r.0 c.args.name c.args.of (record r.1 { world = c.args.world.now }) r.2).name_in

pub index-requires : goal.index-requires
index-requires c = let r = c.requires.ready in (view_ready r.0 c.args.name c.args.of (record r.1 { world = c.args.world.now }) r.2).of_in

pub view_now-value-requires : goal.view_now-value-requires
view_now-value-requires c =
    let r = c.requires.ready in
    let of_in = (view_ready r.0 c.args.name c.args.of (record r.1 { world = c.args.world.now }) r.2).of_in in
    view_source r.0 c.args.name c.args.of (record r.1 { world = c.args.world.now }) r.2 c.is_disposed.result c.is_disposed.ensures c.if-is_disposed.false
    c.index.result.now (read_some c.args.world.now.values c.args.of c.index.result.now of_in c.index.ensures)

pub set_value-requires-else-is_disposed : goal.set_value-requires-else-is_disposed
set_value-requires-else-is_disposed c = let r = c.requires.ready in (view_ready r.0 c.args.name c.args.of (record r.1 { world = c.args.world.now }) r.2).name_in

pub returns-then-is_disposed : goal.returns-then-is_disposed
returns-then-is_disposed c = record {
  answers = λ line p draft t. view_refused line c.args.name c.args.of (record p { world = c.args.world.now })
      (record p { world = c.args.world.now; draft = draft }) c.set_value.new.self c.is_disposed.result c.is_disposed.ensures
      c.if-is_disposed.true (was_pushed p c.args.world.now draft _ t) c.set_value.ensures;
}

pub returns-else-is_disposed : goal.returns-else-is_disposed
returns-else-is_disposed c =
    let r = c.requires.ready in
    let of_in = (view_ready r.0 c.args.name c.args.of (record r.1 { world = c.args.world.now }) r.2).of_in in
    record {
      answers = λ line p draft t. nothing_taken p c.args.world.now c.set_value-else-is_disposed.new.self
          (record { line = line; act = ViewOf c.args.name c.args.of }) draft t
          (viewed line c.args.name c.args.of (record p { world = c.args.world.now }) c.set_value-else-is_disposed.new.self c.is_disposed.result
          c.is_disposed.ensures c.if-is_disposed.false
          c.index.result.now (read_some c.args.world.now.values c.args.of c.index.result.now of_in c.index.ensures)
          (subst (IsRenamed c.args.world.now c.set_value-else-is_disposed.new.self c.args.name) c.view_now-value.ensures c.set_value-else-is_disposed.ensures));
    }
