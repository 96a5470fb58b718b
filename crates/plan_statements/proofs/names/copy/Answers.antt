use Rattle.frame_ast.specs.declared.script.Order.TheVariants.{Copy as CopyOf}
use Rattle.plan_state.proofs.Accessing.{read_some}
use Rattle.plan_state.proofs.Answering.{nothing_taken}
use Rattle.plan_statements.proofs.NewNames.{copy_ready, copied}
use Rattle.plan_statements.proofs.names.copy.Goals as goal

pub index-value-requires : goal.index-value-requires
index-value-requires c = let r = c.requires.ready in (copy_ready r.0 c.args.name c.args.of (record r.1 { world = c.args.world.now }) r.2).0

pub set_value-requires : goal.set_value-requires
set_value-requires c = let r = c.requires.ready in (copy_ready r.0 c.args.name c.args.of (record r.1 { world = c.args.world.now }) r.2).1

pub returns : goal.returns
returns c =
    let r = c.requires.ready in
    let of_in = (copy_ready r.0 c.args.name c.args.of (record r.1 { world = c.args.world.now }) r.2).0 in
    record {
      answers = λ line p draft t. nothing_taken p c.args.world.now c.set_value.new.self (record { line = line; act = CopyOf c.args.name c.args.of }) draft t
          (copied line c.args.name c.args.of (record p { world = c.args.world.now }) c.set_value.new.self c.index-value.result.now
          (read_some c.args.world.now.values c.args.of c.index-value.result.now of_in c.index-value.ensures) c.set_value.ensures);
    }
