use Rattle.frame_ast.specs.declared.script.Order.TheVariants.{Flush as FlushAll}
use Rattle.plan_state.proofs.Answering.{nothing_taken}
use Rattle.plan_statements.proofs.NewNames.{flushed}
use Rattle.plan_statements.proofs.names.flush.Goals as goal

pub returns : goal.returns
returns c = record {
  answers = λ line p draft t. nothing_taken p c.args.world.now c.args.world.now (record { line = line; act = FlushAll }) draft t
      (flushed line (record p { world = c.args.world.now }));
}
