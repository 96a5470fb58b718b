use Rattle.std.proofs.Common.{refl, arith}
use Rattle.plan_statements.proofs.DisposalsGoOn.{container_is, can_end_there}
use Rattle.plan_statements.proofs.disposing.give_back.Goals as goal

pub returns : goal.returns
returns c = record {
  it = c.index.result.now;
  has = container_is c.args.world.now.containers c.args.number c.index.result.now
      (can_end_there c.args.world.now c.args.number c.requires) c.index.ensures;
  released = record { here = c.release.ensures.slot; others = c.release.ensures.others };
  places = c.give.ensures.places;
  used = (let u = c.give.ensures.used in omega arith);
  peak = c.give.ensures.peak;
  rest = refl;
}
