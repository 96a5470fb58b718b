use Rattle.std.proofs.Common.{refl, ap, ◌∙◌, arith}
use Rattle.slot_store.specs.Stores.{settled}
use Rattle.plan_statements.proofs.DisposalsGoOn.{container_is, can_hold_there, users_after}
use Rattle.plan_statements.proofs.disposing.hold_back.Goals as goal

pub settle-requires : goal.settle-requires
settle-requires c = record {
  known = users_after c.args.world.now c.args.number c.index.result.now
      (container_is c.args.world.now.containers c.args.number c.index.result.now
      (can_hold_there c.args.world.now c.args.number c.requires) c.index.ensures)
      c.requires c.users-users.result c.users-users.ensures c.hold.new.self c.hold.ensures.places;
}

pub returns : goal.returns
returns c = record {
  it = c.index.result.now;
  has = container_is c.args.world.now.containers c.args.number c.index.result.now (can_hold_there c.args.world.now c.args.number c.requires)
      c.index.ensures;
  released = record { here = c.release.ensures.slot; others = c.release.ensures.others };
  users = c.users-users.result;
  users_are = c.users-users.ensures;
  places = λ b stands k. c.settle.ensures.places b stands k ∙ ap (settled b) (c.hold.ensures.places k);
  used = (let f = c.settle.ensures.fewer in let u = c.hold.ensures.used in omega arith);
  peak = c.settle.ensures.peak ∙ c.hold.ensures.peak;
  rest = refl;
}
