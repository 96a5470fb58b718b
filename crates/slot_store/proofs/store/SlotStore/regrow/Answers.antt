use Rattle.slot_store.specs.Stores.{places_of}
use Rattle.slot_store.proofs.Placing.{fit_same}
use Rattle.slot_store.proofs.store.SlotStore.regrow.Goals as goal

pub returns-in-Ok-clause-fit : goal.returns-in-Ok-clause-fit
returns-in-Ok-clause-fit c = fit_same (places_of c.args.self.now) (places_of c.make_room.new.self) c.args.len c.regrow_ready.result.start
    c.make_room.ensures.same.places c.regrow_ready.ensures.fit
