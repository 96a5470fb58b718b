use Rattle.std.proofs.Common.{None}
use Rattle.slot_store.specs.Stores.{places_of}
use Rattle.slot_store.proofs.Waits.{waits_on, found_none}
use Rattle.slot_store.proofs.store.SlotStore.still_waiting.Goals as goal

pub returns-in-None : goal.returns-in-None
returns-in-None c =
    let z = c.args.self.now in
    waits_on (places_of z) z.held.items z.waiting z.completed c.args.completed.now
    (found_none c.args.completed.now z.completed None c.in-None.ensures) z.waits
