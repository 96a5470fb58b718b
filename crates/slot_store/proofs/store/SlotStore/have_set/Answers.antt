use Rattle.std.proofs.Common.{arith}
use Rattle.slot_store.specs.Stores.{place_of, sets_of}
use Rattle.slot_store.proofs.Lots.{in_lots}
use Rattle.slot_store.proofs.Rooms.{used_if_taken}
use Rattle.slot_store.proofs.store.SlotStore.have_set.Goals as goal

pub add_sets-requires : goal.add_sets-requires
add_sets-requires c =
    let z = c.args.self.now in
    let s = c.args.slot.0 in
    let known = in_lots z.lots.items (sets_of z) s (used_if_taken (place_of z s).state c.requires.taken) in
    let size = z.lots.ok.0 in
    omega arith
