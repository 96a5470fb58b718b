use Rattle.std.proofs.Common.{sym, subst, arith}
use Rattle.slot_store.specs.Stores.{places_of}
use Rattle.slot_store.specs.Kept.{AreWaiting}
use Rattle.slot_store.proofs.Rooms.{kept_moved}
use Rattle.slot_store.proofs.store.SlotStore.make_room.Goals as goal

pub invariant_of-self : goal.invariant_of-self
invariant_of-self c =
    let s = c.have_lot.new.self in
    let w = c.reserve_all.ensures.words in
    let n = c.reserve_all.ensures.slots in
    let h = c.reserve_all.ensures.held in
    let r = s.room in
    record {
      kept = kept_moved (places_of s) s.words s.slots c.reserve_all.new.words c.reserve_all.new.slots s.held.items c.reserve_all.new.held.items
          s.live_words
          s.peak s.kept w.holes w.top n.holes n.top h.0;
      room = record { words = omega arith; slots = omega arith; held = omega arith };
      waits = subst (λ xs. AreWaiting (places_of s) xs s.waiting s.completed) (sym h.0) s.waits;
      sets = s.sets;
    }
