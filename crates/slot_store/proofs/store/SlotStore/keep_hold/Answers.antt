use Rattle.std.proofs.Common.{arith}
use Rattle.slot_store.specs.Stores.{places_of}
use Rattle.slot_store.specs.declared.place.Waiting.{Waiting}
use Rattle.slot_store.proofs.Changes.{kept_listed}
use Rattle.slot_store.proofs.Settling.{times_set}
use Rattle.slot_store.proofs.Waits.{waits_next}
use Rattle.slot_store.proofs.store.SlotStore.keep_hold.Goals as goal

pub invariant_of-self : goal.invariant_of-self
invariant_of-self c =
    let z = c.args.self.now in
    let y : Waiting = record { slot = c.args.slot; job = c.args.job } in
    let r = z.room in
    record {
      kept = kept_listed (places_of z) z.words z.slots z.held.items _ z.live_words z.peak z.kept
          (λ s. times_set z.held.items c.args.at y s (omega arith) c.requires.slot);
      room = record { words = omega arith; slots = omega arith; held = omega arith };
      waits = waits_next (places_of z) z.held.items z.waiting z.completed c.args.at c.args.slot c.args.job z.waits c.requires.first
          (omega arith) c.requires.slot c.requires.user c.requires.some c.requires.pending;
      sets = z.sets;
    }
