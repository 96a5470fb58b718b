use Rattle.std.proofs.Common.{◌-◌, ◌≤◌, vec_len}
use Rattle.slot_store.specs.Stores.{places_of}
use Rattle.slot_store.specs.Kept.{AreWaiting}
use Rattle.slot_store.proofs.store.SlotStore.pass_waiting.Given as goal

abbrev pub invariant-loop-passed : goal.invariant-loop-passed
invariant-loop-passed l = record {
  waits : AreWaiting (places_of l.fn.self) l.fn.self.held.items l.passed l.fn.self.completed;
  more : l.fn.self.waiting ≤ l.passed;
}

abbrev pub decreases-loop-passed : goal.decreases-loop-passed
decreases-loop-passed l = vec_len l.fn.self.held - l.passed
