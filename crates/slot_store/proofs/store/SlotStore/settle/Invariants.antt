use Rattle.std.proofs.Common.{◌≡◌, ℕ, ◌-◌, ◌≤◌, true, vec_len}
use Rattle.frame_ast.specs.Jobs.{Book}
use Rattle.job_handle.specs.Sets.{jobs_of}
use Rattle.job_handle.specs.Books.{StandsFor}
use Rattle.slot_store.specs.Places.{users_of}
use Rattle.slot_store.specs.Stores.{place_of, slots_in_use, peak_of, settled}
use Rattle.slot_store.proofs.store.SlotStore.settle.Given as goal

abbrev pub invariant-loop-self : goal.invariant-loop-self
invariant-loop-self l = record {
  places : (b : Book) → StandsFor l.book b → (s : ℕ) → settled b (place_of l.self s) ≡ settled b (place_of l.fn.self s);
  completed : (b : Book) → StandsFor l.book b → (j : ℕ) → jobs_of l.self.completed j ≡ b.completed j;
  users : (s j : ℕ) → users_of (place_of l.self s).state j ≡ true → users_of (place_of l.fn.self s).state j ≡ true;
  fewer : slots_in_use l.self ≤ slots_in_use l.fn.self;
  peak : peak_of l.self ≡ peak_of l.fn.self;
}

abbrev pub decreases-loop-self : goal.decreases-loop-self
decreases-loop-self l = vec_len l.self.held - l.self.waiting
