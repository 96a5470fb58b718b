use Rattle.slot_store.proofs.store.SlotStore.note_completed.Goals as goal
use Rattle.std.proofs.Common.{◌∙◌}
use Rattle.slot_store.specs.Places.{job_in}

pub invariant_of-self : goal.invariant_of-self
invariant_of-self c =
    let s = c.args.self.now in
    let w = c.still_waiting-self.ensures in
    record {
      kept = s.kept;
      room = s.room;
      waits = record {
        within = w.within;
        users = w.users;
        noted = w.noted;
        pending = λ k lt. (λ i. c.set_to.ensures i (job_in s.held.items k)) ∙ w.pending k lt;
      };
      sets = s.sets;
    }

pub returns-clause-completed : goal.returns-clause-completed
returns-clause-completed c b F j = (λ i. c.set_to.ensures i j) ∙ c.completed-completed.ensures b F j
