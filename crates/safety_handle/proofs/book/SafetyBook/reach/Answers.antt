use Rattle.std.proofs.Common.{ap, ◌∙◌, arith}
use Rattle.std.specs.Prelude.{slice_get}
use Rattle.safety_handle.specs.Entries.{state_in, set_in}
use Rattle.safety_handle.proofs.Tables.{pushed}
use Rattle.safety_handle.proofs.book.SafetyBook.reach.Goals as goal

pub loop-self-preserved : goal.loop-self-preserved
loop-self-preserved c =
    let z = c.loop-self.self in
    let i = c.loop-self.invariant in
    let room = i.room in
    record {
      room = omega arith;
      same = λ k. ap (λ xs. state_in (slice_get xs k) (set_in (slice_get z.readers.items k))) c.in_ok-push.ensures.items
          ∙ (pushed z.entries.items c.dead.result (set_in (slice_get z.readers.items k)) k (c.dead.ensures (set_in (slice_get z.readers.items k))) ∙ i.same k);
    }
