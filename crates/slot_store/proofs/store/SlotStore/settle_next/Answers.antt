use Rattle.std.proofs.Common.{◌≡◌, ◌<◌, true, length, subst, sym, arith}
use Rattle.job_handle.specs.Sets.{jobs_of}
use Rattle.slot_store.specs.Places.{place_at, is_held, users_of}
use Rattle.slot_store.specs.Stores.{place_of, places_of}
use Rattle.slot_store.proofs.Settling.{held_on_list, slot_is, none_pending, settled_same}
use Rattle.slot_store.proofs.store.SlotStore.settle_next.Goals as goal

pub returns-in-None-clause-places : goal.returns-in-None-clause-places
returns-in-None-clause-places c = λ b same known.
    let z = c.args.self.now in
    let lt : z.waiting < length z.held.items = omega arith in
    let e = slot_is z.held.items z.waiting c.index-held.result.now lt c.index-held.ensures in
    let x = c.index-held.result.now.slot in
    settled_same b (place_of z) (place_of c.end_hold.new.self) x
    (subst (λ m. is_held (place_at (places_of z) m).state ≡ true) (sym e)
    (held_on_list (places_of z) z.held.items z.waiting z.kept.held lt))
    (none_pending b (users_of (place_of z x).state) (jobs_of z.completed) same (c.in-None.ensures.none))
    c.end_hold.ensures.places
