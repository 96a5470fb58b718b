use Rattle.std.proofs.Common.{sum_by, refl, ap, sym, subst, arith}
use Rattle.slot_store.specs.Stores.{sets_of}
use Rattle.slot_store.specs.Places.{set_at, place_at, live_len, used_once}
use Rattle.slot_store.specs.Kept.{AreKept, AreWaiting, HaveRoom}
use Rattle.slot_store.proofs.Sets.{sets_alike}
use Rattle.slot_store.proofs.store.SlotStore.add_sets.Goals as goal

pub invariant_of-self : goal.invariant_of-self
invariant_of-self c =
    let z = c.args.self.now in
    let e = sym (sets_alike z.lots.items (sets_of z) (set_at c.add_sets.new.users.items z.none) c.add_sets.ensures.same) in
    record {
      kept = subst (λ l. AreKept l z.words z.slots z.held.items z.live_words z.peak) e z.kept;
      room = subst (λ l. HaveRoom l z.words z.slots z.held) e z.room;
      waits = subst (λ l. AreWaiting l z.held.items z.waiting z.completed) e z.waits;
      sets = let sets = z.sets in let room = c.add_sets.ensures.room in omega arith;
    }

pub returns-clause-same : goal.returns-clause-same
returns-clause-same c =
    let z = c.args.self.now in
    let e = sets_alike z.lots.items (sets_of z) (set_at c.add_sets.new.users.items z.none) c.add_sets.ensures.same in
    record {
      places = λ s. ap (λ l. place_at l s) e;
      live = ap (sum_by live_len) e;
      used = ap (sum_by used_once) e;
      peak = refl;
    }
