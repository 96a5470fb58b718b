use Rattle.std.proofs.Common.{◌≡◌, refl, subst, sym, arith, set, ◌<◌, length}
use Rattle.std.proofs.lemmas.Bool.{cond-true}
use Rattle.slot_store.specs.declared.place.Place.{Place}
use Rattle.slot_store.specs.Kept.{AreKept, AreWaiting}
use Rattle.slot_store.specs.Stores.{held, places_of, sets_of}
use Rattle.slot_store.specs.Places.{in_use, is_taken, places_in, set_at, place_at, used_once, taken_once, held_once, times}
use Rattle.slot_store.proofs.Lots.{in_lots, lots_long, lot_is, changed_at, changed_sum}
use Rattle.slot_store.proofs.Sets.{lot_held}
use Rattle.slot_store.proofs.Rooms.{in_list, used_if_taken, not_held_if_taken}
use Rattle.slot_store.proofs.Changes.{stays, listed}
use Rattle.slot_store.proofs.Waits.{waits_set, waits_pushed}
use Rattle.slot_store.proofs.store.SlotStore.hold_ready.Goals as goal

pub invariant_of-self : goal.invariant_of-self
invariant_of-self c =
    let z = c.args.self.now in
    let ps = places_of z in
    let s = c.args.slot.0 in
    let used = used_if_taken (place_at ps s).state c.requires.taken in
    let known = in_list ps s used in
    let long = lots_long z.lots.items (sets_of z) in
    let p : Place = held (place_at ps s) c.args.users.now in
    let e = lot_held z.lots.items z.users.items z.none s c.index_mut-lot.result.now c.set_held.new.self c.args.users.now (omega arith) (omega arith)
    c.index_mut-lot.ensures.value c.set_held.ensures in
    let qs = places_in (set z.lots.items s c.set_held.new.self) (set_at (set z.users.items s c.args.users.now) z.none) in
    let a = changed_sum used_once ps qs s p known e in
    let a1 : used_once (place_at ps s) ≡ 1 = cond-true (in_use (place_at ps s).state) 1 0 used in
    let a2 : used_once p ≡ 1 = refl in
    let b = changed_sum taken_once ps qs s p known e in
    let b1 : taken_once (place_at ps s) ≡ 1 = cond-true (is_taken (place_at ps s).state) 1 0 c.requires.taken in
    let b2 : taken_once p ≡ 0 = refl in
    let l = c.in-Ok.ensures.len in
    let m = c.in-Ok.ensures.capacity in
    let r = z.room in
    record {
      kept = subst (λ l. AreKept l z.words z.slots c.push.new.self.items z.live_words z.peak) (sym e)
          (stays ps z.words z.slots z.held.items z.live_words z.peak z.kept s known used c.push.new.self.items p refl refl
          (λ t. subst (λ xs. times xs t ≡ held_once (place_at (set ps s p) t)) (sym c.in-Ok.ensures.items)
          (listed ps z.held.items s 0 p known c.requires.taken refl z.kept.held t)));
      room = record { words = omega arith; slots = omega arith; held = omega arith };
      waits = subst (λ l. AreWaiting l c.push.new.self.items z.waiting z.completed) (sym e)
          (subst (λ xs. AreWaiting (set ps s p) xs z.waiting z.completed) (sym c.in-Ok.ensures.items)
          (waits_pushed (set ps s p) z.held.items z.waiting z.completed s
          (waits_set ps z.held.items z.waiting z.completed s p (not_held_if_taken (place_at ps s).state c.requires.taken) z.waits)));
      sets = z.sets;
    }

pub index_mut-lot-requires : goal.index_mut-lot-requires
index_mut-lot-requires c =
    let z = c.args.self.now in
    let s = c.args.slot.0 in
    let used = used_if_taken (place_at (places_of z) s).state c.requires.taken in
    let known = in_lots z.lots.items (sets_of z) s used in
    let size = z.lots.ok.0 in
    let sets = z.users.ok.0 in
    let there = c.requires.there in
    omega arith

pub set_held-requires : goal.set_held-requires
set_held-requires c =
    let z = c.args.self.now in
    let s = c.args.slot.0 in
    let used = used_if_taken (place_at (places_of z) s).state c.requires.taken in
    let known = in_lots z.lots.items (sets_of z) s used in
    let size = z.lots.ok.0 in
    let sets = z.users.ok.0 in
    let there = c.requires.there in
    subst (λ (p : Place). p.version < 4294967295)
    (sym (lot_is z.lots.items (sets_of z) s c.index_mut-lot.result.now known c.index_mut-lot.ensures.value)) c.requires.version

pub returns-clause-places : goal.returns-clause-places
returns-clause-places c =
    let z = c.args.self.now in
    let s = c.args.slot.0 in
    let used = used_if_taken (place_at (places_of z) s).state c.requires.taken in
    let known = in_lots z.lots.items (sets_of z) s used in
    let size = z.lots.ok.0 in
    let sets = z.users.ok.0 in
    let there = c.requires.there in
    let ps = places_of z in
    let qs = places_in (set z.lots.items s c.set_held.new.self) (set_at (set z.users.items s c.args.users.now) z.none) in
    let long = lots_long z.lots.items (sets_of z) in
    let in_ps : s < length ps = omega arith in
    let p : Place = held (place_at ps s) c.args.users.now in
    let e = lot_held z.lots.items z.users.items z.none s c.index_mut-lot.result.now c.set_held.new.self c.args.users.now known (omega arith)
    c.index_mut-lot.ensures.value c.set_held.ensures in
    changed_at ps qs s p in_ps e

pub returns-clause-used : goal.returns-clause-used
returns-clause-used c =
    let z = c.args.self.now in
    let s = c.args.slot.0 in
    let used = used_if_taken (place_at (places_of z) s).state c.requires.taken in
    let known = in_lots z.lots.items (sets_of z) s used in
    let size = z.lots.ok.0 in
    let sets = z.users.ok.0 in
    let there = c.requires.there in
    let ps = places_of z in
    let qs = places_in (set z.lots.items s c.set_held.new.self) (set_at (set z.users.items s c.args.users.now) z.none) in
    let long = lots_long z.lots.items (sets_of z) in
    let in_ps : s < length ps = omega arith in
    let p : Place = held (place_at ps s) c.args.users.now in
    let e = lot_held z.lots.items z.users.items z.none s c.index_mut-lot.result.now c.set_held.new.self c.args.users.now known (omega arith)
    c.index_mut-lot.ensures.value c.set_held.ensures in
    let a = changed_sum used_once ps qs s p in_ps e in
    let a1 : used_once (place_at ps s) ≡ 1 = cond-true (in_use (place_at ps s).state) 1 0 used in
    let a2 : used_once p ≡ 1 = refl in
    omega arith
