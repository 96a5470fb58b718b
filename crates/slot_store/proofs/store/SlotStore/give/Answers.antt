use Rattle.std.proofs.Common.{◌≡◌, ◌-◌, true, refl, subst, sym, arith, set, ◌<◌, length}
use Rattle.std.proofs.lemmas.Bool.{cond-true}
use Rattle.slot_store.specs.declared.place.Place.{Place}
use Rattle.slot_store.specs.Kept.{AreKept, AreWaiting}
use Rattle.slot_store.specs.Spaces.{has_word}
use Rattle.slot_store.specs.Stores.{given, places_of, sets_of}
use Rattle.slot_store.specs.Places.{live_len, in_use, is_taken, placed, places_in, place_at, used_once, taken_once}
use Rattle.slot_store.proofs.Lots.{in_lots, lots_long, lot_is, lot_len, lot_changed, live_below, changed_at, changed_sum}
use Rattle.slot_store.proofs.Rooms.{in_list, used_if_taken, not_held_if_taken}
use Rattle.slot_store.proofs.Changes.{words_live, freed_of, not_listed}
use Rattle.slot_store.proofs.Waits.{waits_set}
use Rattle.slot_store.proofs.store.SlotStore.give.Goals as goal

pub give-requires-clause-live : goal.give-requires-clause-live
give-requires-clause-live c = λ w h.
    let z = c.args.self.now in
    let ps = places_of z in
    let used = used_if_taken (place_at ps c.args.slot.0).state c.requires.taken in
    let known = in_list ps c.args.slot.0 used in
    let long = lots_long z.lots.items (sets_of z) in
    words_live ps z.words z.slots z.held.items z.live_words z.peak z.kept c.args.slot.0 known used w
    (subst (λ (p : Place). has_word p.span w ≡ true) (lot_is z.lots.items (sets_of z) c.args.slot.0 c.index.result.now (omega arith) c.index.ensures) h)

pub invariant_of-self : goal.invariant_of-self
invariant_of-self c =
    let z = c.args.self.now in
    let ps = places_of z in
    let s = c.args.slot.0 in
    let used = used_if_taken (place_at ps s).state c.requires.taken in
    let known = in_list ps s used in
    let long = lots_long z.lots.items (sets_of z) in
    let p : Place = given (place_at ps s) in
    let e = lot_changed z.lots.items (sets_of z) s c.index_mut-lot.result.now c.set_given.new.self (λ q. given q) (omega arith) c.index_mut-lot.ensures.value
    (c.set_given.ensures (sets_of z s)) in
    let qs = places_in (set z.lots.items s c.set_given.new.self) (sets_of z) in
    let a = changed_sum used_once ps qs s p known e in
    let a1 : used_once (place_at ps s) ≡ 1 = cond-true (in_use (place_at ps s).state) 1 0 used in
    let a2 : used_once p ≡ 0 = refl in
    let b = changed_sum taken_once ps qs s p known e in
    let b1 : taken_once (place_at ps s) ≡ 1 = cond-true (is_taken (place_at ps s).state) 1 0 c.requires.taken in
    let b2 : taken_once p ≡ 0 = refl in
    let r = z.room in
    record {
      kept = subst (λ l. AreKept l c.give.new.self c.give-2.new.self z.held.items (z.live_words - c.index.result.now.span.len) z.peak) (sym e)
          (freed_of ps z.words z.slots z.held.items z.live_words z.peak z.kept s known used (placed c.index.result.now (sets_of z s))
          (lot_is z.lots.items (sets_of z) s c.index.result.now (omega arith) c.index.ensures) c.give.new.self c.give-2.new.self z.held.items p refl
          c.give.ensures.live c.give.ensures.top c.give-2.ensures.live c.give-2.ensures.top
          (not_listed ps z.held.items s p known c.requires.taken refl z.kept.held));
      room = record { words = omega arith; slots = omega arith; held = omega arith };
      waits = subst (λ l. AreWaiting l z.held.items z.waiting z.completed) (sym e)
          (waits_set ps z.held.items z.waiting z.completed s p (not_held_if_taken (place_at ps s).state c.requires.taken) z.waits);
      sets = z.sets;
    }

pub index-requires : goal.index-requires
index-requires c =
    let z = c.args.self.now in
    let s = c.args.slot.0 in
    let used = used_if_taken (place_at (places_of z) s).state c.requires.taken in
    let known = in_lots z.lots.items (sets_of z) s used in
    let size = z.lots.ok.0 in
    omega arith

pub index_mut-lot-requires : goal.index_mut-lot-requires
index_mut-lot-requires c =
    let z = c.args.self.now in
    let s = c.args.slot.0 in
    let used = used_if_taken (place_at (places_of z) s).state c.requires.taken in
    let known = in_lots z.lots.items (sets_of z) s used in
    let size = z.lots.ok.0 in
    omega arith

pub set_given-requires : goal.set_given-requires
set_given-requires c =
    let z = c.args.self.now in
    let s = c.args.slot.0 in
    let used = used_if_taken (place_at (places_of z) s).state c.requires.taken in
    let known = in_lots z.lots.items (sets_of z) s used in
    let size = z.lots.ok.0 in
    subst (λ (p : Place). p.version < 4294967295)
    (sym (lot_is z.lots.items (sets_of z) s c.index_mut-lot.result.now known c.index_mut-lot.ensures.value)) c.requires.version

pub overflow_sub-self : goal.overflow_sub-self
overflow_sub-self c =
    let z = c.args.self.now in
    let s = c.args.slot.0 in
    let used = used_if_taken (place_at (places_of z) s).state c.requires.taken in
    let known = in_lots z.lots.items (sets_of z) s used in
    let size = z.lots.ok.0 in
    let ps = places_of z in
    let long = lots_long z.lots.items (sets_of z) in
    let len = lot_len z.lots.items (sets_of z) s c.index.result.now known c.index.ensures used in
    let below = live_below ps s (omega arith) in
    let all = z.kept.live in
    omega arith

pub returns-clause-places : goal.returns-clause-places
returns-clause-places c =
    let z = c.args.self.now in
    let s = c.args.slot.0 in
    let used = used_if_taken (place_at (places_of z) s).state c.requires.taken in
    let known = in_lots z.lots.items (sets_of z) s used in
    let size = z.lots.ok.0 in
    let ps = places_of z in
    let qs = places_in (set z.lots.items s c.set_given.new.self) (sets_of z) in
    let long = lots_long z.lots.items (sets_of z) in
    let in_ps : s < length ps = omega arith in
    let p : Place = given (place_at ps s) in
    let e = lot_changed z.lots.items (sets_of z) s c.index_mut-lot.result.now c.set_given.new.self (λ q. given q) known c.index_mut-lot.ensures.value
    (c.set_given.ensures (sets_of z s)) in
    changed_at ps qs s p in_ps e

pub returns-clause-live : goal.returns-clause-live
returns-clause-live c =
    let z = c.args.self.now in
    let s = c.args.slot.0 in
    let used = used_if_taken (place_at (places_of z) s).state c.requires.taken in
    let known = in_lots z.lots.items (sets_of z) s used in
    let size = z.lots.ok.0 in
    let ps = places_of z in
    let qs = places_in (set z.lots.items s c.set_given.new.self) (sets_of z) in
    let long = lots_long z.lots.items (sets_of z) in
    let in_ps : s < length ps = omega arith in
    let p : Place = given (place_at ps s) in
    let e = lot_changed z.lots.items (sets_of z) s c.index_mut-lot.result.now c.set_given.new.self (λ q. given q) known c.index_mut-lot.ensures.value
    (c.set_given.ensures (sets_of z s)) in
    let a = changed_sum live_len ps qs s p in_ps e in
    let a1 : live_len (place_at ps s) ≡ (place_at ps s).span.len = cond-true (in_use (place_at ps s).state) (place_at ps s).span.len 0 used in
    let a2 : live_len p ≡ 0 = refl in
    omega arith

pub returns-clause-used : goal.returns-clause-used
returns-clause-used c =
    let z = c.args.self.now in
    let s = c.args.slot.0 in
    let used = used_if_taken (place_at (places_of z) s).state c.requires.taken in
    let known = in_lots z.lots.items (sets_of z) s used in
    let size = z.lots.ok.0 in
    let ps = places_of z in
    let qs = places_in (set z.lots.items s c.set_given.new.self) (sets_of z) in
    let long = lots_long z.lots.items (sets_of z) in
    let in_ps : s < length ps = omega arith in
    let p : Place = given (place_at ps s) in
    let e = lot_changed z.lots.items (sets_of z) s c.index_mut-lot.result.now c.set_given.new.self (λ q. given q) known c.index_mut-lot.ensures.value
    (c.set_given.ensures (sets_of z s)) in
    let a = changed_sum used_once ps qs s p in_ps e in
    let a1 : used_once (place_at ps s) ≡ 1 = cond-true (in_use (place_at ps s).state) 1 0 used in
    let a2 : used_once p ≡ 0 = refl in
    omega arith
