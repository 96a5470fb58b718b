use Rattle.std.proofs.Common.{◌≡◌, ◌-◌, true, refl, subst, sym, ap, ◌∙◌, arith, set, ◌<◌, length}
use Rattle.std.proofs.lemmas.Bool.{cond-true, cond-false}
use Rattle.slot_store.specs.declared.place.Place.{Place}
use Rattle.slot_store.specs.Kept.{AreKept, AreWaiting}
use Rattle.slot_store.specs.Spaces.{has_word}
use Rattle.slot_store.specs.Stores.{freed, places_of, sets_of}
use Rattle.slot_store.specs.Places.{in_use, is_taken, is_held, placed, places_in, place_at, used_once, taken_once, held_once}
use Rattle.slot_store.proofs.Placing.{here}
use Rattle.slot_store.proofs.Lots.{in_lots, lots_long, lot_is, lot_len, lot_changed, live_below, changed_by, changed_sum}
use Rattle.slot_store.proofs.Rooms.{in_list}
use Rattle.slot_store.proofs.Changes.{words_live, freed_of}
use Rattle.slot_store.proofs.Settling.{used_if_held, not_taken_if_held, unlisted, times_removed}
use Rattle.slot_store.proofs.Waits.{waits_removed}
use Rattle.slot_store.proofs.store.SlotStore.end_hold.Goals as goal

pub give-requires-clause-live : goal.give-requires-clause-live
give-requires-clause-live c = λ w h.
    let z = c.args.self.now in
    let ps = places_of z in
    let used = used_if_held (place_at ps c.args.slot).state c.requires.held in
    let known = in_list ps c.args.slot used in
    let long = lots_long z.lots.items (sets_of z) in
    words_live ps z.words z.slots z.held.items z.live_words z.peak z.kept c.args.slot known used w
    (subst (λ (p : Place). has_word p.span w ≡ true) (lot_is z.lots.items (sets_of z) c.args.slot c.index.result.now (omega arith) c.index.ensures) h)

pub invariant_of-self : goal.invariant_of-self
invariant_of-self c =
    let z = c.args.self.now in
    let ps = places_of z in
    let s = c.args.slot in
    let used = used_if_held (place_at ps s).state c.requires.held in
    let known = in_list ps s used in
    let long = lots_long z.lots.items (sets_of z) in
    let p : Place = freed (place_at ps s) in
    let e = lot_changed z.lots.items (sets_of z) s c.index_mut-lot.result.now c.set_freed.new.self (λ q. freed q) (omega arith) c.index_mut-lot.ensures.value
    (c.set_freed.ensures (sets_of z s)) in
    let qs = places_in (set z.lots.items s c.set_freed.new.self) (sets_of z) in
    let a = changed_sum used_once ps qs s p known e in
    let a1 : used_once (place_at ps s) ≡ 1 = cond-true (in_use (place_at ps s).state) 1 0 used in
    let a2 : used_once p ≡ 0 = refl in
    let b = changed_sum taken_once ps qs s p known e in
    let b1 : taken_once (place_at ps s) ≡ 0 = cond-false (is_taken (place_at ps s).state) 1 0 (not_taken_if_held (place_at ps s).state c.requires.held) in
    let b2 : taken_once p ≡ 0 = refl in
    let r = z.room in
    let left = c.swap_remove.new.self.items in
    let listed = unlisted ps z.held.items left s p known z.kept.held c.requires.held
    (times_removed z.held.items left c.args.at s c.swap_remove.result (omega arith) c.requires.slot c.swap_remove.ensures.value c.swap_remove.ensures.items)
    refl in
    record {
      kept = subst (λ l. AreKept l c.give.new.self c.give-2.new.self left (z.live_words - c.index.result.now.span.len) z.peak) (sym e)
          (freed_of ps z.words z.slots z.held.items z.live_words z.peak z.kept s known used (placed c.index.result.now (sets_of z s))
          (lot_is z.lots.items (sets_of z) s c.index.result.now (omega arith) c.index.ensures) c.give.new.self c.give-2.new.self left p refl c.give.ensures.live
          c.give.ensures.top c.give-2.ensures.live c.give-2.ensures.top listed);
      room = record { words = omega arith; slots = omega arith; held = omega arith };
      waits = subst (λ l. AreWaiting l left z.waiting z.completed) (sym e)
          (waits_removed ps z.held.items left z.waiting c.args.at s z.held.len z.completed p z.waits c.requires.first (omega arith) (omega arith)
          (omega arith) c.swap_remove.ensures.by_index
          (listed s ∙ (ap held_once (here ps s p known) ∙ cond-false (is_held p.state) 1 0 refl)));
      sets = z.sets;
    }

pub index-requires : goal.index-requires
index-requires c =
    let z = c.args.self.now in
    let s = c.args.slot in
    let used = used_if_held (place_at (places_of z) s).state c.requires.held in
    let known = in_lots z.lots.items (sets_of z) s used in
    let size = z.lots.ok.0 in
    omega arith

pub index_mut-lot-requires : goal.index_mut-lot-requires
index_mut-lot-requires c =
    let z = c.args.self.now in
    let s = c.args.slot in
    let used = used_if_held (place_at (places_of z) s).state c.requires.held in
    let known = in_lots z.lots.items (sets_of z) s used in
    let size = z.lots.ok.0 in
    omega arith

pub overflow_sub-self : goal.overflow_sub-self
overflow_sub-self c =
    let z = c.args.self.now in
    let s = c.args.slot in
    let used = used_if_held (place_at (places_of z) s).state c.requires.held in
    let known = in_lots z.lots.items (sets_of z) s used in
    let size = z.lots.ok.0 in
    let ps = places_of z in
    let long = lots_long z.lots.items (sets_of z) in
    let len = lot_len z.lots.items (sets_of z) s c.index.result.now known c.index.ensures used in
    let below = live_below ps s (omega arith) in
    let all = z.kept.live in
    omega arith

pub returns-clause-places : goal.returns-clause-places
returns-clause-places c =
    let z = c.args.self.now in
    let s = c.args.slot in
    let used = used_if_held (place_at (places_of z) s).state c.requires.held in
    let known = in_lots z.lots.items (sets_of z) s used in
    let size = z.lots.ok.0 in
    let ps = places_of z in
    let qs = places_in (set z.lots.items s c.set_freed.new.self) (sets_of z) in
    let long = lots_long z.lots.items (sets_of z) in
    let in_ps : s < length ps = omega arith in
    let p : Place = freed (place_at ps s) in
    let e = lot_changed z.lots.items (sets_of z) s c.index_mut-lot.result.now c.set_freed.new.self (λ q. freed q) known c.index_mut-lot.ensures.value
    (c.set_freed.ensures (sets_of z s)) in
    changed_by (λ q. freed q) ps qs s in_ps e

pub returns-clause-fewer : goal.returns-clause-fewer
returns-clause-fewer c =
    let z = c.args.self.now in
    let s = c.args.slot in
    let used = used_if_held (place_at (places_of z) s).state c.requires.held in
    let known = in_lots z.lots.items (sets_of z) s used in
    let size = z.lots.ok.0 in
    let ps = places_of z in
    let qs = places_in (set z.lots.items s c.set_freed.new.self) (sets_of z) in
    let long = lots_long z.lots.items (sets_of z) in
    let in_ps : s < length ps = omega arith in
    let p : Place = freed (place_at ps s) in
    let e = lot_changed z.lots.items (sets_of z) s c.index_mut-lot.result.now c.set_freed.new.self (λ q. freed q) known c.index_mut-lot.ensures.value
    (c.set_freed.ensures (sets_of z s)) in
    let a = changed_sum used_once ps qs s p in_ps e in
    let a1 : used_once (place_at ps s) ≡ 1 = cond-true (in_use (place_at ps s).state) 1 0 used in
    let a2 : used_once p ≡ 0 = refl in
    omega arith
