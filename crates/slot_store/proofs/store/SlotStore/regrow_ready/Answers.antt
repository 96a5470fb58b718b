use Rattle.std.proofs.Common.{◌≡◌, ◌+◌, ◌-◌, true, refl, subst, sym, ◌∙◌, arith, set, ◌<◌, length}
use Rattle.std.proofs.lemmas.Bool.{cond-true, or_left}
use Rattle.job_base.specs.declared.Span.{Span}
use Rattle.slot_store.specs.declared.place.Place.{Place}
use Rattle.slot_store.specs.Spaces.{has_word}
use Rattle.slot_store.specs.Stores.{taken, places_of, sets_of}
use Rattle.slot_store.specs.Places.{live_len, in_use, is_taken, placed, places_in, place_at, used_once, taken_once}
use Rattle.slot_store.specs.Kept.{AreKept, AreWaiting}
use Rattle.slot_store.proofs.Lots.{in_lots, lots_long, lot_is, lot_len, lot_changed, live_below, changed_at, changed_sum}
use Rattle.slot_store.proofs.Rooms.{in_list, used_if_taken, not_held_if_taken, used_le}
use Rattle.slot_store.proofs.Changes.{words_live, moved_of, kept_fit}
use Rattle.slot_store.proofs.Waits.{waits_set}
use Rattle.slot_store.proofs.store.SlotStore.regrow_ready.Goals as goal

pub give-requires-clause-live : goal.give-requires-clause-live
give-requires-clause-live c = λ w h.
    let z = c.args.self.now in
    let ps = places_of z in
    let used = used_if_taken (place_at ps c.args.slot.0).state c.requires.taken in
    let known = in_list ps c.args.slot.0 used in
    let long = lots_long z.lots.items (sets_of z) in
    c.take-start.ensures.live w ∙ or_left _ _ (words_live ps z.words z.slots z.held.items z.live_words z.peak z.kept c.args.slot.0 known used w
    (subst (λ (p : Place). has_word p.span w ≡ true) (lot_is z.lots.items (sets_of z) c.args.slot.0 c.index.result.now (omega arith) c.index.ensures) h))

pub invariant_of-self : goal.invariant_of-self
invariant_of-self c =
    let z = c.args.self.now in
    let ps = places_of z in
    let s = c.args.slot.0 in
    let used = used_if_taken (place_at ps s).state c.requires.taken in
    let known = in_list ps s used in
    let long = lots_long z.lots.items (sets_of z) in
    let span : Span = record { start = c.take-start.result; len = c.args.len } in
    let v = (place_at ps s).version in
    let p : Place = taken v span in
    let e = lot_changed z.lots.items (sets_of z) s c.index_mut-lot.result.now c.set_taken.new.self (λ q. taken q.version span) (omega arith)
    c.index_mut-lot.ensures.value (c.set_taken.ensures (sets_of z s)) in
    let qs = places_in (set z.lots.items s c.set_taken.new.self) (sets_of z) in
    let a = changed_sum used_once ps qs s p known e in
    let a1 : used_once (place_at ps s) ≡ 1 = cond-true (in_use (place_at ps s).state) 1 0 used in
    let a2 : used_once p ≡ 1 = refl in
    let b = changed_sum taken_once ps qs s p known e in
    let b1 : taken_once (place_at ps s) ≡ 1 = cond-true (is_taken (place_at ps s).state) 1 0 c.requires.taken in
    let b2 : taken_once p ≡ 1 = refl in
    let q = c.requires.ready in
    let r = z.room in
    let l = z.kept.live in
    let t = used_le ps in
    let x = c.index.result.now in
    record {
      kept = subst (λ l. AreKept l c.give.new.self z.slots z.held.items (z.live_words + c.args.len - x.span.len) c.max-self.result) (sym e)
          (subst (λ m. AreKept (set ps s p) c.give.new.self z.slots z.held.items (z.live_words + c.args.len - x.span.len) m)
          (sym c.max-self.ensures)
          (moved_of ps z.words z.slots z.held.items z.live_words z.peak z.kept s known used (placed x (sets_of z s))
          (lot_is z.lots.items (sets_of z) s x (omega arith) c.index.ensures) v c.args.len c.take-start.result c.take-start.new.self
          c.give.new.self c.requires.taken c.take-start.ensures.fit c.take-start.ensures.live c.take-start.ensures.top c.give.ensures.live
          c.give.ensures.top (omega arith)));
      room = record { words = omega arith; slots = omega arith; held = omega arith };
      waits = subst (λ l. AreWaiting l z.held.items z.waiting z.completed) (sym e)
          (waits_set ps z.held.items z.waiting z.completed s p (not_held_if_taken (place_at ps s).state c.requires.taken) z.waits);
      sets = z.sets;
    }

pub returns-clause-fit : goal.returns-clause-fit
returns-clause-fit c = let z = c.args.self.now in kept_fit (places_of z) z.words z.slots z.held.items z.live_words z.peak c.args.len
    c.take-start.result z.kept c.take-start.ensures.fit

pub overflow_sub-self : goal.overflow_sub-self
overflow_sub-self c =
    let z = c.args.self.now in
    let s = c.args.slot.0 in
    let used = used_if_taken (place_at (places_of z) s).state c.requires.taken in
    let known = in_lots z.lots.items (sets_of z) s used in
    let size = z.lots.ok.0 in
    let ps = places_of z in
    let long = lots_long z.lots.items (sets_of z) in
    let len = lot_len z.lots.items (sets_of z) s c.index.result.now known c.index.ensures used in
    let below = live_below ps s (omega arith) in
    let all = z.kept.live in
    omega arith

pub returns-clause-places : goal.returns-clause-places
returns-clause-places c =
    let z = c.args.self.now in
    let s = c.args.slot.0 in
    let used = used_if_taken (place_at (places_of z) s).state c.requires.taken in
    let known = in_lots z.lots.items (sets_of z) s used in
    let size = z.lots.ok.0 in
    let ps = places_of z in
    let qs = places_in (set z.lots.items s c.set_taken.new.self) (sets_of z) in
    let long = lots_long z.lots.items (sets_of z) in
    let in_ps : s < length ps = omega arith in
    let p : Place = taken (place_at ps s).version (record { start = c.take-start.result; len = c.args.len }) in
    let e = lot_changed z.lots.items (sets_of z) s c.index_mut-lot.result.now c.set_taken.new.self
    (λ q. taken q.version (record { start = c.take-start.result; len = c.args.len }))
    known c.index_mut-lot.ensures.value (c.set_taken.ensures (sets_of z s)) in
    changed_at ps qs s p in_ps e

pub returns-clause-live : goal.returns-clause-live
returns-clause-live c =
    let z = c.args.self.now in
    let s = c.args.slot.0 in
    let used = used_if_taken (place_at (places_of z) s).state c.requires.taken in
    let known = in_lots z.lots.items (sets_of z) s used in
    let size = z.lots.ok.0 in
    let ps = places_of z in
    let qs = places_in (set z.lots.items s c.set_taken.new.self) (sets_of z) in
    let long = lots_long z.lots.items (sets_of z) in
    let in_ps : s < length ps = omega arith in
    let p : Place = taken (place_at ps s).version (record { start = c.take-start.result; len = c.args.len }) in
    let e = lot_changed z.lots.items (sets_of z) s c.index_mut-lot.result.now c.set_taken.new.self
    (λ q. taken q.version (record { start = c.take-start.result; len = c.args.len }))
    known c.index_mut-lot.ensures.value (c.set_taken.ensures (sets_of z s)) in
    let a = changed_sum live_len ps qs s p in_ps e in
    let a1 : live_len (place_at ps s) ≡ (place_at ps s).span.len = cond-true (in_use (place_at ps s).state) (place_at ps s).span.len 0 used in
    let a2 : live_len p ≡ c.args.len = refl in
    omega arith

pub returns-clause-used : goal.returns-clause-used
returns-clause-used c =
    let z = c.args.self.now in
    let s = c.args.slot.0 in
    let used = used_if_taken (place_at (places_of z) s).state c.requires.taken in
    let known = in_lots z.lots.items (sets_of z) s used in
    let size = z.lots.ok.0 in
    let ps = places_of z in
    let qs = places_in (set z.lots.items s c.set_taken.new.self) (sets_of z) in
    let long = lots_long z.lots.items (sets_of z) in
    let in_ps : s < length ps = omega arith in
    let p : Place = taken (place_at ps s).version (record { start = c.take-start.result; len = c.args.len }) in
    let e = lot_changed z.lots.items (sets_of z) s c.index_mut-lot.result.now c.set_taken.new.self
    (λ q. taken q.version (record { start = c.take-start.result; len = c.args.len }))
    known c.index_mut-lot.ensures.value (c.set_taken.ensures (sets_of z s)) in
    let a = changed_sum used_once ps qs s p in_ps e in
    let a1 : used_once (place_at ps s) ≡ 1 = cond-true (in_use (place_at ps s).state) 1 0 used in
    let a2 : used_once p ≡ 1 = refl in
    omega arith
