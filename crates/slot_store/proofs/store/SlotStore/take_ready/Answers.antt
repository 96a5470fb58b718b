use Rattle.std.proofs.Common.{◌≡◌, ◌+◌, ◌<◌, length, sym, ap, ◌∙◌, subst, arith, set, ℕ, refl, if◌then◌else◌, nat_eq}
use Rattle.job_base.specs.declared.Span.{Span}
use Rattle.slot_store.specs.declared.place.Place.{Place}
use Rattle.slot_store.specs.Kept.{AreKept, AreWaiting}
use Rattle.slot_store.specs.Stores.{taken, places_of, sets_of}
use Rattle.slot_store.specs.Places.{places_in, place_at, used_once}
use Rattle.slot_store.proofs.Placing.{took, fit, others_used, was_free}
use Rattle.slot_store.proofs.Lots.{lots_long, lot_is, lot_changed, changed_at, changed_sum}
use Rattle.slot_store.proofs.Rooms.{used_le, taken_le, slots_used, same_length, none_if_free}
use Rattle.slot_store.proofs.Waits.{not_held_if_free, waits_set}
use Rattle.slot_store.proofs.store.SlotStore.take_ready.Goals as goal

pub take-slot-requires : goal.take-slot-requires
take-slot-requires c = λ small.
    let K = c.args.self.now.kept in
    let u = slots_used (places_of c.args.self.now) c.args.self.now.words c.args.self.now.slots c.args.self.now.held.items
    c.args.self.now.live_words c.args.self.now.peak K c.args.self.now.slots.apart (λ k lt. small k (omega arith)) in
    omega arith

pub invariant_of-self : goal.invariant_of-self
invariant_of-self c =
    let z = c.args.self.now in
    let ps = places_of z in
    let s = c.take-slot.result in
    let long = lots_long z.lots.items (sets_of z) in
    let span : Span = record { start = c.take-start.result; len = c.args.len } in
    let v = (place_at ps s).version in
    let p : Place = taken v span in
    let e = lot_changed z.lots.items (sets_of z) s c.index_mut-lot.result.now c.set_taken.new.self (λ q. taken q.version span) (omega arith)
    c.index_mut-lot.ensures.value (c.set_taken.ensures (sets_of z s)) in
    let qs = places_in (set z.lots.items s c.set_taken.new.self) (sets_of z) in
    let r = c.requires.ready in
    let n = same_length ps s p in
    let n1 = ap (λ l. length l) e in
    let u = used_le qs in
    let t = taken_le qs in
    let f = was_free ps z.words z.slots c.take-start.new.self c.take-slot.new.self z.held.items z.live_words z.peak z.kept s v span
    (omega arith) c.take-slot.ensures.fit c.take-start.ensures.fit in
    record {
      kept = subst (λ l. AreKept l c.take-start.new.self c.take-slot.new.self z.held.items (z.live_words + c.args.len) c.max-self.result) (sym e)
          (subst (λ m. AreKept (set ps s p) c.take-start.new.self c.take-slot.new.self z.held.items (z.live_words + c.args.len) m)
          (sym c.max-self.ensures) (took ps z.words z.slots c.take-start.new.self c.take-slot.new.self z.held.items
          z.live_words z.peak z.kept s v span
          (omega arith) c.take-slot.ensures.fit c.take-start.ensures.fit c.take-slot.ensures.live c.take-slot.ensures.top c.take-start.ensures.live
          c.take-start.ensures.top (omega arith)));
      room = record { words = omega arith; slots = omega arith; held = omega arith };
      waits = subst (λ l. AreWaiting l z.held.items z.waiting z.completed) (sym e)
          (waits_set ps z.held.items z.waiting z.completed s p (not_held_if_free (place_at ps s).state f) z.waits);
      sets = z.sets;
    }

pub returns-clause-fit : goal.returns-clause-fit
returns-clause-fit c =
    let z = c.args.self.now in
    let ps = places_of z in
    let long = lots_long z.lots.items (sets_of z) in
    fit ps z.words z.slots c.take-start.new.self c.take-slot.new.self z.held.items z.live_words z.peak z.kept c.take-slot.result
    (place_at ps c.take-slot.result).version (record { start = c.take-start.result; len = c.args.len }) (omega arith) c.take-slot.ensures.fit
    c.take-start.ensures.fit

pub returns-clause-lowest : goal.returns-clause-lowest
returns-clause-lowest c =
    let z = c.args.self.now in
    let ps = places_of z in
    let long = lots_long z.lots.items (sets_of z) in
    others_used ps z.words z.slots c.take-start.new.self c.take-slot.new.self z.held.items z.live_words z.peak z.kept c.take-slot.result
    (place_at ps c.take-slot.result).version (record { start = c.take-start.result; len = c.args.len }) (omega arith) c.take-slot.ensures.fit
    c.take-start.ensures.fit

pub returns-clause-free : goal.returns-clause-free
returns-clause-free c =
    let z = c.args.self.now in
    let ps = places_of z in
    let long = lots_long z.lots.items (sets_of z) in
    was_free ps z.words z.slots c.take-start.new.self c.take-slot.new.self z.held.items z.live_words z.peak z.kept c.take-slot.result
    (place_at ps c.take-slot.result).version (record { start = c.take-start.result; len = c.args.len }) (omega arith) c.take-slot.ensures.fit
    c.take-start.ensures.fit

pub returns-clause-version : goal.returns-clause-version
returns-clause-version c =
    let z = c.args.self.now in
    let s = c.take-slot.result in
    let size = z.lots.ok.0 in
    let known : s < length z.lots.items = omega arith in
    ap (λ (p : Place). p.version) (c.set_taken.ensures (sets_of z s))
    ∙ ap (λ (p : Place). p.version) (lot_is z.lots.items (sets_of z) s c.index_mut-lot.result.now known c.index_mut-lot.ensures.value)

pub returns-clause-places : goal.returns-clause-places
returns-clause-places c =
    let z = c.args.self.now in
    let s = c.take-slot.result in
    let size = z.lots.ok.0 in
    let known : s < length z.lots.items = omega arith in
    let ps = places_of z in
    let qs = places_in (set z.lots.items s c.set_taken.new.self) (sets_of z) in
    let long = lots_long z.lots.items (sets_of z) in
    let in_ps : s < length ps = omega arith in
    let p : Place = taken (place_at ps s).version (record { start = c.take-start.result; len = c.args.len }) in
    let e = lot_changed z.lots.items (sets_of z) s c.index_mut-lot.result.now c.set_taken.new.self
    (λ q. taken q.version (record { start = c.take-start.result; len = c.args.len }))
    known c.index_mut-lot.ensures.value (c.set_taken.ensures (sets_of z s)) in
    subst (λ (v : ℕ). (t : ℕ) → place_at qs t ≡ (if nat_eq t s then taken v (record { start = c.take-start.result; len = c.args.len }) else place_at ps t))
    (sym (returns-clause-version c)) (changed_at ps qs s p in_ps e)

pub returns-clause-used : goal.returns-clause-used
returns-clause-used c =
    let z = c.args.self.now in
    let s = c.take-slot.result in
    let size = z.lots.ok.0 in
    let known : s < length z.lots.items = omega arith in
    let ps = places_of z in
    let qs = places_in (set z.lots.items s c.set_taken.new.self) (sets_of z) in
    let long = lots_long z.lots.items (sets_of z) in
    let in_ps : s < length ps = omega arith in
    let p : Place = taken (place_at ps s).version (record { start = c.take-start.result; len = c.args.len }) in
    let e = lot_changed z.lots.items (sets_of z) s c.index_mut-lot.result.now c.set_taken.new.self
    (λ q. taken q.version (record { start = c.take-start.result; len = c.args.len }))
    known c.index_mut-lot.ensures.value (c.set_taken.ensures (sets_of z s)) in
    let a = changed_sum used_once ps qs s p in_ps e in
    let a1 : used_once (place_at ps s) ≡ 0 = none_if_free (place_at ps s) (returns-clause-free c) in
    let a2 : used_once p ≡ 1 = refl in
    omega arith
