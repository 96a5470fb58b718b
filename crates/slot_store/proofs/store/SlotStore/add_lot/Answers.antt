use Rattle.std.proofs.Common.{◌≡◌, ℕ, true, false, List, ◌∷◌, ◌++◌, [], length, if◌then◌else◌, refl, ap, sym, subst, ◌∙◌, Bool, arith, is_ok}
use Rattle.slot_store.specs.Stores.{places_of, sets_of}
use Rattle.job_handle.specs.declared.handle.Handle.{Handle}
use Rattle.slot_store.specs.declared.lot.Lot.{Lot}
use Rattle.slot_store.specs.Places.{placed, places_in, set_at, place_at, unused, live_len, used_once, taken_once}
use Rattle.slot_store.specs.Kept.{AreKept, AreWaiting, HaveRoom}
use Rattle.slot_store.proofs.Lots.{lots_long, lots_push}
use Rattle.slot_store.proofs.Rooms.{place_push, pushed_kept, pushed_sum}
use Rattle.slot_store.proofs.Waits.{waits_longer}
use Rattle.slot_store.proofs.store.SlotStore.add_lot.Goals as goal

-- the places after a push of a lot that may have found no memory
after : (ok : Bool) (xs ys : List Lot) (sets : ℕ → Handle) (x : Lot) → ((users : Handle) → placed x users ≡ unused)
    → ys ≡ (if ok then xs ++ x ∷ [] else xs) → places_in ys sets ≡ (if ok then places_in xs sets ++ unused ∷ [] else places_in xs sets)
after true xs ys sets x e q = ap (λ l. places_in l sets) q ∙ (lots_push xs sets x ∙ ap (λ p. places_in xs sets ++ p ∷ []) (e (sets (length xs))))
after false xs ys sets x e q = ap (λ l. places_in l sets) q

-- room for one more set
pub invariant_of-self : goal.invariant_of-self
invariant_of-self c =
    let z = c.args.self.now in
    let e = ap (λ us. places_in z.lots.items (set_at us z.none)) (sym c.reserve.ensures.items) in
    record {
      kept = subst (λ l. AreKept l z.words z.slots z.held.items z.live_words z.peak) e z.kept;
      room = subst (λ l. HaveRoom l z.words z.slots z.held) e z.room;
      waits = subst (λ l. AreWaiting l z.held.items z.waiting z.completed) e z.waits;
      sets = let sets = z.sets in let room = c.reserve.ensures.capacity in omega arith;
    }

pub invariant_of-self-2 : goal.invariant_of-self-2
invariant_of-self-2 c =
    let z = c.args.self.now in
    let ok = is_ok c.push.result in
    let ps = places_of z in
    let sets = set_at c.reserve.new.self.items z.none in
    let qs = places_in c.push.new.self.items sets in
    let e = after ok z.lots.items c.push.new.self.items sets c.unused.result c.unused.ensures c.push.ensures.items
    ∙ ap (λ us. if ok then places_in z.lots.items (set_at us z.none) ++ unused ∷ [] else places_in z.lots.items (set_at us z.none))
    c.reserve.ensures.items in
    let a = pushed_sum used_once refl ok ps qs e in
    let b = pushed_sum taken_once refl ok ps qs e in
    let r = z.room in
    record {
      kept = pushed_kept ok ps qs z.words z.slots z.held.items z.live_words z.peak e z.kept;
      room = record { words = omega arith; slots = omega arith; held = omega arith };
      waits = waits_longer ok ps qs z.held.items z.waiting z.completed e z.waits;
      sets = let sets = c.in_ok-reserve.ensures.ok in let less = c.saturating_sub.ensures in let most = c.push.ensures.len in omega arith;
    }

pub returns-clause-same : goal.returns-clause-same
returns-clause-same c =
    let z = c.args.self.now in
    let ps = places_of z in
    let sets = set_at c.reserve.new.self.items z.none in
    let qs = places_in c.push.new.self.items sets in
    let e = after true z.lots.items c.push.new.self.items sets c.unused.result c.unused.ensures c.in_ok-push.ensures.items
    ∙ ap (λ us. places_in z.lots.items (set_at us z.none) ++ unused ∷ []) c.reserve.ensures.items in
    record {
      places = λ s. ap (λ l. place_at l s) e ∙ place_push ps s;
      live = pushed_sum live_len refl true ps qs e;
      used = pushed_sum used_once refl true ps qs e;
      peak = refl;
    }

pub returns-clause-known : goal.returns-clause-known
returns-clause-known c =
    let z = c.args.self.now in
    let long = lots_long z.lots.items (sets_of z) in
    let size = z.lots.ok.0 in
    let top = z.kept.known in
    let more = c.in_ok-push.ensures.len in
    omega arith
