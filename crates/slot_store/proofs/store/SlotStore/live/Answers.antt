use Rattle.std.proofs.Common.{◌≡◌, ◌<◌, ℕ, Bool, false, ◌&&◌, nat_eq, length, refl, sym, ap, subst, ◌∙◌, arith}
use Rattle.slot_store.specs.Stores.{sets_of}
use Rattle.slot_store.specs.declared.lot.Standing.{Standing}
use Rattle.slot_store.specs.declared.place.Place.{Place}
use Rattle.slot_store.specs.Places.{is_taken, state_by}
use Rattle.slot_store.proofs.Lots.{lot_is, past_lots}
use Rattle.slot_store.proofs.store.SlotStore.live.Goals as goal

abbrev is_now : ℕ → Place → Bool
is_now version p = is_taken p.state && nat_eq p.version version

pub returns-then-at-len : goal.returns-then-at-len
returns-then-at-len c =
    let z = c.args.self.now in
    let size = z.lots.ok.0 in
    sym (ap (is_now c.args.version.0) (past_lots z.lots.items (sets_of z) c.args.slot.0 (omega arith)))

pub returns-in-Taken : goal.returns-in-Taken
returns-in-Taken c =
    let z = c.args.self.now in
    let x = c.index-lot.result.now in
    let size = z.lots.ok.0 in
    let known : c.args.slot.0 < length z.lots.items = omega arith in
    subst (λ (t : Standing). nat_eq x.version c.args.version.0 ≡ (is_taken (state_by t (sets_of z c.args.slot.0)) && nat_eq x.version c.args.version.0))
    (sym c.in-Taken.is) refl
    ∙ ap (is_now c.args.version.0) (lot_is z.lots.items (sets_of z) c.args.slot.0 x known c.index-lot.ensures)

pub returns-in-Free : goal.returns-in-Free
returns-in-Free c =
    let z = c.args.self.now in
    let x = c.index-lot.result.now in
    let size = z.lots.ok.0 in
    let known : c.args.slot.0 < length z.lots.items = omega arith in
    subst (λ (t : Standing). false ≡ (is_taken (state_by t (sets_of z c.args.slot.0)) && nat_eq x.version c.args.version.0)) (sym c.in-Free.is) refl
    ∙ ap (is_now c.args.version.0) (lot_is z.lots.items (sets_of z) c.args.slot.0 x known c.index-lot.ensures)

pub returns-in-Held : goal.returns-in-Held
returns-in-Held c =
    let z = c.args.self.now in
    let x = c.index-lot.result.now in
    let size = z.lots.ok.0 in
    let known : c.args.slot.0 < length z.lots.items = omega arith in
    subst (λ (t : Standing). false ≡ (is_taken (state_by t (sets_of z c.args.slot.0)) && nat_eq x.version c.args.version.0)) (sym c.in-Held.is) refl
    ∙ ap (is_now c.args.version.0) (lot_is z.lots.items (sets_of z) c.args.slot.0 x known c.index-lot.ensures)
