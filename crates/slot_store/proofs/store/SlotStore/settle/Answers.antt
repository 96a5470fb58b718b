use Rattle.std.proofs.Common.{◌≡◌, vec_len, refl, sym, ◌∙◌, arith}
use Rattle.std.proofs.lemmas.Bool.{eqb-true}
use Rattle.slot_store.specs.Stores.{places_of}
use Rattle.slot_store.specs.Places.{live_len, used_once}
use Rattle.slot_store.proofs.Settling.{all_settled, none_held, sum_settled}
use Rattle.slot_store.proofs.store.SlotStore.settle.Goals as goal

pub returns-clause-places : goal.returns-clause-places
returns-clause-places c = λ b st s.
    let z = c.loop-self.self in
    let i = c.loop-self.invariant in
    let n = st.count in
    sym (all_settled b (places_of z) z.held.items z.waiting z.completed z.waits (omega arith) z.kept.held (i.completed b st)
    (λ t j h. let r = c.requires.known t j (i.users t j h) in let le = r.1 in (r.0, omega arith)) s)
    ∙ i.places b st s

pub returns-clause-live : goal.returns-clause-live
returns-clause-live c = λ b st. sum_settled live_len refl b (places_of c.args.self.now) (places_of c.loop-self.self)
    (returns-clause-places c b st)

pub returns-clause-used : goal.returns-clause-used
returns-clause-used c = λ b st. sum_settled used_once refl b (places_of c.args.self.now) (places_of c.loop-self.self)
    (returns-clause-places c b st)

pub returns-then-is_empty-clause-places : goal.returns-then-is_empty-clause-places
returns-then-is_empty-clause-places c = λ b st s.
    let z = c.args.self.now in
    let none : vec_len z.held ≡ 0 = eqb-true (vec_len z.held) 0 (sym c.is_empty.ensures ∙ c.if-is_empty.true) in
    none_held b (places_of z) z.held.items (let size = z.held.ok.0 in omega arith) z.kept.held s

pub returns-then-is_empty-clause-live : goal.returns-then-is_empty-clause-live
returns-then-is_empty-clause-live c = λ b st. let places = (places_of c.args.self.now) in
    sum_settled live_len refl b places places (returns-then-is_empty-clause-places c b st)

pub returns-then-is_empty-clause-used : goal.returns-then-is_empty-clause-used
returns-then-is_empty-clause-used c = λ b st. let places = (places_of c.args.self.now) in
    sum_settled used_once refl b places places (returns-then-is_empty-clause-places c b st)
