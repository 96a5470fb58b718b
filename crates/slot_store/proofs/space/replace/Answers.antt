use Rattle.std.proofs.Common.{◌≡◌, suc, ◌∷◌, ◌++◌, take, drop, ap, ◌∙◌, arith}
use Rattle.slot_store.proofs.Cuts.{set_place}
use Rattle.slot_store.proofs.space.replace.Goals as goal

pub returns-else-from-to-2-clause-items : goal.returns-else-from-to-2-clause-items
returns-else-from-to-2-clause-items c =
    let e : suc c.args.from ≡ c.args.to = omega arith in
    set_place c.args.holes.now.items c.args.from c.args.hole (omega arith)
    ∙ ap (λ m. take c.args.from c.args.holes.now.items ++ c.args.hole ∷ drop m c.args.holes.now.items) e
