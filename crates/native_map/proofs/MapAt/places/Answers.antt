use Rattle.std.proofs.Common.{◌≡◌, ℕ, ◌+◌, ◌^◌, sym, subst, arith}
use Rattle.native_map.specs.Table.{places}
use Rattle.native_map.proofs.Sizes.{places_two, places_power, places_kept}
use Rattle.native_map.proofs.MapAt.places.Goals as goal

pub returns-clause-places : goal.returns-clause-places
returns-clause-places c =
    let e = places_kept c.args.self.now.cap c.args.self.now.mask c.args.self.now.sized (omega (arith, c.requires.fits)) in
    omega (arith, e, c.from.ensures)

pub returns-clause-two : goal.returns-clause-two
returns-clause-two c =
    let e = places_kept c.args.self.now.cap c.args.self.now.mask c.args.self.now.sized (omega (arith, c.requires.fits)) in
    omega (arith, e, c.from.ensures, places_two c.args.self.now.cap)

pub returns-clause-power : goal.returns-clause-power
returns-clause-power c =
    let e = places_kept c.args.self.now.cap c.args.self.now.mask c.args.self.now.sized (omega (arith, c.requires.fits)) in
    let same : c.from.result + 1 ≡ places c.args.self.now.cap = omega (arith, e, c.from.ensures) in
    subst (λ x. (k : ℕ) × (x ≡ 2 ^ k)) (sym same) (places_power c.args.self.now.cap)
