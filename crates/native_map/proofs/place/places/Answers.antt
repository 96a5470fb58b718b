use Rattle.std.proofs.Common.{rules, arith}
use Rattle.native_map.proofs.Sizes.{places_is}
use Rattle.native_map.proofs.place.places.Goals as goal

pub returns-clause-places : goal.returns-clause-places
returns-clause-places c = let e = c.next_power_of_two.ensures in
    places_is c.args.cap _ (search rules) (search rules) (search rules) (search rules)

pub returns-clause-most : goal.returns-clause-most
returns-clause-most c = let e = c.next_power_of_two.ensures in let b = c.max.ensures in omega (arith, e.upper_bound)
