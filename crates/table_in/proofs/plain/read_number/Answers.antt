use Rattle.std.proofs.Common.{◌≡◌, ◌<◌, sym, subst, refl, arith, pos, false, to_z, w64}
use Rattle.std.proofs.lemmas.Int.{ints}
use Rattle.table_in.specs.Plain.{NumberAt}
use Rattle.table_in.proofs.FieldLemmas.{number_at, no_spaces, small_number}
use Rattle.table_in.proofs.plain.read_number.Goals as goal

-- Of digits alone: no spaces and no sign.
pub returns-then-not-is_at-clause-number : goal.returns-then-not-is_at-clause-number
returns-then-not-is_at-clause-number c =
    let text = c.args.text.now in
    let digits = c.in-Some.digits in
    let from = c.args.from in
    let same : to_z w64 digits.magnitude ≡ pos digits.magnitude = omega (arith, ints, c.in-Some.ensures.small) in
    let within = c.in-Some.ensures.digits.within in
    let some : from < digits.end = c.if-digits-from.true in
    subst (λ v. NumberAt text from v digits.end) (sym same)
    (number_at text from from from digits.magnitude digits.end digits.end false (pos digits.magnitude) (no_spaces text from (omega (arith, some, within)))
    refl (omega arith) c.in-Some.ensures.digits (λ e. absurd (omega (arith, some, e))) (no_spaces text digits.end within)
    (small_number digits.magnitude c.in-Some.ensures.small))
