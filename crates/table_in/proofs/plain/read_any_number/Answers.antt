use Rattle.std.proofs.Common.{◌≡◌, ◌≤◌, ◌++◌, sym, subst, inl, inr, drop, to_z-of_z}
use Rattle.table_in.specs.Plain.{NumberAt}
use Rattle.table_in.proofs.FieldLemmas.{sign, sign_at, number_at}
use Rattle.table_in.proofs.plain.read_any_number.Goals as goal
use Rattle.table_in.proofs.plain.read_any_number.Goals.{then-is_negative, else-is_negative}

pub returns-in-Some-clause-number : goal.returns-in-Some-clause-number
returns-in-Some-clause-number c =
    let text = c.args.text.now in
    let start = c.skip_spaces_at-start.result in
    let first = c.if-is_negative.first in
    let negative = c.is_at-is_negative.result in
    let signed : (drop start text ≡ sign negative ++ drop first text) × (start ≤ first) = elim c.if-is_negative.branch [
      | then-is_negative w ↦
          let at = c.is_at-is_negative.ensures.0 w.if-is_negative.true in
          sign_at text start first negative (inl (w.if-is_negative.true, w.first-is, at.0, at.1))
      | else-is_negative w ↦ sign_at text start first negative (inr (w.if-is_negative.false, w.first-is))
    ] in
    subst (λ v. NumberAt text c.args.from v c.skip_spaces_at-end.result) (sym (to_z-of_z c.in-Some.ensures.fits))
    (number_at text c.args.from start first c.read_digits-digits.result.magnitude c.read_digits-digits.result.end c.skip_spaces_at-end.result negative
    c.in-Some.value c.skip_spaces_at-start.ensures signed.0 signed.1 c.read_digits-digits.ensures c.if-digits-first.false
    c.skip_spaces_at-end.ensures c.in-Some.ensures.value)
