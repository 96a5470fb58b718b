-- Signed numbers that are kept in 64 bits.
use Rattle.std.proofs.Common.{◌≡◌, ℕ, Bool, true, false, None, refl, ◌∙◌, ap, arith, ℤ}
use Rattle.std.proofs.lemmas.Int.{ints, to_z-of_z}
use Rattle.std.proofs.lemmas.Bool.Decides.{nat_tests}
use mir.Syntax.{w64}
use mir.Val.{SFits, to_z, of_z}
use Rattle.frame_ast.specs.declared.kernel.FaultKind.{FaultKind}
use Rattle.script_text.specs.declared.raw.RawNumber.{RawNumber}
use Rattle.script_text.specs.declared.source.Source.{Source}
use Rattle.script_text.specs.Sources.{signed, fits_signed, signed_at, number_at}
use Rattle.script_checks.specs.Faults.{unless, signed_fault}

signed_fits : (minus : Bool) (n : ℕ) → fits_signed minus n ≡ true → SFits w64 (signed minus n)
signed_fits false n h = grind (arith, ints, nat_tests)
signed_fits true n h = grind (arith, ints, nat_tests)

pub holds_from : (b : Bool) (kind : FaultKind) (at : ℕ) → unless b kind at ≡ None → b ≡ true
holds_from true kind at h = refl
holds_from false kind at h = cc

-- the number that a text without a fault says is kept as it is
pub signed_kept : (s : Source) (n : RawNumber) (z : ℤ) → signed_fault s n ≡ None → z ≡ signed_at s n → to_z w64 (of_z w64 z) ≡ signed_at s n
signed_kept s n z fault is =
    let fits = signed_fits n.minus (number_at s n.at) (holds_from _ _ _ fault) in
    ap (λ x. to_z w64 (of_z w64 x)) is ∙ to_z-of_z w64 (signed_at s n) fits
