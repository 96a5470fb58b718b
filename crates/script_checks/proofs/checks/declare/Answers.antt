use Rattle.std.proofs.Common.{◌≡◌, ℕ, List, rules, length, nat_le, [], ◌∷◌, Option, None, refl, sym, ◌∙◌, subst}
use Rattle.kernel_raw.specs.declared.fault.StaticFault.{StaticFault}
use Rattle.frame_ast.specs.declared.kernel.FaultKind.TheVariants.{KindMismatch, Limit}
use Rattle.job_base.specs.declared.limits.TheConstants.{MOST_NAME_BYTES}
use Rattle.script_checks.specs.Faults.{unless, remake_fault, long_fault}
use Rattle.script_checks.specs.Checks.{Refuses}
use Rattle.script_checks.proofs.FaultLemmas.{first_end, first_none, first_here, refuses, refuses_here, refuses_next, exits, refused_by}
use Rattle.script_checks.proofs.PlaceLemmas.{made_new, made_again, made_otherwise}
use Rattle.script_checks.proofs.checks.declare.Goals as goal

abbrev long_in : ℕ → List ℕ → Option StaticFault
long_in at text = unless (nat_le (length text) MOST_NAME_BYTES) Limit at

pub returns-in_err-check_text_length : goal.returns-in_err-check_text_length
returns-in_err-check_text_length c =
    let s = c.args.source in
    let names = c.args.names.now in
    let made = made_new s names c.args.kind c.args.at (length names) (search rules) (search rules) refl in
    exits _ _ c.from_residual.result _ c.from_residual.ensures.1
    (refuses_next (remake_fault s names c.args.kind c.args.at) (long_fault s c.args.at ∷ []) _ made.0
    (refuses_here (long_fault s c.args.at) [] _ (subst (λ t. Refuses (long_in c.args.at t) c.in_err-check_text_length.field-0.0) c.text-text.ensures
    (refuses _ _ c.in_err-check_text_length.ensures))))

pub returns-in_default : goal.returns-in_default
returns-in_default c =
    let s = c.args.source in
    let names = c.args.names.now in
    let made = made_new s names c.args.kind c.args.at c.len.result (search rules) (search rules) c.len.ensures.length in
    let short : long_fault s c.args.at ≡ None = subst (λ t. long_in c.args.at t ≡ None) c.text-text.ensures c.in_ok-check_text_length.ensures.0 in (
      first_none (remake_fault s names c.args.kind c.args.at) (long_fault s c.args.at ∷ []) made.0 (first_none (long_fault s c.args.at) [] short first_end),
      made.1,
    )

pub returns-then-not-is_among : goal.returns-then-not-is_among
returns-then-not-is_among c =
    let s = c.args.source in
    let names = c.args.names.now in
    let fault : StaticFault = record { at = c.args.at; kind = KindMismatch } in
    refused_by _ _ c.refuse.result fault c.refuse.ensures
    (first_here (remake_fault s names c.args.kind c.args.at) (long_fault s c.args.at ∷ []) fault
    (made_otherwise s names c.args.kind c.in-Some.known c.args.at (search rules) (sym c.if-not-is_among.true ∙ c.is_among.ensures)))

pub returns-in_err-check_text_length-2 : goal.returns-in_err-check_text_length-2
returns-in_err-check_text_length-2 c =
    let s = c.args.source in
    let names = c.args.names.now in
    let made = made_again s names c.args.kind c.in-Some.known c.args.at c.in-Some.place (search rules) (search rules)
    (sym c.if-not-is_among.false ∙ c.is_among.ensures) in
    exits _ _ c.from_residual-in_err-check_text_length-2.result _ c.from_residual-in_err-check_text_length-2.ensures.1
    (refuses_next (remake_fault s names c.args.kind c.args.at) (long_fault s c.args.at ∷ []) _ made.0
    (refuses_here (long_fault s c.args.at) [] _ (subst (λ t. Refuses (long_in c.args.at t) c.in_err-check_text_length-2.field-0.0) c.text-text.ensures
    (refuses _ _ c.in_err-check_text_length-2.ensures))))

pub returns : goal.returns
returns c =
    let s = c.args.source in
    let names = c.args.names.now in
    let made = made_again s names c.args.kind c.in-Some.known c.args.at c.in-Some.place (search rules) (search rules)
    (sym c.if-not-is_among.false ∙ c.is_among.ensures) in
    let short : long_fault s c.args.at ≡ None = subst (λ t. long_in c.args.at t ≡ None) c.text-text.ensures c.in_ok-check_text_length-2.ensures.0 in (
      first_none (remake_fault s names c.args.kind c.args.at) (long_fault s c.args.at ∷ []) made.0 (first_none (long_fault s c.args.at) [] short first_end),
      made.1,
    )
