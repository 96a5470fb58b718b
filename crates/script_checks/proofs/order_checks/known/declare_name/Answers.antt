use Rattle.std.proofs.Common.{◌≡◌, ℕ, List, length, nat_le, true, false, [], ◌∷◌, Option, Some, None, sym, ◌∙◌, ap, subst, unwrap_or}
use Rattle.kernel_raw.specs.declared.fault.StaticFault.{StaticFault}
use Rattle.frame_ast.specs.declared.kernel.FaultKind.TheVariants.{KindMismatch, Limit}
use Rattle.job_base.specs.declared.limits.TheConstants.{MOST_NAME_BYTES}
use Rattle.script_names.specs.Names.{place_in, kind_in, with_name}
use Rattle.script_checks.specs.Faults.{unless, remake_fault, long_fault}
use Rattle.script_checks.specs.Spelling.{names_with}
use Rattle.script_checks.specs.Checks.{Refuses}
use Rattle.script_checks.proofs.FaultLemmas.{first_end, first_none, first_here, refuses, refuses_here, refuses_next, exits, refused_by}
use Rattle.script_checks.proofs.PlaceLemmas.{remade}
use Rattle.script_checks.proofs.order_checks.known.declare_name.Goals as goal

abbrev long_in : ℕ → List ℕ → Option StaticFault
long_in at text = unless (nat_le (length text) MOST_NAME_BYTES) Limit at

pub returns-then-not-is_among : goal.returns-then-not-is_among
returns-then-not-is_among c =
    let s = c.args.source in
    let names = c.args.names.now in
    let fault : StaticFault = record { at = c.args.at; kind = KindMismatch } in
    let known = subst (λ t. c.in_ok-place.known ≡ unwrap_or (kind_in names t) c.args.kind) c.text-text.ensures c.in_ok-place.ensures.kind in
    refused_by _ _ c.refuse.result fault c.refuse.ensures
    (first_here (remake_fault s names c.args.kind c.args.at) (long_fault s c.args.at ∷ []) fault
    (remade s names c.args.kind c.in_ok-place.known c.args.at false known (sym c.if-not-is_among.true ∙ c.is_among.ensures)))

pub returns-in_err-check_text_length : goal.returns-in_err-check_text_length
returns-in_err-check_text_length c =
    let s = c.args.source in
    let names = c.args.names.now in
    let known = subst (λ t. c.in_ok-place.known ≡ unwrap_or (kind_in names t) c.args.kind) c.text-text.ensures c.in_ok-place.ensures.kind in
    let kept = remade s names c.args.kind c.in_ok-place.known c.args.at true known (sym c.if-not-is_among.false ∙ c.is_among.ensures) in
    exits _ _ c.from_residual-in_err-check_text_length.result _ c.from_residual-in_err-check_text_length.ensures.1
    (refuses_next (remake_fault s names c.args.kind c.args.at) (long_fault s c.args.at ∷ []) _ kept
    (refuses_here (long_fault s c.args.at) [] _ (subst (λ t. Refuses (long_in c.args.at t) c.in_err-check_text_length.field-0.0) c.text-text.ensures
    (refuses _ _ c.in_err-check_text_length.ensures))))

pub returns : goal.returns
returns c =
    let s = c.args.source in
    let names = c.args.names.now in
    let known = subst (λ t. c.in_ok-place.known ≡ unwrap_or (kind_in names t) c.args.kind) c.text-text.ensures c.in_ok-place.ensures.kind in
    let kept = remade s names c.args.kind c.in_ok-place.known c.args.at true known (sym c.if-not-is_among.false ∙ c.is_among.ensures) in
    let short : long_fault s c.args.at ≡ None = subst (λ t. long_in c.args.at t ≡ None) c.text-text.ensures c.in_ok-check_text_length.ensures.0 in
    let place = subst (λ t. place_in c.find_or_make.new.self t ≡ Some c.in_ok-place.place) c.text-text.ensures c.in_ok-place.ensures.place in
    let after : c.find_or_make.new.self ≡ names_with s names (Some (c.args.at, c.args.kind)) =
    c.in_ok-place.ensures.names ∙ ap (λ t. with_name names t c.args.kind) c.text-text.ensures in (
      first_none (remake_fault s names c.args.kind c.args.at) (long_fault s c.args.at ∷ []) kept (first_none (long_fault s c.args.at) [] short first_end),
      (sym (ap (λ o. unwrap_or o 0) place), after),
    )
