use Rattle.std.proofs.Common.{rules, ◌≡◌, ◌<◌, ◌≤◌, arith, length, Some, sym, ◌∙◌, ap, subst}
use Rattle.script_text.specs.Raw.{form_of}
use Rattle.script_text.specs.Sources.{text_at}
use Rattle.script_names.specs.Names.{place_in}
use Rattle.script_checks.specs.Faults.{made_by}
use Rattle.script_checks.specs.Spelling.{names_with, place_of}
use Rattle.frame_script.proofs.MadePlaces.{known_before, new_behind}
use Rattle.frame_script.proofs.walk_order.bind_name.Goals as goal

pub returns-then-place-len : goal.returns-then-place-len
returns-then-place-len c =
    let s = c.args.source in
    let names = c.args.names.now in
    let made : made_by s names (form_of c.args.raw.now) ≡ Some (c.in-Some.at, c.in-Some.kind) = cc in
    let place : Some c.in-Some-place_bound.place ≡ Some (place_of s (names_with s names (Some (c.in-Some.at, c.in-Some.kind))) c.in-Some.at) =
    sym c.in-Some-place_bound.is ∙ c.place_bound.ensures ∙ c.requires c.in-Some.at c.in-Some.kind made
    ∙ ap (λ m. Some (place_of s (names_with s names m) c.in-Some.at)) made in
    known_before s names c.in-Some.kind c.in-Some.at c.in-Some-place_bound.place place
    (subst (λ n. c.in-Some-place_bound.place < n) c.len.ensures.length c.if-place-len.true)
    ∙ ap (names_with s names) (sym made)

pub make-requires-clause-new : goal.make-requires-clause-new
make-requires-clause-new c =
    let s = c.args.source in
    let names = c.args.names.now in
    let made : made_by s names (form_of c.args.raw.now) ≡ Some (c.in-Some.at, c.in-Some.kind) = cc in
    let place : Some c.in-Some-place_bound.place ≡ Some (place_of s (names_with s names (Some (c.in-Some.at, c.in-Some.kind))) c.in-Some.at) =
    sym c.in-Some-place_bound.is ∙ c.place_bound.ensures ∙ c.requires c.in-Some.at c.in-Some.kind made
    ∙ ap (λ m. Some (place_of s (names_with s names m) c.in-Some.at)) made in
    let past : length names ≤ c.in-Some-place_bound.place = omega (arith, c.len.ensures.length, c.if-place-len.false) in
    let text : c.text.result.now ≡ text_at s c.in-Some.at = search rules in
    ap (place_in names) text ∙ new_behind s names c.in-Some.kind c.in-Some.at c.in-Some-place_bound.place place past
