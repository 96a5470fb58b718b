use Rattle.std.proofs.Common.{◌≡◌, ℕ, ◌+◌, ◌==◌, List, [], ◌∷◌, length, take, refl, sym, ◌∙◌, ap, arith}
use Rattle.std.specs.Str.{bytes_eq}
use Rattle.std.proofs.lemmas.Bool.{ltb-true, ltb-false, ne_eqb}
use Rattle.kernel_text.specs.Marks.{lines_in}
use Rattle.kernel_text.specs.Tokens.{token_text}
use Rattle.kernel_raw.specs.RawTexts.{text_at}
use Rattle.kernel_text.proofs.Marks.{token_there, no_token}
use Rattle.kernel_raw.proofs.texts.is_spelled.Goals as goal

pub returns-in-Some : goal.returns-in-Some
returns-in-Some c =
    let raw = c.args.raw.now in
    let there = c.in-Some.ensures.lookup in
    c.is_spelled.ensures (raw.line + lines_in (take c.index.result raw.marks.now))
    ∙ sym (ap (λ found. bytes_eq (token_text raw.source.now found) c.args.name.now)
    (token_there raw.source.now raw.line raw.marks.now c.index.result c.in-Some.mark.now (ltb-true _ _ (sym there.0)) there.1))
    ∙ ap (λ at. bytes_eq (text_at raw at) c.args.name.now) c.index.ensures

empty : (name : List ℕ) → (length name == 0) ≡ bytes_eq [] name
empty [] = refl
empty (byte ∷ name) = ne_eqb _ _ (λ none. omega arith)

pub returns-in-None : goal.returns-in-None
returns-in-None c =
    let raw = c.args.raw.now in
    c.is_empty.ensures ∙ empty c.args.name.now
    ∙ sym (ap (λ found. bytes_eq (token_text raw.source.now found) c.args.name.now)
    (no_token raw.source.now raw.line raw.marks.now c.index.result (ltb-false _ _ (sym c.in-None.ensures.lookup.0))))
    ∙ ap (λ at. bytes_eq (text_at raw at) c.args.name.now) c.index.ensures
