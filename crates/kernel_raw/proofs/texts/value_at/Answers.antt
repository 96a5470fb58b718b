use Rattle.std.proofs.Common.{◌+◌, min, take, sym, ◌∙◌, ap}
use Rattle.std.proofs.lemmas.Bool.{ltb-true, ltb-false}
use Rattle.kernel_text.specs.Marks.{lines_in}
use Rattle.kernel_text.specs.Tokens.{token_text}
use Rattle.kernel_text.specs.Numbers.{value_of}
use Rattle.kernel_raw.specs.RawTexts.{value_at}
use Rattle.kernel_text.proofs.Marks.{token_there, no_token}
use Rattle.kernel_raw.proofs.texts.value_at.Goals as goal

pub returns-in-Some : goal.returns-in-Some
returns-in-Some c =
    let raw = c.args.raw.now in
    let there = c.in-Some.ensures.lookup in
    c.value.ensures (raw.line + lines_in (take c.index.result raw.marks.now))
    ∙ sym (ap (λ found. min 18446744073709551615 (value_of (token_text raw.source.now found)))
    (token_there raw.source.now raw.line raw.marks.now c.index.result c.in-Some.mark.now (ltb-true _ _ (sym there.0)) there.1))
    ∙ ap (λ at. min 18446744073709551615 (value_at raw at)) c.index.ensures

pub returns-in-None : goal.returns-in-None
returns-in-None c =
    let raw = c.args.raw.now in
    sym (ap (λ found. min 18446744073709551615 (value_of (token_text raw.source.now found)))
    (no_token raw.source.now raw.line raw.marks.now c.index.result (ltb-false _ _ (sym c.in-None.ensures.lookup.0))))
    ∙ ap (λ at. min 18446744073709551615 (value_at raw at)) c.index.ensures
