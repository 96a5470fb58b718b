use Rattle.std.proofs.Common.{◌+◌, take, sym, ◌∙◌, ap}
use Rattle.std.proofs.lemmas.Bool.{ltb-true, ltb-false}
use Rattle.kernel_text.specs.Marks.{lines_in}
use Rattle.kernel_text.specs.Tokens.{token_text}
use Rattle.kernel_raw.specs.RawTexts.{text_at}
use Rattle.kernel_text.proofs.Marks.{token_there, no_token}
use Rattle.kernel_raw.proofs.texts.text_at.Goals as goal

pub returns-in-Some : goal.returns-in-Some
returns-in-Some c =
    let raw = c.args.raw.now in
    let there = c.in-Some.ensures.lookup in
    c.text.ensures (raw.line + lines_in (take c.index.result raw.marks.now))
    ∙ sym (ap (token_text raw.source.now) (token_there raw.source.now raw.line raw.marks.now c.index.result c.in-Some.mark.now
    (ltb-true _ _ (sym there.0)) there.1))
    ∙ ap (text_at raw) c.index.ensures

pub returns-in-None : goal.returns-in-None
returns-in-None c =
    let raw = c.args.raw.now in
    sym (ap (token_text raw.source.now) (no_token raw.source.now raw.line raw.marks.now c.index.result (ltb-false _ _ (sym c.in-None.ensures.lookup.0))))
    ∙ ap (text_at raw) c.index.ensures
