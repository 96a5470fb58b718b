use Rattle.std.proofs.Common.{sym, ◌∙◌, ap}
use Rattle.std.proofs.lemmas.Bool.{ltb-true, ltb-false}
use Rattle.kernel_raw.specs.RawTexts.{kind_of_token, kind_at}
use Rattle.kernel_text.proofs.Marks.{token_there, no_token}
use Rattle.kernel_raw.proofs.texts.kind_at.Goals as goal

pub returns-in-Some : goal.returns-in-Some
returns-in-Some c =
    let raw = c.args.raw.now in
    let there = c.in-Some.ensures.lookup in
    c.kind.ensures
    ∙ sym (ap kind_of_token (token_there raw.source.now raw.line raw.marks.now c.index.result c.in-Some.mark.now (ltb-true _ _ (sym there.0)) there.1))
    ∙ ap (kind_at raw) c.index.ensures

pub returns-in-None : goal.returns-in-None
returns-in-None c =
    let raw = c.args.raw.now in
    sym (ap kind_of_token (no_token raw.source.now raw.line raw.marks.now c.index.result (ltb-false _ _ (sym c.in-None.ensures.lookup.0))))
    ∙ ap (kind_at raw) c.index.ensures
