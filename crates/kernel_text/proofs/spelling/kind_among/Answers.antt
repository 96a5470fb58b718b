use Rattle.std.proofs.Common.{unwrap_or, filter, length, ◌∙◌, ap, sym}
use Rattle.frame_grammar.specs.declared.token_kind.TokenKind.TheVariants.{Name}
use Rattle.kernel_text.specs.Spellings.{is_shaped, spelled, reserved_words}
use Rattle.kernel_text.proofs.Words.Reserved.{spelled-filter}
use Rattle.kernel_text.proofs.spelling.kind_among.Goals as goal

-- a reserved word is among those with its first byte
pub returns : goal.returns
returns c =
    c.unwrap_or.ensures
    ∙ ap (λ kind. unwrap_or kind Name) (c.spelled.ensures
    ∙ (ap (λ kinds. spelled kinds c.args.word.now) (c.requires.all ∙ ap (λ len. filter (is_shaped len c.args.first) reserved_words) (sym c.requires.long)
    ∙ ap (λ first. filter (is_shaped (length c.args.word.now) first) reserved_words) (sym c.requires.begun))
    ∙ spelled-filter reserved_words c.args.word.now))
