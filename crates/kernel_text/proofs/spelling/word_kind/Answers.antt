use Rattle.std.proofs.Common.{◌∙◌, unwrap_or, sym, ap}
use Rattle.std.specs.Str.{bytes_eq}
use Rattle.frame_grammar.specs.declared.token_kind.TokenKind.TheVariants.{Name}
use Rattle.kernel_text.proofs.Words.Reserved.{one_byte, index_is}
use Rattle.kernel_text.proofs.spelling.word_kind.Goals as goal

pub returns-then-word-eq1 : goal.returns-then-word-eq1
returns-then-word-eq1 c = sym (ap (λ kind. unwrap_or kind Name) (one_byte c.args.word.now c.if-word-eq1.true))

pub returns-then-eq : goal.returns-then-eq
returns-then-eq c =
    let same = ap (λ spelling. bytes_eq spelling c.args.word.now) (sym c.spelling.ensures) ∙ sym c.eq.ensures ∙ c.if-eq.true in
    sym (ap (λ kind. unwrap_or kind Name) (index_is c.args.word.now same))
