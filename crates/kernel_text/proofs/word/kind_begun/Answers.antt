use Rattle.std.proofs.Common.{◌∙◌, ap, arith, get_or}
use Rattle.frame_grammar.specs.declared.token_kind.TokenKind.TheVariants.{Name}
use Rattle.kernel_text.proofs.Words.Begun.{kinds_begun}
use Rattle.kernel_text.proofs.word.kind_begun.Goals as goal

pub returns : goal.returns
returns c = ap (λ kinds. get_or kinds c.args.byte Name) c.kinds_begun.ensures ∙ kinds_begun c.args.byte (omega (arith, c.ranges.byte))
