use Rattle.std.proofs.Common.{◌∙◌, ap, sym, subst, All}
use Rattle.std.proofs.lemmas.List.Elements.{All-push}
use Rattle.kernel_text.specs.Marks.{IsOfKind, tokens_in}
use Rattle.kernel_text.proofs.Tokens.Lexing.{end_pushed}
use Rattle.kernel_text.proofs.lexer.push_end.Goals as goal

pub returns-clause-tokens : goal.returns-clause-tokens
returns-clause-tokens c source =
    ap (tokens_in source 1) c.in_ok-push.ensures.items ∙ end_pushed source 1 c.args.place _ _ c.of.ensures.kind c.of.ensures.start

pub returns-clause-exact : goal.returns-clause-exact
returns-clause-exact c all =
    subst (All IsOfKind) (sym c.in_ok-push.ensures.items) (All-push IsOfKind c.args.marks.now.items c.of.result all c.of.ensures.exact)
