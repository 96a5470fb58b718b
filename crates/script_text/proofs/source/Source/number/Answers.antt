use Rattle.std.proofs.Common.{◌^◌, ◌-◌, min, refl, ◌∙◌, ap}
use Rattle.std.proofs.Math.Nat.{min_comm}
use Rattle.kernel_text.specs.Marks.{token_in}
use Rattle.kernel_text.specs.Tokens.{text_of}
use Rattle.kernel_text.specs.Numbers.{value_of}
use Rattle.script_text.specs.Sources.{number_at}
use Rattle.script_text.proofs.FileTokens.{text_said, no_text}
use Rattle.script_text.proofs.source.Source.number.Goals as goal

pub returns-in-None : goal.returns-in-None
returns-in-None c =
    let found = c.in-None.ensures in
    ap (λ text. min (value_of text) (2 ^ 64 - 1)) (no_text c.args.self c.index.result found.lookup.3)
    ∙ ap (λ at. min (number_at c.args.self at) (2 ^ 64 - 1)) c.index.ensures

pub returns-in-Some : goal.returns-in-Some
returns-in-Some c =
    let found = c.in-Some.ensures in
    let mark = c.in-Some.mark.now in
    let text = text_of c.args.self.bytes.now (token_in c.args.self.bytes.now 0 mark) in
    let same = text_said c.args.self c.index.result mark text found.lookup.3.0 found.lookup.1 (λ line. refl) in
    c.value.ensures 0 ∙ ap (λ t. min 18446744073709551615 (value_of t)) same ∙ min_comm 18446744073709551615 (number_at c.args.self c.index.result)
    ∙ ap (λ at. min (number_at c.args.self at) (2 ^ 64 - 1)) c.index.ensures
