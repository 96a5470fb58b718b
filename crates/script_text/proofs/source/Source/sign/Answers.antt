use Rattle.std.proofs.Common.{slice_get, sym, subst, ◌∙◌, ap}
use Rattle.kernel_text.specs.Tokens.{kinds}
use Rattle.script_text.specs.Places.{IsTest, TestStands}
use Rattle.script_text.specs.Signs.{sign_of, sign_in}
use Rattle.script_text.specs.Sources.{file_tokens}
use Rattle.script_text.proofs.FileTokens.{sign_said, test_there, test_said}
use Rattle.script_text.proofs.source.Source.sign.Goals as goal

pub unreachable-requires : goal.unreachable-requires
unreachable-requires c =
    let s = c.args.self in
    let found = c.in-None.ensures in
    test_there s c.index.result (subst (TestStands (kinds (file_tokens s))) (sym c.index.ensures) c.requires) found.lookup.3

pub sign_of-requires : goal.sign_of-requires
sign_of-requires c =
    let s = c.args.self in
    let found = c.in-Some.ensures in
    let stands = subst (TestStands (kinds (file_tokens s))) (sym c.index.ensures) c.requires in
    subst IsTest (sym c.kind.ensures) (test_said s c.index.result c.in-Some.mark.now found.lookup.3.0 found.lookup.1 stands)

pub returns : goal.returns
returns c =
    let found = c.in-Some.ensures in
    sign_said c.args.self c.index.result c.in-Some.mark.now c.sign_of.result found.lookup.3.0 found.lookup.1 (c.sign_of.ensures ∙ ap sign_of c.kind.ensures)
    ∙ ap (λ at. sign_in (slice_get (file_tokens c.args.self) at)) c.index.ensures
