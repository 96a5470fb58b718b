use Rattle.std.proofs.Common.{◌≡◌, ◌<◌, ◌+◌, ◌-◌, get_or, drop, length, map, sym, ◌∙◌, arith}
use Rattle.std.proofs.lemmas.List.{get_or-drop, get_or-take, length-map}
use Rattle.grammar_table.proofs.Steps.{kinds_same_not, kinds_differ_not}
use Rattle.known_lines.proofs.Takings.{one_more_there, kind_there, kind_wanted, too_few_there}
use Rattle.known_lines.proofs.kinds.are_at.Goals as goal

pub loop-index-preserved : goal.loop-index-preserved
loop-index-preserved g c =
    let tokens = c.args.tokens.now in
    let within : c.loop-index.index < c.args.place + length c.args.kinds.now - c.args.place = omega (arith, c.loop-index-test.true) in
    let token : c.index-ahead-index.result ≡ get_or tokens (c.args.place + c.loop-index.index) c.index-ahead-index.result =
    c.index-ahead-index.is ∙ get_or-take (c.args.place + length c.args.kinds.now - c.args.place) (drop c.args.place tokens) c.loop-index.index _ within
    ∙ get_or-drop c.args.place tokens c.loop-index.index _ in
    one_more_there c.args.kinds.now (map g.T.HasKind.kind_of tokens) c.args.place c.loop-index.index c.loop-index.invariant
    (kind_there g.T.HasKind.kind_of tokens c.index-ahead-index.result (c.args.place + c.loop-index.index) c.args.kinds.now c.loop-index.index c.kind.result _
    (omega (arith, c.loop-index-test.true, c.if-tokens-place.false, c.requires)) c.loop-index-test.true token c.kind.ensures
    (kinds_same_not c.kind.result _ (sym c.ne.ensures ∙ c.if-ne.false)))

pub returns-then-tokens-place-clause-absent : goal.returns-then-tokens-place-clause-absent
returns-then-tokens-place-clause-absent g c e there =
    let len = length-map c.args.tokens.now g.T.HasKind.kind_of in
    too_few_there c.args.kinds.now (map g.T.HasKind.kind_of c.args.tokens.now) c.args.place (omega (arith, len, c.requires))
    (omega (arith, len, c.if-tokens-place.true)) there

pub returns-then-ne-clause-absent : goal.returns-then-ne-clause-absent
returns-then-ne-clause-absent g c e there =
    let tokens = c.args.tokens.now in
    let within : c.loop-index.index < c.args.place + length c.args.kinds.now - c.args.place = omega (arith, c.loop-index-test.true) in
    let token : c.index-ahead-index.result ≡ get_or tokens (c.args.place + c.loop-index.index) c.index-ahead-index.result =
    c.index-ahead-index.is ∙ get_or-take (c.args.place + length c.args.kinds.now - c.args.place) (drop c.args.place tokens) c.loop-index.index _ within
    ∙ get_or-drop c.args.place tokens c.loop-index.index _ in
    kinds_differ_not c.kind.result _ (sym c.ne.ensures ∙ c.if-ne.true)
    (kind_wanted g.T.HasKind.kind_of tokens c.index-ahead-index.result (c.args.place + c.loop-index.index) c.args.kinds.now c.loop-index.index c.kind.result _
    (omega (arith, c.loop-index-test.true, c.if-tokens-place.false, c.requires)) c.loop-index-test.true token c.kind.ensures
    (there c.loop-index.index c.loop-index-test.true))
