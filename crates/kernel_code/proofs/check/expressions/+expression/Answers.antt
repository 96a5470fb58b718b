use Rattle.std.proofs.Common.{sym, ap, subst, ◌∙◌, arith, IsTrue}
use Rattle.std.proofs.lemmas.Result.{IfOk-weaker}
use Rattle.kernel_code.specs.Trees.{joint_of, joins}
use Rattle.kernel_code.specs.Places.{is_one, IsJoint}
use Rattle.kernel_code.proofs.Built.Expressions.{faultless_at, meaning_is, atom_leaf, atom_one, atom_item, first_part, chain_stop, chain_more, joins_at}
use Rattle.kernel_code.proofs.check.expressions.+expression.Goals as goal

pub atom-returns-in_ok-one_operand-in-Element-clause-built :
    goal.atom-returns-in_ok-one_operand-in-Element-clause-built
atom-returns-in_ok-one_operand-in-Element-clause-built t c e here =
    let r = c.requires.resolved in
    let raw = c.args.raw.now in
    let there = sym c.node_at.ensures.node ∙ c.in-Some.is in
    let known = ap (λ m. m.name) (c.meaning_at-named.ensures _ (meaning_is raw c.args.meanings.now c.args.at c.in-Some.node r there)) in
    let form_is : IsTrue (is_one c.in-Some.node.form) = grind (arith, c.in-Element.is) in
    atom_one raw c.args.at c.in-Some.node _ c.in_ok-inner-in-Element.inner.expr _ _ there (faultless_at raw _ _ _ r there) known form_is
    c.in_ok-inner-in-Element.ensures.built c.in_ok-one_operand-in-Element.ensures e here

pub atom-returns-in_ok-both-in-Item-clause-built : goal.atom-returns-in_ok-both-in-Item-clause-built
atom-returns-in_ok-both-in-Item-clause-built t c e here =
    let r = c.requires.resolved in
    let raw = c.args.raw.now in
    let there = sym c.node_at.ensures.node ∙ c.in-Some.is in
    let known = ap (λ m. m.name) (c.meaning_at-named.ensures _ (meaning_is raw c.args.meanings.now c.args.at c.in-Some.node r there)) in
    atom_item raw c.args.at c.in-Some.node _ c.in_ok-first-in-Item.first.expr c.in_ok-second-in-Item.second.expr _ _ _ _ there
    (faultless_at raw _ _ _ r there) known c.in-Item.is
    c.in_ok-first-in-Item.ensures.built c.in_ok-second-in-Item.ensures.built c.number_of.ensures c.in_ok-both-in-Item.ensures.ok e here

pub atom-returns-in-Number-clause-built : goal.atom-returns-in-Number-clause-built
atom-returns-in-Number-clause-built t c e here =
    let r = c.requires.resolved in
    let raw = c.args.raw.now in
    let node = c.in-Some.node in
    let there = sym c.node_at.ensures.node ∙ c.in-Some.is in
    let known = ap (λ m. m.name) (c.meaning_at-named.ensures _ (meaning_is raw c.args.meanings.now c.args.at node r there)) in
    let is = c.in-Number.is in
    atom_leaf raw c.args.at node _ _ there (faultless_at raw _ _ _ r there) known (λ h. grind (arith, is, h)) (λ h. grind (arith, is, h))
    (λ h. grind (arith, is, h)) (λ h. grind (arith, is, h)) (λ h. grind (arith, is, h)) c.leaf_expression.ensures e here

pub chain-returns-in_default-clause-built : goal.chain-returns-in_default-clause-built
chain-returns-in_default-clause-built t c l e b here built = chain_stop c.args.raw.now c.args.start _ _ c.in_default.ensures.cases b here built

pub chain-returns-clause-built : goal.chain-returns-clause-built
chain-returns-clause-built t c =
    IfOk-weaker c.chain.result _ _ (λ last h l e b here built.
    chain_more c.args.raw.now c.args.start c.in-Some.node _ _ c.in_ok-binary.field-0 last.expr _ _ last.next c.in-Some.ensures.cases.0 c.in-Some.ensures.cases.1
    c.in-Some.ensures.cases.2
    c.in_ok-right.ensures.built (subst (λ k. IsJoint (joint_of k) c.args.left.expr c.in_ok-right.right.expr c.in_ok-binary.field-0) c.kind_at.ensures
    c.in_ok-binary.ensures) (λ u v w. h u e v here w) b here built) c.chain.ensures.built

pub expression-returns-clause-built : goal.expression-returns-clause-built
expression-returns-clause-built t c =
    IfOk-weaker c.chain.result _ _ (λ last h e here.
    let first = first_part c.args.raw.now c.args.at e here in
    h first.left e first.begins here (c.in_ok-first.ensures.built first.left first.here)) c.chain.ensures.built

pub chain-binary-requires : goal.chain-binary-requires
chain-binary-requires t c =
    let node = c.in-Some.node in
    subst (λ k. IsTrue (joins k)) (sym c.kind_at.ensures)
    (joins_at c.args.raw.now _ node.at node.form
    (faultless_at c.args.raw.now _ _ node c.requires.resolved c.in-Some.ensures.cases.0).token c.in-Some.ensures.cases.1)
