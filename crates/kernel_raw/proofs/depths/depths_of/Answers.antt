use Rattle.std.proofs.Common.{◌≡◌, ◌∙◌, length, below_more, refl, arith}
use Rattle.std.proofs.lemmas.Grind.{common_steps}
use Rattle.kernel_raw.proofs.RunningDepths.{next-depth, close-within, spanning-le, prior-suc, kept-few, begin-few, closed-kept, depths-kept}
use Rattle.kernel_raw.proofs.depths.depths_of.Goals as goal

pub count_edges-requires-clause-begin : goal.count_edges-requires-clause-begin
count_edges-requires-clause-begin c k h = begin-few c.requires.0 c.args.nodes.now c.args.joined.items c.requires.1 k h

pub count_edges-requires-clause-few : goal.count_edges-requires-clause-few
count_edges-requires-clause-few c = omega (arith, kept-few c.requires.0 c.args.nodes.now c.args.joined.items c.requires.1)

pub loop-i-init : goal.loop-i-init
loop-i-init c = record { len = c.in_ok-depths.ensures.len; depths = λ all are k h. absurd (omega arith); last = λ all are. refl }

pub overflow_sub-depth : goal.overflow_sub-depth
overflow_sub-depth c =
    let all = c.requires.0 in
    let are = c.requires.1 in
    close-within all c.in_ok-edges.edges.closed.items c.loop-i.i (length c.args.nodes.now) c.loop-i.depth c.index.result.now
    c.loop-i-test.true (omega (arith, c.in_ok-edges.ensures.closed_len))
    (λ k h. c.in_ok-edges.ensures.closed k h ∙ closed-kept all c.args.nodes.now c.args.joined.items are k h)
    c.index.ensures (c.loop-i.invariant.last all are)

pub overflow_add-depth : goal.overflow_add-depth
overflow_add-depth c =
    let all = c.requires.0 in
    let are = c.requires.1 in
    let is = next-depth all c.in_ok-edges.edges.closed.items c.in_ok-edges.edges.opened.items c.loop-i.i
    (length c.args.nodes.now) c.loop-i.depth c.index.result.now c.index-in-loop-i.result.now
    c.loop-i-test.true (omega (arith, c.in_ok-edges.ensures.closed_len)) (omega (arith, c.in_ok-edges.ensures.opened_len))
    (λ k h. c.in_ok-edges.ensures.closed k h ∙ closed-kept all c.args.nodes.now c.args.joined.items are k h)
    (λ k h. c.in_ok-edges.ensures.opened k h ∙ are.begin k (omega (arith, h, kept-few all c.args.nodes.now c.args.joined.items are)))
    c.index.ensures c.index-in-loop-i.ensures (c.loop-i.invariant.last all are) in
    omega (arith, is, spanning-le c.loop-i.i 0 all, are.few)

pub overflow_cast-depth : goal.overflow_cast-depth
overflow_cast-depth c =
    let all = c.requires.0 in
    let are = c.requires.1 in
    let is = next-depth all c.in_ok-edges.edges.closed.items c.in_ok-edges.edges.opened.items c.loop-i.i
    (length c.args.nodes.now) c.loop-i.depth c.index.result.now c.index-in-loop-i.result.now
    c.loop-i-test.true (omega (arith, c.in_ok-edges.ensures.closed_len)) (omega (arith, c.in_ok-edges.ensures.opened_len))
    (λ k h. c.in_ok-edges.ensures.closed k h ∙ closed-kept all c.args.nodes.now c.args.joined.items are k h)
    (λ k h. c.in_ok-edges.ensures.opened k h ∙ are.begin k (omega (arith, h, kept-few all c.args.nodes.now c.args.joined.items are)))
    c.index.ensures c.index-in-loop-i.ensures (c.loop-i.invariant.last all are) in
    omega (arith, is, spanning-le c.loop-i.i 0 all, are.few)

pub loop-i-preserved : goal.loop-i-preserved
loop-i-preserved c = record {
  len = grind (arith, common_steps);
  depths = λ all are.
      let is = next-depth all c.in_ok-edges.edges.closed.items c.in_ok-edges.edges.opened.items c.loop-i.i
      (length c.args.nodes.now) c.loop-i.depth c.index.result.now c.index-in-loop-i.result.now
      c.loop-i-test.true (omega (arith, c.in_ok-edges.ensures.closed_len)) (omega (arith, c.in_ok-edges.ensures.opened_len))
      (λ k h. c.in_ok-edges.ensures.closed k h ∙ closed-kept all c.args.nodes.now c.args.joined.items are k h)
      (λ k h. c.in_ok-edges.ensures.opened k h ∙ are.begin k (omega (arith, h, kept-few all c.args.nodes.now c.args.joined.items are)))
      c.index.ensures c.index-in-loop-i.ensures (c.loop-i.invariant.last all are) in
      below_more _ _ (λ k h. grind (arith, common_steps, c.loop-i.invariant.depths all are k h)) (grind (arith, common_steps));
  last = λ all are.
      let is = next-depth all c.in_ok-edges.edges.closed.items c.in_ok-edges.edges.opened.items c.loop-i.i
      (length c.args.nodes.now) c.loop-i.depth c.index.result.now c.index-in-loop-i.result.now
      c.loop-i-test.true (omega (arith, c.in_ok-edges.ensures.closed_len)) (omega (arith, c.in_ok-edges.ensures.opened_len))
      (λ k h. c.in_ok-edges.ensures.closed k h ∙ closed-kept all c.args.nodes.now c.args.joined.items are k h)
      (λ k h. c.in_ok-edges.ensures.opened k h ∙ are.begin k (omega (arith, h, kept-few all c.args.nodes.now c.args.joined.items are)))
      c.index.ensures c.index-in-loop-i.ensures (c.loop-i.invariant.last all are) in
      is ∙ prior-suc all c.loop-i.i;
}

pub returns : goal.returns
returns c all are =
    let size : c.loop-i.i ≡ length c.args.nodes.now = omega (arith, c.loop-i-test.false, c.loop-i.auto.i-end) in
    depths-kept all c.args.nodes.now c.args.joined.items c.loop-i.depths.items are (omega (arith, c.loop-i.invariant.len, size, c.loop-i.depths.ok))
    (λ k h. c.loop-i.invariant.depths all are k (omega (arith, h, size)))
