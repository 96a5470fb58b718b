use Rattle.std.proofs.Common.{◌≡◌, ◌≤◌, take, take_all, length, length-take, sym, ◌∙◌, ap, subst, arith}
use Rattle.std.specs.Prelude.{nat_lt}
use Rattle.std.specs.List.{list_any}
use Rattle.kernel_raw.specs.declared.raw.TheConstants.{MOST_KEPT}
use Rattle.kernel_raw.specs.Depths.{depth_of, depths_of}
use Rattle.kernel_raw.proofs.Widths.{shallow-depth}
use Rattle.kernel_raw.proofs.KeptDepths.{kept-shallow, kept-some, kept-none}
use Rattle.kernel_raw.proofs.depths.kept_depths.Goals as goal

pub returns-then-are_shallow : goal.returns-then-are_shallow
returns-then-are_shallow c all are =
    let nodes = c.args.nodes.now in
    let few : length all ≤ MOST_KEPT = omega (arith, ap length are.first, length-take MOST_KEPT all, c.if-nodes.true) in
    let whole : nodes ≡ all = are.first ∙ take_all MOST_KEPT all few in
    let shallow = shallow-depth nodes 64 (sym c.are_shallow.ensures ∙ c.if-are_shallow.true) in
    c.new.ensures.items ∙ sym (kept-shallow all (λ i. subst (λ ns. depth_of ns i ≤ 64) whole (shallow i)))

pub returns-then-is_one_too_deep : goal.returns-then-is_one_too_deep
returns-then-is_one_too_deep c all are =
    let is = c.in_ok-depths.ensures all are in
    let one = sym c.is_one_too_deep.ensures ∙ c.if-is_one_too_deep.true in
    is ∙ sym (kept-some (take MOST_KEPT (depths_of all)) (ap (list_any (nat_lt 64)) (sym (c.deref.ensures.value ∙ is)) ∙ one))

pub returns-else-is_one_too_deep : goal.returns-else-is_one_too_deep
returns-else-is_one_too_deep c all are =
    let is = c.in_ok-depths.ensures all are in
    let none = sym c.is_one_too_deep.ensures ∙ c.if-is_one_too_deep.false in
    c.new-else-is_one_too_deep.ensures.items ∙ sym (kept-none (take MOST_KEPT (depths_of all))
    (ap (list_any (nat_lt 64)) (sym (c.deref.ensures.value ∙ is)) ∙ none))
