use Rattle.std.proofs.Common.{ℕ, ◌≡◌, ◌≤◌, true, sym, subst, ◌∙◌, arith}
use Rattle.std.proofs.lemmas.Bool.Decides.{nat_tests}
use Rattle.frame_ast.specs.Checked.{body_depth}
use Rattle.frame_ast.specs.Accepted.{up_to}
use Rattle.kernel_raw.specs.Depths.{depth_of}
use Rattle.kernel_raw.proofs.Widths.{shallow-depth}
use Rattle.frame_script.proofs.guard_room.has_guard_depth.Goals as goal

fits : (d most : ℕ) → d ≤ most → up_to most d ≡ true
fits d most h = grind (arith, nat_tests)

pub returns-then-are_shallow : goal.returns-then-are_shallow
returns-then-are_shallow c =
    let nodes = c.deref.result.now in
    let shallow = shallow-depth nodes 63 (sym c.are_shallow.ensures ∙ c.if-are_shallow.true) in
    let low = c.requires.nodes.depth 63 (subst (λ ns. (i : ℕ) → depth_of ns i ≤ 63) c.deref.ensures.value shallow) in
    c.if-are_shallow.true ∙ sym (fits (body_depth c.args.kernel.now.body.statements.items) 63 low)
