use Rattle.std.proofs.Common.{◌≡◌, [], None, false, refl, ◌∙◌, ap, subst, length}
use Rattle.frame_ast.specs.Lists.{first_some}
use Rattle.script_text.specs.Raw.{Repeat}
use Rattle.script_checks.specs.Faults.{order_faults}
use Rattle.frame_script.specs.Writing.{opened}
use Rattle.frame_script.specs.declared.written.OpenBlock.TheVariants as block
use Rattle.frame_script.specs.Walking.{scope_of}
use Rattle.frame_script.proofs.Writing.RepeatCounts.{repeats_once}
use Rattle.frame_script.proofs.walk.Walk.open_repeat.Goals as goal

pub returns : goal.returns
returns c =
    let s = c.args.source in
    let old = c.args.self.now in
    let blocks : c.in_ok-blocks.blocks ≡ length old.outer_tests.items = c.in_ok-blocks.ensures ∙ (c.len.ensures ∙ old.outer_tests.ok.0) in
    let none : first_some (order_faults s (scope_of old) c.args.at (Repeat c.args.count)) ≡ None =
    subst (λ n. first_some (order_faults s (record { names = []; kernels = []; blocks = n; tested = false }) c.args.at (Repeat c.args.count)) ≡ None) blocks
    c.in_ok-count.ensures.0 in (
      none,
      record {
        enters = record { names = refl; kernels = refl; literals = refl; around = c.in_ok-push.ensures.items };
        tested = refl;
        least = repeats_once s (scope_of old) c.args.at c.args.count none;
        written = c.in_ok-open_repeat.ensures ∙ ap (λ n. opened (block.Repeat (length old.written.statements) n) old.written) c.in_ok-count.ensures.1;
      },
    )
