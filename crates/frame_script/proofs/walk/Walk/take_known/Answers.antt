use Rattle.std.proofs.Common.{◌++◌, length, refl, sym, ◌∙◌, ap}
use Rattle.std.proofs.lemmas.List.{append-nil}
use Rattle.frame_ast.specs.Lists.{first_some}
use Rattle.frame_script.specs.Walking.{scope_of, lists_in}
use Rattle.frame_script.proofs.SaidLemmas.{known_faults, known_said, known_no_list, known_plain, known_takes}
use Rattle.frame_script.proofs.walk.Walk.take_known.Goals as goal

pub add_plain-requires : goal.add_plain-requires
add_plain-requires c = known_plain c.args.source _ c.args.order c.in_ok-act.act c.in_ok-act.ensures.1.0

pub returns : goal.returns
returns c =
    let s = c.args.source in
    let order = c.args.order in
    let old = c.args.self.now in
    let lists = lists_in old.literals in
    let said = c.in_ok-act.ensures in (
      sym (ap first_some (known_faults s (scope_of old) c.args.at order)) ∙ said.0,
      known_takes s c.args.at order old _
          (record {
            names = said.1.1;
            kernels = refl;
            around = refl;
            tested = refl;
            literals = sym (append-nil lists) ∙ ap (λ y. lists ++ y) (known_no_list s order);
            statement = record { line = c.args.line; act = c.in_ok-act.act };
            is = record {
              line = c.requires.line;
              says = known_said s _ old.kernels (length old.literals.items) order c.in_ok-act.act said.1.0;
            };
            written = c.in_ok-add_plain.ensures;
          }),
    )
