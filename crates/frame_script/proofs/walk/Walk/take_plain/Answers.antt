use Rattle.std.proofs.Common.{refl, sym, ◌∙◌, ap, subst, length}
use Rattle.frame_ast.specs.Lists.{first_some}
use Rattle.script_text.specs.Raw.{form_of}
use Rattle.script_checks.specs.Spelling.{Says}
use Rattle.frame_script.specs.Walking.{scope_of}
use Rattle.frame_script.proofs.SaidLemmas.{plain_faults}
use Rattle.frame_script.proofs.MadePlaces.{says_made}
use Rattle.frame_script.proofs.walk.Walk.take_plain.Goals as goal

pub bind_name-requires : goal.bind_name-requires
bind_name-requires c at kind made =
    says_made c.args.source c.args.self.now.names _ c.args.self.now.kernels _ 0 (form_of c.args.raw.now) c.in_ok-act.act at kind made
    c.in_ok-act.ensures.1.0

pub returns : goal.returns
returns c =
    let s = c.args.source in
    let form = form_of c.args.raw.now in
    let old = c.args.self.now in
    let said = c.in_ok-act.ensures in
    let names = c.in_ok-bind_name.ensures in (
      sym (ap first_some (plain_faults s (scope_of old) c.args.at form c.requires.single)) ∙ said.0,
      record {
        names = names;
        kernels = refl;
        around = refl;
        tested = refl;
        literals = said.1.1;
        statement = record { line = c.args.line; act = c.in_ok-act.act };
        is = record {
          line = c.requires.line;
          says = subst (λ ns. Says s ns old.kernels (length old.literals.items) 0 form c.in_ok-act.act) (sym names) said.1.0;
        };
        written = c.in_ok-add.ensures;
      },
    )
