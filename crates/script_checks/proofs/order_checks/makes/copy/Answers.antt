use Rattle.std.proofs.Common.{rules}
use Rattle.script_names.specs.Names.{kind_in}
use Rattle.script_text.specs.Sources.{text_at}
use Rattle.script_checks.proofs.FaultLemmas.{refuses, exits, refused_by}
use Rattle.script_checks.proofs.PlaceLemmas.{stays}
use Rattle.script_checks.proofs.CopyLemmas.{unknown_long, unknown_source, other_long, other_source, copy_unmade, copy_good, copy_says}
use Rattle.script_checks.proofs.order_checks.makes.copy.Goals as goal

pub returns-in_err-check_length : goal.returns-in_err-check_length
returns-in_err-check_length c =
    exits _ _ c.from_residual.result _ c.from_residual.ensures.1
    (unknown_long c.args.source c.args.names.now c.args.name c.args.of (kind_in c.args.names.now (text_at c.args.source c.args.of)) _ (search rules)
    (refuses _ _ c.in_err-check_length.ensures))

pub returns-in_default : goal.returns-in_default
returns-in_default c =
    refused_by _ _ c.refuse.result _ c.refuse.ensures
    (unknown_source c.args.source c.args.names.now c.args.name c.args.of (kind_in c.args.names.now (text_at c.args.source c.args.of))
    (search rules) c.in_ok-check_length.ensures.0)

pub returns-in_err-check_length-2 : goal.returns-in_err-check_length-2
returns-in_err-check_length-2 c =
    exits _ _ c.from_residual-in_err-check_length-2.result _ c.from_residual-in_err-check_length-2.ensures.1
    (other_long c.args.source c.args.names.now c.args.name c.args.of (kind_in c.args.names.now (text_at c.args.source c.args.of)) c.in-Some.kind _
    (search rules) (search rules) (refuses _ _ c.in_err-check_length-2.ensures))

pub returns-then-not-is_among : goal.returns-then-not-is_among
returns-then-not-is_among c =
    refused_by _ _ c.refuse-then-not-is_among.result _ c.refuse-then-not-is_among.ensures
    (other_source c.args.source c.args.names.now c.args.name c.args.of (kind_in c.args.names.now (text_at c.args.source c.args.of)) c.in-Some.kind
    (search rules) (search rules) c.in_ok-check_length-2.ensures.0)

pub returns-in_err-name : goal.returns-in_err-name
returns-in_err-name c =
    exits _ _ c.from_residual-in_err-name.result _ c.from_residual-in_err-name.ensures.1
    (copy_unmade c.args.source c.args.names.now c.args.name c.args.of (kind_in c.args.names.now (text_at c.args.source c.args.of)) c.in-Some.kind _
    (search rules) (search rules) c.in_err-name.ensures)

pub returns : goal.returns
returns c = (
  copy_good c.args.source c.args.names.now c.args.name c.args.of (kind_in c.args.names.now (text_at c.args.source c.args.of)) c.in-Some.kind (search rules)
      (search rules) c.in_ok-name.ensures.0,
  copy_says c.args.source c.args.names.now c.args.name c.args.of (kind_in c.args.names.now (text_at c.args.source c.args.of)) c.in-Some.kind _ _ (search rules)
      c.in_ok-name.ensures.1 (stays c.args.source c.args.names.now c.args.of c.in-Some.place (search rules)),
)
