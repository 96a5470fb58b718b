use Rattle.std.proofs.Common.{◌≡◌, map, take, drop}
use Rattle.frame_ast.specs.Lists.{first_some}
use Rattle.script_text.specs.Sources.{text_at}
use Rattle.script_checks.specs.Faults.{waive_fault}
use Rattle.script_checks.specs.Spelling.{param_place}
use Rattle.script_checks.proofs.order_checks.jobs.all_waived.Given as goal

abbrev pub invariant-loop-name : goal.invariant-loop-name
invariant-loop-name l = record {
  passed : first_some (map (waive_fault l.source l.kernel) l.names) ≡ first_some (map (waive_fault l.source l.kernel) (drop l.name-index l.names));
  places : l.places.items ≡ map (λ at. param_place l.kernel.params.items (text_at l.source at)) (take l.name-index l.names);
}
