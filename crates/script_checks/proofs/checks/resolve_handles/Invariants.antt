use Rattle.std.proofs.Common.{◌≡◌, ℕ, map, take, drop, Option}
use Rattle.frame_ast.specs.declared.name_kind.NameKind.{NameKind}
use Rattle.frame_ast.specs.Lists.{first_some}
use Rattle.script_checks.specs.Faults.{handles_faults}
use Rattle.script_checks.specs.Spelling.{place_of, names_with}
use Rattle.script_checks.proofs.checks.resolve_handles.Given as goal

abbrev pub invariant-loop-handle : goal.invariant-loop-handle
invariant-loop-handle l = record {
  passed : first_some (handles_faults l.source l.names l.handles) ≡ first_some (handles_faults l.source l.names (drop l.handle-index l.handles));
  places : (m : Option (ℕ × NameKind)) → l.places.items ≡ map (place_of l.source (names_with l.source l.names m)) (take l.handle-index l.handles);
}
