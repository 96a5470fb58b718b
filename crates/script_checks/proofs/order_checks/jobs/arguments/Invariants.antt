use Rattle.std.proofs.Common.{◌≡◌, ℕ, Option, map, take, drop}
use Rattle.frame_ast.specs.declared.name_kind.NameKind.{NameKind}
use Rattle.frame_ast.specs.Lists.{first_some}
use Rattle.script_checks.specs.Faults.{args_faults}
use Rattle.script_checks.specs.Spelling.{arg_of, names_with}
use Rattle.script_checks.proofs.order_checks.jobs.arguments.Given as goal

abbrev pub invariant-loop-place : goal.invariant-loop-place
invariant-loop-place l = record {
  passed : first_some (args_faults l.source l.names l.sizes l.kernel.params.items l.args) ≡ first_some
      (args_faults l.source l.names l.sizes (drop l.place l.kernel.params.items) (drop l.place l.args));
  given : (m : Option (ℕ × NameKind)) → l.given.items ≡ map (arg_of l.source (names_with l.source l.names m)) (take l.place l.args);
}
