use Rattle.std.proofs.Common.{◌≡◌, map, take}
use Rattle.script_names.proofs.names.Names.texts.Given as goal

abbrev pub invariant-loop-entry : goal.invariant-loop-entry
invariant-loop-entry l = l.texts ≡ map (λ e. e.text.now) (take l.entry-index l.entry-items)
