use Rattle.std.proofs.Common.{◌≡◌, drop}
use Rattle.grammar_table.specs.Predict.{found}
use Rattle.grammar_table.proofs.prediction.choice.Given as goal

abbrev pub invariant-loop-first : goal.invariant-loop-first
invariant-loop-first l = found l.choices l.kind ≡ found (drop l.first-index l.choices) l.kind
