use Rattle.std.proofs.Common.{◌≡◌, ◌++◌, drop}
use Rattle.std.specs.Prelude.{string_bytes}
use Rattle.trace_text.specs.Traces.{pieces_text}
use Rattle.trace_text.proofs.jobs.pieces_text.Given as goal

abbrev pub invariant-loop-piece : goal.invariant-loop-piece
invariant-loop-piece l = string_bytes l.text ++ pieces_text l.before l.job (drop l.piece-index l.pieces) ≡ pieces_text l.before l.job l.pieces
