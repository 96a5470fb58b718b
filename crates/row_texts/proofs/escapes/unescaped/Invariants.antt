use Rattle.std.proofs.Common.{◌≡◌, ◌++◌, drop}
use Rattle.row_texts.specs.Escapes.{read_from, unescaped}
use Rattle.row_texts.proofs.escapes.unescaped.Given as goal

abbrev pub invariant-loop-byte : goal.invariant-loop-byte
invariant-loop-byte l = l.bytes.items ++ read_from l.begun (drop l.byte-index l.source) ≡ unescaped l.text
