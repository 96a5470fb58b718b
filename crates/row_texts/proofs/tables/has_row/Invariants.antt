use Rattle.std.proofs.Common.{◌≡◌, drop}
use Rattle.row_texts.specs.Tables.{row_from, has_row}
use Rattle.row_texts.proofs.tables.has_row.Given as goal

abbrev pub invariant-loop-byte : goal.invariant-loop-byte
invariant-loop-byte l = row_from l.place (drop l.byte-index l.source) ≡ has_row l.text
