use Rattle.std.proofs.Common.{◌≡◌, ◌+◌, ◌++◌, drop, string_bytes}
use Rattle.view_text.specs.Pages.{rows_text}
use Rattle.view_text.proofs.svg.rows_text.Given as goal

abbrev pub invariant-loop-at : goal.invariant-loop-at
invariant-loop-at l = string_bytes l.text ++ rows_text (l.at + 1) (drop l.at l.rows) ≡ rows_text 1 l.rows
