use Rattle.std.proofs.Common.{◌≡◌, ◌++◌, drop, string_bytes}
use Rattle.view_text.specs.Pages.{lines_text}
use Rattle.view_text.proofs.svg.lines_text.Given as goal

abbrev pub invariant-loop-line : goal.invariant-loop-line
invariant-loop-line l = string_bytes l.text ++ lines_text (drop l.line-index l.lines) ≡ lines_text l.lines
