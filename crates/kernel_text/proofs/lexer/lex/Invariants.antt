use Rattle.std.proofs.Common.{length, ◌-◌, ◌≤◌, All}
use Rattle.kernel_text.specs.Marks.{IsOfKind}
use Rattle.kernel_text.specs.Tokens.{tokens_of, up_to_bad}
use Rattle.kernel_text.proofs.Tokens.Lexing.{SoFar}
use Rattle.kernel_text.proofs.lexer.lex.Given as goal

-- the tokens so far and those from the place on, up to a Bad one, are the file's
abbrev pub invariant-loop-place : goal.invariant-loop-place
invariant-loop-place l = record {
  in_range : l.place ≤ length l.source;
  exact : All IsOfKind l.marks.items;
  so_far : SoFar l.source l.place l.marks.items (up_to_bad (tokens_of l.source));
}

abbrev pub decreases-loop-place : goal.decreases-loop-place
decreases-loop-place l = length l.source - l.place
