-- Where a file's lines are counted.
use Rattle.std.specs.Prelude.{◌≡◌, ◌+◌, ◌≤◌, length, take}
use Rattle.kernel_text.specs.Marks.{lines_in}
use Rattle.script_text.specs.declared.source.Source.{Source}
use Rattle.script_text.specs.declared.line_cursor.LineCursor.{LineCursor}

-- The cursor stands among the tokens of a file, or after the last one, and has the line there.
pub record IsOn (s : Source) (cursor : LineCursor) : Type 0 where
  pub within : cursor.place ≤ length s.marks.now
  pub line : cursor.line ≡ 1 + lines_in (take cursor.place s.marks.now)
