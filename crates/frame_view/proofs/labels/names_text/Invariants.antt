use Rattle.std.proofs.Common.{◌≡◌, ◌++◌, drop}
use Rattle.std.specs.Prelude.{string_bytes}
use Rattle.frame_ast.specs.Texts.{listed, more_text}
use Rattle.schedule_text.specs.Boxes.{name_text}
use Rattle.frame_view.proofs.labels.names_text.Given as goal

abbrev pub invariant-loop-name : goal.invariant-loop-name
invariant-loop-name l = string_bytes l.text ++ more_text (name_text l.script) (drop l.name-index l.more) ≡ listed (name_text l.script) l.names
