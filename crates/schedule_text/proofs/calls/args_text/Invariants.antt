use Rattle.std.proofs.Common.{◌≡◌, ◌++◌, drop}
use Rattle.std.specs.Prelude.{string_bytes}
use Rattle.frame_ast.specs.Texts.{listed, more_text}
use Rattle.schedule_text.specs.Boxes.{arg_text}
use Rattle.schedule_text.proofs.calls.args_text.Given as goal

abbrev pub invariant-loop-arg : goal.invariant-loop-arg
invariant-loop-arg l = string_bytes l.text ++ more_text (arg_text l.script) (drop l.arg-index l.more) ≡ listed (arg_text l.script) l.args
