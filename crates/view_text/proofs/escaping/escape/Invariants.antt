use Rattle.std.proofs.Common.{◌≡◌, string_bytes}
use Rattle.std.specs.Prelude.{flat_map}
use Rattle.view_text.specs.Escapes.{escape_of}
use Rattle.view_text.proofs.escaping.escape.Given as goal

abbrev pub invariant-loop-c : goal.invariant-loop-c
invariant-loop-c l = string_bytes l.out ≡ flat_map (escape_of l.language) l.yielded
