use Rattle.std.specs.Prelude.{string_bytes}
use Rattle.schedule_text.proofs.Used.{IsOn}
use Rattle.schedule_text.proofs.usage.used_text.Given as goal

abbrev pub invariant-loop-i : goal.invariant-loop-i
invariant-loop-i l = IsOn l.script l.wanted l.args l.params (string_bytes l.text) l.i
