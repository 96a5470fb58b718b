use Rattle.std.proofs.Common.{◌+◌, ◌≡◌, drop, length}
use Rattle.std.specs.List.{prefix_len}
use Rattle.kernel_text.specs.Words.{continues_name}
use Rattle.kernel_text.proofs.word.name_end.Given as goal

-- the rest stands from here on, and the run from here on ends where the whole one does
abbrev pub invariant-loop-rest : goal.invariant-loop-rest
invariant-loop-rest l = record {
  here : l.rest ≡ drop l.end l.source;
  run : l.end + prefix_len continues_name (drop l.end l.source) ≡ l.from + prefix_len continues_name (drop l.from l.source);
}

abbrev pub decreases-loop-rest : goal.decreases-loop-rest
decreases-loop-rest l = length l.rest

abbrev pub invariant-loop-byte : goal.invariant-loop-byte
invariant-loop-byte l = record {
  here : drop l.byte-index l.byte-items ≡ drop l.end l.source;
  run : l.end + prefix_len continues_name (drop l.end l.source) ≡ l.from + prefix_len continues_name (drop l.from l.source);
}
