use Rattle.std.proofs.Common.{◌≡◌, ◌≤◌, ◌+◌, ◌^◌, take, drop}
use Rattle.std.specs.List.{prefix_len}
use Rattle.std.specs.Char.{is_ascii_digit}
use Rattle.kernel_text.specs.Numbers.{value_of}
use Rattle.kernel_text.proofs.decimal.value_within.Given as goal

abbrev pub invariant-loop-len : goal.invariant-loop-len
invariant-loop-len l = record {
  run : l.len + prefix_len is_ascii_digit (drop l.len l.bytes) ≡ prefix_len is_ascii_digit l.bytes;
  value : l.value ≡ value_of (take l.len l.bytes);
  small : l.value + 1 ≤ 10 ^ l.len;
}
