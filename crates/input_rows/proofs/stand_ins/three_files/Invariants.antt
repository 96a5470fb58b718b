use Rattle.std.proofs.Common.{◌≡◌, vec_len}
use Rattle.input_rows.proofs.stand_ins.three_files.Given as goal

abbrev pub invariant-loop-name : goal.invariant-loop-name
invariant-loop-name l = vec_len l.names ≡ vec_len l.contents
