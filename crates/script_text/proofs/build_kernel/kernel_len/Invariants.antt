use Rattle.std.proofs.Common.{◌≡◌, ◌+◌, drop}
use Rattle.frame_parser.specs.Notes.{events_of}
use Rattle.script_text.specs.Reading.{len_to_close}
use Rattle.script_text.proofs.build_kernel.kernel_len.Given as goal

abbrev pub invariant-loop-index : goal.invariant-loop-index
invariant-loop-index l = l.index + len_to_close (drop l.index (events_of l.notes)) ≡ len_to_close (events_of l.notes)
