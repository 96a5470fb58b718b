use Rattle.std.proofs.Common.{◌≤◌, ◌-◌, length, take}
use Rattle.frame_parser.specs.Notes.{events_of}
use Rattle.kernel_raw.specs.Reading.{nothing_read, run}
use Rattle.kernel_raw.specs.Keeping.{kept_of}
use Rattle.kernel_raw.proofs.Reading.Keeping.{Keeps}
use Rattle.kernel_raw.proofs.kernel.raw_kernel.Given as goal

-- the reader keeps what it is to keep of the events so far
abbrev pub invariant-loop-at : goal.invariant-loop-at
invariant-loop-at l = record {
  within : l.at ≤ length l.parts;
  keeps : Keeps (kept_of l.reader) (run nothing_read (take l.at (events_of l.parts)));
}

abbrev pub decreases-loop-at : goal.decreases-loop-at
decreases-loop-at l = length l.parts - l.at
