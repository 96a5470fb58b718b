use Rattle.std.proofs.Common.{◌≡◌, drop}
use Rattle.frame_host.specs.Reading.{place_from}
use Rattle.frame_host.proofs.reading.place_of.Given as goal

abbrev pub invariant-loop-i : goal.invariant-loop-i
invariant-loop-i l =
    place_from l.i l.name (drop l.i l.script.names) ≡ place_from 0 l.name l.script.names
