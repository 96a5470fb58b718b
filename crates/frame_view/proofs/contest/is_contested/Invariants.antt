use Rattle.std.proofs.Common.{◌≡◌, drop}
use Rattle.frame_view.specs.Contests.{is_contested}
use Rattle.frame_view.proofs.contest.is_contested.Given as goal

abbrev pub invariant-loop-i : goal.invariant-loop-i
invariant-loop-i l = is_contested l.binds l.access l.bind l.i (drop l.i l.params) ≡ is_contested l.binds l.access l.bind 0 l.params
