use Rattle.std.proofs.Common.{◌≡◌, drop}
use Rattle.frame_core.specs.Names.{has_job}
use Rattle.frame_view.proofs.chain.is_among.Given as goal

abbrev pub invariant-loop-id : goal.invariant-loop-id
invariant-loop-id l = has_job (drop l.id-index l.jobs) l.wanted.0 ≡ has_job l.jobs l.wanted.0
