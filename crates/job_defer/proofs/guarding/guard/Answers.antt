use Rattle.std.proofs.Common.{sym, ◌∙◌}
use Rattle.job_defer.proofs.Arguments.{guards_contents}
use Rattle.job_defer.proofs.Checks.{guarded_checked}
use Rattle.job_defer.proofs.Footprints.{guards_footprint}
use Rattle.job_defer.proofs.Words.{guards_words}
use Rattle.job_defer.proofs.guarding.guard.Goals as goal

pub returns-clause-checked : goal.returns-clause-checked
returns-clause-checked c =
    guarded_checked _ _ c.requires.checked c.requires.parallel
    (sym c.has_room.ensures ∙ c.if-not-has_room.false) c.in_ok-guarded.ensures

pub returns-clause-contents : goal.returns-clause-contents
returns-clause-contents c = guards_contents _ _ c.requires.checked c.in_ok-guarded.ensures

pub returns-clause-words : goal.returns-clause-words
returns-clause-words c = guards_words _ _ c.requires.checked c.in_ok-guarded.ensures

pub returns-clause-footprint : goal.returns-clause-footprint
returns-clause-footprint c = guards_footprint _ _ c.in_ok-guarded.ensures
