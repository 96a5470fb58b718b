use Rattle.std.proofs.Common.{refl, sym, ap, subst, IsSome, Some}
use Rattle.frame_plan.specs.Sections.{place_of}
use Rattle.frame_top.proofs.Sectioning.{section_last, section_more, job_fits}
use Rattle.frame_top.proofs.sections.take_run.Goals as goal

pub returns-in-None-clause-goes : goal.returns-in-None-clause-goes
returns-in-None-clause-goes c script columns sections from made =
    section_last script columns sections from c.args.book.now _ c.args.section c.args.ran _ c.reports_are_within.ensures made c.requires.report
    c.join_reports-progress.ensures.traps c.join_reports-progress.ensures.refused _ refl c.in-None.is

pub returns-in-Some-clause-goes : goal.returns-in-Some-clause-goes
returns-in-Some-clause-goes c script columns sections from made =
    section_more script columns sections from c.args.book.now _ c.args.section c.args.ran _ c.reports_are_within.ensures made c.requires.report
    c.join_reports-progress.ensures.traps c.join_reports-progress.ensures.refused _ c.in-Some.test refl c.in-Some.is
    (c.requires.cells (subst IsSome (sym c.in-Some.is) refl)) c.holds.ensures.cells c.take_back.new.self c.take_back.ensures
    (ap Some c.holds.ensures.held)

pub returns-in-Some-clause-place : goal.returns-in-Some-clause-place
returns-in-Some-clause-place c = ap place_of c.take_back.ensures

pub join_reports-progress-requires-clause-job : goal.join_reports-progress-requires-clause-job
join_reports-progress-requires-clause-job c some =
    let m = c.requires.made in
    job_fits m.0 m.1 m.3 m.6.next.to c.args.section m.6.next.is_section m.4 c.args.ran.report c.reports_are_within.ensures c.requires.report some
