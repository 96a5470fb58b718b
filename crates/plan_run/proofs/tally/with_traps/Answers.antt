use Rattle.std.proofs.Common.{◌+◌, refl, sym, ap, ◌∙◌, arith}
use Rattle.plan_run.proofs.Tallies.{few_more, more_next, first_next, job_below}
use Rattle.plan_run.proofs.tally.with_traps.Goals as goal

pub returns-then-report-gt0-clause-few : goal.returns-then-report-gt0-clause-few
returns-then-report-gt0-clause-few c =
    few_more c.args.plan.now c.requires.well c.args.p c.requires.piece c.args.report.now c.args.report.now c.args.notes.now c.requires.notes c.requires.report
    (c.args.report.now.traps + c.from.result) (ap (λ n. c.args.report.now.traps + n) c.from.ensures) c.requires.few

pub returns-then-report-gt0-clause-report : goal.returns-then-report-gt0-clause-report
returns-then-report-gt0-clause-report c =
    more_next c.args.plan.now c.requires.well c.args.p c.requires.piece c.args.report.now
    (record c.args.report.now { traps = c.args.report.now.traps + c.from.result }) c.args.notes.now c.requires.notes c.requires.report c.if-report-gt0.true
    (ap (λ n. c.args.report.now.traps + n) c.from.ensures) refl refl refl

pub overflow_add-result : goal.overflow_add-result
overflow_add-result c =
    let below = job_below c.args.plan.now c.args.p c.in-OfJob.j c.in-OfJob.field-1 c.requires.piece (sym c.piece.ensures ∙ c.in-OfJob.is) in
    let few = c.requires.well.sized.jobs in
    omega (arith, below, few)

pub returns-clause-few : goal.returns-clause-few
returns-clause-few c =
    few_more c.args.plan.now c.requires.well c.args.p c.requires.piece c.args.report.now c.args.report.now c.args.notes.now c.requires.notes c.requires.report
    (c.args.report.now.traps + c.from.result) (ap (λ n. c.args.report.now.traps + n) c.from.ensures) c.requires.few

pub returns-clause-report : goal.returns-clause-report
returns-clause-report c =
    first_next c.args.plan.now c.requires.well c.args.p c.requires.piece c.args.report.now record {
      traps = c.args.report.now.traps + c.from.result;
      refused = c.args.report.now.refused;
      job = record { 0 = c.in-OfJob.j + 1 };
      index = c.args.first.0;
      trap = c.args.first.1;
    } c.args.notes.now c.requires.notes c.requires.report c.in-OfJob.j c.in-OfJob.field-1 c.args.first.0 c.args.first.1 c.piece.result c.piece.ensures
    c.in-OfJob.is c.requires.first c.if-report-gt0.false (ap (λ n. c.args.report.now.traps + n) c.from.ensures) refl refl refl
