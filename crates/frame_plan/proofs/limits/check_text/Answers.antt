use Rattle.std.proofs.Common.{◌+◌, ◌≤◌, sym, ◌∙◌, arith}
use Rattle.job_base.specs.declared.limits.TheConstants.{MOST_JOBS, MOST_CREATED_WORDS}
use Rattle.frame_ast.specs.Orders.{setting}
use Rattle.plan_statements.specs.Tables.{columns_of}
use Rattle.frame_plan.proofs.Limiting.{text_jobs, text_words, text_on}
use Rattle.frame_plan.proofs.limits.check_text.Goals as goal

pub returns-then-jobs-gt-MOST_JOBS : goal.returns-then-jobs-gt-MOST_JOBS
returns-then-jobs-gt-MOST_JOBS c =
    let l = c.loop-statement in
    sym l.invariant.rest
    ∙ text_jobs (setting c.args.script.now (columns_of c.args.table.now)) c.deref-statement-items.result.now l.statement-index c.statement-item.result
    l.jobs l.words c.jobs_of-jobs.result c.words_of-more.result (omega arith) c.statement-item.is c.jobs_of-jobs.ensures c.words_of-more.ensures (omega arith)

pub returns-then-more-from : goal.returns-then-more-from
returns-then-more-from c =
    let l = c.loop-statement in
    sym l.invariant.rest
    ∙ text_words (setting c.args.script.now (columns_of c.args.table.now)) c.deref-statement-items.result.now l.statement-index c.statement-item.result
    l.jobs l.words c.jobs_of-jobs.result c.words_of-more.result (omega arith) c.statement-item.is c.jobs_of-jobs.ensures c.words_of-more.ensures (omega arith)
    (omega arith)

pub loop-statement-preserved : goal.loop-statement-preserved
loop-statement-preserved c =
    let l = c.loop-statement in
    let few : l.jobs + c.jobs_of-jobs.result ≤ MOST_JOBS = omega arith in
    let less : l.words + c.words_of-more.result ≤ MOST_CREATED_WORDS = omega arith in
    record {
      jobs = few;
      words = less;
      rest = text_on (setting c.args.script.now (columns_of c.args.table.now)) c.deref-statement-items.result.now l.statement-index c.statement-item.result
          l.jobs l.words c.jobs_of-jobs.result c.words_of-more.result (omega arith) c.statement-item.is c.jobs_of-jobs.ensures c.words_of-more.ensures few less
          ∙ l.invariant.rest;
    }
