use Rattle.std.proofs.Common.{◌≡◌, ◌≤◌, drop}
use Rattle.job_base.specs.declared.limits.TheConstants.{MOST_JOBS, MOST_CREATED_WORDS}
use Rattle.frame_ast.specs.Limits.{limit_by_text}
use Rattle.frame_ast.specs.Orders.{setting}
use Rattle.plan_statements.specs.Tables.{columns_of}
use Rattle.frame_plan.proofs.limits.check_text.Given as goal

abbrev pub invariant-loop-statement : goal.invariant-loop-statement
invariant-loop-statement l =
    let g = setting l.script (columns_of l.table) in
    record {
      jobs : l.jobs ≤ MOST_JOBS;
      words : l.words ≤ MOST_CREATED_WORDS;
      rest : limit_by_text g (drop l.statement-index l.statement-items) l.jobs l.words ≡ limit_by_text g l.script.statements.items 0 0;
    }
