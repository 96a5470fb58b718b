use Rattle.std.proofs.Common.{ap, arith}
use Rattle.frame_ast.specs.Accepted.{is_when}
use Rattle.plan_statements.specs.Tables.{columns_of}
use Rattle.frame_plan.proofs.Acting.{not_when, other_past, passes_by}
use Rattle.frame_plan.proofs.Passing.{passed_by}
use Rattle.frame_plan.proofs.planner.pass.Goals as goal

pub returns-then-planner-gt0-clause-passed : goal.returns-then-planner-gt0-clause-passed
returns-then-planner-gt0-clause-passed c went = passed_by c.args.script.now (columns_of c.args.table.now) c.args.planner.now c.args.statement.now (omega arith)

pub returns-then-planner-gt0-clause-past : goal.returns-then-planner-gt0-clause-past
returns-then-planner-gt0-clause-past c went = passes_by c.args.script.now (columns_of c.args.table.now) c.args.planner.now c.args.statement.now (omega arith)

pub pass_test-requires : goal.pass_test-requires
pass_test-requires c = record {
  at = (c.args.script.now, columns_of c.args.table.now, c.requires);
  acts = omega arith;
  test = ap is_when c.in-When.is;
}

pub returns-in-When : goal.returns-in-When
returns-in-When c = record {
  passed = c.pass_test.ensures.passed c.args.script.now (columns_of c.args.table.now);
  stops = c.pass_test.ensures.stops c.args.script.now (columns_of c.args.table.now);
  past = c.pass_test.ensures.past c.args.script.now (columns_of c.args.table.now);
  stays = c.pass_test.ensures.stays;
  fails = c.pass_test.ensures.fails c.args.script.now (columns_of c.args.table.now);
}

pub returns-clause-past : goal.returns-clause-past
returns-clause-past c went =
    other_past c.args.script.now (columns_of c.args.table.now) c.args.planner.now c.args.statement.now (not_when c.args.statement.now.act c.in_default.not-When)
