use Rattle.std.proofs.Common.{◌++◌, false, refl, sym, subst}
use Rattle.frame_ast.specs.Texts.{traps_text}
use Rattle.frame_core.specs.Output.{plan_lines, plan_traps}
use Rattle.plan_run.specs.Runs.{IsReport}
use Rattle.plan_run.specs.Says.{Says, said_to}
use Rattle.plan_run.proofs.Saying.{says_after}
use Rattle.plan_run.proofs.Running.{says_flushed, whole_run}
use Rattle.steal_pool.proofs.whole.run.Goals as goal

pub returns-clause-run : goal.returns-clause-run
returns-clause-run g c =
    let plan = g.P.ShowsPlan.shown c.args.plan.now in
    let traps = plan_traps plan in
    let lines = c.run_lines-lines.ensures.run in
    let same = c.report-report.ensures in
    let reported = subst (λ r. IsReport plan r) (sym same) lines.1 in
    let a = said_to g.S.Sink.taken g.S.Sink.faults c.args.sink.now c.args.out.now false in
    let b = said_to g.S.Sink.taken g.S.Sink.faults c.run_lines-lines.new.sink c.run_lines-lines.new.out c.is_fault-failed.result in
    let d = said_to g.S.Sink.taken g.S.Sink.faults c.say_traps.new.sink c.say_traps.new.out c.say_traps.new.failed in
    let e = said_to g.S.Sink.taken g.S.Sink.faults c.flush_lines.new.sink c.flush_lines.new.out c.flush_lines.new.failed in
    let first = subst (λ f. Says a (said_to g.S.Sink.taken g.S.Sink.faults c.run_lines-lines.new.sink c.run_lines-lines.new.out f) (plan_lines plan))
    (sym c.is_fault-failed.ensures) lines.0 in
    let both = says_after a b d (plan_lines plan) (traps_text traps) first (c.say_traps.ensures.text traps reported.traps) in
    let all = says_flushed a d e (plan_lines plan ++ traps_text traps) both c.flush_lines.ensures.text in
    whole_run plan (plan_lines plan ++ traps_text traps) a e refl c.requires.empty all c.of.result c.of.ensures.fault c.flush_lines.ensures.none
    (subst (λ r. IsReport plan r) (sym c.of.ensures.report) reported)
