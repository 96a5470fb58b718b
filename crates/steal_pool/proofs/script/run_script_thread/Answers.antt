use Rattle.std.proofs.Common.{◌≡◌, ◌<◌, ◌∙◌, arith, rules, length, false, sym, subst}
use Rattle.frame_core.specs.Output.{plan_lines}
use Rattle.plan_run.specs.Runs.{IsReport}
use Rattle.plan_run.specs.Says.{SaysTo, said_to}
use Rattle.plan_run.proofs.Running.{lines_next, refused_next, refused_few, all_lines, all_reported}
use Rattle.steal_pool.proofs.script.run_script_thread.Goals as goal

pub run_next_segment-next-requires-clause-few : goal.run_next_segment-next-requires-clause-few
run_next_segment-next-requires-clause-few g c =
    refused_few c.args.crew.now.plan.now c.loop-i.i c.loop-i.said.refused c.requires.crew.well c.loop-i.invariant.refused

pub loop-i-preserved : goal.loop-i-preserved
loop-i-preserved g c = let i = c.run_next_segment-next.ensures in let v = c.loop-i.invariant in record {
  home = i.home ∙ v.home;
  at = i.at;
  says = lines_next c.args.crew.now.plan.now (said_to g.S.Sink.taken g.S.Sink.faults c.args.sink.now c.args.out.now false)
      (said_to g.S.Sink.taken g.S.Sink.faults c.loop-i.sink c.loop-i.out c.loop-i.said.failed)
      (said_to g.S.Sink.taken g.S.Sink.faults c.run_next_segment-next.new.sink c.run_next_segment-next.new.out c.run_next_segment-next.new.said.failed)
      c.loop-i.i v.says i.text;
  later = let a = v.later in let b = i.later in omega (arith, a, b);
  refused = refused_next c.args.crew.now.plan.now c.loop-i.i c.loop-i.said.refused c.run_next_segment-next.new.said.refused v.refused i.refused;
  traps = λ p e. i.traps e;
}

pub returns-clause-run : goal.returns-clause-run
returns-clause-run g c =
    let n : c.len-i-end.result ≡ length c.args.crew.now.plan.now.segments.items = search (rules, c.len-i-end.ensures) in
    let t = c.loop-i-test.false in
    let u = c.loop-i.auto.i-end in
    let v = c.loop-i.invariant in
    let last = c.requires.crew.well.order.last_is in
    let at : c.loop-i.i ≡ length c.args.crew.now.plan.now.segments.items = omega (arith, n, t, u) in
    let pos : 0 < c.loop-i.i = omega (arith, at, last) in
    let from = said_to g.S.Sink.taken g.S.Sink.faults c.args.sink.now c.args.out.now false in
    let to = said_to g.S.Sink.taken g.S.Sink.faults c.loop-i.sink c.loop-i.out c.loop-i.said.failed in (
      subst (λ b. SaysTo g.S.Sink.taken g.S.Sink.faults c.args.sink.now c.args.out.now false c.loop-i.sink c.loop-i.out b (plan_lines c.args.crew.now.plan.now))
          (sym c.of.ensures.fault) (all_lines c.args.crew.now.plan.now from to c.loop-i.i at v.says),
      subst (λ r. IsReport c.args.crew.now.plan.now r) (sym c.of.ensures.report)
          (all_reported c.args.crew.now.plan.now c.loop-i.i c.loop-i.said.refused c.with_refused.result at v.refused c.with_refused.ensures.refused
          (c.with_refused.ensures.traps _ (v.traps pos at))),
    )
