use Rattle.std.proofs.Common.{◌≡◌, ◌<◌, ◌∙◌, length, refl, arith}
use Rattle.frame_core.specs.declared.piece.Piece.TheVariants.{OfScript}
use Rattle.plan_run.proofs.InScriptOrder.{ends, fresh_before, may_read, may_write}
use Rattle.plan_run.proofs.Saying.{says_none}
use Rattle.plan_run.proofs.Running.{lines_next, refused_next, refused_few, all_lines, all_reported}
use Rattle.plan_run.proofs.alone.run_alone.Goals as goal

pub run_segment-last-requires-clause-few : goal.run_segment-last-requires-clause-few
run_segment-last-requires-clause-few g c = refused_few c.args.plan.now c.loop-i.i c.loop-i.refused c.requires.well c.loop-i.invariant.refused

pub run_segment-last-requires-clause-readable : goal.run_segment-last-requires-clause-readable
run_segment-last-requires-clause-readable g c =
    let n = c.len-i-end.ensures in
    let t = c.loop-i-test.true in
    let u = c.loop-i.auto.i-end in
    let lt : c.loop-i.i < length c.args.plan.now.segments.items = omega (arith, n, t, u) in
    may_read c.args.plan.now c.requires.well (g.M.Mem.readable c.args.mem.now) (g.M.Mem.readable c.loop-i.mem) c.requires.readable c.loop-i.invariant.readable
    (OfScript c.loop-i.i) lt

pub run_segment-last-requires-clause-writable : goal.run_segment-last-requires-clause-writable
run_segment-last-requires-clause-writable g c =
    let n = c.len-i-end.ensures in
    let t = c.loop-i-test.true in
    let u = c.loop-i.auto.i-end in
    let lt : c.loop-i.i < length c.args.plan.now.segments.items = omega (arith, n, t, u) in
    may_write c.args.plan.now c.requires.well (g.M.Mem.writable c.args.mem.now) (g.M.Mem.writable c.loop-i.mem) c.requires.writable c.loop-i.invariant.writable
    (OfScript c.loop-i.i) lt

pub loop-i-init : goal.loop-i-init
loop-i-init g c = record {
  cells = fresh_before c.args.plan.now (g.M.Mem.cells c.args.mem.now) c.requires.fresh;
  readable = refl;
  writable = refl;
  says = says_none _;
  later = omega arith;
  refused = refl;
  traps = λ p e. absurd (omega (arith, p));
}

pub loop-i-preserved : goal.loop-i-preserved
loop-i-preserved g c =
    let i = c.run_segment-last.ensures in
    let r = c.run_started.ensures in
    let v = c.loop-i.invariant in
    record {
      cells = r.cells;
      readable = r.readable ∙ (i.readable ∙ v.readable);
      writable = r.writable ∙ (i.writable ∙ v.writable);
      says = lines_next c.args.plan.now _ _ _ c.loop-i.i v.says i.text;
      later = let a = v.later in let b = i.later in omega (arith, a, b);
      refused = refused_next c.args.plan.now c.loop-i.i c.loop-i.refused c.run_segment-last.new.refused v.refused i.refused;
      traps = λ p e. i.traps e;
    }

pub returns-clause-cells : goal.returns-clause-cells
returns-clause-cells g c =
    let n = c.len-i-end.ensures in
    let t = c.loop-i-test.false in
    let u = c.loop-i.auto.i-end in
    let at : c.loop-i.i ≡ length c.args.plan.now.segments.items = omega (arith, n, t, u) in
    ends c.args.plan.now c.requires.well c.loop-i.i (g.M.Mem.cells c.loop-i.mem) at c.loop-i.invariant.cells

pub returns-clause-text : goal.returns-clause-text
returns-clause-text g c =
    let n = c.len-i-end.ensures in
    let t = c.loop-i-test.false in
    let u = c.loop-i.auto.i-end in
    let at : c.loop-i.i ≡ length c.args.plan.now.segments.items = omega (arith, n, t, u) in
    all_lines c.args.plan.now _ _ c.loop-i.i at c.loop-i.invariant.says

pub returns-clause-report : goal.returns-clause-report
returns-clause-report g c =
    let n = c.len-i-end.ensures in
    let t = c.loop-i-test.false in
    let u = c.loop-i.auto.i-end in
    let v = c.loop-i.invariant in
    let last = c.requires.well.order.last_is in
    let at : c.loop-i.i ≡ length c.args.plan.now.segments.items = omega (arith, n, t, u) in
    let some : 0 < c.loop-i.i = omega (arith, at, last) in
    all_reported c.args.plan.now c.loop-i.i c.loop-i.refused c.with_refused.result at v.refused c.with_refused.ensures.refused
    (c.with_refused.ensures.traps _ (v.traps some at))
