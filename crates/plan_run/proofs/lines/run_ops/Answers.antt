use Rattle.std.proofs.Common.{◌∙◌, refl, arith}
use Rattle.plan_run.proofs.InOps.{ops_start, step_refused, step_done, in_mem}
use Rattle.plan_run.proofs.lines.run_ops.Goals as goal

pub loop-op-init : goal.loop-op-init
loop-op-init g c = record {
  readable = refl;
  writable = refl;
  later = omega arith;
  ops = ops_start _ _ _ _ _ _ _
      c.requires.fits c.requires.readable c.requires.writable c.requires.stands;
}

pub loop-op-preserved-then-run_op : goal.loop-op-preserved-then-run_op
loop-op-preserved-then-run_op g c = let i = c.run_op.ensures in let v = c.loop-op.invariant in record {
  readable = i.readable ∙ v.readable;
  writable = i.writable ∙ v.writable;
  later = let a = v.later in let b = i.later in omega (arith, a, b);
  ops = in_mem _ _ _ _ _ _ _ _ _ _ _ _ _ i.readable i.writable
      (step_refused _ _ _ _ _ _ _ _ _ _ _ _ _ _ _ c.run_op.result c.in-Some.ensures.cases.0 v.ops i.cells i.refused i.text c.if-run_op.true);
}

pub loop-op-preserved : goal.loop-op-preserved
loop-op-preserved g c = let i = c.run_op.ensures in let v = c.loop-op.invariant in record {
  readable = i.readable ∙ v.readable;
  writable = i.writable ∙ v.writable;
  later = let a = v.later in let b = i.later in omega (arith, a, b);
  ops = in_mem _ _ _ _ _ _ _ _ _ _ _ _ _ i.readable i.writable
      (step_done _ _ _ _ _ _ _ _ _ _ _ _ _ _ _ c.run_op.result c.in-Some.ensures.cases.0 v.ops i.cells i.refused i.text c.if-run_op.false);
}
