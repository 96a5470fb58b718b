use Rattle.std.proofs.Common.{◌≡◌, ◌+◌, suc, ℕ, List, Some, refl, ap, sym, ◌∙◌, arith}
use Rattle.std.specs.Prelude.{Vec, if◌then◌else◌}
use Rattle.batch_cut.specs.Cuts.{count_of}
use Rattle.std.specs.declared.alloc.Global.{Global}
use Rattle.job_base.specs.declared.JobId.{JobId}
use Rattle.frame_core.specs.declared.plan.Op.{Op}
use Rattle.plan_state.proofs.state.Draft.start_job.Goals as goal
use Rattle.plan_state.proofs.state.Draft.start_job.Goals.{then-job, else-job}

pub returns : goal.returns
returns c = record {
  segment = record { waits = c.replace-waits.result; ops = c.replace-ops.result; starts = Some (record { 0 = c.len.result + 1 }) };
  waits_were = ap (λ (v : Vec JobId Global). v.items) c.replace-waits.ensures.value;
  ops_were = ap (λ (v : Vec Op Global). v.items) c.replace-ops.ensures.value;
  starts = (let n : c.len.result + 1 ≡ suc (Rattle.std.proofs.Common.length c.args.self.now.jobs.items) =
      (let e = c.len.ensures in let ok = c.args.self.now.jobs.ok.0 in omega arith) in ap (λ m. Some (record { 0 = m })) n);
  segments = c.in_ok-push-2.ensures.items;
  jobs = c.in_ok-push.ensures.items;
  waits = ap (λ (v : Vec JobId Global). v.items) c.replace-waits.ensures.after ∙ c.new.ensures.items;
  ops = ap (λ (v : Vec Op Global). v.items) c.replace-ops.ensures.after ∙ c.new-2.ensures.items;
  pieces = ap (λ n. c.args.self.now.pieces + n) (elim c.if-job.branch [
    | then-job w ↦ w.pieces-is ∙ w.count-pieces.ensures.count ∙ sym (ap (λ b. if b then count_of c.args.job.cut.n c.args.job.cut.step else 1) w.if-job.true)
    | else-job w ↦ w.pieces-is ∙ sym (ap (λ b. if b then count_of c.args.job.cut.n c.args.job.cut.step else 1) w.if-job.false)
  ]);
  rest = refl;
}
