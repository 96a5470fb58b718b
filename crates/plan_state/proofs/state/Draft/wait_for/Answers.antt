use Rattle.std.proofs.Common.{refl, ap, ◌∙◌, None}
use Rattle.std.specs.Prelude.{Vec}
use Rattle.std.specs.declared.alloc.Global.{Global}
use Rattle.job_base.specs.declared.JobId.{JobId}
use Rattle.frame_core.specs.declared.plan.Op.{Op}
use Rattle.plan_state.proofs.state.Draft.wait_for.Goals as goal

pub returns : goal.returns
returns c = record {
  segment = record { waits = c.replace-waits.result; ops = c.replace-ops.result; starts = None };
  waits_were = ap (λ (v : Vec JobId Global). v.items) c.replace-waits.ensures.value;
  ops_were = ap (λ (v : Vec Op Global). v.items) c.replace-ops.ensures.value;
  starts = refl;
  segments = c.in_ok-push.ensures.items;
  waits = ap (λ (v : Vec JobId Global). v.items) c.replace-waits.ensures.after;
  ops = ap (λ (v : Vec Op Global). v.items) c.replace-ops.ensures.after ∙ c.new.ensures.items;
  rest = refl;
}
