use Rattle.std.proofs.Common.{refl, subst}
use Rattle.plan_schedules.specs.Starting.{IsCutBy}
use Rattle.plan_state.proofs.Accessing.{read_some}
use Rattle.plan_schedules.proofs.scheduling.plain_run.Goals as goal

pub returns : goal.returns
returns c = record {
  source = c.index-of.result.now;
  is_source = read_some c.args.script.now.kernels c.args.kernel c.index-of.result.now c.requires.kernel c.index-of.ensures;
  kernel_is = refl;
  plain = refl;
  binds = c.in_ok-binds.ensures;
  cut_by = subst (λ works. IsCutBy works c.args.kernel c.args.cut c.cut_of.result) c.deref.ensures.value c.cut_of.ensures;
  parallel = c.is_split.ensures;
}
