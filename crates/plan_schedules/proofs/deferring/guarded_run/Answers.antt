use Rattle.std.proofs.Common.{◌≤◌, Some, refl, subst}
use Rattle.job_base.specs.declared.limits.TheConstants.{MOST_INDEXES}
use Rattle.plan_schedules.specs.Deferring.{IsListBind}
use Rattle.plan_schedules.specs.Starting.{IsCutBy}
use Rattle.plan_state.proofs.Accessing.{read_some}
use Rattle.plan_schedules.proofs.Batches.{numbers_fit}
use Rattle.plan_schedules.proofs.deferring.guarded_run.Goals as goal

pub cut_of-requires : goal.cut_of-requires
cut_of-requires c =
    let few : c.list_at-at.result.cap ≤ MOST_INDEXES = subst IsListBind c.list_at-at.ensures c.requires.is_list in
    numbers_fit c.list_at-at.result.cap c.args.defer.1 few c.requires.batch.0 c.requires.batch.1

pub returns : goal.returns
returns c = record {
  source = c.index-of.result.now;
  is_source = read_some c.args.script.now.kernels c.args.kernel c.index-of.result.now c.requires.kernel c.index-of.ensures;
  at = c.list_at-at.result;
  list_at = c.list_at-at.ensures;
  kernel_is = refl;
  guarded = refl;
  binds = c.in_ok-binds.ensures;
  cut_by = subst (λ works. IsCutBy works c.args.kernel (Some (c.list_at-at.result.cap, c.args.defer.1)) c.cut_of.result) c.deref.ensures.value
      c.cut_of.ensures;
  parallel = c.is_split.ensures;
}
