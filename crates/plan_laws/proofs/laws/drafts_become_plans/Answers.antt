use Rattle.plan_laws.proofs.Becoming.{drafts_become_plans}
use Rattle.plan_laws.proofs.laws.drafts_become_plans.Goals as goal

pub returns : goal.returns
returns c = drafts_become_plans
