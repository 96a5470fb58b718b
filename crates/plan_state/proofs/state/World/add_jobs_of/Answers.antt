use Rattle.std.proofs.Common.{◌||◌, ap, subst, sym, ◌∙◌, arith}
use Rattle.std.specs.Prelude.{vec_len}
use Rattle.job_handle.specs.Sets.{jobs_of}
use Rattle.plan_state.specs.Accesses.{jobs_in, jobs_of_value}
use Rattle.plan_state.specs.Stands.{IsThere}
use Rattle.plan_state.proofs.Accessing.{read_some}
use Rattle.plan_state.proofs.Naming.{none_joined}
use Rattle.plan_state.proofs.state.World.add_jobs_of.Goals as goal

pub returns-in-Jobs : goal.returns-in-Jobs
returns-in-Jobs c j =
    let s = c.args.self.now in
    let lt = subst (IsThere (vec_len s.containers) (vec_len s.handles)) c.in-Jobs.is c.requires.there in
    let read = read_some s.handles c.in-Jobs.place c.index.result.now lt c.index.ensures in
    ap (λ f. f j) c.add_all.ensures
    ∙ ap (λ f. jobs_of c.args.all.now j || f j) (ap jobs_in (sym read) ∙ ap (jobs_of_value s.handles.items) (sym c.in-Jobs.is))

pub returns-in-Dead : goal.returns-in-Dead
returns-in-Dead c j =
    let one_of_these = c.in-Dead.is in
    none_joined c.args.self.now.handles.items c.args.value (λ k jobs. grind arith) (jobs_of c.args.all.now j) j
