use Rattle.std.proofs.Common.{◌∙◌, arith, ap, refl, subst, sym}
use Rattle.frame_ast.specs.Jobs.{Jobs, only, with_job}
use Rattle.job_handle.specs.Books.{StandsFor}
use Rattle.job_handle.specs.Sets.{jobs_of}
use Rattle.safety_handle.specs.Entries.{state_of}
use Rattle.plan_state.specs.declared.state.World.{World}
use Rattle.plan_state.specs.Accesses.{HasHandle}
use Rattle.plan_schedules.specs.Noting.{noted_all}
use Rattle.plan_schedules.proofs.accepting.add_job.Goals as goal

pub returns-clause-books : goal.returns-clause-books
returns-clause-books c =
    let old = c.args.world.now in
    let after = c.note_all.new.world in
    let rest = c.note_all.ensures.rest in
    let jobs = ap (λ (w : World). w.jobs) rest in
    let number = c.in-Ok.ensures.number in
    record {
      room = λ full. (let next = number in let few = c.in-Ok.ensures.few in absurd (omega arith));
      after = after;
      jobs = λ b st. subst (λ k. StandsFor k (with_job b (jobs_of c.args.deps.now))) (sym jobs) (c.in-Ok.ensures.book b st);
      safety = λ k. c.note_all.ensures.noted k ∙ ap (λ j. noted_all j c.args.uses.now (state_of old.safety) k) number;
      rest = rest ∙ (λ i. record old { jobs = sym jobs i; safety = after.safety });
      named = subst (λ (j : Jobs). HasHandle after c.set_handle_to_job.new.self c.args.handle j) (ap only number)
          c.in_ok-set_handle_to_job.ensures;
    }

pub returns-clause-starts : goal.returns-clause-starts
returns-clause-starts c = record {
  start = record {
    kernel = c.args.run.kernel;
    guarded = c.args.run.guarded;
    binds = c.args.run.binds;
    cut = c.args.run.cut;
    parallel = c.args.run.parallel;
    deps = c.in_ok-later.later;
  };
  is = refl;
  runs = refl;
  later_are = c.in_ok-later.ensures;
}
