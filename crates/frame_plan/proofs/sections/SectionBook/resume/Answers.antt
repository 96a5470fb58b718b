use Rattle.std.proofs.Common.{◌++◌, ◌∙◌, refl, sym, ap, subst, arith}
use Rattle.frame_plan.specs.declared.sections.SectionBook.{SectionBook}
use Rattle.plan_state.specs.declared.state.Planner.{Planner}
use Rattle.plan_state.specs.Steps.{state_at}
use Rattle.plan_statements.specs.Tables.{columns_of}
use Rattle.plan_state.proofs.Accessing.{read_some}
use Rattle.frame_plan.proofs.Carrying.{growing_on}
use Rattle.frame_plan.proofs.Laying.{fewer}
use Rattle.frame_plan.proofs.Working.{works_kept}
use Rattle.frame_plan.proofs.Resuming.{below, place_back, place_small, resumed_with, standing_on, no_limit}
use Rattle.frame_plan.specs.Names.{AreNamesOf}
use Rattle.frame_plan.proofs.sections.SectionBook.resume.Goals as goal

pub overflow_add-self : goal.overflow_add-self
overflow_add-self c =
    let r = c.requires.at in
    let b = r.3 in
    let small = place_small c.args.script.now (columns_of c.args.table.now) b.before b.plan r.0 r.1 r.2 b.handed_out in
    let at = b.handed_out.at in
    let same = place_back b.before b.plan c.args.self.now b.taken_back in
    omega arith

pub run-requires-clause-inside : goal.run-requires-clause-inside
run-requires-clause-inside c =
    let r = c.requires.at in
    let b = r.3 in
    let lt = below c.args.script.now (columns_of c.args.table.now) b.before b.plan r.0 r.1 r.2 b.handed_out in
    let at = b.handed_out.at in
    let same = place_back b.before b.plan c.args.self.now b.taken_back in
    omega arith

pub run-requires-clause-stands : goal.run-requires-clause-stands
run-requires-clause-stands c =
    let r = c.requires.at in
    let b = r.3 in
    let t = columns_of c.args.table.now in
    let lt = below c.args.script.now t b.before b.plan r.0 r.1 r.2 b.handed_out in
    let at = b.handed_out.at in
    let same = place_back b.before b.plan c.args.self.now b.taken_back in
    let here = read_some c.args.script.now.statements c.args.self.now.at c.index-statement.result.now
    (let len = c.args.script.now.statements.ok.0 in omega arith) c.index-statement.ensures in (
      state_at c.args.script.now t r.0,
      b.handed_out.found,
      standing_on c.args.script.now t b.before b.plan r.0 r.1 r.2 b.handed_out c.begin.new.planner c.args.cells r.5
          (resumed_with b.before b.plan c.args.self.now b.taken_back c.begin.new.planner c.args.cells c.begin.ensures.resumed)
          c.args.held c.index-statement.result.now c.args.self.now.at c.passed_after-self.result same here r.4 c.passed_after-self.ensures,
    )

pub memory_fault-requires : goal.memory_fault-requires
memory_fault-requires c =
    let r = c.requires.at in
    let b = r.3 in
    no_limit c.args.script.now (columns_of c.args.table.now) b.before b.plan r.0 r.1 r.2 b.handed_out c.in-Err.fault c.in-Err.ensures.fails

pub returns-in-Ok : goal.returns-in-Ok
returns-in-Ok c = record {
  planned = λ from carried len between out left.
      let t = columns_of c.args.table.now in
      let b = between.handed_out in
      let lt = below c.args.script.now t between.before between.plan from carried len b in
      let at = b.at in
      let same_place = place_back between.before between.plan c.args.self.now between.taken_back in
      let here = read_some c.args.script.now.statements c.args.self.now.at c.index-statement.result.now
      (let len = c.args.script.now.statements.ok.0 in omega arith) c.index-statement.ensures in
      let resumed = resumed_with between.before between.plan c.args.self.now between.taken_back c.begin.new.planner c.args.cells
      c.begin.ensures.resumed in
      let stands = standing_on c.args.script.now t between.before between.plan from carried len b c.begin.new.planner c.args.cells left resumed
      c.args.held c.index-statement.result.now c.args.self.now.at c.passed_after-self.result same_place here out c.passed_after-self.ensures in
      let ran = c.in-Ok.ensures.ran (state_at c.args.script.now t from) b.found stands in
      let rising = ran.rising in
      record {
        accepted = b.accepted;
        within = b.within;
        works = works_kept c.args.script.now between.before between.plan c.args.self.now c.run.new.planner.world.works between.taken_back
            (ran.gone.works ∙ ap (λ (p : Planner). p.world.works) resumed.rest) b.works;
        names = subst (λ (k : SectionBook). AreNamesOf c.args.script.now k.names) (sym between.taken_back) b.names;
        found = b.found ++ ran.gone.more;
        stands = ran.gone.stands;
        grown = λ starts same.
            ran.gone.grown from starts (omega arith) refl same
            (growing_on c.args.script.now t between.before between.plan from carried len b c.begin.new.planner c.args.cells left resumed
            c.args.held c.index-statement.result.now c.args.self.now.at c.passed_after-self.result same_place here out
            starts (fewer starts b.found ran.gone.more same));
        rising = omega arith;
        inside = ran.inside;
        stops = ran.stops;
        between = λ n x low. ran.between n x (omega arith);
        later = λ some. omega arith;
      };
  small_jobs = refl;
}
