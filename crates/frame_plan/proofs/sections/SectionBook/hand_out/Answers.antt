use Rattle.frame_plan.proofs.Handing.{at_end, is_next, names_handed}
use Rattle.frame_plan.proofs.sections.SectionBook.hand_out.Goals as goal

pub finish-requires : goal.finish-requires
finish-requires c = (c.args.script.now, at_end c.requires.planned.2)

pub returns-clause-section : goal.returns-clause-section
returns-clause-section c table from ready =
    let given = names_handed c.args.script.now _ _ c.replace-names.ensures.value ready.names in
    is_next c.args.script.now table from c.args.self.now ready c.finish.new.planner _ c.in_ok-plan.plan c.test-test.result
    (c.in_ok-plan.ensures.plan c.args.script.now given) c.in_ok-plan.ensures.emptied c.test-test.ensures
    (names_handed c.args.script.now _ _ c.in_ok-plan.ensures.names given)
