use Rattle.std.proofs.Common.{◌<◌, refl, sym, ap, subst, None, ◌+◌}
use Rattle.std.specs.Prelude.{vec_len}
use Rattle.frame_ast.specs.Orders.{new_list}
use Rattle.plan_state.specs.declared.state.World.{World}
use Rattle.plan_statements.specs.Making.{TakesUnlessFull}
use Rattle.plan_statements.proofs.Ranges.Makings.{list_makes}
use Rattle.plan_statements.proofs.Ranges.NewContainers.{ready_name, ready_slots, ready_containers, as_many_names, as_many_containers, lost_goes_on, goes_on}
use Rattle.plan_statements.proofs.making.list.Goals as goal

pub take_words-requires-clause-slots : goal.take_words-requires-clause-slots
take_words-requires-clause-slots c = ready_slots c.requires.ready.1.2

pub refuse_full-requires : goal.refuse_full-requires
refuse_full-requires c =
    let full = (subst (TakesUnlessFull c.args.world.now c.take_words.new.world (c.from.result + 1)) c.in-None.is c.in_ok-take_words.ensures.taken) in
    subst (λ (z : World). c.args.name < vec_len z.values) (sym full.1) (ready_name c.requires.ready.1.2 c.args.name
    (list_makes c.requires.ready.1.2.step).below)

pub returns-in-None-clause-answers : goal.returns-in-None-clause-answers
returns-in-None-clause-answers c = λ script table p draft took b.
    lost_goes_on b c.args.name c.args.life (new_list c.args.cap) (list_makes b.step)
    c.take_words.new.world c.refuse_full.new.world draft (c.from.result + 1) c.refuse_full.result
    (ap (λ k. k + 1) c.from.ensures)
    (subst (TakesUnlessFull c.args.world.now c.take_words.new.world (c.from.result + 1)) c.in-None.is c.in_ok-take_words.ensures.taken)
    c.refuse_full.ensures.renames c.refuse_full.ensures.answers took

pub enter-requires-clause-name : goal.enter-requires-clause-name
enter-requires-clause-name c =
    as_many_names c.args.world.now c.take_words.new.world (c.from.result + 1) c.in-Some.taken
    (subst (TakesUnlessFull c.args.world.now c.take_words.new.world (c.from.result + 1)) c.in-Some.is c.in_ok-take_words.ensures.taken) c.args.name
    (ready_name c.requires.ready.1.2 c.args.name (list_makes c.requires.ready.1.2.step).below)

pub enter-requires-clause-few : goal.enter-requires-clause-few
enter-requires-clause-few c =
    as_many_containers c.args.world.now c.take_words.new.world (c.from.result + 1) c.in-Some.taken
    (subst (TakesUnlessFull c.args.world.now c.take_words.new.world (c.from.result + 1)) c.in-Some.is c.in_ok-take_words.ensures.taken)
    (ready_containers c.requires.ready.1.2)

pub returns-in_ok-enter-in-Some-clause-answers : goal.returns-in_ok-enter-in-Some-clause-answers
returns-in_ok-enter-in-Some-clause-answers c = λ script table p draft took b.
    let words = (subst (TakesUnlessFull c.args.world.now c.take_words.new.world (c.from.result + 1)) c.in-Some.is c.in_ok-take_words.ensures.taken) in
    goes_on b c.args.name c.args.life (new_list c.args.cap) (list_makes b.step)
    c.take_words.new.world c.enter.new.world draft c.in-Some.taken (c.from.result + 1)
    (ap (λ k. k + 1) c.from.ensures)
    words _
    refl
    None
    refl
    c.in_ok-enter-in-Some.ensures took
