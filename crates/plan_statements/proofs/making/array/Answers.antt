use Rattle.std.proofs.Common.{◌<◌, sym, subst, ◌∙◌}
use Rattle.std.specs.Prelude.{vec_len}
use Rattle.frame_ast.specs.Orders.{setting, new_array}
use Rattle.plan_state.specs.declared.state.World.{World}
use Rattle.plan_statements.specs.Making.{TakesUnlessFull}
use Rattle.plan_statements.proofs.Ranges.Makings.{array_makes, array_bind, array_words, array_is_given, array_there}
use Rattle.plan_statements.proofs.Ranges.NewContainers.{IsGiven, ready_name, ready_slots, ready_containers, as_many_names, as_many_containers, lost_goes_on, goes_on, fails, handed_on}
use Rattle.plan_statements.proofs.making.array.Goals as goal

pub take_words-requires-clause-slots : goal.take_words-requires-clause-slots
take_words-requires-clause-slots c = ready_slots c.requires.ready.2

pub returns-in_err-take_words-clause-fails : goal.returns-in_err-take_words-clause-fails
returns-in_err-take_words-clause-fails c = handed_on c.from_residual.result c.in_err-take_words.field-0.0 _ c.from_residual.ensures.1
    (λ table p b.
    fails b c.args.name c.args.life (new_array (setting c.args.script.now table) c.args.len c.args.values) (array_makes b.step)
    c.in_err-take_words.field-0.0 c.from.result (c.from.ensures ∙ array_words b.step) c.in_err-take_words.ensures.fails)

pub refuse_full-requires : goal.refuse_full-requires
refuse_full-requires c =
    let full = (subst (TakesUnlessFull c.args.world.now c.take_words.new.world c.from.result) c.in-None.is c.in_ok-take_words.ensures.taken) in
    subst (λ (z : World). c.args.name < vec_len z.values) (sym full.1) (ready_name c.requires.ready.2 c.args.name (array_makes c.requires.ready.2.step).below)

pub returns-in-None-clause-answers : goal.returns-in-None-clause-answers
returns-in-None-clause-answers c = λ table p draft took b.
    lost_goes_on b c.args.name c.args.life (new_array (setting c.args.script.now table) c.args.len c.args.values) (array_makes b.step)
    c.take_words.new.world c.refuse_full.new.world draft c.from.result c.refuse_full.result (c.from.ensures ∙ array_words b.step)
    (subst (TakesUnlessFull c.args.world.now c.take_words.new.world c.from.result) c.in-None.is c.in_ok-take_words.ensures.taken)
    c.refuse_full.ensures.renames c.refuse_full.ensures.answers took

pub copy_literal-requires : goal.copy_literal-requires
copy_literal-requires c = record {
  there = array_there c.requires.ready.2.step;
}

pub enter-requires-clause-name : goal.enter-requires-clause-name
enter-requires-clause-name c =
    as_many_names c.args.world.now c.take_words.new.world c.from.result c.in-Some.taken
    (subst (TakesUnlessFull c.args.world.now c.take_words.new.world c.from.result) c.in-Some.is c.in_ok-take_words.ensures.taken) c.args.name
    (ready_name c.requires.ready.2 c.args.name (array_makes c.requires.ready.2.step).below)

pub enter-requires-clause-few : goal.enter-requires-clause-few
enter-requires-clause-few c =
    as_many_containers c.args.world.now c.take_words.new.world c.from.result c.in-Some.taken
    (subst (TakesUnlessFull c.args.world.now c.take_words.new.world c.from.result) c.in-Some.is c.in_ok-take_words.ensures.taken)
    (ready_containers c.requires.ready.2)

pub returns-in_ok-enter-in-Some-clause-answers : goal.returns-in_ok-enter-in-Some-clause-answers
returns-in_ok-enter-in-Some-clause-answers c = λ table p draft took b.
    let words = (subst (TakesUnlessFull c.args.world.now c.take_words.new.world c.from.result) c.in-Some.is c.in_ok-take_words.ensures.taken) in
    goes_on b c.args.name c.args.life (new_array (setting c.args.script.now table) c.args.len c.args.values) (array_makes b.step)
    c.take_words.new.world c.enter.new.world draft c.in-Some.taken c.from.result (c.from.ensures ∙ array_words b.step) words _
    (array_bind (setting c.args.script.now table) c.in-Some.taken.span.start c.args.len c.args.values (array_words b.step)) c.in_ok-elements-in-Some.elements
    (subst (λ o. IsGiven o (new_array (setting c.args.script.now table) c.args.len c.args.values)) (sym c.in_ok-elements-in-Some.ensures)
    (array_is_given b.step)) c.in_ok-enter-in-Some.ensures took
