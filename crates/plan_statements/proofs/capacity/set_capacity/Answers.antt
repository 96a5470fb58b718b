use Rattle.std.proofs.Common.{◌+◌, inl, true, refl, sym, ap, ◌∙◌, arith}
use Rattle.job_base.specs.declared.Refusal.TheVariants.{StoreFull}
use Rattle.frame_ast.specs.Refusals.{Refused, refused}
use Rattle.plan_state.specs.Accesses.{refused_as}
use Rattle.plan_state.specs.Steps.{state_at}
use Rattle.plan_state.proofs.Accessing.{breaks_none}
use Rattle.plan_state.proofs.Answering.{was_pushed}
use Rattle.plan_statements.proofs.Ranges.Capacities as facts
use Rattle.plan_statements.proofs.Ranges.NewContainers.{ready_name}
use Rattle.plan_state.proofs.Restating.{said}
use Rattle.plan_statements.proofs.capacity.set_capacity.Goals as goal

pub blocked-requires-clause-name : goal.blocked-requires-clause-name
blocked-requires-clause-name c = ready_name c.requires.ready.2.2 c.args.name
    (facts.capacity_below c.requires.ready.2.2)

pub returns-in-Some-clause-answers : goal.returns-in-Some-clause-answers
returns-in-Some-clause-answers c = λ line p draft took script table b.
    let r : Refused = record { cause = c.in-Some.refusal; name = c.args.name } in
    let e = sym (c.blocked.ensures _ (state_at script table b.n) b.found b.stands.knows) ∙ ap (λ o. refused_as o c.args.name) c.in-Some.is in
    said b r (facts.refused_by b r e) (facts.capacity_below b) (record p { world = c.args.world.now; draft = draft }) refl refl
    (inl (breaks_none (state_at script table b.n) c.args.name true r e)) (was_pushed p c.args.world.now draft _ took)

pub returns-then-is_full_for-clause-answers : goal.returns-then-is_full_for-clause-answers
returns-then-is_full_for-clause-answers c = λ line p draft took script table b.
    let none = facts.unblocked b c.blocked.result c.blocked.ensures c.in_default.not-Some in
    let full = c.is_full_for.ensures.0 c.if-is_full_for.true in
    let live = b.stands.numbers.live_words in
    let from = c.from.ensures in
    said b (refused StoreFull c.args.name) (facts.refused_full b none (omega arith)) (facts.capacity_below b)
    (record p { world = c.args.world.now; draft = draft })
    refl
    refl
    (inl refl) (was_pushed p c.args.world.now draft _ took)

pub index-requires : goal.index-requires
index-requires c = ready_name c.requires.ready.2.2 c.args.name
    (facts.capacity_below c.requires.ready.2.2)

pub whole_of-number-requires : goal.whole_of-number-requires
whole_of-number-requires c = facts.read_whole c.requires.ready.2.2
    c.blocked.result c.in_default.not-Some
    c.blocked.ensures c.index.result.now c.index.ensures

pub index-container-requires : goal.index-container-requires
index-container-requires c = facts.read_below c.requires.ready.2.2
    c.blocked.result c.in_default.not-Some
    c.blocked.ensures c.index.result.now c.index.ensures c.whole_of-number.result c.whole_of-number.ensures

pub list_of-at-requires : goal.list_of-at-requires
list_of-at-requires c = facts.is_list c.requires.ready.2.2
    (facts.list_at c.requires.ready.2.2 c.blocked.result c.in_default.not-Some c.blocked.ensures
    c.index.result.now c.index.ensures c.whole_of-number.result c.whole_of-number.ensures c.index-container.result.now c.index-container.ensures)

pub bump_view-requires-clause-live : goal.bump_view-requires-clause-live
bump_view-requires-clause-live c = facts.is_list_live c.requires.ready.2.2
    (facts.list_at c.requires.ready.2.2 c.blocked.result c.in_default.not-Some c.blocked.ensures
    c.index.result.now c.index.ensures c.whole_of-number.result c.whole_of-number.ensures c.index-container.result.now c.index-container.ensures)

pub bump_view-requires-clause-few : goal.bump_view-requires-clause-few
bump_view-requires-clause-few c = facts.few_views c.requires.ready.2.2
    (facts.list_at c.requires.ready.2.2 c.blocked.result c.in_default.not-Some c.blocked.ensures
    c.index.result.now c.index.ensures c.whole_of-number.result c.whole_of-number.ensures c.index-container.result.now c.index-container.ensures)

pub returns-then-cap-at-clause-answers : goal.returns-then-cap-at-clause-answers
returns-then-cap-at-clause-answers c = λ line p draft took script table b.
    let none = facts.unblocked b c.blocked.result c.blocked.ensures c.in_default.not-Some in
    let l = facts.list_at b c.blocked.result c.in_default.not-Some
    c.blocked.ensures c.index.result.now c.index.ensures c.whole_of-number.result c.whole_of-number.ensures c.index-container.result.now
    c.index-container.ensures in
    facts.low_goes_on b none (facts.fits_live b c.is_full_for.result (c.from.result + 1)
    (ap (λ k. k + 1) c.from.ensures) c.is_full_for.ensures c.if-is_full_for.false) l (let lt = c.if-cap-at.true in let e = facts.cap_is b l
    c.list_of-at.result c.list_of-at.ensures in omega arith)
    c.bump_view.new.self (record { slot_is = c.bump_view.ensures.slot; others = c.bump_view.ensures.others })
    (record p { world = record c.args.world.now { safety = c.bump_view.new.self }; draft = draft })
    (was_pushed p (record c.args.world.now { safety = c.bump_view.new.self }) draft _ took)

pub returns-then-world-cap-gt-MOST_CREATED_WORDS-clause-fails : goal.returns-then-world-cap-gt-MOST_CREATED_WORDS-clause-fails
returns-then-world-cap-gt-MOST_CREATED_WORDS-clause-fails c = λ line script table p b.
    let none = facts.unblocked b c.blocked.result c.blocked.ensures c.in_default.not-Some in
    let l = facts.list_at b c.blocked.result c.in_default.not-Some
    c.blocked.ensures c.index.result.now c.index.ensures c.whole_of-number.result c.whole_of-number.ensures c.index-container.result.now
    c.index-container.ensures in
    facts.capacity_fails b none (facts.fits_live b c.is_full_for.result (c.from.result + 1)
    (ap (λ k. k + 1) c.from.ensures) c.is_full_for.ensures c.if-is_full_for.false) l (let le = c.if-cap-at.false in let e = facts.cap_is b l
    c.list_of-at.result c.list_of-at.ensures in omega arith)
    c.if-world-cap-gt-MOST_CREATED_WORDS.true

pub move_list-requires-clause-number : goal.move_list-requires-clause-number
move_list-requires-clause-number c = facts.read_below c.requires.ready.2.2 c.blocked.result c.in_default.not-Some
    c.blocked.ensures c.index.result.now c.index.ensures c.whole_of-number.result c.whole_of-number.ensures

pub move_list-requires-clause-taken : goal.move_list-requires-clause-taken
move_list-requires-clause-taken c = facts.is_list_taken c.requires.ready.2.2
    (facts.list_at c.requires.ready.2.2 c.blocked.result c.in_default.not-Some c.blocked.ensures
    c.index.result.now c.index.ensures c.whole_of-number.result c.whole_of-number.ensures c.index-container.result.now c.index-container.ensures)

pub move_list-requires-clause-live : goal.move_list-requires-clause-live
move_list-requires-clause-live c = facts.is_list_live c.requires.ready.2.2
    (facts.list_at c.requires.ready.2.2 c.blocked.result c.in_default.not-Some c.blocked.ensures
    c.index.result.now c.index.ensures c.whole_of-number.result c.whole_of-number.ensures c.index-container.result.now c.index-container.ensures)

pub move_list-requires-clause-views : goal.move_list-requires-clause-views
move_list-requires-clause-views c = facts.few_views c.requires.ready.2.2
    (facts.list_at c.requires.ready.2.2 c.blocked.result c.in_default.not-Some c.blocked.ensures
    c.index.result.now c.index.ensures c.whole_of-number.result c.whole_of-number.ensures c.index-container.result.now c.index-container.ensures)

pub returns-clause-answers : goal.returns-clause-answers
returns-clause-answers c = λ line p draft took script table b.
    let none = facts.unblocked b c.blocked.result c.blocked.ensures c.in_default.not-Some in
    let l = facts.list_at b c.blocked.result c.in_default.not-Some
    c.blocked.ensures c.index.result.now c.index.ensures c.whole_of-number.result c.whole_of-number.ensures c.index-container.result.now
    c.index-container.ensures in
    facts.capacity_goes_on b none (facts.fits_live b c.is_full_for.result (c.from.result + 1)
    (ap (λ k. k + 1) c.from.ensures) c.is_full_for.ensures c.if-is_full_for.false) l (let le = c.if-cap-at.false in let e = facts.cap_is b l
    c.list_of-at.result c.list_of-at.ensures in omega arith)
    c.move_list.new.world draft c.in_ok-to.to c.list_of-at.result c.list_of-at.ensures c.if-world-cap-gt-MOST_CREATED_WORDS.false
    c.in_ok-to.ensures took
