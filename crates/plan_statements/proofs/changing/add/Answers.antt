use Rattle.std.proofs.Common.{◌≡◌, ◌∙◌, true, subst, ap, to_z, of_z, w64, arith}
use Rattle.std.proofs.lemmas.Int.{ints}
use Rattle.frame_ast.specs.declared.script.Order.TheVariants as order
use Rattle.frame_ast.specs.Accepted.{add_kinds}
use Rattle.plan_laws.specs.Accessing.{add_act}
use Rattle.plan_state.specs.Accesses.{IsPushed, MayUse}
use Rattle.plan_state.proofs.Accessing.{read_some}
use Rattle.plan_state.proofs.Answering.{was_pushed}
use Rattle.plan_statements.proofs.Changes.{write_ready, write_refused, resize_on, resize_breakable, add_resize, add_gives, add_plans}
use Rattle.plan_statements.proofs.changing.add.Goals as goal

pub blocked-requires-clause-name : goal.blocked-requires-clause-name
blocked-requires-clause-name c =
    let r = c.requires.ready in
    (write_ready (record { line = r.0; act = order.Add c.args.name c.args.first c.args.second }) c.args.name (add_kinds c.args.second)
    (add_resize c.args.name c.args.first c.args.second).write (record r.1 { world = c.args.world.now }) r.2).0

pub index-value-requires : goal.index-value-requires
index-value-requires c =
    let r = c.requires.ready in
    (write_ready (record { line = r.0; act = order.Add c.args.name c.args.first c.args.second }) c.args.name (add_kinds c.args.second)
    (add_resize c.args.name c.args.first c.args.second).write (record r.1 { world = c.args.world.now }) r.2).0

pub bind-words-requires : goal.bind-words-requires
bind-words-requires c =
    let r = c.requires.ready in
    let w = write_ready (record { line = r.0; act = order.Add c.args.name c.args.first c.args.second }) c.args.name (add_kinds c.args.second)
    (add_resize c.args.name c.args.first c.args.second).write (record r.1 { world = c.args.world.now }) r.2 in
    record {
      there = w.1 c.args.name c.index-value.result.now (read_some c.args.world.now.values c.args.name c.index-value.result.now w.0
          c.index-value.ensures);
    }

pub break_views-requires-clause-there : goal.break_views-requires-clause-there
break_views-requires-clause-there c =
    let r = c.requires.ready in
    let w = write_ready (record { line = r.0; act = order.Add c.args.name c.args.first c.args.second }) c.args.name (add_kinds c.args.second)
    (add_resize c.args.name c.args.first c.args.second).write (record r.1 { world = c.args.world.now }) r.2 in
    w.1 c.args.name c.index-value.result.now (read_some c.args.world.now.values c.args.name c.index-value.result.now w.0 c.index-value.ensures)

pub break_views-requires-clause-breakable : goal.break_views-requires-clause-breakable
break_views-requires-clause-breakable c =
    let r = c.requires.ready in
    let w = write_ready (record { line = r.0; act = order.Add c.args.name c.args.first c.args.second }) c.args.name (add_kinds c.args.second)
    (add_resize c.args.name c.args.first c.args.second).write (record r.1 { world = c.args.world.now }) r.2 in
    resize_breakable (record { line = r.0; act = order.Add c.args.name c.args.first c.args.second }) c.args.name (add_kinds c.args.second)
    (add_resize c.args.name c.args.first c.args.second) (record r.1 { world = c.args.world.now }) c.index-value.result.now r.2
    (subst (MayUse c.args.world.now c.args.name true) c.in-None.is c.blocked.ensures)
    (read_some c.args.world.now.values c.args.name c.index-value.result.now w.0 c.index-value.ensures)

pub returns-in-Some : goal.returns-in-Some
returns-in-Some c = record {
  answers = λ line p draft t. write_refused (record { line = line; act = order.Add c.args.name c.args.first c.args.second }) c.args.name
      (add_kinds c.args.second) (add_resize c.args.name c.args.first c.args.second).write (record p { world = c.args.world.now })
      (record p { world = c.args.world.now; draft = draft }) c.in-Some.refusal
      (subst (MayUse c.args.world.now c.args.name true) c.in-Some.is c.blocked.ensures) (was_pushed p c.args.world.now draft _ t);
}

pub returns-in-None : goal.returns-in-None
returns-in-None c =
    let r = c.requires.ready in
    let w = write_ready (record { line = r.0; act = order.Add c.args.name c.args.first c.args.second }) c.args.name (add_kinds c.args.second)
    (add_resize c.args.name c.args.first c.args.second).write (record r.1 { world = c.args.world.now }) r.2 in
    let first : to_z w64 (of_z w64 c.args.first) ≡ c.args.first = omega (arith, ints) in
    record {
      answers = λ line p draft t.
          resize_on (record { line = line; act = order.Add c.args.name c.args.first c.args.second }) c.args.name (add_kinds c.args.second)
          (add_act c.args.first c.args.second) (add_plans line c.args.name c.args.first c.args.second) (add_gives c.args.first c.args.second)
          (add_resize c.args.name c.args.first c.args.second)
          (record p { world = c.args.world.now }) (record p {
            world = c.args.world.now;
            draft = draft;
          }) c.break_views.new.world c.index-value.result.now c.bind-words.result
          (subst (MayUse c.args.world.now c.args.name true) c.in-None.is c.blocked.ensures)
          (read_some c.args.world.now.values c.args.name c.index-value.result.now w.0 c.index-value.ensures) c.bind-words.ensures
          (subst (λ a. IsPushed (record p { world = c.args.world.now }) (record p { world = c.args.world.now; draft = draft })
          (record { line = line; name = c.args.name; act = a }))
          (c.addition.ensures ∙ ap (λ z. add_act z c.args.second c.bind-words.result) first) (was_pushed p c.args.world.now draft _ t)) c.break_views.ensures;
    }
