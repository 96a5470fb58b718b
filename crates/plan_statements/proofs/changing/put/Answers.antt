use Rattle.std.proofs.Common.{◌≡◌, [], ◌∷◌, true, refl, subst, to_z, of_z, w64, arith}
use Rattle.std.proofs.lemmas.Int.{ints}
use Rattle.frame_ast.specs.declared.script.Order.TheVariants as order
use Rattle.frame_ast.specs.declared.name_kind.NameKind.TheVariants as kind
use Rattle.frame_core.specs.declared.plan.Act.TheVariants.{Put}
use Rattle.plan_state.specs.Accesses.{IsPushed, MayUse}
use Rattle.plan_state.proofs.Accessing.{read_some}
use Rattle.plan_state.proofs.Answering.{was_pushed}
use Rattle.plan_statements.proofs.Changes.{write_ready, write_refused, write_on, put_write, put_calm, put_plans}
use Rattle.plan_statements.proofs.changing.put.Goals as goal

pub blocked-requires-clause-name : goal.blocked-requires-clause-name
blocked-requires-clause-name c =
    let r = c.requires.ready in
    (write_ready (record { line = r.0; act = order.Put c.args.name c.args.key c.args.value }) c.args.name (kind.Map ∷ [])
    (put_write c.args.name c.args.key c.args.value) (record r.1 { world = c.args.world.now }) r.2).0

pub index-requires : goal.index-requires
index-requires c =
    let r = c.requires.ready in
    (write_ready (record { line = r.0; act = order.Put c.args.name c.args.key c.args.value }) c.args.name (kind.Map ∷ [])
    (put_write c.args.name c.args.key c.args.value) (record r.1 { world = c.args.world.now }) r.2).0

pub bind-words-requires : goal.bind-words-requires
bind-words-requires c =
    let r = c.requires.ready in
    let w = write_ready (record { line = r.0; act = order.Put c.args.name c.args.key c.args.value }) c.args.name (kind.Map ∷ [])
    (put_write c.args.name c.args.key c.args.value) (record r.1 { world = c.args.world.now }) r.2 in
    record { there = w.1 c.args.name c.index.result.now (read_some c.args.world.now.values c.args.name c.index.result.now w.0 c.index.ensures) }

pub returns-in-Some : goal.returns-in-Some
returns-in-Some c = record {
  answers = λ line p draft t. write_refused (record { line = line; act = order.Put c.args.name c.args.key c.args.value }) c.args.name (kind.Map ∷ [])
      (put_write c.args.name c.args.key c.args.value) (record p { world = c.args.world.now })
      (record p { world = c.args.world.now; draft = draft }) c.in-Some.refusal
      (subst (MayUse c.args.world.now c.args.name true) c.in-Some.is c.blocked.ensures) (was_pushed p c.args.world.now draft _ t);
}

pub returns-in-None : goal.returns-in-None
returns-in-None c =
    let r = c.requires.ready in
    let w = write_ready (record { line = r.0; act = order.Put c.args.name c.args.key c.args.value }) c.args.name (kind.Map ∷ [])
    (put_write c.args.name c.args.key c.args.value) (record r.1 { world = c.args.world.now }) r.2 in
    let k : to_z w64 (of_z w64 c.args.key) ≡ c.args.key = omega (arith, ints) in
    let v : to_z w64 (of_z w64 c.args.value) ≡ c.args.value = omega (arith, ints) in
    record {
      answers = λ line p draft t.
          write_on (record { line = line; act = order.Put c.args.name c.args.key c.args.value }) c.args.name (kind.Map ∷ [])
          (λ b. Put b c.args.key c.args.value) (put_plans line c.args.name c.args.key c.args.value) (λ b. refl)
          (put_write c.args.name c.args.key c.args.value)
          (put_calm c.args.name c.args.key c.args.value) (record p { world = c.args.world.now })
          (record p { world = c.args.world.now; draft = draft }) c.index.result.now c.bind-words.result
          (subst (MayUse c.args.world.now c.args.name true) c.in-None.is c.blocked.ensures)
          (read_some c.args.world.now.values c.args.name c.index.result.now w.0 c.index.ensures) c.bind-words.ensures
          (subst (λ z. IsPushed (record p { world = c.args.world.now }) (record p { world = c.args.world.now; draft = draft }) (record {
            line = line;
            name = c.args.name;
            act = Put c.bind-words.result c.args.key z;
          })) v (subst (λ z. IsPushed (record p { world = c.args.world.now }) (record p { world = c.args.world.now; draft = draft }) (record {
            line = line;
            name = c.args.name;
            act = Put c.bind-words.result z (to_z w64 (of_z w64 c.args.value));
          })) k (was_pushed p c.args.world.now draft _ t)));
    }
