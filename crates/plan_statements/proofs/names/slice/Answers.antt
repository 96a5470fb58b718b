use Rattle.std.proofs.Common.{subst, arith}
use Rattle.frame_ast.specs.declared.script.Order.TheVariants.{Slice as SliceOf}
use Rattle.plan_state.specs.Accesses.{IsRefusal, IsRenamed}
use Rattle.plan_state.proofs.Accessing.{read_some}
use Rattle.plan_state.proofs.Answering.{nothing_taken, was_pushed}
use Rattle.plan_statements.proofs.NewNames.{slice_ready, slice_refused, slice_taken, starts_low}
use Rattle.plan_statements.proofs.names.slice.Goals as goal

pub set_value-requires : goal.set_value-requires
set_value-requires c = let r = c.requires.ready in (slice_ready r.0 c.args.name c.args.of c.args.start c.args.len
    (record r.1 { world = c.args.world.now }) r.2).name_in

pub index-requires : goal.index-requires
index-requires c = let r = c.requires.ready in (slice_ready r.0 c.args.name c.args.of c.args.start c.args.len
    (record r.1 { world = c.args.world.now }) r.2).of_in

pub take_part-value-requires : goal.take_part-value-requires
take_part-value-requires c =
    let r = c.requires.ready in
    let may = slice_ready r.0 c.args.name c.args.of c.args.start c.args.len (record r.1 { world = c.args.world.now }) r.2 in
    let low = starts_low _ _ c.index.result.now (may.there c.args.of c.index.result.now
    (read_some c.args.world.now.values c.args.of c.index.result.now may.of_in c.index.ensures)) in
    let few = may.start_few in
    omega arith

pub set_value-requires-in-None : goal.set_value-requires-in-None
set_value-requires-in-None c = let r = c.requires.ready in (slice_ready r.0 c.args.name c.args.of c.args.start c.args.len
    (record r.1 { world = c.args.world.now }) r.2).name_in

pub returns-in-Some : goal.returns-in-Some
returns-in-Some c = record {
  answers = λ line p draft t. slice_refused line c.args.name c.args.of c.args.start c.args.len (record p { world = c.args.world.now })
      (record p { world = c.args.world.now; draft = draft }) c.set_value.new.self c.in-Some.refusal
      (subst (IsRefusal (record p { world = c.args.world.now }) (record {
        line = line;
        act = SliceOf c.args.name c.args.of c.args.start c.args.len;
      }) c.args.of) c.in-Some.is (c.slice_refusal.ensures line p))
      (was_pushed p c.args.world.now draft _ t) c.set_value.ensures;
}

pub returns-in-None : goal.returns-in-None
returns-in-None c =
    let r = c.requires.ready in
    let may = slice_ready r.0 c.args.name c.args.of c.args.start c.args.len (record r.1 { world = c.args.world.now }) r.2 in
    record {
      answers = λ line p draft t. nothing_taken p c.args.world.now c.set_value-in-None.new.self
          (record { line = line; act = SliceOf c.args.name c.args.of c.args.start c.args.len }) draft t
          (slice_taken line c.args.name c.args.of c.args.start c.args.len
          (record p { world = c.args.world.now }) c.set_value-in-None.new.self c.index.result.now
          (subst (IsRefusal (record p { world = c.args.world.now })
          (record { line = line; act = SliceOf c.args.name c.args.of c.args.start c.args.len }) c.args.of) c.in-None.is (c.slice_refusal.ensures line p))
          (read_some c.args.world.now.values c.args.of c.index.result.now may.of_in c.index.ensures)
          (subst (IsRenamed c.args.world.now c.set_value-in-None.new.self c.args.name) c.take_part-value.ensures c.set_value-in-None.ensures));
    }
