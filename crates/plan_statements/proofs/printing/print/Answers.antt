use Rattle.std.proofs.Common.{false, subst}
use Rattle.plan_state.specs.Accesses.{MayUse}
use Rattle.plan_state.proofs.Accessing.{read_some}
use Rattle.plan_state.proofs.Answering.{was_pushed}
use Rattle.plan_statements.proofs.Prints.{print_ready, print_refused, print_shown}
use Rattle.plan_statements.proofs.printing.print.Goals as goal

pub blocked-requires-clause-name : goal.blocked-requires-clause-name
blocked-requires-clause-name c = let r = c.requires.ready in (print_ready r.0 c.args.name (record r.1 { world = c.args.world.now }) r.2).0

pub index-requires : goal.index-requires
index-requires c = let r = c.requires.ready in (print_ready r.0 c.args.name (record r.1 { world = c.args.world.now }) r.2).0

pub bind-at-requires : goal.bind-at-requires
bind-at-requires c =
    let r = c.requires.ready in
    let may = print_ready r.0 c.args.name (record r.1 { world = c.args.world.now }) r.2 in
    record { there = may.1 c.args.name c.index.result.now (read_some c.args.world.now.values c.args.name c.index.result.now may.0 c.index.ensures) }

pub returns-in-Some : goal.returns-in-Some
returns-in-Some c = record {
  answers = λ line p draft t.
      print_refused line c.args.name (record p { world = c.args.world.now }) (record p { world = c.args.world.now; draft = draft }) c.in-Some.refusal
      (subst (MayUse c.args.world.now c.args.name false) c.in-Some.is c.blocked.ensures) (was_pushed p c.args.world.now draft _ t);
}

pub returns-in-None : goal.returns-in-None
returns-in-None c =
    let r = c.requires.ready in
    let may = print_ready r.0 c.args.name (record r.1 { world = c.args.world.now }) r.2 in
    record {
      answers = λ line p draft t.
          print_shown line c.args.name (record p { world = c.args.world.now })
          (record p { world = c.args.world.now; draft = draft }) c.index.result.now c.bind-at.result
          (subst (MayUse c.args.world.now c.args.name false) c.in-None.is c.blocked.ensures)
          (read_some c.args.world.now.values c.args.name c.index.result.now may.0 c.index.ensures) c.bind-at.ensures (was_pushed p c.args.world.now draft _ t);
    }
