use Rattle.std.proofs.Common.{Some, sym, subst}
use Rattle.plan_statements.specs.Tables.{columns_of}
use Rattle.frame_rows.specs.Between.{IsBetween}
use Rattle.board_rows.proofs.Deciding.{goes_on}
use Rattle.board_rows.proofs.outcomes.go_on.Goals as goal

pub next-requires : goal.next-requires
next-requires g c =
    let h = c.requires.here in
    record { at = (h.from, h.carried, h.len, h.at, h.outcome, h.left) }

pub returns : goal.returns
returns g c = record {
  next = λ t.
      let h = c.requires.here in
      subst (IsBetween c.args.script.now (columns_of c.args.table.now) c.take_back.new.self (Some c.in_ok-answer.answer)) (sym c.in_ok-answer.ensures.cells)
      (goes_on c.args.script.now (columns_of c.args.table.now) h.from c.next.new.self c.in_ok-section.section
      (c.in_ok-section.ensures.section h.from h.carried h.len h.at h.outcome h.left) c.in-Some.test c.in-Some.is c.take_back.new.self c.take_back.ensures _
      c.in_ok-cells.ensures.left c.in_ok-answer.answer c.in_ok-answer.ensures.held);
}
