use Rattle.std.proofs.Common.{pos, ◌∙◌}
use Rattle.plan_statements.specs.Tables.{columns_of}
use Rattle.frame_plan.proofs.Handing.{plan_is}
use Rattle.frame_plan.proofs.whole.plan.Goals as goal

pub hand_out-requires : goal.hand_out-requires
hand_out-requires c = record { planned = (columns_of c.args.table.now, 0, c.in_ok-book.ensures.at (λ w. pos 0) 0) }

pub returns-clause-plan : goal.returns-clause-plan
returns-clause-plan c =
    let t = columns_of c.args.table.now in
    let next = c.in_ok-plan.ensures.section t 0 (c.in_ok-book.ensures.at (λ w. pos 0) 0) in
    plan_is c.args.script.now t c.hand_out.new.self c.in_ok-plan.field-0 c.requires.whole next
    (next.small_jobs ∙ c.hand_out.ensures.small_jobs ∙ c.in_ok-book.ensures.small_jobs)
