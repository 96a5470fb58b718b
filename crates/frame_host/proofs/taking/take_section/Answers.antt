use Rattle.std.proofs.Common.{◌≡◌, refl, subst, sym, ◌∙◌, ℕ, ◌<◌}
use Rattle.job_base.specs.Cells.{cells_of}
use Rattle.frame_core.specs.declared.plan.Plan.{Plan}
use Rattle.frame_core.specs.Graphs.{cells_after}
use Rattle.frame_top.specs.Cells.{AreCellsOf}
use Rattle.frame_host.specs.Frames.{table_in, tree_in}
use Rattle.frame_host.proofs.Ending.{few, goes_on, to_finish}
use Rattle.frame_host.proofs.taking.take_section.Goals as goal

pub take_run-more-requires-clause-made : goal.take_run-more-requires-clause-made
take_run-more-requires-clause-made c =
    let r = c.requires.run in (
      tree_in c.args.frame,
      table_in c.args.frame,
      r.sections,
      r.from,
      r.after.accepted,
      few (tree_in c.args.frame) r.sections r.from r.after.accepted r.after.made.tests,
      r.after.made,
    )

pub returns-then-more : goal.returns-then-more
returns-then-more c =
    let r = c.requires.run in (
      goes_on c.args.frame c.args.stage c.args.place c.args.left c.args.end c.take_run-more.new.book c.take_run-more.new.progress
          c.take_run-more.result r
          (c.take_run-more.ensures.goes (tree_in c.args.frame) (table_in c.args.frame) r.sections r.from r.after.made)
          c.take_run-more.ensures.waits (c.take_run-more.ensures.failed ∙ c.is_fault.ensures) (sym c.is_fault-2.ensures ∙ c.if-is_fault.false) c.if-more.true,
      refl,
      refl,
    )

pub answer_of-requires : goal.answer_of-requires
answer_of-requires c =
    let r = c.requires.run in
    record {
      last = to_finish c.args.frame c.args.stage c.args.place c.args.left c.args.end c.take_run-more.new.book c.take_run-more.new.progress
          c.take_run-more.result r
          (c.take_run-more.ensures.goes (tree_in c.args.frame) (table_in c.args.frame) r.sections r.from r.after.made)
          c.take_run-more.ensures.waits (c.take_run-more.ensures.failed ∙ c.is_fault.ensures) (sym c.is_fault-2.ensures ∙ c.if-is_fault.false)
          c.share_out-handed.result.1 c.if-more.false (c.take_run-more.ensures.book c.if-more.false)
          (subst (AreCellsOf c.args.stage.section.plan)
          (sym (c.share_out-handed.ensures.kept (c.is_some.ensures ∙ sym c.take_run-more.ensures.more ∙ c.if-more.false)))
          (record {
            size = c.close.ensures.room ∙ r.room;
            each = subst
                (λ (p : Plan). (w : ℕ) → w < p.words → cells_of c.close.new.into w ≡ cells_after p w) (sym r.after.stage_is.plan_is) c.close.ensures.cells;
          }));
    }
