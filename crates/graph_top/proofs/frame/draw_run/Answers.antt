use Rattle.std.proofs.Common.{◌≡◌, ◌∙◌, subst, sym}
use Rattle.plan_statements.specs.Tables.{columns_of}
use Rattle.graph_top.specs.Drawn.{IsDrawing, IsRunDrawn, OfRun}
use Rattle.graph_top.proofs.Telling.{kind_drawn}
use Rattle.graph_top.proofs.Sections.{planless_ends, shown_ends}
use Rattle.graph_top.proofs.frame.draw_run.Goals as goal

pub returns-in-Err-clause-ends : goal.returns-in-Err-clause-ends
returns-in-Err-clause-ends g c =
    planless_ends _ _ _ _ _ _ _ _ _ c.requires.columns c.in-Err.ensures.limit c.refuse_plan.ensures.said (λ e. (c.refuse_plan.ensures.none e).0)

pub returns-in-Ok-run_text-clause-drawn : goal.returns-in-Ok-run_text-clause-drawn
returns-in-Ok-run_text-clause-drawn g c =
    kind_drawn (λ t. t ≡ c.as_str.result.now) (IsDrawing c.args.script.now (columns_of c.args.table.now) c.args.style.workers c.args.style.dot)
    (λ t same. OfRun c.requires.tested
    (subst (λ b. IsRunDrawn c.args.script.now (columns_of c.args.table.now) c.args.style.workers c.args.style.dot b) (sym (same ∙ c.as_str.ensures.value))
    c.in-Ok-run_text.ensures.drawn))
    _ _ _ _ _ c.show.ensures.drawn

pub returns-in-Ok-run_text-clause-ends : goal.returns-in-Ok-run_text-clause-ends
returns-in-Ok-run_text-clause-ends g c = shown_ends _ _ _ _ _ _ _ _ _ c.requires.columns c.in-Ok.ensures.within c.show.ensures.shown
