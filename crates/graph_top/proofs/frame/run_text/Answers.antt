use Rattle.std.proofs.Common.{◌∙◌, ap, refl, sym}
use Rattle.std.specs.Prelude.{string_bytes}
use Rattle.graph_top.specs.Drawn.{head_of}
use Rattle.graph_top.proofs.Sections.{begun_drawn, run_drawn}
use Rattle.graph_top.proofs.frame.run_text.Goals as goal

pub returns-then-has_run : goal.returns-then-has_run
returns-then-has_run g c =
    let new = c.in_ok-watch.ensures in
    let seen = c.run_sections-status.ensures.seen
    (refl, refl, begun_drawn _ _ _ _ _ new.number (new.text ∙ ap head_of (sym new.dot)))
    (sym c.has_run.ensures ∙ c.if-has_run.true) in
    record { drawn = run_drawn _ _ _ _ _ _ new.workers new.dot _ _ _ _ seen _ (ap string_bytes c.into_text.ensures) }
