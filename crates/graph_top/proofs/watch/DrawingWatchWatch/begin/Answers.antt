use Rattle.std.proofs.Common.{◌≡◌, ◌++◌, ◌∙◌, ap, subst}
use Rattle.std.specs.Prelude.{string_bytes}
use Rattle.graph_top.specs.Drawn.{IsDrawnAt}
use Rattle.graph_top.proofs.Sections.{one_drawn, part_within}
use Rattle.graph_top.proofs.watch.DrawingWatchWatch.begin.Goals as goal

pub section_text-requires-clause-within : goal.section_text-requires-clause-within
section_text-requires-clause-within c =
    let e = c.args.extent in
    part_within c.args.script.now e.from e.to e.held c.of-part.result c.of-part.ensures c.requires.within

pub returns : goal.returns
returns c =
    let w = c.args.self.now in
    let one = string_bytes c.in_ok-text.text in
    let more : string_bytes c.push_str.new.self ≡ string_bytes w.text ++ c.as_str.result.now = c.in_ok-push_str.ensures.bytes in
    record {
      begun = λ first earlier saw. (
        saw.0,
        saw.1,
        one_drawn c.args.script.now _ _ w.number (string_bytes w.text) earlier _ one _ _ saw.2
            (subst (λ p. IsDrawnAt c.args.script.now p c.args.section.now.plan (record { number = w.number; before = c.args.section.now.jobs_before })
            w.workers w.dot one) c.of-part.ensures c.in_ok-text.ensures)
            c.saturating_add-self.ensures (more ∙ ap (λ t. string_bytes w.text ++ t) c.as_str.ensures.value),
      );
    }
