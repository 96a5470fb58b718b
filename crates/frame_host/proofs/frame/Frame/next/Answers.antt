use Rattle.std.proofs.Common.{◌∙◌, ap}
use Rattle.frame_stage.specs.declared.stage.Stage.{Stage}
use Rattle.frame_host.proofs.Making.{made_here, underway}
use Rattle.frame_host.proofs.frame.Frame.next.Goals as goal

pub set_stage-requires : goal.set_stage-requires
set_stage-requires c = record {
  well = (made_here c.args.self c.next_section.new.book c.next_section.new.progress c.in_ok-section.section _ c.requires.sound c.deref.ensures
      c.in_ok-section.ensures.made).next.is_section.well_ordered;
}

pub returns-clause-sound : goal.returns-clause-sound
returns-clause-sound c =
    let made = made_here c.args.self c.next_section.new.book c.next_section.new.progress c.in_ok-section.section _ c.requires.sound c.deref.ensures
    c.in_ok-section.ensures.made in
    underway c.args.self c.next_section.new.book _ c.in_ok-section.section c.turns-turns.result.plan.now c.turns-turns.result.board.now
    c.in_ok-stage.field-0.stage c.in_ok-stage.field-0.first c.in_ok-stage.field-0.others c.begin-at.result c.in_ok-left.left c.requires.sound made
    c.in_ok-section.ensures.waits c.in_ok-section.ensures.failed c.in_ok-stage.ensures.section c.in_ok-stage.ensures.stage c.in_ok-stage.ensures.others
    c.in_ok-left.ensures (c.turns-turns.ensures.plan ∙ ap (λ (s : Stage). s.section.plan) c.deref-shown.ensures)
    (c.turns-turns.ensures.board ∙ ap (λ (s : Stage). s.board) c.deref-shown.ensures)
    (record { stands = c.begin-at.ensures.stands; said = c.begin-at.ensures.said })
