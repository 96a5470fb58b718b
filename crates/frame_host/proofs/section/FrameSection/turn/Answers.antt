use Rattle.std.proofs.Common.{◌∙◌, ap, None, Some}
use Rattle.frame_stage.specs.declared.stage.Stage.{Stage}
use Rattle.frame_host.proofs.Turning.{turned}
use Rattle.frame_host.proofs.section.FrameSection.turn.Goals as goal

pub returns-in-Again-clause-sound : goal.returns-in-Again-clause-sound
returns-in-Again-clause-sound c =
    turned c.args.self.now c.turns-turns.result.plan.now c.turns-turns.result.board.now c.script_turn.new.place c.script_turn.new.at c.script_turn.new.out
    c.script_turn.new.sink None c.requires.sound (c.turns-turns.ensures.plan ∙ ap (λ (s : Stage). s.section.plan) c.stage.ensures)
    (c.turns-turns.ensures.board ∙ ap (λ (s : Stage). s.board) c.stage.ensures)
    (record { stands = c.script_turn.ensures.stands; said = c.script_turn.ensures.said; through = tt })

pub returns-in-Over-clause-sound : goal.returns-in-Over-clause-sound
returns-in-Over-clause-sound c =
    turned c.args.self.now c.turns-turns.result.plan.now c.turns-turns.result.board.now c.script_turn.new.place c.script_turn.new.at c.script_turn.new.out
    c.script_turn.new.sink (Some c.in-Over.end) c.requires.sound
    (c.turns-turns.ensures.plan ∙ ap (λ (s : Stage). s.section.plan) c.stage.ensures)
    (c.turns-turns.ensures.board ∙ ap (λ (s : Stage). s.board) c.stage.ensures)
    (record { stands = c.script_turn.ensures.stands; said = c.script_turn.ensures.said; through = (c.in-Over.ensures.first, c.in-Over.ensures.run) })
