use Rattle.std.proofs.Common.{◌≡◌, ◌∙◌, ap, subst}
use Rattle.std.specs.Prelude.{Box}
use Rattle.std.specs.declared.alloc.Global.{Global}
use Rattle.steal_pool.specs.Seats.{IsReady}
use Rattle.word_board.specs.Boards.{home_of, know_of, name_of}
use Rattle.frame_stage.specs.declared.stage.Stage.{Stage}
use Rattle.frame_stage.specs.Stages.{SeesAll, stage_of_part}
use Rattle.frame_stage.proofs.helper.FrameHelper.turn.Goals as goal

pub returns-then-self-2-clause-sound : goal.returns-then-self-2-clause-sound
returns-then-self-2-clause-sound c =
    let same : c.deref-stage.result.now ≡ stage_of_part c.args.self.now.stage =
    c.deref-stage.ensures ∙ ap (λ (b : Box Stage Global). b.value) c.deref.ensures in
    record {
      stage = c.requires.sound.stage;
      ready = subst (λ (s : Stage). IsReady home_of know_of (name_of s.board) c.place_sees_all-self.new.place) same c.place_sees_all-self.ensures.ready;
      over = λ is. subst (λ (s : Stage). SeesAll s.section.plan c.place_sees_all-self.new.place) same (c.place_sees_all-self.ensures.all is);
    }
