use Rattle.std.proofs.Common.{◌≡◌, subst, Option, Some}
use Rattle.std.proofs.lemmas.List.Elements.{All-pop}
use Rattle.std.specs.Prelude.{IfSome, Box}
use Rattle.std.specs.declared.alloc.Global.{Global}
use Rattle.std.specs.declared.sync.Arc.{Arc}
use Rattle.steal_pool.specs.Seats.{IsReady}
use Rattle.word_board.specs.Boards.{home_of, know_of, name_of}
use Rattle.frame_stage.specs.declared.stage.Stage.{Stage}
use Rattle.frame_stage.specs.Stages.{stage_of_part}
use Rattle.frame_host.specs.Frames.{stage_in}
use Rattle.frame_host.proofs.Turning.{given_on, is_helper}
use Rattle.frame_host.proofs.section.FrameSection.helper.Goals as goal

pub returns-in_default-clause-sound : goal.returns-in_default-clause-sound
returns-in_default-clause-sound c =
    given_on c.args.self c.share-stage.result.0 c.args.self.others c.requires.sound c.share-stage.ensures.stage c.requires.sound.others

pub returns-clause-helper : goal.returns-clause-helper
returns-clause-helper c =
    is_helper (stage_in c.args.self) c.in-Some.stage c.in-Some-pop.place c.requires.sound.after.stage_is
    (subst (λ (o : Option (Arc (Box Stage Global) Global)). IfSome o (λ part. stage_of_part part ≡ stage_in c.args.self)) c.in-Some.is
    c.share-stage.ensures.part)
    (All-pop (IsReady home_of know_of (name_of (stage_in c.args.self).board)) c.args.self.others.items c.pop.new.self.items (Some c.in-Some-pop.place)
    c.in-Some-pop.ensures.items c.requires.sound.others).1

pub returns-clause-sound : goal.returns-clause-sound
returns-clause-sound c =
    given_on c.args.self c.share-stage.result.0 c.pop.new.self c.requires.sound c.share-stage.ensures.stage
    (All-pop (IsReady home_of know_of (name_of (stage_in c.args.self).board)) _ _ _ c.pop.ensures.items c.requires.sound.others).0
