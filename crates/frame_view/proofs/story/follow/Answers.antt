use Rattle.frame_view.proofs.Following.{of_whole, all_of_whole}
use Rattle.frame_view.proofs.story.follow.Goals as goal

pub returns-clause-story : goal.returns-clause-story
returns-clause-story c = of_whole c.args.script.now _ c.args.plan.now _ c.whole.ensures c.follow_part.ensures.story

pub returns-clause-all : goal.returns-clause-all
returns-clause-all c = all_of_whole c.args.script.now _ c.args.plan.now _ c.whole.ensures c.follow_part.ensures.all
