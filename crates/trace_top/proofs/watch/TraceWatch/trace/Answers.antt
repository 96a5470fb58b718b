use Rattle.frame_top.specs.Seen.{section_at}
use Rattle.trace_top.proofs.Tracing.{is_trace, part_story, part_tells}
use Rattle.trace_top.proofs.watch.TraceWatch.trace.Goals as goal

pub returns : goal.returns
returns g c =
    let s = section_at c.args.extent c.args.section.now in
    record {
      traced = is_trace c.args.script.now s c.in_ok-story.story _
          (part_story c.args.script.now s _ c.in_ok-story.story c.of-part.ensures c.in_ok-story.ensures.story)
          (part_tells c.args.script.now s _ c.in_ok-story.story c.of-part.ensures c.requires.within c.in_ok-story.ensures.all)
          c.section_trace.ensures.timeline c.section_trace.ensures.jobs;
    }
