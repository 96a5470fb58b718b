use Rattle.std.proofs.Common.{◌++◌, ◌∷◌, [], subst, sym}
use Rattle.frame_top.specs.Seen.{section_at}
use Rattle.trace_top.specs.Traced.{AreTraces}
use Rattle.trace_top.proofs.Tracing.{traces_on}
use Rattle.trace_top.proofs.watch.TraceWatch.keep.Goals as goal

pub returns-clause-kept : goal.returns-clause-kept
returns-clause-kept g c earlier are =
    subst (λ ts. AreTraces c.args.script.now (earlier ++ section_at c.args.extent c.args.section.now ∷ []) ts) (sym c.in_ok-push.ensures.items)
    (traces_on c.args.script.now earlier _ _ _ are c.in_ok-trace.ensures.traced)
