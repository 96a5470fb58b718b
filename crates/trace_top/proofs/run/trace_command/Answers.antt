use Rattle.std.proofs.Common.{◌≡◌, true, false, refl, sym, subst, ◌∙◌}
use Rattle.frame_top.specs.Words.{asks_depth}
use Rattle.trace_top.specs.Traced.{AreTracesOf, TracesTo, ByUsage, ByRun}
use Rattle.trace_top.proofs.Tracing.{is_traced, asks_other, seen_none, of_run, traces_as}
use Rattle.trace_top.proofs.run.trace_command.Goals as goal

pub returns-then-options-clause-ends : goal.returns-then-options-clause-ends
returns-then-options-clause-ends g c words asked =
    ByUsage (asks_other words (sym (c.options_of-options.ensures.depth words asked) ∙ c.if-options.true)) c.say_usage.ensures.said (refl, refl)

pub returns-clause-ends : goal.returns-clause-ends
returns-clause-ends g c words asked =
    let plain : asks_depth words ≡ false = sym (c.options_of-options.ensures.depth words asked) ∙ c.if-options.false in
    ByRun (is_traced words asked.of_command plain)
    c.answer_command-status.result (c.answer_command-status.ensures.answer words asked)
    (subst (λ w. TracesTo (AreTracesOf words (g.F.Files.bytes c.args.files.now)) g.S.Sink.taken g.S.Sink.faults c.args.sink.now c.end_run.new.sink w
    c.answer_command-status.result c.end_run.result)
    (c.options_of-options.ensures.workers words asked)
    (traces_as _ _ _ _ _ _ _ _ _
    (λ ran traces these. of_run words _ _ _ traces
    (c.answer_command-status.ensures.seen words asked plain (λ tree. seen_none tree _ _ c.new-watch.ensures.sections) ran)
    (c.sections.ensures traces these))
    c.end_run.ensures.traced))
