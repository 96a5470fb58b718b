use Rattle.std.proofs.Common.{◌<◌, ◌≤◌, length, Err, ap, refl, arith}
use Rattle.job_base.specs.declared.limits.TheConstants.{MOST_SCRIPT_BYTES}
use Rattle.frame_top.specs.Answers.{Caused}
use Rattle.frame_top.specs.Inputs.{Accepts}
use Rattle.frame_top.specs.Refusals.{Size}
use Rattle.frame_top.specs.Sources.{BadSource}
use Rattle.frame_top.proofs.Sources.{refused_source}
use Rattle.frame_top.proofs.Telling.{refused_at}
use Rattle.frame_top.proofs.alone.answer_source.Goals as goal

pub returns-then-source-clause-answer : goal.returns-then-source-clause-answer
returns-then-source-clause-answer g c =
    let t = c.if-source.true in
    let lt : MOST_SCRIPT_BYTES < length c.args.source.now = omega (arith, t) in
    Caused _ (BadSource (Size lt refl)) c.say.ensures.said

pub returns-in-Ok-clause-answer : goal.returns-in-Ok-clause-answer
returns-in-Ok-clause-answer g c =
    let t = c.if-source.false in
    let le : length c.args.source.now ≤ MOST_SCRIPT_BYTES = omega (arith, t) in
    let accepted : Accepts c.args.source.now c.in-Ok.script = record { within = le; spelled = c.in-Ok.ensures.script } in
    c.answer_script.ensures.answer c.args.source.now accepted

pub returns-in-Err-Refused-clause-answer : goal.returns-in-Err-Refused-clause-answer
returns-in-Err-Refused-clause-answer g c =
    let f = c.in-Err-Refused in
    let t = c.if-source.false in
    let le : length c.args.source.now ≤ MOST_SCRIPT_BYTES = omega (arith, t) in
    refused_source c.args.source.now _ g.S.Sink.taken g.S.Sink.faults _ _ _ _ _ _ le
    (refused_at _ _ _ _ _ f.line-is f.kind-is (f.ensures.refused f.line f.kind (ap Err f.field-0-is))) c.refuse_source.ensures.fault
    c.refuse_source.ensures.many
