use Rattle.std.proofs.Common.{Err, ap, refl, subst, sym}
use Rattle.frame_script.specs.Loading.{Spells, IsRefused}
use Rattle.frame_top.specs.Inputs.{ReadsScript}
use Rattle.graph_top.specs.Drawn.{DrawsTo, IsFrameDrawing}
use Rattle.frame_top.specs.Refusals.{Size}
use Rattle.frame_top.proofs.Telling.{counted, refused_at}
use Rattle.graph_top.specs.Due.{NoScript, BadScript, ByReason, Wanting}
use Rattle.graph_top.proofs.Due.{moved, of_source}
use Rattle.graph_top.proofs.top.answer_command.Goals as goal

pub returns-in-Ok-parse_script-clause-drawn : goal.returns-in-Ok-parse_script-clause-drawn
returns-in-Ok-parse_script-clause-drawn g c words asked =
    let r = c.in-Ok.ensures in
    let told = r.same in
    let read : ReadsScript words (g.F.Files.bytes c.args.files.now) c.in-Ok-parse_script.script = record {
      source = c.in-Ok.source.items;
      read = r.source words asked;
      accepted = record {
        within = r.within;
        spelled = subst (λ b. Spells b c.in-Ok-parse_script.script) c.deref.ensures.value
            c.in-Ok-parse_script.ensures.script;
      };
    } in
    subst (λ t. DrawsTo g.S.Sink.taken g.S.Sink.faults c.args.sink.now c.answer_script.new.sink (IsFrameDrawing words t c.args.graph.now.dot)
    c.answer_script.result) told
    (c.answer_script.ensures.drawn words asked (subst (λ t. ReadsScript words t c.in-Ok-parse_script.script) (sym told) read))

pub returns-in-Err-Failed-clause-ends : goal.returns-in-Err-Failed-clause-ends
returns-in-Err-Failed-clause-ends g c words asked =
    ByReason _ (NoScript asked.of_command (c.in-Err-Failed.ensures.failed (ap Err c.in-Err-Failed.field-0-is) words asked) refl) c.say.ensures.said

pub returns-in-Err-TooLong-clause-ends : goal.returns-in-Err-TooLong-clause-ends
returns-in-Err-TooLong-clause-ends g c words asked =
    let long = c.in-Err-TooLong.ensures.too_long (ap Err c.in-Err-TooLong.field-0-is) words asked in
    ByReason _ (BadScript long.0 long.1 (Size long.2 refl)) c.say-in-Err-TooLong.ensures.said

pub returns-in-Err-NoMemory-clause-ends : goal.returns-in-Err-NoMemory-clause-ends
returns-in-Err-NoMemory-clause-ends g c words asked = Wanting refl

pub returns-in-Ok-parse_script-clause-ends : goal.returns-in-Ok-parse_script-clause-ends
returns-in-Ok-parse_script-clause-ends g c words asked =
    let r = c.in-Ok.ensures in
    let told = r.same in
    let read : ReadsScript words (g.F.Files.bytes c.args.files.now) c.in-Ok-parse_script.script = record {
      source = c.in-Ok.source.items;
      read = r.source words asked;
      accepted = record {
        within = r.within;
        spelled = subst (λ b. Spells b c.in-Ok-parse_script.script) c.deref.ensures.value
            c.in-Ok-parse_script.ensures.script;
      };
    } in
    moved words _ _ _ _ _ _ _ _ _ _ _ _ told (counted _ _ r.count)
    (c.answer_script.ensures.ends words asked (subst (λ t. ReadsScript words t c.in-Ok-parse_script.script) (sym told) read))

pub returns-in-Err-Refused-clause-ends : goal.returns-in-Err-Refused-clause-ends
returns-in-Err-Refused-clause-ends g c words asked =
    let f = c.in-Err-Refused in
    let r = subst (λ b. IsRefused b f.line f.kind) c.deref.ensures.value (f.ensures.refused f.line f.kind (ap Err f.field-0-is)) in
    of_source words _ _ _ _ _ _ _ _ _ c.in-Ok.source.items _ _ (c.in-Ok.ensures.source words asked) c.in-Ok.ensures.within
    (refused_at _ _ _ _ _ f.line-is f.kind-is r) c.refuse_source.ensures.fault c.refuse_source.ensures.many
