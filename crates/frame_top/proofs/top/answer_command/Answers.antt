use Rattle.std.proofs.Common.{Err, ap, refl, subst, sym}
use Rattle.frame_script.specs.Loading.{Spells, IsRefused}
use Rattle.frame_top.specs.Inputs.{ReadsScript}
use Rattle.frame_top.specs.Answers.{Caused, NoScript, BadScript}
use Rattle.frame_top.specs.Refusals.{Size}
use Rattle.frame_top.specs.Seen.{HasSeenAsked}
use Rattle.frame_top.proofs.Telling.{counted, moved, later_reads, of_source, refused_at}
use Rattle.frame_top.proofs.Seeing.{neither_run, none_run}
use Rattle.frame_top.proofs.top.answer_command.Goals as goal

pub returns-in-Err-Failed-clause-answer : goal.returns-in-Err-Failed-clause-answer
returns-in-Err-Failed-clause-answer g c words asked =
    Caused _ (NoScript asked.of_command (c.in-Err-Failed.ensures.failed (ap Err c.in-Err-Failed.field-0-is) words asked) refl) c.say.ensures.said

pub returns-in-Err-TooLong-clause-answer : goal.returns-in-Err-TooLong-clause-answer
returns-in-Err-TooLong-clause-answer g c words asked =
    let long = c.in-Err-TooLong.ensures.too_long (ap Err c.in-Err-TooLong.field-0-is) words asked in
    Caused _ (BadScript long.0 long.1 (Size long.2 refl)) c.say-in-Err-TooLong.ensures.said

pub returns-in-Ok-parse_script-clause-answer : goal.returns-in-Ok-parse_script-clause-answer
returns-in-Ok-parse_script-clause-answer g c words asked =
    let r = c.in-Ok.ensures in
    let told = r.same in
    let read : ReadsScript words (g.F.Files.bytes c.args.files.now) c.in-Ok-parse_script.script = record {
      source = c.in-Ok.source.items;
      read = r.source words asked;
      accepted = record {
        within = r.within;
        spelled = subst (λ b. Spells b c.in-Ok-parse_script.script) c.deref.ensures.value
            c.in-Ok-parse_script.ensures.script;
      };
    } in
    moved words _ _ _ _ _ _ _ _ _ _ _ told (counted _ _ r.count)
    (c.answer_script.ensures.answer words asked (subst (λ t. ReadsScript words t c.in-Ok-parse_script.script) (sym told) read))

pub returns-in-Ok-parse_script-clause-reads : goal.returns-in-Ok-parse_script-clause-reads
returns-in-Ok-parse_script-clause-reads g c words asked =
    later_reads words _ _ _ _ _ _ (counted _ _ c.in-Ok.ensures.count) (counted _ _ c.in-Ok.ensures.name_stays) (c.answer_script.ensures.reads words asked)

pub returns-in-Err-Refused-clause-answer : goal.returns-in-Err-Refused-clause-answer
returns-in-Err-Refused-clause-answer g c words asked =
    let f = c.in-Err-Refused in
    let r = subst (λ b. IsRefused b f.line f.kind) c.deref.ensures.value (f.ensures.refused f.line f.kind (ap Err f.field-0-is)) in
    of_source words _ _ _ g.S.Sink.taken g.S.Sink.faults c.in-Ok.source.items _ _ _ _ _ (c.in-Ok.ensures.source words asked) c.in-Ok.ensures.within
    (refused_at _ _ _ _ _ f.line-is f.kind-is r) c.refuse_source.ensures.fault c.refuse_source.ensures.many

pub returns-in-Err-Failed-clause-seen : goal.returns-in-Err-Failed-clause-seen
returns-in-Err-Failed-clause-seen g c words asked plain saw ran = absurd (neither_run _ _ _ c.say.ensures.status refl refl ran)

pub returns-in-Err-TooLong-clause-seen : goal.returns-in-Err-TooLong-clause-seen
returns-in-Err-TooLong-clause-seen g c words asked plain saw ran = absurd (neither_run _ _ _ c.say-in-Err-TooLong.ensures.status refl refl ran)

pub returns-in-Ok-parse_script-clause-seen : goal.returns-in-Ok-parse_script-clause-seen
returns-in-Ok-parse_script-clause-seen g c words asked plain saw ran =
    let r = c.in-Ok.ensures in
    let told = r.same in
    let read : ReadsScript words (g.F.Files.bytes c.args.files.now) c.in-Ok-parse_script.script = record {
      source = c.in-Ok.source.items;
      read = r.source words asked;
      accepted = record {
        within = r.within;
        spelled = subst (λ b. Spells b c.in-Ok-parse_script.script) c.deref.ensures.value
            c.in-Ok-parse_script.ensures.script;
      };
    } in
    subst (λ t. HasSeenAsked (λ tree. g.W.Watch.Saw tree c.args.watch.now c.answer_script.new.watch) words t) told
    (c.answer_script.ensures.seen words asked (subst (λ t. ReadsScript words t c.in-Ok-parse_script.script) (sym told) read) plain
    (saw c.in-Ok-parse_script.script) ran)

pub returns-in-Err-Refused-clause-seen : goal.returns-in-Err-Refused-clause-seen
returns-in-Err-Refused-clause-seen g c words asked plain saw ran = absurd (none_run _ _ _ _ c.refuse_source.ensures.status refl refl refl ran)
