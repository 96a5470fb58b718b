use Rattle.std.proofs.Common.{subst, true, Err, ap, refl, ◌≡◌}
use Rattle.std.specs.Prelude.{map, string_bytes}
use Rattle.command_words.specs.Words.{is_of_command}
use Rattle.graph_words.specs.GraphWords.{plain_words, names_depth}
use Rattle.graph_top.specs.Drawn.{DrawsTo, IsFrameDrawing}
use Rattle.graph_top.specs.Due.{ByUsage, ByCommand, ByNone}
use Rattle.graph_top.proofs.Due.{not_fault}
use Rattle.graph_top.proofs.Telling.{is_of_both, is_all}
use Rattle.graph_top.proofs.top.answer_words.Goals as goal

pub returns-in-Ok-clause-drawn : goal.returns-in-Ok-clause-drawn
returns-in-Ok-clause-drawn g c =
    let ok = c.in-Ok.ensures.ok in
    let words = map string_bytes c.args.words.items in
    let of_command : is_of_command (plain_words words) ≡ true = is_of_both _ _ (names_depth (plain_words words)) _ c.in-Ok.ensures.usage in
    subst (λ b. DrawsTo g.S.Sink.taken g.S.Sink.faults c.args.sink.now c.answer_command.new.sink
    (IsFrameDrawing (plain_words words) (g.F.Files.bytes c.args.files.now) b) c.answer_command.result) ok.dot
    (c.answer_command.ensures.drawn (plain_words words) (record { of_command = of_command; spelled = ok.command }))

pub returns-in-Ok-clause-ends : goal.returns-in-Ok-clause-ends
returns-in-Ok-clause-ends g c =
    let ok = c.in-Ok.ensures.ok in
    let words = map string_bytes c.args.words.items in
    let of_command : is_of_command (plain_words words) ≡ true = is_of_both _ _ (names_depth (plain_words words)) _ c.in-Ok.ensures.usage in
    ByCommand (is_all _ _ _ c.in-Ok.ensures.usage)
    (c.answer_command.ensures.ends (plain_words words) (record { of_command = of_command; spelled = ok.command }))

pub returns-in-Err-Usage-clause-ends : goal.returns-in-Err-Usage-clause-ends
returns-in-Err-Usage-clause-ends g c =
    ByUsage (c.in-Err-Usage.ensures.usage.0 (ap Err c.in-Err-Usage.field-0-is)) c.say.ensures.said

pub returns-in-Err-NoMemory-clause-ends : goal.returns-in-Err-NoMemory-clause-ends
returns-in-Err-NoMemory-clause-ends g c = ByNone (not_fault _ c.in-Err-NoMemory.ensures.usage (ap Err c.in-Err-NoMemory.field-0-is)) refl
