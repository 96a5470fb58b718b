use Rattle.std.proofs.Common.{◌≡◌, Err, List, All, map, refl, sym, ◌∙◌, ap, subst, arith}
use Rattle.frame_grammar.specs.declared.token_kind.TokenKind.{TokenKind}
use Rattle.frame_grammar.specs.declared.symbols.Event.{Event}
use Rattle.frame_parser.specs.declared.note.Note.{Note}
use Rattle.frame_parser.specs.Notes.{events_of}
use Rattle.kernel_text.specs.declared.mark.Mark.{Mark}
use Rattle.kernel_text.specs.Marks.{IsOfKind, kind_of, tokens_in}
use Rattle.kernel_text.specs.Tokens.{tokens_of, up_to_bad, kinds, NamesAreText}
use Rattle.kernel_raw.specs.Legible.{NamesStand}
use Rattle.frame_script.specs.declared.fault.LoadFault.TheVariants as load
use Rattle.script_text.specs.declared.source.Source.{Source}
use Rattle.script_text.specs.Places.{IsFile}
use Rattle.script_text.specs.Sources.{file_tokens}
use Rattle.frame_script.specs.Loading.{refusal_of}
use Rattle.script_text.proofs.FileTokens.{few_marks, marks_ended, kinds_in_file}
use Rattle.frame_script.proofs.Walking.EventSteps.{exit_is}
use Rattle.frame_script.proofs.Loads.{IsRead, read_of, spelled, script_accepted, stopped, refused_statically, refused_as_long, if_ok}
use Rattle.frame_script.proofs.load.parse_script.Goals as goal

-- what is said of the marks and notes that the parser was given and answers holds of those of the file
of_file : (P : List TokenKind → List Event → Type 0) (s : Source) (marks : List Mark) (notes found : List Note) → marks ≡ s.marks.now → notes ≡ found
    → P (map kind_of marks) (events_of found) → P (kinds (file_tokens s)) (events_of notes)
of_file P s marks notes found marks_are notes_are p =
    subst (λ ns. P (kinds (file_tokens s)) (events_of ns)) (sym notes_are) (subst (λ ks. P ks (events_of found)) (kinds_in_file s marks marks_are) p)

pub file_events-requires-clause-few : goal.file_events-requires-clause-few
file_events-requires-clause-few c =
    let bytes = c.args.source.now in
    let lexed : tokens_in bytes 1 c.deref.result.now ≡ up_to_bad (tokens_of bytes) = ap (tokens_in bytes 1) c.deref.ensures.value
    ∙ c.in_ok-marks.ensures.tokens in
    omega (arith, few_marks bytes c.deref.result.now lexed, c.requires)

pub file_events-requires-clause-ended : goal.file_events-requires-clause-ended
file_events-requires-clause-ended c =
    let bytes = c.args.source.now in
    marks_ended bytes c.deref.result.now (ap (tokens_in bytes 1) c.deref.ensures.value ∙ c.in_ok-marks.ensures.tokens)

pub refusal-requires : goal.refusal-requires
refusal-requires c =
    let bytes = c.args.source.now in
    let given = c.deref-in-Err.result.now in
    let lexed : tokens_in bytes 1 given ≡ up_to_bad (tokens_of bytes) = ap (tokens_in bytes 1) c.deref-in-Err.ensures.value ∙ c.in_ok-marks.ensures.tokens in
    omega (arith, few_marks bytes given lexed, c.requires)

pub returns-in-Err-clause-refused : goal.returns-in-Err-clause-refused
returns-in-Err-clause-refused c line kind is =
    let bytes = c.args.source.now in
    let marks = c.deref.result.now in
    let same = c.deref-in-Err.ensures.value ∙ sym c.deref.ensures.value in
    stopped bytes marks c.in-Err.error c.refusal.result line kind
    (ap (tokens_in bytes 1) c.deref.ensures.value ∙ c.in_ok-marks.ensures.tokens)
    (c.refusal.ensures bytes ∙ ap (λ ms. refusal_of c.in-Err.error (tokens_in bytes 1 ms)) same)
    (λ place stopped. c.in-Err.ensures.fault place (ap Err stopped))
    (cc)

pub walk_file-requires : goal.walk_file-requires
walk_file-requires c =
    let bytes = c.args.source.now in
    let s : Source = record { bytes = c.args.source; marks = c.deref-2.result } in
    let same = c.deref.ensures.value ∙ sym c.deref-2.ensures.value in
    let lexed : tokens_in bytes 1 s.marks.now ≡ up_to_bad (tokens_of bytes) = ap (tokens_in bytes 1) c.deref-2.ensures.value ∙ c.in_ok-marks.ensures.tokens in
    record {
      few = omega (arith, few_marks bytes s.marks.now lexed, c.requires);
      text = subst (λ ms. NamesAreText bytes (tokens_in bytes 1 ms)) (sym c.deref-2.ensures.value) c.in_ok-marks.ensures.text;
      named = of_file NamesStand s c.deref.result.now c.deref-3.result.now c.in-Ok.found.events.items same c.deref-3.ensures.value c.in-Ok.ensures.named;
      file = of_file IsFile s c.deref.result.now c.deref-3.result.now c.in-Ok.found.events.items same c.deref-3.ensures.value c.in-Ok.ensures.items;
    }

pub returns-in_err-walk-clause-refused : goal.returns-in_err-walk-clause-refused
returns-in_err-walk-clause-refused c line kind is =
    let bytes = c.args.source.now in
    let s : Source = record { bytes = c.args.source; marks = c.deref-2.result } in
    let read : IsRead bytes s (events_of c.deref-3.result.now) = read_of bytes s c.deref.result.now c.in-Ok.found.read c.deref-3.result.now
    c.in-Ok.found.events.items refl (c.deref.ensures.value ∙ sym c.deref-2.ensures.value)
    (ap (tokens_in bytes 1) c.deref.ensures.value ∙ c.in_ok-marks.ensures.tokens)
    (subst (All IsOfKind) (sym c.deref.ensures.value) c.in_ok-marks.ensures.exact) c.deref-3.ensures.value c.in-Ok.ensures.sentence in
    let told = exit_is c.from_residual-in_err-walk.result _ (load.Refused line kind) c.from_residual-in_err-walk.ensures.1 is in
    refused_statically bytes s (events_of c.deref-3.result.now) line kind read (c.in_err-walk.ensures.refused line kind (ap (λ e. Err e) told))

pub returns-clause-script : goal.returns-clause-script
returns-clause-script c =
    let bytes = c.args.source.now in
    let s : Source = record { bytes = c.args.source; marks = c.deref-2.result } in
    let read : IsRead bytes s (events_of c.deref-3.result.now) = read_of bytes s c.deref.result.now c.in-Ok.found.read c.deref-3.result.now
    c.in-Ok.found.events.items refl (c.deref.ensures.value ∙ sym c.deref-2.ensures.value)
    (ap (tokens_in bytes 1) c.deref.ensures.value ∙ c.in_ok-marks.ensures.tokens)
    (subst (All IsOfKind) (sym c.deref.ensures.value) c.in_ok-marks.ensures.exact) c.deref-3.ensures.value c.in-Ok.ensures.sentence in
    if_ok c.script_of.result (λ script g. spelled bytes s (events_of c.deref-3.result.now) c.in_ok-walk.walk script read c.in_ok-walk.ensures.through g)
    c.script_of.ensures.script

pub returns-clause-accepted : goal.returns-clause-accepted
returns-clause-accepted c =
    let s : Source = record { bytes = c.args.source; marks = c.deref-2.result } in
    if_ok c.script_of.result (λ script g. script_accepted s (events_of c.deref-3.result.now) c.in_ok-walk.walk script c.in_ok-walk.ensures.through g)
    c.script_of.ensures.script

pub returns-clause-refused : goal.returns-clause-refused
returns-clause-refused c line kind is =
    let bytes = c.args.source.now in
    let s : Source = record { bytes = c.args.source; marks = c.deref-2.result } in
    let read : IsRead bytes s (events_of c.deref-3.result.now) = read_of bytes s c.deref.result.now c.in-Ok.found.read c.deref-3.result.now
    c.in-Ok.found.events.items refl (c.deref.ensures.value ∙ sym c.deref-2.ensures.value)
    (ap (tokens_in bytes 1) c.deref.ensures.value ∙ c.in_ok-marks.ensures.tokens)
    (subst (All IsOfKind) (sym c.deref.ensures.value) c.in_ok-marks.ensures.exact) c.deref-3.ensures.value c.in-Ok.ensures.sentence in
    let e = c.script_of.ensures.excess line kind is in
    refused_as_long bytes s (events_of c.deref-3.result.now) c.in_ok-walk.walk line kind read c.in_ok-walk.ensures.through e.0 e.1
