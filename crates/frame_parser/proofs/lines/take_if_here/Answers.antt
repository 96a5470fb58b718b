use Rattle.std.proofs.Common.{◌^◌, ◌≤◌, length, map, arith}
use Rattle.std.proofs.lemmas.List.{length-map}
use Rattle.known_lines.specs.Lines.{items_on}
use Rattle.known_lines.proofs.Takings.{few_places, none_taken, phrase_taken}
use Rattle.frame_parser.specs.Notes.{events_of}
use Rattle.frame_parser.proofs.lines.take_if_here.Goals as goal

pub note_at-requires : goal.note_at-requires
note_at-requires g c =
    few_places (length c.args.kinds.now) c.args.place (2 ^ 25) c.args.notes.now c.requires.line.fits.1
    (omega (arith, c.are_at.ensures.room c.if-are_at.true, c.requires.few))

pub returns-in_ok-note_at : goal.returns-in_ok-note_at
returns-in_ok-note_at g c =
    phrase_taken items_on items_on (map g.T.HasKind.kind_of c.args.tokens.now) c.args.kinds.now c.args.notes.now c.args.place
    (events_of c.args.events.now.items) (events_of c.note_at.new.events.items) c.requires.line.phrase (c.are_at.ensures.there c.if-are_at.true)
    (omega (arith, c.are_at.ensures.room c.if-are_at.true, length-map c.args.tokens.now g.T.HasKind.kind_of)) c.in_ok-note_at.ensures

pub returns-else-are_at : goal.returns-else-are_at
returns-else-are_at g c =
    let kinds = map g.T.HasKind.kind_of c.args.tokens.now in
    let within : c.args.place ≤ length kinds = omega (arith, c.requires.within, length-map c.args.tokens.now g.T.HasKind.kind_of) in
    none_taken kinds c.args.place (events_of c.args.events.now.items) within
