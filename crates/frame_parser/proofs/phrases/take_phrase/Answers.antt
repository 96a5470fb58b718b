use Rattle.std.proofs.Common.{◌<◌, ◌+◌, ◌^◌, length, map, arith}
use Rattle.std.proofs.lemmas.Bool.{ltb-true}
use Rattle.std.proofs.lemmas.List.{length-map}
use Rattle.known_lines.proofs.Takings.{few_places, phrase_taken}
use Rattle.frame_parser.specs.Notes.{events_of}
use Rattle.frame_parser.proofs.phrases.take_phrase.Goals as goal

pub note_at-requires : goal.note_at-requires
note_at-requires g c =
    few_places (length c.args.kinds.now) c.args.place (2 ^ 25) c.args.notes.now c.requires.fits.1
    (omega (arith, c.are_at.ensures.room c.if-are_at.true, c.requires.few))

pub returns-in_ok-note_at : goal.returns-in_ok-note_at
returns-in_ok-note_at g c from to phrase =
    let some = ltb-true 0 (length c.args.kinds.now) c.requires.fits.0 in
    let on : c.args.place < c.args.place + length c.args.kinds.now = omega (arith, some) in (
      on,
      phrase_taken from to (map g.T.HasKind.kind_of c.args.tokens.now) c.args.kinds.now c.args.notes.now c.args.place (events_of c.args.events.now.items)
          (events_of c.note_at.new.events.items) phrase (c.are_at.ensures.there c.if-are_at.true)
          (omega (arith, c.are_at.ensures.room c.if-are_at.true, length-map c.args.tokens.now g.T.HasKind.kind_of)) c.in_ok-note_at.ensures,
    )
