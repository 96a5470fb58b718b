use Rattle.std.proofs.Common.{◌≡◌, ◌≤◌, length, map, arith}
use Rattle.std.proofs.lemmas.List.{length-map}
use Rattle.known_lines.specs.Lines.{items_on}
use Rattle.frame_parser.specs.Notes.{events_of}
use Rattle.frame_parser.proofs.PhraseTakings.{all_onward}
use Rattle.frame_parser.proofs.schedules.take_schedule.Goals as goal

pub taken_or_back-requires : goal.taken_or_back-requires
taken_or_back-requires g c =
    all_onward items_on items_on (map g.T.HasKind.kind_of c.args.tokens.now) c.args.place c.in_ok-next.next (events_of c.args.events.now.items)
    (events_of c.take_known.new.events.items) c.in_ok-next.ensures

pub returns : goal.returns
returns g c =
    let kinds = map g.T.HasKind.kind_of c.args.tokens.now in
    let same : c.len-noted.result ≡ length c.args.events.now.items = omega (arith, c.len-noted.ensures, c.args.events.now.ok.0) in
    let within : c.args.place ≤ length kinds = omega (arith, c.requires.within, length-map c.args.tokens.now g.T.HasKind.kind_of) in
    c.taken_or_back.ensures kinds c.args.events.now.items same within c.in_ok-next.ensures
