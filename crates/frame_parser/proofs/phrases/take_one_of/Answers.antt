use Rattle.std.proofs.Common.{map}
use Rattle.known_lines.specs.Lines.{IsPhrase}
use Rattle.frame_parser.specs.Notes.{events_of}
use Rattle.frame_parser.proofs.PhraseTakings.{second_known}
use Rattle.frame_parser.proofs.phrases.take_one_of.Goals as goal

pub returns-in-None : goal.returns-in-None
returns-in-None g c =
    second_known c.take_phrase-in-None.result (map g.T.HasKind.kind_of c.args.tokens.now) c.args.place c.in_ok-next.field-0 (events_of c.args.events.now.items)
    (events_of c.take_phrase.new.events.items) (events_of c.take_phrase-in-None.new.events.items)
    (λ f t. IsPhrase f t c.args.first.0.now c.args.first.1.now) (λ f t. IsPhrase f t c.args.second.0.now c.args.second.1.now)
    c.in-None.is c.in_ok-next.ensures c.take_phrase-in-None.ensures
