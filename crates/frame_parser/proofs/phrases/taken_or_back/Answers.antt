use Rattle.std.proofs.Common.{◌≡◌, ◌+◌, ◌-◌, ap, sym, ◌∙◌, subst, arith}
use Rattle.known_lines.specs.Lines.{TakesLines, items_on}
use Rattle.known_lines.proofs.Takings.{none_taken}
use Rattle.frame_parser.specs.Notes.{events_of, event_of}
use Rattle.frame_parser.proofs.PhraseTakings.{all_some, all_none, taken_back}
use Rattle.frame_parser.proofs.phrases.taken_or_back.Goals as goal

pub returns-in-Some : goal.returns-in-Some
returns-in-Some c tokens before same within may =
    let all = all_some items_on items_on tokens c.args.place c.in-Some.next c.args.next (events_of before) (events_of c.args.events.now.items)
    c.in-Some.is may in
    let there : c.in-Some.next ≡ c.args.place + (c.in-Some.next - c.args.place) = omega (arith, all.on) in
    subst (λ p. TakesLines tokens c.args.place p (events_of before) (events_of c.args.events.now.items)) there all

pub returns-in-None : goal.returns-in-None
returns-in-None c tokens before same within may =
    let noted = all_none items_on items_on tokens c.args.place c.args.next (events_of before) (events_of c.args.events.now.items) c.in-None.is may in
    let back : events_of c.truncate.new.self.items ≡ events_of before =
    ap events_of c.truncate.ensures.items ∙ taken_back event_of before c.args.events.now.items c.args.noted same noted in
    subst (λ es. TakesLines tokens c.args.place (c.args.place + 0) (events_of before) es) (sym back)
    (none_taken tokens c.args.place (events_of before) within)
