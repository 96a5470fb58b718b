use Rattle.frame_parser.specs.Notes.{events_of}
use Rattle.script_text.specs.Known.{known_form}
use Rattle.frame_script.proofs.Walking.EventSteps.{went_past_order, refused_in_order}
use Rattle.frame_script.proofs.walk.Walk.step.Goals as goal

pub returns-in-Ok-clause-walked : goal.returns-in-Ok-clause-walked
returns-in-Ok-clause-walked c =
    let g = c.requires.walking in
    let all = events_of c.args.notes.now in
    let item = c.in-Some.item in
    let leads = c.in-Some.ensures g.left g.opens in (
      leads.0,
      leads.1,
      went_past_order c.args.source all c.args.at item.first (known_form item.order) item.next c.args.self.now c.take_known.new.self
          c.requires.text g leads.2 c.in-Ok.ensures.0 c.in-Ok.ensures.1,
    )

pub returns-in-Err-clause-refused : goal.returns-in-Err-clause-refused
returns-in-Err-clause-refused c line kind is =
    let g = c.requires.walking in
    let all = events_of c.args.notes.now in
    let item = c.in-Some.item in
    let leads = c.in-Some.ensures g.left g.opens in
    refused_in_order c.args.source all c.args.at item.first (known_form item.order) item.next c.args.self.now c.in-Err.fault line kind g leads.2
    c.in-Err.ensures (c.refusal_for.ensures line kind cc)
