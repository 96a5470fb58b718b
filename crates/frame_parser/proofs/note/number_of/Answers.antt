use Rattle.frame_parser.proofs.Notes.{numbered}
use Rattle.frame_parser.proofs.note.number_of.Goals as goal

pub returns-clause-number : goal.returns-clause-number
returns-clause-number c = numbered c.args.action
