use Rattle.std.proofs.Common.{◌≡◌, ◌*◌, ◌+◌, ◌/◌, ◌%◌, ap, ◌∙◌, arith}
use Rattle.frame_parser.specs.Notes.{action_of}
use Rattle.frame_parser.proofs.note.Note.of.Goals as goal

pub returns : goal.returns
returns c =
    let word = c.args.place * 128 + c.number_of.result in
    let number : word % 128 ≡ c.number_of.result = omega (arith, c.number_of.ensures.few) in
    let place : word / 128 ≡ c.args.place = omega (arith, c.number_of.ensures.few) in
    let action : action_of (word % 128) ≡ c.args.action = ap action_of number ∙ c.number_of.ensures.number in
    rw (action, place) (λ i. record { action = c.args.action; place = c.args.place })
