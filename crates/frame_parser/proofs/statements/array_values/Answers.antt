use Rattle.std.proofs.Common.{sym, ◌∙◌, refl}
use Rattle.frame_parser.specs.Notes.{events_of}
use Rattle.frame_parser.proofs.Takings.{told_going}
use Rattle.frame_parser.proofs.StatementTakings.{no_values}
use Rattle.frame_parser.proofs.statements.array_values.Goals as goal

pub returns-in_ok-note : goal.returns-in_ok-note
returns-in_ok-note c ss =
    told_going c.args.ahead c.args.place (events_of c.args.events.now.items) _ _ _ ss ss c.in_ok-note.ensures refl
    (no_values c.args.ahead c.args.place (events_of c.args.events.now.items) ss (sym c.eq.ensures ∙ c.if-eq.false))
