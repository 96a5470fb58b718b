use Rattle.std.proofs.Common.{inl, inr, refl, sym, ◌∙◌, subst, Some}
use Rattle.std.proofs.lemmas.Bool.{false≢true}
use Rattle.frame_calls.specs.Hosting.{Turns}
use Rattle.frame_calls.specs.declared.held.Held.TheVariants.{Underway}
use Rattle.frame_calls.specs.declared.status.TheConstants.{AGAIN, OVER}
use Rattle.frame_calls.proofs.framing.turned.Goals as goal

pub returns-then-turn-clause-turned : goal.returns-then-turn-clause-turned
returns-then-turn-clause-turned c =
    let t = c.turn.ensures in
    subst (λ held. Turns (Some held) AGAIN (Some (Underway c.turn.new.self))) (sym c.in-Underway.is) (
      record { script = t.script; columns = t.table; stage = t.stage; places = t.places; next = t.next; always = t.always },
      inr (refl, λ all. false≢true (sym (t.over.1 all) ∙ c.if-turn.true)),
    )

pub returns-else-turn-clause-turned : goal.returns-else-turn-clause-turned
returns-else-turn-clause-turned c =
    let t = c.turn.ensures in
    subst (λ held. Turns (Some held) OVER (Some (Underway c.turn.new.self))) (sym c.in-Underway.is) (
      record { script = t.script; columns = t.table; stage = t.stage; places = t.places; next = t.next; always = t.always },
      inl (refl, t.over.0 c.if-turn.false, t.ended.0 c.if-turn.false),
    )
