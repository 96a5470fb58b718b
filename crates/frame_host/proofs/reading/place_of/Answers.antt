use Rattle.std.proofs.Common.{sym, ap, ◌∙◌}
use Rattle.std.specs.Str.{bytes_eq}
use Rattle.frame_host.proofs.Places.{place_here, place_later}
use Rattle.frame_host.proofs.reading.place_of.Goals as goal

pub returns-then-eq : goal.returns-then-eq
returns-then-eq c =
    sym (place_here (λ text. text.now) c.args.name.now c.args.script.now.names c.loop-i.i _ _ c.get.ensures c.in-Some.is
    (ap (λ text. bytes_eq text c.args.name.now) (sym c.as_bytes.ensures.value) ∙ sym c.eq.ensures ∙ c.if-eq.true))
    ∙ c.loop-i.invariant

pub loop-i-preserved : goal.loop-i-preserved
loop-i-preserved c =
    sym (place_later (λ text. text.now) c.args.name.now c.args.script.now.names c.loop-i.i _ _ c.get.ensures c.in-Some.is
    (ap (λ text. bytes_eq text c.args.name.now) (sym c.as_bytes.ensures.value) ∙ sym c.eq.ensures ∙ c.if-eq.false))
    ∙ c.loop-i.invariant
