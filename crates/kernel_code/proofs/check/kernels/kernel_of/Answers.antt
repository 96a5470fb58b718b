use Rattle.std.proofs.Common.{None, List, refl, sym, subst, arith}
use Rattle.frame_grammar.specs.declared.symbols.Event.{Event}
use Rattle.kernel_raw.specs.RawEvents.{SpellsRaw}
use Rattle.kernel_code.specs.Places.{IsResolved}
use Rattle.kernel_code.specs.Trees.{BlockOf}
use Rattle.kernel_code.proofs.Built.Counting.{all-kept}
use Rattle.kernel_code.proofs.Built.Kernels.{body-here, body-size}
use Rattle.kernel_code.proofs.check.kernels.kernel_of.Goals as goal

pub block-requires : goal.block-requires
block-requires c = subst (λ ms. IsResolved c.args.raw.now ms) (sym c.deref.ensures.value) c.requires.resolved

pub returns : goal.returns
returns c =
    let raw = c.args.raw.now in
    let body : (events : List Event) (s : SpellsRaw events raw) → BlockOf raw 0 s.body c.in_ok-statements.statements.items =
    λ events s. c.in_ok-statements.ensures None s.body (body-here events raw s (all-kept events raw s c.requires.resolved.faultless))
    (omega (arith, body-size events raw s (all-kept events raw s c.requires.resolved.faultless))) in
    record { name = c.in_ok-name.ensures; parallel = refl; params = c.in_ok-params.ensures; locals = c.requires.locals; body = body }
