use Rattle.std.proofs.Common.{◌≡◌, map, take}
use Rattle.kernel_raw.specs.RawTexts.{text_at}
use Rattle.kernel_code.proofs.check.names.names_of.Given as goal

abbrev pub invariant-loop-param : goal.invariant-loop-param
invariant-loop-param l = map (λ n. n.now) l.names.items ≡ map (λ p. text_at l.raw p.name) (take l.param-index l.raw.params.items)
