use Rattle.std.proofs.Common.{◌≡◌, drop, find}
use Rattle.std.specs.Str.{bytes_eq}
use Rattle.kernel_text.specs.Spellings.{spelling_of}
use Rattle.kernel_text.proofs.spelling.spelled.Given as goal

-- none of those that were gone over is spelled so
abbrev pub invariant-loop-kind : goal.invariant-loop-kind
invariant-loop-kind l =
    find (λ kind. bytes_eq (spelling_of kind) l.word) l.kinds ≡ find (λ kind. bytes_eq (spelling_of kind) l.word) (drop l.kind-index l.kinds)
