-- One more row.
use Rattle.std.proofs.Common.{◌≡◌, ℕ, suc, ◌+◌, ◌<◌, List, ◌++◌, sym, ap, ◌∙◌, append_assoc, arith}
use Rattle.std.specs.Prelude.{◌-◌}
use Rattle.trace_text.specs.Events.{row_text}
use Rattle.trace_text.specs.Traces.{rows_text}

one_less : (w k : ℕ) → k < w → w - k ≡ suc (w - (k + 1))
one_less w k lt = omega arith

pub rows_on : (old new part : List ℕ) (w k : ℕ) (total : List ℕ) → k < w → part ≡ row_text k → new ≡ old ++ part
    → old ++ rows_text (w - k) k ≡ total → new ++ rows_text (w - (k + 1)) (k + 1) ≡ total
rows_on old new part w k total lt is pushed h =
    ap (λ n. n ++ rows_text (w - (k + 1)) (k + 1)) pushed
    ∙ append_assoc old part (rows_text (w - (k + 1)) (k + 1))
    ∙ ap (λ p. old ++ (p ++ rows_text (w - (k + 1)) (k + 1))) is
    ∙ ap (λ n. old ++ rows_text n k) (sym (one_less w k lt))
    ∙ h
