-- Depths that are kept only where one of them is a fault.
use Rattle.std.proofs.Common.{ℕ, zero, suc, ◌≡◌, ◌≤◌, ◌+◌, Bool, true, false, List, [], ◌∷◌, slice_get, take, refl, sym, ap, ◌∙◌, arith}
use Rattle.std.specs.Prelude.{◌||◌, if◌then◌else◌, nat_lt, unwrap_or}
use Rattle.std.specs.List.{list_any}
use Rattle.std.proofs.lemmas.Bool.{or_parts}
use Rattle.std.proofs.lemmas.Bool.Decides.{nat_tests}
use Rattle.kernel_raw.specs.declared.raw.RawNode.{RawNode}
use Rattle.kernel_raw.specs.declared.raw.TheConstants.{MOST_KEPT}
use Rattle.kernel_raw.specs.Depths.{depth_of, depths_from, depths_of, kept_depths}

none-over : (ds : List ℕ) (i : ℕ) → list_any (nat_lt 64) ds ≡ false → nat_lt 64 (unwrap_or (slice_get ds i) 0) ≡ false
none-over [] i h = refl
none-over (d ∷ ds) zero h = (or_parts _ _ h).0
none-over (d ∷ ds) (suc i) h = none-over ds i (or_parts _ _ h).1

-- A depth is a fault by what is kept where it is one.
pub same-over : (ds : List ℕ) (i : ℕ) → nat_lt 64 (unwrap_or (slice_get (kept_depths ds) i) 0) ≡ nat_lt 64 (unwrap_or (slice_get ds i) 0)
same-over ds i = cases (list_any (nat_lt 64) ds) refl
  where
    cases : (any : Bool) → list_any (nat_lt 64) ds ≡ any → nat_lt 64 (unwrap_or (slice_get (kept_depths ds) i) 0) ≡ nat_lt 64 (unwrap_or (slice_get ds i) 0)
    cases true h = ap (λ a. nat_lt 64 (unwrap_or (slice_get (if a then ds else []) i) 0)) h
    cases false h = ap (λ a. nat_lt 64 (unwrap_or (slice_get (if a then ds else []) i) 0)) h ∙ sym (none-over ds i h)

-- where none is a fault nothing is kept
pub kept-none : (ds : List ℕ) → list_any (nat_lt 64) ds ≡ false → kept_depths ds ≡ []
kept-none ds h = ap (λ a. if a then ds else []) h

pub kept-some : (ds : List ℕ) → list_any (nat_lt 64) ds ≡ true → kept_depths ds ≡ ds
kept-some ds h = ap (λ a. if a then ds else []) h

none-from : (all : List RawNode) → ((i : ℕ) → depth_of all i ≤ 64) → (i : ℕ) (nodes : List RawNode) → list_any (nat_lt 64) (depths_from all i nodes) ≡ false
none-from all few i [] = refl
none-from all few i (node ∷ more) =
    let here : nat_lt 64 (depth_of all i) ≡ false = grind (arith, nat_tests, few i) in
    ap (λ b. b || list_any (nat_lt 64) (depths_from all (i + 1) more)) here ∙ none-from all few (i + 1) more

taken-none : (m : ℕ) (ds : List ℕ) → list_any (nat_lt 64) ds ≡ false → list_any (nat_lt 64) (take m ds) ≡ false
taken-none zero ds h = refl
taken-none (suc m) [] h = refl
taken-none (suc m) (d ∷ ds) h =
    let parts = or_parts _ _ h in
    ap (λ b. b || list_any (nat_lt 64) (take m ds)) parts.0 ∙ taken-none m ds parts.1

-- Where no node stands too deep nothing is kept.
pub kept-shallow : (all : List RawNode) → ((i : ℕ) → depth_of all i ≤ 64) → kept_depths (take MOST_KEPT (depths_of all)) ≡ []
kept-shallow all few = kept-none (take MOST_KEPT (depths_of all)) (taken-none MOST_KEPT (depths_of all) (none-from all few 0 all))
