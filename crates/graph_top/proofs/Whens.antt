-- Scripts without a `when`.
use Rattle.std.proofs.Common.{◌≡◌, Bool, true, false, ◌||◌, List, [], ◌∷◌, None, Some, refl, ap, ◌∙◌}
use Rattle.std.specs.Prelude.{if◌then◌else◌}
use Rattle.std.specs.List.{list_any}
use Rattle.frame_ast.specs.declared.script.Statement.{Statement}
use Rattle.frame_ast.specs.Accepted.{is_when}
use Rattle.frame_top.specs.Refusals.{first_when}

pub none_first : (xs : List Statement) → first_when xs ≡ None → list_any (λ x. is_when x.act) xs ≡ false
none_first [] h = refl
none_first (x ∷ xs) h = by (is_when x.act) refl h (none_first xs)
  where
    by : (b : Bool) → is_when x.act ≡ b → (if b then Some x.line else first_when xs) ≡ None
        → (first_when xs ≡ None → list_any (λ (x : Statement). is_when x.act) xs ≡ false) → list_any (λ (x : Statement). is_when x.act) (x ∷ xs) ≡ false
    by true e h rest = absurd cc
    by false e h rest = ap (λ b. b || list_any (λ (x : Statement). is_when x.act) xs) e ∙ rest h
