-- The definition of depths, tried on small expressions.
use Rattle.std.proofs.Common.{◌≡◌, [], ◌∷◌, refl}
use Rattle.kernel_raw.specs.declared.raw.RawForm.TheVariants as form
use Rattle.kernel_raw.specs.Raw.{Leaf, One, Infix, expr_nodes}
use Rattle.kernel_raw.specs.Depths.{depths_of}

-- `1 + -2 * 3`: the first `1` is under `+` alone, the `2` under all three operators
depths : depths_of (expr_nodes (Infix 1 (Leaf form.Number 0 0) (Infix 4 (One form.Unary 2 2 (Leaf form.Number 3 3)) (Leaf form.Number 5 5)))) ≡ 2 ∷ 1 ∷ 3 ∷ 4
    ∷ 2 ∷ 3 ∷ []
depths = refl

-- `1 + 2 + 3`: a chain groups to the left
chain : depths_of (expr_nodes (Infix 3 (Infix 1 (Leaf form.Number 0 0) (Leaf form.Number 2 2)) (Leaf form.Number 4 4))) ≡ 3 ∷ 2 ∷ 3 ∷ 1 ∷ 2 ∷ []
chain = refl
