-- How a `when` counts the statements behind it, and how copies come one behind the other.
use Rattle.std.proofs.Common.{arith, ◌≡◌, ◌≤◌, ◌<◌, ◌-◌, ◌∙◌, ℕ, zero, suc, List, [], ◌∷◌, ◌++◌, refl, ap, length, get_or, set}
use Rattle.frame_ast.specs.declared.script.Order.{Order}
use Rattle.frame_ast.specs.declared.script.Statement.{Statement}
use Rattle.frame_script.specs.Writing.{Writing, with_count, count_at, put, put_all}

counted_here : (x y : Statement) (act : Order) (n m : ℕ) → y ≡ x → act ≡ with_count n y.act → n ≡ m →
    record y { act = act } ≡ record x { act = with_count m x.act }
counted_here x y act n m same act_is e =
    let with_act : Order → Statement = λ o. record y { act = o } in
    let with_behind : Statement → Statement = λ z. record z { act = with_count m z.act } in
    ap with_act (act_is ∙ ap (λ k. with_count k y.act) e) ∙ ap with_behind same

pub counts_behind : (xs : List Statement) (at : ℕ) (y : Statement) (act : Order) → at < length xs → y ≡ get_or xs at y
    → act ≡ with_count (length xs - at - 1) y.act →
    set xs at (record y { act = act }) ≡ count_at at xs
counts_behind [] at y act within same act_is = absurd (omega (arith, within))
counts_behind (x ∷ xs) zero y act within same act_is =
    ap (λ z. z ∷ xs) (counted_here x y act (length (x ∷ xs) - 0 - 1) (length xs) same act_is (omega arith))
counts_behind (x ∷ xs) (suc at) y act within same act_is =
    ap (λ zs. x ∷ zs) (counts_behind xs at y act (omega (arith, within)) same (act_is ∙ ap (λ n. with_count n y.act) (omega arith)))

pub nothing_counts : (xs : List Statement) (at : ℕ) → length xs ≤ at → count_at at xs ≡ xs
nothing_counts [] at past = refl
nothing_counts (x ∷ xs) zero past = absurd (omega (arith, past))
nothing_counts (x ∷ xs) (suc at) past = ap (λ zs. x ∷ zs) (nothing_counts xs at (omega (arith, past)))

-- copies of one list behind those of another
pub put_both : (w : Writing) (xs ys : List Statement) → put_all w (xs ++ ys) ≡ put_all (put_all w xs) ys
put_both w [] ys = refl
put_both w (x ∷ xs) ys = put_both (put w x) xs ys
