-- What an accepted script says of the names of a statement.
use Rattle.std.proofs.Common.{◌≡◌, refl, subst, ℕ, zero, suc, true, false, ◌⊎◌, inl, inr, length, ⊎_elim, List, [], ◌∷◌, Option, None, Some, slice_get}
use Rattle.std.specs.Prelude.{nat_lt, nat_le}
use Rattle.std.specs.List.{list_any}
use Rattle.std.proofs.lemmas.Bool.{and_parts, or_cases, false≢true}
use Rattle.frame_ast.specs.declared.kernel.Kernel.{Kernel}
use Rattle.frame_ast.specs.declared.script.Arg.{Arg}
use Rattle.frame_ast.specs.declared.script.Order.{Order}
use Rattle.frame_ast.specs.declared.script.Statement.{Statement}
use Rattle.frame_ast.specs.Orders.{Setting, kernel_params, made_by}
use denote.Enum.Bare.{same_true}
use Rattle.frame_ast.specs.contracts.name_kind.NameKind.{the_type}
use Rattle.frame_ast.specs.declared.name_kind.NameKind.{NameKind}
use Rattle.frame_ast.specs.Accepted.{same_kind, Names, kind_in, uses, makes, copies, args_fit, schedule_fits, order_fits, made_after, block_of, statements_fit}

kinds_equal : (a b : NameKind) → same_kind a b ≡ true → a ≡ b
kinds_equal a b h = same_true the_type tt a b h

pub one_kind : (kind k : NameKind) → list_any (same_kind kind) (k ∷ []) ≡ true → kind ≡ k
one_kind kind k h = ⊎_elim (λ e. kinds_equal kind k e) (λ e. absurd (false≢true e)) (or_cases (same_kind kind k) false h)

pub two_kinds : (kind j k : NameKind) → list_any (same_kind kind) (j ∷ k ∷ []) ≡ true → (kind ≡ j) ⊎ (kind ≡ k)
two_kinds kind j k h =
    ⊎_elim (λ e. inl (kinds_equal kind j e)) (λ e. inr (one_kind kind k e)) (or_cases (same_kind kind j) (list_any (same_kind kind) (k ∷ [])) h)

-- a name that is made has that kind
pub makes_kind : (ns : Names) (n : ℕ) (k : NameKind) → makes ns n k ≡ true → (kind : NameKind) → slice_get ns.kinds n ≡ Some kind → kind ≡ k
makes_kind ns n k h kind at =
    one_kind kind k (subst (λ o. kind_in o (k ∷ []) ≡ true) at (and_parts (nat_le n ns.made) (kind_in (slice_get ns.kinds n) (k ∷ [])) h).1)

-- a name that is used has one of the kinds
pub record IsUsed (ns : Names) (n : ℕ) (kinds : List NameKind) : Type 0 where
  pub kind : NameKind
  pub at : slice_get ns.kinds n ≡ Some kind
  pub fits : list_any (same_kind kind) kinds ≡ true

pub is_used : (ns : Names) (n : ℕ) (kinds : List NameKind) → uses ns n kinds ≡ true → IsUsed ns n kinds
is_used ns n kinds h = from (slice_get ns.kinds n) refl (and_parts (nat_lt n ns.made) (kind_in (slice_get ns.kinds n) kinds) h).1
  where
    from : (o : Option NameKind) → slice_get ns.kinds n ≡ o → kind_in o kinds ≡ true → IsUsed ns n kinds
    from None at fits = absurd (false≢true fits)
    from (Some kind) at fits = record { kind = kind; at = at; fits = fits }

-- `copy` makes a name of the kind of its source
pub copies_kind : (ns : Names) (n of : ℕ) (k : NameKind) → slice_get ns.kinds of ≡ Some k → copies ns n (slice_get ns.kinds of) ≡ true → (kind : NameKind)
    → slice_get ns.kinds n ≡ Some kind → kind ≡ k
copies_kind ns n of k is h kind at = makes_kind ns n k (subst (λ o. copies ns n o ≡ true) is h) kind at

-- the arguments of a schedule fit the parameters of its kernel
pub args_of : (ns : Names) (k : Option Kernel) (args : List Arg) (cut defer : Option (ℕ × ℕ)) (waive after : List ℕ)
    → schedule_fits ns k args cut defer waive after ≡ true → args_fit ns defer (kernel_params k) args ≡ true
args_of ns None args cut defer waive after h = absurd (false≢true h)
args_of ns (Some k) args cut defer waive after h = (and_parts (args_fit ns defer k.params.items args) _ (and_parts _ _ h).0).0

-- a statement of an accepted script fits where it stands
pub record FitsThere (g : Setting) (kinds : List NameKind) (x : Order) : Type 0 where
  pub made : ℕ
  pub rest : ℕ
  pub inside : ℕ
  pub fits : order_fits (record { kinds = kinds; made = made }) g.literals g.kernels rest inside x ≡ true

pub fits_there : (g : Setting) (kinds : List NameKind) (made inside : ℕ) (xs : List Statement) (n : ℕ) (x : Statement)
    → statements_fit (record { kinds = kinds; made = made }) g.literals g.kernels inside xs ≡ true → slice_get xs n ≡ Some x → FitsThere g kinds x.act
fits_there g kinds made inside [] n x fits at = absurd cc
fits_there g kinds made inside (y ∷ ys) zero x fits at =
    let same : y ≡ x = cc in
    subst (λ z. FitsThere g kinds z.act) same (record {
      made = made;
      rest = length ys;
      inside = inside;
      fits = (and_parts (order_fits (record { kinds = kinds; made = made }) g.literals g.kernels (length ys) inside y.act)
          (statements_fit (record { kinds = kinds; made = made_after made (made_by y.act) }) g.literals g.kernels (block_of y.act inside) ys) fits).0;
    })
fits_there g kinds made inside (y ∷ ys) (suc n) x fits at =
    fits_there g kinds (made_after made (made_by y.act)) (block_of y.act inside) ys n x
    (and_parts (order_fits (record { kinds = kinds; made = made }) g.literals g.kernels (length ys) inside y.act)
    (statements_fit (record { kinds = kinds; made = made_after made (made_by y.act) }) g.literals g.kernels (block_of y.act inside) ys) fits).1 at
