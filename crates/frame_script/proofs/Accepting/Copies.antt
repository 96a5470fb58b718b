-- Statements fit one after another, and as many copies of them as a `repeat` says.
use Rattle.std.proofs.Common.{◌≡◌, ℕ, zero, suc, ◌+◌, ◌-◌, ◌≤◌, Bool, true, false, ◌&&◌, nat_le, ℤ, List, [], ◌∷◌, ◌++◌, length, refl, sym, ◌∙◌, ap, subst, arith, length-append, append_assoc}
use Rattle.std.proofs.lemmas.Bool.{and_from}
use Rattle.frame_ast.specs.declared.kernel.Kernel.{Kernel}
use Rattle.frame_ast.specs.declared.script.Statement.{Statement}
use Rattle.frame_ast.specs.declared.script.Order.{Order}
use Rattle.frame_ast.specs.declared.script.Order.TheVariants as order
use Rattle.frame_ast.specs.declared.script.Sign.{Sign}
use Rattle.frame_ast.specs.Accepted.{uses, order_fits, made_after, is_when, block_of, statements_fit}
use Rattle.frame_ast.specs.Orders.{made_by}
use Rattle.frame_ast.specs.declared.name_kind.NameKind.TheVariants as kind
use Rattle.script_names.specs.Names.{Name}
use Rattle.frame_script.specs.Files.{Repeated}
use Rattle.frame_script.proofs.Accepting.Places.{le_test}
use Rattle.frame_script.proofs.Accepting.Names.{scene}

-- how many statements of the innermost `when` block are left, with so many and so many more, or none outside of one
abbrev pub left : Bool → ℕ → ℕ → ℕ
left true n more = n + more
left false n more = 0

left_moved : (tested : Bool) (n m k : ℕ) → left tested n (m + k) ≡ left tested (n + m) k
left_moved true n m k = omega arith
left_moved false n m k = refl

left_start : (tested : Bool) (m k : ℕ) → left tested 0 (m + k) ≡ left tested m k
left_start true m k = omega arith
left_start false m k = refl

left_none : (n : ℕ) → n + 0 ≡ n
left_none n = omega arith

left_next : (tested : Bool) (n k : ℕ) → left tested (suc n) k - 1 ≡ left tested n k
left_next true n k = omega arith
left_next false n k = refl

block_next : (o : Order) (inside : ℕ) → is_when o ≡ false → block_of o inside ≡ inside - 1
block_next (order.When name sign value count) inside h = cc
block_next _ inside h = refl

-- behind a statement that isn't a `when`
pub left_behind : (o : Order) (tested : Bool) (n k : ℕ) → is_when o ≡ false → block_of o (left tested (suc n) k) ≡ left tested n k
left_behind o tested n k h = block_next o (left tested (suc n) k) h ∙ left_next tested n k

module _ (all : List Name) (literals : List (List ℤ)) (kernels : List Kernel) where
  -- statements fit wherever so many names are made
  abbrev pub FitFrom : (least inside : ℕ) → List Statement → Type 0
  FitFrom least inside xs = (made : ℕ) → least ≤ made → statements_fit (scene all made) literals kernels inside xs ≡ true

  -- statements fit from so many names on, where they make as many as those behind them need
  abbrev pub Lead : (tested : Bool) (first last : ℕ) → List Statement → Type 0
  Lead tested first last xs = (more : List Statement) (k : ℕ) → FitFrom last (left tested 0 k) more → FitFrom first (left tested (length xs) k) (xs ++ more)

  pub lead_nothing : (tested : Bool) (least : ℕ) (xs : List Statement) → xs ≡ [] → Lead tested least least xs
  lead_nothing tested least xs is more k fit = subst (λ ys. FitFrom least (left tested (length ys) k) (ys ++ more)) (sym is) fit

  -- a statement that isn't a `when`
  pub lead_one : (tested : Bool) (first last : ℕ) (x : Statement) → is_when x.act ≡ false →
      ((made rest inside : ℕ) → first ≤ made → (order_fits (scene all made) literals kernels rest inside x.act ≡ true)
      × (last ≤ made_after made (made_by x.act))) →
      Lead tested first last (x ∷ [])
  lead_one tested first last x plain fits more k fit made enough =
      let f = fits made (length more) (left tested 1 k) enough in
      and_from _ _ f.0
      (subst (λ n. statements_fit (scene all (made_after made (made_by x.act))) literals kernels n more ≡ true) (sym (left_behind x.act tested 0 k plain))
      (fit (made_after made (made_by x.act)) f.1))

  -- a `when` outside of another one, with the statements of its block
  pub lead_when : (first last name : ℕ) (sign : Sign) (value : ℤ) (x : Statement) (body : List Statement) → x.act ≡ order.When name sign value (length body) →
      ((made : ℕ) → first ≤ made → uses (scene all made) name (kind.Reference ∷ []) ≡ true) → Lead true first last body → Lead false first last (x ∷ body)
  lead_when first last name sign value x body is used within more k fit made enough =
      let Whole : Order → Type 0 =
      λ o. (order_fits (scene all made) literals kernels (length (body ++ more)) 0 o
      && statements_fit (scene all (made_after made (made_by o))) literals kernels (block_of o 0) (body ++ more)) ≡ true in
      let few : nat_le (length body) (length (body ++ more)) ≡ true = le_test _ _ (omega (arith, length-append body more)) in
      let counted : statements_fit (scene all made) literals kernels (length body) (body ++ more) ≡ true =
      subst (λ n. statements_fit (scene all made) literals kernels n (body ++ more) ≡ true) (left_none (length body)) (within more 0 fit made enough) in
      subst Whole (sym is) (and_from _ _ (and_from _ _ (used made enough) (and_from _ _ few refl)) counted)

  -- one list behind another
  pub lead_joined : (tested : Bool) (first middle last : ℕ) (xs ys : List Statement) → Lead tested first middle xs → Lead tested middle last ys
      → Lead tested first last (xs ++ ys)
  lead_joined tested first middle last xs ys a b more k fit =
      let behind : FitFrom middle (left tested 0 (length ys + k)) (ys ++ more) =
      subst (λ n. FitFrom middle n (ys ++ more)) (sym (left_start tested (length ys) k)) (b more k fit) in
      let whole : FitFrom first (left tested (length xs) (length ys + k)) (xs ++ (ys ++ more)) = a (ys ++ more) (length ys + k) behind in
      let counted : FitFrom first (left tested (length (xs ++ ys)) k) (xs ++ (ys ++ more)) =
      subst (λ n. FitFrom first n (xs ++ (ys ++ more))) (left_moved tested (length xs) (length ys) k
      ∙ ap (λ n. left tested n k) (sym (length-append xs ys))) whole in
      subst (λ zs. FitFrom first (left tested (length (xs ++ ys)) k) zs) (sym (append_assoc xs ys more)) counted

  -- where more names are made
  pub lead_later : (tested : Bool) (first later last : ℕ) (xs : List Statement) → first ≤ later → Lead tested first last xs → Lead tested later last xs
  lead_later tested first later last xs le a more k fit made enough = a more k fit made (omega (arith, le, enough))

  -- copies behind a first one: all names of the block are made already
  copies_behind : (tested : Bool) (first last : ℕ) (Is : List Statement → Type 0) → first ≤ last → ((xs : List Statement) → Is xs → Lead tested first last xs) →
      (n : ℕ) (xs : List Statement) → Repeated n Is xs → Lead tested last last xs
  copies_behind tested first last Is le each zero xs r = lead_nothing tested last xs r
  copies_behind tested first last Is le each (suc n) xs r =
      subst (Lead tested last last) (sym r.2)
      (lead_joined tested last last last r.0 r.1 (lead_later tested first last last r.0 le (each r.0 r.3))
      (copies_behind tested first last Is le each n r.1 r.4))

  -- copies, of which there is one at least
  pub copies_lead : (tested : Bool) (first last : ℕ) (Is : List Statement → Type 0) → first ≤ last
      → ((xs : List Statement) → Is xs → Lead tested first last xs) →
      (n : ℕ) (xs : List Statement) → 1 ≤ n → Repeated n Is xs → Lead tested first last xs
  copies_lead tested first last Is le each zero xs some r = absurd (omega arith)
  copies_lead tested first last Is le each (suc n) xs some r =
      subst (Lead tested first last) (sym r.2)
      (lead_joined tested first last last r.0 r.1 (each r.0 r.3) (copies_behind tested first last Is le each n r.1 r.4))
