-- Items stand for one list of statements, but for where their parts lie in memory.
use Rattle.std.proofs.Common.{ℕ, zero, suc, ◌+◌, ◌≡◌, Bool, List, [], ◌∷◌, ◌++◌, length, map, Option, Some, None, nat_lt, if◌then◌else◌, refl, sym, ap, ◌∙◌, subst}
use Rattle.std.specs.Prelude.{not, position, unwrap_or, string_bytes}
use Rattle.std.specs.List.{prefix_len}
use Rattle.std.specs.Str.{bytes_eq}
use Rattle.frame_ast.specs.declared.kernel.Param.{Param}
use Rattle.frame_ast.specs.declared.kernel.Kernel.{Kernel as CheckedKernel}
use Rattle.frame_ast.specs.declared.script.Order.{Order}
use Rattle.frame_ast.specs.declared.script.Order.TheVariants as order
use Rattle.frame_ast.specs.declared.script.Statement.{Statement}
use Rattle.script_text.specs.declared.source.Source.{Source}
use Rattle.script_text.specs.Sources.{text_at, number_at}
use Rattle.script_names.specs.Names.{Name}
use Rattle.script_text.specs.Raw.{OrderForm, NewColumn, Schedule, Combine, Dispose, Repeat, RawItems, Nothing, Kernel, Single, Block}
use Rattle.script_checks.specs.Faults.{kernel_in}
use Rattle.script_checks.specs.Spelling.{kernel_place, param_place, params_of, params_named, Says}
use Rattle.frame_script.specs.Files.{literals_of, literals_in, Repeated, IsStatement, StandFor}
use Rattle.tree_laws.specs.Same.{SameParam, SameKernel, SameOrder, SameStatement, Pairwise}
use Rattle.text_laws.proofs.Scopes.{SameMaybe, same_kernel_in, same_append, same_length}

-- PLACES

module _ {A : Type 0} (Same : A → A → Type 0) (is was : A → Bool) (alike : (x y : A) → Same x y → is x ≡ was y) where
  same_prefix : (xs ys : List A) → Pairwise Same xs ys → prefix_len (λ x. not (is x)) xs ≡ prefix_len (λ x. not (was x)) ys
  same_prefix [] [] same = refl
  same_prefix [] (y ∷ ys) same = absurd same
  same_prefix (x ∷ xs) [] same = absurd same
  same_prefix (x ∷ xs) (y ∷ ys) same = λ i. if not (alike x y same.0 i) then 1 + same_prefix xs ys same.1 i else 0

  -- the first place of a property that they have or lack alike
  same_position : (xs ys : List A) → Pairwise Same xs ys → position is xs ≡ position was ys
  same_position xs ys same =
      λ i. if nat_lt (same_prefix xs ys same i) (same_length Same xs ys same i) then Some (same_prefix xs ys same i) else None

same_kernel_place : (ks ls : List CheckedKernel) → Pairwise SameKernel ks ls → (text : List ℕ) → kernel_place ks text ≡ kernel_place ls text
same_kernel_place ks ls same text =
    ap (λ o. unwrap_or o 0) (same_position SameKernel (λ k. bytes_eq text (string_bytes k.name)) (λ k. bytes_eq text (string_bytes k.name))
    (λ k l is. ap (bytes_eq text) is.name) ks ls same)

same_param_place : (ps qs : List Param) → Pairwise SameParam ps qs → (text : List ℕ) → param_place ps text ≡ param_place qs text
same_param_place ps qs same text =
    ap (λ o. unwrap_or o 0) (same_position SameParam (λ p. bytes_eq text (string_bytes p.name)) (λ p. bytes_eq text (string_bytes p.name))
    (λ p q is. ap (bytes_eq text) is.name) ps qs same)

same_params_of : (k l : Option CheckedKernel) → SameMaybe SameKernel k l → Pairwise SameParam (params_of k) (params_of l)
same_params_of None None same = tt
same_params_of None (Some l) same = absurd same
same_params_of (Some k) None same = absurd same
same_params_of (Some k) (Some l) same = same.params

-- STATEMENTS

equal : (x y z : Order) → x ≡ z → y ≡ z → SameOrder x y
equal x y z a b = subst (λ w. SameOrder x w) (a ∙ sym b) SameOrder.itself

along : (x y X Y : Order) → x ≡ X → y ≡ Y → SameOrder X Y → SameOrder x y
along x y X Y a b same = subst (λ z. SameOrder z y) (sym a) (subst (λ z. SameOrder X z) (sym b) same)

module _ (s : Source) (names : List Name) (ks ls : List CheckedKernel) (same : Pairwise SameKernel ks ls) where
  param_places : (at : ℕ) (text : List ℕ) → param_place (params_named s ks at) text ≡ param_place (params_named s ls at) text
  param_places at text = same_param_place (params_named s ks at) (params_named s ls at)
      (same_params_of (kernel_in ks (text_at s at)) (kernel_in ls (text_at s at)) (same_kernel_in ks ls same (text_at s at))) text

  pub says_once : (literals count : ℕ) (form : OrderForm) (x y : Order) → Says s names ks literals count form x → Says s names ls literals count form y
      → SameOrder x y
  says_once literals count (NewColumn name column life) x y a b = along x y _ _ a.2 b.2 (SameOrder.column (a.1 ∙ sym b.1))
  says_once literals count (Schedule auto handle kernel args cut waive after) x y a b =
      let place = same_kernel_place ks ls same (text_at s kernel) in
      let m = a.1 in
      let n = b.1 in
      along x y _ _ a.2 b.2
      (SameOrder.schedule (record {
        auto = m.auto_is ∙ sym n.auto_is;
        handle = m.handle_is ∙ sym n.handle_is;
        kernel = m.kernel_is ∙ place ∙ sym n.kernel_is;
        args = m.args_are ∙ sym n.args_are;
        cut = m.cut_is ∙ sym n.cut_is;
        defer = m.defer_is ∙ sym n.defer_is;
        waive = m.waive_are ∙ ap (λ (f : ℕ → ℕ). map f waive) (λ i at. param_places kernel (text_at s at) i) ∙ sym n.waive_are;
        after = m.after_are ∙ sym n.after_are;
      }))
  says_once literals count (Combine name of) x y a b = along x y _ _ a.2 b.2 (SameOrder.combine (a.1 ∙ sym b.1))
  says_once literals count (Dispose name after handle) x y a b = along x y _ _ a.2 b.2 (SameOrder.dispose (a.1 ∙ sym b.1))
  says_once literals count (Repeat n) x y a b = absurd a
  says_once literals count _ x y a b = equal x y _ a b

  statement_once : (literals count at : ℕ) (form : OrderForm) (x y : Statement) → IsStatement s names ks literals count at form x
      → IsStatement s names ls literals count at form y → SameStatement x y
  statement_once literals count at form x y a b = record { line = a.line ∙ sym b.line; act = says_once literals count form x.act y.act a.says b.says }

  -- LISTS

  joined : (xs ys fronts fronts' backs backs' : List Statement) → xs ≡ fronts ++ backs → ys ≡ fronts' ++ backs' → Pairwise SameStatement fronts fronts'
      → Pairwise SameStatement backs backs' → Pairwise SameStatement xs ys
  joined xs ys fronts fronts' backs backs' a b front back =
      subst (λ z. Pairwise SameStatement z ys) (sym a) (subst (λ z. Pairwise SameStatement (fronts ++ backs) z) (sym b)
      (same_append SameStatement fronts fronts' backs backs' front back))

  repeated_once : (n : ℕ) (Is Was : List Statement → Type 0) → ((xs ys : List Statement) → Is xs → Was ys → Pairwise SameStatement xs ys)
      → (xs ys : List Statement) → Repeated n Is xs → Repeated n Was ys → Pairwise SameStatement xs ys
  repeated_once zero Is Was once xs ys a b = joined xs ys [] [] [] [] a b tt tt
  repeated_once (suc n) Is Was once xs ys a b = joined xs ys a.0 b.0 a.1 b.1 a.2 b.2 (once a.0 b.0 a.3 b.3) (repeated_once n Is Was once a.1 b.1 a.4 b.4)

  pub stand_once : (literals : ℕ) (items : RawItems) (xs ys : List Statement) → StandFor s names ks literals items xs → StandFor s names ls literals items ys
      → Pairwise SameStatement xs ys
  stand_once literals Nothing xs ys a b = joined xs ys [] [] [] [] a b tt tt
  stand_once literals (Kernel events form more) xs ys a b = stand_once literals more xs ys a b
  stand_once literals (Single at order more) xs ys a b =
      joined xs ys (a.0 ∷ []) (b.0 ∷ []) a.1 b.1 a.2 b.2 (statement_once literals 0 at order a.0 b.0 a.3 b.3, tt)
      (stand_once (literals + length (literals_of s order)) more a.1 b.1 a.4 b.4)
  stand_once literals (Block at (Repeat n) inner more) xs ys a b =
      joined xs ys a.0 b.0 a.1 b.1 a.2 b.2
      (repeated_once (number_at s n) (StandFor s names ks literals inner) (StandFor s names ls literals inner) (stand_once literals inner) a.0 b.0 a.3 b.3)
      (stand_once (literals + length (literals_in s inner)) more a.1 b.1 a.4 b.4)
  stand_once literals (Block at head inner more) xs ys a b =
      let inside = stand_once literals inner a.1 b.1 a.5 b.5 in
      let count : length b.1 ≡ length a.1 = sym (same_length SameStatement a.1 b.1 inside) in
      let first = statement_once literals (length a.1) at head a.0 b.0 a.4 (subst (λ n. IsStatement s names ls literals n at head b.0) count b.4) in
      joined xs ys (a.0 ∷ a.1) (b.0 ∷ b.1) a.2 b.2 a.3 b.3 (first, inside) (stand_once (literals + length (literals_in s inner)) more a.2 b.2 a.6 b.6)
