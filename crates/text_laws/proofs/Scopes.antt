-- A statement and a kernel have the same faults behind kernels that are the same.
use Rattle.std.proofs.Common.{ℕ, ◌+◌, ◌-◌, suc, ◌≡◌, Bool, true, false, ◌&&◌, nat_eq, nat_le, List, [], ◌∷◌, ◌++◌, length, map, Option, Some, None, refl, ap, ◌∙◌, subst, if◌then◌else◌}
use Rattle.std.specs.Prelude.{◌||◌, max, find, string_bytes}
use Rattle.std.specs.List.{list_any}
use Rattle.std.specs.Str.{bytes_eq}
use Rattle.std.specs.Option.{option_or}
use Rattle.job_base.specs.declared.limits.TheConstants.{MOST_KERNELS, MOST_PARAMS, MOST_NODES, MOST_DEPTH, GUARD_PARAMS, GUARD_NODES, GUARD_DEPTH}
use Rattle.frame_ast.specs.Lists.{first_some, some_if}
use Rattle.frame_ast.specs.Accepted.{up_to}
use Rattle.frame_ast.specs.declared.kernel.FaultKind.TheVariants.{DuplicateName, KindMismatch, Limit}
use Rattle.frame_ast.specs.declared.kernel.Param.{Param}
use Rattle.frame_ast.specs.declared.kernel.Kernel.{Kernel as CheckedKernel}
use Rattle.frame_ast.specs.Checked.{expr_nodes, expr_depth, body_nodes, body_depth}
use Rattle.kernel_raw.specs.declared.raw.RawKernel.{RawKernel}
use Rattle.kernel_raw.specs.RawTexts.{text_at}
use Rattle.kernel_code.specs.StaticFaults.{fault_at, lowest, length_fault, params_fault, nodes_fault, first_fault}
use Rattle.frame_ast.specs.declared.name_kind.NameKind.TheVariants as kind
use Rattle.script_text.specs.declared.raw.RawArg.{RawArg}
use Rattle.script_text.specs.declared.raw.RawSizes.{RawSizes}
use Rattle.script_text.specs.declared.source.Source.{Source}
use Rattle.script_text.specs.Sources as source
use Rattle.script_names.specs.Names.{Name}
use Rattle.script_text.specs.Raw.{OrderForm, Schedule}
use Rattle.script_checks.specs.Faults.{Scope, unless, make_fault, sizes_fit, room_fits, kernel_fault, arg_fault, args_faults, sizes_faults, handles_faults, waived_fault, waive_fault, kernel_in, param_in, scheduled_faults, order_faults}
use Rattle.tree_laws.specs.Same.{SameParam, SameKernel, Pairwise}
use Rattle.tree_laws.proofs.Checks.{same_nodes, same_depth, same_measures, same_count}

-- LISTS

abbrev pub SameMaybe : {A : Type 0} → (A → A → Type 0) → Option A → Option A → Type 0
SameMaybe Same None None = Unit {0}
SameMaybe Same None (Some y) = ⊥
SameMaybe Same (Some x) None = ⊥
SameMaybe Same (Some x) (Some y) = Same x y

module _ {A : Type 0} (Same : A → A → Type 0) where
  chosen : (b : Bool) (x y : A) (m n : Option A) → Same x y → SameMaybe Same m n → SameMaybe Same (if b then Some x else m) (if b then Some y else n)
  chosen true x y m n one more = one
  chosen false x y m n one more = more

  -- the first one of a property that they have or lack alike
  pub same_found : (is was : A → Bool) → ((x y : A) → Same x y → is x ≡ was y) → (xs ys : List A) → Pairwise Same xs ys
      → SameMaybe Same (find is xs) (find was ys)
  same_found is was alike [] [] same = tt
  same_found is was alike [] (y ∷ ys) same = absurd same
  same_found is was alike (x ∷ xs) [] same = absurd same
  same_found is was alike (x ∷ xs) (y ∷ ys) same =
      subst (λ b. SameMaybe Same (find is (x ∷ xs)) (if b then Some y else find was ys)) (alike x y same.0)
      (chosen (is x) x y (find is xs) (find was ys) same.0 (same_found is was alike xs ys same.1))

  pub same_any : (is was : A → Bool) → ((x y : A) → Same x y → is x ≡ was y) → (xs ys : List A) → Pairwise Same xs ys → list_any is xs ≡ list_any was ys
  same_any is was alike [] [] same = refl
  same_any is was alike [] (y ∷ ys) same = absurd same
  same_any is was alike (x ∷ xs) [] same = absurd same
  same_any is was alike (x ∷ xs) (y ∷ ys) same = λ i. alike x y same.0 i || same_any is was alike xs ys same.1 i

  pub same_length : (xs ys : List A) → Pairwise Same xs ys → length xs ≡ length ys
  same_length [] [] same = refl
  same_length [] (y ∷ ys) same = absurd same
  same_length (x ∷ xs) [] same = absurd same
  same_length (x ∷ xs) (y ∷ ys) same = ap suc (same_length xs ys same.1)

  pub same_append : (xs ys zs ws : List A) → Pairwise Same xs ys → Pairwise Same zs ws → Pairwise Same (xs ++ zs) (ys ++ ws)
  same_append [] [] zs ws same more = more
  same_append [] (y ∷ ys) zs ws same more = absurd same
  same_append (x ∷ xs) [] zs ws same more = absurd same
  same_append (x ∷ xs) (y ∷ ys) zs ws same more = (same.0, same_append xs ys zs ws same.1 more)

-- KERNELS

pub same_kernel_in : (ks ls : List CheckedKernel) → Pairwise SameKernel ks ls → (text : List ℕ) → SameMaybe SameKernel (kernel_in ks text) (kernel_in ls text)
same_kernel_in ks ls same text = same_found SameKernel (λ k. bytes_eq text (string_bytes k.name)) (λ k. bytes_eq text (string_bytes k.name))
    (λ k l is. ap (bytes_eq text) is.name) ks ls same

pub same_param_in : (ps qs : List Param) → Pairwise SameParam ps qs → (text : List ℕ) → SameMaybe SameParam (param_in ps text) (param_in qs text)
same_param_in ps qs same text = same_found SameParam (λ p. bytes_eq text (string_bytes p.name)) (λ p. bytes_eq text (string_bytes p.name))
    (λ p q is. ap (bytes_eq text) is.name) ps qs same

module _ (k l : CheckedKernel) (same : SameKernel k l) where
  nodes : body_nodes k.body.statements.items ≡ body_nodes l.body.statements.items
  nodes = same_measures expr_nodes (λ m n. m + n) same_nodes k.body.statements.items l.body.statements.items same.body

  depth : body_depth k.body.statements.items ≡ body_depth l.body.statements.items
  depth = same_measures expr_depth max same_depth k.body.statements.items l.body.statements.items same.body

  count : length k.params.items ≡ length l.params.items
  count = same_count k.params.items l.params.items same.params

  same_kernel_fault : (at : ℕ) (args : List RawArg) (sizes : RawSizes) → kernel_fault k at args sizes ≡ kernel_fault l at args sizes
  same_kernel_fault at args sizes = λ i.
      first_some (unless (nat_eq (length args) (count i) && sizes_fit (same.parallel i) sizes) KindMismatch at
      ∷ unless (room_fits (up_to (MOST_PARAMS - GUARD_PARAMS) (count i) &&
      (up_to (MOST_NODES - GUARD_NODES) (nodes i) && up_to (MOST_DEPTH - GUARD_DEPTH) (depth i))) sizes) Limit at
      ∷ [])

  same_waived : (parallel : Bool) (p q : Option Param) (at : ℕ) → SameMaybe SameParam p q → waived_fault parallel p at ≡ waived_fault parallel q at
  same_waived parallel None None at is = refl
  same_waived parallel None (Some q) at is = absurd is
  same_waived parallel (Some p) None at is = absurd is
  same_waived parallel (Some p) (Some q) at is = λ i. waived_fault parallel (Some (record p { kind = is.kind i; access = is.access i })) at

  same_waive : (s : Source) (at : ℕ) → waive_fault s k at ≡ waive_fault s l at
  same_waive s at =
      ap (λ b. waived_fault b (param_in k.params.items (source.text_at s at)) at) same.parallel
      ∙ same_waived l.parallel (param_in k.params.items (source.text_at s at)) (param_in l.params.items (source.text_at s at)) at
      (same_param_in k.params.items l.params.items same.params (source.text_at s at))

same_args : (s : Source) (names : List Name) (sizes : RawSizes) (ps qs : List Param) (args : List RawArg) → Pairwise SameParam ps qs
    → args_faults s names sizes ps args ≡ args_faults s names sizes qs args
same_args s names sizes [] [] args same = refl
same_args s names sizes [] (q ∷ qs) args same = absurd same
same_args s names sizes (p ∷ ps) [] args same = absurd same
same_args s names sizes (p ∷ ps) (q ∷ qs) [] same = refl
same_args s names sizes (p ∷ ps) (q ∷ qs) (a ∷ args) same = λ i. arg_fault s names sizes (same.0.kind i) a ∷ same_args s names sizes ps qs args same.1 i

same_scheduled : (s : Source) (names : List Name) (k l : Option CheckedKernel) (at : ℕ) (args : List RawArg) (sizes : RawSizes) (waive after : List ℕ)
    → SameMaybe SameKernel k l →
    scheduled_faults s names k at args sizes waive after ≡ scheduled_faults s names l at args sizes waive after
same_scheduled s names None None at args sizes waive after same = refl
same_scheduled s names None (Some l) at args sizes waive after same = absurd same
same_scheduled s names (Some k) None at args sizes waive after same = absurd same
same_scheduled s names (Some k) (Some l) at args sizes waive after same = λ i.
    same_kernel_fault k l same at args sizes i
    ∷ same_args s names sizes k.params.items l.params.items args same.params i
    ++ (sizes_faults s names sizes ++ (map (λ at. same_waive k l same s at i) waive ++ handles_faults s names after))

-- SCOPES

-- two scopes with the same names, in which the kernels are the same
pub record SameScope (c d : Scope) : Type 0 where
  pub others : record c { kernels = d.kernels } ≡ d
  pub kernels : Pairwise SameKernel c.kernels d.kernels

-- kernels matter to a schedule alone
by_kernels : (s : Source) (c : Scope) (ls : List CheckedKernel) → Pairwise SameKernel c.kernels ls → (at : ℕ) (form : OrderForm)
    → order_faults s c at form ≡ order_faults s (record c { kernels = ls }) at form
by_kernels s c ls same at (Schedule auto handle kernel args sizes waive after) =
    ap (λ more. make_fault s c.names kind.Handle handle ∷ more)
    (same_scheduled s c.names (kernel_in c.kernels (source.text_at s kernel)) (kernel_in ls (source.text_at s kernel)) kernel args sizes waive after
    (same_kernel_in c.kernels ls same (source.text_at s kernel)))
by_kernels s c ls same at _ = refl

pub same_order_faults : (s : Source) (c d : Scope) → SameScope c d → (at : ℕ) (form : OrderForm) → order_faults s c at form ≡ order_faults s d at form
same_order_faults s c d same at form = by_kernels s c d.kernels same.kernels at form ∙ ap (λ e. order_faults s e at form) same.others

pub same_first_fault : (raw : RawKernel) (ks ls : List CheckedKernel) → Pairwise SameKernel ks ls → first_fault raw ks ≡ first_fault raw ls
same_first_fault raw ks ls same =
    let text = text_at raw raw.name in
    let among = same_any SameKernel (λ k. bytes_eq (string_bytes k.name) text) (λ k. bytes_eq (string_bytes k.name) text)
    (λ k l is. ap (λ n. bytes_eq n text) is.name) ks ls same in
    let size = same_length SameKernel ks ls same in
    λ i. option_or (fault_at raw.name (lowest (some_if (among i) DuplicateName) (lowest (some_if (nat_le MOST_KERNELS (size i)) Limit) (length_fault text))))
    (option_or (params_fault raw 0 raw.params.items) (nodes_fault raw 0 raw.nodes.items))
