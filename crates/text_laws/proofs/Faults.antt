-- Items have no fault or one first fault, and never both.
use Rattle.std.proofs.Common.{◌≡◌, List, [], ◌∷◌, ◌++◌, Option, sym, ap, ◌∙◌}
use Rattle.frame_ast.specs.declared.kernel.Kernel.{Kernel as CheckedKernel}
use Rattle.frame_grammar.specs.declared.symbols.Event.{Event}
use Rattle.frame_ast.specs.Lists.{first_some}
use Rattle.kernel_raw.specs.declared.raw.RawKernel.{RawKernel}
use Rattle.kernel_raw.specs.declared.fault.StaticFault.{StaticFault}
use Rattle.kernel_code.specs.StaticFaults.{first_fault}
use Rattle.script_text.specs.declared.source.Source.{Source}
use Rattle.script_text.specs.Raw.{OrderForm, RawItems}
use Rattle.script_checks.specs.Faults.{Scope, order_faults}
use Rattle.frame_script.specs.Files.{IsRawOf, IsFaultless, HasFault, after_order, after_kernel, in_block, after_block}
use Rattle.frame_script.specs.Files as file
use Rattle.tree_laws.specs.Same.{SameKernel}
use Rattle.text_laws.proofs.Raws.{same_fault}
use Rattle.text_laws.proofs.RawKernels.{same_parts}
use Rattle.text_laws.proofs.Kernels.{kernel_once}
use Rattle.text_laws.proofs.Scopes.{SameScope, same_append, same_order_faults, same_first_fault}

-- scopes stay the same

after_orders : (s : Source) (c d : Scope) → SameScope c d → (form : OrderForm) → SameScope (after_order s c form) (after_order s d form)
after_orders s c d same form = record { others = ap (λ e. after_order s e form) same.others; kernels = same.kernels }

after_kernels : (c d : Scope) → SameScope c d → (k l : CheckedKernel) → SameKernel k l → SameScope (after_kernel c k) (after_kernel d l)
after_kernels c d same k l is = record {
  others = λ i. record (same.others i) { kernels = d.kernels ++ l ∷ [] };
  kernels = same_append SameKernel c.kernels d.kernels (k ∷ []) (l ∷ []) same.kernels (is, tt);
}

in_blocks : (c d : Scope) → SameScope c d → (head : OrderForm) → SameScope (in_block c head) (in_block d head)
in_blocks c d same head = record { others = ap (λ e. in_block e head) same.others; kernels = same.kernels }

after_blocks : (c d inner inner' : Scope) → SameScope c d → SameScope inner inner' → SameScope (after_block c inner) (after_block d inner')
after_blocks c d inner inner' same within = record { others = λ i. after_block (same.others i) (within.others i); kernels = same.kernels }

module _ (s : Source) where
  -- the first fault of a statement, and of a kernel, in either of two scopes
  at_order : (c d : Scope) → SameScope c d → (at : _) (form : OrderForm) (a b : Option StaticFault) → first_some (order_faults s c at form) ≡ a
      → first_some (order_faults s d at form) ≡ b → a ≡ b
  at_order c d same at form a b x y = sym x ∙ ap first_some (same_order_faults s c d same at form) ∙ y

  at_kernel : (c d : Scope) → SameScope c d → (events : List Event) (r t : RawKernel) → IsRawOf s events r → IsRawOf s events t → (a b : Option StaticFault) →
      first_fault r c.kernels ≡ a → first_fault t d.kernels ≡ b → a ≡ b
  at_kernel c d same events r t is is' a b x y =
      sym x ∙ same_first_fault r c.kernels d.kernels same.kernels ∙ same_fault r t (same_parts s events r t is is') d.kernels ∙ y

  pub ends_once : {c d end end' : Scope} {items : RawItems} → SameScope c d → IsFaultless s c items end → IsFaultless s d items end' → SameScope end end'
  ends_once same file.nothing file.nothing = same
  ends_once same (file.kernel {c = c} {events = events} r k is none kernel more) (file.kernel {c = d} t l is' none' kernel' more') =
      ends_once (after_kernels c d same k l (kernel_once s events r t k l is is' kernel kernel')) more more'
  ends_once same (file.single {c = c} {order = order} none more) (file.single {c = d} none' more') = ends_once (after_orders s c d same order) more more'
  ends_once same (file.block {c = c} {head = head} last none inner more) (file.block {c = d} last' none' inner' more') =
      ends_once (after_blocks c d last last' same (ends_once (in_blocks c d same head) inner inner')) more more'

  pub never_both : {c d end : Scope} {items : RawItems} {fault : StaticFault} → SameScope c d → IsFaultless s c items end → HasFault s fault d items → ⊥
  never_both same file.nothing faulty = elim faulty [ ]
  never_both same (file.kernel {c = c} {events = events} r k is none kernel more) (file.in_kernel {c = d} t is' some) =
      let e = at_kernel c d same events r t is is' _ _ none some in absurd cc
  never_both same (file.kernel {c = c} {events = events} r k is none kernel more) (file.behind_kernel {c = d} t l is' none' kernel' more') =
      never_both (after_kernels c d same k l (kernel_once s events r t k l is is' kernel kernel')) more more'
  never_both same (file.single {c = c} {at = at} {order = order} none more) (file.in_single {c = d} some) =
      let e = at_order c d same at order _ _ none some in absurd cc
  never_both same (file.single {c = c} {order = order} none more) (file.behind_single {c = d} none' more') =
      never_both (after_orders s c d same order) more more'
  never_both same (file.block {c = c} {at = at} {head = head} last none inner more) (file.in_head {c = d} some) =
      let e = at_order c d same at head _ _ none some in absurd cc
  never_both same (file.block {c = c} {head = head} last none inner more) (file.in_inner {c = d} none' inner') =
      never_both (in_blocks c d same head) inner inner'
  never_both same (file.block {c = c} {head = head} last none inner more) (file.behind_block {c = d} last' none' inner' more') =
      never_both (after_blocks c d last last' same (ends_once (in_blocks c d same head) inner inner')) more more'

  -- the other way about
  never_then : {fault : StaticFault} {c d end : Scope} {items : RawItems} → SameScope c d → HasFault s fault c items → IsFaultless s d items end → ⊥
  never_then same (file.in_kernel {c = c} {events = events} r is some) (file.kernel {c = d} t l is' none kernel' more') =
      let e = at_kernel c d same events r t is is' _ _ some none in absurd cc
  never_then same (file.behind_kernel {c = c} {events = events} r k is none kernel more) (file.kernel {c = d} t l is' none' kernel' more') =
      never_then (after_kernels c d same k l (kernel_once s events r t k l is is' kernel kernel')) more more'
  never_then same (file.in_single {c = c} {at = at} {order = order} some) (file.single {c = d} none more) =
      let e = at_order c d same at order _ _ some none in absurd cc
  never_then same (file.behind_single {c = c} {order = order} none more) (file.single {c = d} none' more') =
      never_then (after_orders s c d same order) more more'
  never_then same (file.in_head {c = c} {at = at} {head = head} some) (file.block {c = d} last none inner more) =
      let e = at_order c d same at head _ _ some none in absurd cc
  never_then same (file.in_inner {c = c} {head = head} none inner) (file.block {c = d} last none' inner' more) =
      never_then (in_blocks c d same head) inner inner'
  never_then same (file.behind_block {c = c} {head = head} last none inner more) (file.block {c = d} last' none' inner' more') =
      never_then (after_blocks c d last last' same (ends_once (in_blocks c d same head) inner inner')) more more'

  pub fault_once : {f g : StaticFault} {c d : Scope} {items : RawItems} → SameScope c d → HasFault s f c items → HasFault s g d items → f ≡ g
  fault_once same (file.in_kernel {c = c} {events = events} r is some) (file.in_kernel {c = d} t is' some') =
      let e = at_kernel c d same events r t is is' _ _ some some' in cc
  fault_once same (file.in_kernel {c = c} {events = events} r is some) (file.behind_kernel {c = d} t l is' none kernel more) =
      let e = at_kernel c d same events r t is is' _ _ some none in absurd cc
  fault_once same (file.behind_kernel {c = c} {events = events} r k is none kernel more) (file.in_kernel {c = d} t is' some) =
      let e = at_kernel c d same events r t is is' _ _ none some in absurd cc
  fault_once same (file.behind_kernel {c = c} {events = events} r k is none kernel more) (file.behind_kernel {c = d} t l is' none' kernel' more') =
      fault_once (after_kernels c d same k l (kernel_once s events r t k l is is' kernel kernel')) more more'
  fault_once same (file.in_single {c = c} {at = at} {order = order} some) (file.in_single {c = d} some') =
      let e = at_order c d same at order _ _ some some' in cc
  fault_once same (file.in_single {c = c} {at = at} {order = order} some) (file.behind_single {c = d} none more) =
      let e = at_order c d same at order _ _ some none in absurd cc
  fault_once same (file.behind_single {c = c} {at = at} {order = order} none more) (file.in_single {c = d} some) =
      let e = at_order c d same at order _ _ none some in absurd cc
  fault_once same (file.behind_single {c = c} {order = order} none more) (file.behind_single {c = d} none' more') =
      fault_once (after_orders s c d same order) more more'
  fault_once same (file.in_head {c = c} {at = at} {head = head} some) (file.in_head {c = d} some') =
      let e = at_order c d same at head _ _ some some' in cc
  fault_once same (file.in_head {c = c} {at = at} {head = head} some) (file.in_inner {c = d} none inner) =
      let e = at_order c d same at head _ _ some none in absurd cc
  fault_once same (file.in_head {c = c} {at = at} {head = head} some) (file.behind_block {c = d} last none inner more) =
      let e = at_order c d same at head _ _ some none in absurd cc
  fault_once same (file.in_inner {c = c} {at = at} {head = head} none inner) (file.in_head {c = d} some) =
      let e = at_order c d same at head _ _ none some in absurd cc
  fault_once same (file.in_inner {c = c} {head = head} none inner) (file.in_inner {c = d} none' inner') = fault_once (in_blocks c d same head) inner inner'
  fault_once same (file.in_inner {c = c} {head = head} none inner) (file.behind_block {c = d} last none' inner' more') =
      absurd (never_then (in_blocks c d same head) inner inner')
  fault_once same (file.behind_block {c = c} {at = at} {head = head} last none inner more) (file.in_head {c = d} some) =
      let e = at_order c d same at head _ _ none some in absurd cc
  fault_once same (file.behind_block {c = c} {head = head} last none inner more) (file.in_inner {c = d} none' inner') =
      absurd (never_both (in_blocks c d same head) inner inner')
  fault_once same (file.behind_block {c = c} {head = head} last none inner more) (file.behind_block {c = d} last' none' inner' more') =
      fault_once (after_blocks c d last last' same (ends_once (in_blocks c d same head) inner inner')) more more'
