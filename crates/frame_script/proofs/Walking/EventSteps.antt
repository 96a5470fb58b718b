-- A walk over the events of a file takes one item after another.
use Rattle.std.proofs.Common.{◌≡◌, ℕ, ◌-◌, ◌<◌, ◌⊎◌, inl, inr, Bool, false, List, [], ◌∷◌, length, take, drop, Some, None, Result, Err, IsErrAnd, refl, sym, subst}
use Rattle.std.proofs.lemmas.List.{length-map}
use Rattle.frame_ast.specs.declared.kernel.FaultKind.{FaultKind}
use Rattle.frame_ast.specs.declared.kernel.Kernel.{Kernel as CheckedKernel}
use Rattle.frame_grammar.specs.declared.symbols.Action.{Action}
use Rattle.frame_grammar.specs.declared.symbols.Event.{Event}
use Rattle.kernel_raw.specs.declared.fault.StaticFault.{StaticFault}
use Rattle.kernel_raw.specs.RawEvents.{IsKernel}
use Rattle.kernel_text.specs.Tokens.{kinds, NamesAreText}
use Rattle.frame_ast.specs.Lists.{first_some}
use Rattle.script_checks.specs.declared.fault.OrderFault.{OrderFault}
use Rattle.script_checks.specs.declared.fault.OrderFault.TheVariants.{Refused, NoMemory}
use Rattle.script_text.specs.declared.source.Source.{Source}
use Rattle.frame_script.specs.declared.walk.Walk.{Walk}
use Rattle.script_text.specs.Raw.{OrderForm, Repeat, When, RawItems, Nothing, Kernel, Single, Block, KernelForm}
use Rattle.script_text.specs.Events.{closing, SpellsItems, kernel}
use Rattle.script_text.specs.Items.{SpellsOpen, outside, inside, LeadsKernel, LeadsSingle, LeadsBlock, LeadsOut}
use Rattle.script_text.specs.Places.{OrderStands}
use Rattle.script_text.specs.Sources.{file_tokens}
use Rattle.script_checks.specs.Faults.{order_faults}
use Rattle.script_checks.specs.Checks.{Refuses}
use Rattle.frame_script.specs.Files.{HasFault, at_start, in_kernel, in_single, in_head}
use Rattle.frame_script.specs.Walking.{AddsKernel, RefusesKernel, Tells, scope_of, LeftStand, IsAt, TakesSingle, Takes, Leaves, IsWalking, RefusesItems}
use Rattle.frame_script.proofs.Writing.Items.{open_inside}
use Rattle.frame_script.proofs.Walking.FaultsLeft.{fault_here}
use Rattle.frame_script.proofs.Walking.ItemSteps.{past_a_single, past_a_kernel, into_a_repeat, into_a_when, out_of_a_block}

-- KERNELS

-- a kernel stands outside blocks
kernel_outside : {events es : List Event} {form : KernelForm} {more : RawItems} {around left : List RawItems} → SpellsOpen events left
    → left ≡ Kernel es form more ∷ around → around ≡ []
kernel_outside (outside s) e = cc
kernel_outside {es = es} {form} {more} (inside {items = items} end q head is rest closes s around e') e =
    let first : items ≡ Kernel es form more = cc in
    absurd (none_inside (subst (SpellsItems false is) first s)) where
      none_inside : {events es : List Event} {form : KernelForm} {more : RawItems} → SpellsItems false events (Kernel es form more) → ⊥
      none_inside s = by s refl where
        by : {o : Bool} {events es : List Event} {form : KernelForm} {more : RawItems} → SpellsItems o events (Kernel es form more) → o ≡ false → ⊥
        by (kernel rest k more e) h = cc

-- only one list of items is left
alone : (s : Source) (events : List Event) (at next : ℕ) (w : Walk) (g : IsWalking s events at w) (k : LeadsKernel events at next g.left)
    → IsAt s g.whole w (Kernel k.events k.form k.more ∷ [])
alone s events at next w g k =
    subst (λ r. IsAt s g.whole w (Kernel k.events k.form k.more ∷ r)) (kernel_outside g.opens k.items_are) (subst (IsAt s g.whole w) k.items_are g.is)

-- the places of a kernel are among the tokens
pub kernel_stands : (s : Source) (events : List Event) (at next : ℕ) (w : Walk) (g : IsWalking s events at w) (k : LeadsKernel events at next g.left) →
    IsKernel (take (next - at) (drop at events)) (length (file_tokens s))
kernel_stands s events at next w g k =
    subst (IsKernel (take (next - at) (drop at events))) (length-map (file_tokens s) (λ t. t.kind))
    (subst (λ es. IsKernel es (length (kinds (file_tokens s)))) (sym k.events_are) (alone s events at next w g k).stand.0.0)

-- the places of a statement are those of tokens of their kinds
pub order_stands : (s : Source) (events : List Event) (at first : ℕ) (form : OrderForm) (next : ℕ) (w : Walk) (g : IsWalking s events at w)
    → LeadsSingle events first form next g.left ⊎ LeadsBlock events first form next g.left → OrderStands (kinds (file_tokens s)) form
order_stands s events at first form next w g (inl one) = (subst (LeftStand (kinds (file_tokens s))) one.items_are g.is.stand).0.1
order_stands s events at first form next w g (inr block) = (subst (LeftStand (kinds (file_tokens s))) block.items_are g.is.stand).0.1

pub went_past_kernel : (s : Source) (events : List Event) (at next : ℕ) (w new : Walk) (kernels : List CheckedKernel) (g : IsWalking s events at w)
    (k : LeadsKernel events at next g.left) →
    AddsKernel s k.events w.kernels kernels → new ≡ record w { kernels = kernels } → IsWalking s events next new
went_past_kernel s events at next w new kernels g k adds new_is = record {
  whole = g.whole;
  spells = g.spells;
  left = k.more ∷ [];
  opens = subst (λ r. SpellsOpen (drop next events) (k.more ∷ r)) (kernel_outside g.opens k.items_are) k.left;
  is = past_a_kernel s g.whole k.more k.events k.form w new kernels adds new_is (alone s events at next w g k);
}

pub refused_in_kernel : (s : Source) (events : List Event) (at next : ℕ) (w : Walk) (line : ℕ) (kind : FaultKind) (g : IsWalking s events at w)
    (k : LeadsKernel events at next g.left) →
    RefusesKernel s k.events w.kernels line kind → RefusesItems s events line kind
refused_in_kernel s events at next w line kind g k r = record {
  whole = g.whole;
  spells = g.spells;
  fault = r.fault;
  has_fault = (alone s events at next w g k).faulty r.fault (fault_here s r.fault (scope_of w) _ (Kernel k.events k.form k.more) []
      (in_kernel r.raw r.is_raw r.has_fault));
  on_line = r.on_line;
  of_kind = r.of_kind;
}

-- STATEMENTS

taken_single : (s : Source) (at : ℕ) (form : OrderForm) (old new : Walk) → closing form ≡ None → Takes s at form old new → TakesSingle s at form old new
taken_single s at (Repeat n) old new no_block t = absurd cc
taken_single s at (When name test value) old new no_block t = absurd cc
taken_single s at _ old new no_block t = t

taken_block : (s : Source) (whole inner more : RawItems) (rest : List RawItems) (at : ℕ) (head : OrderForm) (end : Action) (old new : Walk)
    → closing head ≡ Some end → first_some (order_faults s (scope_of old) at head) ≡ None →
    Takes s at head old new → IsAt s whole old (Block at head inner more ∷ rest) → IsAt s whole new (inner ∷ more ∷ rest)
taken_block s whole inner more rest at (Repeat n) end old new closes none t is = into_a_repeat s whole inner more rest at n old new none t is
taken_block s whole inner more rest at (When name test value) end old new closes none t is =
    into_a_when s whole inner more rest at name test value old new none t is
taken_block s whole inner more rest at _ end old new closes none t is = absurd cc

pub went_past_order : (s : Source) (events : List Event) (at place : ℕ) (form : OrderForm) (next : ℕ) (w new : Walk) → NamesAreText s.bytes.now (file_tokens s)
    → (g : IsWalking s events at w) →
    LeadsSingle events place form next g.left ⊎ LeadsBlock events place form next g.left →
    first_some (order_faults s (scope_of w) place form) ≡ None → Takes s place form w new → IsWalking s events next new
went_past_order s events at place form next w new texts g (inl one) none t = record {
  whole = g.whole;
  spells = g.spells;
  left = one.more ∷ one.around;
  opens = one.left;
  is = past_a_single s g.whole one.more one.around place form w new texts one.no_block none
      (taken_single s place form w new one.no_block t) (subst (IsAt s g.whole w) one.items_are g.is);
}
went_past_order s events at place form next w new texts g (inr block) none t = record {
  whole = g.whole;
  spells = g.spells;
  left = block.inner ∷ block.more ∷ block.around;
  opens = block.left;
  is = taken_block s g.whole block.inner block.more block.around place form block.end w new block.closes none t
      (subst (IsAt s g.whole w) block.items_are g.is);
}

order_fault : (s : Source) (events : List Event) (at place : ℕ) (form : OrderForm) (next : ℕ) (w : Walk) (fault : StaticFault) (g : IsWalking s events at w) →
    LeadsSingle events place form next g.left ⊎ LeadsBlock events place form next g.left →
    first_some (order_faults s (scope_of w) place form) ≡ Some fault → HasFault s fault at_start g.whole
order_fault s events at place form next w fault g (inl one) found =
    let here : IsAt s g.whole w (Single place form one.more ∷ one.around) = subst (IsAt s g.whole w) one.items_are g.is in
    here.faulty fault (fault_here s fault (scope_of w) _ (Single place form one.more) one.around (in_single found))
order_fault s events at place form next w fault g (inr block) found =
    let here : IsAt s g.whole w (Block place form block.inner block.more ∷ block.around) = subst (IsAt s g.whole w) block.items_are g.is in
    here.faulty fault (fault_here s fault (scope_of w) _ (Block place form block.inner block.more) block.around (in_head found))

pub refused_in_order : (s : Source) (events : List Event) (at place : ℕ) (form : OrderForm) (next : ℕ) (w : Walk) (fault : OrderFault) (line : ℕ)
    (kind : FaultKind) (g : IsWalking s events at w) →
    LeadsSingle events place form next g.left ⊎ LeadsBlock events place form next g.left →
    Refuses (first_some (order_faults s (scope_of w) place form)) fault → Tells s fault line kind → RefusesItems s events line kind
refused_in_order s events at place form next w NoMemory line kind g leads refuses tells = absurd tells
refused_in_order s events at place form next w (Refused fault) line kind g leads refuses tells = record {
  whole = g.whole;
  spells = g.spells;
  fault = fault;
  has_fault = order_fault s events at place form next w fault g leads refuses;
  on_line = tells.0;
  of_kind = tells.1;
}

-- ENDS

ended : (s : Source) (events : List Event) (at next : ℕ) (w : Walk) (g : IsWalking s events at w) (o : LeadsOut events next g.left)
    → IsAt s g.whole w (Nothing ∷ o.around ∷ o.more)
ended s events at next w g o = subst (IsAt s g.whole w) o.items_are g.is

pub written_inside : (s : Source) (events : List Event) (at next : ℕ) (w : Walk) (g : IsWalking s events at w) → LeadsOut events next g.left
    → 0 < length w.written.blocks
written_inside s events at next w g o = open_inside ((ended s events at next w g o).written w.names w.kernels (λ text place h. h) (λ text k h. (h, refl)))

pub went_out : (s : Source) (events : List Event) (at next : ℕ) (w new : Walk) (g : IsWalking s events at w) → LeadsOut events next g.left → Leaves w new
    → IsWalking s events next new
went_out s events at next w new g o leaves = record {
  whole = g.whole;
  spells = g.spells;
  left = o.around ∷ o.more;
  opens = o.left;
  is = out_of_a_block s g.whole o.around o.more w new leaves (ended s events at next w g o);
}

-- EXITS

-- the error of an exit is that of the answer
pub exit_is : {A E : Type 0} (r : Result A E) (e d : E) → IsErrAnd r (λ x. x ≡ e) → r ≡ Err d → e ≡ d
exit_is r e d h is = sym (subst (λ x. IsErrAnd x (λ y. y ≡ e)) is h)
