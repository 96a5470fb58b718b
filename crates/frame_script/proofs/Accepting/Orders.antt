-- A statement without a fault and without a block fits, and isn't a `when`.
use Rattle.std.proofs.Common.{◌≡◌, ℕ, ◌≤◌, true, false, ℤ, List, length, Option, None, Some, refl, sym, ap, subst}
use Rattle.frame_grammar.specs.declared.symbols.Event.{Event}
use Rattle.frame_ast.specs.declared.kernel.Kernel.{Kernel}
use Rattle.frame_ast.specs.declared.script.Order.{Order}
use Rattle.frame_ast.specs.Accepted.{is_when}
use Rattle.frame_ast.specs.Lists.{first_some}
use Rattle.script_text.specs.declared.source.Source.{Source}
use Rattle.script_names.specs.Names.{Name}
use Rattle.script_text.specs.Raw.{OrderForm, NewArray, NewColumn, NewList, NewReference, NewMap, NewStream, Slice, View, Copy, Set, Add, Put, Remove, Clear, SetCapacity, Schedule, Combine, Complete, Dispose, DisposeAuto, Print, Flush, Frame, Repeat, When}
use Rattle.script_text.specs.Events.{SpellsOrder, closing}
use Rattle.script_checks.specs.Faults.{Scope, order_faults}
use Rattle.frame_script.specs.Files.{literals_of}
use Rattle.script_checks.specs.Spelling.{Says, names_after}
use Rattle.frame_script.proofs.Accepting.Names.{Leads}
use Rattle.frame_script.proofs.Accepting.Fits.{Fits, Stands}
use Rattle.frame_script.proofs.Accepting.Makes.{array_fits, column_fits, list_fits, reference_fits, map_fits, stream_fits, slice_fits, view_fits, copy_fits}
use Rattle.frame_script.proofs.Accepting.Uses.{set_fits, add_fits, put_fits, remove_fits, clear_fits, capacity_fits, combine_fits, complete_fits, dispose_fits, auto_fits, print_fits}
use Rattle.frame_script.proofs.Accepting.Schedules.{schedule_fitting}

module _ (s : Source) (c : Scope) (all : List Name) (made : ℕ) (literals : List (List ℤ)) (kernels : List Kernel) (rest inside at place : ℕ)
    (enough : length c.names ≤ made) where
  -- a statement of this form that says this order
  abbrev IsFitting : OrderForm → Type 0
  IsFitting form = (o : Order) → Leads (names_after s c.names form) all → Leads c.kernels kernels → Stands literals place (literals_of s form) →
      first_some (order_faults s c at form) ≡ None → Says s all kernels place 0 form o
      → Fits all made literals kernels rest inside (names_after s c.names form) o

  fits_as : (form : OrderForm) (o said : Order) → o ≡ said → Fits all made literals kernels rest inside (names_after s c.names form) said →
      Fits all made literals kernels rest inside (names_after s c.names form) o
  fits_as form o said is fits = subst (λ x. Fits all made literals kernels rest inside (names_after s c.names form) x) (sym is) fits

  pub order_fitting : {es : List Event} (form : OrderForm) → SpellsOrder es form → closing form ≡ None → IsFitting form
  order_fitting (NewArray name len life None) spells single o leads earlier stands h says =
      fits_as (NewArray name len life None) o _ says (array_fits s c all made literals kernels rest inside at enough place name len life None leads stands h)
  order_fitting (NewArray name len life (Some values)) spells single o leads earlier stands h says =
      fits_as (NewArray name len life (Some values)) o _ says (array_fits s c all made literals kernels rest inside at enough place name len life
      (Some values) leads stands h)
  order_fitting (NewColumn name column life) spells single o leads earlier stands h says =
      fits_as (NewColumn name column life) o _ says.2 (column_fits s c all made literals kernels rest inside at enough name column life says.0 leads h says.1)
  order_fitting (NewList name cap life) spells single o leads earlier stands h says =
      fits_as (NewList name cap life) o _ says (list_fits s c all made literals kernels rest inside at enough name cap life leads h)
  order_fitting (NewReference name life value) spells single o leads earlier stands h says =
      fits_as (NewReference name life value) o _ says (reference_fits s c all made literals kernels rest inside at enough name life value leads h)
  order_fitting (NewMap name cap life) spells single o leads earlier stands h says =
      fits_as (NewMap name cap life) o _ says (map_fits s c all made literals kernels rest inside at enough name cap life leads h)
  order_fitting (NewStream name count room life) spells single o leads earlier stands h says =
      fits_as (NewStream name count room life) o _ says (stream_fits s c all made literals kernels rest inside at enough name count room life leads h)
  order_fitting (Slice name of start len) spells single o leads earlier stands h says =
      fits_as (Slice name of start len) o _ says (slice_fits s c all made literals kernels rest inside at enough name of start len leads h)
  order_fitting (View name of) spells single o leads earlier stands h says =
      fits_as (View name of) o _ says (view_fits s c all made literals kernels rest inside at enough name of leads h)
  order_fitting (Copy name of) spells single o leads earlier stands h says =
      fits_as (Copy name of) o _ says (copy_fits s c all made literals kernels rest inside at enough name of leads h)
  order_fitting (Set name index value) spells single o leads earlier stands h says =
      fits_as (Set name index value) o _ says (set_fits s c all made literals kernels rest inside at enough name index value leads h)
  order_fitting (Add name one two) spells single o leads earlier stands h says =
      fits_as (Add name one two) o _ says (add_fits s c all made literals kernels rest inside at enough name one two leads h)
  order_fitting (Put name key value) spells single o leads earlier stands h says =
      fits_as (Put name key value) o _ says (put_fits s c all made literals kernels rest inside at enough name key value leads h)
  order_fitting (Remove name index) spells single o leads earlier stands h says =
      fits_as (Remove name index) o _ says (remove_fits s c all made literals kernels rest inside at enough name index leads h)
  order_fitting (Clear name) spells single o leads earlier stands h says =
      fits_as (Clear name) o _ says (clear_fits s c all made literals kernels rest inside at enough name leads h)
  order_fitting (SetCapacity name cap) spells single o leads earlier stands h says =
      fits_as (SetCapacity name cap) o _ says (capacity_fits s c all made literals kernels rest inside at enough name cap leads h)
  order_fitting (Schedule auto handle kernel args cut waive after) spells single o leads earlier stands h says =
      fits_as (Schedule auto handle kernel args cut waive after) o _ says.2
      (schedule_fitting s c all made literals kernels rest inside at enough auto handle kernel args cut waive after says.0 leads earlier h says.1)
  order_fitting (Combine name of) spells single o leads earlier stands h says =
      fits_as (Combine name of) o _ says.2 (combine_fits s c all made literals kernels rest inside at enough name of says.0 leads h says.1)
  order_fitting (Complete auto name) spells single o leads earlier stands h says =
      fits_as (Complete auto name) o _ says (complete_fits s c all made literals kernels rest inside at enough auto name leads h)
  order_fitting (Dispose name after handle) spells single o leads earlier stands h says =
      fits_as (Dispose name after handle) o _ says.2 (dispose_fits s c all made literals kernels rest inside at enough name after handle says.0 spells leads h
      says.1)
  order_fitting (DisposeAuto name handle) spells single o leads earlier stands h says =
      fits_as (DisposeAuto name handle) o _ says (auto_fits s c all made literals kernels rest inside at enough name handle leads h)
  order_fitting (Print name) spells single o leads earlier stands h says =
      fits_as (Print name) o _ says (print_fits s c all made literals kernels rest inside at enough name leads h)
  order_fitting Flush spells single o leads earlier stands h says = fits_as Flush o _ says (refl, enough)
  order_fitting Frame spells single o leads earlier stands h says = fits_as Frame o _ says (refl, enough)
  order_fitting (Repeat n) spells single o leads earlier stands h says = absurd says
  order_fitting (When name sign value) spells single o leads earlier stands h says = absurd (some_end single)
    where
      some_end : {A : Type 0} {x : A} → ◌≡◌ {A = Option A} (Some x) None → ⊥
      some_end e = cc

-- a statement without a block isn't a `when`
pub not_when : (s : Source) (all : List Name) (kernels : List Kernel) (place count : ℕ) (form : OrderForm) (o : Order) → closing form ≡ None
    → Says s all kernels place count form o → is_when o ≡ false
not_when s all kernels place count (NewArray name len life values) o single says = ap is_when says
not_when s all kernels place count (NewColumn name column life) o single says = ap is_when says.2
not_when s all kernels place count (NewList name cap life) o single says = ap is_when says
not_when s all kernels place count (NewReference name life value) o single says = ap is_when says
not_when s all kernels place count (NewMap name cap life) o single says = ap is_when says
not_when s all kernels place count (NewStream name indexes room life) o single says = ap is_when says
not_when s all kernels place count (Slice name of start len) o single says = ap is_when says
not_when s all kernels place count (View name of) o single says = ap is_when says
not_when s all kernels place count (Copy name of) o single says = ap is_when says
not_when s all kernels place count (Set name index value) o single says = ap is_when says
not_when s all kernels place count (Add name one two) o single says = ap is_when says
not_when s all kernels place count (Put name key value) o single says = ap is_when says
not_when s all kernels place count (Remove name index) o single says = ap is_when says
not_when s all kernels place count (Clear name) o single says = ap is_when says
not_when s all kernels place count (SetCapacity name cap) o single says = ap is_when says
not_when s all kernels place count (Schedule auto handle kernel args cut waive after) o single says = ap is_when says.2
not_when s all kernels place count (Combine name of) o single says = ap is_when says.2
not_when s all kernels place count (Complete true name) o single says = ap is_when says
not_when s all kernels place count (Complete false name) o single says = ap is_when says
not_when s all kernels place count (Dispose name after handle) o single says = ap is_when says.2
not_when s all kernels place count (DisposeAuto name handle) o single says = ap is_when says
not_when s all kernels place count (Print name) o single says = ap is_when says
not_when s all kernels place count Flush o single says = ap is_when says
not_when s all kernels place count Frame o single says = ap is_when says
not_when s all kernels place count (Repeat n) o single says = absurd says
not_when s all kernels place count (When name sign value) o single says = cc
