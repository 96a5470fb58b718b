-- What a statement says that has no list of values and no block.
use Rattle.std.proofs.Common.{◌≡◌, ℕ, ℤ, false, List, [], ◌++◌, Option, Some, None, Result, Ok, Err, IsTrue, refl, sym, ◌∙◌, ap}
use Rattle.std.proofs.lemmas.List.{append-nil}
use Rattle.kernel_raw.specs.declared.fault.StaticFault.{StaticFault}
use Rattle.script_checks.specs.declared.fault.OrderFault.{OrderFault}
use Rattle.frame_ast.specs.declared.kernel.Kernel.{Kernel}
use Rattle.frame_ast.specs.declared.script.Order.{Order}
use Rattle.frame_ast.specs.Accepted.{is_when}
use Rattle.script_text.specs.declared.source.Source.{Source}
use Rattle.script_text.specs.declared.raw.RawOrder.{RawOrder}
use Rattle.script_text.specs.declared.raw.RawOrder.TheVariants as raw
use Rattle.script_text.specs.Raw.{OrderForm, NewArray, NewColumn, NewList, NewReference, NewMap, NewStream, Slice, View, Copy, Set, Add, Put, Remove, Clear, SetCapacity, Schedule, Combine, Complete, Dispose, DisposeAuto, Print, Flush, Frame, Repeat, When, form_of}
use Rattle.script_text.specs.declared.known_orders.KnownOrder.{KnownOrder}
use Rattle.script_text.specs.declared.known_orders.KnownOrder.TheVariants as known
use Rattle.script_text.specs.Known.{known_form}
use Rattle.script_text.specs.Events.{closing}
use Rattle.script_checks.specs.Faults.{Scope, order_faults}
use Rattle.script_names.specs.Names.{Name}
use Rattle.script_checks.specs.Spelling.{Says}
use Rattle.frame_script.specs.declared.walk.Walk.{Walk}
use Rattle.frame_script.specs.Files.{literals_of}
use Rattle.frame_script.specs.Walking.{TakesSingle, Takes}
use Rattle.script_checks.specs.Checks.{Gives, is_plain, among, bare}

-- it says the same behind other lists of values
pub said_behind : (s : Source) (names : List Name) (kernels : List Kernel) (literals : ℕ) (x : RawOrder) (o : Order) → IsTrue (is_plain x) →
    Says s names kernels 0 0 (form_of x) o → Says s names kernels literals 0 (form_of x) o
said_behind s names kernels literals (raw.Array name len life (Some values)) o plain says = absurd cc
said_behind s names kernels literals (raw.Array name len life None) o plain says = says
said_behind s names kernels literals (raw.Repeat count) o plain says = absurd cc
said_behind s names kernels literals (raw.When name sign value) o plain says = absurd cc
said_behind s names kernels literals _ o plain says = says

pub no_list : (s : Source) (x : RawOrder) → IsTrue (is_plain x) → [] ≡ literals_of s (form_of x)
no_list s (raw.Array name len life (Some values)) plain = absurd cc
no_list s (raw.Array name len life None) plain = refl
no_list s (raw.Repeat count) plain = absurd cc
no_list s (raw.When name sign value) plain = absurd cc
no_list s _ plain = refl

-- what is checked alone is said behind any lists, and adds none
pub said_alone : (s : Source) (names : List Name) (kernels : List Kernel) (literals : ℕ) (x : RawOrder) (lists : List (List ℤ)) (fault : Option StaticFault)
    (r : Result Order OrderFault) →
    IsTrue (is_plain x) → Gives fault (Says s names kernels 0 0 (form_of x)) r →
    Gives fault (λ o. Says s names kernels literals 0 (form_of x) o × (lists ≡ lists ++ literals_of s (form_of x))) r
said_alone s names kernels literals x lists fault (Ok o) plain h =
    (h.0, (said_behind s names kernels literals x o plain h.1, sym (append-nil lists) ∙ ap (λ y. lists ++ y) (no_list s x plain)))
said_alone s names kernels literals x lists fault (Err e) plain h = h

-- it has the same faults at whatever token it begins and in whatever block it stands
pub plain_faults : (s : Source) (c : Scope) (at : ℕ) (x : OrderForm) → closing x ≡ None → order_faults s (among c.names c.kernels) 0 x ≡ order_faults s c at x
plain_faults s c at (NewArray name len life values) h = refl
plain_faults s c at (NewColumn name column life) h = refl
plain_faults s c at (NewList name n life) h = refl
plain_faults s c at (NewReference name life value) h = refl
plain_faults s c at (NewMap name n life) h = refl
plain_faults s c at (NewStream name count room life) h = refl
plain_faults s c at (Slice name of start len) h = refl
plain_faults s c at (View name of) h = refl
plain_faults s c at (Copy name of) h = refl
plain_faults s c at (Set name index value) h = refl
plain_faults s c at (Add name one two) h = refl
plain_faults s c at (Put name key value) h = refl
plain_faults s c at (Remove name index) h = refl
plain_faults s c at (Clear name) h = refl
plain_faults s c at (SetCapacity name n) h = refl
plain_faults s c at (Schedule auto handle kernel args cut waive after) h = refl
plain_faults s c at (Combine name of) h = refl
plain_faults s c at (Complete auto name) h = refl
plain_faults s c at (Dispose name after handle) h = refl
plain_faults s c at (DisposeAuto name handle) h = refl
plain_faults s c at (Print name) h = refl
plain_faults s c at Flush h = refl
plain_faults s c at Frame h = refl
plain_faults s c at (Repeat n) h = absurd cc
plain_faults s c at (When name test value) h = absurd cc

-- STATEMENTS THAT ARE KNOWN

-- they have the same faults at whatever token, in whatever block and among whatever kernels
pub known_faults : (s : Source) (c : Scope) (at : ℕ) (o : KnownOrder) → order_faults s (bare c.names) 0 (known_form o) ≡ order_faults s c at (known_form o)
known_faults s c at (known.Array a b) = refl
known_faults s c at (known.List a b) = refl
known_faults s c at (known.Reference a b) = refl
known_faults s c at (known.Map a b) = refl
known_faults s c at (known.Slice a b d e) = refl
known_faults s c at (known.View a b) = refl
known_faults s c at (known.Set a b d) = refl
known_faults s c at (known.Add a b) = refl
known_faults s c at (known.Put a b d) = refl
known_faults s c at (known.Remove a b) = refl
known_faults s c at (known.Dispose a) = refl
known_faults s c at (known.Print a) = refl
known_faults s c at known.Flush = refl

-- they say the same among whatever kernels, and behind whatever lists of values
pub known_said : (s : Source) (names : List Name) (kernels : List Kernel) (literals : ℕ) (o : KnownOrder) (x : Order) →
    Says s names [] 0 0 (known_form o) x → Says s names kernels literals 0 (known_form o) x
known_said s names kernels literals (known.Array a b) x says = says
known_said s names kernels literals (known.List a b) x says = says
known_said s names kernels literals (known.Reference a b) x says = says
known_said s names kernels literals (known.Map a b) x says = says
known_said s names kernels literals (known.Slice a b d e) x says = says
known_said s names kernels literals (known.View a b) x says = says
known_said s names kernels literals (known.Set a b d) x says = says
known_said s names kernels literals (known.Add a b) x says = says
known_said s names kernels literals (known.Put a b d) x says = says
known_said s names kernels literals (known.Remove a b) x says = says
known_said s names kernels literals (known.Dispose a) x says = says
known_said s names kernels literals (known.Print a) x says = says
known_said s names kernels literals known.Flush x says = says

-- none of them is a `when`
pub known_plain : (s : Source) (names : List Name) (o : KnownOrder) (x : Order) → Says s names [] 0 0 (known_form o) x → is_when x ≡ false
known_plain s names (known.Array a b) x says = ap is_when says
known_plain s names (known.List a b) x says = ap is_when says
known_plain s names (known.Reference a b) x says = ap is_when says
known_plain s names (known.Map a b) x says = ap is_when says
known_plain s names (known.Slice a b d e) x says = ap is_when says
known_plain s names (known.View a b) x says = ap is_when says
known_plain s names (known.Set a b d) x says = ap is_when says
known_plain s names (known.Add a b) x says = ap is_when says
known_plain s names (known.Put a b d) x says = ap is_when says
known_plain s names (known.Remove a b) x says = ap is_when says
known_plain s names (known.Dispose a) x (handles, same, says) = ap is_when says
known_plain s names (known.Print a) x says = ap is_when says
known_plain s names known.Flush x says = ap is_when says

pub known_no_list : (s : Source) (o : KnownOrder) → [] ≡ literals_of s (known_form o)
known_no_list s (known.Array a b) = refl
known_no_list s (known.List a b) = refl
known_no_list s (known.Reference a b) = refl
known_no_list s (known.Map a b) = refl
known_no_list s (known.Slice a b d e) = refl
known_no_list s (known.View a b) = refl
known_no_list s (known.Set a b d) = refl
known_no_list s (known.Add a b) = refl
known_no_list s (known.Put a b d) = refl
known_no_list s (known.Remove a b) = refl
known_no_list s (known.Dispose a) = refl
known_no_list s (known.Print a) = refl
known_no_list s known.Flush = refl

-- they have no block
pub known_takes : (s : Source) (at : ℕ) (o : KnownOrder) (old new : Walk) → TakesSingle s at (known_form o) old new → Takes s at (known_form o) old new
known_takes s at (known.Array a b) old new takes = takes
known_takes s at (known.List a b) old new takes = takes
known_takes s at (known.Reference a b) old new takes = takes
known_takes s at (known.Map a b) old new takes = takes
known_takes s at (known.Slice a b d e) old new takes = takes
known_takes s at (known.View a b) old new takes = takes
known_takes s at (known.Set a b d) old new takes = takes
known_takes s at (known.Add a b) old new takes = takes
known_takes s at (known.Put a b d) old new takes = takes
known_takes s at (known.Remove a b) old new takes = takes
known_takes s at (known.Dispose a) old new takes = takes
known_takes s at (known.Print a) old new takes = takes
known_takes s at known.Flush old new takes = takes
