-- What the check of a part of a statement answers: its first fault, or what it says.
use Rattle.std.specs.Prelude.{◌≡◌, ℕ, map, Bool, true, false, List, [], Option, Some, None, Result, MatchResult}
use Rattle.frame_parser.specs.Notes.{events_of}
use Rattle.kernel_raw.specs.declared.fault.StaticFault.{StaticFault}
use Rattle.frame_ast.specs.declared.name_kind.NameKind.{NameKind}
use Rattle.frame_ast.specs.Lists.{first_some}
use Rattle.script_text.specs.declared.source.Source.{Source}
use Rattle.script_names.specs.Names.{Name}
use Rattle.frame_ast.specs.declared.script.Arg.{Arg}
use Rattle.script_text.specs.declared.raw.RawArg.{RawArg}
use Rattle.script_text.specs.declared.raw.RawOrder.{RawOrder}
use Rattle.script_text.specs.declared.raw.RawOrder.TheVariants as raw
use Rattle.script_text.specs.declared.raw.RawSizes.{RawSizes}
use Rattle.frame_ast.specs.declared.kernel.Kernel.{Kernel}
use Rattle.frame_ast.specs.declared.script.Order.{Order}
use Rattle.script_checks.specs.declared.order_checks.makes.Valued.{Valued}
use Rattle.script_text.specs.Raw.{OrderForm, NewArray, values_of}
use Rattle.script_checks.specs.Faults.{Scope, order_faults}
use Rattle.script_checks.specs.Spelling.{place_of, names_with, names_after, arg_of, defer_of, Says}
use Rattle.script_checks.specs.declared.fault.OrderFault.{OrderFault}
use Rattle.script_checks.specs.declared.fault.OrderFault.TheVariants.{Refused, NoMemory}

-- a refusal tells this fault
abbrev pub Refuses : Option StaticFault → OrderFault → Type 0
Refuses fault (Refused f) = fault ≡ Some f
Refuses fault NoMemory = Unit {0}

-- the answer is a refusal by this fault, or where there is none a value of which this holds, or out of memory
abbrev pub Gives : {A : Type 0} → Option StaticFault → (A → Type 0) → Result A OrderFault → Type 0
Gives fault Holds result = MatchResult result (λ a. (fault ≡ None) × Holds a) (Refuses fault)

-- a refusal reports this fault, and never that memory is out
abbrev pub RefusesFor : Option StaticFault → OrderFault → Type 0
RefusesFor fault (Refused f) = fault ≡ Some f
RefusesFor fault NoMemory = ⊥

-- the answer of a check that asks for no memory: a refusal by this fault, or where there is none a value of which this
-- holds
abbrev pub Decides : {A : Type 0} → Option StaticFault → (A → Type 0) → Result A OrderFault → Type 0
Decides fault Holds result = MatchResult result (λ a. (fault ≡ None) × Holds a) (RefusesFor fault)

-- the place of a known name, which it keeps whatever name is made
abbrev pub IsPlace : Source → List Name → ℕ → ℕ → Type 0
IsPlace s names at place = (m : Option (ℕ × NameKind)) → place ≡ place_of s (names_with s names m) at

-- the places of known names
abbrev pub ArePlaces : Source → List Name → List ℕ → List ℕ → Type 0
ArePlaces s names ats places = (m : Option (ℕ × NameKind)) → places ≡ map (place_of s (names_with s names m)) ats

-- the check of a statement

abbrev pub Checked : Source → Scope → (literals at : ℕ) → OrderForm → Result Order OrderFault → Type 0
Checked s c literals at form =
    Gives (first_some (order_faults s c at form)) (Says s (names_after s c.names form) c.kernels literals 0 form)

-- names alone
abbrev pub bare : List Name → Scope
bare names = record { names = names; kernels = []; blocks = 0; tested = false }

-- the check of a statement that makes the name which it is to make: these names are known before it and after it
abbrev pub Makes : Source → (old new : List Name) → OrderForm → Result Order OrderFault → Type 0
Makes s old new form =
    Gives (first_some (order_faults s (bare old) 0 form))
    (λ act. Says s new [] 0 0 form act × (new ≡ names_after s old form))

-- the parts of a schedule, whatever name is made
abbrev pub IsArg : Source → List Name → RawArg → Arg → Type 0
IsArg s names raw a = (m : Option (ℕ × NameKind)) → a ≡ arg_of s (names_with s names m) raw

abbrev pub AreArgs : Source → List Name → List RawArg → List Arg → Type 0
AreArgs s names raws args = (m : Option (ℕ × NameKind)) → args ≡ map (arg_of s (names_with s names m)) raws

abbrev pub IsDefer : Source → List Name → RawSizes → Option (ℕ × ℕ) → Type 0
IsDefer s names sizes d = (m : Option (ℕ × NameKind)) → d ≡ defer_of s (names_with s names m) sizes

-- names and kernels alone
abbrev pub among : List Name → List Kernel → Scope
among names kernels = record { names = names; kernels = kernels; blocks = 0; tested = false }

-- the form of an array with values
abbrev pub valued_form : Valued → OrderForm
valued_form v = NewArray v.name v.len v.life (Some (values_of (events_of v.values.now)))

-- a statement without a block and without a list of values
abbrev pub is_plain : RawOrder → Bool
is_plain (raw.Array name len life (Some values)) = false
is_plain (raw.Repeat count) = false
is_plain (raw.When name sign value) = false
is_plain _ = true
