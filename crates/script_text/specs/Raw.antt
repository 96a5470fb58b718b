-- The raw forms of a script: its statements and its items, as their tokens say them before any name is looked up.
use Rattle.std.specs.Prelude.{ℕ, Bool, true, false, List, [], ◌∷◌, ◌++◌, Option, None, Some}
use Rattle.frame_ast.specs.declared.script.Life.{Life}
use Rattle.frame_grammar.specs.declared.symbols.Action.{Action}
use Rattle.frame_grammar.specs.declared.symbols.Action.TheVariants as action
use Rattle.frame_grammar.specs.declared.symbols.Event.{Event}
use Rattle.frame_parser.specs.Notes.{events_of}
use Rattle.kernel_raw.specs.declared.raw.RawParam.{RawParam}
use Rattle.kernel_raw.specs.Raw.{RawBlock}
use Rattle.script_text.specs.declared.raw.RawNumber.{RawNumber}
use Rattle.script_text.specs.declared.raw.RawArg.{RawArg}
use Rattle.script_text.specs.declared.raw.RawSizes.{RawSizes}
use Rattle.script_text.specs.declared.raw.RawOrder.{RawOrder}
use Rattle.script_text.specs.declared.raw.RawOrder.TheVariants as raw

-- FORMS. Numbers are places of tokens.

-- a statement, with lists where the code has vectors; of `repeat` and `when`, what stands before the brace
pub data OrderForm : Type 0 where
  NewArray : (name len : ℕ) → Life → Option (List RawNumber) → OrderForm
  NewColumn : (name column : ℕ) → Life → OrderForm
  NewList : (name cap : ℕ) → Life → OrderForm
  NewReference : (name : ℕ) → Life → Option RawNumber → OrderForm
  NewMap : (name cap : ℕ) → Life → OrderForm
  NewStream : (name count room : ℕ) → Life → OrderForm
  Slice : (name of start len : ℕ) → OrderForm
  View : (name of : ℕ) → OrderForm
  Copy : (name of : ℕ) → OrderForm
  Set : (name : ℕ) → Option RawNumber → RawNumber → OrderForm
  Add : (name : ℕ) → RawNumber → Option RawNumber → OrderForm
  Put : (name : ℕ) → (key value : RawNumber) → OrderForm
  Remove : (name : ℕ) → RawNumber → OrderForm
  Clear : (name : ℕ) → OrderForm
  SetCapacity : (name cap : ℕ) → OrderForm
  Schedule : Bool → (handle kernel : ℕ) → List RawArg → RawSizes → (waive after : List ℕ) → OrderForm
  Combine : (name : ℕ) → List ℕ → OrderForm
  Complete : Bool → (name : ℕ) → OrderForm
  Dispose : (name : ℕ) → (after : List ℕ) → Option ℕ → OrderForm
  DisposeAuto : (name handle : ℕ) → OrderForm
  Print : (name : ℕ) → OrderForm
  Flush : OrderForm
  Frame : OrderForm
  Repeat : (count : ℕ) → OrderForm
  When : (name sign : ℕ) → RawNumber → OrderForm

-- the place of the last Number after an event, where that of the last one before it is `at`
abbrev pub number_after : Action → (place at : ℕ) → ℕ
number_after action.Number place at = place
number_after _ place at = at

-- the signed number that an event makes of the last Number
abbrev pub signed_by : Action → (at : ℕ) → List RawNumber
signed_by action.MinusNumber at = record { minus = true; at = at } ∷ []
signed_by action.PlainNumber at = record { minus = false; at = at } ∷ []
signed_by _ at = []

-- the signed numbers of events, where the last Number before them stands at this place
abbrev pub signed_from : (at : ℕ) → List Event → List RawNumber
signed_from at [] = []
signed_from at (e ∷ es) = signed_by e.action at ++ signed_from (number_after e.action e.place at) es

-- The values that events say: those of `-2 3`, which are an Operator at 5, a Number at 6, a MinusNumber, a Number at 7
-- and a PlainNumber, are the Number at 6 with a `-`, and the Number at 7 without.
abbrev pub values_of : List Event → List RawNumber
values_of = signed_from 0

-- the form of a raw statement
abbrev pub form_of : RawOrder → OrderForm
form_of (raw.Array name len life None) = NewArray name len life None
form_of (raw.Array name len life (Some notes)) = NewArray name len life (Some (values_of (events_of notes.now)))
form_of (raw.Column name column life) = NewColumn name column life
form_of (raw.List name cap life) = NewList name cap life
form_of (raw.Reference name life value) = NewReference name life value
form_of (raw.Map name cap life) = NewMap name cap life
form_of (raw.Stream name count room life) = NewStream name count room life
form_of (raw.Slice name of start len) = Slice name of start len
form_of (raw.View name of) = View name of
form_of (raw.Copy name of) = Copy name of
form_of (raw.Set name at value) = Set name at value
form_of (raw.Add name first second) = Add name first second
form_of (raw.Put name key value) = Put name key value
form_of (raw.Remove name at) = Remove name at
form_of (raw.Clear name) = Clear name
form_of (raw.SetCapacity name cap) = SetCapacity name cap
form_of (raw.Schedule auto handle kernel args sizes waive after) =
    Schedule auto handle kernel args.items sizes waive.items after.items
form_of (raw.Combine name of) = Combine name of.items
form_of (raw.Complete auto name) = Complete auto name
form_of (raw.Dispose name after handle) = Dispose name after.items handle
form_of (raw.DisposeAuto name handle) = DisposeAuto name handle
form_of (raw.Print name) = Print name
form_of raw.Flush = Flush
form_of raw.Frame = Frame
form_of (raw.Repeat count) = Repeat count
form_of (raw.When name sign value) = When name sign value

-- a kernel as its tokens say it
pub record KernelForm : Type 0 where
  pub parallel : Bool
  pub name : ℕ
  pub params : List RawParam
  pub body : RawBlock

-- Items: none, or a first one and those behind it. An item is a kernel, which these events spell; a statement with its
-- first token; or one of `repeat` and `when` with its first token, what stands before its brace, and the statements
-- inside.
pub data RawItems : Type 0 where
  Nothing : RawItems
  Kernel : List Event → KernelForm → RawItems → RawItems
  Single : (at : ℕ) → OrderForm → RawItems → RawItems
  Block : (at : ℕ) → (head : OrderForm) → (inner : RawItems) → RawItems → RawItems
