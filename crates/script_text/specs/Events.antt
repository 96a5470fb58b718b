-- The events of the grammar that spell each raw form, clause by clause, statement by statement, item by item.
use Rattle.std.specs.Prelude.{◌≡◌, ℕ, Bool, true, false, List, [], ◌∷◌, ◌++◌, Option, None, Some, map}
use Rattle.frame_ast.specs.declared.script.Life.{Life}
use Rattle.frame_ast.specs.declared.script.Life.TheVariants.{Temp, TempJob, Persistent}
use Rattle.frame_grammar.specs.declared.symbols.Action.{Action}
use Rattle.frame_grammar.specs.declared.symbols.Action.TheVariants as action
use Rattle.frame_grammar.specs.declared.symbols.Event.{Event}
use Rattle.kernel_raw.specs.RawEvents.{on, opening, SpellsParams, SpellsBlock}
use Rattle.script_text.specs.declared.raw.RawNumber.{RawNumber}
use Rattle.script_text.specs.declared.raw.RawArg.{RawArg}
use Rattle.script_text.specs.declared.raw.RawArg.TheVariants as arg
use Rattle.script_text.specs.declared.raw.RawSizes.{RawSizes}
use Rattle.script_text.specs.declared.raw.RawSizes.TheVariants as sizes
use Rattle.script_text.specs.Raw.{OrderForm, NewArray, NewColumn, NewList, NewReference, NewMap, NewStream, Slice, View, Copy, Set, Add, Put, Remove, Clear, SetCapacity, Schedule, Combine, Complete, Dispose, DisposeAuto, Print, Flush, Frame, Repeat, When, KernelForm, RawItems, Nothing, Kernel, Single, Block}

-- CLAUSES. Where closing events stand says nothing.

-- how long a container lives
pub data SpellsLife : Action → Life → Type 0 where
  unsaid : SpellsLife action.LifeNone Persistent
  temp : SpellsLife action.LifeTemp Temp
  tempjob : SpellsLife action.LifeTempJob TempJob
  persistent : SpellsLife action.LifePersistent Persistent

-- a signed number
pub data SpellsSigned : List Event → RawNumber → Type 0 where
  minus : {events : List Event} {at : ℕ} (o q : ℕ) →
      events ≡ on action.Operator o ∷ on action.Number at ∷ on action.MinusNumber q ∷ [] →
      SpellsSigned events (record { minus = true; at = at })
  plain : {events : List Event} {at : ℕ} (q : ℕ) →
      events ≡ on action.Number at ∷ on action.PlainNumber q ∷ [] →
      SpellsSigned events (record { minus = false; at = at })

-- a signed number, or none
pub data SpellsMaybe : List Event → Option RawNumber → Type 0 where
  none : {events : List Event} (q : ℕ) →
      events ≡ on action.NoNumber q ∷ [] →
      SpellsMaybe events None
  some : {events : List Event} {n : RawNumber} →
      SpellsSigned events n →
      SpellsMaybe events (Some n)

-- signed numbers
pub data SpellsNumbers : List Event → List RawNumber → Type 0 where
  none : {events : List Event} →
      events ≡ [] →
      SpellsNumbers events []
  also : {events : List Event} (es rest : List Event) {n : RawNumber} {ns : List RawNumber} → SpellsSigned es n →
      SpellsNumbers rest ns →
      events ≡ es ++ rest →
      SpellsNumbers events (n ∷ ns)

-- the values of an array, or none
pub data SpellsValues : List Event → Option (List RawNumber) → Type 0 where
  none : {events : List Event} (q : ℕ) →
      events ≡ on action.NoValues q ∷ [] →
      SpellsValues events None
  some : {events : List Event} (o q : ℕ) (es : List Event) {n : RawNumber} {ns : List RawNumber} →
      SpellsNumbers es (n ∷ ns) →
      events ≡ on action.OpenValues o ∷ es ++ on action.CloseValues q ∷ [] →
      SpellsValues events (Some (n ∷ ns))

-- names
abbrev pub names_events : List ℕ → List Event
names_events = map (on action.Name)

-- an argument
pub data SpellsArg : List Event → RawArg → Type 0 where
  named : {events : List Event} {x : ℕ} (q : ℕ) →
      events ≡ on action.Name x ∷ on action.NameArgument q ∷ [] →
      SpellsArg events (arg.Name x)
  signed : {events : List Event} (q : ℕ) (es : List Event) {n : RawNumber} → SpellsSigned es n →
      events ≡ es ++ on action.NumberArgument q ∷ [] →
      SpellsArg events (arg.Number n)

-- arguments
pub data SpellsArgs : List Event → List RawArg → Type 0 where
  none : {events : List Event} →
      events ≡ [] →
      SpellsArgs events []
  also : {events : List Event} (es rest : List Event) {a : RawArg} {as' : List RawArg} → SpellsArg es a →
      SpellsArgs rest as' →
      events ≡ es ++ rest →
      SpellsArgs events (a ∷ as')

-- over which indexes a job runs
pub data SpellsSizes : List Event → RawSizes → Type 0 where
  none : {events : List Event} (q : ℕ) →
      events ≡ on action.SizesNone q ∷ [] →
      SpellsSizes events sizes.None
  counted : {events : List Event} {len batch : ℕ} (q : ℕ) →
      events ≡ on action.Number len ∷ on action.Number batch ∷ on action.SizesLength q ∷ [] →
      SpellsSizes events (sizes.Length len batch)
  deferred : {events : List Event} {list batch : ℕ} (q : ℕ) →
      events ≡ on action.Name list ∷ on action.Number batch ∷ on action.SizesDefer q ∷ [] →
      SpellsSizes events (sizes.Defer list batch)

-- the names after `waive`, or none
pub data SpellsWaived : List Event → List ℕ → Type 0 where
  none : {events : List Event} (q : ℕ) →
      events ≡ on action.WaivedNone q ∷ [] →
      SpellsWaived events []
  some : {events : List Event} (o q : ℕ) {x : ℕ} {xs : List ℕ} →
      events ≡ on action.OpenNames o ∷ names_events (x ∷ xs) ++ on action.Waived q ∷ [] →
      SpellsWaived events (x ∷ xs)

-- the names after `after`, or none
pub data SpellsAfter : List Event → List ℕ → Type 0 where
  none : {events : List Event} (q : ℕ) →
      events ≡ on action.AfterNone q ∷ [] →
      SpellsAfter events []
  some : {events : List Event} (o q : ℕ) {x : ℕ} {xs : List ℕ} →
      events ≡ on action.OpenNames o ∷ names_events (x ∷ xs) ++ on action.After q ∷ [] →
      SpellsAfter events (x ∷ xs)

abbrev pub auto_action : Bool → Action
auto_action true = action.Auto
auto_action false = action.NotAuto

-- STATEMENTS

-- the events that spell a statement, behind its start; of `repeat` and `when`, up to the opening of the block
pub data SpellsOrder : List Event → OrderForm → Type 0 where
  array : {events : List Event} {x n : ℕ} {life : Life} {values : Option (List RawNumber)} (a : Action) (p q : ℕ)
      (vs : List Event) → SpellsLife a life → SpellsValues vs values →
      events ≡ on action.Name x ∷ on action.Number n ∷ on a p ∷ vs ++ on action.ArrayStatement q ∷ [] →
      SpellsOrder events (NewArray x n life values)
  column : {events : List Event} {x n : ℕ} {life : Life} (a : Action) (p q : ℕ) → SpellsLife a life →
      events ≡ on action.Name x ∷ on action.Text n ∷ on a p ∷ on action.ColumnStatement q ∷ [] →
      SpellsOrder events (NewColumn x n life)
  list : {events : List Event} {x n : ℕ} {life : Life} (a : Action) (p q : ℕ) → SpellsLife a life →
      events ≡ on action.Name x ∷ on action.Number n ∷ on a p ∷ on action.ListStatement q ∷ [] →
      SpellsOrder events (NewList x n life)
  reference : {events : List Event} {x : ℕ} {life : Life} {value : Option RawNumber} (a : Action) (p q : ℕ)
      (vs : List Event) → SpellsLife a life → SpellsMaybe vs value →
      events ≡ on action.Name x ∷ on a p ∷ vs ++ on action.ReferenceStatement q ∷ [] →
      SpellsOrder events (NewReference x life value)
  mapped : {events : List Event} {x n : ℕ} {life : Life} (a : Action) (p q : ℕ) → SpellsLife a life →
      events ≡ on action.Name x ∷ on action.Number n ∷ on a p ∷ on action.MapStatement q ∷ [] →
      SpellsOrder events (NewMap x n life)
  stream : {events : List Event} {x n m : ℕ} {life : Life} (a : Action) (p q : ℕ) → SpellsLife a life →
      events ≡ on action.Name x ∷ on action.Number n ∷ on action.Number m ∷ on a p ∷ on action.StreamStatement q ∷ [] →
      SpellsOrder events (NewStream x n m life)
  slice : {events : List Event} {x y n m : ℕ} (q : ℕ) →
      events ≡ on action.Name x ∷ on action.Name y ∷ on action.Number n ∷ on action.Number m
      ∷ on action.SliceStatement q ∷ [] →
      SpellsOrder events (Slice x y n m)
  view : {events : List Event} {x y : ℕ} (q : ℕ) →
      events ≡ on action.Name x ∷ on action.Name y ∷ on action.ViewStatement q ∷ [] →
      SpellsOrder events (View x y)
  copy : {events : List Event} {x y : ℕ} (q : ℕ) →
      events ≡ on action.Name x ∷ on action.Name y ∷ on action.CopyStatement q ∷ [] →
      SpellsOrder events (Copy x y)
  set : {events : List Event} {x : ℕ} {at : Option RawNumber} {value : RawNumber} (q : ℕ) (is vs : List Event) →
      SpellsMaybe is at → SpellsSigned vs value →
      events ≡ on action.Name x ∷ is ++ (vs ++ on action.SetStatement q ∷ []) →
      SpellsOrder events (Set x at value)
  add : {events : List Event} {x : ℕ} {first : RawNumber} {second : Option RawNumber} (q : ℕ) (is vs : List Event) →
      SpellsSigned is first → SpellsMaybe vs second →
      events ≡ on action.Name x ∷ is ++ (vs ++ on action.AddToStatement q ∷ []) →
      SpellsOrder events (Add x first second)
  put : {events : List Event} {x : ℕ} {key value : RawNumber} (q : ℕ) (is vs : List Event) → SpellsSigned is key →
      SpellsSigned vs value →
      events ≡ on action.Name x ∷ is ++ (vs ++ on action.PutStatement q ∷ []) →
      SpellsOrder events (Put x key value)
  remove : {events : List Event} {x : ℕ} {at : RawNumber} (q : ℕ) (is : List Event) → SpellsSigned is at →
      events ≡ on action.Name x ∷ is ++ on action.RemoveFromStatement q ∷ [] →
      SpellsOrder events (Remove x at)
  clear : {events : List Event} {x : ℕ} (q : ℕ) →
      events ≡ on action.Name x ∷ on action.ClearOutStatement q ∷ [] →
      SpellsOrder events (Clear x)
  set_capacity : {events : List Event} {x n : ℕ} (q : ℕ) →
      events ≡ on action.Name x ∷ on action.Number n ∷ on action.SetCapacityStatement q ∷ [] →
      SpellsOrder events (SetCapacity x n)
  schedule : {events : List Event} {auto : Bool} {h k : ℕ} {args : List RawArg} {cut : RawSizes} {waive after : List ℕ}
      (u o c q : ℕ) (as' ss ws fs : List Event) →
      SpellsArgs as' args → SpellsSizes ss cut → SpellsWaived ws waive → SpellsAfter fs after →
      events ≡ on (auto_action auto) u ∷ on action.Name h ∷ on action.Name k ∷ on action.OpenArguments o
      ∷ as' ++ (on action.CloseArguments c ∷ ss ++ (ws ++ (fs ++ on action.ScheduleStatement q ∷ []))) →
      SpellsOrder events (Schedule auto h k args cut waive after)
  combine : {events : List Event} {x : ℕ} {of : List ℕ} (o q : ℕ) →
      events ≡ on action.Name x ∷ on action.OpenNames o ∷ names_events of ++ on action.CombineStatement q ∷ [] →
      SpellsOrder events (Combine x of)
  complete : {events : List Event} {auto : Bool} {x : ℕ} (u q : ℕ) →
      events ≡ on (auto_action auto) u ∷ on action.Name x ∷ on action.CompleteStatement q ∷ [] →
      SpellsOrder events (Complete auto x)
  dispose : {events : List Event} {x : ℕ} (q : ℕ) →
      events ≡ on action.Name x ∷ on action.DisposeStatement q ∷ [] →
      SpellsOrder events (Dispose x [] None)
  dispose_after : {events : List Event} {x y h : ℕ} {ys : List ℕ} (o a q : ℕ) →
      events ≡ on action.Name x ∷ on action.OpenNames o ∷ names_events (y ∷ ys) ++ on action.After a ∷ on action.Name h
      ∷ on action.DisposeAfterStatement q ∷ [] →
      SpellsOrder events (Dispose x (y ∷ ys) (Some h))
  dispose_auto : {events : List Event} {x h : ℕ} (q : ℕ) →
      events ≡ on action.Name x ∷ on action.Name h ∷ on action.DisposeAutoStatement q ∷ [] →
      SpellsOrder events (DisposeAuto x h)
  print : {events : List Event} {x : ℕ} (q : ℕ) →
      events ≡ on action.Name x ∷ on action.PrintStatement q ∷ [] →
      SpellsOrder events (Print x)
  flush : {events : List Event} (q : ℕ) →
      events ≡ on action.FlushStatement q ∷ [] →
      SpellsOrder events Flush
  frame : {events : List Event} (q : ℕ) →
      events ≡ on action.FrameStatement q ∷ [] →
      SpellsOrder events Frame
  repeated : {events : List Event} {n : ℕ} (q : ℕ) →
      events ≡ on action.Number n ∷ on action.OpenRepeat q ∷ [] →
      SpellsOrder events (Repeat n)
  when : {events : List Event} {x s : ℕ} {value : RawNumber} (q : ℕ) (vs : List Event) → SpellsSigned vs value →
      events ≡ on action.Name x ∷ on action.Operator s ∷ vs ++ on action.OpenWhen q ∷ [] →
      SpellsOrder events (When x s value)

-- These events begin with those of a statement.
pub record BeginsOrder (all : List Event) : Type 0 where
  pub events : List Event
  pub rest : List Event
  pub form : OrderForm
  pub all_are : all ≡ events ++ rest
  pub spells : SpellsOrder events form

-- the event that ends the block of a statement that has one
abbrev pub closing : OrderForm → Option Action
closing (Repeat n) = Some action.RepeatStatement
closing (When x s value) = Some action.WhenStatement
closing _ = None

-- ITEMS

-- the events that spell a kernel
pub record SpellsKernel (events : List Event) (kernel : KernelForm) : Type 0 where
  pub at : ℕ
  pub body_at : ℕ
  pub end_at : ℕ
  pub params : List Event
  pub statements : List Event
  pub spelled : events ≡ on (opening kernel.parallel) at ∷ on action.Name kernel.name
      ∷ params ++ on action.OpenBody body_at ∷ statements ++ on action.CloseKernel end_at ∷ []
  pub with_params : SpellsParams params kernel.params
  pub with_statements : SpellsBlock statements kernel.body

-- These events begin with those of a kernel.
pub record BeginsKernel (all : List Event) : Type 0 where
  pub events : List Event
  pub rest : List Event
  pub form : KernelForm
  pub all_are : all ≡ events ++ rest
  pub spells : SpellsKernel events form

-- the events that spell items; kernels stand outside blocks alone
pub data SpellsItems : (outside : Bool) → List Event → RawItems → Type 0 where
  nothing : {outside : Bool} {events : List Event} →
      events ≡ [] →
      SpellsItems outside events Nothing
  kernel : {events : List Event} {es : List Event} {k : KernelForm} (rest : List Event) {more : RawItems} →
      SpellsKernel es k → SpellsItems true rest more →
      events ≡ es ++ rest →
      SpellsItems true events (Kernel es k more)
  single : {outside : Bool} {events : List Event} {at : ℕ} {order : OrderForm}
      (es rest : List Event) {more : RawItems} → SpellsOrder es order → closing order ≡ None →
      SpellsItems outside rest more →
      events ≡ on action.StartStatement at ∷ es ++ rest →
      SpellsItems outside events (Single at order more)
  block : {outside : Bool} {events : List Event} {at : ℕ} {head : OrderForm} (end : Action) (q : ℕ)
      (hs is rest : List Event) {inner more : RawItems} →
      SpellsOrder hs head → closing head ≡ Some end → SpellsItems false is inner → SpellsItems outside rest more →
      events ≡ on action.StartStatement at ∷ hs ++ (is ++ on end q ∷ rest) →
      SpellsItems outside events (Block at head inner more)
