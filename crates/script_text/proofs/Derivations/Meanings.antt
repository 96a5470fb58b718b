-- What each nonterminal of a script means: which raw form its events spell, and that the places told are those of such tokens.
use Rattle.std.proofs.Common.{◌≡◌, ℕ, ◌⊎◌, Bool, true, false, List, [], ◌∷◌, ◌++◌, Option, Some, None}
use Rattle.frame_ast.specs.declared.script.Life.{Life}
use Rattle.frame_grammar.specs.declared.token_kind.TokenKind.{TokenKind}
use Rattle.frame_grammar.specs.declared.token_kind.TokenKind.TheVariants as token
use Rattle.frame_grammar.specs.declared.symbols.Nonterminal.{Nonterminal}
use Rattle.frame_grammar.specs.declared.symbols.Nonterminal.TheVariants as nonterminal
use Rattle.frame_grammar.specs.declared.symbols.Action.{Action}
use Rattle.frame_grammar.specs.declared.symbols.Action.TheVariants as action
use Rattle.frame_grammar.specs.declared.symbols.Event.{Event}
use Rattle.kernel_raw.specs.RawEvents.{on}
use Rattle.script_text.specs.declared.raw.RawNumber.{RawNumber}
use Rattle.script_text.specs.declared.raw.RawArg.{RawArg}
use Rattle.script_text.specs.declared.raw.RawSizes.{RawSizes}
use Rattle.script_text.specs.Raw.{OrderForm, Dispose, RawItems}
use Rattle.script_text.specs.Events.{SpellsLife, SpellsSigned, SpellsMaybe, SpellsNumbers, SpellsValues, names_events, SpellsArg, SpellsArgs, SpellsSizes, SpellsWaived, SpellsAfter, auto_action, SpellsOrder, closing, SpellsItems}
use Rattle.script_text.specs.Places.{Stands, StandEach, MaybeStands, NumbersStand, ValuesStand, ArgStands, ArgsStand, SizesStand, MaybeNameStands, IsTest, OrderStands, ItemsStand}

pub record LifeMeans (events : List Event) : Type 0 where
  pub life : Life
  pub said : Action
  pub at : ℕ
  pub spells : SpellsLife said life
  pub events_are : events ≡ on said at ∷ []

pub record SignedMeans (all : List TokenKind) (events : List Event) : Type 0 where
  pub number : RawNumber
  pub spells : SpellsSigned events number
  pub stands : Stands all token.Number number.at

pub record MaybeMeans (all : List TokenKind) (events : List Event) : Type 0 where
  pub number : Option RawNumber
  pub spells : SpellsMaybe events number
  pub stand : MaybeStands all number

pub record NumbersMeans (all : List TokenKind) (events : List Event) : Type 0 where
  pub numbers : List RawNumber
  pub spells : SpellsNumbers events numbers
  pub stand : NumbersStand all numbers

pub record ValuesMeans (all : List TokenKind) (events : List Event) : Type 0 where
  pub values : Option (List RawNumber)
  pub spells : SpellsValues events values
  pub stand : ValuesStand all values

pub record ArgMeans (all : List TokenKind) (events : List Event) : Type 0 where
  pub arg : RawArg
  pub spells : SpellsArg events arg
  pub stands : ArgStands all arg

pub record ArgsMeans (all : List TokenKind) (events : List Event) : Type 0 where
  pub args : List RawArg
  pub spells : SpellsArgs events args
  pub stand : ArgsStand all args

pub record AutoMeans (events : List Event) : Type 0 where
  pub auto : Bool
  pub at : ℕ
  pub events_are : events ≡ on (auto_action auto) at ∷ []

pub record SizesMeans (all : List TokenKind) (events : List Event) : Type 0 where
  pub sizes : RawSizes
  pub spells : SpellsSizes events sizes
  pub stand : SizesStand all sizes

pub record WaivedMeans (all : List TokenKind) (events : List Event) : Type 0 where
  pub names : List ℕ
  pub spells : SpellsWaived events names
  pub stand : StandEach all token.Name names

pub record AfterMeans (all : List TokenKind) (events : List Event) : Type 0 where
  pub names : List ℕ
  pub spells : SpellsAfter events names
  pub stand : StandEach all token.Name names

pub record NamesMeans (all : List TokenKind) (events : List Event) : Type 0 where
  pub names : List ℕ
  pub events_are : events ≡ names_events names
  pub stand : StandEach all token.Name names

pub record DisposedMeans (all : List TokenKind) (events : List Event) : Type 0 where
  pub after : List ℕ
  pub handle : Option ℕ
  pub spells : (x : ℕ) → SpellsOrder (on action.Name x ∷ events) (Dispose x after handle)
  pub stand : StandEach all token.Name after
  pub handle_stands : MaybeNameStands all handle

pub record TestMeans (all : List TokenKind) (events : List Event) : Type 0 where
  pub at : ℕ
  pub test : TokenKind
  pub events_are : events ≡ on action.Operator at ∷ []
  pub stands : Stands all test at
  pub is_test : IsTest test

-- a statement without a block
pub record SingleMeans (all : List TokenKind) (events : List Event) : Type 0 where
  pub order : OrderForm
  pub spells : SpellsOrder events order
  pub no_block : closing order ≡ None
  pub stands : OrderStands all order

-- a statement with a block
pub record BlockMeans (all : List TokenKind) (events : List Event) : Type 0 where
  pub head : OrderForm
  pub inner : RawItems
  pub end : Action
  pub end_at : ℕ
  pub heads : List Event
  pub inners : List Event
  pub spells : SpellsOrder heads head
  pub closes : closing head ≡ Some end
  pub spells_inner : SpellsItems false inners inner
  pub events_are : events ≡ heads ++ (inners ++ on end end_at ∷ [])
  pub stands : OrderStands all head
  pub inner_stands : ItemsStand all inner

pub record StatementMeans (all : List TokenKind) (n : ℕ) (events : List Event) : Type 0 where
  pub first : TokenKind
  pub first_stands : Stands all first n
  pub said : SingleMeans all events ⊎ BlockMeans all events

pub record ItemsMeans (all : List TokenKind) (outside : Bool) (events : List Event) : Type 0 where
  pub items : RawItems
  pub spells : SpellsItems outside events items
  pub stand : ItemsStand all items

-- what the events of a nonterminal from a place on mean
abbrev pub Means : List TokenKind → Nonterminal → ℕ → List Event → Type 0
Means all nonterminal.File n events = ItemsMeans all true events
Means all nonterminal.Items n events = ItemsMeans all true events
Means all nonterminal.AfterItem n events = ItemsMeans all true events
Means all nonterminal.Statement n events = StatementMeans all n events
Means all nonterminal.Life n events = LifeMeans events
Means all nonterminal.Signed n events = SignedMeans all events
Means all nonterminal.MaybeSigned n events = MaybeMeans all events
Means all nonterminal.ArrayValues n events = ValuesMeans all events
Means all nonterminal.MoreValues n events = NumbersMeans all events
Means all nonterminal.ReferenceValue n events = MaybeMeans all events
Means all nonterminal.Arguments n events = ArgsMeans all events
Means all nonterminal.MoreArguments n events = ArgsMeans all events
Means all nonterminal.Argument n events = ArgMeans all events
Means all nonterminal.Auto n events = AutoMeans events
Means all nonterminal.Sizes n events = SizesMeans all events
Means all nonterminal.Waived n events = WaivedMeans all events
Means all nonterminal.AfterNames n events = AfterMeans all events
Means all nonterminal.Names n events = NamesMeans all events
Means all nonterminal.Disposal n events = SingleMeans all events
Means all nonterminal.DisposedAfter n events = DisposedMeans all events
Means all nonterminal.Test n events = TestMeans all events
Means all nonterminal.Lined n events = ItemsMeans all false events
Means all _ n events = Unit {0}
