-- The places that raw forms tell: on each stands a token of its kind.
use Rattle.std.specs.Prelude.{◌≡◌, ℕ, true, List, [], ◌∷◌, Option, None, Some, length, slice_get}
use Rattle.frame_grammar.specs.declared.token_kind.TokenKind.{TokenKind}
use Rattle.frame_grammar.specs.declared.token_kind.TokenKind.TheVariants as token
use Rattle.frame_grammar.specs.declared.symbols.Event.{Event}
use Rattle.kernel_raw.specs.RawEvents.{IsKernel}
use Rattle.script_text.specs.declared.raw.RawNumber.{RawNumber}
use Rattle.script_text.specs.declared.raw.RawArg.{RawArg}
use Rattle.script_text.specs.declared.raw.RawArg.TheVariants as arg
use Rattle.script_text.specs.declared.raw.RawSizes.{RawSizes}
use Rattle.script_text.specs.declared.raw.RawSizes.TheVariants as sizes
use Rattle.script_text.specs.Raw.{OrderForm, NewArray, NewColumn, NewList, NewReference, NewMap, NewStream, Slice, View, Copy, Set, Add, Put, Remove, Clear, SetCapacity, Schedule, Combine, Complete, Dispose, DisposeAuto, Print, Flush, Frame, Repeat, When, RawItems, Nothing, Kernel, Single, Block}
use Rattle.script_text.specs.Events.{SpellsItems}

-- a token of this kind stands there
abbrev pub Stands : List TokenKind → TokenKind → ℕ → Type 0
Stands kinds kind place = slice_get kinds place ≡ Some kind

-- a token of this kind stands at each of the places
abbrev pub StandEach : List TokenKind → TokenKind → List ℕ → Type 0
StandEach kinds kind [] = Unit {0}
StandEach kinds kind (p ∷ ps) = Stands kinds kind p × StandEach kinds kind ps

abbrev pub MaybeStands : List TokenKind → Option RawNumber → Type 0
MaybeStands kinds None = Unit {0}
MaybeStands kinds (Some n) = Stands kinds token.Number n.at

abbrev pub NumbersStand : List TokenKind → List RawNumber → Type 0
NumbersStand kinds [] = Unit {0}
NumbersStand kinds (n ∷ ns) = Stands kinds token.Number n.at × NumbersStand kinds ns

abbrev pub ValuesStand : List TokenKind → Option (List RawNumber) → Type 0
ValuesStand kinds None = Unit {0}
ValuesStand kinds (Some ns) = NumbersStand kinds ns

abbrev pub ArgStands : List TokenKind → RawArg → Type 0
ArgStands kinds (arg.Name x) = Stands kinds token.Name x
ArgStands kinds (arg.Number n) = Stands kinds token.Number n.at

abbrev pub ArgsStand : List TokenKind → List RawArg → Type 0
ArgsStand kinds [] = Unit {0}
ArgsStand kinds (a ∷ more) = ArgStands kinds a × ArgsStand kinds more

abbrev pub SizesStand : List TokenKind → RawSizes → Type 0
SizesStand kinds sizes.None = Unit {0}
SizesStand kinds (sizes.Length len batch) = Stands kinds token.Number len × Stands kinds token.Number batch
SizesStand kinds (sizes.Defer l batch) = Stands kinds token.Name l × Stands kinds token.Number batch

abbrev pub MaybeNameStands : List TokenKind → Option ℕ → Type 0
MaybeNameStands kinds None = Unit {0}
MaybeNameStands kinds (Some x) = Stands kinds token.Name x

abbrev pub IsTest : TokenKind → Type 0
IsTest token.Equal = Unit {0}
IsTest token.NotEqual = Unit {0}
IsTest token.Less = Unit {0}
IsTest token.LessEqual = Unit {0}
IsTest token.Greater = Unit {0}
IsTest token.GreaterEqual = Unit {0}
IsTest _ = ⊥

-- a comparison stands there
abbrev pub TestStands : List TokenKind → ℕ → Type 0
TestStands kinds place = (test : TokenKind) × Stands kinds test place × IsTest test

-- each place that a statement tells is that of a token of its kind
abbrev pub OrderStands : List TokenKind → OrderForm → Type 0
OrderStands kinds (NewArray x n life values) =
    Stands kinds token.Name x × Stands kinds token.Number n × ValuesStand kinds values
OrderStands kinds (NewColumn x n life) = Stands kinds token.Name x × Stands kinds token.Text n
OrderStands kinds (NewList x n life) = Stands kinds token.Name x × Stands kinds token.Number n
OrderStands kinds (NewReference x life value) = Stands kinds token.Name x × MaybeStands kinds value
OrderStands kinds (NewMap x n life) = Stands kinds token.Name x × Stands kinds token.Number n
OrderStands kinds (NewStream x n m life) =
    Stands kinds token.Name x × Stands kinds token.Number n × Stands kinds token.Number m
OrderStands kinds (Slice x y n m) =
    Stands kinds token.Name x × Stands kinds token.Name y × Stands kinds token.Number n × Stands kinds token.Number m
OrderStands kinds (View x y) = Stands kinds token.Name x × Stands kinds token.Name y
OrderStands kinds (Copy x y) = Stands kinds token.Name x × Stands kinds token.Name y
OrderStands kinds (Set x at value) =
    Stands kinds token.Name x × MaybeStands kinds at × Stands kinds token.Number value.at
OrderStands kinds (Add x first second) =
    Stands kinds token.Name x × Stands kinds token.Number first.at × MaybeStands kinds second
OrderStands kinds (Put x key value) =
    Stands kinds token.Name x × Stands kinds token.Number key.at × Stands kinds token.Number value.at
OrderStands kinds (Remove x at) = Stands kinds token.Name x × Stands kinds token.Number at.at
OrderStands kinds (Clear x) = Stands kinds token.Name x
OrderStands kinds (SetCapacity x n) = Stands kinds token.Name x × Stands kinds token.Number n
OrderStands kinds (Schedule auto h k args cut waive after) =
    Stands kinds token.Name h × Stands kinds token.Name k × ArgsStand kinds args × SizesStand kinds cut
    × StandEach kinds token.Name waive × StandEach kinds token.Name after
OrderStands kinds (Combine x of) = Stands kinds token.Name x × StandEach kinds token.Name of
OrderStands kinds (Complete auto x) = Stands kinds token.Name x
OrderStands kinds (Dispose x after h) =
    Stands kinds token.Name x × StandEach kinds token.Name after × MaybeNameStands kinds h
OrderStands kinds (DisposeAuto x h) = Stands kinds token.Name x × Stands kinds token.Name h
OrderStands kinds (Print x) = Stands kinds token.Name x
OrderStands kinds Flush = Unit {0}
OrderStands kinds Frame = Unit {0}
OrderStands kinds (Repeat n) = Stands kinds token.Number n
OrderStands kinds (When x s value) =
    Stands kinds token.Name x × TestStands kinds s × Stands kinds token.Number value.at

-- A token stands at each place: a name, a Number, a Text or a comparison where its statement tells one, any token where
-- it starts. The places of kernels are among the tokens.
abbrev pub ItemsStand : List TokenKind → RawItems → Type 0
ItemsStand kinds Nothing = Unit {0}
ItemsStand kinds (Kernel events k more) = IsKernel events (length kinds) × ItemsStand kinds more
ItemsStand kinds (Single at order more) =
    ((first : TokenKind) × Stands kinds first at) × OrderStands kinds order × ItemsStand kinds more
ItemsStand kinds (Block at head inner more) =
    ((first : TokenKind) × Stands kinds first at) × OrderStands kinds head × ItemsStand kinds inner
    × ItemsStand kinds more

-- the events spell items of a file with tokens of these kinds
pub record IsFile (kinds : List TokenKind) (events : List Event) : Type 0 where
  pub items : RawItems
  pub spells : SpellsItems true events items
  pub stand : ItemsStand kinds items
