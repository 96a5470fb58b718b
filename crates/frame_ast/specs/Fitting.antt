-- What an accepted schedule gives its kernel: values that fit the parameters, of which no written one shares its
-- container, and in a parallel kernel widths for what it writes.
use Rattle.std.specs.Prelude.{◌≡◌, ◌⊎◌, ℕ, ◌+◌, ◌<◌, ◌≤◌, Bool, true, false, ◌&&◌, ◌||◌, nat_eq, List, [], ◌∷◌, length, Option, None, Some, slice_get}
use Rattle.frame_ast.specs.declared.name_kind.NameKind.{NameKind}
use Rattle.frame_ast.specs.declared.name_kind.NameKind.TheVariants as kind
use Rattle.frame_ast.specs.declared.kernel.ParamKind.{ParamKind}
use Rattle.frame_ast.specs.declared.kernel.ParamKind.TheVariants.{Int, Array, List as KindList, Ref, Map, Stream}
use Rattle.frame_ast.specs.declared.kernel.Param.{Param}
use Rattle.frame_ast.specs.declared.script.Arg.{Arg}
use Rattle.frame_ast.specs.declared.script.Arg.TheVariants.{Name, Number}
use Rattle.frame_ast.specs.declared.script.Order.{Order}
use Rattle.frame_ast.specs.declared.script.Order.TheVariants.{Schedule}
use Rattle.frame_ast.specs.Contents.{elements}
use Rattle.frame_ast.specs.Arguments.{width_of}
use Rattle.frame_ast.specs.States.{Value, ScriptState, container_at}
use Rattle.frame_ast.specs.Schedules.{writes_to, givens, first_alias, widths_from}
use Rattle.frame_ast.specs.Orders.{Setting, params_of, is_parallel}
use Rattle.frame_ast.specs.Accepted.{is_deferred}
use Rattle.frame_ast.specs.Kinds.{kind_of, OfAccepted}

-- ARGUMENTS FIT AS VALUES

-- a value that stands for the whole of a container of a kind
abbrev pub IsWhole : ScriptState → NameKind → Value → Type 0
IsWhole s k (Value.Whole c) = kind_of (s.contents c) ≡ k
IsWhole s k _ = ⊥

-- A value that stands for elements: a whole array, or the whole list after `defer`; a slice, which lies within its
-- array; a view of a list, which isn't stale.
abbrev pub HasElements : ScriptState → Bool → Value → Type 0
HasElements s deferred Value.Dead = ⊥
HasElements s deferred (Value.Whole c) =
    (kind_of (s.contents c) ≡ kind.Array) ⊎ ((deferred ≡ true) × (kind_of (s.contents c) ≡ kind.List))
HasElements s deferred (Value.Slice c start len) =
    (kind_of (s.contents c) ≡ kind.Array) × (start + len ≤ length (elements (s.contents c)))
HasElements s deferred (Value.View c number) = (kind_of (s.contents c) ≡ kind.List) × (number ≡ s.view c)
HasElements s deferred (Value.Handle jobs) = ⊥

abbrev pub FitsKind : ScriptState → Bool → ParamKind → Value → Type 0
FitsKind s deferred Int v = ⊥
FitsKind s deferred Array v = HasElements s deferred v
FitsKind s deferred KindList v = IsWhole s kind.List v
FitsKind s deferred Ref v = IsWhole s kind.Reference v
FitsKind s deferred Map v = IsWhole s kind.Map v
FitsKind s deferred Stream v = IsWhole s kind.Stream v

-- a name of a container that is alive, with a value that fits
pub record NameFits (s : ScriptState) (deferred : Bool) (param : ParamKind) (name : ℕ) : Type 0 where
  pub made : container_at s name < s.made
  pub alive : s.alive (container_at s name) ≡ true
  pub value : FitsKind s deferred param (s.values name)

-- a number fits an `int` alone
abbrev pub ArgFits : ScriptState → Option (ℕ × ℕ) → Param → Arg → Type 0
ArgFits s defer p (Name n) = NameFits s (is_deferred defer n) p.kind n
ArgFits s defer p (Number z) = p.kind ≡ Int

-- as many arguments as parameters
abbrev pub ArgsFit : ScriptState → Option (ℕ × ℕ) → List Param → List Arg → Type 0
ArgsFit s defer [] [] = Unit {0}
ArgsFit s defer [] (a ∷ as_) = ⊥
ArgsFit s defer (p ∷ ps) [] = ⊥
ArgsFit s defer (p ∷ ps) (a ∷ as_) = ArgFits s defer p a × ArgsFit s defer ps as_

-- the list after `defer`
abbrev pub LengthFits : ScriptState → Option (ℕ × ℕ) → Type 0
LengthFits s None = Unit {0}
LengthFits s (Some d) = NameFits s true KindList d.0

-- of a statement that is a schedule
abbrev pub FitsAsValues : Setting → ScriptState → Order → Type 0
FitsAsValues g s (Schedule job) =
    ArgsFit s job.value.defer (params_of g job.value.kernel) job.value.args.items × LengthFits s job.value.defer
FitsAsValues g s _ = Unit {0}

abbrev pub ValuesFit : Type 0
ValuesFit = OfAccepted FitsAsValues

-- WITHOUT AN ALIAS A WRITTEN ARGUMENT SHARES ITS CONTAINER WITH NO OTHER

abbrev pub is_of : ScriptState → Arg → ℕ → Bool
is_of s (Name n) c = nat_eq c (container_at s n)
is_of s (Number z) c = false

-- whether one of the arguments is of a container, and whether one that may be written is
abbrev pub is_given : ScriptState → List Param → List Arg → ℕ → Bool
is_given s [] args c = false
is_given s (p ∷ ps) [] c = false
is_given s (p ∷ ps) (a ∷ as_) c = is_of s a c || is_given s ps as_ c

abbrev pub is_written : ScriptState → List Param → List Arg → ℕ → Bool
is_written s [] args c = false
is_written s (p ∷ ps) [] c = false
is_written s (p ∷ ps) (a ∷ as_) c = (is_of s a c && writes_to p.access) || is_written s ps as_ c

-- The container of an argument isn't that of one after it, where it may be written; and of no one after it that may be
-- written.
pub record IsUnshared (s : ScriptState) (p : Param) (a : Arg) (ps : List Param) (as_ : List Arg) : Type 0 where
  pub written : (c : ℕ) → is_of s a c ≡ true → writes_to p.access ≡ true → is_given s ps as_ c ≡ false
  pub read : (c : ℕ) → is_of s a c ≡ true → is_written s ps as_ c ≡ false

abbrev pub AreUnshared : ScriptState → List Param → List Arg → Type 0
AreUnshared s [] args = Unit {0}
AreUnshared s (p ∷ ps) [] = Unit {0}
AreUnshared s (p ∷ ps) (a ∷ as_) = IsUnshared s p a ps as_ × AreUnshared s ps as_

abbrev pub WrittenArgumentsAreUnshared : Type 0
WrittenArgumentsAreUnshared = (s : ScriptState) (params : List Param) (args : List Arg) (defer : Option (ℕ × ℕ))
    → first_alias [] (givens s params args defer) ≡ None
    → AreUnshared s params args

-- WHAT A PARALLEL KERNEL WRITES IS EACH INDEX'S OWN, WHERE NOTHING IS WAIVED

-- each parameter that may be written has a width of the own-index rule
abbrev pub HaveWidths : Setting → ScriptState → Order → Type 0
HaveWidths g s (Schedule job) =
    let j = job.value in
    let params = params_of g j.kernel in
    (x : ℕ) (p : Param)
    → is_parallel g j.kernel ≡ true
    → j.waive.items ≡ []
    → slice_get params x ≡ Some p
    → writes_to p.access ≡ true
    → 0 < width_of (widths_from (is_parallel g j.kernel) j.waive.items 0 params) x
HaveWidths g s _ = Unit {0}

abbrev pub WrittenParametersHaveWidths : Type 0
WrittenParametersHaveWidths = OfAccepted HaveWidths
