-- What fits a parameter as a value fits it by the contents that it stands for.
use Rattle.std.proofs.Common.{◌≡◌, ◌+◌, ◌≤◌, ℕ, suc, ◌⊎◌, ⊎_elim, Bool, true, false, List, [], ◌∷◌, length, Option, refl, arith}
use Rattle.std.specs.Prelude.{◌<◌}
use Rattle.frame_ast.specs.declared.kernel.ParamKind.{ParamKind}
use Rattle.frame_ast.specs.declared.kernel.ParamKind.TheVariants.{Int as IntKind, Array as ArrayKind, List as ListKind, Ref as RefKind, Map as MapKind, Stream as StreamKind}
use Rattle.frame_ast.specs.declared.kernel.Param.{Param}
use Rattle.frame_ast.specs.declared.name_kind.NameKind.{NameKind}
use Rattle.frame_ast.specs.declared.name_kind.NameKind.TheVariants as kind
use Rattle.frame_ast.specs.declared.script.Arg.{Arg}
use Rattle.frame_ast.specs.declared.script.Arg.TheVariants.{Name, Number}
use Rattle.frame_ast.specs.Accepted.{is_deferred}
use Rattle.frame_ast.specs.Contents.{Contents, Cells as Elements, Single, Items, Pairs, Entries, elements}
use Rattle.frame_ast.specs.Fitting as fit
use Rattle.frame_ast.specs.Kinds.{kind_of}
use Rattle.frame_ast.specs.Schedules.{widths_from}
use Rattle.frame_ast.specs.States.{ScriptState, Value, container_of, container_at, contents_at}

abbrev pub HasElements : Contents → Type 0
HasElements (Elements xs) = Unit {0}
HasElements (Single z) = ⊥
HasElements (Items cap xs) = Unit {0}
HasElements (Pairs cap ps) = ⊥
HasElements (Entries room es) = ⊥

abbrev pub HasSlice : ℕ → ℕ → Contents → Type 0
HasSlice from len (Elements xs) = from + len ≤ length xs
HasSlice from len (Single z) = ⊥
HasSlice from len (Items cap xs) = ⊥
HasSlice from len (Pairs cap ps) = ⊥
HasSlice from len (Entries room es) = ⊥

abbrev pub HasView : Contents → Type 0
HasView (Elements xs) = ⊥
HasView (Single z) = ⊥
HasView (Items cap xs) = Unit {0}
HasView (Pairs cap ps) = ⊥
HasView (Entries room es) = ⊥

abbrev pub IsArrayLike : Value → Contents → Type 0
IsArrayLike Value.Dead c = ⊥
IsArrayLike (Value.Whole n) c = HasElements c
IsArrayLike (Value.Slice n from len) c = HasSlice from len c
IsArrayLike (Value.View n number) c = HasView c
IsArrayLike (Value.Handle jobs) c = ⊥

abbrev pub FitsKind : ParamKind → Value → Contents → Type 0
FitsKind IntKind v c = ⊥
FitsKind ArrayKind v c = IsArrayLike v c
FitsKind ListKind v c = kind_of c ≡ kind.List
FitsKind RefKind v c = kind_of c ≡ kind.Reference
FitsKind MapKind v c = kind_of c ≡ kind.Map
FitsKind StreamKind v c = kind_of c ≡ kind.Stream

abbrev pub ArgFits : ScriptState → Param → Arg → Type 0
ArgFits s p (Name n) = (container_at s n < s.made) × (s.alive (container_at s n) ≡ true) × FitsKind p.kind (s.values n) (contents_at s n)
ArgFits s p (Number z) = p.kind ≡ IntKind

-- with a width for each parameter
abbrev pub ArgsFit : ScriptState → List Param → List ℕ → List Arg → Type 0
ArgsFit s [] [] [] = Unit {0}
ArgsFit s (p ∷ ps) (w ∷ ws) (a ∷ as_) = ArgFits s p a × ArgsFit s ps ws as_
ArgsFit s _ _ _ = ⊥

array_has : (c : Contents) → kind_of c ≡ kind.Array → HasElements c
array_has (Elements xs) e = tt
array_has (Single z) e = cc
array_has (Items cap xs) e = cc
array_has (Pairs cap ps) e = cc
array_has (Entries room es) e = cc

list_has : (c : Contents) → kind_of c ≡ kind.List → HasElements c
list_has (Elements xs) e = cc
list_has (Single z) e = cc
list_has (Items cap xs) e = tt
list_has (Pairs cap ps) e = cc
list_has (Entries room es) e = cc

pub slice_has : (from len : ℕ) (c : Contents) → kind_of c ≡ kind.Array → from + len ≤ length (elements c) → HasSlice from len c
slice_has from len (Elements xs) e le = le
slice_has from len (Single z) e le = cc
slice_has from len (Items cap xs) e le = cc
slice_has from len (Pairs cap ps) e le = cc
slice_has from len (Entries room es) e le = cc

pub view_has : (c : Contents) → kind_of c ≡ kind.List → HasView c
view_has (Elements xs) e = cc
view_has (Single z) e = cc
view_has (Items cap xs) e = tt
view_has (Pairs cap ps) e = cc
view_has (Entries room es) e = cc

whole_is : (s : ScriptState) (k : NameKind) (v : Value) → fit.IsWhole s k v → kind_of (s.contents (container_of v)) ≡ k
whole_is s k Value.Dead f = absurd f
whole_is s k (Value.Whole c) f = f
whole_is s k (Value.Slice c from len) f = absurd f
whole_is s k (Value.View c number) f = absurd f
whole_is s k (Value.Handle jobs) f = absurd f

array_is : (s : ScriptState) (deferred : Bool) (v : Value) → fit.HasElements s deferred v → IsArrayLike v (s.contents (container_of v))
array_is s deferred Value.Dead f = absurd f
array_is s deferred (Value.Whole c) f = ⊎_elim (λ e. array_has (s.contents c) e) (λ e. list_has (s.contents c) e.1) f
array_is s deferred (Value.Slice c from len) f = slice_has from len (s.contents c) f.0 f.1
array_is s deferred (Value.View c number) f = view_has (s.contents c) f.0
array_is s deferred (Value.Handle jobs) f = absurd f

kind_is : (s : ScriptState) (deferred : Bool) (k : ParamKind) (v : Value) → fit.FitsKind s deferred k v → FitsKind k v (s.contents (container_of v))
kind_is s deferred IntKind v f = absurd f
kind_is s deferred ArrayKind v f = array_is s deferred v f
kind_is s deferred ListKind v f = whole_is s kind.List v f
kind_is s deferred RefKind v f = whole_is s kind.Reference v f
kind_is s deferred MapKind v f = whole_is s kind.Map v f
kind_is s deferred StreamKind v f = whole_is s kind.Stream v f

arg_is : (s : ScriptState) (defer : Option (ℕ × ℕ)) (p : Param) (a : Arg) → fit.ArgFits s defer p a → ArgFits s p a
arg_is s defer p (Name n) f = (f.made, f.alive, kind_is s (is_deferred defer n) p.kind (s.values n) f.value)
arg_is s defer p (Number z) f = f

pub args_are : (s : ScriptState) (defer : Option (ℕ × ℕ)) (ps : List Param) (ws : List ℕ) (as_ : List Arg)
    → fit.ArgsFit s defer ps as_ → length ws ≡ length ps → ArgsFit s ps ws as_
args_are s defer [] [] [] f e = tt
args_are s defer [] [] (a ∷ as_) f e = absurd f
args_are s defer [] (w ∷ ws) as_ f e = absurd (omega arith)
args_are s defer (p ∷ ps) [] as_ f e = absurd (omega arith)
args_are s defer (p ∷ ps) (w ∷ ws) [] f e = absurd f
args_are s defer (p ∷ ps) (w ∷ ws) (a ∷ as_) f e = (arg_is s defer p a f.0, args_are s defer ps ws as_ f.1 (omega arith))

-- the language gives each parameter a width
pub length_widths : (parallel : Bool) (waive : List ℕ) (x : ℕ) (ps : List Param) → length (widths_from parallel waive x ps) ≡ length ps
length_widths parallel waive x [] = refl
length_widths parallel waive x (p ∷ ps) = Rattle.std.proofs.Common.ap suc (length_widths parallel waive (x + 1) ps)
