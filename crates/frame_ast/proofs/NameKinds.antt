-- Along an accepted script each name holds a value of its kind, and each container what it can hold.
use Rattle.std.proofs.Common.{◌≡◌, refl, sym, ap, ◌∙◌, subst, ℕ, zero, suc, ◌+◌, ◌≤◌, Bool, true, false, ◌&&◌, ◌⊎◌, ⊎_elim, ℤ, List, [], ◌∷◌, length, take, drop, Option, None, Some, slice_get, Result, Ok, Err, arith}
use Rattle.std.specs.Prelude.{option_map, nat_eq, nat_lt, nat_le, not, IfOk, cond, if◌then◌else◌}
use Rattle.std.proofs.lemmas.Bool.{eqb-true, eq-eqb, ltb-false, leb-true, not-false, and_parts, false≢true}
use Rattle.job_base.specs.declared.Trap.{Trap}
use Rattle.job_base.specs.declared.Trap.TheVariants.{Range}
use Rattle.job_base.specs.declared.Refusal.{Refusal}
use Rattle.job_base.specs.declared.Refusal.TheVariants.{Disposed, Range as PastRange}
use Rattle.frame_ast.specs.declared.script.Arg.{Arg}
use Rattle.frame_ast.specs.declared.script.Life.{Life}
use Rattle.frame_ast.specs.declared.script.Order.{Order}
use Rattle.frame_ast.specs.declared.script.Order.TheVariants.{Array, Column, List as NewList, Reference, Map, Stream, Slice, View, Copy, Set, Add, Put, Remove, Clear, SetCapacity, Schedule, Combine, Complete, CompleteAuto, Dispose, DisposeAuto, Print, Flush, Frame, When}
use Rattle.frame_ast.specs.declared.script.Statement.{Statement}
use Rattle.frame_ast.specs.Contents.{Contents, Cells, Single, Items, Pairs, Entries, IsHeld, elements, set_at, cleared}
use Rattle.frame_ast.specs.Jobs.{only}
use Rattle.frame_ast.specs.States.{Value, ScriptState, at_start, with_at, with_name, with_contents, container_of, container_at, contents_at, is_alive, value_elements}
use Rattle.frame_ast.specs.Refusals.{Refused, refused, disposed}
use Rattle.frame_ast.specs.Lists.{first_some, some_if}
use Rattle.frame_ast.specs.Orders.{Setting, setting, params_of, new_array, set_in, add_in, capacity_in, part_of}
use Rattle.frame_ast.specs.Checks.{refusal}
use Rattle.frame_ast.specs.Effects.{lost, effect, make, accept, changed, dispose, breaks_views, broken_by, views_broken, list_broken}
use Rattle.frame_ast.specs.Scripts.{decided, act_or_pass, act, act_all}
use Rattle.frame_ast.specs.declared.name_kind.NameKind.{NameKind}
use Rattle.frame_ast.specs.declared.name_kind.NameKind.TheVariants.{Array as ArrayName, Slice as SliceName, View as ViewName, List as ListName, Reference as RefName, Map as MapName, Stream as StreamName, Handle as HandleName}
use Rattle.frame_ast.specs.declared.name_kind.TheConstants.{SLICEABLE, CONTAINERS}
use Rattle.frame_ast.specs.Accepted.{Names, set_kinds, args_fit, order_fits, made_after, block_of, statements_fit, uses, makes, copies}
use Rattle.frame_ast.specs.Orders.{made_by}
use Rattle.frame_ast.specs.Forms.{IsKept}
use Rattle.frame_ast.specs.Kinds.{kind_of, IsOfKind, HoldsKinds, NamesKeepTheirKinds}
use Rattle.frame_ast.proofs.Forms.{unwritten_room, Keeps, then_ok, set_at_length, add_kept, add_pair_kept, put_pair_kept, remove_kept, cleared_kept, single_kept}
use Rattle.frame_ast.proofs.Keeping.{RunsKeep, runs_keep}
use Rattle.frame_ast.proofs.Growing.{IsLike, same_like, kept_like, capacity_like, Grows, kind_after, part_length, same_fits, elements_kept}
use Rattle.frame_ast.proofs.Leaving.{accept_after}
use Rattle.frame_ast.proofs.Naming.{one_kind, two_kinds, makes_kind, is_used, copies_kind, args_of}

-- NAMES AND CONTAINERS

abbrev AreOfKinds : List NameKind → ScriptState → (ℕ → Value) → Type 0
AreOfKinds kinds s values = (n : ℕ) (kind : NameKind) → slice_get kinds n ≡ Some kind → IsOfKind s kind (values n)

abbrev Fits : List NameKind → ScriptState → ℕ → Value → Type 0
Fits kinds s name v = (kind : NameKind) → slice_get kinds name ≡ Some kind → IsOfKind s kind v

names_with : (kinds : List NameKind) (s : ScriptState) (values : ℕ → Value) (name : ℕ) (v : Value) → Fits kinds s name v → AreOfKinds kinds s values
    → AreOfKinds kinds s (with_at values name v)
names_with kinds s values name v fits are n kind at =
    elim (nat_eq n name) as (λ b. nat_eq n name ≡ b → IsOfKind s kind (if b then v else values n)) [
      | true ↦ λ e. fits kind (subst (λ m. slice_get kinds m ≡ Some kind) (eqb-true n name e) at)
      | false ↦ λ e. are n kind at
    ] refl

names_after : (kinds : List NameKind) (s after : ScriptState) → Grows s after → (values : ℕ → Value) → AreOfKinds kinds s values → AreOfKinds kinds after values
names_after kinds s after grows values are n kind at = kind_after s after grows kind (values n) (are n kind at)

named_kinds : (kinds : List NameKind) (name : ℕ) (v : Value) (s : ScriptState) → Fits kinds s name v → HoldsKinds kinds s
    → HoldsKinds kinds (with_name name v s)
named_kinds kinds name v s fits k = record { names = names_with kinds s s.values name v fits k.names; containers = k.containers }

contents_kinds : (kinds : List NameKind) (c : ℕ) (new : Contents) (s : ScriptState) → IsLike (s.contents c) new → IsHeld new → HoldsKinds kinds s
    → HoldsKinds kinds (with_contents c new s)
contents_kinds kinds c new s like held k =
    let grows : Grows s (with_contents c new s) = record {
      made = omega arith;
      like = λ d below. elim (nat_eq d c) as (λ b. nat_eq d c ≡ b → IsLike (s.contents d) (if b then new else s.contents d)) [
        | true ↦ λ e. subst (λ m. IsLike (s.contents m) new) (sym (eqb-true d c e)) like
        | false ↦ λ e. same_like (s.contents d)
      ] refl;
    } in
    record {
      names = names_after kinds s (with_contents c new s) grows s.values k.names;
      containers = λ d. elim (nat_eq d c) as (λ b. IsHeld (if b then new else s.contents d)) [ true ↦ held | false ↦ k.containers d ];
    }

-- a change of a container, where it is no trap
abbrev Stays : Contents → Result Contents Trap → Type 0
Stays c r = IfOk r (λ d. IsLike c d × IsHeld d)

stays : (c : Contents) (r : Result Contents Trap) → Keeps c r → Stays c r
stays c (Ok d) k = (kept_like c d k, k.held)
stays c (Err t) k = tt

changed_kinds : (kinds : List NameKind) (name : ℕ) (r : Result Contents Trap) (s : ScriptState) → Stays (contents_at s name) r → HoldsKinds kinds s
    → HoldsKinds kinds (changed name r s)
changed_kinds kinds name (Ok c) s stay k = contents_kinds kinds (container_at s name) c s stay.0 stay.1 k
changed_kinds kinds name (Err t) s stay k = k

list_kinds : (kinds : List NameKind) (c : Contents) (n : ℕ) (s : ScriptState) → HoldsKinds kinds s → HoldsKinds kinds (list_broken c n s)
list_kinds kinds (Cells xs) n s k = k
list_kinds kinds (Single z) n s k = k
list_kinds kinds (Items cap xs) n s k = record { names = k.names; containers = k.containers }
list_kinds kinds (Pairs cap ps) n s k = k
list_kinds kinds (Entries room es) n s k = k

views_kinds : (kinds : List NameKind) (name : ℕ) (s : ScriptState) → HoldsKinds kinds s → HoldsKinds kinds (views_broken name s)
views_kinds kinds name s k = list_kinds kinds (contents_at s name) (container_at s name) s k

broken_kinds : (kinds : List NameKind) (r : Refusal) (name : ℕ) (s : ScriptState) → HoldsKinds kinds s → HoldsKinds kinds (broken_by r name s)
broken_kinds kinds r name s k =
    elim (breaks_views r) as (λ b. HoldsKinds kinds (if b then views_broken name s else s)) [ true ↦ views_kinds kinds name s k | false ↦ k ]

-- NEW CONTAINERS

same_at : (table : ℕ → Contents) (n : ℕ) (x : Contents) → with_at table n x n ≡ x
same_at table n x = ap (λ b. if b then x else table n) (eq-eqb n n refl)

made_kinds : (kinds : List NameKind) (line name : ℕ) (life : Life) (contents : Contents) (s : ScriptState)
    → ((kind : NameKind) → slice_get kinds name ≡ Some kind → kind ≡ kind_of contents) → IsHeld contents → HoldsKinds kinds s
    → HoldsKinds kinds (make line name life contents s)
made_kinds kinds line name life contents s fits held k =
    let after : ScriptState = make line name life contents s in
    let grows : Grows s after = record {
      made = omega arith;
      like = λ d below. elim (nat_eq d s.made) as (λ b. nat_eq d s.made ≡ b → IsLike (s.contents d) (if b then contents else s.contents d)) [
        | true ↦ λ e. let same : d ≡ s.made = eqb-true d s.made e in absurd (omega arith)
        | false ↦ λ e. same_like (s.contents d)
      ] refl;
    } in
    record {
      names = names_with kinds after s.values name (Value.Whole s.made) (λ kind at.
          (fits kind at ∙ ap kind_of (sym (same_at s.contents s.made contents)), omega arith)) (names_after kinds s after grows s.values k.names);
      containers = λ d. elim (nat_eq d s.made) as (λ b. IsHeld (if b then contents else s.contents d)) [ true ↦ held | false ↦ k.containers d ];
    }

array_kind : (g : Setting) (len : ℕ) (values : Option ℕ) → kind_of (new_array g len values) ≡ ArrayName
array_kind g len None = refl
array_kind g len (Some n) = refl

array_held : (g : Setting) (len : ℕ) (values : Option ℕ) → IsHeld (new_array g len values)
array_held g len None = tt
array_held g len (Some n) = tt

-- SLICES AND VIEWS

pub first_none : (o : Option Refused) (more : List (Option Refused)) → first_some (o ∷ more) ≡ None → (o ≡ None) × (first_some more ≡ None)
unfolding first_some
first_none None more h = (refl, h)
first_none (Some r) more h = absurd cc

some_if_none : (b : Bool) (r : Refused) → some_if b r ≡ None → b ≡ false
some_if_none true r h = absurd cc
some_if_none false r h = refl

-- a name that isn't refused as disposed stands for a container
pub lives : (s : ScriptState) (name : ℕ) → disposed s (name ∷ []) ≡ None → is_alive s (s.values name) ≡ true
lives s name = elim (is_alive s (s.values name)) as (λ b. option_map (refused Disposed) (cond (not b) (Some name) None) ≡ None
    → b ≡ true) [ true ↦ λ h. refl | false ↦ λ h. absurd cc ]

-- and where it is of none of the kinds that stand for a part or a view, for a whole container
pub whole_kind : (s : ScriptState) (kind : NameKind) (v : Value) → is_alive s v ≡ true → IsOfKind s kind v → (kind ≡ SliceName → ⊥) → (kind ≡ ViewName → ⊥)
    → kind_of (s.contents (container_of v)) ≡ kind
whole_kind s kind Value.Dead alive h slice view = absurd (false≢true alive)
whole_kind s kind (Value.Whole c) alive h slice view = sym h.0
whole_kind s kind (Value.Slice c start len) alive h slice view = absurd (slice h.0)
whole_kind s kind (Value.View c number) alive h slice view = absurd (view h.0)
whole_kind s kind (Value.Handle jobs) alive h slice view = absurd (false≢true alive)

-- a slice that isn't refused lies within what it is of
slice_within : (s : ScriptState) (of start len : ℕ) → first_some (disposed s (of ∷ [])
    ∷ some_if (not (nat_le (start + len) (length (value_elements (s.values of) (contents_at s of))))) (refused PastRange of) ∷ []) ≡ None
    → start + len ≤ length (value_elements (s.values of) (contents_at s of))
slice_within s of start len none =
    let fits : Bool = nat_le (start + len) (length (value_elements (s.values of) (contents_at s of))) in
    let past : Option Refused = some_if (not fits) (refused PastRange of) in
    leb-true (start + len) (length (value_elements (s.values of) (contents_at s of)))
    (not-false fits (some_if_none (not fits) (refused PastRange of) (first_none past [] (first_none (disposed s (of ∷ [])) (past ∷ []) none).1).0))

no_slices : (c : Contents) → kind_of c ≡ SliceName → ⊥
no_slices (Cells xs) h = cc
no_slices (Single z) h = cc
no_slices (Items cap xs) h = cc
no_slices (Pairs cap ps) h = cc
no_slices (Entries room es) h = cc

part_kind : (s : ScriptState) (kind : NameKind) (v : Value) (start len : ℕ) → (kind ≡ ArrayName) ⊎ (kind ≡ SliceName) → IsOfKind s kind v
    → start + len ≤ length (value_elements v (s.contents (container_of v))) → IsOfKind s SliceName (part_of v start len)
part_kind s kind Value.Dead start len either h within = tt
part_kind s kind (Value.Whole c) start len either h within = ⊎_elim
    (λ e. (refl, h.1, sym h.0 ∙ e, within))
    (λ e. absurd (no_slices (s.contents c) (sym h.0 ∙ e)))
    either
part_kind s kind (Value.Slice c first have) start len either h within =
    let part : length (take have (drop first (elements (s.contents c)))) ≡ have = part_length (elements (s.contents c)) first have h.3 in
    let inside = h.3 in
    (refl, h.1, h.2, omega arith)
part_kind s kind (Value.View c number) start len either h within = ⊎_elim (λ e. absurd cc) (λ e. absurd cc) either
part_kind s kind (Value.Handle jobs) start len either h within = tt

view_kind : (s : ScriptState) (v : Value) → is_alive s v ≡ true → IsOfKind s ListName v
    → IsOfKind s ViewName (Value.View (container_of v) (s.view (container_of v)))
view_kind s Value.Dead alive h = absurd (false≢true alive)
view_kind s (Value.Whole c) alive h = (refl, h.1, sym h.0)
view_kind s (Value.Slice c start len) alive h = absurd cc
view_kind s (Value.View c number) alive h = absurd cc
view_kind s (Value.Handle jobs) alive h = absurd (false≢true alive)

-- CHANGES

pub set_stays : (s : ScriptState) (kind : NameKind) (v : Value) (at : Option ℤ) (n : ℤ) → IsOfKind s kind v → IsHeld (s.contents (container_of v))
    → Keeps (s.contents (container_of v)) (set_in v (s.contents (container_of v)) at n)
set_stays s kind v None n h held = single_kept n (s.contents (container_of v)) held
set_stays s kind v (Some i) n h held =
    let c = s.contents (container_of v) in
    then_ok (λ ys. length ys ≡ length (value_elements v c)) (IsKept c) (set_at (value_elements v c) i n) _ (set_at_length (value_elements v c) i n)
    (λ ys e. elements_kept v ys c held (same_fits s kind v ys h held e))

pub add_stays : (c : Contents) (first : ℤ) (second : Option ℤ) → IsHeld c → Keeps c (add_in c first second)
add_stays c first None held = add_kept first c held
add_stays c first (Some second) held = add_pair_kept first second c held

capacity_stays : (n : ℕ) (c : Contents) → IsHeld c → Stays c (capacity_in c n)
capacity_stays n (Cells xs) held = tt
capacity_stays n (Single z) held = tt
capacity_stays n (Items cap xs) held =
    elim (nat_lt n cap) as (λ b. nat_lt n cap ≡ b → Stays (Items cap xs) (if b then Err Range else Ok (Items n xs))) [
      | true ↦ λ e. tt
      | false ↦ λ e. let low = ltb-false n cap e in (capacity_like cap n xs, omega arith)
    ] refl
capacity_stays n (Pairs cap ps) held = tt
capacity_stays n (Entries room es) held = tt

-- A SCHEDULE

accept_kinds : (g : Setting) → RunsKeep g.runs → (ns : Names) (s : ScriptState) (auto : Bool) (handle kernel : ℕ) (args : List Arg) (cut defer : Option (ℕ × ℕ))
    (waive after : List ℕ) → makes ns handle HandleName ≡ true → args_fit ns defer (params_of g kernel) args ≡ true → HoldsKinds ns.kinds s
    → HoldsKinds ns.kinds (accept g s auto handle kernel args cut defer waive after)
accept_kinds g keep ns s auto handle kernel args cut defer waive after made fits k =
    let done : ScriptState = accept g s auto handle kernel args cut defer waive after in
    let left = accept_after g keep ns s auto handle kernel args cut defer waive after fits k in
    let grows : Grows s done = record { made = omega (arith, left.made); like = λ c below. kept_like (s.contents c) _ (left.contents c) } in
    record {
      names = names_with ns.kinds done s.values handle (Value.Handle (only (s.book.count + 1))) (λ kind at. makes_kind ns handle HandleName made kind at)
          (names_after ns.kinds s done grows s.values k.names);
      containers = λ c. (left.contents c).held;
    }

-- STATEMENTS

effect_kinds : (g : Setting) → RunsKeep g.runs → (line : ℕ) (ns : Names) (rest inside : ℕ) (s : ScriptState) (x : Order)
    → order_fits ns g.literals g.kernels rest inside x ≡ true → refusal g s x ≡ None → HoldsKinds ns.kinds s → HoldsKinds ns.kinds (effect g line s x)
effect_kinds g keep line ns rest inside s (Array name len life values) fits none k =
    made_kinds ns.kinds line name life _ s (λ kind at. makes_kind ns name ArrayName (and_parts _ _ fits).0 kind at ∙ sym (array_kind g len values))
    (array_held g len values) k
effect_kinds g keep line ns rest inside s (Column name column life) fits none k =
    made_kinds ns.kinds line name life _ s (makes_kind ns name ArrayName (and_parts _ _ fits).0) tt k
effect_kinds g keep line ns rest inside s (NewList name cap life) fits none k =
    made_kinds ns.kinds line name life _ s (makes_kind ns name ListName (and_parts _ _ fits).0) (omega arith) k
effect_kinds g keep line ns rest inside s (Reference name life value) fits none k =
    made_kinds ns.kinds line name life _ s (makes_kind ns name RefName fits) tt k
effect_kinds g keep line ns rest inside s (Map name cap life) fits none k =
    made_kinds ns.kinds line name life _ s (makes_kind ns name MapName (and_parts _ _ fits).0) (omega arith, refl) k
effect_kinds g keep line ns rest inside s (Stream name count room life) fits none k =
    made_kinds ns.kinds line name life _ s (makes_kind ns name StreamName (and_parts _ _ fits).0) (unwritten_room room count) k
effect_kinds g keep line ns rest inside s (Slice name of start len) fits none k =
    let names = and_parts (makes ns name SliceName && uses ns of SLICEABLE) _ fits in
    let both = and_parts (makes ns name SliceName) (uses ns of SLICEABLE) names.0 in
    let used = is_used ns of SLICEABLE both.1 in
    named_kinds ns.kinds name (part_of (s.values of) start len) s (λ kind at.
    subst (λ j. IsOfKind s j (part_of (s.values of) start len)) (sym (makes_kind ns name SliceName both.0 kind at))
    (part_kind s used.kind (s.values of) start len (two_kinds used.kind ArrayName SliceName used.fits) (k.names of used.kind used.at)
    (slice_within s of start len none))) k
effect_kinds g keep line ns rest inside s (View name of) fits none k =
    let both = and_parts (makes ns name ViewName) (uses ns of (ListName ∷ [])) fits in
    let used = is_used ns of (ListName ∷ []) both.1 in
    let held = subst (λ j. IsOfKind s j (s.values of)) (one_kind used.kind ListName used.fits) (k.names of used.kind used.at) in
    named_kinds ns.kinds name _ s (λ kind at.
    subst (λ j. IsOfKind s j (Value.View (container_at s of) (s.view (container_at s of)))) (sym (makes_kind ns name ViewName both.0 kind at))
    (view_kind s (s.values of) (lives s of none) held)) k
effect_kinds g keep line ns rest inside s (Copy name of) fits none k =
    let both = and_parts (uses ns of CONTAINERS) (copies ns name (slice_get ns.kinds of)) fits in
    let used = is_used ns of CONTAINERS both.0 in
    named_kinds ns.kinds name (s.values of) s (λ kind at.
    subst (λ j. IsOfKind s j (s.values of)) (sym (copies_kind ns name of used.kind used.at both.1 kind at)) (k.names of used.kind used.at)) k
effect_kinds g keep line ns rest inside s (Set name at value) fits none k =
    let used = is_used ns name (set_kinds at) fits in
    changed_kinds ns.kinds name _ s (stays _ _ (set_stays s used.kind (s.values name) at value (k.names name used.kind used.at)
    (k.containers (container_at s name)))) k
effect_kinds g keep line ns rest inside s (Add name first second) fits none k =
    views_kinds ns.kinds name _ (changed_kinds ns.kinds name _ s (stays _ _ (add_stays (contents_at s name) first second (k.containers (container_at s name))))
    k)
effect_kinds g keep line ns rest inside s (Put name key value) fits none k =
    changed_kinds ns.kinds name _ s (stays _ _ (put_pair_kept key value (contents_at s name) (k.containers (container_at s name)))) k
effect_kinds g keep line ns rest inside s (Remove name at) fits none k = views_kinds ns.kinds name _
    (changed_kinds ns.kinds name _ s (stays _ _ (remove_kept at (contents_at s name) (k.containers (container_at s name)))) k)
effect_kinds g keep line ns rest inside s (Clear name) fits none k = views_kinds ns.kinds name _
    (changed_kinds ns.kinds name (Ok (cleared (contents_at s name))) s (stays (contents_at s name) (Ok (cleared (contents_at s name)))
    (cleared_kept (contents_at s name) (k.containers (container_at s name)))) k)
effect_kinds g keep line ns rest inside s (SetCapacity name cap) fits none k =
    let after = views_kinds ns.kinds name _ (changed_kinds ns.kinds name _ s
    (capacity_stays cap (contents_at s name) (k.containers (container_at s name))) k) in
    record { names = after.names; containers = after.containers }
effect_kinds g keep line ns rest inside s (Schedule job) fits none k =
    let both = and_parts (makes ns job.value.handle HandleName) _ fits in
    accept_kinds g keep ns s job.value.auto job.value.handle job.value.kernel job.value.args.items job.value.cut job.value.defer job.value.waive.items
    job.value.after.items both.0 (args_of ns (slice_get g.kernels job.value.kernel) job.value.args.items job.value.cut job.value.defer job.value.waive.items
    job.value.after.items both.1) k
effect_kinds g keep line ns rest inside s (Combine name of) fits none k = named_kinds ns.kinds name _ s (makes_kind ns name HandleName (and_parts _ _ fits).0) k
effect_kinds g keep line ns rest inside s (Complete name) fits none k = record { names = k.names; containers = k.containers }
effect_kinds g keep line ns rest inside s (CompleteAuto name) fits none k = record { names = k.names; containers = k.containers }
effect_kinds g keep line ns rest inside s (Dispose name after None) fits none k = record { names = k.names; containers = k.containers }
effect_kinds g keep line ns rest inside s (Dispose name after (Some handle)) fits none k =
    named_kinds ns.kinds handle _ (dispose name s) (makes_kind ns handle HandleName (and_parts _ _ (and_parts _ _ fits).1).0)
    (record { names = k.names; containers = k.containers })
effect_kinds g keep line ns rest inside s (DisposeAuto name handle) fits none k =
    named_kinds ns.kinds handle _ (dispose name s) (makes_kind ns handle HandleName (and_parts _ _ fits).1)
    (record { names = k.names; containers = k.containers })
effect_kinds g keep line ns rest inside s (Print name) fits none k = record { names = k.names; containers = k.containers }
effect_kinds g keep line ns rest inside s Flush fits none k = k
effect_kinds g keep line ns rest inside s Frame fits none k = record { names = k.names; containers = k.containers }
effect_kinds g keep line ns rest inside s (When name sign value count) fits none k = record { names = k.names; containers = k.containers }

lost_kinds : (r : Refusal) (g : Setting) (ns : Names) (rest inside : ℕ) (s : ScriptState) (x : Order) → order_fits ns g.literals g.kernels rest inside x ≡ true
    → HoldsKinds ns.kinds s → HoldsKinds ns.kinds (lost r x s)
lost_kinds r g ns rest inside s (Array name len life values) fits k = named_kinds ns.kinds name Value.Dead s (λ kind at. tt) k
lost_kinds r g ns rest inside s (Column name column life) fits k = named_kinds ns.kinds name Value.Dead s (λ kind at. tt) k
lost_kinds r g ns rest inside s (NewList name cap life) fits k = named_kinds ns.kinds name Value.Dead s (λ kind at. tt) k
lost_kinds r g ns rest inside s (Reference name life value) fits k = named_kinds ns.kinds name Value.Dead s (λ kind at. tt) k
lost_kinds r g ns rest inside s (Map name cap life) fits k = named_kinds ns.kinds name Value.Dead s (λ kind at. tt) k
lost_kinds r g ns rest inside s (Stream name count room life) fits k = named_kinds ns.kinds name Value.Dead s (λ kind at. tt) k
lost_kinds r g ns rest inside s (Slice name of start len) fits k = named_kinds ns.kinds name Value.Dead s (λ kind at. tt) k
lost_kinds r g ns rest inside s (View name of) fits k = named_kinds ns.kinds name Value.Dead s (λ kind at. tt) k
lost_kinds r g ns rest inside s (Add name first second) fits k = broken_kinds ns.kinds r name s k
lost_kinds r g ns rest inside s (Remove name at) fits k = broken_kinds ns.kinds r name s k
lost_kinds r g ns rest inside s (SetCapacity name cap) fits k = broken_kinds ns.kinds r name s k
lost_kinds r g ns rest inside s (Schedule job) fits k = named_kinds ns.kinds job.value.handle _ s
    (makes_kind ns job.value.handle HandleName (and_parts _ _ fits).0) k
lost_kinds r g ns rest inside s (Dispose name after None) fits k = k
lost_kinds r g ns rest inside s (Dispose name after (Some handle)) fits k =
    named_kinds ns.kinds handle _ s (makes_kind ns handle HandleName (and_parts _ _ (and_parts _ _ fits).1).0) k
lost_kinds r g ns rest inside s (DisposeAuto name handle) fits k = named_kinds ns.kinds handle _ s (makes_kind ns handle HandleName (and_parts _ _ fits).1) k
lost_kinds r g ns rest inside s (When name sign value count) fits k = record { names = k.names; containers = k.containers }
lost_kinds r g ns rest inside s x fits k = k

decided_kinds : (o : Option Refused) (g : Setting) → RunsKeep g.runs → (ns : Names) (rest inside : ℕ) (s : ScriptState) (x : Statement)
    → order_fits ns g.literals g.kernels rest inside x.act ≡ true → refusal g s x.act ≡ o → HoldsKinds ns.kinds s → HoldsKinds ns.kinds (decided o g s x)
decided_kinds None g keep ns rest inside s x fits none k = effect_kinds g keep x.line ns rest inside s x.act fits none k
decided_kinds (Some r) g keep ns rest inside s x fits is k = let after = lost_kinds r.cause g ns rest inside s x.act fits k in
    record { names = after.names; containers = after.containers }

act_kinds : (n : ℕ) (g : Setting) → RunsKeep g.runs → (ns : Names) (rest inside : ℕ) (s : ScriptState) (x : Statement)
    → order_fits ns g.literals g.kernels rest inside x.act ≡ true → HoldsKinds ns.kinds s → HoldsKinds ns.kinds (act_or_pass n g s x)
act_kinds zero g keep ns rest inside s x fits k = decided_kinds (refusal g s x.act) g keep ns rest inside s x fits refl k
act_kinds (suc n) g keep ns rest inside s x fits k = record { names = k.names; containers = k.containers }

all_kinds : (g : Setting) → RunsKeep g.runs → (n : ℕ) (xs : List Statement) (ns : Names) (inside : ℕ) (s : ScriptState)
    → statements_fit ns g.literals g.kernels inside xs ≡ true → HoldsKinds ns.kinds s → HoldsKinds ns.kinds (act_all g (take n xs) s)
all_kinds g keep zero xs ns inside s fits k = k
all_kinds g keep (suc n) [] ns inside s fits k = k
all_kinds g keep (suc n) (x ∷ more) ns inside s fits k =
    let both = and_parts (order_fits ns g.literals g.kernels (length more) inside x.act)
    (statements_fit (record ns { made = made_after ns.made (made_by x.act) }) g.literals g.kernels (block_of x.act inside) more) fits in
    all_kinds g keep n more (record ns { made = made_after ns.made (made_by x.act) }) (block_of x.act inside) (act g s x) both.1
    (act_kinds s.passing g keep ns (length more) inside s x both.0 k)

pub names_keep_their_kinds : NamesKeepTheirKinds
names_keep_their_kinds script is table n =
    all_kinds (setting script table) (runs_keep script.kernels.items is.kernels) n script.statements.items
    (record { kinds = is.kinds; made = 0 }) 0 at_start is.fits (record { names = λ n kind at. tt; containers = λ c. tt })
