-- `slice`, `view`, `copy`, `combine` and `flush`: what they are ready for, and that they go on, refused or not.
use Rattle.std.proofs.Common.{◌≡◌, ℕ, zero, suc, ◌+◌, ◌^◌, ◌<◌, ◌≤◌, ◌⊎◌, inr, ⊎_elim, Bool, true, false, cond, not, ◌&&◌, List, [], ◌∷◌, length, Option, Some, None, refl, sym, ap, subst, ◌∙◌, arith}
use Rattle.std.specs.Prelude.{slice_get, get_or, if◌then◌else◌, vec_len, option_map, nat_le, Vec}
use Rattle.std.specs.declared.alloc.Global.{Global}
use Rattle.std.specs.List.{All, list_any}
use Rattle.std.proofs.lemmas.Bool.{and_parts, cases_eq, leb-true}
use Rattle.job_base.specs.declared.Refusal.{Refusal}
use Rattle.job_base.specs.declared.Refusal.TheVariants.{Disposed, Range as PastRange}
use Rattle.job_base.specs.declared.limits.TheConstants.{MOST_ELEMENTS, MOST_LIVE_WORDS, MOST_STATEMENTS}
use Rattle.frame_ast.specs.declared.name_kind.NameKind.{NameKind}
use Rattle.frame_ast.specs.declared.name_kind.NameKind.TheVariants as kind
use Rattle.frame_ast.specs.declared.name_kind.TheConstants.{CONTAINERS, SLICEABLE}
use Rattle.frame_ast.specs.declared.script.Order.TheVariants.{Slice as SliceOf, View as ViewOf, Copy as CopyOf, Combine as CombineOf, Flush as FlushAll}
use Rattle.frame_ast.specs.declared.script.Script.{Script}
use Rattle.frame_ast.specs.declared.script.Statement.{Statement}
use Rattle.frame_ast.specs.Accepted.{Names, same_kind, uses, makes, copies, up_to, all_used}
use Rattle.frame_ast.specs.Checks.{refusal}
use Rattle.frame_ast.specs.Contents.{Contents, Cells as Elements, Single, Items, Pairs, Entries, elements, words_of}
use Rattle.frame_ast.specs.Effects.{effect}
use Rattle.frame_ast.specs.Jobs.{Jobs}
use Rattle.frame_ast.specs.Kinds.{kind_of, IsOfKind}
use Rattle.frame_ast.specs.Lists.{first_some, some_if}
use Rattle.frame_ast.specs.Orders.{Table, Setting, setting, part_of}
use Rattle.frame_ast.specs.Refusals.{Refused, refused, jobs_named}
use Rattle.frame_ast.specs.States as states
use Rattle.frame_ast.specs.States.{ScriptState, with_name, container_at, contents_at, is_alive, is_live, live_words, value_elements}
use Rattle.frame_ast.proofs.Growing.{part_length}
use Rattle.frame_ast.proofs.Naming.{IsUsed, is_used, two_kinds, one_kind}
use Rattle.job_handle.specs.declared.handle.Handle.{Handle}
use Rattle.job_handle.specs.Sets.{jobs_of}
use Rattle.safety_handle.specs.Entries.{state_of}
use Rattle.kernel_exec.specs.declared.binds.Bind.{Bind}
use Rattle.frame_core.specs.declared.plan.Act.TheVariants.{Say}
use Rattle.frame_core.proofs.Small.{not_both, some_is, none_some, get_below}
use Rattle.plan_laws.specs.Binds.{bind_of}
use Rattle.plan_laws.specs.Planned.{IsPlanned}
use Rattle.plan_laws.proofs.Statements.Disposing.{others_are_planned}
use Rattle.plan_laws.proofs.Statements.Making.{at_here, at_other, alive_is_live}
use Rattle.plan_state.specs.declared.state.Value.{Value}
use Rattle.plan_state.specs.declared.state.Value.TheVariants.{Dead, Whole, Slice, View, Jobs as Handles}
use Rattle.plan_state.specs.declared.state.Container.{Container}
use Rattle.plan_state.specs.declared.state.Planner.{Planner}
use Rattle.plan_state.specs.declared.state.World.{World}
use Rattle.plan_state.specs.Accesses.{slice_in, bind_from, bind_in, bind_by, length_in, start_of, part_by, IsPushed, IsRenamed, HasHandle, IsGone, IsRefusal, IsLiveSlot, IsWholeAlive, AreThere, jobs_by, view_of, view_number, view_by}
use Rattle.plan_state.specs.Stands.{value_for, jobs_at, IsThere, AreNames, Stands, draft_of}
use Rattle.plan_state.specs.Growth.{given_in}
use Rattle.plan_state.specs.Steps.{state_at, IsStep, IsBefore, HasStepped, IsReady, GoesOn}
use Rattle.plan_state.proofs.Accessing.{are_there, there}
use Rattle.plan_state.proofs.Naming.{IsNamed, set_long, renamed_names, handle_names, handles_more, jobs_are}
use Rattle.plan_state.proofs.Quiet.{IsPlain}
use Rattle.plan_state.proofs.Reaching.{fits_at, holds_kinds, used_below, made_below, statements_few, within}
use Rattle.plan_state.proofs.Restating.{accepted_on, calm, changed_fields, said_dead}

-- ---- an accepted statement that only names

named : (s : ScriptState) (name : ℕ) (v : states.Value) → IsNamed s (with_name name v s) name v
named s name v = record { here = at_here s.values name v; others = λ m ne. at_other s.values name v m ne }

module _ {script : Script} {table : Table} {p : Planner} {x : Statement} (b : IsBefore script table p x) (last : World) (name : ℕ) where
  open b use {n, stands as st}

  abbrev q : Planner
  q = record p { world = last }

  abbrev g : Setting
  g = setting script table

  abbrev s : ScriptState
  s = state_at script table n

  abbrev Onward : Type 0
  Onward = HasStepped b q

  module _ (none : refusal g s x.act ≡ None) (plain : IsPlain g x.act) where
    -- with a value that is no handle
    pub renamed_on : (v : Value) (w : states.Value) → effect g x.line s x.act ≡ with_name name w s → IsRenamed p.world last name v
        → IsThere (length p.world.containers.items) (length p.world.handles.items) v → ((k : ℕ) → v ≡ Handles k → ⊥) → value_for p.world.handles.items v ≡ w
        → Onward
    renamed_on v w is e there no_jobs stands =
        let rest = ap (λ (k : World). record p { world = k }) e.rest in
        let t = effect g x.line s x.act in
        let handles = ap (λ (k : Planner). k.world.handles.items) rest in
        let ops = ap (λ (k : Planner). k.draft.ops.items) rest in
        accepted_on b q none plain (ap (λ (k : Planner). given_in k.draft.ops.items) rest) (calm st
        (changed_fields p q q.world.values p.world.handles p.world.safety p.world.passing p.draft.ops rest)
        (subst (λ (u : ScriptState). u ≡ record s {
          values = u.values;
          contents = u.contents;
          view = u.view;
          refused = u.refused;
          passing = u.passing;
          lines = u.lines;
        }) (sym is) refl)
        (ap (λ (k : Planner). k.world.safety) rest) (ap (λ (u : ScriptState). u.view) is) (ap (λ (u : ScriptState). u.contents) is)
        (ap (λ (k : Planner). k.world.passing) rest ∙ st.numbers.passing ∙ sym (ap (λ (u : ScriptState). u.passing) is))
        (ap length e.values ∙ set_long p.world.values.items name v) (let l = ap length handles in omega arith) (let l = ap length ops in omega arith))
        (subst (λ hs. AreNames q.world.values.items hs (length p.world.containers.items) t) (sym handles)
        (renamed_names p.world.values.items q.world.values.items p.world.handles.items
        (length p.world.containers.items) s t name v w st.knows.names e.values there no_jobs stands
        (subst (λ u. IsNamed s u name w) (sym is) (named s name w))))
        (λ y a. subst (λ u. IsPlanned y u (draft_of q)) (sym is)
        (subst (λ k. IsPlanned y (with_name name w s) (draft_of k)) (sym rest)
        (others_are_planned y s (with_name name w s) _ (record {
          made = refl;
          contents = refl;
          alive = refl;
          uses = refl;
          range = refl;
          book = refl;
          traps = refl;
          refused = refl;
          lines = refl;
        }) (st.planned y a))))

    -- with some jobs
    pub handle_on : (jobs : Jobs) → effect g x.line s x.act ≡ with_name name (states.Handle jobs) s → HasHandle p.world last name jobs → Onward
    handle_on jobs is e =
        let rest = ap (λ (k : World). record p { world = k }) e.rest in
        let t = effect g x.line s x.act in
        let ops = ap (λ (k : Planner). k.draft.ops.items) rest in
        let is_named = subst (λ u. IsNamed s u name (states.Handle jobs)) (sym is) (named s name (states.Handle jobs)) in
        accepted_on b q none plain (ap (λ (k : Planner). given_in k.draft.ops.items) rest) (calm st
        (changed_fields p q q.world.values q.world.handles p.world.safety p.world.passing p.draft.ops rest)
        (subst (λ (u : ScriptState). u ≡ record s {
          values = u.values;
          contents = u.contents;
          view = u.view;
          refused = u.refused;
          passing = u.passing;
          lines = u.lines;
        }) (sym is) refl)
        (ap (λ (k : Planner). k.world.safety) rest) (ap (λ (u : ScriptState). u.view) is) (ap (λ (u : ScriptState). u.contents) is)
        (ap (λ (k : Planner). k.world.passing) rest ∙ st.numbers.passing ∙ sym (ap (λ (u : ScriptState). u.passing) is))
        (ap length e.values ∙ set_long p.world.values.items name (Handles e.place))
        (handles_more p.world last (length p.world.containers.items) s t name jobs st.knows.names e is_named).1 (let l = ap length ops in omega arith))
        (handle_names p.world last (length p.world.containers.items) s t name jobs st.knows.names e is_named)
        (λ y a. subst (λ u. IsPlanned y u (draft_of q)) (sym is)
        (subst (λ k. IsPlanned y (with_name name (states.Handle jobs) s) (draft_of k)) (sym rest)
        (others_are_planned y s (with_name name (states.Handle jobs) s) _
        (record { made = refl; contents = refl; alive = refl; uses = refl; range = refl; book = refl; traps = refl; refused = refl; lines = refl })
        (st.planned y a))))

-- a name of a container is no handle
container_no_jobs : (s : ScriptState) (k : NameKind) (handles : List Handle) (v : Value) (j : ℕ) → IsOfKind s k (value_for handles v) → (k ≡ kind.Handle → ⊥)
    → j < length handles → v ≡ Handles j → ⊥
container_no_jobs s k handles v j h other lt e =
    let at : (o : Option Handle) × (slice_get handles j ≡ o) = (slice_get handles j, refl) in
    by (slice_get handles j) (there handles j lt) (subst (λ v. IsOfKind s k (value_for handles v)) e h)
  where
    by : (o : Option Handle) → (it : Handle) × (o ≡ Some it) → IsOfKind s k (jobs_at o) → ⊥
    by None it h = none_some it.1
    by (Some it) _ h = other h

no_handle : (k : NameKind) → list_any (same_kind k) CONTAINERS ≡ true → k ≡ kind.Handle → ⊥
no_handle k fits e = not_both (subst (λ k. list_any (same_kind k) CONTAINERS ≡ true) e fits) refl

-- ---- `copy`

module _ (line name of : ℕ) where
  abbrev copy : Statement
  copy = record { line = line; act = CopyOf name of }

  module _ {script : Script} {table : Table} {n : ℕ} (step : IsStep script table n copy) where
    abbrev names_at : ℕ → Names
    names_at made = record { kinds = step.accepted.kinds; made = made }

    -- its source is a name of a container
    copy_used : (made : ℕ) × (uses (names_at made) of CONTAINERS ≡ true) × (copies (names_at made) name (slice_get step.accepted.kinds of) ≡ true)
    copy_used =
        let f = fits_at step in
        let both = and_parts (uses (names_at f.made) of CONTAINERS) (copies (names_at f.made) name (slice_get step.accepted.kinds of)) f.fits in
        (f.made, both.0, both.1)

    copy_below : name < length (setting script table).names
    copy_below = by (slice_get step.accepted.kinds of) copy_used.2
      where
        by : (o : Option NameKind) → copies (names_at copy_used.0) name o ≡ true → name < length (setting script table).names
        by None h = absurd (not_both h refl)
        by (Some k) h = made_below step copy_used.0 name k h

  pub copy_ready : (p : Planner) → IsReady p copy → (of < vec_len p.world.values) × (name < vec_len p.world.values)
  copy_ready p r =
      let b = r.2 in
      let u = copy_used b.step in (
        within b.stands of (used_below b.step u.0 of CONTAINERS u.1),
        within b.stands name (copy_below b.step),
      )

  pub copied : (p : Planner) (w : World) (v : Value) → slice_get p.world.values.items of ≡ Some v → IsRenamed p.world w name v
      → GoesOn p (record p { world = w }) copy
  copied p w v h e script table b =
      let s = state_at script table b.n in
      let u = copy_used b.step in
      let used = is_used (names_at b.step u.0) of CONTAINERS u.1 in
      let stands = b.stands.knows.names.are of v h in
      let held = subst (IsOfKind s used.kind) (sym stands) ((holds_kinds b.step).names of used.kind used.at) in
      renamed_on b w name refl (refl, tt) v (s.values of) refl e (b.stands.knows.names.there of v h)
      (λ k is. container_no_jobs s used.kind p.world.handles.items v k held (no_handle used.kind used.fits)
      (b.stands.knows.names.there of (Handles k) (h ∙ ap Some is)) is) stands

-- by what is answered of a name
alive_by : (s : ScriptState) (of : ℕ) (b : Bool) → b ≡ not (is_alive s (s.values of)) → b ≡ false → is_alive s (s.values of) ≡ true
alive_by s of b e f = by (is_alive s (s.values of)) (sym e ∙ f)
  where
    by : (a : Bool) → not a ≡ false → a ≡ true
    by true e = refl
    by false e = absurd (not_both refl e)

dead_by : (s : ScriptState) (of : ℕ) (b : Bool) → b ≡ not (is_alive s (s.values of)) → b ≡ true → is_alive s (s.values of) ≡ false
dead_by s of b e f = by (is_alive s (s.values of)) (sym e ∙ f)
  where
    by : (a : Bool) → not a ≡ true → a ≡ false
    by false e = refl
    by true e = absurd (not_both e refl)

-- ---- `slice`

-- how long arrays are, by their words
counted : (s : ScriptState) (n c : ℕ) → c < n → is_live s c ≡ true → words_of (s.contents c) ≤ states.live_below s n
counted s zero c lt live = absurd (omega arith)
counted s (suc n) c lt live = ⊎_elim
    (λ e.
    let here : cond (is_live s n) (words_of (s.contents n)) 0 ≡ words_of (s.contents n) =
    ap (λ b. cond b (words_of (s.contents n)) 0) (subst (λ k. is_live s k ≡ true) e live) in
    let same : words_of (s.contents c) ≡ words_of (s.contents n) = ap (λ k. words_of (s.contents k)) e in
    omega arith)
    (λ ne. let le = counted s n c (omega arith) live in omega arith)
    (cases_eq c n)

array_words : (c : Contents) → kind_of c ≡ kind.Array → length (elements c) ≡ words_of c
array_words (Elements xs) e = refl
array_words (Single z) e = absurd cc
array_words (Items cap xs) e = absurd cc
array_words (Pairs cap ps) e = absurd cc
array_words (Entries room es) e = absurd cc

array_bind : (start : ℕ) (c : Contents) → kind_of c ≡ kind.Array → length_in (bind_of start c) ≡ Some (length (elements c))
array_bind start (Elements xs) e = refl
array_bind start (Single z) e = absurd cc
array_bind start (Items cap xs) e = absurd cc
array_bind start (Pairs cap ps) e = absurd cc
array_bind start (Entries room es) e = absurd cc

slice_bind : (start from len : ℕ) (c : Contents) → kind_of c ≡ kind.Array → length_in (slice_in from len (bind_of start c)) ≡ Some len
slice_bind start from len (Elements xs) e = refl
slice_bind start from len (Single z) e = absurd cc
slice_bind start from len (Items cap xs) e = absurd cc
slice_bind start from len (Pairs cap ps) e = absurd cc
slice_bind start from len (Entries room es) e = absurd cc

no_slices : (c : Contents) → kind_of c ≡ kind.Slice → ⊥
no_slices (Elements xs) h = cc
no_slices (Single z) h = cc
no_slices (Items cap xs) h = cc
no_slices (Pairs cap ps) h = cc
no_slices (Entries room es) h = cc

-- what is known of a name that is an array or a slice
module _ {p : Planner} {g : Setting} {begun : ScriptState} {n : ℕ} {s : ScriptState} {found : List ℕ} (st : Stands p g begun n s found) where
  -- the words of a container
  bind_read : (c : ℕ) (f : Bind → Bind) → c < length p.world.containers.items
      → (start : ℕ) × (bind_in p.world.containers.items c f ≡ f (bind_of start (s.contents c)))
  bind_read c f lt =
      let it = there p.world.containers.items c lt in
      (get_or found (s.range c) 0, ap (λ o. bind_from o f) it.1 ∙ ap f (st.knows.containers.each c it.0 it.1).bind)

  few_words : live_words s ≤ 1048576
  few_words =
      let a = p.world.store.kept.few in
      let b = p.world.store.kept.live in
      let c = st.numbers.live_words in
      let most : MOST_LIVE_WORDS ≡ 1048576 = refl in
      omega arith

  abbrev IsSliceable : NameKind → Type 0
  IsSliceable k = (k ≡ kind.Array) ⊎ (k ≡ kind.Slice)

  elements_long : (k : NameKind) (v : Value) → IsSliceable k → IsOfKind s k (value_for p.world.handles.items v)
      → is_alive s (value_for p.world.handles.items v) ≡ true
      → IsThere (length p.world.containers.items) (length p.world.handles.items) v
      → length_in (bind_by p.world.containers.items v) ≡ Some (length (value_elements (value_for p.world.handles.items v)
      (s.contents (states.container_of (value_for p.world.handles.items v)))))
  elements_long k Dead either h alive lt = absurd (not_both alive refl)
  elements_long k (Whole c) either h alive lt =
      let b = bind_read c (λ b. b) lt in
      let is : kind_of (s.contents c) ≡ kind.Array = ⊎_elim (λ e. sym h.0 ∙ e) (λ e. absurd (no_slices (s.contents c) (sym h.0 ∙ e))) either in
      ap length_in b.1 ∙ array_bind b.0 (s.contents c) is
  elements_long k (Slice c from have) either h alive lt =
      let b = bind_read c (slice_in from have) lt.0 in
      ap length_in b.1 ∙ slice_bind b.0 from have (s.contents c) h.2 ∙ ap Some (sym (part_length (elements (s.contents c)) from have h.3))
  elements_long k (View c number) either h alive lt = ⊎_elim (λ e. absurd cc) (λ e. absurd cc) either
  elements_long k (Handles j) either h alive lt = absurd (by (slice_get p.world.handles.items j) alive)
    where
      by : (o : Option Handle) → is_alive s (jobs_at o) ≡ true → ⊥
      by None e = not_both e refl
      by (Some q) e = not_both e refl

  -- a part of it
  part_there : (k : NameKind) (v : Value) (start len : ℕ) → start ≤ MOST_ELEMENTS → IsOfKind s k (value_for p.world.handles.items v)
      → is_alive s (value_for p.world.handles.items v) ≡ true
      → start + len ≤ length (value_elements (value_for p.world.handles.items v) (s.contents (states.container_of (value_for p.world.handles.items v))))
      → IsThere (length p.world.containers.items) (length p.world.handles.items) v
      → IsThere (length p.world.containers.items) (length p.world.handles.items) (part_by v start len)
  part_there k Dead start len few h alive fits lt = tt
  part_there k (Whole c) start len few h alive fits lt = (lt, few)
  part_there k (Slice c from have) start len few h alive fits lt =
      let long = part_length (elements (s.contents c)) from have h.3 in
      let inside = h.3 in
      let words = array_words (s.contents c) h.2 in
      let most = counted s s.made c h.1 (alive_is_live s c h.1 alive) in
      let limit = few_words in
      (lt.0, omega arith)
  part_there k (View c number) start len few h alive fits lt = (lt, few)
  part_there k (Handles j) start len few h alive fits lt = tt

part_no_jobs : (v : Value) (start len k : ℕ) → part_by v start len ≡ Handles k → ⊥
part_no_jobs Dead start len k e = cc
part_no_jobs (Whole c) start len k e = cc
part_no_jobs (Slice c from have) start len k e = cc
part_no_jobs (View c number) start len k e = cc
part_no_jobs (Handles j) start len k e = cc

part_stands : (handles : List Handle) (v : Value) (start len : ℕ) → value_for handles (part_by v start len) ≡ part_of (value_for handles v) start len
part_stands handles Dead start len = refl
part_stands handles (Whole c) start len = refl
part_stands handles (Slice c from have) start len = refl
part_stands handles (View c number) start len = refl
part_stands handles (Handles j) start len = by (slice_get handles j)
  where
    by : (o : Option Handle) → states.Dead ≡ part_of (jobs_at o) start len
    by None = refl
    by (Some q) = refl

-- the element at which a value starts
pub starts_low : (made handles : ℕ) (v : Value) → IsThere made handles v → start_of v ≤ MOST_ELEMENTS
starts_low made handles Dead h = omega arith
starts_low made handles (Whole c) h = omega arith
starts_low made handles (Slice c start len) h = h.1
starts_low made handles (View c number) h = omega arith
starts_low made handles (Handles k) h = omega arith

module _ (line name of start len : ℕ) where
  abbrev slice : Statement
  slice = record { line = line; act = SliceOf name of start len }

  -- why it is refused
  abbrev decide : Bool → Bool → Option Refused
  decide alive fits = if not alive then Some (refused Disposed of) else (if fits then None else Some (refused PastRange of))

  abbrev fits_in : ScriptState → Bool
  fits_in s = nat_le (start + len) (length (value_elements (s.values of) (contents_at s of)))

  slice_decided : (g : Setting) (s : ScriptState) → refusal g s (SliceOf name of start len) ≡ decide (is_alive s (s.values of)) (fits_in s)
  unfolding first_some
  slice_decided g s = by (is_alive s (s.values of)) (fits_in s)
    where
      by : (a f : Bool) → first_some (option_map (refused Disposed) (cond (not a) (Some of) None) ∷ some_if (not f) (refused PastRange of) ∷ []) ≡ decide a f
      by false f = refl
      by true false = refl
      by true true = refl

  record IsSliced {script : Script} {table : Table} {n : ℕ} (step : IsStep script table n slice) : Type 0 where
    made : ℕ
    makes_it : makes (record { kinds = step.accepted.kinds; made = made }) name kind.Slice ≡ true
    uses_it : uses (record { kinds = step.accepted.kinds; made = made }) of SLICEABLE ≡ true
    start_few : start ≤ MOST_ELEMENTS
    len_few : len ≤ MOST_ELEMENTS

  slice_used : {script : Script} {table : Table} {n : ℕ} (step : IsStep script table n slice) → IsSliced step
  slice_used step =
      let f = fits_at step in
      let ns : Names = record { kinds = step.accepted.kinds; made = f.made } in
      let all = and_parts (makes ns name kind.Slice && uses ns of SLICEABLE) (up_to MOST_ELEMENTS start && up_to MOST_ELEMENTS len) f.fits in
      let names = and_parts (makes ns name kind.Slice) (uses ns of SLICEABLE) all.0 in
      let few = and_parts (up_to MOST_ELEMENTS start) (up_to MOST_ELEMENTS len) all.1 in
      record {
        made = f.made;
        makes_it = names.0;
        uses_it = names.1;
        start_few = leb-true start MOST_ELEMENTS few.0;
        len_few = leb-true len MOST_ELEMENTS few.1;
      }

  pub record IsSliceReady (p : Planner) : Type 0 where
    pub of_in : of < vec_len p.world.values
    pub name_in : name < vec_len p.world.values
    pub there : AreThere (vec_len p.world.containers) (vec_len p.world.handles) p.world.values.items
    pub start_few : start ≤ MOST_ELEMENTS
    pub len_few : len ≤ MOST_ELEMENTS

  pub slice_ready : (p : Planner) → IsReady p slice → IsSliceReady p
  slice_ready p r =
      let b = r.2 in
      let u = slice_used b.step in
      record {
        of_in = within b.stands of (used_below b.step u.made of SLICEABLE u.uses_it);
        name_in = within b.stands name (made_below b.step u.made name kind.Slice u.makes_it);
        there = are_there b.stands;
        start_few = u.start_few;
        len_few = u.len_few;
      }

  -- the length of its source
  module _ {script : Script} {table : Table} {p : Planner} (b : IsBefore script table p slice) (v : Value)
      (h : slice_get p.world.values.items of ≡ Some v) (alive : is_alive (state_at script table b.n) ((state_at script table b.n).values of) ≡ true) where
    open b use {n, step, stands as st}

    abbrev now : ScriptState
    now = state_at script table n

    used : IsUsed (record { kinds = step.accepted.kinds; made = (slice_used step).made }) of SLICEABLE
    used = is_used (record { kinds = step.accepted.kinds; made = (slice_used step).made }) of SLICEABLE (slice_used step).uses_it

    stands : value_for p.world.handles.items v ≡ now.values of
    stands = st.knows.names.are of v h

    held : IsOfKind now used.kind (value_for p.world.handles.items v)
    held = subst (IsOfKind now used.kind) (sym stands) ((holds_kinds step).names of used.kind used.at)

    alive_for : is_alive now (value_for p.world.handles.items v) ≡ true
    alive_for = ap (is_alive now) stands ∙ alive

    pub source_long : length_in (bind_by p.world.containers.items v) ≡ Some (length (value_elements (now.values of) (contents_at now of)))
    source_long =
        elements_long st used.kind v (two_kinds used.kind kind.Array kind.Slice used.fits) held alive_for (st.knows.names.there of v h)
        ∙ ap (λ v. Some (length (value_elements v (now.contents (states.container_of v))))) stands

    pub source_part : start + len ≤ length (value_elements (now.values of) (contents_at now of))
        → IsThere (length p.world.containers.items) (length p.world.handles.items) (part_by v start len)
    source_part fits =
        part_there st used.kind v start len (slice_used step).start_few held alive_for
        (subst (λ v. start + len ≤ length (value_elements v (now.contents (states.container_of v)))) (sym stands) fits) (st.knows.names.there of v h)

  -- what it answers
  pub slice_gone : (p : Planner) (dead : Bool) → IsGone p.world of dead → dead ≡ true → IsRefusal p slice of (Some Disposed)
  slice_gone p dead gone is script table b =
      let g = setting script table in
      let s = state_at script table b.n in
      sym (slice_decided g s ∙ ap (λ a. decide a (fits_in s)) (dead_by s of dead (gone g s b.found b.stands.knows) is))

  pub slice_long : (p : Planner) (dead : Bool) → IsGone p.world of dead → dead ≡ false → (v : Value) → slice_get p.world.values.items of ≡ Some v → (l : ℕ)
      → length_in (bind_by p.world.containers.items v) ≡ Some l → l < start + len
      → IsRefusal p slice of (Some PastRange)
  slice_long p dead gone is v h l at lt script table b =
      let g = setting script table in
      let s = state_at script table b.n in
      let alive = alive_by s of dead (gone g s b.found b.stands.knows) is in
      let same : l ≡ length (value_elements (s.values of) (contents_at s of)) = some_is (sym at ∙ source_long b v h alive) in
      let past : fits_in s ≡ false = grind arith in
      sym (slice_decided g s ∙ ap (λ a. decide a (fits_in s)) alive ∙ ap (decide true) past)

  pub slice_fits : (p : Planner) (dead : Bool) → IsGone p.world of dead → dead ≡ false → (v : Value) → slice_get p.world.values.items of ≡ Some v → (l : ℕ)
      → length_in (bind_by p.world.containers.items v) ≡ Some l → start + len ≤ l
      → IsRefusal p slice of None
  slice_fits p dead gone is v h l at le script table b =
      let g = setting script table in
      let s = state_at script table b.n in
      let alive = alive_by s of dead (gone g s b.found b.stands.knows) is in
      let same : l ≡ length (value_elements (s.values of) (contents_at s of)) = some_is (sym at ∙ source_long b v h alive) in
      let fits : fits_in s ≡ true = grind arith in
      sym (slice_decided g s ∙ ap (λ a. decide a (fits_in s)) alive ∙ ap (decide true) fits)

  -- and so its source has a length where it isn't gone
  pub source_has : (p : Planner) → IsReady p slice → (dead : Bool) → IsGone p.world of dead → dead ≡ false → (v : Value)
      → slice_get p.world.values.items of ≡ Some v
      → (l : ℕ) × (length_in (bind_by p.world.containers.items v) ≡ Some l)
  source_has p r dead gone is v h =
      let i = r.2 in
      let g = setting r.0 r.1 in
      let s = state_at r.0 r.1 i.n in
      let alive = alive_by s of dead (gone g s i.found i.stands.knows) is in
      (length (value_elements (s.values of) (contents_at s of)), source_long i v h alive)

  -- and it goes on
  pub slice_refused : (p m : Planner) (w : World) (cause : Refusal) → IsRefusal p slice of (Some cause)
      → IsPushed p m (record { line = line; name = of; act = Say cause }) → IsRenamed m.world w name Dead → GoesOn p (record m { world = w }) slice
  slice_refused p m w cause is i e script table b =
      let u = slice_used b.step in
      said_dead b (record { cause = cause; name = of }) (sym (is script table b))
      (used_below b.step u.made of SLICEABLE u.uses_it) m w name refl refl refl (inr (λ c. refl)) i e

  accepted : (a f : Bool) → decide a f ≡ None → (a ≡ true) × (f ≡ true)
  accepted false f e = absurd (none_some (sym e))
  accepted true false e = absurd (none_some (sym e))
  accepted true true e = (refl, refl)

  pub slice_taken : (p : Planner) (w : World) (v : Value) → IsRefusal p slice of None → slice_get p.world.values.items of ≡ Some v
      → IsRenamed p.world w name (part_by v start len)
      → GoesOn p (record p { world = w }) slice
  slice_taken p w v is h e script table b =
      let g = setting script table in
      let s = state_at script table b.n in
      let none : refusal g s (SliceOf name of start len) ≡ None = sym (is script table b) in
      let both = accepted (is_alive s (s.values of)) (fits_in s) (sym (slice_decided g s) ∙ none) in
      let fits = leb-true (start + len) (length (value_elements (s.values of) (contents_at s of))) both.1 in
      renamed_on b w name none (refl, tt) (part_by v start len) (part_of (s.values of) start len) refl e
      (source_part b v h both.0 fits) (part_no_jobs v start len)
      (part_stands p.world.handles.items v start len ∙ ap (λ v. part_of v start len) (b.stands.knows.names.are of v h))

-- ---- `view`

-- what a name of a whole container stands for while that is alive
pub record IsWholeAt (p : Planner) (s : ScriptState) (v : Value) : Type 0 where
  pub c : ℕ
  pub it : Container
  pub is : v ≡ Whole c
  pub has : slice_get p.world.containers.items c ≡ Some it
  pub alive : s.alive c ≡ true

pub whole_at : (p : Planner) (s : ScriptState) (k : NameKind) (v : Value) → (k ≡ kind.Slice → ⊥) → (k ≡ kind.View → ⊥)
    → IsOfKind s k (value_for p.world.handles.items v) → is_alive s (value_for p.world.handles.items v) ≡ true
    → IsThere (length p.world.containers.items) (length p.world.handles.items) v → IsWholeAt p s v
whole_at p s k Dead no_slice no_view h alive lt = absurd (not_both alive refl)
whole_at p s k (Whole c) no_slice no_view h alive lt = let t = there p.world.containers.items c lt in record {
  c = c;
  it = t.0;
  is = refl;
  has = t.1;
  alive = alive;
}
whole_at p s k (Slice c start len) no_slice no_view h alive lt = absurd (no_slice h.0)
whole_at p s k (View c number) no_slice no_view h alive lt = absurd (no_view h.0)
whole_at p s k (Handles j) no_slice no_view h alive lt = absurd (by (slice_get p.world.handles.items j) alive)
  where
    by : (o : Option Handle) → is_alive s (jobs_at o) ≡ true → ⊥
    by None e = not_both e refl
    by (Some q) e = not_both e refl

module _ (line name of : ℕ) where
  abbrev viewing : Statement
  viewing = record { line = line; act = ViewOf name of }

  -- why it is refused
  abbrev unless_alive : Bool → Option Refused
  unless_alive alive = if not alive then Some (refused Disposed of) else None

  view_decided : (g : Setting) (s : ScriptState) → refusal g s (ViewOf name of) ≡ unless_alive (is_alive s (s.values of))
  view_decided g s = by (is_alive s (s.values of))
    where
      by : (a : Bool) → option_map (refused Disposed) (cond (not a) (Some of) None) ≡ unless_alive a
      by false = refl
      by true = refl

  record IsViewed {script : Script} {table : Table} {n : ℕ} (step : IsStep script table n viewing) : Type 0 where
    made : ℕ
    makes_it : makes (record { kinds = step.accepted.kinds; made = made }) name kind.View ≡ true
    uses_it : uses (record { kinds = step.accepted.kinds; made = made }) of (kind.List ∷ []) ≡ true

  view_used : {script : Script} {table : Table} {n : ℕ} (step : IsStep script table n viewing) → IsViewed step
  view_used step =
      let f = fits_at step in
      let ns : Names = record { kinds = step.accepted.kinds; made = f.made } in
      let both = and_parts (makes ns name kind.View) (uses ns of (kind.List ∷ [])) f.fits in
      record { made = f.made; makes_it = both.0; uses_it = both.1 }

  pub record IsViewReady (p : Planner) : Type 0 where
    pub of_in : of < vec_len p.world.values
    pub name_in : name < vec_len p.world.values
    pub there : AreThere (vec_len p.world.containers) (vec_len p.world.handles) p.world.values.items

  pub view_ready : (p : Planner) → IsReady p viewing → IsViewReady p
  view_ready p r =
      let b = r.2 in
      let u = view_used b.step in
      record {
        of_in = within b.stands of (used_below b.step u.made of (kind.List ∷ []) u.uses_it);
        name_in = within b.stands name (made_below b.step u.made name kind.View u.makes_it);
        there = are_there b.stands;
      }

  module _ {script : Script} {table : Table} {p : Planner} (b : IsBefore script table p viewing) (v : Value)
      (h : slice_get p.world.values.items of ≡ Some v) (alive : is_alive (state_at script table b.n) ((state_at script table b.n).values of) ≡ true) where
    open b use {n, step, stands as st}

    list_source : IsWholeAt p (state_at script table n) v
    list_source =
        let s = state_at script table n in
        let u = view_used step in
        let used = is_used (record { kinds = step.accepted.kinds; made = u.made }) of (kind.List ∷ []) u.uses_it in
        let stands = st.knows.names.are of v h in
        let is = one_kind used.kind kind.List used.fits in
        whole_at p s used.kind v (λ e. cc) (λ e. cc) (subst (IsOfKind s used.kind) (sym stands) ((holds_kinds step).names of used.kind used.at))
        (ap (is_alive s) stands ∙ alive) (st.knows.names.there of v h)

  pub view_source : (p : Planner) → IsReady p viewing → (dead : Bool) → IsGone p.world of dead → dead ≡ false → (v : Value)
      → slice_get p.world.values.items of ≡ Some v
      → IsWholeAlive p.world.safety p.world.containers.items v
  view_source p r dead gone is v h =
      let i = r.2 in
      let s = state_at r.0 r.1 i.n in
      let a = alive_by s of dead (gone (setting r.0 r.1) s i.found i.stands.knows) is in
      let l = list_source i v h a in
      let slot = state_of p.world.safety l.it.slot.0 in
      let live = (and_parts slot.live _ ((i.stands.knows.containers.each l.c l.it l.has).alive ∙ l.alive)).0 in
      subst (IsWholeAlive p.world.safety p.world.containers.items) (sym l.is) (subst (IsLiveSlot p.world.safety) (sym l.has) live)

  pub view_refused : (p m : Planner) (w : World) (dead : Bool) → IsGone p.world of dead → dead ≡ true
      → IsPushed p m (record { line = line; name = of; act = Say Disposed })
      → IsRenamed m.world w name Dead → GoesOn p (record m { world = w }) viewing
  view_refused p m w dead gone is i e script table b =
      let g = setting script table in
      let s = state_at script table b.n in
      let u = view_used b.step in
      said_dead b (refused Disposed of) (view_decided g s ∙ ap unless_alive (dead_by s of dead (gone g s b.found b.stands.knows) is))
      (used_below b.step u.made of (kind.List ∷ []) u.uses_it) m w name refl refl refl (inr (λ c. refl)) i e

  pub viewed : (p : Planner) (w : World) (dead : Bool) → IsGone p.world of dead → dead ≡ false → (v : Value) → slice_get p.world.values.items of ≡ Some v
      → IsRenamed p.world w name (view_by p.world.safety p.world.containers.items v) → GoesOn p (record p { world = w }) viewing
  viewed p w dead gone is v h e script table b =
      let g = setting script table in
      let s = state_at script table b.n in
      let a = alive_by s of dead (gone g s b.found b.stands.knows) is in
      let l = list_source b v h a in
      let k = b.stands.knows.containers.each l.c l.it l.has in
      let now : view_by p.world.safety p.world.containers.items v ≡ View l.c (s.view l.c) =
      ap (view_by p.world.safety p.world.containers.items) l.is ∙ ap (λ o. view_of l.c (view_number p.world.safety o)) l.has ∙ ap (View l.c) (k.view l.alive) in
      let at : l.c ≡ container_at s of = ap states.container_of (sym (ap (value_for p.world.handles.items) l.is) ∙ b.stands.knows.names.are of v h) in
      renamed_on b w name (view_decided g s ∙ ap unless_alive a) (refl, tt) (View l.c (s.view l.c))
      (states.View (container_at s of) (s.view (container_at s of))) refl
      (subst (IsRenamed p.world w name) now e) (get_below p.world.containers.items l.c l.it l.has) (λ k e. absurd cc) (ap (λ c. states.View c (s.view c)) at)

-- ---- `combine`

all_below : (ns : Names) (m : ℕ) → ((n : ℕ) → uses ns n (kind.Handle ∷ []) ≡ true → n < m) → (names : List ℕ) → all_used ns names ≡ true → (k d : ℕ)
    → k < length names → get_or names k d < m
all_below ns m below [] is k d lt = absurd (omega arith)
all_below ns m below (x ∷ xs) is zero d lt = below x (and_parts (uses ns x (kind.Handle ∷ [])) (all_used ns xs) is).0
all_below ns m below (x ∷ xs) is (suc k) d lt = all_below ns m below xs (and_parts (uses ns x (kind.Handle ∷ [])) (all_used ns xs) is).1 k d (omega arith)

module _ (line name : ℕ) (of : Vec ℕ Global) where
  abbrev combining : Statement
  combining = record { line = line; act = CombineOf name of }

  record IsCombined {script : Script} {table : Table} {n : ℕ} (step : IsStep script table n combining) : Type 0 where
    made : ℕ
    makes_it : makes (record { kinds = step.accepted.kinds; made = made }) name kind.Handle ≡ true
    below : (k d : ℕ) → k < length of.items → get_or of.items k d < length (setting script table).names

  combine_used : {script : Script} {table : Table} {n : ℕ} (step : IsStep script table n combining) → IsCombined step
  combine_used {script} {table} step =
      let f = fits_at step in
      let ns : Names = record { kinds = step.accepted.kinds; made = f.made } in
      let both = and_parts (makes ns name kind.Handle) (all_used ns of.items) f.fits in
      record {
        made = f.made;
        makes_it = both.0;
        below = all_below ns (length (setting script table).names) (λ m is. used_below step f.made m (kind.Handle ∷ []) is) of.items
            both.1;
      }

  pub record IsCombineReady (p : Planner) : Type 0 where
    pub of_in : All (λ n. n < vec_len p.world.values) of.items
    pub name_in : name < vec_len p.world.values
    pub there : AreThere (vec_len p.world.containers) (vec_len p.world.handles) p.world.values.items
    pub few : vec_len p.world.handles < 2 ^ 32

  pub combine_ready : (p : Planner) → IsReady p combining → IsCombineReady p
  combine_ready p r =
      let b = r.2 in
      let u = combine_used b.step in
      record {
        of_in = λ k d lt. within b.stands (get_or of.items k d) (u.below k d lt);
        name_in = within b.stands name (made_below b.step u.made name kind.Handle u.makes_it);
        there = are_there b.stands;
        few = (let le = b.stands.numbers.handles_few in let lt = statements_few b.step in let len = p.world.handles.ok.0 in
            let most : MOST_STATEMENTS ≤ 1048576 = omega arith in omega arith);
      }

  pub combined : (p : Planner) (w : World) (jobs : Handle) → ((j : ℕ) → jobs_of jobs j ≡ jobs_by p.world.handles.items p.world.values.items of.items j)
      → HasHandle p.world w name (jobs_of jobs) → GoesOn p (record p { world = w }) combining
  combined p w jobs are e script table b =
      let s = state_at script table b.n in
      let u = combine_used b.step in
      let same : jobs_of jobs ≡ jobs_named s of.items =
      λ i j. (are j ∙ jobs_are p s (length p.world.containers.items) b.stands.knows.names of.items
      (λ k d lt. let low = u.below k d lt in let l = b.stands.knows.each in omega arith) j) i in
      handle_on b w name refl (refl, tt) (jobs_named s of.items) refl (subst (HasHandle p.world w name) same e)

-- ---- `flush`

pub flushed : (line : ℕ) (p : Planner) → GoesOn p p (record { line = line; act = FlushAll })
flushed line p script table b =
    let g = setting script table in
    let s = state_at script table b.n in
    accepted_on b p refl (refl, tt) refl (calm b.stands refl refl refl refl refl b.stands.numbers.passing refl (omega arith) (omega arith))
    b.stands.knows.names (λ y a. b.stands.planned y a)
