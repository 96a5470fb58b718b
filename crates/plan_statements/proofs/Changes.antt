-- `set`, `add`, `put`, `remove` and `clear`: what they are ready for, and that they go on: refused whatever the cells are,
-- or as one operation, whether the contents allow it or not.
use Rattle.std.proofs.Common.{◌≡◌, ◌≢◌, ℕ, ◌+◌, ◌^◌, ◌<◌, ◌⊎◌, inl, inr, ⊎_elim, Bool, true, false, ◌&&◌, ℤ, List, [], ◌∷◌, ◌++◌, length, take, Option, Some, None, Result, Ok, Err, refl, sym, ap, subst, ◌∙◌, arith}
use Rattle.std.specs.Prelude.{slice_get, vec_len, nat_lt, get_or, set, pos, negsuc, unwrap_or, ◌-◌, nat_eq, if◌then◌else◌}
use Rattle.std.specs.List.{list_any}
use Rattle.std.proofs.lemmas.Bool.{and_parts, cases_eq, eqb-true, eq-eqb, ne_eqb}
use Rattle.std.proofs.lemmas.List.{length-replicate, length-take}
use Rattle.job_base.specs.declared.Refusal.{Refusal}
use Rattle.job_base.specs.declared.Trap.{Trap}
use Rattle.job_base.specs.declared.Trap.TheVariants.{Range, Full}
use Rattle.frame_ast.specs.declared.name_kind.NameKind.{NameKind}
use Rattle.frame_ast.specs.declared.name_kind.NameKind.TheVariants as kind
use Rattle.frame_ast.specs.declared.name_kind.TheConstants.{REMOVABLE, CLEARABLE}
use Rattle.frame_ast.specs.declared.script.Order.{Order}
use Rattle.frame_ast.specs.declared.script.Order.TheVariants as order
use Rattle.frame_ast.specs.declared.script.Script.{Script}
use Rattle.frame_ast.specs.declared.script.Statement.{Statement}
use Rattle.frame_ast.specs.Accepted.{same_kind, uses, set_kinds, add_kinds}
use Rattle.frame_ast.specs.Checks.{refusal}
use Rattle.frame_ast.specs.Contents.{Contents, Cells as Elements, Single, Items, Pairs, Entries, cleared, then_value}
use Rattle.frame_ast.specs.Effects.{effect, changed, views_broken, list_broken, breaks_views}
use Rattle.frame_ast.specs.Forms.{form_of, form_after}
use Rattle.frame_ast.specs.Kinds.{IsOfKind}
use Rattle.frame_ast.specs.Laws.{IsKnown, is_name, passed_with, resizes, is_list_now, IsLikeBefore}
use Rattle.frame_ast.specs.Lists.{first_some}
use Rattle.frame_ast.specs.Orders.{Table, Setting, setting, made_by, set_in, add_in, put_pair_in, remove_in}
use Rattle.frame_ast.specs.Refusals.{Refused, refusal_of, disposed, stale, pending, unchanged, access}
use Rattle.frame_ast.specs.Jobs.{nobody}
use Rattle.frame_ast.specs.Schedules.{need_of}
use Rattle.frame_ast.specs.Scripts.{act}
use Rattle.frame_ast.specs.States as states
use Rattle.frame_ast.specs.States.{ScriptState, is_alive, container_at, contents_at, with_at, with_contents}
use Rattle.frame_ast.proofs.Breaking.{view_numbers_are_few}
use Rattle.frame_ast.proofs.Naming.{is_used, FitsThere}
use Rattle.frame_ast.proofs.Refusing.{refused_changes_little}
use Rattle.frame_ast.proofs.StatementForms.{statements_keep_forms}
use Rattle.kernel_exec.specs.declared.binds.Bind.{Bind}
use Rattle.frame_core.specs.declared.plan.Act.{Act}
use Rattle.frame_core.specs.declared.plan.Act.TheVariants.{Say, Set, Put, Remove, Clear}
use Rattle.frame_core.specs.declared.plan.Op.{Op}
use Rattle.frame_core.proofs.Small.{not_both, some_is, none_some, either_bool, get_below}
use Rattle.slot_store.specs.declared.slot.Slot.{Slot}
use Rattle.safety_handle.specs.Entries.{SlotState, state_of}
use Rattle.plan_laws.specs.Accessing.{written_by, add_act, IsWritable}
use Rattle.plan_laws.specs.Binds.{bind_of, bind_at}
use Rattle.plan_laws.specs.Drafts.{Draft}
use Rattle.plan_laws.specs.Planned.{Outline, IsPlanned, Adds}
use Rattle.plan_laws.proofs.Statements.Accessing.{sets_are_planned, adds_are_planned, puts_are_planned, removes_are_planned, clears_are_planned}
use Rattle.plan_laws.proofs.Statements.Making.{at_here, at_other, alive_is_live}
use Rattle.plan_laws.proofs.Statements.Printing.{allowed}
use Rattle.plan_laws.proofs.Statements.Writable.{accepted_names_are_writable}
use Rattle.plan_state.specs.declared.state.Container.{Container}
use Rattle.plan_state.specs.declared.state.Planner.{Planner}
use Rattle.plan_state.specs.declared.state.World.{World}
use Rattle.plan_state.specs.declared.state.Value.{Value}
use Rattle.plan_state.specs.Accesses.{bind_by, AreThere, IsPushed, MayUse}
use Rattle.plan_state.specs.Growth.{given_by}
use Rattle.plan_state.specs.Stands.{value_for, AreNames, Agrees, draft_of}
use Rattle.plan_state.specs.Steps.{state_at, IsStep, IsBefore, IsReady, GoesOn}
use Rattle.plan_statements.specs.Views.{slot_by, slot_from, list_slot, with_break, IsBreakable, IsBroken}
use Rattle.plan_state.proofs.Accessing.{are_there, breaks_none}
use Rattle.plan_state.proofs.Binding.{binds_at}
use Rattle.plan_statements.proofs.NewNames.{IsWholeAt, whole_at}
use Rattle.plan_state.proofs.Quiet.{IsPlain, given_one, plain_steps}
use Rattle.plan_state.proofs.Reaching.{fits_at, holds_kinds, known_after, statements_few, used_below, within}
use Rattle.plan_state.proofs.Restating.{IsRestated, accepted_state, adds_op, changed_fields, like_state, one_op_more, pushed_names, pushed_restates, quiet_restated, restated, said}

-- ---- forms and binds

bind_of_form : (start : ℕ) (c : Contents) → bind_of start (form_of c) ≡ bind_of start c
bind_of_form start (Elements xs) = ap (λ n. Bind.Array (record { start = start; len = n }) 0) (length-replicate (length xs) _)
bind_of_form start (Single z) = refl
bind_of_form start (Items cap xs) = refl
bind_of_form start (Pairs cap ps) = refl
bind_of_form start (Entries room es) = ap (λ n. Bind.Stream (record { start = start; count = n; room = room }) false) (length-replicate (length es) _)

same_bind : (c d : Contents) → form_of c ≡ form_of d → (start : ℕ) → bind_of start c ≡ bind_of start d
same_bind c d e start = sym (bind_of_form start c) ∙ ap (bind_of start) e ∙ bind_of_form start d

-- ---- refusals

more_some : (a b c : Option Refused) (more : List (Option Refused)) (r : Refused) → first_some (a ∷ b ∷ c ∷ []) ≡ Some r
    → first_some (a ∷ b ∷ c ∷ more) ≡ Some r
unfolding first_some
more_some (Some x) b c more r e = e
more_some None (Some y) c more r e = e
more_some None None (Some z) more r e = e
more_some None None None more r e = absurd (none_some e)

more_none : (a b c : Option Refused) (more : List (Option Refused)) → first_some (a ∷ b ∷ c ∷ []) ≡ None → first_some (a ∷ b ∷ c ∷ more) ≡ first_some more
unfolding first_some
more_none (Some x) b c more e = absurd (none_some (sym e))
more_none None (Some y) c more e = absurd (none_some (sym e))
more_none None None (Some z) more e = absurd (none_some (sym e))
more_none None None None more e = refl

module _ (s : ScriptState) (name : ℕ) (more : List (Option Refused)) where
  pub access_some : (r : Refused) → access s name (need_of s name true) [] ≡ Some r → access s name (need_of s name true) more ≡ Some r
  access_some r e = more_some (disposed s (name ∷ [])) (stale s (name ∷ [])) (pending s nobody (need_of s name true ∷ [])) more r e

  pub access_none : access s name (need_of s name true) [] ≡ None → access s name (need_of s name true) more ≡ first_some more
  access_none e = more_none (disposed s (name ∷ [])) (stale s (name ∷ [])) (pending s nobody (need_of s name true ∷ [])) more e

first_one : (o : Option Refused) → first_some (o ∷ []) ≡ o
unfolding first_some
first_one None = refl
first_one (Some r) = refl

-- ---- the state after a change

-- Of a state only contents, views and what is told are others.
record IsLittle (s u : ScriptState) : Type 0 where
  state : u ≡ record s { values = u.values; contents = u.contents; view = u.view; refused = u.refused; passing = u.passing; lines = u.lines }
  passing : u.passing ≡ s.passing
  values : u.values ≡ s.values

changed_little : (name : ℕ) (r : Result Contents Trap) (s : ScriptState) → IsLittle s (changed name r s)
changed_little name (Ok c) s = record { state = refl; passing = refl; values = refl }
changed_little name (Err t) s = record { state = refl; passing = refl; values = refl }

changed_view : (name : ℕ) (r : Result Contents Trap) (s : ScriptState) → (changed name r s).view ≡ s.view
changed_view name (Ok c) s = refl
changed_view name (Err t) s = refl

list_little : (c : Contents) (k : ℕ) (s u : ScriptState) → IsLittle s u → IsLittle s (list_broken c k u)
list_little (Elements xs) k s u l = l
list_little (Single z) k s u l = l
list_little (Items cap xs) k s u l =
    let f : ScriptState → ScriptState = λ z. record z { view = with_at u.view k (u.view k + 1) } in
    record { state = ap f l.state; passing = l.passing; values = l.values }
list_little (Pairs cap ps) k s u l = l
list_little (Entries room es) k s u l = l

-- the views of one list are broken
record IsViewBroken (s t : ScriptState) (k : ℕ) (is_list : Bool) : Type 0 where
  here : is_list ≡ true → t.view k ≡ s.view k + 1
  others : (c : ℕ) → (c ≢ k) ⊎ (is_list ≡ false) → t.view c ≡ s.view c

no_list : (b : Bool) (k : ℕ) (s u : ScriptState) → u.view ≡ s.view → b ≡ false → IsViewBroken s u k b
no_list b k s u same no_ = record { here = λ e. absurd (not_both e no_); others = λ c either. ap (λ f. f c) same }

list_view : (c : Contents) (b : Bool) (k : ℕ) (s u : ScriptState) → u.view ≡ s.view → b ≡ is_list_now c → IsViewBroken s (list_broken c k u) k b
list_view (Elements xs) b k s u same is = no_list b k s u same is
list_view (Single z) b k s u same is = no_list b k s u same is
list_view (Items cap xs) b k s u same is = record {
  here = λ e. at_here u.view k (u.view k + 1) ∙ ap (λ f. f k + 1) same;
  others = λ c either. ⊎_elim (λ ne. at_other u.view k (u.view k + 1) c ne ∙ ap (λ f. f c) same) (λ e. absurd (not_both is e)) either;
}
list_view (Pairs cap ps) b k s u same is = no_list b k s u same is
list_view (Entries room es) b k s u same is = no_list b k s u same is

changed_broken : (name : ℕ) (r : Result Contents Trap) (s : ScriptState) → is_list_now (contents_at s name) ≡ is_list_now (contents_at (changed name r s) name)
    → IsViewBroken s (views_broken name (changed name r s)) (container_at s name) (is_list_now (contents_at s name))
changed_broken name (Ok c) s same = list_view (contents_at (changed name (Ok c) s) name) (is_list_now (contents_at s name)) (container_at s name) s
    (changed name (Ok c) s) refl same
changed_broken name (Err t) s same = list_view (contents_at s name) (is_list_now (contents_at s name)) (container_at s name) s s refl same

-- a list has the form of one
form_list : (c : Contents) → is_list_now (form_of c) ≡ is_list_now c
form_list (Elements xs) = refl
form_list (Single z) = refl
form_list (Items cap xs) = refl
form_list (Pairs cap ps) = refl
form_list (Entries room es) = refl

broken_contents : (c : Contents) (k : ℕ) (u : ScriptState) → (list_broken c k u).contents ≡ u.contents
broken_contents (Elements xs) k u = refl
broken_contents (Single z) k u = refl
broken_contents (Items cap xs) k u = refl
broken_contents (Pairs cap ps) k u = refl
broken_contents (Entries room es) k u = refl

-- ---- a statement that writes through a name

pub record IsWrite (x : Order) (name : ℕ) (kinds : List NameKind) : Type 0 where
  pub by : written_by x ≡ Some (name, kinds)
  pub unnamed : made_by x ≡ None
  pub passed : passed_with x ≡ 0
  pub plain : (g : Setting) → IsPlain g x
  pub blocked : (g : Setting) (s : ScriptState) (r : Refused) → access s name (need_of s name true) [] ≡ Some r → refusal g s x ≡ Some r
  pub keeps : (s : ScriptState) (c : ℕ) → form_after s x c ≡ form_of (s.contents c)
  pub used : (g : Setting) (all : List NameKind) → FitsThere g all x → (made : ℕ) × (uses (record { kinds = all; made = made }) name kinds ≡ true)

module _ (x : Statement) (name : ℕ) (kinds : List NameKind) (w : IsWrite x.act name kinds) where
  name_below : {script : Script} {table : Table} {n : ℕ} (step : IsStep script table n x) → name < length (setting script table).names
  name_below {script} {table} step =
      let u = w.used (setting script table) step.accepted.kinds (fits_at step) in
      used_below step u.0 name kinds u.1

  pub write_ready : (p : Planner) → IsReady p x → (name < vec_len p.world.values)
      × AreThere (vec_len p.world.containers) (vec_len p.world.handles) p.world.values.items
  write_ready p r =
      let b = r.2 in
      (within b.stands name (name_below b.step), are_there b.stands)

  pub write_refused : (p q : Planner) (cause : Refusal) → MayUse p.world name true (Some cause)
      → IsPushed p q (record { line = x.line; name = name; act = Say cause }) → GoesOn p q x
  write_refused p q cause may i script table b =
      let g = setting script table in
      let s = state_at script table b.n in
      let r : Refused = record { cause = cause; name = name } in
      let is = sym (may g s b.found b.stands.knows) in
      said b r (w.blocked g s r is) (name_below b.step) q w.unnamed w.passed (inl (breaks_none s name true r is)) i

-- one operation is planned for it
abbrev pub Plans : Statement → ℕ → List NameKind → (Bind → Act) → Type 0
Plans x name kinds operation = (y : Outline) (g : Setting) (s : ScriptState) (d e : Draft)
    → y.plan.cells < 2 ^ 32
    → IsKnown s
    → IsPlanned y s d
    → s.passing ≡ 0
    → IsWritable y g s name kinds
    → Adds d e (record { line = x.line; name = name; act = operation (bind_at y.starts s name) } ∷ [])
    → IsPlanned y (act g s x) e

planned_on : (x : Statement) (name : ℕ) (kinds : List NameKind) (w : IsWrite x.act name kinds) (operation : Bind → Act) → Plans x name kinds operation
    → (p m : Planner) (v : Value) (at : Bind) {script : Script} {table : Table} (b : IsBefore script table p x)
    → MayUse p.world name true None → slice_get p.world.values.items name ≡ Some v → at ≡ bind_by p.world.containers.items v
    → IsPushed p m (record { line = x.line; name = name; act = operation at })
    → (y : Outline) → Agrees p (setting script table) b.begun b.found y → IsPlanned y (act (setting script table) (state_at script table b.n) x) (draft_of m)
planned_on x name kinds w operation plans p m v at {script} {table} b may value is i y a =
    let g = setting script table in
    let s = state_at script table b.n in
    let none = sym (may g s b.found b.stands.knows) in
    let writable = accepted_names_are_writable script b.step.accepted table b.n x b.step.here name kinds w.by y a.names none in
    plans y g s (draft_of p) (draft_of m) a.small b.stands.knows.known (b.stands.planned y a) b.step.acts writable
    (adds_op p m _ (changed_fields p m p.world.values p.world.handles p.world.safety p.world.passing m.draft.ops i.rest)
    (i.ops ∙ ap (λ b. p.draft.ops.items ++ record { line = x.line; name = name; act = operation b } ∷ [])
    (is ∙ binds_at b.stands y a name v value writable.usable)))

-- ---- the state after it, whether the contents allow it or not

pub record IsAfter (s t : ScriptState) : Type 0 where
  pub state : t ≡ record s { values = t.values; contents = t.contents; view = t.view; refused = t.refused; passing = t.passing; lines = t.lines }
  pub passing : t.passing ≡ 0
  pub values : t.values ≡ s.values
  pub form : (c start : ℕ) → c < s.made → bind_of start (t.contents c) ≡ bind_of start (s.contents c)

module _ (x : Statement) (name : ℕ) (kinds : List NameKind) (w : IsWrite x.act name kinds) {script : Script} {table : Table} {n : ℕ}
    (step : IsStep script table n x) where
  abbrev g : Setting
  g = setting script table

  abbrev s : ScriptState
  s = state_at script table n

  accepted_form : refusal g s x.act ≡ None → (c : ℕ) → c < s.made → form_of ((effect g x.line s x.act).contents c) ≡ form_of (s.contents c)
  accepted_form none c below = statements_keep_forms script step.accepted table n x step.here none c below ∙ w.keeps s c

  after_accepted : refusal g s x.act ≡ None → IsLittle s (effect g x.line s x.act) → IsAfter s (effect g x.line s x.act)
  after_accepted none l = record {
    state = l.state;
    passing = l.passing ∙ step.acts;
    values = l.values;
    form = λ c start below. same_bind _ _ (accepted_form none c below) start;
  }

  after_refused : (r : Refused) → IsLikeBefore g x r s (act g s x) → IsAfter s (act g s x)
  after_refused r h = record {
    state = like_state g x r s (act g s x) h;
    passing = h.passing ∙ w.passed;
    values = λ i m. h.values m (ap (λ o. is_name o m) w.unnamed) i;
    form = λ c start below. ap (λ f. bind_of start (f c)) h.contents;
  }

  -- by whether it is refused
  decided_by : (P : ScriptState → Type 0) → (refusal g s x.act ≡ None → P (effect g x.line s x.act))
      → ((r : Refused) → refusal g s x.act ≡ Some r → P (act g s x)) → P (act g s x)
  decided_by P goes is_refused = by (refusal g s x.act) refl
    where
      by : (o : Option Refused) → refusal g s x.act ≡ o → P (act g s x)
      by None e = subst P (sym (accepted_state g s x step.acts e)) (goes e)
      by (Some r) e = is_refused r e

  like : (r : Refused) → refusal g s x.act ≡ Some r → IsLikeBefore g x r s (act g s x)
  like r e = refused_changes_little g s x r step.acts e

  -- where it breaks no views
  module _ (little : IsLittle s (effect g x.line s x.act)) (calm : (effect g x.line s x.act).view ≡ s.view)
      (resizes_none : (c : ℕ) → resizes x.act s c ≡ false) where
    after_calm : IsAfter s (act g s x)
    after_calm = decided_by (IsAfter s) (λ none. after_accepted none little) (λ r e. after_refused r (like r e))

    view_calm : (act g s x).view ≡ s.view
    view_calm = decided_by (λ t. t.view ≡ s.view) (λ none. calm) (λ r e i c. (like r e).views c
        (unbroken (breaks_views r.cause) (resizes x.act s c) (is_list_now (s.contents c)) (resizes_none c)) i)
      where
        unbroken : (a b l : Bool) → b ≡ false → (a && (b && l)) ≡ false
        unbroken true true l e = absurd (not_both refl e)
        unbroken true false l e = refl
        unbroken false b l e = refl

  -- where it breaks those of a list
  module _ (change : Result Contents Trap) (is : effect g x.line s x.act ≡ views_broken name (changed name change s))
      (resizes_it : (r : Refused) → refusal g s x.act ≡ Some r → (c : ℕ) → resizes x.act s c ≡ nat_eq c (container_at s name))
      (breaks : (r : Refused) → refusal g s x.act ≡ Some r → is_list_now (contents_at s name) ≡ true → breaks_views r.cause ≡ true)
      (below : container_at s name < s.made) where
    after_broken : IsAfter s (act g s x)
    after_broken = decided_by (IsAfter s)
        (λ none. after_accepted none (subst (IsLittle s) (sym is) (list_little (contents_at (changed name change s) name)
        (container_at (changed name change s) name) s (changed name change s) (changed_little name change s))))
        (λ r e. after_refused r (like r e))

    -- what is a list was one before
    stays_list : refusal g s x.act ≡ None → is_list_now (contents_at s name) ≡ is_list_now (contents_at (changed name change s) name)
    stays_list none =
        let c = container_at s name in
        let u = changed name change s in
        let same : (effect g x.line s x.act).contents ≡ u.contents = ap (λ (z : ScriptState). z.contents) is
        ∙ broken_contents (contents_at u name) (container_at u name) u in
        let at : contents_at u name ≡ u.contents c = ap (λ f. u.contents (states.container_of (f name))) (changed_little name change s).values in
        sym (form_list (s.contents c)) ∙ ap is_list_now (sym (accepted_form none c below)) ∙ form_list ((effect g x.line s x.act).contents c)
        ∙ ap (λ f. is_list_now (f c)) same ∙ ap is_list_now (sym at)

    view_broken_now : IsViewBroken s (act g s x) (container_at s name) (is_list_now (contents_at s name))
    view_broken_now = decided_by (λ t. IsViewBroken s t (container_at s name) (is_list_now (contents_at s name)))
        (λ none. subst (λ t. IsViewBroken s t (container_at s name) (is_list_now (contents_at s name))) (sym is)
        (changed_broken name change s (stays_list none)))
        (λ r e. record {
          here = λ list. (like r e).broken (container_at s name) (all_so (breaks_views r.cause) _ _ (breaks r e list)
              (resizes_it r e (container_at s name) ∙ eq-eqb (container_at s name) (container_at s name) refl) list);
          others = λ c either. (like r e).views c (not_so (breaks_views r.cause) c r e either);
        })
      where
        all_so : (a b l : Bool) → a ≡ true → b ≡ true → l ≡ true → (a && (b && l)) ≡ true
        all_so a b l p q r = λ i. p i && (q i && r i)

        none_so : (a b l : Bool) → (b ≡ true → l ≡ false) → (a && (b && l)) ≡ false
        none_so true true l e = e refl
        none_so true false l e = refl
        none_so false b l e = refl

        not_so : (a : Bool) (c : ℕ) (r : Refused) (e : refusal g s x.act ≡ Some r) → (c ≢ container_at s name) ⊎ (is_list_now (contents_at s name) ≡ false)
            → (a && (resizes x.act s c && is_list_now (s.contents c))) ≡ false
        not_so a c r e either = none_so a (resizes x.act s c) (is_list_now (s.contents c)) (λ t.
            let same = eqb-true c (container_at s name) (sym (resizes_it r e c) ∙ t) in
            ⊎_elim (λ ne. absurd (ne same)) (λ f. ap (λ k. is_list_now (s.contents k)) same ∙ f) either)

-- ---- the planner after it

slot_is : (start : ℕ) (c : Contents) (slot : Slot) → slot_by (bind_of start c) slot ≡ (if is_list_now c then Some slot else None)
slot_is start (Elements xs) slot = refl
slot_is start (Single z) slot = refl
slot_is start (Items cap xs) slot = refl
slot_is start (Pairs cap ps) slot = refl
slot_is start (Entries room es) slot = refl

views_only : (o : Option Slot) (k : ℕ) (z : SlotState) → with_break o k z ≡ record z { view = (with_break o k z).view }
views_only None k z = refl
views_only (Some slot) k z = by (nat_eq k slot.0)
  where
    by : (b : Bool) → (if b then record z { view = z.view + 1 } else z) ≡ record z { view = (if b then record z { view = z.view + 1 } else z).view }
    by true = refl
    by false = refl

-- A statement that breaks the views of the list that it changes.
pub record IsResize (x : Order) (name : ℕ) (kinds : List NameKind) : Type 0 where
  pub write : IsWrite x name kinds
  pub whole : (k : NameKind) → list_any (same_kind k) kinds ≡ true → (k ≡ kind.Slice → ⊥) × (k ≡ kind.View → ⊥)
  pub change : ScriptState → Result Contents Trap
  pub is : (g : Setting) (s : ScriptState) (line : ℕ) → effect g line s x ≡ views_broken name (changed name (change s) s)
  pub resizes_it : (g : Setting) (s : ScriptState) (r : Refused) → access s name (need_of s name true) [] ≡ None → refusal g s x ≡ Some r → (c : ℕ)
      → resizes x s c ≡ nat_eq c (container_at s name)
  pub breaks : (g : Setting) (s : ScriptState) (r : Refused) → access s name (need_of s name true) [] ≡ None → refusal g s x ≡ Some r
      → is_list_now (contents_at s name) ≡ true → breaks_views r.cause ≡ true

-- what its name stands for where nothing blocks it
module _ (x : Statement) (name : ℕ) (kinds : List NameKind) (z : IsResize x.act name kinds) (p : Planner) (v : Value)
    (h : slice_get p.world.values.items name ≡ Some v) {script : Script} {table : Table} (b : IsBefore script table p x)
    (none : access (state_at script table b.n) name (need_of (state_at script table b.n) name true) [] ≡ None) where
  open b use {n, step, stands as st}

  abbrev before : ScriptState
  before = state_at script table n

  abbrev after : ScriptState
  after = act (setting script table) before x

  whole : IsWholeAt p before v
  whole =
      let u = z.write.used (setting script table) step.accepted.kinds (fits_at step) in
      let used = is_used (record { kinds = step.accepted.kinds; made = u.0 }) name kinds u.1 in
      let stands = st.knows.names.are name v h in
      let no_part = z.whole used.kind used.fits in
      whole_at p before used.kind v no_part.0 no_part.1 (subst (IsOfKind before used.kind) (sym stands) ((holds_kinds step).names name used.kind used.at))
      (ap (is_alive before) stands ∙ (allowed before name true none).alive) (st.knows.names.there name v h)

  at : container_at before name ≡ whole.c
  at = ap states.container_of (sym (st.knows.names.are name v h) ∙ ap (value_for p.world.handles.items) whole.is)

  below : container_at before name < before.made
  below = let lt = get_below p.world.containers.items whole.c whole.it whole.has in let e = st.knows.containers.made in let a = at in omega arith

  slot : list_slot p.world.containers.items v ≡ (if is_list_now (before.contents whole.c) then Some whole.it.slot else None)
  slot =
      ap (list_slot p.world.containers.items) whole.is ∙ ap slot_from whole.has
      ∙ ap (λ b. slot_by b whole.it.slot) (st.knows.containers.each whole.c whole.it whole.has).bind
      ∙ slot_is _ (before.contents whole.c) whole.it.slot

  breakable_here : IsBreakable p.world.safety (list_slot p.world.containers.items v)
  breakable_here = subst (IsBreakable p.world.safety) (sym slot) (by (is_list_now (before.contents whole.c)))
    where
      by : (b : Bool) → IsBreakable p.world.safety (if b then Some whole.it.slot else None)
      by false = tt
      by true =
          let k = st.knows.containers.each whole.c whole.it whole.has in
          let z = state_of p.world.safety whole.it.slot.0 in
          let few = view_numbers_are_few (setting script table) (take n script.statements.items) whole.c in
          let long = length-take n script.statements.items in
          let most = statements_few step in
          let view = k.view whole.alive in
          ((and_parts z.live _ (k.alive ∙ whole.alive)).0, omega arith)

  -- the views of its list are broken as they are in the script
  module _ (m : Planner) (w : World) (op : Op) (i : IsPushed p m op) (e : IsBroken m.world w v) where
    abbrev q : Planner
    q = record m { world = w }

    states_are : (k : ℕ) → state_of q.world.safety k ≡ with_break (list_slot p.world.containers.items v) k (state_of p.world.safety k)
    states_are k = e.slots k ∙ ap (λ (y : Planner). with_break (list_slot y.world.containers.items v) k (state_of y.world.safety k)) i.rest

    broken : IsViewBroken before after (container_at before name) (is_list_now (contents_at before name))
    broken = view_broken_now x name kinds z.write step (z.change before) (z.is (setting script table) before x.line)
        (λ r f. z.resizes_it (setting script table) before r none f) (λ r f. z.breaks (setting script table) before r none f) below

    views_are : (c : ℕ) (it : Container) → slice_get p.world.containers.items c ≡ Some it → before.alive c ≡ true
        → (state_of q.world.safety it.slot.0).view ≡ after.view c
    views_are c it has alive = ⊎_elim list other (either_bool (is_list_now (before.contents whole.c)))
      where
        own : (state_of p.world.safety it.slot.0).view ≡ before.view c
        own = (st.knows.containers.each c it has).view alive

        by_slot : (b : Bool) → is_list_now (before.contents whole.c) ≡ b → (state_of q.world.safety it.slot.0).view ≡
            (with_break (if b then Some whole.it.slot else None) it.slot.0 (state_of p.world.safety it.slot.0)).view
        by_slot b f = ap (λ (y : SlotState). y.view) (states_are it.slot.0
            ∙ ap (λ o. with_break o it.slot.0 (state_of p.world.safety it.slot.0)) (slot ∙ ap (λ b. if b then Some whole.it.slot else None) f))

        same_list : is_list_now (contents_at before name) ≡ is_list_now (before.contents whole.c)
        same_list = ap (λ k. is_list_now (before.contents k)) at

        other : is_list_now (before.contents whole.c) ≡ false → (state_of q.world.safety it.slot.0).view ≡ after.view c
        other f = by_slot false f ∙ own ∙ sym (broken.others c (inr (same_list ∙ f)))

        list : is_list_now (before.contents whole.c) ≡ true → (state_of q.world.safety it.slot.0).view ≡ after.view c
        list f = by_slot true f ∙ ⊎_elim it_is it_is_not (cases_eq c whole.c)
          where
            it_is : c ≡ whole.c → (with_break (Some whole.it.slot) it.slot.0 (state_of p.world.safety it.slot.0)).view ≡ after.view c
            it_is same =
                let its = some_is (sym has ∙ ap (slice_get p.world.containers.items) same ∙ whole.has) in
                let hit : nat_eq it.slot.0 whole.it.slot.0 ≡ true = eq-eqb it.slot.0 whole.it.slot.0 (ap (λ (y : Container). y.slot.0) its) in
                let old = state_of p.world.safety it.slot.0 in
                ap (λ b. (if b then record old { view = old.view + 1 } else old).view) hit
                ∙ ap (λ k. k + 1) own
                ∙ ap (λ k. before.view k + 1) (same ∙ sym at)
                ∙ sym (broken.here (same_list ∙ f))
                ∙ ap after.view (at ∙ sym same)

            it_is_not : c ≢ whole.c → (with_break (Some whole.it.slot) it.slot.0 (state_of p.world.safety it.slot.0)).view ≡ after.view c
            it_is_not ne =
                let made : c < before.made = let lt = get_below p.world.containers.items c it has in let e = st.knows.containers.made in omega arith in
                let made_too : whole.c < before.made = let lt = get_below p.world.containers.items whole.c whole.it whole.has
                in let e = st.knows.containers.made in
                omega arith in
                let live = alive_is_live before c made alive in
                let live_too = alive_is_live before whole.c made_too whole.alive in
                let miss : nat_eq it.slot.0 whole.it.slot.0 ≡ false = ne_eqb it.slot.0 whole.it.slot.0
                (λ s. ne (st.knows.containers.once c whole.c it whole.it has whole.has live live_too s)) in
                let old = state_of p.world.safety it.slot.0 in
                ap (λ b. (if b then record old { view = old.view + 1 } else old).view) miss
                ∙ own ∙ sym (broken.others c (inl (λ s. ne (s ∙ at))))

    broken_restates : IsRestated p q before after
    broken_restates =
        let is = ap (λ (k : World). record m { world = k }) e.rest ∙ ap (λ (k : Planner). record k { world = record k.world { safety = w.safety } }) i.rest in
        let a = after_broken x name kinds z.write step (z.change before) (z.is (setting script table) before x.line)
        (λ r f. z.resizes_it (setting script table) before r none f) (λ r f. z.breaks (setting script table) before r none f) below in
        let handles = ap (λ (k : Planner). length k.world.handles.items) is in
        record {
          planner = changed_fields p q p.world.values p.world.handles q.world.safety p.world.passing m.draft.ops is;
          state = a.state;
          passing = ap (λ (k : Planner). k.world.passing) is ∙ st.numbers.passing ∙ step.acts ∙ sym a.passing;
          values = ap (λ (k : Planner). length k.world.values.items) is;
          handles = omega arith;
          ops = one_op_more p.draft.ops.items q.draft.ops.items op (ap (λ (k : Planner). k.draft.ops.items) is ∙ i.ops);
          form = a.form;
          slots = λ k. states_are k ∙ views_only (list_slot p.world.containers.items v) k (state_of p.world.safety k)
              ∙ ap (λ (y : SlotState). record (state_of p.world.safety k) { view = y.view }) (sym (states_are k));
          views = views_are;
        }

    broken_values : after.values ≡ before.values
    broken_values = (after_broken x name kinds z.write step (z.change before) (z.is (setting script table) before x.line)
        (λ r f. z.resizes_it (setting script table) before r none f) (λ r f. z.breaks (setting script table) before r none f) below).values

-- ---- it goes on

-- a statement that breaks no views
pub record IsCalm (x : Order) : Type 0 where
  little : (g : Setting) (line : ℕ) (s : ScriptState) → IsLittle s (effect g line s x)
  view : (g : Setting) (line : ℕ) (s : ScriptState) → (effect g line s x).view ≡ s.view
  sizes : (s : ScriptState) (c : ℕ) → resizes x s c ≡ false

module _ (x : Statement) (name : ℕ) (kinds : List NameKind) (operation : Bind → Act) (plans : Plans x name kinds operation)
    (gives : (b : Bind) → given_by (operation b) ≡ []) where
  pub write_on : (w : IsWrite x.act name kinds) → IsCalm x.act → (p q : Planner) (v : Value) (at : Bind) → MayUse p.world name true None
      → slice_get p.world.values.items name ≡ Some v → at ≡ bind_by p.world.containers.items v
      → IsPushed p q (record { line = x.line; name = name; act = operation at }) → GoesOn p q x
  write_on w calm p q v at may value is i script table b =
      let g = setting script table in
      let s = state_at script table b.n in
      let t = act g s x in
      let little = calm.little g x.line s in
      let a = after_calm x name kinds w b.step little (calm.view g x.line s) (calm.sizes s) in
      let view = view_calm x name kinds w b.step little (calm.view g x.line s) (calm.sizes s) in
      let restates = pushed_restates b.stands i a.state (a.passing ∙ sym b.step.acts) view a.form in
      let op : Op = record { line = x.line; name = name; act = operation at } in
      plain_steps b q (restated b.stands restates (known_after b.step)
      (pushed_names p q _ (length p.world.containers.items) s t i a.values b.stands.knows.names)
      (planned_on x name kinds w operation plans p q v at b may value is i))
      (quiet_restated p q s t restates (given_one p.draft.ops.items q.draft.ops.items op i.ops (gives at)))
      (w.plain g) (ap (λ (u : ScriptState). u.book.completed) restates.state)

  -- one that breaks those of a list
  pub resize_on : (z : IsResize x.act name kinds) (p m : Planner) (w : World) (v : Value) (at : Bind) → MayUse p.world name true None
      → slice_get p.world.values.items name ≡ Some v
      → at ≡ bind_by p.world.containers.items v
      → IsPushed p m (record { line = x.line; name = name; act = operation at }) → IsBroken m.world w v → GoesOn p (record m { world = w }) x
  resize_on z p m w v at may value is i e script table b =
      let q : Planner = record m { world = w } in
      let q_is = ap (λ (k : World). record m { world = k }) e.rest in
      let g = setting script table in
      let s = state_at script table b.n in
      let t = act g s x in
      let none = sym (may g s b.found b.stands.knows) in
      let restates = broken_restates x name kinds z p v value b none m w _ i e in
      let op : Op = record { line = x.line; name = name; act = operation at } in
      plain_steps b q (restated b.stands restates (known_after b.step)
      (subst (λ (k : Planner). AreNames k.world.values.items k.world.handles.items (length p.world.containers.items) t) (sym q_is)
      (pushed_names p m _ (length p.world.containers.items) s t i (broken_values x name kinds z p v value b none m w _ i e) b.stands.knows.names))
      (λ y a. subst (λ k. IsPlanned y t (draft_of k)) (sym q_is) (planned_on x name kinds z.write operation plans p m v at b may value is i y a)))
      (quiet_restated p q s t restates (given_one p.draft.ops.items q.draft.ops.items op (ap (λ (k : Planner). k.draft.ops.items) q_is ∙ i.ops) (gives at)))
      (z.write.plain g) (ap (λ (u : ScriptState). u.book.completed) restates.state)

pub resize_breakable : (x : Statement) (name : ℕ) (kinds : List NameKind) (z : IsResize x.act name kinds) (p : Planner) (v : Value) → IsReady p x
    → MayUse p.world name true None → slice_get p.world.values.items name ≡ Some v
    → IsBreakable p.world.safety (list_slot p.world.containers.items v)
resize_breakable x name kinds z p v r may value =
    let b = r.2 in
    let s = state_at r.0 r.1 b.n in
    breakable_here x name kinds z p v value b (sym (may (setting r.0 r.1) s b.found b.stands.knows))

-- ---- each statement

pub set_write : (name : ℕ) (at : Option ℤ) (value : ℤ) → IsWrite (order.Set name at value) name (set_kinds at)
set_write name at value = record {
  by = refl;
  unnamed = refl;
  passed = refl;
  plain = λ g. (refl, tt);
  blocked = λ g s r e. access_some s name (unchanged name (set_in (s.values name) (contents_at s name) at value) ∷ []) r e;
  keeps = λ s c. refl;
  used = λ g all f. (f.made, f.fits);
}

pub set_calm : (name : ℕ) (at : Option ℤ) (value : ℤ) → IsCalm (order.Set name at value)
set_calm name at value = record {
  little = λ g line s. changed_little name (set_in (s.values name) (contents_at s name) at value) s;
  view = λ g line s. changed_view name (set_in (s.values name) (contents_at s name) at value) s;
  sizes = λ s c. refl;
}

pub set_plans : (line name : ℕ) (at : Option ℤ) (value : ℤ) → Plans (record { line = line; act = order.Set name at value }) name (set_kinds at)
    (λ b. Set b (unwrap_or at (pos 0)) value)
set_plans line name at value y g s d e small known planned pass writable adds =
    sets_are_planned at value y g s (record { line = line; act = order.Set name at value }) name d e small known planned pass writable refl adds

pub put_write : (name : ℕ) (key value : ℤ) → IsWrite (order.Put name key value) name (kind.Map ∷ [])
put_write name key value = record {
  by = refl;
  unnamed = refl;
  passed = refl;
  plain = λ g. (refl, tt);
  blocked = λ g s r e. access_some s name (unchanged name (put_pair_in (contents_at s name) key value) ∷ []) r e;
  keeps = λ s c. refl;
  used = λ g all f. (f.made, f.fits);
}

pub put_calm : (name : ℕ) (key value : ℤ) → IsCalm (order.Put name key value)
put_calm name key value = record {
  little = λ g line s. changed_little name (put_pair_in (contents_at s name) key value) s;
  view = λ g line s. changed_view name (put_pair_in (contents_at s name) key value) s;
  sizes = λ s c. refl;
}

pub put_plans : (line name : ℕ) (key value : ℤ) → Plans (record { line = line; act = order.Put name key value }) name (kind.Map ∷ []) (λ b. Put b key value)
put_plans line name key value y g s d e small known planned pass writable adds =
    puts_are_planned key value y g s (record { line = line; act = order.Put name key value }) name d e small known planned pass writable refl adds

pub add_gives : (first : ℤ) (second : Option ℤ) (b : Bind) → given_by (add_act first second b) ≡ []
add_gives first None b = refl
add_gives first (Some second) b = refl

-- what a change of a list's size is refused by

cause_in : (name : ℕ) (t : Trap) (r : Refused) → Some (record { cause = refusal_of t; name = name }) ≡ Some r
    → breaks_views (refusal_of t) ≡ breaks_views r.cause
cause_in name t r e = ap (λ (r : Refused). breaks_views r.cause) (some_is e)

add_breaks : (c : Contents) (first : ℤ) (second : Option ℤ) (name : ℕ) (r : Refused) → unchanged name (add_in c first second) ≡ Some r → is_list_now c ≡ true
    → breaks_views r.cause ≡ true
add_breaks (Elements xs) first second name r e list = absurd (not_both list refl)
add_breaks (Single v) first second name r e list = absurd (not_both list refl)
add_breaks (Pairs cap ps) first second name r e list = absurd (not_both list refl)
add_breaks (Entries room es) first second name r e list = absurd (not_both list refl)
add_breaks (Items cap xs) first (Some second) name r e list = sym (cause_in name Range r e)
add_breaks (Items cap xs) first None name r e list = by (nat_lt (length xs) cap) e
  where
    by : (b : Bool) → unchanged name (then_value (if b then Ok (xs ++ first ∷ []) else Err Full) (λ ys. Ok (Items cap ys))) ≡ Some r
        → breaks_views r.cause ≡ true
    by true e = absurd (none_some e)
    by false e = sym (cause_in name Full r e)

abbrev swapped : List ℤ → ℕ → Result (List ℤ) Trap
swapped xs k = Ok (take (length xs - 1) (set xs k (get_or xs (length xs - 1) (pos 0))))

remove_breaks : (c : Contents) (i : ℤ) (name : ℕ) (r : Refused) → unchanged name (remove_in c i) ≡ Some r → is_list_now c ≡ true → breaks_views r.cause ≡ true
remove_breaks (Elements xs) i name r e list = absurd (not_both list refl)
remove_breaks (Single v) i name r e list = absurd (not_both list refl)
remove_breaks (Pairs cap ps) i name r e list = absurd (not_both list refl)
remove_breaks (Entries room es) i name r e list = absurd (not_both list refl)
remove_breaks (Items cap xs) (negsuc k) name r e list = sym (cause_in name Range r e)
remove_breaks (Items cap xs) (pos k) name r e list = by (nat_lt k (length xs)) e
  where
    by : (b : Bool) → unchanged name (then_value (then_value (if b then Ok k else Err Range) (swapped xs)) (λ ys. Ok (Items cap ys))) ≡ Some r
        → breaks_views r.cause ≡ true
    by true e = absurd (none_some e)
    by false e = sym (cause_in name Range r e)

-- by the contents alone, where nothing blocks it
by_contents : (s : ScriptState) (name : ℕ) (o : Option Refused) → access s name (need_of s name true) [] ≡ None
    → access s name (need_of s name true) (o ∷ []) ≡ o
by_contents s name o none = access_none s name (o ∷ []) none ∙ first_one o

excluded : (kinds : List NameKind) → (list_any (same_kind kind.Slice) kinds ≡ false) × (list_any (same_kind kind.View) kinds ≡ false) → (k : NameKind)
    → list_any (same_kind k) kinds ≡ true → (k ≡ kind.Slice → ⊥) × (k ≡ kind.View → ⊥)
excluded kinds no_ k is =
    (λ e. not_both (subst (λ k. list_any (same_kind k) kinds ≡ true) e is) no_.0, λ e. not_both (subst (λ k. list_any (same_kind k) kinds ≡ true) e is) no_.1)

add_whole : (second : Option ℤ) → (list_any (same_kind kind.Slice) (add_kinds second) ≡ false) × (list_any (same_kind kind.View) (add_kinds second) ≡ false)
add_whole None = (refl, refl)
add_whole (Some second) = (refl, refl)

pub add_resize : (name : ℕ) (first : ℤ) (second : Option ℤ) → IsResize (order.Add name first second) name (add_kinds second)
add_resize name first second = record {
  write = record {
    by = refl;
    unnamed = refl;
    passed = refl;
    plain = λ g. (refl, tt);
    blocked = λ g s r e. access_some s name (unchanged name (add_in (contents_at s name) first second) ∷ []) r e;
    keeps = λ s c. refl;
    used = λ g all f. (f.made, f.fits);
  };
  whole = excluded (add_kinds second) (add_whole second);
  change = λ s. add_in (contents_at s name) first second;
  is = λ g s line. refl;
  resizes_it = λ g s r none e c. refl;
  breaks = λ g s r none e list. add_breaks (contents_at s name) first second name r
      (sym (by_contents s name (unchanged name (add_in (contents_at s name) first second)) none) ∙ e) list;
}

pub add_plans : (line name : ℕ) (first : ℤ) (second : Option ℤ) → Plans (record { line = line; act = order.Add name first second }) name (add_kinds second)
    (add_act first second)
add_plans line name first second y g s d e small known planned pass writable adds =
    adds_are_planned first second y g s (record { line = line; act = order.Add name first second }) name d e small known planned pass writable refl adds

pub remove_resize : (name : ℕ) (at : ℤ) → IsResize (order.Remove name at) name REMOVABLE
remove_resize name at = record {
  write = record {
    by = refl;
    unnamed = refl;
    passed = refl;
    plain = λ g. (refl, tt);
    blocked = λ g s r e. access_some s name (unchanged name (remove_in (contents_at s name) at) ∷ []) r e;
    keeps = λ s c. refl;
    used = λ g all f. (f.made, f.fits);
  };
  whole = excluded REMOVABLE (refl, refl);
  change = λ s. remove_in (contents_at s name) at;
  is = λ g s line. refl;
  resizes_it = λ g s r none e c. refl;
  breaks = λ g s r none e list. remove_breaks (contents_at s name) at name r
      (sym (by_contents s name (unchanged name (remove_in (contents_at s name) at)) none) ∙ e) list;
}

pub remove_plans : (line name : ℕ) (at : ℤ) → Plans (record { line = line; act = order.Remove name at }) name REMOVABLE (λ b. Remove b at)
remove_plans line name at y g s d e small known planned pass writable adds =
    removes_are_planned at y g s (record { line = line; act = order.Remove name at }) name d e small known planned pass writable refl adds

pub clear_resize : (name : ℕ) → IsResize (order.Clear name) name CLEARABLE
clear_resize name = record {
  write = record {
    by = refl;
    unnamed = refl;
    passed = refl;
    plain = λ g. (refl, tt);
    blocked = λ g s r e. e;
    keeps = λ s c. refl;
    used = λ g all f. (f.made, f.fits);
  };
  whole = excluded CLEARABLE (refl, refl);
  change = λ s. Ok (cleared (contents_at s name));
  is = λ g s line. refl;
  resizes_it = λ g s r none e c. absurd (none_some (sym none ∙ e));
  breaks = λ g s r none e list. absurd (none_some (sym none ∙ e));
}

pub clear_plans : (line name : ℕ) → Plans (record { line = line; act = order.Clear name }) name CLEARABLE (λ b. Clear b)
clear_plans line name y g s d e small known planned pass writable adds =
    clears_are_planned y g s (record { line = line; act = order.Clear name }) name d e small known planned pass writable refl adds
