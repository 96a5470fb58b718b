-- A planner of which little changed, while the script went on by a statement that changed little: it stands for the
-- state afterwards.
--
-- What may change is named by `IsRestated`: what names stand for, one operation more, how many statements are passed by,
-- contents that keep their form, view numbers, and what is told. A refused statement is one such (`said` and the lemmas
-- after it).
use Rattle.std.proofs.Common.{◌≡◌, ◌≢◌, ℕ, zero, suc, ◌+◌, ◌*◌, ◌<◌, ◌≤◌, ◌⊎◌, inl, inr, Bool, true, false, cond, ◌&&◌, List, [], ◌∷◌, ◌++◌, length, Some, None, refl, sym, ap, subst, ◌∙◌, arith}
use Rattle.std.specs.Prelude.{Vec, vec_len, nat_eq, slice_get, slice_set, get_or}
use Rattle.std.specs.declared.alloc.Global.{Global}
use Rattle.std.proofs.lemmas.Bool.{eqb-true, eq-eqb}
use Rattle.std.proofs.lemmas.List.{length-append}
use Rattle.job_base.specs.declared.Span.{Span}
use Rattle.frame_ast.specs.declared.script.Order.{Order}
use Rattle.frame_ast.specs.declared.script.Statement.{Statement}
use Rattle.frame_ast.specs.declared.script.Script.{Script}
use Rattle.frame_ast.specs.Checks.{refusal}
use Rattle.frame_ast.specs.Contents.{Contents, Cells as Elements, Single, Items, Pairs, Entries, words_of, map_places}
use Rattle.frame_ast.specs.Effects.{breaks_views, effect}
use Rattle.frame_ast.specs.Jobs.{nobody}
use Rattle.frame_ast.specs.Laws.{IsKnown, is_name, lost_value, resizes, is_list_now, breaks_views_of, passed_with, IsLikeBefore}
use Rattle.frame_ast.specs.Orders.{Table, Setting, setting, name_text, made_by}
use Rattle.frame_ast.specs.Refusals.{Refused}
use Rattle.frame_ast.specs.Scripts.{act, act_or_pass, decided}
use Rattle.frame_ast.specs.States as states
use Rattle.frame_ast.specs.States.{ScriptState, is_live}
use Rattle.frame_ast.proofs.Refusing.{refused_changes_little}
use Rattle.kernel_exec.specs.declared.binds.Bind.{Bind}
use Rattle.kernel_exec.specs.declared.binds.Bind.TheVariants.{Int, Array, View as ViewBind, List as WholeList, Ref, Map, Stream}
use Rattle.slot_store.specs.Stores.{peak_of}
use Rattle.safety_handle.specs.declared.book.SafetyBook.{SafetyBook}
use Rattle.safety_handle.specs.Entries.{SlotState, state_of}
use Rattle.safety_handle.specs.Checks.{is_current}
use Rattle.safety_handle.specs.Uses.{StandForUses}
use Rattle.frame_core.specs.declared.plan.Act.TheVariants.{Say}
use Rattle.frame_core.specs.declared.plan.Op.{Op}
use Rattle.frame_core.specs.Names.{name_of}
use Rattle.frame_core.proofs.Small.{get_below}
use Rattle.plan_laws.specs.Binds.{bind_of}
use Rattle.plan_laws.specs.Planned.{Outline, IsPlanned, Adds}
use Rattle.plan_laws.proofs.Statements.Refusing.{refusals_are_planned}
use Rattle.plan_state.specs.declared.state.Value.{Value}
use Rattle.plan_state.specs.declared.state.Value.TheVariants.{Dead, Jobs as Handles}
use Rattle.plan_state.specs.declared.state.Container.{Container}
use Rattle.plan_state.specs.declared.state.Planner.{Planner}
use Rattle.plan_state.specs.declared.state.World.{World}
use Rattle.plan_state.specs.Accesses.{IsPushed, IsRenamed, HasHandle}
use Rattle.job_handle.specs.declared.handle.Handle.{Handle}
use Rattle.plan_state.specs.Growth.{given_from, given_in}
use Rattle.plan_state.specs.Stands.{tag_of, IsThere, AreNames, IsContainer, IsOwned, IsCopy, IsGuardedCopy, Agrees, Stands, draft_of}
use Rattle.plan_state.specs.Steps.{state_at, IsBefore, HasStepped}
use Rattle.plan_state.proofs.Naming.{set_long, IsNamed, same_names, renamed_names, handle_names, handles_more}
use Rattle.plan_state.proofs.Quiet.{IsPlain, IsQuiet, given_one, plain_steps, refused_steps}
use Rattle.plan_state.proofs.Reaching.{known_after}

-- ---- the words of a container rest on its form

abbrev words_in : Bind → ℕ
words_in (Int z) = 0
words_in (Array at own) = at.len
words_in (ViewBind at own) = 0
words_in (WholeList at) = at.cap + 1
words_in (Ref at) = 1
words_in (Map at) = 1 + 3 * map_places at.cap
words_in (Stream at own) = at.count * (at.room + 1)

words_are : (c : Contents) → words_of c ≡ words_in (bind_of 0 c)
words_are (Elements xs) = refl
words_are (Single z) = refl
words_are (Items cap xs) = refl
words_are (Pairs cap ps) = refl
words_are (Entries room es) = refl

pub words_kept : (c d : Contents) → ((start : ℕ) → bind_of start c ≡ bind_of start d) → words_of c ≡ words_of d
words_kept c d e = words_are c ∙ ap words_in (e 0) ∙ sym (words_are d)

-- ---- little changes

pub record IsRestated (p q : Planner) (s t : ScriptState) : Type 0 where
  pub planner : q ≡ record p {
    world = record p.world {
      values = q.world.values;
      handles = q.world.handles;
      safety = q.world.safety;
      passing = q.world.passing;
    };
    draft = record p.draft { ops = q.draft.ops };
  }
  pub state : t ≡ record s { values = t.values; contents = t.contents; view = t.view; refused = t.refused; passing = t.passing; lines = t.lines }
  pub passing : q.world.passing ≡ t.passing
  pub values : length q.world.values.items ≡ length p.world.values.items
  pub handles : length q.world.handles.items ≤ suc (length p.world.handles.items)
  pub ops : length q.draft.ops.items ≤ suc (length p.draft.ops.items)
  -- contents keep their form
  pub form : (c start : ℕ) → c < s.made → bind_of start (t.contents c) ≡ bind_of start (s.contents c)
  -- of the safety book only view numbers change, as they do in the script
  pub slots : (k : ℕ) → state_of q.world.safety k ≡ record (state_of p.world.safety k) { view = (state_of q.world.safety k).view }
  pub views : (c : ℕ) (it : Container) → slice_get p.world.containers.items c ≡ Some it → s.alive c ≡ true → (state_of q.world.safety it.slot.0).view ≡ t.view c

module _ (p : Planner) (g : Setting) (begun : ScriptState) (n : ℕ) (s : ScriptState) (found : List ℕ) (st : Stands p g begun n s found)
    (values : Vec Value Global) (handles : Vec Handle Global) (safety : SafetyBook) (passing : ℕ) (ops : Vec Op Global)
    (names : ℕ → states.Value) (contents : ℕ → Contents) (view : ℕ → ℕ) (refused passed : ℕ) (lines : List ℕ)
    (passing_is : passing ≡ passed) (values_long : length values.items ≡ length p.world.values.items)
    (handles_few : length handles.items ≤ suc (length p.world.handles.items)) (ops_few : length ops.items ≤ suc (length p.draft.ops.items))
    (form : (c start : ℕ) → c < s.made → bind_of start (contents c) ≡ bind_of start (s.contents c))
    (slots : (k : ℕ) → state_of safety k ≡ record (state_of p.world.safety k) { view = (state_of safety k).view })
    (views : (c : ℕ) (it : Container) → slice_get p.world.containers.items c ≡ Some it → s.alive c ≡ true → (state_of safety it.slot.0).view ≡ view c) where
  abbrev q : Planner
  q = record p { world = record p.world { values = values; handles = handles; safety = safety; passing = passing }; draft = record p.draft { ops = ops } }

  abbrev t : ScriptState
  t = record s { values = names; contents = contents; view = view; refused = refused; passing = passed; lines = lines }

  words : (c : ℕ) → c < s.made → words_of (contents c) ≡ words_of (s.contents c)
  words c below = words_kept (contents c) (s.contents c) (λ start. form c start below)

  below_made : (c : ℕ) (it : Container) → slice_get p.world.containers.items c ≡ Some it → c < s.made
  below_made c it h = let lt = get_below p.world.containers.items c it h in let e = st.knows.containers.made in omega arith

  container_kept : (c : ℕ) (it : Container) → slice_get p.world.containers.items c ≡ Some it → IsContainer p.world s found c it
      → IsContainer q.world t found c it
  container_kept c it h k =
      let span : ℕ → Span = λ w. record { start = get_or found (s.range c) 0; len = w } in
      record {
        bind = k.bind ∙ sym (form c (get_or found (s.range c) 0) (below_made c it h));
        range = k.range;
        life = k.life;
        making = k.making;
        named = (let lt = k.named in let e = values_long in omega arith);
        alive = ap (λ z. is_current z (tag_of it None)) (slots it.slot.0) ∙ k.alive;
        uses = λ e. subst (λ (z : SlotState). StandForUses s.book z.latest (s.uses c)) (sym (slots it.slot.0)) (k.uses e);
        view = λ e. views c it h e;
        in_use = k.in_use;
        span = λ e. k.span e ∙ ap span (sym (words c (below_made c it h)));
        taken = k.taken;
        older = k.older;
        low = k.low;
        held = k.held;
      }

  owned_kept : (slot : ℕ) → IsOwned p.world s slot → IsOwned q.world t slot
  owned_kept slot o = record { container = o.container; it = o.it; has = o.has; slot_is = o.slot_is; live = o.live }

  copy_kept : (k place : ℕ) → IsCopy p g k place → IsCopy q g k place
  copy_kept k place c = record { old = c.old; new = c.new; is_old = c.is_old; is_new = c.is_new; same = c.same }

  guard_kept : (k place : ℕ) → IsGuardedCopy p g k place → IsGuardedCopy q g k place
  guard_kept k place c = record {
    old = c.old;
    new = c.new;
    is_old = c.is_old;
    is_new = c.is_new;
    guarded = c.guarded;
    contents = c.contents;
    words = c.words;
    footprint = c.footprint;
  }

  live_kept : (m : ℕ) → m ≤ s.made → states.live_below t m ≡ states.live_below s m
  live_kept zero le = refl
  live_kept (suc m) le = λ i. live_kept m (omega arith) i + cond (is_live s m) (words m (omega arith) i) 0

  agrees_back : (x : Outline) → Agrees q g begun found x → Agrees p g begun found x
  agrees_back x a = record {
    begins = a.begins;
    names = a.names;
    kernels = a.kernels;
    literals = a.literals;
    first = a.first;
    jobs = a.jobs;
    starts = a.starts;
    cells = a.cells;
    small = a.small;
  }

  stands : IsKnown t → AreNames values.items handles.items (length p.world.containers.items) t
      → ((x : Outline) → Agrees p g begun found x → IsPlanned x t (draft_of q)) → Stands q g begun (suc n) t found
  stands known named planned =
      let m = st.numbers in record {
        knows = record {
          known = known;
          names = named;
          each = values_long ∙ st.knows.each;
          containers = record {
            made = st.knows.containers.made;
            each = λ c it h. container_kept c it h (st.knows.containers.each c it h);
            slots = λ slot u. owned_kept slot (st.knows.containers.slots slot u);
            once = st.knows.containers.once;
            versions = st.knows.containers.versions;
          };
          takes = st.knows.takes;
          temps = record { all = st.knows.temps.all; each = st.knows.temps.each };
          tempjobs = (let o = st.knows.tempjobs in record { all = o.all; each = o.each; rising = o.rising; within = o.within; past = o.past; ahead = o.ahead });
          frames = record { order = st.knows.frames.order; past = st.knows.frames.past };
          jobs = st.knows.jobs;
        };
        numbers = record {
          frame = m.frame;
          passing = passing_is;
          created = m.created;
          before = m.before;
          pieces = m.pieces;
          live_words = m.live_words ∙ sym (live_kept s.made (omega arith));
          frames_few = (let le = m.frames_few in omega arith);
          made_few = (let le = m.made_few in omega arith);
          created_few = m.created_few;
          peak_low = m.peak_low;
          slots_few = m.slots_few;
          ops_few = (let le = m.ops_few in let few = ops_few in omega arith);
          segments_few = (let le = m.segments_few in omega arith);
          literals_few = (let le = m.literals_few in omega arith);
          kernels_few = (let le = m.kernels_few in omega arith);
          handles_few = (let le = m.handles_few in let few = handles_few in omega arith);
        };
        kernels = record {
          each = st.kernels.each;
          each_guard = st.kernels.each_guard;
          copies = λ k place h. copy_kept k place (st.kernels.copies k place h);
          guards = λ k place h. guard_kept k place (st.kernels.guards k place h);
          checked = st.kernels.checked;
          coded = st.kernels.coded;
        };
        planned = λ x a. planned x (agrees_back x a);
      }

-- A planner stands for the state afterwards where the plan so far does.
pub restated : {p q : Planner} {g : Setting} {begun : ScriptState} {n : ℕ} {s t : ScriptState} {found : List ℕ}
    → Stands p g begun n s found
    → IsRestated p q s t
    → IsKnown t
    → AreNames q.world.values.items q.world.handles.items (length p.world.containers.items) t
    → ((x : Outline) → Agrees p g begun found x → IsPlanned x t (draft_of q))
    → Stands q g begun (suc n) t found
restated {p} {q} {g} {begun} {n} {s} {t} {found} st r known named planned =
    let as_q : Planner = record p {
      world = record p.world {
        values = q.world.values;
        handles = q.world.handles;
        safety = q.world.safety;
        passing = q.world.passing;
      };
      draft = record p.draft { ops = q.draft.ops };
    } in
    let as_t : ScriptState = record s { values = t.values; contents = t.contents; view = t.view; refused = t.refused; passing = t.passing; lines = t.lines } in
    subst (λ k. Stands k g begun (suc n) t found) (sym r.planner)
    (subst (λ u. Stands as_q g begun (suc n) u found) (sym r.state)
    (stands p g begun n s found st q.world.values q.world.handles q.world.safety q.world.passing q.draft.ops t.values t.contents t.view t.refused t.passing
    t.lines
    r.passing r.values r.handles r.ops r.form r.slots r.views
    (subst IsKnown r.state known)
    (subst (AreNames q.world.values.items q.world.handles.items (length p.world.containers.items)) r.state named)
    (λ x a. subst (λ u. IsPlanned x u (draft_of as_q)) r.state (subst (λ k. IsPlanned x t (draft_of k)) r.planner (planned x a)))))

-- ---- it gives no range and starts no job where its operations give none

pub quiet_restated : (p q : Planner) (s t : ScriptState) → IsRestated p q s t → given_in q.draft.ops.items ≡ given_in p.draft.ops.items → IsQuiet p q
quiet_restated p q s t r same =
    let segments = ap (λ (k : Planner). k.draft.segments.items) r.planner in
    record {
      spans = λ i. given_from (segments i) ++ same i;
      peak = ap (λ (k : Planner). peak_of k.world.store) r.planner;
      works = ap (λ (k : Planner). k.world.works) r.planner;
      jobs = ap (λ (k : Planner). k.draft.jobs.items) r.planner;
      kernels = ap (λ (k : Planner). k.draft.kernels.items) r.planner;
      segments = segments;
      waits = ap (λ (k : Planner). k.draft.waits.items) r.planner;
    }

-- ---- in the forms in which it is used

-- a planner that is given as one with some fields changed
pub changed_fields : (p q : Planner) (values : Vec Value Global) (handles : Vec Handle Global) (safety : SafetyBook) (passing : ℕ) (ops : Vec Op Global)
    → q ≡ record p { world = record p.world { values = values; handles = handles; safety = safety; passing = passing }; draft = record p.draft { ops = ops } }
    → q ≡ record p {
      world = record p.world { values = q.world.values; handles = q.world.handles; safety = q.world.safety; passing = q.world.passing };
      draft = record p.draft { ops = q.draft.ops };
    }
changed_fields p q values handles safety passing ops e =
    let f : Planner → Planner = λ k. record p {
      world = record p.world {
        values = k.world.values;
        handles = k.world.handles;
        safety = k.world.safety;
        passing = k.world.passing;
      };
      draft = record p.draft { ops = k.draft.ops };
    } in
    e ∙ ap f (sym e)

-- where the safety book, view numbers and contents are as they were
pub calm : {p q : Planner} {g : Setting} {begun : ScriptState} {n : ℕ} {s t : ScriptState} {found : List ℕ}
    → Stands p g begun n s found
    → q ≡ record p {
      world = record p.world { values = q.world.values; handles = q.world.handles; safety = q.world.safety; passing = q.world.passing };
      draft = record p.draft { ops = q.draft.ops };
    }
    → t ≡ record s { values = t.values; contents = t.contents; view = t.view; refused = t.refused; passing = t.passing; lines = t.lines }
    → q.world.safety ≡ p.world.safety
    → t.view ≡ s.view
    → t.contents ≡ s.contents
    → q.world.passing ≡ t.passing
    → length q.world.values.items ≡ length p.world.values.items
    → length q.world.handles.items ≤ suc (length p.world.handles.items)
    → length q.draft.ops.items ≤ suc (length p.draft.ops.items)
    → IsRestated p q s t
calm {p} {q} {g} {begun} {n} {s} {t} {found} st planner state safety view contents passing values handles ops = record {
  planner = planner;
  state = state;
  passing = passing;
  values = values;
  handles = handles;
  ops = ops;
  form = λ c start below. ap (λ f. bind_of start (f c)) contents;
  slots = λ k. ap (λ b. record (state_of b k) { view = (state_of q.world.safety k).view }) safety;
  views = λ c it h alive. ap (λ b. (state_of b it.slot.0).view) safety ∙ (st.knows.containers.each c it h).view alive ∙ ap (λ f. f c) (sym view);
}

-- the names of the whole plan are those of the script
pub name_is : (g : Setting) (x : Outline) (n : ℕ) → x.plan.names ≡ g.names → name_of x.plan n ≡ name_text g n
name_is g x n e = ap (λ ns. get_or ns n []) e

pub name_short : (g : Setting) (x : Outline) (n : ℕ) → x.plan.names ≡ g.names → n < length g.names
    → n < length x.plan.names
name_short g x n e lt = let l = ap length e in omega arith

-- the draft does one operation more
pub adds_op : (p q : Planner) (op : Op)
    → q ≡ record p {
      world = record p.world { values = q.world.values; handles = q.world.handles; safety = q.world.safety; passing = q.world.passing };
      draft = record p.draft { ops = q.draft.ops };
    }
    → q.draft.ops.items ≡ p.draft.ops.items ++ op ∷ []
    → Adds (draft_of p) (draft_of q) (op ∷ [])
adds_op p q op e ops = record {
  segments = ap (λ (k : Planner). k.draft.segments.items) e;
  jobs = ap (λ (k : Planner). k.draft.jobs.items) e;
  waits = ap (λ (k : Planner). k.draft.waits.items) e;
  ops = ops;
}

pub one_op_more : (ops new : List Op) (op : Op) → new ≡ ops ++ op ∷ [] → length new ≤ suc (length ops)
one_op_more ops new op e = let l = ap length e in let m = length-append ops (op ∷ []) in omega arith

-- names are as many as before
pub pushed_in : (p q : Planner) (op : Op) (n : ℕ) → IsPushed p q op → n < vec_len p.world.values → n < vec_len q.world.values
pushed_in p q op n i lt = subst (λ (k : Planner). n < vec_len k.world.values) (sym i.rest) lt

pub pushed_there : (p q : Planner) (op : Op) (v : Value) → IsPushed p q op → IsThere (vec_len p.world.containers) (vec_len p.world.handles) v
    → IsThere (vec_len q.world.containers) (vec_len q.world.handles) v
pushed_there p q op v i h = subst (λ (k : Planner). IsThere (vec_len k.world.containers) (vec_len k.world.handles) v) (sym i.rest) h

-- ---- a refused statement

abbrev pub say_op : Statement → Refused → Op
say_op x r = record { line = x.line; name = r.name; act = Say r.cause }

-- no view is broken with it
abbrev pub BreaksNone : Refused → Order → ScriptState → Type 0
BreaksNone r x s = (breaks_views r.cause ≡ false) ⊎ ((c : ℕ) → resizes x s c ≡ false)

none_broken : (r : Refused) (x : Order) (s : ScriptState) → BreaksNone r x s → (c : ℕ) → breaks_views_of r.cause x s c ≡ false
none_broken r x s (inl e) c = ap (λ b. b && (resizes x s c && is_list_now (s.contents c))) e
none_broken r x s (inr e) c = ap (λ b. breaks_views r.cause && (b && is_list_now (s.contents c))) (e c) ∙ and_false (breaks_views r.cause)
  where
    and_false : (b : Bool) → (b && false) ≡ false
    and_false true = refl
    and_false false = refl

-- the state after it
pub like_state : (g : Setting) (x : Statement) (r : Refused) (s t : ScriptState) → IsLikeBefore g x r s t
    → t ≡ record s { values = t.values; contents = t.contents; view = t.view; refused = t.refused; passing = t.passing; lines = t.lines }
like_state g x r s t h =
    let frame = h.frame in
    let made = h.count in
    let alive = h.alive in
    let life = h.life in
    let making = h.making in
    let uses = h.uses in
    let takes = h.takes in
    let range = h.range in
    let created = h.created in
    let book = h.book in
    let traps = h.traps in
    λ i. record {
      frame = frame i;
      values = t.values;
      made = made i;
      contents = t.contents;
      alive = alive i;
      life = life i;
      making = making i;
      view = t.view;
      uses = uses i;
      takes = takes i;
      range = range i;
      created = created i;
      book = book i;
      traps = traps i;
      refused = t.refused;
      passing = t.passing;
      lines = t.lines;
    }

-- Its line will be told: a planner that changed little stands for the state after it.
pub refused_stands : (p q : Planner) (g : Setting) (begun : ScriptState) (n : ℕ) (s : ScriptState) (found : List ℕ) (x : Statement) (r : Refused)
    → Stands p g begun n s found
    → s.passing ≡ 0
    → refusal g s x.act ≡ Some r
    → r.name < length g.names
    → IsRestated p q s (act g s x)
    → q.draft.ops.items ≡ p.draft.ops.items ++ say_op x r ∷ []
    → IsKnown (act g s x)
    → AreNames q.world.values.items q.world.handles.items (length p.world.containers.items) (act g s x)
    → Stands q g begun (suc n) (act g s x) found
refused_stands p q g begun n s found x r st pass refused below restates ops known named =
    restated st restates known named (λ x_ a. refusals_are_planned x_ a.small g s x r r.name (draft_of p) (draft_of q) (st.planned x_ a) pass refused
    (name_short g x_ r.name a.names below) (name_is g x_ r.name a.names) (adds_op p q (say_op x r) restates.planner ops))

-- what it makes of names
like_named : (g : Setting) (x : Statement) (r : Refused) (s t : ScriptState) (name : ℕ) (v : states.Value) → IsLikeBefore g x r s t → made_by x.act ≡ Some name
    → lost_value x.act ≡ v → IsNamed s t name v
like_named g x r s t name v h made lost = record {
  here = h.lost name (subst (λ o. is_name o name ≡ true) (sym made) (eq-eqb name name refl)) ∙ lost;
  others = λ m ne. h.values m (subst (λ o. is_name o m ≡ false) (sym made) (differ m ne));
}
  where
    differ : (m : ℕ) → m ≢ name → nat_eq m name ≡ false
    differ m ne = by (nat_eq m name) refl
      where
        by : (b : Bool) → nat_eq m name ≡ b → b ≡ false
        by true e = absurd (ne (eqb-true m name e))
        by false e = refl

like_unnamed : (g : Setting) (x : Statement) (r : Refused) (s t : ScriptState) → IsLikeBefore g x r s t → made_by x.act ≡ None → t.values ≡ s.values
like_unnamed g x r s t h made = λ i m. h.values m (ap (λ o. is_name o m) made) i

like_views : (g : Setting) (x : Statement) (r : Refused) (s t : ScriptState) → IsLikeBefore g x r s t → BreaksNone r x.act s → t.view ≡ s.view
like_views g x r s t h none = λ i c. h.views c (none_broken r x.act s none c) i

-- A refused statement of an accepted script, whose line was pushed.
module _ {script : Script} {table : Table} {p : Planner} {x : Statement} (b : IsBefore script table p x) (r : Refused) where
  open b use {begun, n, found, step, stands as st}

  abbrev g : Setting
  g = setting script table

  abbrev s : ScriptState
  s = state_at script table n

  module _ (refused : refusal g s x.act ≡ Some r) (below : r.name < length g.names) where
    like : IsLikeBefore g x r s (act g s x)
    like = refused_changes_little g s x r step.acts refused

    -- what a planner after it stands for
    abbrev Onward : Planner → Type 0
    Onward q = HasStepped b q

    onward : (q : Planner) → IsRestated p q s (act g s x) → q.draft.ops.items ≡ p.draft.ops.items ++ say_op x r ∷ []
        → AreNames q.world.values.items q.world.handles.items (length p.world.containers.items) (act g s x) → Onward q
    onward q restates ops named =
        refused_steps b q (refused_stands p q g begun n s found x r st step.acts refused below restates ops (known_after step) named)
        (quiet_restated p q s (act g s x) restates (given_one p.draft.ops.items q.draft.ops.items (say_op x r) ops refl))
        r refused

    -- nothing but the line, and how many statements are passed by
    pub said_passing : (m q : Planner) (passing : ℕ) → made_by x.act ≡ None → passed_with x.act ≡ passing → BreaksNone r x.act s → IsPushed p m (say_op x r)
        → q ≡ record m { world = record m.world { passing = passing } } → Onward q
    said_passing m q passing unnamed passed none i e =
        let is = e ∙ ap (λ (k : Planner). record k { world = record k.world { passing = passing } }) i.rest in
        let planner = changed_fields p q p.world.values p.world.handles p.world.safety passing m.draft.ops is in
        let values = ap (λ (k : Planner). k.world.values.items) is in
        let handles = ap (λ (k : Planner). k.world.handles.items) is in
        let ops = ap (λ (k : Planner). k.draft.ops.items) is ∙ i.ops in
        onward q (calm st planner (like_state g x r s (act g s x) like) (ap (λ (k : Planner). k.world.safety) is)
        (like_views g x r s (act g s x) like none) like.contents
        (ap (λ (k : Planner). k.world.passing) is ∙ sym (like.passing ∙ passed))
        (ap length values) (let l = ap length handles in omega arith) (one_op_more p.draft.ops.items q.draft.ops.items (say_op x r) ops))
        ops
        (subst (λ vs. AreNames vs q.world.handles.items (length p.world.containers.items) (act g s x)) (sym values)
        (subst (λ hs. AreNames p.world.values.items hs (length p.world.containers.items) (act g s x)) (sym handles)
        (same_names p.world.values.items p.world.handles.items (length p.world.containers.items) s (act g s x)
        (like_unnamed g x r s (act g s x) like unnamed) st.knows.names)))

    -- nothing but the line
    pub said : (q : Planner) → made_by x.act ≡ None → passed_with x.act ≡ 0 → BreaksNone r x.act s → IsPushed p q (say_op x r) → Onward q
    said q unnamed passed none i =
        said_passing q q 0 unnamed passed none i
        (let zero_is = ap (λ (k : Planner). k.world.passing) i.rest ∙ st.numbers.passing
        ∙ step.acts in λ k. record q { world = record q.world { passing = zero_is k } })

    -- a name that it would have made is dead
    pub said_dead : (m : Planner) (w : World) (name : ℕ) → made_by x.act ≡ Some name → lost_value x.act ≡ states.Dead → passed_with x.act ≡ 0
        → BreaksNone r x.act s
        → IsPushed p m (say_op x r) → IsRenamed m.world w name Dead → Onward (record m { world = w })
    said_dead m w name made lost passed none i e =
        let q : Planner = record m { world = w } in
        let is = ap (λ (k : World). record m { world = k }) e.rest ∙ ap (λ (k : Planner). record k { world = record k.world { values = w.values } }) i.rest in
        let planner = changed_fields p q q.world.values p.world.handles p.world.safety p.world.passing m.draft.ops is in
        let values = e.values ∙ ap (λ (k : Planner). slice_set k.world.values.items name Dead) i.rest in
        let handles = ap (λ (k : Planner). k.world.handles.items) is in
        let ops = ap (λ (k : Planner). k.draft.ops.items) is ∙ i.ops in
        onward q (calm st planner (like_state g x r s (act g s x) like) (ap (λ (k : Planner). k.world.safety) is)
        (like_views g x r s (act g s x) like none) like.contents
        (ap (λ (k : Planner). k.world.passing) is ∙ st.numbers.passing ∙ step.acts ∙ sym (like.passing ∙ passed))
        (ap length values ∙ set_long p.world.values.items name Dead) (let l = ap length handles in omega arith)
        (one_op_more p.draft.ops.items q.draft.ops.items (say_op x r) ops))
        ops
        (subst (λ hs. AreNames q.world.values.items hs (length p.world.containers.items) (act g s x)) (sym handles)
        (renamed_names p.world.values.items q.world.values.items p.world.handles.items (length p.world.containers.items) s
        (act g s x) name Dead states.Dead st.knows.names values tt
        (λ k e. absurd cc) refl
        (like_named g x r s (act g s x) name states.Dead like made lost)))

    -- a name that it would have made has no jobs
    pub said_nobody : (m : Planner) (w : World) (name : ℕ) → made_by x.act ≡ Some name → lost_value x.act ≡ states.Handle nobody → passed_with x.act ≡ 0
        → BreaksNone r x.act s
        → IsPushed p m (say_op x r) → HasHandle m.world w name nobody → Onward (record m { world = w })
    said_nobody m w name made lost passed none i e =
        let q : Planner = record m { world = w } in
        let was = subst (λ (k : Planner). AreNames k.world.values.items k.world.handles.items (length p.world.containers.items) s)
        (sym i.rest) st.knows.names in
        let is = ap (λ (k : World). record m { world = k }) e.rest
        ∙ ap (λ (k : Planner). record k { world = record k.world { values = w.values; handles = w.handles } }) i.rest in
        let planner = changed_fields p q q.world.values q.world.handles p.world.safety p.world.passing m.draft.ops is in
        let ops = ap (λ (k : Planner). k.draft.ops.items) is ∙ i.ops in
        let named = like_named g x r s (act g s x) name (states.Handle nobody) like made lost in
        let grown = (handles_more m.world w (length p.world.containers.items) s (act g s x) name nobody was e named).1 in
        let as_many = ap (λ (k : Planner). length k.world.handles.items) i.rest in
        onward q (calm st planner (like_state g x r s (act g s x) like) (ap (λ (k : Planner). k.world.safety) is)
        (like_views g x r s (act g s x) like none) like.contents
        (ap (λ (k : Planner). k.world.passing) is ∙ st.numbers.passing ∙ step.acts ∙ sym (like.passing ∙ passed))
        (ap length e.values ∙ set_long m.world.values.items name (Handles e.place) ∙ ap (λ (k : Planner). length k.world.values.items) i.rest)
        (omega arith)
        (one_op_more p.draft.ops.items q.draft.ops.items (say_op x r) ops))
        ops
        (handle_names m.world w (length p.world.containers.items) s (act g s x) name nobody was e named)

-- ---- an accepted statement

pub accepted_state : (g : Setting) (s : ScriptState) (x : Statement) → s.passing ≡ 0 → refusal g s x.act ≡ None → act g s x ≡ effect g x.line s x.act
accepted_state g s x pass none = ap (λ n. act_or_pass n g s x) pass ∙ ap (λ o. decided o g s x) none

-- One operation was pushed, and contents may have changed that keep their form.
pub pushed_restates : {p q : Planner} {op : Op} {g : Setting} {begun : ScriptState} {n : ℕ} {s t : ScriptState} {found : List ℕ}
    → Stands p g begun n s found
    → IsPushed p q op
    → t ≡ record s { values = t.values; contents = t.contents; view = t.view; refused = t.refused; passing = t.passing; lines = t.lines }
    → t.passing ≡ s.passing
    → t.view ≡ s.view
    → ((c start : ℕ) → c < s.made → bind_of start (t.contents c) ≡ bind_of start (s.contents c))
    → IsRestated p q s t
pushed_restates {p} {q} {op} {g} {begun} {n} {s} {t} {found} st i state passing view form =
    let handles = ap (λ (k : Planner). length k.world.handles.items) i.rest in
    record {
      planner = changed_fields p q p.world.values p.world.handles p.world.safety p.world.passing q.draft.ops i.rest;
      state = state;
      passing = ap (λ (k : Planner). k.world.passing) i.rest ∙ st.numbers.passing ∙ sym passing;
      values = ap (λ (k : Planner). length k.world.values.items) i.rest;
      handles = omega arith;
      ops = one_op_more p.draft.ops.items q.draft.ops.items op i.ops;
      form = form;
      slots = λ k. ap (λ b. record (state_of b k) { view = (state_of q.world.safety k).view }) (ap (λ (k : Planner). k.world.safety) i.rest);
      views = λ c it h alive. ap (λ (k : Planner). (state_of k.world.safety it.slot.0).view) i.rest ∙ (st.knows.containers.each c it h).view alive
          ∙ ap (λ f. f c) (sym view);
    }

pub pushed_names : (p q : Planner) (op : Op) (made : ℕ) (s t : ScriptState) → IsPushed p q op → t.values ≡ s.values
    → AreNames p.world.values.items p.world.handles.items made s → AreNames q.world.values.items q.world.handles.items made t
pushed_names p q op made s t i values was =
    subst (λ (k : Planner). AreNames k.world.values.items k.world.handles.items made t) (sym i.rest)
    (same_names p.world.values.items p.world.handles.items made s t values was)

-- An accepted statement of an accepted script that takes no words and starts no job goes on where the plan so far does.
pub accepted_on : {script : Script} {table : Table} {p : Planner} {x : Statement} (b : IsBefore script table p x)
    → let g = setting script table in
    let s = state_at script table b.n in
    let t = effect g x.line s x.act in
    (q : Planner)
    → refusal g s x.act ≡ None
    → IsPlain g x.act
    → given_in q.draft.ops.items ≡ given_in p.draft.ops.items
    → IsRestated p q s t
    → AreNames q.world.values.items q.world.handles.items (length p.world.containers.items) t
    → ((y : Outline) → Agrees p g b.begun b.found y → IsPlanned y t (draft_of q))
    → HasStepped b q
accepted_on {script} {table} {p} {x} b q none plain same restates named planned =
    let g = setting script table in
    let s = state_at script table b.n in
    let t = effect g x.line s x.act in
    let is = accepted_state g s x b.step.acts none in
    plain_steps b q (subst (λ u. Stands q g b.begun (suc b.n) u b.found) (sym is)
    (restated b.stands restates (subst IsKnown is (known_after b.step)) named planned)) (quiet_restated p q s t restates same)
    plain (ap (λ (u : ScriptState). u.book.completed) (is ∙ restates.state))
