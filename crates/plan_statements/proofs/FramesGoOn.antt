-- A frame goes on: what is overdue is reported, and containers that live for one frame end.
use Rattle.std.proofs.Common.{◌≡◌, ℕ, zero, suc, ◌+◌, ◌<◌, ◌≤◌, ⊎_elim, Bool, true, false, ◌&&◌, not, List, [], ◌∷◌, ◌++◌, length, Some, refl, sym, ap, subst, ◌∙◌, arith, append-nil}
use Rattle.std.specs.Prelude.{Vec, vec_len, slice_get, get_or, if◌then◌else◌}
use Rattle.std.specs.declared.alloc.Global.{Global}
use Rattle.std.specs.List.{All}
use Rattle.std.proofs.lemmas.Bool.{cases_eq}
use Rattle.std.proofs.lemmas.List.{length-append}
use Rattle.frame_ast.specs.declared.script.Order.TheVariants.{Frame}
use Rattle.frame_ast.specs.declared.script.Script.{Script}
use Rattle.frame_ast.specs.declared.script.Statement.{Statement}
use Rattle.frame_ast.specs.Conflicts.{has_pending}
use Rattle.frame_ast.specs.Effects.{is_overdue, next_frame}
use Rattle.frame_ast.specs.Laws.{IsKnown}
use Rattle.frame_ast.specs.Orders.{Table, Setting, setting}
use Rattle.frame_ast.specs.Refusals.{is_temp}
use Rattle.frame_ast.specs.States.{ScriptState, with_at}
use Rattle.frame_ast.proofs.Unused.{temps_have_no_users}
use Rattle.job_handle.specs.Books.{StandsFor}
use Rattle.slot_store.specs.Stores.{peak_of, slots_in_use}
use Rattle.frame_core.specs.declared.plan.Op.{Op}
use Rattle.frame_core.specs.Ordered.{ops_count}
use Rattle.frame_core.proofs.Small.{not_both, some_is, none_some, either_bool, get_below}
use Rattle.plan_laws.specs.Disposing.{with_alive}
use Rattle.plan_laws.specs.Frames.{report_op, report_ops}
use Rattle.plan_laws.specs.Planned.{Outline, IsPlanned}
use Rattle.plan_laws.proofs.Statements.Frames.{frames_are_planned}
use Rattle.plan_state.specs.declared.state.Container.{Container}
use Rattle.plan_state.specs.declared.state.Draft.{Draft}
use Rattle.plan_state.specs.declared.state.Planner.{Planner}
use Rattle.plan_state.specs.declared.state.World.{World}
use Rattle.plan_statements.specs.Frames.{is_kept, AreSmall, HaveRoom, IsOver, stays, AreUnused, AreSeen, AreReported, AreOver}
use Rattle.plan_state.specs.Answers.{HasOps}
use Rattle.plan_state.specs.Growth.{given_in, given_from, given_so_far}
use Rattle.plan_state.specs.Stands.{AreNames, AreContainers, AreTemps, AreTempJobs, Agrees, Stands, draft_of}
use Rattle.plan_state.specs.Steps.{state_at, IsBefore, HasStepped, GoesOn, IsReady}
use Rattle.plan_state.proofs.Accessing.{read_some}
use Rattle.plan_statements.proofs.Endings.Continuing.{IsContinued, continued, quiet_continued}
use Rattle.plan_statements.proofs.DisposalsGoOn.{as_continued}
use Rattle.plan_statements.proofs.Endings.Ending.{still, one_of}
use Rattle.plan_statements.proofs.Endings.Giving.{at_here, at_other, fallen, given_stand}
use Rattle.plan_state.proofs.Naming.{same_names}
use Rattle.plan_state.proofs.Quiet.{given_more, plain_steps}
use Rattle.plan_state.proofs.Reaching.{known_after, statements_few}
use Rattle.plan_statements.proofs.Reporting.{get_there, place_low}
use Rattle.plan_state.proofs.Restating.{accepted_state, name_is, name_short}
use Rattle.plan_statements.proofs.Endings.Settling.{all_done}

-- ---- containers end one by one

pub record AreOverSoFar (old now : World) (s : ScriptState) (found : List ℕ) (at : ℕ) : Type 0 where
  pub alive : ℕ → Bool
  pub containers : AreContainers now (with_alive alive s) found
  pub falls : (c : ℕ) → alive c ≡ true → s.alive c ≡ true
  pub temp : (c : ℕ) → alive c ≡ false → s.alive c ≡ true → is_temp (s.life c) ≡ true
  pub gone : (k c : ℕ) → k < at → slice_get old.temps.items k ≡ Some c → alive c ≡ false

pub none_over : (p : World) (s : ScriptState) (found : List ℕ) → AreContainers p s found → AreOverSoFar p p s found 0
none_over p s found is = record {
  alive = s.alive;
  containers = is;
  falls = λ c a. a;
  temp = λ c d a. absurd (not_both a d);
  gone = λ k c lt h. absurd (omega arith);
}

module _ (old p q : World) (s : ScriptState) (found : List ℕ) (k c : ℕ) (it : Container) (temps : AreTemps old.temps.items s) (unused : AreUnused s)
    (at : slice_get old.temps.items k ≡ Some c) (has : slice_get p.containers.items c ≡ Some it) (so : AreOverSoFar old p s found k)
    (over : IsOver p q c it) where
  kept_is : is_kept p it ≡ so.alive c
  kept_is = (so.containers.each c it has).taken

  none_pending : has_pending s.book (s.uses c) ≡ false
  none_pending = all_done s.book (s.uses c).users (λ j u. absurd (not_both u (unused c j (temps.each k c at).1)))

  next : (k + 1 ≡ suc k)
  next = omega arith

  pub one_over : AreOverSoFar old q s found (k + 1)
  one_over = subst (AreOverSoFar old q s found) (sym next) (⊎_elim
      (λ o. subst (λ z. AreOverSoFar old z s found (suc k)) (sym o.1) (record {
        alive = so.alive;
        containers = so.containers;
        falls = so.falls;
        temp = so.temp;
        gone = λ j d lt h. ⊎_elim
            (λ e. ap so.alive (some_is (sym h ∙ ap (slice_get old.temps.items) e ∙ at)) ∙ sym kept_is ∙ o.0)
            (λ ne. so.gone j d (omega arith) h)
            (cases_eq j k);
      }))
      (λ o.
      let alive0 = sym kept_is ∙ o.0 in
      record {
        alive = with_at so.alive c false;
        containers = given_stand p q (with_alive so.alive s) found c so.containers alive0 o.1 none_pending s.frame s.values s.lines;
        falls = λ d a. so.falls d (fallen (with_alive so.alive s) c d a).1;
        temp = λ d e a. ⊎_elim
            (λ same. ap (λ m. is_temp (s.life m)) same ∙ (temps.each k c at).1)
            (λ ne. so.temp d (sym (at_other so.alive c false d ne) ∙ e) a)
            (cases_eq d c);
        gone = λ j d lt h. ⊎_elim
            (λ e. ap (with_at so.alive c false) (some_is (sym h ∙ ap (slice_get old.temps.items) e ∙ at)) ∙ at_here so.alive c false)
            (λ ne. ⊎_elim
            (λ same. ap (with_at so.alive c false) same ∙ at_here so.alive c false)
            (λ other. at_other so.alive c false d other ∙ so.gone j d (omega arith) h)
            (cases_eq d c))
            (cases_eq j k);
      })
      over)

module _ (old p q : World) (s : ScriptState) (found : List ℕ) (at : ℕ) (temps : AreTemps old.temps.items s) (so : AreOverSoFar old p s found at)
    (all : length old.temps.items ≤ at)
    (containers : q.containers ≡ p.containers) (names : length q.values.items ≡ length p.values.items)
    (store : q.store ≡ p.store)
    (safety : q.safety ≡ p.safety) where
  same : (c : ℕ) → c < s.made → stays s c ≡ so.alive c
  same c lt = ⊎_elim
      (λ a. (λ i. so.falls c a i && not (is_temp (s.life c))) ∙ ap not (not_temp a) ∙ sym a)
      (λ d. ⊎_elim
      (λ was. (λ i. was i && not (so.temp c d was i)) ∙ sym d)
      (λ dead. ap (λ b. b && not (is_temp (s.life c))) dead ∙ sym d)
      (either_bool (s.alive c)))
      (either_bool (so.alive c))
    where
      not_temp : so.alive c ≡ true → is_temp (s.life c) ≡ false
      not_temp a = ⊎_elim
          (λ t. let k = temps.all c lt t (so.falls c a) in
          let below = get_below old.temps.items k.0 c k.1 in
          absurd (not_both a (so.gone k.0 c (omega arith) k.1)))
          (λ f. f)
          (either_bool (is_temp (s.life c)))

  pub all_over : AreContainers q (with_alive (stays s) s) found
  all_over = still p q (with_alive so.alive s) found (stays s) s.frame s.values s.lines so.containers containers names store safety same

-- ---- as the code goes along

pub record OverSoFar (old now : World) (at : ℕ) : Type 0 where
  pub rest : now ≡ record old { safety = now.safety; store = now.store }
  pub used : slots_in_use now.store ≤ slots_in_use old.store
  pub peak : peak_of now.store ≡ peak_of old.store
  pub so_far : (s : ScriptState) (found : List ℕ) → AreContainers old s found → AreTemps old.temps.items s → AreUnused s
      → AreOverSoFar old now s found at

pub over_none : (p : World) → OverSoFar p p 0
over_none p = record { rest = refl; used = omega arith; peak = refl; so_far = λ s found is temps unused. none_over p s found is }

module _ (p m : World) (at : ℕ) (so : OverSoFar p m at) where
  -- what is read of the lists
  pub next_read : All (λ c. c < vec_len p.containers) p.temps.items → at < vec_len p.temps → (c : ℕ) → c ≡ get_or m.temps.items at c
      → (it : Container)
      → it ≡ get_or m.containers.items c it
      → (slice_get m.temps.items at ≡ Some c) × (slice_get m.containers.items c ≡ Some it)
  next_read numbers lt c e it f =
      let temps = ap (λ (k : World). k.temps) so.rest in
      let containers = ap (λ (k : World). k.containers) so.rest in
      let len = p.temps.ok.0 in
      let low = numbers at c (omega arith) in
      let is = ap (λ (v : Vec ℕ Global). get_or v.items at c) temps in
      let most = ap (λ (v : Vec Container Global). vec_len v) containers in
      let lengths = ap (λ (v : Vec ℕ Global). vec_len v) temps in
      (read_some m.temps at c (omega arith) e, read_some m.containers c it (omega arith) f)

  pub over_more : (q : World) (c : ℕ) (it : Container) → slice_get m.temps.items at ≡ Some c → slice_get m.containers.items c ≡ Some it
      → IsOver m q c it
      → OverSoFar p q (at + 1)
  over_more q c it here has over = record {
    rest = ⊎_elim (λ o. subst (λ z. z ≡ record p { safety = z.safety; store = z.store }) (sym o.1) so.rest)
        (λ o. o.1.rest ∙ ap {A = World} {B = World} (λ k. record k { safety = q.safety; store = q.store }) so.rest) over;
    used = ⊎_elim (λ o. (let u = so.used in let e = ap (λ (k : World). slots_in_use k.store) o.1 in omega arith))
        (λ o. (let u = so.used in let v = o.1.used in omega arith)) over;
    peak = ⊎_elim (λ o. ap (λ (k : World). peak_of k.store) o.1 ∙ so.peak) (λ o. o.1.peak ∙ so.peak) over;
    so_far = λ s found is temps unused.
        one_over p m q s found at c it temps unused (ap (λ (k : World). slice_get k.temps.items at) (sym so.rest) ∙ here) has
        (so.so_far s found is temps unused) over;
  }

  pub over_all : (q : World) → vec_len p.temps ≤ at → q ≡ record m { temps = q.temps } → q.temps.items ≡ []
      → AreOver p q
  over_all q end last none = record {
    containers = λ s found is temps unused.
        all_over p m q s found at temps (so.so_far s found is temps unused)
        (let len = p.temps.ok.0 in omega arith)
        (ap (λ (k : World). k.containers) last) (ap (λ (k : World). length k.values.items) last) (ap (λ (k : World). k.store) last)
        (ap (λ (k : World). k.safety) last);
    used = (let u = so.used in let e = ap (λ (k : World). slots_in_use k.store) last in omega arith);
    peak = ap (λ (k : World). peak_of k.store) last ∙ so.peak;
    temps = none;
    rest = (let by_p = last ∙ ap {A = World} {B = World} (λ k. record k { temps = q.temps }) so.rest in
        by_p ∙ (let a = sym (ap (λ (k : World). k.safety) by_p) in let b = sym (ap (λ (k : World). k.store) by_p) in
        λ i. record p { temps = q.temps; safety = a i; store = b i }));
  }

-- ---- what the code needs
module _ (p : Planner) (line : ℕ) where
  abbrev statement : Statement
  statement = record { line = line; act = Frame }

  pub record CanFrame : Type 0 where
    pub temps : All (λ c. c < vec_len p.world.containers) p.world.temps.items
    pub tempjobs : All (λ c. c < vec_len p.world.containers) p.world.tempjobs.items
    pub small : AreSmall p.world.containers.items
    pub few : p.world.frame + 1 < 4294967296
    pub room : HaveRoom p.world.tempjobs.items

  pub frame_ready : IsReady p statement → CanFrame
  frame_ready ready =
      let b = ready.2 in
      let g = setting ready.0 ready.1 in
      let s = state_at ready.0 ready.1 b.n in
      let st = b.stands in
      let most = statements_few b.step in
      let made = st.knows.containers.made in
      let len = p.world.containers.ok.0 in
      let few = st.numbers.made_few in
      record {
        temps = λ k d lt. let h = (st.knows.temps.each k (get_or p.world.temps.items k d) (get_there p.world.temps.items k d lt)).0 in omega arith;
        tempjobs = λ k d lt. let h = (st.knows.tempjobs.each k (get_or p.world.tempjobs.items k d) (get_there p.world.tempjobs.items k d lt)).0 in omega arith;
        small = λ c it has.
            let k = st.knows.containers.each c it has in
            let low = k.low in
            let lt = get_below p.world.containers.items c it has in
            let past = st.knows.frames.past c (omega arith) in
            let frames = st.numbers.frames_few in
            let f = k.making.0 in
            (omega arith, omega arith);
        few = (let frames = st.numbers.frames_few in let f = st.numbers.frame in omega arith);
        room = λ k c h. let le = place_low p.world line g s b.found st.knows k c h in let lt = (st.knows.tempjobs.each k c h).0 in omega arith;
      }

-- ---- a frame
module _ (p : Planner) (r m : World) (d : Draft) (reports : List Op) (line : ℕ) (reported : AreReported p.world r line reports) (over : AreOver r m)
    (has : HasOps p.draft d reports) {script : Script} {table : Table} (b : IsBefore script table p (statement p line)) where
  open b use {begun, n, found, step, stands as st}

  abbrev x : Statement
  x = statement p line

  abbrev g : Setting
  g = setting script table

  abbrev s : ScriptState
  s = state_at script table n

  abbrev t : ScriptState
  t = next_frame g line s

  abbrev q : Planner
  q = record p { world = record m { frame = m.frame + 1 }; draft = d }

  said : (d.ops.items ≡ p.draft.ops.items ++ report_ops s line s.made) × AreSeen p.world s r.overdue
  said = (let are = reported.said g s found st.knows st.numbers.frame in (has.ops ∙ ap (λ o. p.draft.ops.items ++ o) are.0, are.1))

  abbrev as_q : Planner
  as_q = record p {
    world = record p.world {
      overdue = r.overdue;
      temps = m.temps;
      safety = m.safety;
      store = m.store;
      frame = p.world.frame + 1;
    };
    draft = record p.draft { ops = d.ops };
  }

  is_m : m ≡ record p.world { overdue = r.overdue; temps = m.temps; safety = m.safety; store = m.store }
  is_m = over.rest ∙ ap {A = World} {B = World} (λ k. record k { temps = m.temps; safety = m.safety; store = m.store }) reported.rest

  is_q : q ≡ as_q
  is_q = (let world = ap {A = World} {B = World} (λ k. record k { frame = k.frame + 1 }) is_m in let draft = has.rest in
      λ i. record p { world = world i; draft = draft i })

  unused : AreUnused s
  unused c j e = temps_have_no_users g (Rattle.std.specs.Prelude.take n script.statements.items) c j e

  before : AreContainers r s found
  before = still p.world r s found s.alive s.frame s.values s.lines st.knows.containers
      (ap (λ (k : World). k.containers) reported.rest) (ap (λ (k : World). length k.values.items) reported.rest)
      (ap (λ (k : World). k.store) reported.rest) (ap (λ (k : World). k.safety) reported.rest) (λ c lt. refl)

  temps_of : AreTemps r.temps.items s
  temps_of = subst (λ (k : World). AreTemps k.temps.items s) (sym reported.rest) st.knows.temps

  stand : AreContainers q.world t found
  stand = still m q.world (with_alive (stays s) s) found (stays s) (s.frame + 1) s.values t.lines (over.containers s found before temps_of unused)
      refl refl refl refl (λ c lt. refl)

  no_temps : AreTemps [] t
  no_temps = record {
    all = λ c lt temp alive. absurd (not_both alive ((λ i. s.alive c && not (temp i)) ∙ none (s.alive c)));
    each = λ k c h. absurd (none_some h);
  }
    where
      none : (b : Bool) → (b && false) ≡ false
      none true = refl
      none false = refl

  tempjobs : AreTempJobs p.world.tempjobs.items r.overdue t
  tempjobs = let o = st.knows.tempjobs in record {
    all = o.all;
    each = o.each;
    rising = o.rising;
    within = said.1.within;
    past = said.1.past;
    ahead = said.1.ahead;
  }

  goes : IsContinued p q s t found
  goes = record {
    planner = as_continued p q as_q is_q refl;
    state = refl;
    frame = ap (λ (k : Planner). k.world.frame) is_q ∙ ap (λ f. f + 1) st.numbers.frame;
    later = omega arith;
    next = omega arith;
    values = ap (λ (k : Planner). length k.world.values.items) is_q;
    handles = (let e = ap (λ (k : Planner). length k.world.handles.items) is_q in omega arith);
    peak = ap (λ (k : Planner). peak_of k.world.store) is_q ∙ over.peak ∙ ap (λ (k : World). peak_of k.store) reported.rest;
    slots = (let u = over.used in let a = ap (λ (k : Planner). slots_in_use k.world.store) is_q in let b = ap
        (λ (k : World). slots_in_use k.store) reported.rest in
        omega arith);
    segments = (let e = ap (λ (k : Planner). length k.draft.segments.items) is_q in omega arith);
    ops = (let e = ap (λ (k : Planner). ops_count k.draft.segments.items) is_q in let l = ap length has.ops ∙ length-append p.draft.ops.items reports in
        let o = ap (λ (k : Planner). k.world.overdue) is_q in
        let count = reported.count in omega arith);
    temps = subst (λ ts. AreTemps ts t) (sym (ap (λ (k : Planner). k.world.temps.items) is_q ∙ over.temps)) no_temps;
    tempjobs = subst (λ o. AreTempJobs p.world.tempjobs.items o t) (sym (ap (λ (k : Planner). k.world.overdue) is_q)) tempjobs;
    jobs = subst (λ (k : Planner). StandsFor k.world.jobs s.book) (sym is_q) st.knows.jobs;
    containers = stand;
  }

  name_low : (c : ℕ) → c < s.made → (s.making c).name < length g.names
  name_low c lt =
      let one = one_of p.world s found st.knows.containers c lt in
      let k = st.knows.containers.each c one.0 one.1 in
      let named = k.named in
      let e = k.making.1 in
      let each = st.knows.each in
      omega arith

  planned : (y : Outline) → Agrees p g begun found y → IsPlanned y t (draft_of q)
  planned y a = subst (λ (k : Planner). IsPlanned y t (draft_of k)) (sym is_q)
      (frames_are_planned y g s line (draft_of p) (draft_of as_q) a.small st.knows.known (st.planned y a)
      (record {
        below = λ c lt. name_short g y (s.making c).name a.names (name_low c lt);
        text = λ c lt. name_is g y (s.making c).name a.names;
      })
      (record { segments = refl; jobs = refl; waits = refl; ops = said.0 }))

  -- reports give no range
  none_reported : (c : ℕ) → given_in (report_ops s line c) ≡ []
  none_reported zero = refl
  none_reported (suc c) =
      given_more (report_ops s line c) (if is_overdue s c then report_op s line c ∷ [] else [])
      ∙ (λ i. none_reported c i ++ one (is_overdue s c) i)
    where
      one : (b : Bool) → given_in (if b then report_op s line c ∷ [] else []) ≡ []
      one true = refl
      one false = refl

  spans : given_so_far q ≡ given_so_far p
  spans =
      ap given_so_far is_q
      ∙ ap (λ ops. given_from p.draft.segments.items ++ given_in ops) said.0
      ∙ ap (λ l. given_from p.draft.segments.items ++ l)
      (given_more p.draft.ops.items (report_ops s line s.made) ∙ ap (λ l. given_in p.draft.ops.items ++ l) (none_reported s.made)
      ∙ append-nil (given_in p.draft.ops.items))

  pub frame_on : HasStepped b q
  frame_on =
      let is = accepted_state g s x step.acts refl in
      plain_steps b q (subst (λ u. Stands q g begun (suc n) u found) (sym is) (continued st goes (subst IsKnown is (known_after step))
      (subst (λ (k : Planner). AreNames k.world.values.items k.world.handles.items (length p.world.containers.items) t) (sym is_q)
      (same_names p.world.values.items p.world.handles.items (length p.world.containers.items) s t refl st.knows.names))
      planned))
      (quiet_continued p q s t found goes spans (ap (λ (k : Planner). k.draft.segments) is_q) (ap (λ (k : Planner). k.draft.waits) is_q))
      (refl, tt) (ap (λ (u : ScriptState). u.book.completed) is)

pub frame_goes : (p : Planner) (r m : World) (d : Draft) (reports : List Op) (line : ℕ) → AreReported p.world r line reports → AreOver r m
    → HasOps p.draft d reports
    → GoesOn p (record p { world = record m { frame = m.frame + 1 }; draft = d }) (statement p line)
frame_goes p r m d reports line reported over has script table b =
    frame_on p r m d reports line reported over has b
