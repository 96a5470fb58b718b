-- A planner whose books changed as containers ended, jobs were completed or a frame began: it stands for the state
-- afterwards.
--
-- `IsContinued` names what may change. That containers stand, and that the plan so far does what the script did, is shown
-- statement by statement.
use Rattle.std.proofs.Common.{◌≡◌, ℕ, suc, ◌+◌, ◌≤◌, Bool, true, List, length, sym, ap, subst, ◌∙◌, arith}
use Rattle.std.specs.Prelude.{Vec}
use Rattle.std.specs.declared.alloc.Global.{Global}
use Rattle.job_base.specs.declared.JobId.{JobId}
use Rattle.frame_ast.specs.Jobs.{Book}
use Rattle.frame_ast.specs.Laws.{IsKnown}
use Rattle.frame_ast.specs.Orders.{Setting}
use Rattle.frame_ast.specs.States as states
use Rattle.frame_ast.specs.States.{ScriptState}
use Rattle.job_handle.specs.declared.book.JobBook.{JobBook}
use Rattle.job_handle.specs.declared.handle.Handle.{Handle}
use Rattle.job_handle.specs.Books.{StandsFor}
use Rattle.slot_store.specs.declared.store.SlotStore.{SlotStore}
use Rattle.slot_store.specs.Stores.{peak_of, slots_in_use}
use Rattle.safety_handle.specs.declared.book.SafetyBook.{SafetyBook}
use Rattle.frame_core.specs.declared.plan.Op.{Op}
use Rattle.frame_core.specs.declared.plan.Segment.{Segment}
use Rattle.frame_core.specs.Ordered.{ops_count}
use Rattle.plan_laws.specs.Planned.{Outline, IsPlanned}
use Rattle.plan_state.specs.declared.state.Value.{Value}
use Rattle.plan_state.specs.declared.state.Planner.{Planner}
use Rattle.plan_state.specs.Growth.{given_so_far}
use Rattle.plan_state.proofs.Quiet.{IsQuiet}
use Rattle.plan_state.specs.Stands.{AreNames, AreContainers, AreTemps, AreTempJobs, IsCopy, IsGuardedCopy, Agrees, Stands, draft_of}
use Rattle.plan_statements.proofs.Endings.Ending.{changed, words_counted}

pub record IsContinued (p q : Planner) (s t : ScriptState) (found : List ℕ) : Type 0 where
  pub planner : q ≡ record p {
    world = record p.world {
      values = q.world.values;
      handles = q.world.handles;
      temps = q.world.temps;
      overdue = q.world.overdue;
      frame = q.world.frame;
      jobs = q.world.jobs;
      safety = q.world.safety;
      store = q.world.store;
    };
    draft = record p.draft { segments = q.draft.segments; waits = q.draft.waits; ops = q.draft.ops };
  }
  pub state : t ≡ changed s t.alive t.book t.frame t.values t.lines
  pub frame : q.world.frame ≡ t.frame
  pub later : s.frame ≤ t.frame
  pub next : t.frame ≤ suc s.frame
  pub values : length q.world.values.items ≡ length p.world.values.items
  pub handles : length q.world.handles.items ≤ suc (length p.world.handles.items)
  pub peak : peak_of q.world.store ≡ peak_of p.world.store
  pub slots : slots_in_use q.world.store ≤ slots_in_use p.world.store
  pub segments : length q.draft.segments.items ≤ suc (length p.draft.segments.items)
  pub ops : (ops_count q.draft.segments.items + length q.draft.ops.items) + p.world.overdue
      ≤ (ops_count p.draft.segments.items + length p.draft.ops.items) + q.world.overdue
  pub temps : AreTemps q.world.temps.items t
  pub tempjobs : AreTempJobs p.world.tempjobs.items q.world.overdue t
  pub jobs : StandsFor q.world.jobs t.book
  pub containers : AreContainers q.world t found

module _ (p : Planner) (g : Setting) (begun : ScriptState) (n : ℕ) (s : ScriptState) (found : List ℕ) (st : Stands p g begun n s found)
    (values : Vec Value Global) (handles : Vec Handle Global) (temps : Vec ℕ Global) (overdue frame : ℕ) (jobs : JobBook) (safety : SafetyBook)
    (store : SlotStore)
    (segments : Vec Segment Global) (waits : Vec JobId Global) (ops : Vec Op Global)
    (alive : ℕ → Bool) (book : Book) (framed : ℕ) (named : ℕ → states.Value) (lines : List ℕ) where
  abbrev q : Planner
  q = record p {
    world = record p.world {
      values = values;
      handles = handles;
      temps = temps;
      overdue = overdue;
      frame = frame;
      jobs = jobs;
      safety = safety;
      store = store;
    };
    draft = record p.draft { segments = segments; waits = waits; ops = ops };
  }

  abbrev t : ScriptState
  t = changed s alive book framed named lines

  copy_kept : (k place : ℕ) → IsCopy p g k place → IsCopy q g k place
  copy_kept k place c = record { old = c.old; new = c.new; is_old = c.is_old; is_new = c.is_new; same = c.same }

  guard_kept : (k place : ℕ) → IsGuardedCopy p g k place → IsGuardedCopy q g k place
  guard_kept k place c = record {
    old = c.old;
    new = c.new;
    is_old = c.is_old;
    is_new = c.is_new;
    guarded = c.guarded;
    contents = c.contents;
    words = c.words;
    footprint = c.footprint;
  }

  stands : IsContinued p q s t found → IsKnown t → AreNames values.items handles.items (length p.world.containers.items) t
      → ((x : Outline) → Agrees p g begun found x → IsPlanned x t (draft_of q)) → Stands q g begun (suc n) t found
  stands r known names planned =
      let m = st.numbers in record {
        knows = record {
          known = known;
          names = names;
          each = r.values ∙ st.knows.each;
          containers = r.containers;
          takes = st.knows.takes;
          temps = r.temps;
          tempjobs = r.tempjobs;
          frames = record { order = st.knows.frames.order; past = λ c lt. let le = st.knows.frames.past c lt in let l = r.later in omega arith };
          jobs = r.jobs;
        };
        numbers = record {
          frame = r.frame;
          passing = m.passing;
          created = m.created;
          before = m.before;
          pieces = m.pieces;
          live_words = words_counted q.world t found r.containers;
          frames_few = (let le = m.frames_few in let l = r.next in omega arith);
          made_few = (let le = m.made_few in omega arith);
          created_few = m.created_few;
          peak_low = (let le = m.peak_low in let e = r.peak in omega arith);
          slots_few = (let le = m.slots_few in let l = r.slots in omega arith);
          ops_few = (let le = m.ops_few in let l = r.ops in omega arith);
          segments_few = (let le = m.segments_few in let l = r.segments in omega arith);
          literals_few = (let le = m.literals_few in omega arith);
          kernels_few = (let le = m.kernels_few in omega arith);
          handles_few = (let le = m.handles_few in let l = r.handles in omega arith);
        };
        kernels = record {
          each = st.kernels.each;
          each_guard = st.kernels.each_guard;
          copies = λ k place h. copy_kept k place (st.kernels.copies k place h);
          guards = λ k place h. guard_kept k place (st.kernels.guards k place h);
          checked = st.kernels.checked;
          coded = st.kernels.coded;
        };
        planned = λ x a. planned x (record {
          begins = a.begins;
          names = a.names;
          kernels = a.kernels;
          literals = a.literals;
          first = a.first;
          jobs = a.jobs;
          starts = a.starts;
          cells = (let le = a.cells in let e = r.peak in omega arith);
          small = a.small;
        });
      }

-- A planner stands for the state afterwards where names do, and the plan so far does.
pub continued : {p q : Planner} {g : Setting} {begun : ScriptState} {n : ℕ} {s t : ScriptState} {found : List ℕ}
    → Stands p g begun n s found
    → IsContinued p q s t found
    → IsKnown t
    → AreNames q.world.values.items q.world.handles.items (length p.world.containers.items) t
    → ((x : Outline) → Agrees p g begun found x → IsPlanned x t (draft_of q))
    → Stands q g begun (suc n) t found
continued {p} {q} {g} {begun} {n} {s} {t} {found} st r known names planned =
    let as_q : Planner = record p {
      world = record p.world {
        values = q.world.values;
        handles = q.world.handles;
        temps = q.world.temps;
        overdue = q.world.overdue;
        frame = q.world.frame;
        jobs = q.world.jobs;
        safety = q.world.safety;
        store = q.world.store;
      };
      draft = record p.draft { segments = q.draft.segments; waits = q.draft.waits; ops = q.draft.ops };
    } in
    let as_t : ScriptState = changed s t.alive t.book t.frame t.values t.lines in
    subst (λ k. Stands k g begun (suc n) t found) (sym r.planner)
    (subst (λ u. Stands as_q g begun (suc n) u found) (sym r.state)
    (stands p g begun n s found st q.world.values q.world.handles q.world.temps q.world.overdue q.world.frame q.world.jobs q.world.safety q.world.store
    q.draft.segments q.draft.waits q.draft.ops t.alive t.book
    t.frame t.values t.lines
    (subst (λ u. IsContinued p as_q s u found) r.state (subst (λ k. IsContinued p k s t found) r.planner r))
    (subst IsKnown r.state known)
    (subst (AreNames q.world.values.items q.world.handles.items (length p.world.containers.items)) r.state names)
    (λ x a. subst (λ u. IsPlanned x u (draft_of as_q)) r.state (subst (λ k. IsPlanned x t (draft_of k)) r.planner (planned x a)))))

-- It gives no range and starts no job where its segments and operations give none.
pub quiet_continued : (p q : Planner) (s t : ScriptState) (found : List ℕ) → IsContinued p q s t found → given_so_far q ≡ given_so_far p
    → q.draft.segments ≡ p.draft.segments → q.draft.waits ≡ p.draft.waits → IsQuiet p q
quiet_continued p q s t found r same segments waits = record {
  spans = same;
  peak = r.peak;
  works = ap (λ (k : Planner). k.world.works) r.planner;
  jobs = ap (λ (k : Planner). k.draft.jobs.items) r.planner;
  kernels = ap (λ (k : Planner). k.draft.kernels.items) r.planner;
  segments = ap (λ (v : Vec Segment Global). v.items) segments;
  waits = ap (λ (v : Vec JobId Global). v.items) waits;
}

-- ---- where no temp container was made, and the frame is the same

pub same_temps : (temps : List ℕ) (s : ScriptState) (alive : ℕ → Bool) (book : Book) (values : ℕ → states.Value) (lines : List ℕ)
    → ((c : ℕ) → alive c ≡ true → s.alive c ≡ true)
    → AreTemps temps s
    → AreTemps temps (changed s alive book s.frame values lines)
same_temps temps s alive book values lines falls is = record { all = λ c lt temp a. is.all c lt temp (falls c a); each = is.each }

pub same_tempjobs : (tempjobs : List ℕ) (overdue : ℕ) (s : ScriptState) (alive : ℕ → Bool) (book : Book) (values : ℕ → states.Value) (lines : List ℕ)
    → AreTempJobs tempjobs overdue s
    → AreTempJobs tempjobs overdue (changed s alive book s.frame values lines)
same_tempjobs tempjobs overdue s alive book values lines is =
    record { all = is.all; each = is.each; rising = is.rising; within = is.within; past = is.past; ahead = is.ahead }
