-- A section begins after a test, in the state in which the test stands.
use Rattle.std.proofs.Common.{◌≡◌, ℕ, zero, suc, ◌+◌, ◌<◌, ◌≤◌, ⊎_elim, Bool, true, false, not, ℤ, List, [], ◌∷◌, length, get_or, Option, None, Some, refl, sym, ap, subst, ◌∙◌, arith}
use Rattle.std.specs.Prelude.{Vec, slice_get, if◌then◌else◌}
use Rattle.std.specs.declared.alloc.Global.{Global}
use Rattle.std.proofs.lemmas.Bool.{cases_lt}
use Rattle.std.specs.List.{list_any}
use Rattle.std.proofs.lemmas.Bool.{leb-true}
use Rattle.job_base.specs.declared.limits.TheConstants.{MOST_STATEMENTS}
use Rattle.job_base.specs.Cells.{cells_of, cell_list}
use Rattle.job_base.proofs.Windows.{cell_list-same, get_or-cell_list, length-cell_list}
use Rattle.frame_ast.specs.declared.kernel.Kernel.{Kernel}
use Rattle.frame_ast.specs.declared.script.Order.{Order}
use Rattle.frame_ast.specs.declared.script.Order.TheVariants.{When}
use Rattle.frame_ast.specs.declared.script.Script.{Script}
use Rattle.frame_ast.specs.declared.script.Statement.{Statement}
use Rattle.frame_ast.specs.Accepted.{IsAccepted, is_when}
use Rattle.frame_ast.specs.Checks.{refusal}
use Rattle.frame_ast.specs.Jobs.{Jobs, greatest}
use Rattle.frame_ast.specs.Orders.{Table, Setting, setting}
use Rattle.frame_ast.specs.Ranges.{has_word}
use Rattle.frame_ast.specs.Refusals.{disposed, busy, busy_with}
use Rattle.frame_ast.specs.States.{ScriptState, is_live}
use Rattle.frame_ast.specs.Effects.{effect}
use Rattle.frame_ast.specs.Scripts.{act}
use Rattle.frame_ast.proofs.NameKinds.{first_none}
use Rattle.job_handle.specs.Books.{count_of}
use Rattle.kernel_bytecode.specs.declared.code.Code.{Code}
use Rattle.kernel_exec.specs.Binds.{end_of}
use Rattle.kernel_exec.specs.Layout.{Holds}
use Rattle.merge_laws.specs.Graph.{Cells}
use Rattle.slot_store.specs.Stores.{peak_of}
use Rattle.frame_core.specs.declared.plan.Plan.{Plan}
use Rattle.frame_core.specs.Ordered.{ops_count}
use Rattle.frame_core.proofs.Small.{some_is, none_some, not_both, get_below}
use Rattle.plan_laws.specs.Binds.{bind_of, bind_of_container}
use Rattle.plan_laws.specs.Drafts.{Draft, empty_draft}
use Rattle.plan_laws.specs.Leaving.{AllHeld}
use Rattle.plan_laws.specs.Planned.{Outline, IsPlanned}
use Rattle.plan_laws.proofs.Statements.Making.{live_below}
use Rattle.plan_laws.proofs.Owners.{words_apart}
use Rattle.plan_laws.proofs.Sections.{sections_begin}
use Rattle.frame_plan.specs.declared.sections.SectionBook.{SectionBook}
use Rattle.plan_state.specs.declared.state.PlanFault.{PlanFault}
use Rattle.plan_state.specs.declared.state.PlanFault.TheVariants.{NoMemory}
use Rattle.plan_state.specs.declared.state.Container.{Container}
use Rattle.plan_state.specs.declared.state.Planner.{Planner}
use Rattle.plan_state.specs.declared.state.Draft.{Draft as SoFar}
use Rattle.frame_plan.specs.Runs.{IsActingTest, outline_of, PassesOnce}
use Rattle.frame_plan.specs.Resuming.{IsResumed}
use Rattle.frame_plan.specs.Sections.{IsTakenBack, IsHandedOut, IsBetween, IsOutcome, AreLeft, outcome_of, outcome_by, passed_after}
use Rattle.plan_state.specs.Stands.{IsContainer, IsOwned, AreKernels, Agrees, Stands, draft_of}
use Rattle.plan_state.specs.Steps.{state_at, StandsAt}
use Rattle.plan_state.proofs.Accessing.{there}
use Rattle.frame_plan.proofs.Wholes.{coded_as, plan_so_far, some_planned}
use Rattle.frame_plan.proofs.Handing.{not_test, no_test, limit_is}
use Rattle.frame_plan.proofs.Limiting.{text_passes_none}
use Rattle.frame_plan.proofs.Passing.{repassed}
use Rattle.plan_state.proofs.Reaching.{next_state}
use Rattle.plan_state.proofs.Restating.{accepted_state}
use Rattle.frame_plan.proofs.Starting.{none_long, no_pieces}

-- ---- all jobs are completed

greatest_none : (set : Jobs) (n : ℕ) → greatest set n ≡ 0 → (j : ℕ) → 0 < j → j ≤ n → set j ≡ false
greatest_none set zero e j pos le = absurd (omega arith)
greatest_none set (suc n) e j pos le = by (λ f k. greatest_none set n f j pos k) (set (suc n)) refl e
  where
    at : (b : Bool) → j ≡ suc n → set (suc n) ≡ b → set j ≡ b
    at b same f = ap set same ∙ f

    by : (greatest set n ≡ 0 → j ≤ n → set j ≡ false) → (b : Bool) → set (suc n) ≡ b → (if b then suc n else greatest set n) ≡ 0 → set j ≡ false
    by below true f e = absurd (omega arith)
    by below false f e = ⊎_elim (λ (lt : j < suc n). below e (omega arith)) (λ (ge : suc n ≤ j). at false (omega arith) f) (cases_lt j (suc n))

not_busy : (name k : ℕ) → busy_with name k ≡ None → k ≡ 0
not_busy name zero e = refl
not_busy name (suc k) e = absurd (none_some (sym e))

pub all_completed : (g : Setting) (s : ScriptState) (a : Order) → IsActingTest g s a → (j : ℕ) → 0 < j → j ≤ s.book.count → s.book.completed j ≡ true
all_completed g s (When name sign value count) acts j pos le =
    let free = (first_none (busy s name) [] (first_none (disposed s (name ∷ [])) (busy s name ∷ []) acts.1).1).0 in
    is_true (s.book.completed j) (greatest_none (λ j. not (s.book.completed j)) s.book.count (not_busy name _ free) j pos le)
  where
    is_true : (b : Bool) → not b ≡ false → b ≡ true
    is_true true e = refl
    is_true false e = absurd cc
all_completed g s a acts j pos le = absurd acts

-- ---- the planner

module _ (script : Script) (table : Table) (old : Planner) (begun : ScriptState) (n : ℕ) (found : List ℕ) (x : Statement)
    (st : StandsAt old script table begun n found)
    (accepted : IsAccepted script) (here : slice_get script.statements.items n ≡ Some x)
    (acts : IsActingTest (setting script table) (state_at script table n) x.act)
    (carried : Cells) (held : AllHeld (λ k. get_or found k 0) (state_at script table n) carried)
    (before : ℕ) (w : SoFar)
    (before_is : before ≡ (state_at script table n).book.count)
    (segments : w.segments.items ≡ []) (jobs : w.jobs.items ≡ []) (waits : w.waits.items ≡ []) (ops : w.ops.items ≡ [])
    (literals : w.literals.items ≡ []) (pieces : w.pieces ≡ 0) (first : w.first.items ≡ cell_list carried 0 (peak_of old.world.store))
    (kernels : AreKernels (record old { world = record old.world { jobs_before = before }; draft = w }) (setting script table))
    (kernels_few : length w.kernels.items ≤ n) where
  abbrev g : Setting
  g = setting script table

  abbrev s : ScriptState
  s = state_at script table n

  abbrev q : Planner
  q = record old { world = record old.world { jobs_before = before }; draft = w }

  abbrev len : ℕ
  len = peak_of old.world.store

  container_kept : (c : ℕ) (it : Container) → IsContainer old.world s found c it → IsContainer q.world s found c it
  container_kept c it k = record {
    bind = k.bind;
    range = k.range;
    life = k.life;
    making = k.making;
    named = k.named;
    alive = k.alive;
    uses = k.uses;
    view = k.view;
    in_use = k.in_use;
    span = k.span;
    taken = k.taken;
    older = k.older;
    low = k.low;
    held = k.held;
  }

  owned_kept : (slot : ℕ) → IsOwned old.world s slot → IsOwned q.world s slot
  owned_kept slot o = record { container = o.container; it = o.it; has = o.has; slot_is = o.slot_is; live = o.live }

  inside : n ≤ length script.statements.items
  inside = let lt = get_below script.statements.items n x here in omega arith

  planned_before : IsPlanned (outline_of (plan_so_far script old) found begun) s (draft_of old)
  planned_before = some_planned {script = script} {p = old}
      (record { accepted = accepted; table = table; begun = begun; n = n; found = found; inside = inside; stands = st })

  range_known : (c : ℕ) → c < s.made → s.range c < length found
  range_known c lt =
      let it = there old.world.containers.items c (let e = st.knows.containers.made in omega arith) in
      let r = (st.knows.containers.each c it.0 it.1).range in
      let e = st.knows.takes in
      omega arith

  module _ (y : Outline) (a : Agrees q g s found y) where
    abbrev x' : Outline
    x' = record { plan = y.plan; starts = y.starts; begun = s }

    start_is : (c : ℕ) → c < s.made → y.starts (s.range c) ≡ get_or found (s.range c) 0
    start_is c lt = a.starts (s.range c) (range_known c lt)

    bind_is : (c : ℕ) → c < s.made → bind_of_container y.starts s c ≡ bind_of_container (λ k. get_or found k 0) s c
    bind_is c lt = ap (λ k. bind_of k (s.contents c)) (start_is c lt)

    word_is : (c v : ℕ) → c < s.made → has_word y.starts s c v ≡ has_word (λ k. get_or found k 0) s c v
    word_is c v lt = ap (λ k. has_word (λ j. k) s c v) (start_is c lt)

    apart : (c e v : ℕ) → is_live s c ≡ true → is_live s e ≡ true → has_word y.starts s c v ≡ true → has_word y.starts s e v ≡ true → c ≡ e
    apart c e v lc le hc he =
        words_apart (plan_so_far script old) (λ k. get_or found k 0) begun.book.count (length old.draft.jobs.items) s planned_before.ordered.ledger c e v lc le
        (sym (word_is c v (live_below s c lc)) ∙ hc) (sym (word_is e v (live_below s e le)) ∙ he)

    first_is : y.plan.first.items ≡ cell_list carried 0 len
    first_is = a.first ∙ first

    begins : IsPlanned x' s empty_draft
    begins =
        sections_begin x' carried len a.small st.knows.known (all_completed g s x.act acts)
        (record {
          held = λ c below alive. subst (λ b. Holds carried b (s.contents c)) (sym (bind_is c below)) (held c below alive);
          below = λ c live. subst (λ b. end_of b ≤ len) (sym (bind_is c (live_below s c live))) (planned_before.standing.within c live);
          within = a.cells;
          first = (let e = ap length first_is in let size = length-cell_list carried 0 len in let low = a.cells in omega arith);
          are = λ w lt. ap (λ l. cells_of l w) first_is ∙ get_or-cell_list carried 0 len w _ lt
              ∙ (let e : 0 + w ≡ w = omega arith in ap carried e);
          apart = apart;
        })

    draft_is : empty_draft ≡ draft_of q
    draft_is = λ i. record { segments = sym segments i; jobs = sym jobs i; waits = sym waits i; ops = sym ops i }

    planned : IsPlanned y s (draft_of q)
    planned =
        let b = sym a.begins in
        let x_is : x' ≡ y = λ i. record { plan = y.plan; starts = y.starts; begun = b i } in
        subst (λ o. IsPlanned o s (draft_of q)) x_is (subst (IsPlanned x' s) draft_is begins)

  pub stands_resumed : StandsAt (record old { world = record old.world { jobs_before = before }; draft = w }) script table (state_at script table n) n found
  stands_resumed =
      let m = st.numbers in record {
        knows = record {
          known = st.knows.known;
          names = st.knows.names;
          each = st.knows.each;
          containers = record {
            made = st.knows.containers.made;
            each = λ c it h. container_kept c it (st.knows.containers.each c it h);
            slots = λ slot u. owned_kept slot (st.knows.containers.slots slot u);
            once = st.knows.containers.once;
            versions = st.knows.containers.versions;
          };
          takes = st.knows.takes;
          temps = st.knows.temps;
          tempjobs = st.knows.tempjobs;
          frames = st.knows.frames;
          jobs = st.knows.jobs;
        };
        numbers = record {
          frame = m.frame;
          passing = m.passing;
          created = m.created;
          before = before_is;
          pieces = pieces ∙ sym (no_pieces w.jobs.items jobs);
          live_words = m.live_words;
          frames_few = m.frames_few;
          made_few = m.made_few;
          created_few = m.created_few;
          peak_low = m.peak_low;
          slots_few = m.slots_few;
          ops_few = (let e = ap ops_count segments in let f = ap length ops in omega arith);
          segments_few = (let e = none_long w.segments.items segments in omega arith);
          literals_few = (let e = ap length literals in omega arith);
          kernels_few = kernels_few;
          handles_few = m.handles_few;
        };
        kernels = kernels;
        planned = planned;
      }

-- ---- the test acts

pub test_acts : (g : Setting) (s : ScriptState) (x : Statement) (held : Bool) (a : Order) → x.act ≡ a → IsActingTest g s a → held ≡ outcome_of s a
    → act g s x ≡ record s { passing = passed_after held a }
test_acts g s x held (When name sign value count) is acts out =
    accepted_state g s x acts.0 (ap (refusal g s) is ∙ acts.1) ∙ ap (effect g x.line s) is ∙ ap (λ b. record s { passing = if b then 0 else count }) (sym out)
    ∙ ap (λ k. record s { passing = k }) (by held)
  where
    by : (b : Bool) → (if b then 0 else count) ≡ passed_after b (When name sign value count)
    by true = refl
    by false = refl
test_acts g s x held a is acts out = absurd acts

pub outcome_is : (script : Script) (table : Table) (n : ℕ) (x : Statement) (held : Bool) → IsOutcome script table n (Some held)
    → slice_get script.statements.items n ≡ Some x → held ≡ outcome_of (state_at script table n) x.act
outcome_is script table zero x held h e = absurd (none_some (sym h))
outcome_is script table (suc n) x held h e = some_is h ∙ ap (outcome_by (state_at script table (suc n))) e

-- ---- the plan before was taken back

-- The planner took up the section with the kernels of a plan, each with its code.
pub record IsResumedWith (plan : Plan) (old new : Planner) (mem : List ℤ) : Type 0 where
  pub first : new.draft.first.items ≡ cell_list (cells_of mem) 0 (peak_of old.world.store)
  pub kernels : new.draft.kernels ≡ plan.kernels
  pub codes : new.draft.codes ≡ plan.codes
  pub before : new.world.jobs_before ≡ count_of old.world.jobs
  pub rest : new ≡ record old {
    world = record old.world { jobs_before = new.world.jobs_before };
    draft = record old.draft { kernels = new.draft.kernels; codes = new.draft.codes; first = new.draft.first };
  }

pub resumed_with : (before : SectionBook) (plan : Plan) (book : SectionBook) → IsTakenBack before plan book → (q : Planner) (mem : List ℤ)
    → IsResumed book.planner q mem → IsResumedWith plan before.planner q mem
resumed_with before plan book taken q mem r = record {
  first = r.first ∙ ap (λ (b : SectionBook). cell_list (cells_of mem) 0 (peak_of b.planner.world.store)) taken;
  kernels = kernels;
  codes = codes;
  before = r.before ∙ ap (λ (b : SectionBook). count_of b.planner.world.jobs) taken;
  rest = q_is ∙ (λ i. record before.planner {
    world = record before.planner.world { jobs_before = q.world.jobs_before };
    draft = record before.planner.draft { kernels = sym kernels i; codes = sym codes i; first = q.draft.first };
  });
}
  where
    q_is : q ≡ record before.planner {
      world = record before.planner.world { jobs_before = q.world.jobs_before };
      draft = record before.planner.draft { kernels = plan.kernels; codes = plan.codes; first = q.draft.first };
    }
    q_is = r.rest ∙ ap (λ (b : SectionBook). record b.planner {
      world = record b.planner.world { jobs_before = q.world.jobs_before };
      draft = record b.planner.draft { first = q.draft.first };
    }) taken

    kernels : q.draft.kernels ≡ plan.kernels
    kernels = ap (λ (k : Planner). k.draft.kernels) q_is

    codes : q.draft.codes ≡ plan.codes
    codes = ap (λ (k : Planner). k.draft.codes) q_is

pub place_back : (before : SectionBook) (plan : Plan) (book : SectionBook) → IsTakenBack before plan book → book.at ≡ before.at
place_back before plan book taken = ap (λ (b : SectionBook). b.at) taken

-- which list is needed no more says nothing of where a book stands
pub respared : (book : SectionBook) (script : Script) (table : Table) (n : ℕ) (carried : Cells) (l : ℕ) (spare : Vec ℤ Global)
    → IsBetween book script table n carried l → IsBetween (record book { spare = spare }) script table n carried l
respared book script table n carried l spare b = record {
  before = b.before;
  plan = b.plan;
  handed_out = b.handed_out;
  taken_back = ap (λ (k : SectionBook). record k { spare = spare }) b.taken_back;
}

module _ (script : Script) (table : Table) (book : SectionBook) (plan : Plan) (n : ℕ) (carried : Cells) (len : ℕ)
    (b : IsHandedOut book plan script table n carried len) where
  pub below : n < length script.statements.items
  below = get_below script.statements.items n b.test b.here

  few : length script.statements.items ≤ MOST_STATEMENTS
  few = leb-true (length script.statements.items) MOST_STATEMENTS b.accepted.statement_count

  pub place_small : n < MOST_STATEMENTS
  place_small = let lt = below in let le = few in omega arith

  pub peak_is : peak_of book.planner.world.store ≡ peak_of b.old.world.store
  peak_is = ap (λ (k : Planner). peak_of k.world.store) b.emptied.rest

  module _ (q : Planner) (mem : List ℤ) (left : AreLeft mem carried len) (r : IsResumedWith plan book.planner q mem) where
    -- the planner of the section before, with another plan
    abbrev again : Planner
    again = record b.old {
      world = record b.old.world { jobs_before = q.world.jobs_before };
      draft = record book.planner.draft { kernels = q.draft.kernels; codes = q.draft.codes; first = q.draft.first };
    }

    pub q_is : q ≡ record b.old {
      world = record b.old.world { jobs_before = q.world.jobs_before };
      draft = record book.planner.draft { kernels = q.draft.kernels; codes = q.draft.codes; first = q.draft.first };
    }
    q_is = r.rest ∙ ap (λ (k : Planner). record k {
      world = record k.world { jobs_before = q.world.jobs_before };
      draft = record book.planner.draft { kernels = q.draft.kernels; codes = q.draft.codes; first = q.draft.first };
    }) b.emptied.rest

    same_cells : cell_list (cells_of mem) 0 (peak_of book.planner.world.store) ≡ cell_list carried 0 (peak_of b.old.world.store)
    same_cells =
        cell_list-same (cells_of mem) carried 0 (peak_of book.planner.world.store) (λ k lo hi. left.1 k (let e = b.len_is in omega arith))
        ∙ ap (cell_list carried 0) peak_is

    had : q.draft.kernels.items ≡ b.old.draft.kernels.items
    had = ap (λ (v : Vec Kernel Global). v.items) r.kernels ∙ b.kernels

    -- the copies are where they were, each with its code
    kernels_again : AreKernels again (setting script table)
    kernels_again =
        let ks = b.stood.kernels in
        let places = b.emptied.copies in
        let guard_places = b.emptied.guards in
        record {
          each = ap (λ (v : Vec (Option ℕ) Global). length v.items) places ∙ ks.each;
          each_guard = ap (λ (v : Vec (Option ℕ) Global). length v.items) guard_places ∙ ks.each_guard;
          copies = λ k place h.
              let c = ks.copies k place (ap (λ (v : Vec (Option ℕ) Global). slice_get v.items k) (sym places) ∙ h) in
              record { old = c.old; new = c.new; is_old = c.is_old; is_new = ap (λ xs. slice_get xs place) had ∙ c.is_new; same = c.same };
          guards = λ k place h.
              let c = ks.guards k place (ap (λ (v : Vec (Option ℕ) Global). slice_get v.items k) (sym guard_places) ∙ h) in
              record {
                old = c.old;
                new = c.new;
                is_old = c.is_old;
                is_new = ap (λ xs. slice_get xs place) had ∙ c.is_new;
                guarded = c.guarded;
                contents = c.contents;
                words = c.words;
                footprint = c.footprint;
              };
          checked = λ place k h. ks.checked place k (ap (λ xs. slice_get xs place) (sym had) ∙ h);
          coded = coded_as q.draft.kernels.items b.old.draft.kernels.items q.draft.codes.items b.old.draft.codes.items had
              (ap (λ (v : Vec Code Global). v.items) r.codes ∙ b.codes) ks.coded;
        }

    stands_again : StandsAt q script table (state_at script table n) n b.found
    stands_again =
        subst (λ p. StandsAt p script table (state_at script table n) n b.found) (sym q_is)
        (stands_resumed script table b.old b.begun n b.found b.test b.stood b.accepted b.here b.acts carried b.held q.world.jobs_before
        (record book.planner.draft { kernels = q.draft.kernels; codes = q.draft.codes; first = q.draft.first })
        (r.before ∙ ap (λ (k : Planner). count_of k.world.jobs) b.emptied.rest ∙ b.stood.knows.jobs.count)
        (ap (λ (d : Draft). d.segments) b.emptied.draft)
        (ap (λ (d : Draft). d.jobs) b.emptied.draft)
        (ap (λ (d : Draft). d.waits) b.emptied.draft)
        (ap (λ (d : Draft). d.ops) b.emptied.draft)
        b.emptied.literals
        b.emptied.pieces
        (r.first ∙ same_cells)
        kernels_again
        (let e = ap length had in let few = b.stood.numbers.kernels_few in omega arith))

    pub resumed_on : (held : Bool) (x : Statement) → slice_get script.statements.items n ≡ Some x
        → IsOutcome script table n (Some held) → StandsAt (record q { world = record q.world { passing = passed_after held x.act } }) script table
        (state_at script table n)
        (suc n) b.found
    resumed_on held x here out =
        let same : b.test ≡ x = some_is (sym b.here ∙ here) in
        let acts = subst (λ (y : Statement). IsActingTest (setting script table) (state_at script table n) y.act) same b.acts in
        let now = test_acts (setting script table) (state_at script table n) x held x.act refl acts (outcome_is script table n x held out here) in
        subst (λ t. Stands (record q { world = record q.world { passing = passed_after held x.act } }) (setting script table) (state_at script table n)
        (suc n) t b.found)
        (sym now ∙ next_state script table n x here)
        (repassed q (setting script table) (state_at script table n) n (state_at script table n) b.found stands_again (passed_after held x.act))

    pub standing_on : (held : Bool) (x : Statement) (at k : ℕ) → at ≡ book.at → slice_get script.statements.items at ≡ Some x
        → IsOutcome script table n (Some held) → k ≡ passed_after held x.act
        → StandsAt (record q { world = record q.world { passing = k } }) script table (state_at script table n) (at + 1) b.found
    standing_on held x at k at_is there_is out is =
        let there : n ≡ at = sym (at_is ∙ b.at) in
        let here : slice_get script.statements.items n ≡ Some x = ap (slice_get script.statements.items) there ∙ there_is in
        let next : suc n ≡ at + 1 = omega arith in
        subst (λ m. StandsAt (record q { world = record q.world { passing = k } }) script table (state_at script table n) m b.found) next
        (subst (λ j. StandsAt (record q { world = record q.world { passing = j } }) script table (state_at script table n) (suc n) b.found) (sym is)
        (resumed_on held x here out))

  pub no_limit : (fault : PlanFault) → PassesOnce fault script table → fault ≡ NoMemory
  no_limit fault p =
      let some = some_test script.statements.items n b.test b.here (not_test (setting script table) (state_at script table n) b.test.act b.acts) in
      text_passes_none script table fault (sym (limit_is script table true some) ∙ b.within) p
    where
      some_test : (xs : List Statement) (n : ℕ) (x : Statement) → slice_get xs n ≡ Some x → is_when x.act ≡ true
          → list_any (λ (x : Statement). is_when x.act) xs ≡ true
      some_test xs n x e is = by (list_any (λ (x : Statement). is_when x.act) xs) refl
        where
          by : (c : Bool) → list_any (λ (x : Statement). is_when x.act) xs ≡ c → list_any (λ (x : Statement). is_when x.act) xs ≡ true
          by true f = f
          by false f = absurd (not_both is (no_test xs n x f e))
