-- A statement that makes a container goes on: its words were taken and it was entered, or it was refused.
use Rattle.std.proofs.Common.{◌≡◌, ℕ, suc, ◌+◌, ◌<◌, ◌≤◌, ◌^◌, inl, true, false, not, ℤ, List, [], ◌∷◌, ◌++◌, length, map, Option, Some, None, Result, Ok, Err, refl, sym, ap, subst, ◌∙◌, arith, append-nil, length-append}
use Rattle.std.specs.Prelude.{nat_le, slice_set, get_or, Vec, vec_len}
use Rattle.std.specs.Result.{IfErr, IsErrAnd}
use Rattle.std.specs.declared.alloc.Global.{Global}
use Rattle.job_base.specs.declared.Refusal.TheVariants.{StoreFull}
use Rattle.job_base.specs.declared.limits.TheConstants.{MOST_STATEMENTS, MOST_LIVE_WORDS}
use Rattle.frame_ast.specs.declared.script.Life.{Life}
use Rattle.frame_ast.specs.declared.script.Script.{Script}
use Rattle.frame_ast.specs.declared.script.Statement.{Statement}
use Rattle.frame_ast.specs.Checks.{refusal}
use Rattle.frame_ast.specs.Contents.{Contents, Cells as Elements, Single, Items, Pairs, Entries, words_of}
use Rattle.frame_ast.specs.Effects.{effect, make}
use Rattle.frame_ast.specs.Lists.{some_if}
use Rattle.frame_ast.specs.Laws.{lost_value, passed_with}
use Rattle.frame_ast.specs.Forms.{form_of}
use Rattle.frame_ast.specs.Orders.{Table, Setting, setting, made_by}
use Rattle.frame_ast.specs.Ranges.{takes_words}
use Rattle.frame_ast.specs.Refusals.{Refused, refused, store_full}
use Rattle.frame_ast.specs.Scripts.{act, act_or_pass, decided}
use Rattle.frame_ast.specs.States as states
use Rattle.frame_ast.specs.States.{ScriptState, live_words}
use Rattle.kernel_exec.specs.declared.binds.Bind.{Bind}
use Rattle.slot_store.specs.declared.slot.Taken.{Taken}
use Rattle.slot_store.specs.Stores.{peak_of, live_words_of, slots_in_use}
use Rattle.safety_handle.specs.Entries.{state_of}
use Rattle.frame_core.specs.declared.plan.Act.TheVariants.{Fill}
use Rattle.frame_core.specs.declared.plan.Op.{Op}
use Rattle.frame_core.specs.Names.{literal_of}
use Rattle.frame_core.specs.Ordered.{IsLiteral}
use Rattle.plan_laws.specs.Binds.{bind_of}
use Rattle.plan_laws.specs.Making.{FillsAs, IsGivenBy}
use Rattle.plan_laws.specs.Planned.{Outline}
use Rattle.plan_laws.proofs.Statements.Filling.{zeros_fill, literals_fill}
use Rattle.plan_state.specs.declared.state.PlanFault.{PlanFault}
use Rattle.plan_state.specs.declared.state.PlanFault.TheVariants.{Jobs, Words, NoMemory}
use Rattle.plan_state.specs.declared.answer.Answer.{Answer}
use Rattle.plan_state.specs.declared.answer.Answer.TheVariants.{Refused as RefusedAs}
use Rattle.plan_state.specs.declared.state.Draft.{Draft}
use Rattle.plan_state.specs.declared.state.Planner.{Planner}
use Rattle.plan_state.specs.declared.state.Value.TheVariants.{Dead, Whole}
use Rattle.plan_state.specs.declared.state.World.{World}
use Rattle.plan_state.specs.Accesses.{IsRenamed}
use Rattle.plan_state.specs.Answers.{HasFilled, HasTaken}
use Rattle.plan_statements.specs.Making.{TakesWords, HasWords, FailsToTake, IsEntered, and_if, elements_of}
use Rattle.plan_state.specs.Stands.{Stands}
use Rattle.plan_state.specs.Steps.{state_at, state_after, HasStepped, IsBefore, PassesLimit}
use Rattle.plan_statements.proofs.Ranges.Entering.{IsMade, made_stands}
use Rattle.plan_state.proofs.Answering.{was_pushed}
use Rattle.plan_state.proofs.Quiet.{IsNoSchedule}
use Rattle.plan_statements.proofs.Ranges.Ranging.{HasFound, HasOneMore, range_steps}
use Rattle.plan_state.proofs.Reaching.{statements_few, within}
use Rattle.plan_state.proofs.Restating.{said_dead}

-- a fault that is handed on
pub handed_on : {T E : Type 0} (r : Result T E) (e : E) (P : E → Type 0) → IsErrAnd r (λ y. y ≡ e) → P e → IfErr r P
handed_on (Ok x) e P h p = tt
handed_on (Err y) e P h p = subst P (sym h) p

-- WHICH STATEMENTS MAKE ONE

pub record Makes (g : Setting) (x : Statement) (name : ℕ) (life : Life) (c : Contents) : Type 0 where
  pub refusal_is : (s : ScriptState) → refusal g s x.act ≡ store_full s (words_of c) name
  pub effect_is : (s : ScriptState) → effect g x.line s x.act ≡ make x.line name life c s
  pub made : made_by x.act ≡ Some name
  pub lost : lost_value x.act ≡ states.Dead
  pub passed : passed_with x.act ≡ 0
  pub takes : takes_words g x.act ≡ Some (words_of c)
  pub job : IsNoSchedule x.act
  pub below : name < length g.names

-- THE STORE IS FULL, OR IT ISN'T

pub is_full : (s : ScriptState) (words name : ℕ) → MOST_LIVE_WORDS < live_words s + words → store_full s words name ≡ Some (refused StoreFull name)
is_full s words name lt = ap (λ b. some_if (not b) (refused StoreFull name)) (let e : nat_le (live_words s + words) MOST_LIVE_WORDS ≡ false = grind arith in e)

pub not_full : (s : ScriptState) (words name : ℕ) → live_words s + words ≤ MOST_LIVE_WORDS → store_full s words name ≡ None
not_full s words name le = ap (λ b. some_if (not b) (refused StoreFull name)) (let e : nat_le (live_words s + words) MOST_LIVE_WORDS ≡ true = grind arith in e)

-- LITERALS

-- what is given fills the contents: zeros a new container, elements an array or a reference
abbrev pub IsGiven : Option (List ℤ) → Contents → Type 0
IsGiven None c = form_of c ≡ c
IsGiven (Some ys) c = IsGivenBy ys c

given_long : (ys : List ℤ) (c : Contents) → IsGivenBy ys c → length ys ≡ words_of c
given_long ys (Elements xs) e = ap length e
given_long ys (Single z) e = ap length e
given_long ys (Items cap xs) e = absurd e
given_long ys (Pairs cap ps) e = absurd e
given_long ys (Entries room es) e = absurd e

literal_there : (xs more : List (Vec ℤ Global)) (v : Vec ℤ Global) → get_or (map (λ v. v.items) ((xs ++ v ∷ []) ++ more)) (length xs) [] ≡ v.items
literal_there [] more v = refl
literal_there (x ∷ xs) more v = literal_there xs more v

-- a world of which words were taken knows as many names and containers
pub as_many_names : (old new : World) (len : ℕ) (t : Taken) → HasWords old new len t → (name : ℕ) → name < vec_len old.values → name < vec_len new.values
as_many_names old new len t took name lt = subst (λ (z : World). name < vec_len z.values) (sym took.rest) lt

pub as_many_containers : (old new : World) (len : ℕ) (t : Taken) → HasWords old new len t → vec_len old.containers < 2 ^ 32 → vec_len new.containers < 2 ^ 32
as_many_containers old new len t took lt = subst (λ (z : World). vec_len z.containers < 2 ^ 32) (sym took.rest) lt

-- WHAT READY SAYS

module _ {script : Script} {table : Table} {p : Planner} {x : Statement} (b : IsBefore script table p x) where
  abbrev few : b.n < MOST_STATEMENTS
  few = statements_few b.step

  pub ready_name : (name : ℕ) → name < length (setting script table).names → name < vec_len p.world.values
  ready_name name lt = within b.stands name lt

  pub ready_slots : slots_in_use p.world.store < 4294967295
  ready_slots = let a = b.stands.numbers.slots_few in let m = b.stands.numbers.made_few in let c = few in omega arith

  pub ready_containers : vec_len p.world.containers < 2 ^ 32
  ready_containers = let l = p.world.containers.ok.0 in let a = b.stands.knows.containers.made in let m = b.stands.numbers.made_few in let c = few in omega
      arith

  pub ready_literals : vec_len p.draft.literals < 2 ^ 32
  ready_literals = let l = p.draft.literals.ok.0 in let a = b.stands.numbers.literals_few in let c = few in omega arith

-- THE STATEMENT IS ACCEPTED

module _ {script : Script} {table : Table} {p : Planner} {x : Statement} (b : IsBefore script table p x) (name : ℕ) (life : Life) (c : Contents)
    (makes : Makes (setting script table) x name life c) where
  open b use {begun, n, found, step, stands as st}

  abbrev g : Setting
  g = setting script table

  abbrev s : ScriptState
  s = state_at script table n

  accepted : live_words_of p.world.store + words_of c ≤ MOST_LIVE_WORDS → refusal g s x.act ≡ None
  accepted le = makes.refusal_is s ∙ not_full s (words_of c) name (let e = st.numbers.live_words in omega arith)

  acted : live_words_of p.world.store + words_of c ≤ MOST_LIVE_WORDS → act g s x ≡ make x.line name life c s
  acted le =
      ap (λ k. act_or_pass k g s x) step.acts
      ∙ ap (λ o. decided o g s x) (accepted le)
      ∙ makes.effect_is s

  -- too many words in all
  pub fails : (fault : PlanFault) (len : ℕ) → len ≡ words_of c → FailsToTake fault p.world len → PassesLimit fault (state_after script table n x)
  fails NoMemory len e f = tt
  fails Jobs len e f = absurd f
  fails Words len e f =
      let le = f.0 in
      let lt = f.1 in
      let k = st.numbers.created in
      let is : (act g s x).created ≡ s.created + words_of c = ap (λ (t : ScriptState). t.created) (acted (omega arith)) in
      omega arith

  -- too many live words
  pub lost_goes_on : (v w : World) (draft : Draft) (len : ℕ) (answer : Answer) → len ≡ words_of c → (MOST_LIVE_WORDS < live_words_of p.world.store + len) ×
      (v ≡ p.world)
      → IsRenamed v w name Dead
      → answer ≡ RefusedAs name StoreFull
      → HasTaken p.draft draft x.line answer
      → HasStepped b (record p { world = w; draft = draft })
  lost_goes_on v w draft len answer e full renames is took =
      let lt = full.0 in
      said_dead b (refused StoreFull name) (makes.refusal_is s ∙ is_full s (words_of c) name (let k = st.numbers.live_words in omega arith)) makes.below
      (record p { draft = draft }) w name makes.made makes.lost makes.passed (inl refl)
      (was_pushed p p.world draft _ (subst (HasTaken p.draft draft x.line) is took))
      (subst (λ z. IsRenamed z w name Dead) full.1 renames)

  module _ (v w : World) (draft : Draft) (t : Taken) (len : ℕ) (len_is : len ≡ words_of c) (took : HasWords p.world v len t) (bind : Bind)
      (bind_is : bind ≡ bind_of t.span.start c)
      (values : Option (Vec ℤ Global)) (given : IsGiven (elements_of values) c)
      (entered : IsEntered v w x.line name life t bind) (filled : HasFilled p.draft draft x.line name t.span values) where
    abbrev u : Planner
    u = record p { world = w; draft = draft }

    -- the literal that has the elements
    abbrev number_of : Option (Vec ℤ Global) → Option ℕ
    number_of None = None
    number_of (Some v) = Some (length p.draft.literals.items)

    abbrev literal : Option ℕ
    literal = number_of values

    before : v ≡ record p.world { store = v.store; created = v.created }
    before = took.rest

    after : w ≡ record p.world {
      store = v.store;
      safety = w.safety;
      containers = w.containers;
      values = w.values;
      temps = w.temps;
      tempjobs = w.tempjobs;
      created = v.created;
    }
    after = entered.rest ∙ ap (λ (z : World). record z {
      safety = w.safety;
      containers = w.containers;
      values = w.values;
      temps = w.temps;
      tempjobs = w.tempjobs;
    }) before

    drafted_by : (xs : Option (Vec ℤ Global)) → HasFilled p.draft draft x.line name t.span xs
        → draft ≡ record p.draft { literals = draft.literals; ops = draft.ops }
    drafted_by None f = f.rest ∙ (λ i. record p.draft { literals = (sym f.rest i).literals; ops = draft.ops })
    drafted_by (Some l) f = f.rest

    drafted : draft ≡ record p.draft { literals = draft.literals; ops = draft.ops }
    drafted = drafted_by values filled

    all_is : u ≡ record p {
      world = record p.world {
        store = v.store;
        safety = w.safety;
        containers = w.containers;
        values = w.values;
        temps = w.temps;
        tempjobs = w.tempjobs;
        created = v.created;
      };
      draft = record p.draft { literals = draft.literals; ops = draft.ops };
    }
    all_is = (let a = after in let b = drafted in λ i. record p { world = a i; draft = b i })

    more_literals : (xs : Option (Vec ℤ Global)) → HasFilled p.draft draft x.line name t.span xs
        → (more : List (Vec ℤ Global)) × (draft.literals.items ≡ p.draft.literals.items ++ more) × (length more ≤ 1)
    more_literals None f = ([], ap (λ (z : Draft). z.literals.items) f.rest ∙ sym (append-nil p.draft.literals.items), omega arith)
    more_literals (Some l) f = (l ∷ [], f.literals, omega arith)

    more : (more : List (Vec ℤ Global)) × (draft.literals.items ≡ p.draft.literals.items ++ more) × (length more ≤ 1)
    more = more_literals values filled

    -- the operation that fills the words
    abbrev filling_with : Option (Vec ℤ Global) → Op
    filling_with xs = record { line = x.line; name = name; act = Fill t.span (number_of xs) }

    abbrev filling : Op
    filling = filling_with values

    one_filling : (xs : Option (Vec ℤ Global)) → HasFilled p.draft draft x.line name t.span xs → draft.ops.items ≡ p.draft.ops.items ++ filling_with xs ∷ []
    one_filling None f = f.ops
    one_filling (Some l) f = f.ops

    few_words : live_words_of p.world.store + words_of c ≤ MOST_LIVE_WORDS
    few_words = let a = took.few in omega arith

    words : TakesWords p.world.store v.store (words_of c) t
    words = subst (λ k. TakesWords p.world.store v.store k t) len_is took.taken

    made_is : IsMade p x.line name life c literal t entered.it v.store w.safety w.containers w.values w.temps w.tempjobs v.created draft.literals draft.ops
    made_is = record {
      small = (let a = took.small in let e = took.created in omega arith);
      created_is = took.created ∙ ap (λ k. p.world.created + k) len_is;
      takes = words;
      enrolled = entered.enrolled;
      others = λ k ne. entered.others k ne ∙ ap (λ (z : World). state_of z.safety k) before;
      bind = entered.bind_is ∙ bind_is;
      slot_is = entered.slot_is;
      version_is = entered.version_is;
      life_is = entered.life_is;
      frame_is = entered.frame_is ∙ ap (λ (z : World). z.frame) before;
      name_is = entered.name_is;
      line_is = entered.line_is;
      containers_are = entered.containers ∙ ap (λ (z : World). z.containers.items ++ entered.it ∷ []) before;
      values_are = entered.values ∙ ap (λ (z : World). slice_set z.values.items name (Whole (length z.containers.items))) before;
      temps_are = entered.temps ∙ ap (λ (z : World). and_if (Rattle.frame_ast.specs.Refusals.is_temp life) z.temps.items
          (length z.containers.items)) before;
      tempjobs_are = entered.tempjobs ∙ ap (λ (z : World). and_if (Rattle.frame_ast.specs.Effects.is_tempjob life) z.tempjobs.items
          (length z.containers.items)) before;
      literals_more = more.0;
      literals_are = more.1;
      literals_one = more.2;
      ops_are = one_filling values filled;
    }

    -- what the whole plan has at the literal's place
    literal_is : (y : Outline) (later : List (Vec ℤ Global)) → y.plan.literals.items ≡ draft.literals.items ++ later
        → (xs : Option (Vec ℤ Global)) → IsGiven (elements_of xs) c → HasFilled p.draft draft x.line name t.span xs
        → IsLiteral y.plan t.span (number_of xs) × FillsAs y.plan t.span (number_of xs) c
    literal_is y later e None given h = (tt, zeros_fill y.plan t.span c words.len_is given)
    literal_is y later e (Some literal) given h =
        let all : y.plan.literals.items ≡ (p.draft.literals.items ++ literal ∷ []) ++ later = e ∙ ap (λ l. l ++ later) h.literals in
        let at : literal_of y.plan (length p.draft.literals.items) ≡ literal.items =
        (let a = all in λ i. get_or (map (λ (v : Vec ℤ Global). v.items) (a i)) (length p.draft.literals.items) [])
        ∙ literal_there p.draft.literals.items later literal in
        let l = ap length all in
        let m = length-append (p.draft.literals.items ++ literal ∷ []) later in
        let o = length-append p.draft.literals.items (literal ∷ []) in (
          ((omega arith), ap length at ∙ given_long literal.items c given ∙ sym words.len_is),
          literals_fill y.plan t.span (length p.draft.literals.items) c words.len_is (subst (λ zs. IsGivenBy zs c) (sym at) given),
        )

    one_op : HasOneMore p u filling
    one_op = record {
      ops = made_is.ops_are;
      segments = ap (λ (z : Draft). z.segments) drafted;
      waits = ap (λ (z : Draft). z.waits) drafted;
      jobs = ap (λ (z : Draft). z.jobs) drafted;
      kernels = ap (λ (z : Draft). z.kernels) drafted;
    }

    found_is : HasFound p u (words_of c) t.span
    found_is = record {
      fit = words.fit;
      len = words.len_is;
      peak = ap (λ (z : World). peak_of z.store) after ∙ words.peak;
      works = ap (λ (z : World). z.works) after;
    }

    pub goes_on : HasStepped b u
    goes_on =
        range_steps b u (words_of c) t.span filling found_is one_op refl
        (accepted few_words) makes.takes makes.job (ap (λ (z : ScriptState). z.book.completed) (acted few_words))
        (subst (λ z. Stands u g begun (suc n) z (found ++ t.span.start ∷ [])) (sym (acted few_words))
        (subst (λ z. Stands z g begun (suc n) (make x.line name life c s) (found ++ t.span.start ∷ [])) (sym all_is)
        (made_stands p g begun n s found x.line name life c literal t entered.it v.store w.safety w.containers w.values w.temps w.tempjobs v.created
        draft.literals draft.ops st makes.below made_is
        (λ y a. literal_is y a.literals.0 a.literals.1 values given filled))))
