-- What the parts of a schedule need, before a schedule of an accepted script.
use Rattle.std.proofs.Common.{◌≡◌, ◌≢◌, inr, false, ℕ, suc, ◌*◌, ◌<◌, ◌≤◌, ◌^◌, List, length, get_or, All, Option, Some, None, Result, Ok, Err, refl, sym, ap, subst, ◌∙◌, arith, append-nil}
use Rattle.std.specs.Prelude.{IfErr, IfOk, OnOk, Box, vec_len, slice_get, if◌then◌else◌}
use Rattle.std.specs.declared.alloc.Global.{Global}
use Rattle.job_base.specs.declared.limits.TheConstants.{MOST_JOBS, MOST_PIECES}
use Rattle.frame_ast.specs.declared.kernel.Kernel.{Kernel}
use Rattle.frame_ast.specs.declared.script.Arg.{Arg}
use Rattle.frame_ast.specs.declared.script.Script.{Script}
use Rattle.frame_ast.specs.declared.script.Statement.{Statement}
use Rattle.frame_ast.specs.Checks.{refusal}
use Rattle.frame_ast.specs.Conflicts.{automatic}
use Rattle.frame_ast.specs.Jobs.{Jobs, both, nobody}
use Rattle.frame_ast.specs.Laws.{AreUpTo}
use Rattle.frame_ast.specs.Orders.{Setting, setting, kernel_params, kernel_parallel}
use Rattle.frame_ast.specs.Refusals.{refused, jobs_named}
use Rattle.frame_ast.specs.declared.kernel.Param.{Param}
use Rattle.frame_ast.specs.Schedules.{Given, given_args, givens}
use Rattle.frame_ast.specs.States.{ScriptState}
use Rattle.frame_ast.proofs.Known.{named_among}
use Rattle.job_handle.specs.Books.{count_of}
use Rattle.safety_handle.specs.Entries.{state_of}
use Rattle.auto_deps.specs.Needs.{conflicting_with}
use Rattle.frame_core.proofs.Small.{some_is, get_below, not_both}
use Rattle.plan_laws.specs.Accepting.{deps_of}
use Rattle.plan_schedules.specs.declared.causes.Cause.{Cause}
use Rattle.plan_state.specs.declared.start.JobAnswer.{JobAnswer}
use Rattle.plan_state.specs.declared.start.JobAnswer.TheVariants.{Refused}
use Rattle.plan_state.specs.declared.state.Draft.{Draft}
use Rattle.plan_state.specs.declared.state.Planner.{Planner}
use Rattle.plan_state.specs.declared.state.World.{World}
use Rattle.plan_schedules.specs.declared.uses.NamedUse.{NamedUse}
use Rattle.plan_state.specs.declared.state.PlanFault.{PlanFault}
use Rattle.plan_state.specs.declared.state.PlanFault.TheVariants.{Jobs as TooManyJobs, Words as TooManyWords, NoMemory}
use Rattle.plan_state.specs.Accesses.{jobs_by, HasHandle}
use Rattle.plan_schedules.specs.Noting.{MayNoteAll}
use Rattle.plan_schedules.specs.Causes.{refusal_by, as_refused}
use Rattle.plan_schedules.specs.Starting.{AreDeps, IsFull, IsInBooks, IsPlainRun, IsStartOf}
use Rattle.plan_schedules.specs.declared.accepting.Run.{Run}
use Rattle.plan_state.specs.Copies.{IsKernelChecked}
use Rattle.plan_state.specs.Starts.{HasTakenJob, MayStart, MayTakeJob}
use Rattle.plan_state.specs.Steps.{state_at, state_after, IsBefore, HasStepped, PassesLimit}
use Rattle.plan_schedules.specs.Uses.{AreNamesBelow, ForNames, IsUse, tags_of}
use Rattle.plan_schedules.proofs.CauseNames.{AreNamed, uses_named, refusal_named}
use Rattle.plan_schedules.proofs.Choosing.{AreAlive, refusal_is}
use Rattle.plan_schedules.proofs.PlainStarted as started
use Rattle.plan_schedules.proofs.Meaning.{AreMeant, uses_meant}
use Rattle.plan_state.proofs.Naming.{jobs_are}
use Rattle.plan_schedules.proofs.Needs.{needs_up, needs_are, deps_are}
use Rattle.plan_schedules.proofs.Notes.{needs}
use Rattle.plan_state.proofs.Reaching.{statements_few, within}
use Rattle.plan_state.proofs.Restating.{accepted_state, said_nobody}
use Rattle.plan_schedules.proofs.Rooms as rooms
use Rattle.plan_schedules.proofs.Taken as taken
use Rattle.plan_schedules.proofs.Texts as texts
use Rattle.plan_schedules.proofs.Texts.{IsText, all_below, each_lower}
use Rattle.frame_ast.specs.declared.script.NewJob.{NewJob}

pub if_err : {T E : Type 0} (r : Result T E) {P Q : E → Type 0} → ((e : E) → P e → Q e) → IfErr r P → IfErr r Q
if_err (Ok x) f h = tt
if_err (Err e) f h = f e h

-- of a result, by what is said of its value and what is so beside it
pub with_ok : {T E : Type 0} (r : Result T E) {P Q : T → Type 0} {R : Type 0} → ((x : T) → P x → R → Q x) → IfOk r P → OnOk r R → IfOk r Q
with_ok (Ok x) f h k = f x h k
with_ok (Err e) f h k = tt

pub no_cause : (o : Option Cause) → ((c : Cause) → o ≡ Some c → ⊥) → o ≡ None
no_cause None h = refl
no_cause (Some c) h = absurd (h c refl)

module _ (line : ℕ) (home : Box NewJob Global) (asked : NewJob) where
  abbrev pub x : Statement
  x = texts.x line home asked

  module _ {script : Script} {table : Rattle.frame_ast.specs.Orders.Table} {p : Planner} (b : IsBefore script table p x) where
    open b use {n, step, stands as st}

    abbrev g : Setting
    g = setting script table

    abbrev s : ScriptState
    s = state_at script table n

    pub text : IsText line home asked step
    text = texts.text line home asked step

    pub kernel_below : asked.kernel < vec_len script.kernels
    kernel_below = let lt = get_below script.kernels.items asked.kernel text.source text.has in let len = script.kernels.ok.0 in omega arith

    pub source_at : (k : Kernel) → slice_get script.kernels.items asked.kernel ≡ Some k → text.source ≡ k
    source_at k h = some_is (sym text.has ∙ h)

    pub names_below : (xs : List Arg) → xs ≡ asked.args.items → AreNamesBelow (vec_len p.world.values) xs
    names_below xs e = subst (AreNamesBelow (vec_len p.world.values)) (sym e)
        (all_below (vec_len p.world.values) asked.args.items (each_lower (length g.names) (vec_len p.world.values)
        (let each = st.knows.each in let len = p.world.values.ok.0 in omega arith) asked.args.items text.below))

    pub handle_below : asked.handle < vec_len p.world.values
    handle_below = within st asked.handle text.handle_below

    pub handles_low : vec_len p.world.handles < 2 ^ 32
    handles_low = let few = st.numbers.handles_few in let len = p.world.handles.ok.0 in let low = statements_few step in omega arith

    pub copies_low : vec_len p.draft.kernels < 2 ^ 32
    copies_low = let few = st.numbers.kernels_few in let len = p.draft.kernels.ok.0 in let low = statements_few step in omega arith

    pub kernels_each : vec_len p.draft.copies_of ≡ vec_len script.kernels
    kernels_each = let e = st.kernels.each in let a = p.draft.copies_of.ok.0 in let b = script.kernels.ok.0 in omega arith

    pub guards_each : vec_len p.draft.guards_of ≡ vec_len script.kernels
    guards_each = let e = st.kernels.each_guard in let a = p.draft.guards_of.ok.0 in let b = script.kernels.ok.0 in omega arith

    pub after_below : (xs : List ℕ) → xs ≡ asked.after.items → All (λ n. n < vec_len p.world.values) xs
    after_below xs e = subst (All (λ n. n < vec_len p.world.values)) (sym e) (λ k d lt. within st (get_or asked.after.items k d)
        (text.after_below k d lt))

    pub named_is : (jobs : Jobs) (xs : List ℕ) → xs ≡ asked.after.items → ((j : ℕ) → jobs j ≡ jobs_by p.world.handles.items p.world.values.items xs j)
        → jobs ≡ jobs_named s asked.after.items
    named_is jobs xs e h = λ i j. (h j
        ∙ ap (λ xs. jobs_by p.world.handles.items p.world.values.items xs j) e
        ∙ jobs_are p s (length p.world.containers.items) st.knows.names asked.after.items
        (λ k d lt. (let e = st.knows.each in let low = text.after_below k d lt in omega arith)) j) i

    pub named_up : (jobs : Jobs) → jobs ≡ jobs_named s asked.after.items → AreUpTo (count_of p.world.jobs) jobs
    named_up jobs e = subst (AreUpTo (count_of p.world.jobs)) (sym e) (subst (λ k. AreUpTo k (jobs_named s asked.after.items)) (sym st.knows.jobs.count)
        (named_among s st.knows.known asked.after.items))

    pub before_low : p.world.jobs_before ≤ count_of p.world.jobs
    before_low = rooms.jobs_after b

    pub room : count_of p.world.jobs ≢ MOST_JOBS → vec_len p.draft.jobs < MOST_JOBS
    room = rooms.job_room b

    pub pieces_low : p.draft.pieces ≤ MOST_PIECES * MOST_JOBS
    pieces_low = rooms.few_pieces b

    -- a draft has room for its job
    pub may_be_taken : (run : Run) (answer : JobAnswer) (deps : Jobs) (xs : List Arg) (ws : List ℕ) → count_of p.world.jobs ≢ MOST_JOBS
        → IsPlainRun script p.world asked.kernel xs asked.cut ws run → IsStartOf p.world run deps answer → MayTakeJob script p.draft answer
    may_be_taken run answer deps xs ws free r starts =
        subst (MayTakeJob script p.draft) (sym starts.is) (subst (MayStart script p.draft) (sym starts.runs) (record {
          copy = record {
            here = (let e = r.kernel_is in let lt = kernel_below in omega arith);
            each = kernels_each;
            each_guard = guards_each;
            few = copies_low;
            checked = subst (IsKernelChecked script) (sym r.kernel_is) (step.accepted.kernels asked.kernel);
            guardable = λ h. absurd (not_both h r.plain);
          };
          step = r.cut_by.steps;
          indexes = r.cut_by.pieces;
          jobs = room free;
          pieces = pieces_low;
        }))

    -- ---- the code's slices are the statement's vectors

    pub length_is : (k : Kernel) → slice_get script.kernels.items asked.kernel ≡ Some k → (qs : List Param) (xs : List Arg) → qs ≡ k.params.items
        → xs ≡ asked.args.items → length xs ≡ length qs
    length_is k h qs xs e f = ap length f ∙ text.each ∙ ap (λ (k : Kernel). length k.params.items) (source_at k h) ∙ sym (ap length e)

    pub few_args : (xs : List Arg) → xs ≡ asked.args.items → length xs ≤ 16
    few_args xs f = subst (λ xs. length xs ≤ 16) (sym f) text.few

    pub are_given : (k : Kernel) → slice_get script.kernels.items asked.kernel ≡ Some k
        → (named : Jobs) (qs : List Param) (xs : List Arg) (uses : List NamedUse) → qs ≡ k.params.items → xs ≡ asked.args.items
        → ForNames (IsUse p.world named) qs xs uses → ForNames (IsUse p.world named) text.source.params.items asked.args.items uses
    are_given k h named qs xs uses e f are =
        subst (λ qs. ForNames (IsUse p.world named) qs asked.args.items uses) (e ∙ ap (λ (k : Kernel). k.params.items) (sym (source_at k h)))
        (subst (λ xs. ForNames (IsUse p.world named) qs xs uses) f are)

    -- ---- with its uses

    module _ (uses : List NamedUse) (named : Jobs) (named_are : named ≡ jobs_named s asked.after.items)
        (are : ForNames (IsUse p.world named) text.source.params.items asked.args.items uses) where
      abbrev gs : List Given
      gs = given_args s text.source.params.items asked.args.items

      meant : AreMeant p s named uses gs
      meant = uses_meant st named text.source.params.items asked.args.items uses are

      pub refusal_at : as_refused (refusal_by uses text.source.parallel asked.auto) ≡ refusal g s x.act
      refusal_at =
          refusal_is p s named uses gs meant text.source.parallel asked.auto asked.after.items named_are
          ∙ ap (λ gs. Rattle.frame_ast.specs.Refusals.schedule_refusal s text.source.parallel asked.auto gs asked.after.items) (sym (append-nil gs))
          ∙ ap (λ k. Rattle.frame_ast.specs.Refusals.schedule_refusal s (kernel_parallel k) asked.auto
          (givens s (kernel_params k) asked.args.items None) asked.after.items) (sym text.has)

      module _ (none : refusal g s x.act ≡ None) where
        alive : AreAlive s gs
        alive = started.alive line home asked b text uses named are none

        pub noted_up : AreUpTo (count_of p.world.jobs) (conflicting_with p.world.safety (tags_of uses))
        noted_up = subst (λ k. AreUpTo k (conflicting_with p.world.safety (tags_of uses))) (sym st.knows.jobs.count)
            (needs_up s.book s.uses st.knows.known.uses p.world.safety (tags_of uses) (needs gs) (needs_are st named uses gs meant alive))

        pub deps_is : (deps : Jobs) → AreDeps asked.auto named p.world.jobs p.world.safety (tags_of uses) deps
            → deps ≡ deps_of g s (started.o line home asked b)
        deps_is deps d =
            deps_are st named asked.auto uses gs meant alive deps d
            ∙ ap (λ named. if asked.auto then both named (automatic s.book s.uses named (needs gs)) else named) named_are
            ∙ ap (λ gs. let named = jobs_named s asked.after.items in if asked.auto then both named (automatic s.book s.uses named (needs gs)) else named)
            (sym (started.gives_are line home asked b text uses named are none))

        pub deps_up : (deps : Jobs) → AreDeps asked.auto named p.world.jobs p.world.safety (tags_of uses) deps → AreUpTo (count_of p.world.jobs) deps
        deps_up deps d = subst (AreUpTo (count_of p.world.jobs)) (sym (deps_is deps d))
            (subst (λ k. AreUpTo k (deps_of g s (started.o line home asked b))) (sym st.knows.jobs.count)
            (started.waited_up line home asked b text uses named are none))

        pub may_note : (us : List NamedUse) → us ≡ uses → MayNoteAll us (state_of p.world.safety)
        may_note us e = subst (λ us. MayNoteAll us (state_of p.world.safety)) (sym e)
            (started.may_note_all line home asked b text uses named are none)

        -- where there are all jobs already, the script has one more
        pub fails_so : (fault : PlanFault) → IsFull fault (count_of p.world.jobs) → PassesLimit fault (state_after script table n x)
        fails_so NoMemory full = tt
        fails_so TooManyJobs full =
            let after_is : (state_after script table n x).book.count ≡ suc s.book.count =
            ap (λ (u : ScriptState). u.book.count) (accepted_state g s x step.acts none) in
            let c = st.knows.jobs.count in
            omega arith
        fails_so TooManyWords full = absurd full

        -- its job goes on, where a draft took it
        pub accepted_on : (w : World) (draft : Draft) (run : Run) (answer : JobAnswer) (deps : Jobs) (xs : List Arg) (ws : List ℕ) (us : List NamedUse)
            → xs ≡ asked.args.items → ws ≡ asked.waive.items → us ≡ uses
            → AreDeps asked.auto named p.world.jobs p.world.safety (tags_of uses) deps
            → IsPlainRun script p.world asked.kernel xs asked.cut ws run → IsInBooks p.world w asked.handle us deps → IsStartOf p.world run deps answer
            → HasTakenJob p.draft draft script line answer → HasStepped b (record { world = w; draft = draft })
        accepted_on w draft run answer deps xs ws us e f u d r books starts took =
            let had = subst (λ us. IsInBooks p.world w asked.handle us deps) u books in
            let has = taken.has_job script line p w draft asked.handle run uses deps answer had starts took in
            started.goes_on line home asked b text uses named are none has.copied (record { world = w; draft = draft }) run has.place
            (subst (λ xs. IsPlainRun script p.world asked.kernel xs asked.cut asked.waive.items run) e
            (subst (λ ws. IsPlainRun script p.world asked.kernel xs asked.cut ws run) f r))
            (taken.has_copy script line p w draft asked.handle run uses deps answer had starts took false asked.kernel r.plain r.kernel_is)
            deps (deps_is deps d)
            (taken.is_scheduled script line p w draft asked.handle run uses deps answer had starts took)

      -- why it is refused, as the code asks
      pub refused_by : (k : Kernel) → slice_get script.kernels.items asked.kernel ≡ Some k → (us : List NamedUse) → us ≡ uses → (o : Option Cause)
          → o ≡ refusal_by us k.parallel asked.auto → as_refused o ≡ refusal g s x.act
      refused_by k h us e o is =
          ap as_refused is
          ∙ (λ i. as_refused (refusal_by (e i) (sym (source_at k h) i).parallel asked.auto))
          ∙ refusal_at

      -- and how it goes on then
      pub refused_on : (w : World) (draft : Draft) (answer : JobAnswer) (cause : Cause) (k : Kernel)
          → slice_get script.kernels.items asked.kernel ≡ Some k → (us : List NamedUse) → us ≡ uses → Some cause ≡ refusal_by us k.parallel asked.auto
          → answer ≡ Refused cause.name cause.refusal → HasHandle p.world w asked.handle nobody
          → HasTakenJob p.draft draft script line answer → HasStepped b (record { world = w; draft = draft })
      refused_on w draft answer cause k h us e is says has took =
          let below = refusal_named (length g.names) us k.parallel asked.auto (subst (AreNamed (length g.names)) (sym e)
          (uses_named p named (length g.names) text.source.params.items asked.args.items uses are text.below)) cause (sym is) in
          said_nobody b (refused cause.refusal cause.name) (sym (refused_by k h us e (Some cause) is)) below
          (record p { draft = draft }) w asked.handle refl refl refl (inr (λ c. refl))
          (taken.is_pushed script line p draft answer cause.name cause.refusal says took) has
