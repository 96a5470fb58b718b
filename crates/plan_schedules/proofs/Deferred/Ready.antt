-- What a schedule with `defer` is ready for, and that it goes on, refused or not.
use Rattle.std.proofs.Common.{◌≡◌, ◌≢◌, ℕ, suc, ◌^◌, ◌<◌, ◌≤◌, inr, Bool, true, List, [], ◌∷◌, ◌++◌, length, get_or, All, Some, None, refl, sym, ap, subst, ◌∙◌, arith}
use Rattle.std.specs.Prelude.{Box, slice_get, vec_len}
use Rattle.std.specs.declared.alloc.Global.{Global}
use Rattle.job_base.specs.declared.limits.TheConstants.{MOST_INDEXES, MOST_JOBS}
use Rattle.frame_ast.specs.declared.kernel.Kernel.{Kernel}
use Rattle.frame_ast.specs.declared.kernel.Param.{Param}
use Rattle.frame_ast.specs.declared.script.Arg.{Arg}
use Rattle.frame_ast.specs.declared.script.Script.{Script}
use Rattle.frame_ast.specs.declared.script.Statement.{Statement}
use Rattle.frame_ast.specs.Checks.{refusal}
use Rattle.frame_ast.specs.Jobs.{Jobs, nobody}
use Rattle.frame_ast.specs.Laws.{AreUpTo}
use Rattle.frame_ast.specs.Orders.{Table, Setting, setting, kernel_parallel, is_parallel}
use Rattle.frame_ast.specs.Refusals.{Refused as Refusing, jobs_named, schedule_refusal}
use Rattle.frame_ast.specs.Schedules.{given_args}
use Rattle.frame_ast.specs.States.{ScriptState}
use Rattle.frame_ast.proofs.Known.{named_among}
use Rattle.job_handle.specs.declared.handle.Handle.{Handle}
use Rattle.job_handle.specs.Books.{count_of}
use Rattle.job_handle.specs.Sets.{jobs_of}
use Rattle.safety_handle.specs.Entries.{state_of}
use Rattle.auto_deps.specs.Needs.{conflicting_with}
use Rattle.frame_core.proofs.Small.{some_is, get_below}
use Rattle.plan_schedules.specs.declared.causes.Cause.{Cause}
use Rattle.plan_state.specs.declared.state.PlanFault.{PlanFault}
use Rattle.plan_state.specs.declared.state.PlanFault.TheVariants.{Jobs as TooManyJobs, Words, NoMemory}
use Rattle.plan_state.specs.declared.start.JobAnswer.{JobAnswer}
use Rattle.plan_state.specs.declared.start.JobAnswer.TheVariants.{Refused}
use Rattle.plan_state.specs.declared.state.Draft.{Draft}
use Rattle.plan_state.specs.declared.state.Planner.{Planner}
use Rattle.plan_state.specs.declared.state.World.{World}
use Rattle.plan_schedules.specs.declared.uses.NamedUse.{NamedUse}
use Rattle.plan_state.specs.Accesses.{HasHandle, jobs_by}
use Rattle.plan_schedules.specs.Causes.{as_refused}
use Rattle.plan_schedules.specs.Deferring.{IsLengthUse, IsGuardedRun, deferred_refusal, noted_uses, with_length}
use Rattle.plan_schedules.specs.Noting.{MayNoteAll}
use Rattle.plan_schedules.specs.Starting.{AreDeps, IsFull, IsInBooks, IsStartOf}
use Rattle.plan_schedules.specs.declared.accepting.Run.{Run}
use Rattle.plan_state.specs.Copies.{IsKernelChecked, IsKernelGuardable, MayBeGuarded}
use Rattle.plan_state.specs.Starts.{HasTakenJob, MayStart, MayTakeJob}
use Rattle.plan_state.specs.Steps.{state_at, state_after, IsBefore, HasStepped, PassesLimit}
use Rattle.plan_schedules.specs.Uses.{ForNames, IsUse, IsNameBelow, tags_of}
use Rattle.plan_schedules.proofs.Meaning as meaning
use Rattle.plan_schedules.proofs.Deferred.Meaning as lengths
use Rattle.plan_schedules.proofs.Deferred.Choosing.{deferred_refusal_is}
use Rattle.plan_schedules.proofs.Deferred.Meaning.{length_value}
use Rattle.plan_schedules.proofs.Needs as waiting
use Rattle.plan_schedules.proofs.CauseNames.{uses_named, deferred_named}
use Rattle.plan_schedules.proofs.Rooms as rooms
use Rattle.plan_schedules.proofs.Scheduled.{accepted_is}
use Rattle.plan_schedules.proofs.Taken as taken
use Rattle.plan_schedules.proofs.Deferred.Started as started
use Rattle.plan_schedules.proofs.Deferred.Texts as text
use Rattle.plan_schedules.proofs.Deferred.Texts.{IsDeferredText, deferred_text}
use Rattle.plan_state.proofs.Naming.{jobs_are}
use Rattle.plan_state.proofs.Reaching.{statements_few}
use Rattle.plan_state.proofs.Restating.{accepted_state, said_nobody}
use Rattle.plan_schedules.proofs.Texts.{all_below, each_lower}
use Rattle.frame_ast.specs.declared.script.NewJob.{NewJob}

module _ (line : ℕ) (home : Box NewJob Global) (asked : NewJob) (list batch : ℕ) where
  abbrev pub x : Statement
  x = text.x line home asked list batch

  module _ {script : Script} {table : Table} {p : Planner} (b : IsBefore script table p x) where
    open b use {n, step, stands as st}

    abbrev g : Setting
    g = setting script table

    abbrev s : ScriptState
    s = state_at script table n

    abbrev the_text : IsDeferredText line home asked list batch step
    the_text = deferred_text line home asked list batch step

    values_long : vec_len p.world.values ≡ length g.names
    values_long = let len = p.world.values.ok.0 in let e = st.knows.each in omega arith

    pub handle_below : asked.handle < vec_len p.world.values
    handle_below = let lt = the_text.handle_below in let e = values_long in omega arith

    pub list_below : list < vec_len p.world.values
    list_below = let lt = the_text.list_below in let e = values_long in omega arith

    pub kernel_below : asked.kernel < vec_len script.kernels
    kernel_below = let lt = get_below script.kernels.items asked.kernel the_text.source the_text.has in let len = script.kernels.ok.0 in omega arith

    pub after_below : (names : List ℕ) → names ≡ asked.after.items → (k d : ℕ) → k < length names → get_or names k d < vec_len p.world.values
    after_below names e = subst (λ ns. (k d : ℕ) → k < length ns → get_or ns k d < vec_len p.world.values) (sym e)
        (λ k d lt. let low = the_text.after_below k d lt in let e = values_long in omega arith)

    pub each_arg : (given : List Arg) (params : List Param) (source : Kernel) → given ≡ asked.args.items → params ≡ source.params.items
        → slice_get script.kernels.items asked.kernel ≡ Some source → length given ≡ length params
    each_arg given params source e f at =
        ap length e ∙ the_text.each ∙ ap (λ (k : Kernel). length k.params.items) (some_is (sym the_text.has ∙ at)) ∙ sym (ap length f)

    pub few_args : (given : List Arg) → given ≡ asked.args.items → length given ≤ 16
    few_args given e = let few = the_text.few in let l = ap length e in omega arith

    pub args_below : (given : List Arg) → given ≡ asked.args.items → All (IsNameBelow (vec_len p.world.values)) given
    args_below given e = subst (All (IsNameBelow (vec_len p.world.values))) (sym e)
        (all_below (vec_len p.world.values) asked.args.items (each_lower (length g.names) (vec_len p.world.values)
        (let e = values_long in omega arith) asked.args.items the_text.below))

    pub handles_few : vec_len p.world.handles < 2 ^ 32
    handles_few = let few = st.numbers.handles_few in let lt = statements_few step in let len = p.world.handles.ok.0 in omega arith

    pub copies_few : vec_len p.draft.kernels < 2 ^ 32
    copies_few = let few = st.numbers.kernels_few in let lt = statements_few step in let len = p.draft.kernels.ok.0 in omega arith

    pub guardable : (source : Kernel) → slice_get script.kernels.items asked.kernel ≡ Some source → MayBeGuarded source
    guardable source at = subst MayBeGuarded (some_is (sym the_text.has ∙ at)) the_text.guardable

    -- a draft has room for its job
    pub may_be_taken : (run : Run) (answer : JobAnswer) (deps : Jobs) (args : List Arg) (waived : List ℕ) → count_of p.world.jobs ≢ MOST_JOBS
        → IsGuardedRun script p.world asked.kernel args waived list batch run → IsStartOf p.world run deps answer → MayTakeJob script p.draft answer
    may_be_taken run answer deps args waived free r starts =
        subst (MayTakeJob script p.draft) (sym starts.is) (subst (MayStart script p.draft) (sym starts.runs) (record {
          copy = record {
            here = (let e = r.kernel_is in let lt = kernel_below in omega arith);
            each = (let e = st.kernels.each in let a = p.draft.copies_of.ok.0 in let b = script.kernels.ok.0 in omega arith);
            each_guard = (let e = st.kernels.each_guard in let a = p.draft.guards_of.ok.0 in let b = script.kernels.ok.0 in omega arith);
            few = copies_few;
            checked = subst (IsKernelChecked script) (sym r.kernel_is) (step.accepted.kernels asked.kernel);
            guardable = λ h. subst (IsKernelGuardable script) (sym r.kernel_is) guardable;
          };
          step = r.cut_by.steps;
          indexes = r.cut_by.pieces;
          jobs = rooms.job_room b free;
          pieces = rooms.few_pieces b;
        }))

    pub batch_fit : (1 ≤ batch) × (batch ≤ MOST_INDEXES)
    batch_fit = the_text.batch_fit

    count_is : count_of p.world.jobs ≡ s.book.count
    count_is = st.knows.jobs.count

    -- ---- the named jobs

    module _ (named : Handle) (names : List ℕ) (names_are : names ≡ asked.after.items)
        (are : (j : ℕ) → jobs_of named j ≡ jobs_by p.world.handles.items p.world.values.items names j) where
      pub named_is : jobs_of named ≡ jobs_named s asked.after.items
      named_is = λ i j.
          (are j
          ∙ jobs_are p s (length p.world.containers.items) st.knows.names names
          (λ k d lt. let low = after_below names names_are k d lt in let len = p.world.values.ok.0 in
          omega arith) j
          ∙ ap (λ ns. jobs_named s ns j) names_are) i

      pub named_up : AreUpTo (count_of p.world.jobs) (jobs_of named)
      named_up j h =
          let up = named_among s st.knows.known asked.after.items j (sym (ap (λ f. f j) named_is) ∙ h) in
          let e = count_is in (up.0, omega arith)

      -- ---- the uses

      module _ (source : Kernel) (at : slice_get script.kernels.items asked.kernel ≡ Some source) (params : List Param)
          (params_are : params ≡ source.params.items) (given : List Arg) (given_is : given ≡ asked.args.items)
          (uses : List NamedUse) (are_uses : ForNames (IsUse p.world (jobs_of named)) params given uses) (length_use : NamedUse)
          (is_length : IsLengthUse p.world (jobs_of named) list length_use) where
        in_text : ForNames (IsUse p.world (jobs_of named)) the_text.source.params.items asked.args.items uses
        in_text =
            subst (λ qs. ForNames (IsUse p.world (jobs_of named)) qs asked.args.items uses)
            (params_are ∙ ap (λ (k : Kernel). k.params.items) (some_is (sym at ∙ the_text.has)))
            (subst (λ as_. ForNames (IsUse p.world (jobs_of named)) params as_ uses) given_is are_uses)

        module _ (parallel : Bool) (parallel_is : parallel ≡ source.parallel) where
          pub refusal_as : as_refused (deferred_refusal uses length_use parallel asked.auto) ≡ refusal g s x.act
          refusal_as =
              deferred_refusal_is p s (jobs_of named) uses (given_args s the_text.source.params.items asked.args.items)
              (meaning.uses_meant st (jobs_of named) the_text.source.params.items asked.args.items uses in_text)
              length_use list (lengths.length_meant st (jobs_of named) list length_use is_length) parallel asked.auto asked.after.items named_is
              ∙ (λ i. schedule_refusal s (same_parallel i) asked.auto (same_givens i) asked.after.items)
            where
              same_parallel : parallel ≡ is_parallel g asked.kernel
              same_parallel = parallel_is ∙ ap kernel_parallel (sym at)

              same_givens : given_args s the_text.source.params.items asked.args.items ++ length_value s list
                  ∷ [] ≡ Rattle.frame_ast.specs.Schedules.givens s (Rattle.frame_ast.specs.Orders.params_of g asked.kernel) asked.args.items
                  (Some (list, batch))
              same_givens = sym (ap (λ k. given_args s (Rattle.frame_ast.specs.Orders.kernel_params k) asked.args.items ++ length_value s list
                  ∷ []) the_text.has)

          -- refused
          pub refused_on : (cause : Cause) → Some cause ≡ deferred_refusal uses length_use parallel asked.auto
              → (w : World) (draft : Draft) (answer : JobAnswer) → answer ≡ Refused cause.name cause.refusal → HasHandle p.world w asked.handle nobody
              → HasTakenJob p.draft draft script line answer → HasStepped b (record { world = w; draft = draft })
          refused_on cause e w draft answer says has took =
              let r : Refusing = record { cause = cause.refusal; name = cause.name } in
              let is : refusal g s x.act ≡ Some r = sym refusal_as ∙ ap as_refused (sym e) in
              let below = deferred_named (length g.names) uses length_use parallel asked.auto
              (uses_named p (jobs_of named) (length g.names) the_text.source.params.items asked.args.items uses in_text the_text.below)
              (subst (λ k. k < length g.names) (sym is_length.named) the_text.list_below) cause (sym e) in
              said_nobody b r is below (record p { draft = draft }) w asked.handle refl refl refl (inr (λ c. refl))
              (taken.is_pushed script line p draft answer cause.name cause.refusal says took) has

          -- accepted
          module _ (open_ : None ≡ deferred_refusal uses length_use parallel asked.auto) where
            none : refusal g s x.act ≡ None
            none = sym refusal_as ∙ ap as_refused (sym open_)

            pub may_note_all : MayNoteAll (noted_uses uses length_use) (state_of p.world.safety)
            may_note_all = started.may_note_all line home asked list batch b the_text uses length_use
                (jobs_of named) named_is in_text is_length none

            pub list_named : Rattle.plan_schedules.specs.Deferring.IsListName p.world list
            list_named = started.list_named line home asked list batch b the_text uses length_use
                (jobs_of named) named_is in_text is_length none

            pub conflicts_up : AreUpTo (count_of p.world.jobs) (conflicting_with p.world.safety (tags_of (with_length uses length_use)))
            conflicts_up j h =
                let needs = waiting.needs_are st (jobs_of named) (with_length uses length_use) _
                (started.meant_all line home asked list batch b the_text uses length_use (jobs_of named) named_is in_text is_length none)
                (started.alive_all line home asked list batch b the_text uses length_use (jobs_of named) named_is in_text is_length none) in
                let up = waiting.needs_up s.book s.uses st.knows.known.uses p.world.safety (tags_of (with_length uses length_use)) _ needs j h in
                let e = count_is in (up.0, omega arith)

            module _ (deps : Jobs) (are_deps : AreDeps asked.auto (jobs_of named) p.world.jobs p.world.safety
                (tags_of (with_length uses length_use)) deps) where
              waits : deps ≡ Rattle.plan_laws.specs.Accepting.deps_of g s (started.o line home asked list batch b)
              waits = started.waits_are line home asked list batch b the_text uses length_use
                  (jobs_of named) named_is in_text is_length none deps are_deps

              pub deps_up : AreUpTo (count_of p.world.jobs) deps
              deps_up j h =
                  let up = started.waited_up line home asked list batch b the_text uses length_use
                  (jobs_of named) named_is in_text is_length none j (sym (ap (λ f. f j) waits) ∙ h) in
                  let e = count_is in (up.0, omega arith)

              pub accepted_on : (w : World) (draft : Draft) (run : Run) (answer : JobAnswer) (args : List Arg) (waived : List ℕ) (us : List NamedUse)
                  → args ≡ asked.args.items → waived ≡ asked.waive.items → us ≡ noted_uses uses length_use
                  → IsGuardedRun script p.world asked.kernel args waived list batch run → IsInBooks p.world w asked.handle us deps
                  → IsStartOf p.world run deps answer
                  → HasTakenJob p.draft draft script line answer → HasStepped b (record { world = w; draft = draft })
              accepted_on w draft run answer args waived us e f u r books starts took =
                  let noted = noted_uses uses length_use in
                  let had = subst (λ us. IsInBooks p.world w asked.handle us deps) u books in
                  let has = taken.has_job script line p w draft asked.handle run noted deps answer had starts took in
                  started.goes_on line home asked list batch b the_text uses length_use
                  (jobs_of named) named_is in_text is_length none has.copied (record { world = w; draft = draft }) run has.place
                  (subst (λ as_. IsGuardedRun script p.world asked.kernel as_ asked.waive.items list batch run) e
                  (subst (λ ws. IsGuardedRun script p.world asked.kernel args ws list batch run) f r))
                  (taken.has_copy script line p w draft asked.handle run noted deps answer had starts took true asked.kernel r.guarded r.kernel_is)
                  deps waits
                  (taken.is_scheduled script line p w draft asked.handle run noted deps answer had starts took)

            -- there are all jobs already
            pub fails : (fault : PlanFault) → IsFull fault (count_of p.world.jobs) → PassesLimit fault (state_after script table n x)
            fails NoMemory h = tt
            fails TooManyJobs h =
                let e = count_is in
                let is = accepted_state g s x step.acts none in
                let books : (state_after script table n x).book.count ≡ suc s.book.count =
                ap (λ (u : ScriptState). u.book.count) (is ∙ accepted_is g s (started.o line home asked list batch b)) in
                omega arith
            fails Words h = absurd h
