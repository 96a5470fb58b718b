-- An accepted schedule with `defer`: its job runs the guarded kernel, and the planner goes on with it.
use Rattle.std.proofs.Common.{◌≡◌, ℕ, ◌<◌, ◌≤◌, false, List, [], ◌∷◌, ◌++◌, length, Some, None, refl, sym, ap, subst, ◌∙◌, arith}
use Rattle.std.specs.Prelude.{Box, if◌then◌else◌}
use Rattle.std.specs.declared.alloc.Global.{Global}
use Rattle.std.proofs.lemmas.Bool.{and_parts}
use Rattle.batch_cut.specs.Cuts.{step_of}
use Rattle.job_base.specs.declared.limits.TheConstants.{MOST_INDEXES}
use Rattle.frame_ast.specs.declared.kernel.Param.{Param}
use Rattle.frame_ast.specs.declared.script.NewJob.{NewJob}
use Rattle.frame_ast.specs.declared.script.Script.{Script}
use Rattle.frame_ast.specs.declared.script.Statement.{Statement}
use Rattle.frame_ast.specs.Checks.{refusal}
use Rattle.frame_ast.specs.Conflicts.{automatic, blocking, with_uses}
use Rattle.frame_ast.specs.Effects.{all_broken}
use Rattle.frame_ast.specs.Fitting.{ArgsFit}
use Rattle.frame_ast.specs.Jobs.{Jobs, both}
use Rattle.frame_ast.specs.Laws.{AreUpTo}
use Rattle.frame_ast.specs.Orders.{Table, Setting, setting, kernel_params, is_parallel}
use Rattle.frame_ast.specs.Refusals.{jobs_named, schedule_refusal}
use Rattle.frame_ast.specs.Schedules.{Given, given_args}
use Rattle.frame_ast.specs.States.{ScriptState, container_at, contents_at}
use Rattle.kernel_exec.specs.declared.binds.Bind.TheVariants.{List as WholeList}
use Rattle.native_list.specs.declared.ListAt.{ListAt}
use Rattle.safety_handle.specs.Entries.{state_of}
use Rattle.frame_core.proofs.Small.{not_both}
use Rattle.plan_laws.specs.Accepting.{Schedule, uses_of, deps_of, accepted, IsAcceptedSchedule, argument_binds, IsPlannedJob}
use Rattle.plan_laws.specs.Binds.{start_at}
use Rattle.plan_laws.specs.Planned.{Outline, IsPlanned}
use Rattle.plan_laws.proofs.Schedules.Accepting.{schedules_are_planned}
use Rattle.defer_laws.specs.Deferring.{capacity_of, length_bind, guarded_kernel, Guards}
use Rattle.defer_laws.specs.GuardedRuns.{word_at}
use Rattle.defer_laws.proofs.Deferring.{guarded_kernels_stand_in}
use Rattle.plan_schedules.specs.declared.accepting.Run.{Run}
use Rattle.plan_state.specs.declared.state.Draft.{Draft}
use Rattle.plan_state.specs.declared.state.Planner.{Planner}
use Rattle.plan_schedules.specs.declared.uses.NamedUse.{NamedUse}
use Rattle.plan_schedules.specs.Deferring.{IsLengthUse, IsListName, IsGuardedRun, noted_uses, with_length, by_list}
use Rattle.plan_state.specs.Growth.{is_none}
use Rattle.plan_state.specs.Works.{batch_for}
use Rattle.plan_schedules.specs.JobBinds.{job_binds}
use Rattle.plan_schedules.specs.Noting.{MayNoteAll}
use Rattle.plan_state.specs.Stands.{Agrees, draft_of}
use Rattle.plan_state.specs.Copies.{IsGuardedAt}
use Rattle.plan_schedules.specs.Starting.{AreDeps}
use Rattle.plan_state.specs.Steps.{state_at, IsBefore, HasStepped}
use Rattle.plan_schedules.specs.Uses.{ForNames, IsUse, tags_of}
use Rattle.plan_state.proofs.CopiesMade.{guarded_moved}
use Rattle.plan_schedules.proofs.Arguments.{args_are}
use Rattle.plan_schedules.proofs.Choosing.{AreAlive}
use Rattle.plan_schedules.proofs.Deferred.Apart as noting
use Rattle.plan_schedules.proofs.Deferred.Apart.{noted_givens}
use Rattle.plan_schedules.proofs.Deferred.Choosing.{needs_same}
use Rattle.plan_schedules.proofs.Deferred.Lists as lists
use Rattle.plan_schedules.proofs.Deferred.Lists.{IsList}
use Rattle.plan_schedules.proofs.Deferred.Meaning.{plain, length_value, length_meant, meant_more}
use Rattle.plan_schedules.proofs.Deferred.Texts as text
use Rattle.plan_schedules.proofs.Deferred.Texts.{IsDeferredText}
use Rattle.plan_schedules.proofs.Deferred.GuardPlaces as places
use Rattle.plan_schedules.proofs.JobStarted as started
use Rattle.plan_schedules.proofs.JobStarted.{HasPlace}
use Rattle.plan_schedules.proofs.Deferred.ListCapacities.{capacities_are_small}
use Rattle.plan_schedules.proofs.Meaning.{AreMeant, IsMeant, uses_meant}
use Rattle.plan_schedules.proofs.Needs as waiting
use Rattle.plan_schedules.proofs.Notes.{needs}
use Rattle.plan_schedules.proofs.Grown.{none_waived}
use Rattle.plan_schedules.proofs.Taken.{IsScheduled, placed}
use Rattle.plan_schedules.proofs.Texts.{each_lower}

module _ (line : ℕ) (home : Box NewJob Global) (asked : NewJob) (list batch : ℕ)
    {script : Script} {table : Table} {p : Planner} (b : IsBefore script table p (text.x line home asked list batch)) where
  open b use {begun, n, found, step, stands as st}

  abbrev g : Setting
  g = setting script table

  abbrev s : ScriptState
  s = state_at script table n

  abbrev x : Statement
  x = text.x line home asked list batch

  abbrev here : NewJob
  here = by_list asked None (list, batch)

  abbrev pub o : Schedule
  o = started.o line home here b

  abbrev t : ScriptState
  t = accepted g s o

  abbrev waited : Jobs
  waited = deps_of g s o

  module _ (is_text : IsDeferredText line home asked list batch step)
      (uses : List NamedUse) (length_use : NamedUse) (named : Jobs) (named_is : named ≡ jobs_named s asked.after.items)
      (are : ForNames (IsUse p.world named) is_text.source.params.items asked.args.items uses) (is : IsLengthUse p.world named list length_use)
      (none : refusal g s x.act ≡ None) where
    accepted_as : IsAcceptedSchedule g s o
    accepted_as = started.accepted_as line home here b none

    abbrev ps : List Param
    ps = is_text.source.params.items

    abbrev gs : List Given
    gs = given_args s ps asked.args.items

    abbrev l : Given
    l = length_value s list

    gives_are : uses_of g s o ≡ gs ++ l ∷ []
    gives_are = ap (λ k. given_args s (kernel_params k) asked.args.items ++ l ∷ []) is_text.has

    unrefused : schedule_refusal s (is_parallel g asked.kernel) asked.auto (gs ++ l ∷ []) asked.after.items ≡ None
    unrefused = subst (λ gs. schedule_refusal s (is_parallel g asked.kernel) asked.auto gs asked.after.items ≡ None) gives_are none

    -- ---- the uses that are noted

    meant_args : AreMeant p s named uses gs
    meant_args = uses_meant st named ps asked.args.items uses are

    meant_length : IsMeant p s named length_use (plain l)
    meant_length = length_meant st named list length_use is

    abbrev all_noted : List NamedUse
    all_noted = noted_uses uses length_use

    abbrev ng : List Given
    ng = noted_givens gs l

    noted : started.IsNoted line home here b named all_noted ng
    noted = record {
      meant = noting.noted_meant p s named uses ps asked.args.items meant_args length_use list batch meant_length
          (is_parallel g asked.kernel) asked.auto asked.after.items unrefused;
      alive = noting.noted_alive p s named uses ps asked.args.items meant_args length_use list batch meant_length
          (is_parallel g asked.kernel) asked.auto asked.after.items unrefused;
      apart = noting.noted_apart p s named uses ps asked.args.items meant_args length_use list batch meant_length
          (is_parallel g asked.kernel) asked.auto asked.after.items unrefused;
      uses = λ job. noting.noted_with_uses gs l refl s.uses job ∙ ap (λ hs. with_uses s.uses job (needs hs)) (sym gives_are);
      open_ = λ j h. noting.noted_open gs l refl s.book s.uses waited j
          (subst (λ gs. blocking s.book s.uses waited (needs gs) j ≡ false) gives_are h);
      broken = λ u. noting.noted_broken gs l refl u ∙ ap (λ hs. all_broken hs u) (sym gives_are);
    }

    pub may_note_all : MayNoteAll all_noted (state_of p.world.safety)
    may_note_all = started.may_note_all line home here b none named all_noted ng noted

    -- ---- what it waits for

    pub waited_up : AreUpTo s.book.count waited
    waited_up = started.waited_up line home here b none

    abbrev all : List Given
    all = gs ++ plain l ∷ []

    pub meant_all : AreMeant p s named (with_length uses length_use) all
    meant_all = meant_more p s named uses gs length_use (plain l) meant_args meant_length

    pub alive_all : AreAlive s all
    alive_all = noting.all_alive_here p s named uses ps asked.args.items meant_args length_use list batch meant_length
        (is_parallel g asked.kernel) asked.auto asked.after.items unrefused

    pub waits_are : (deps : Jobs) → AreDeps asked.auto named p.world.jobs p.world.safety (tags_of (with_length uses length_use)) deps → deps ≡ waited
    waits_are deps d =
        waiting.deps_are st named asked.auto (with_length uses length_use) all meant_all alive_all deps d
        ∙ ap (λ ns. if asked.auto then both named (automatic s.book s.uses named ns) else named) (needs_same gs l ∙ ap needs (sym gives_are))
        ∙ ap (λ named. if asked.auto then both named (automatic s.book s.uses named (needs (uses_of g s o))) else named) named_is

    -- ---- the list

    below_list : list < length p.world.values.items
    below_list = let lt = is_text.list_below in let e = st.knows.each in omega arith

    pub the_list : IsList st list
    the_list = lists.is_list st list below_list accepted_as.list_fits.value

    pub list_few : capacity_of (contents_at s list) ≤ MOST_INDEXES
    list_few = let h = capacities_are_small script step.accepted table n (container_at s list) accepted_as.list_fits.made in omega arith

    pub list_named : IsListName p.world list
    list_named = lists.list_name st list the_list list_few

    -- ---- the planner afterwards

    module _ (mid : Draft) (new : Planner) (given : Run) (at : ℕ)
        (r : IsGuardedRun script p.world asked.kernel asked.args.items asked.waive.items list batch given)
        (guarded : IsGuardedAt script p.draft mid asked.kernel at)
        (deps : Jobs) (deps_are : deps ≡ waited) (d : IsScheduled (record p { draft = mid }) new asked.handle (placed given at) all_noted deps) where
      -- what the job runs, by the copy of its kernel
      abbrev run : Run
      run = placed given at

      copy : places.HasGuard script g refl p mid asked.kernel at st.kernels guarded r.source r.is_source
      copy = places.has_guard script g refl p mid asked.kernel at st.kernels guarded r.source r.is_source

      place : HasPlace p g p.draft.copies_of mid.guards_of mid.kernels mid.codes run.kernel copy.copy
      place = record {
        here = copy.here;
        few = places.copies_few script g refl p mid asked.kernel at st.kernels guarded r.source r.is_source;
        later = places.kernels_later script g refl p mid asked.kernel at st.kernels guarded r.source r.is_source;
        stand = λ q kernels guards copies codes.
            places.kernels_stand script g refl p mid asked.kernel at st.kernels guarded r.source r.is_source q guards copies codes kernels;
      }

      done : IsScheduled (record p {
        draft = record p.draft { kernels = mid.kernels; codes = mid.codes; copies_of = p.draft.copies_of; guards_of = mid.guards_of };
      })
          new asked.handle run all_noted deps
      done = subst (λ m. IsScheduled (record p { draft = m }) new asked.handle run all_noted deps)
          (guarded_moved script p.draft mid asked.kernel at guarded) d

      same_at : r.at ≡ the_list.at
      same_at = whole (sym r.list_at ∙ the_list.is)
        where
          whole : {a b : ListAt} → WholeList a ≡ WholeList b → a ≡ b
          whole e = cc

      -- by any starts that agree with those found
      binds_are : (y : Outline) → Agrees p g begun found y → run.binds.items ≡ argument_binds y.starts s o r.source ++ length_bind y.starts s list ∷ []
      binds_are y a = r.binds ∙ (λ i. args_now i ++ word_at (start_now i) ∷ [])
        where
          args_now : job_binds p.world r.source.parallel asked.waive.items 0 r.source.params.items asked.args.items ≡ argument_binds y.starts s o r.source
          args_now = args_are st y a (Some (list, batch)) r.source.parallel asked.waive.items 0 r.source.params.items asked.args.items
              (each_lower (length g.names) (length p.world.values.items) (let e = st.knows.each in omega arith) asked.args.items is_text.below)
              (subst (λ k. ArgsFit s (Some (list, batch)) (kernel_params k) asked.args.items) r.is_source accepted_as.args_fit)

          start_now : r.at.start ≡ start_at y.starts s list
          start_now = ap (λ (w : ListAt). w.start) same_at ∙ the_list.start ∙ sym (a.starts (s.range (container_at s list)) the_list.range)

      indexes_are : run.cut.n ≡ capacity_of (contents_at s list)
      indexes_are = r.cut_by.indexes ∙ ap (λ (w : ListAt). w.cap) same_at ∙ the_list.cap

      is_run : started.IsRunOf line home here b run copy.copy
      is_run = record {
        source = r.source;
        is_source = r.is_source;
        copied = copy.guards.guarded;
        binds = binds_are;
        indexes = indexes_are;
        step = r.cut_by.step ∙ ap (λ cap. step_of cap (batch_for p.world.works.items asked.kernel cap batch))
            (ap (λ (w : ListAt). w.cap) same_at ∙ the_list.cap);
        parallel = r.parallel;
      }

      abbrev q : Planner
      q = started.as_q line home here b none named all_noted ng noted p.draft.copies_of mid.guards_of mid.kernels
          mid.codes copy.copy run place new deps deps_are done

      back : (y : Outline) → Agrees q g begun found y → Agrees p g begun found y
      back = started.agrees line home here b none named all_noted ng noted p.draft.copies_of mid.guards_of mid.kernels
          mid.codes copy.copy run place new deps deps_are done

      planned_job : (y : Outline) → Agrees q g begun found y → IsPlannedJob y (draft_of p) o (guarded_kernel y.starts s o list r.source copy.copy) waited
          done.job
      planned_job y a = started.job_as line home here b none named all_noted ng noted p.draft.copies_of mid.guards_of
          mid.kernels mid.codes copy.copy run place new deps deps_are done y a (Some (r.at.cap, batch)) r.cut_by
          (argument_binds y.starts s o r.source ++ length_bind y.starts s list ∷ []) (capacity_of (contents_at s list)) copy.guards.checked
          (binds_are y (back y a)) indexes_are
          (λ h. absurd (not_both copy.guards.guarded.parallel h))
          (λ h. (
            copy.guards.guarded.parallel,
            none_waived asked.waive.items (and_parts r.source.parallel (is_none asked.waive.items) (sym r.parallel ∙ h)).1,
          ))

      guards : Guards r.source copy.copy
      guards = record {
        checked = step.accepted.kernels asked.kernel r.source r.is_source;
        guarded = copy.guards.guarded;
        words = copy.guards.words;
      }

      plans : (y : Outline) → Agrees q g begun found y → IsPlanned y t (draft_of q)
      plans y a = schedules_are_planned y g s o r.source (guarded_kernel y.starts s o list r.source copy.copy) (draft_of p) (draft_of q)
          done.started.segment done.job a.small st.knows.known (st.planned y (back y a)) accepted_as r.is_source (planned_job y a)
          (guarded_kernels_stand_in y g s o (list, batch) r.source copy.copy (draft_of p) done.job a.small (st.planned y (back y a)) accepted_as refl
          r.is_source guards (planned_job y a))
          (started.starts_next line home here b none named all_noted ng noted p.draft.copies_of mid.guards_of mid.kernels
          mid.codes copy.copy run place new deps deps_are done)
          (started.closes line home here b none named all_noted ng noted p.draft.copies_of mid.guards_of mid.kernels
          mid.codes copy.copy run place new deps deps_are done)

      pub goes_on : HasStepped b new
      goes_on = started.goes_on line home here b none named all_noted ng noted p.draft.copies_of mid.guards_of mid.kernels
          mid.codes copy.copy run place new deps deps_are done is_run plans
