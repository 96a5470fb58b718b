-- An accepted schedule without `defer`: its job runs a copy of its kernel, and the planner goes on with it.
use Rattle.std.proofs.Common.{◌≡◌, ℕ, ◌<◌, false, ◌&&◌, List, [], ◌++◌, length, None, Some, refl, sym, ap, subst, ◌∙◌, arith, append-nil}
use Rattle.std.specs.Prelude.{Box, slice_get}
use Rattle.std.specs.declared.alloc.Global.{Global}
use Rattle.std.proofs.lemmas.Bool.{and_parts}
use Rattle.batch_cut.specs.Cuts.{step_of}
use Rattle.frame_ast.specs.declared.kernel.Kernel.{Kernel}
use Rattle.frame_ast.specs.declared.kernel.Param.{Param}
use Rattle.frame_ast.specs.declared.script.NewJob.{NewJob}
use Rattle.frame_ast.specs.declared.script.Script.{Script}
use Rattle.frame_ast.specs.declared.script.Statement.{Statement}
use Rattle.frame_ast.specs.Checks.{refusal}
use Rattle.frame_ast.specs.Conflicts.{blocking, with_uses}
use Rattle.frame_ast.specs.Effects.{all_broken}
use Rattle.frame_ast.specs.Fitting.{ArgsFit}
use Rattle.frame_ast.specs.JobRuns.{executes}
use Rattle.frame_ast.specs.Jobs.{Jobs}
use Rattle.frame_ast.specs.Laws.{AreUpTo}
use Rattle.frame_ast.specs.Orders.{Table, Setting, setting, kernel_params, params_of, is_parallel, job_length}
use Rattle.frame_ast.specs.Schedules.{Given, given_args, givens, first_alias, widths_from}
use Rattle.frame_ast.specs.States.{ScriptState}
use Rattle.frame_ast.proofs.Scheduled.{no_cause_given}
use Rattle.frame_ast.proofs.Unshared.{written_arguments_are_unshared}
use Rattle.safety_handle.specs.Entries.{state_of}
use Rattle.frame_core.proofs.Small.{some_is, get_below}
use Rattle.plan_laws.specs.Accepting.{Schedule, accepted, deps_of, IsAcceptedSchedule, argument_binds, indexes_of, plain_kernel, IsPlannedJob}
use Rattle.plan_laws.specs.Binds.{binds_by}
use Rattle.plan_laws.specs.Planned.{Outline, IsPlanned}
use Rattle.plan_laws.proofs.Schedules.Accepting.{schedules_are_planned}
use Rattle.plan_laws.proofs.Schedules.PlainKernels.{plain_kernels_stand_in}
use Rattle.tree_laws.proofs.Checks.{same_kernels_are_checked}
use Rattle.plan_schedules.specs.declared.accepting.Run.{Run}
use Rattle.plan_state.specs.declared.state.Draft.{Draft}
use Rattle.plan_state.specs.declared.state.Planner.{Planner}
use Rattle.plan_schedules.specs.declared.uses.NamedUse.{NamedUse}
use Rattle.plan_state.specs.Growth.{is_none}
use Rattle.plan_state.specs.Works.{batch_for}
use Rattle.plan_schedules.specs.JobBinds.{job_binds}
use Rattle.plan_schedules.specs.Noting.{MayNoteAll}
use Rattle.plan_state.specs.Stands.{Agrees, draft_of}
use Rattle.plan_state.specs.Copies.{IsCopied}
use Rattle.plan_schedules.specs.Starting.{IsPlainRun, numbers_by, undeferred}
use Rattle.plan_state.specs.Steps.{state_at, IsBefore, HasStepped}
use Rattle.plan_schedules.specs.Uses.{ForNames, IsUse}
use Rattle.plan_state.proofs.CopiesMade.{plain_moved}
use Rattle.plan_schedules.proofs.Arguments.{args_are, same_args_fit, same_job_binds}
use Rattle.plan_schedules.proofs.Choosing.{AreAlive, all_alive}
use Rattle.plan_schedules.proofs.CopyPlaces as places
use Rattle.plan_schedules.proofs.Copying as copying
use Rattle.plan_schedules.proofs.JobStarted as started
use Rattle.plan_schedules.proofs.JobStarted.{HasPlace}
use Rattle.plan_schedules.proofs.Meaning.{uses_meant}
use Rattle.plan_schedules.proofs.Notes.{needs, AreApart, args_apart}
use Rattle.plan_schedules.proofs.Grown.{none_waived}
use Rattle.plan_schedules.proofs.Batches.{batch_of_one}
use Rattle.plan_schedules.proofs.Scheduled.{numbers_are, indexes_are, no_cut}
use Rattle.plan_schedules.proofs.Taken.{IsScheduled, placed}
use Rattle.plan_schedules.proofs.Texts as texts
use Rattle.plan_schedules.proofs.Texts.{IsText, EachBelow, each_lower}

module _ (line : ℕ) (home : Box NewJob Global) (asked : NewJob)
    {script : Script} {table : Table} {p : Planner} (b : IsBefore script table p (texts.x line home asked)) where
  open b use {begun, n, found, step, stands as st}

  abbrev g : Setting
  g = setting script table

  abbrev s : ScriptState
  s = state_at script table n

  abbrev x : Statement
  x = texts.x line home asked

  abbrev pub o : Schedule
  o = started.o line home (undeferred asked) b

  abbrev t : ScriptState
  t = accepted g s o

  abbrev waited : Jobs
  waited = deps_of g s o

  module _ (text : IsText line home asked step)
      (uses : List NamedUse) (named : Jobs) (are : ForNames (IsUse p.world named) text.source.params.items asked.args.items uses)
      (none : refusal g s x.act ≡ None) where
    accepted_as : IsAcceptedSchedule g s o
    accepted_as = started.accepted_as line home (undeferred asked) b none

    abbrev ps : List Param
    ps = text.source.params.items

    abbrev gs : List Given
    gs = given_args s ps asked.args.items

    pub gives_are : givens s (params_of g asked.kernel) asked.args.items None ≡ gs
    gives_are = ap (λ k. given_args s (kernel_params k) asked.args.items ++ []) text.has ∙ append-nil gs

    pub alive : AreAlive s gs
    alive = subst (AreAlive s) gives_are (all_alive s _ (no_cause_given s (is_parallel g asked.kernel) asked.auto
        (givens s (params_of g asked.kernel) asked.args.items None) asked.after.items none).alive)

    apart : AreApart gs
    apart = args_apart s ps asked.args.items (written_arguments_are_unshared s ps asked.args.items None
        (subst (λ gs. first_alias [] gs ≡ None) (ap (λ k. given_args s (kernel_params k) asked.args.items ++ []) text.has)
        (no_cause_given s (is_parallel g asked.kernel) asked.auto (givens s (params_of g asked.kernel) asked.args.items None) asked.after.items none).alias))

    noted : started.IsNoted line home (undeferred asked) b named uses gs
    noted = record {
      meant = uses_meant st named ps asked.args.items uses are;
      alive = alive;
      apart = apart;
      uses = λ job. ap (λ gs. with_uses s.uses job (needs gs)) (sym gives_are);
      open_ = λ j h. subst (λ gs. blocking s.book s.uses waited (needs gs) j ≡ false) gives_are h;
      broken = λ u. ap (λ gs. all_broken gs u) (sym gives_are);
    }

    pub may_note_all : MayNoteAll uses (state_of p.world.safety)
    may_note_all = started.may_note_all line home (undeferred asked) b none named uses gs noted

    pub waited_up : AreUpTo s.book.count waited
    waited_up = started.waited_up line home (undeferred asked) b none

    module _ (mid : Draft) (new : Planner) (given : Run) (at : ℕ)
        (r : IsPlainRun script p.world asked.kernel asked.args.items asked.cut asked.waive.items given)
        (copied : IsCopied script p.draft mid asked.kernel at)
        (deps : Jobs) (deps_are : deps ≡ waited) (d : IsScheduled (record p { draft = mid }) new asked.handle (placed given at) uses deps) where
      -- what the job runs, by the copy of its kernel
      abbrev run : Run
      run = placed given at

      source_same : r.source ≡ text.source
      source_same = some_is (sym r.is_source ∙ text.has)

      copy : places.HasCopy script g refl p mid asked.kernel at st.kernels copied text.source text.has text.checked
      copy = places.has_copy script g refl p mid asked.kernel at st.kernels copied text.source text.has text.checked

      place : HasPlace p g mid.copies_of p.draft.guards_of mid.kernels mid.codes run.kernel copy.copy
      place = record {
        here = copy.here;
        few = places.copies_few script g refl p mid asked.kernel at st.kernels copied text.source text.has text.checked;
        later = places.kernels_later script g refl p mid asked.kernel at st.kernels copied text.source text.has text.checked;
        stand = λ q kernels guards copies codes.
            places.kernels_stand script g refl p mid asked.kernel at st.kernels copied text.source text.has text.checked q kernels copies codes
            guards;
      }

      done : IsScheduled (record p {
        draft = record p.draft { kernels = mid.kernels; codes = mid.codes; copies_of = mid.copies_of; guards_of = p.draft.guards_of };
      })
          new asked.handle run uses deps
      done = subst (λ m. IsScheduled (record p { draft = m }) new asked.handle run uses deps)
          (plain_moved script p.draft mid asked.kernel at copied) d

      below : asked.kernel < length g.kernels
      below = get_below g.kernels asked.kernel text.source text.has

      -- the setting with the copy
      abbrev h : Setting
      h = copying.h g s home asked text.source copy.copy text.has below copy.same

      accepted_now : IsAcceptedSchedule h s o
      accepted_now = copying.new_is_accepted g s home asked text.source copy.copy text.has below copy.same accepted_as

      has_new : slice_get h.kernels asked.kernel ≡ Some copy.copy
      has_new = copying.has_new g s home asked text.source copy.copy text.has below copy.same

      names_below : EachBelow (length p.world.values.items) asked.args.items
      names_below = each_lower (length g.names) (length p.world.values.items) (let e = st.knows.each in omega arith) asked.args.items text.below

      args_fit : ArgsFit s None ps asked.args.items
      args_fit = subst (λ k. ArgsFit s None (kernel_params k) asked.args.items) text.has accepted_as.args_fit

      source_binds : run.binds.items ≡ job_binds p.world text.source.parallel asked.waive.items 0 ps asked.args.items
      source_binds = r.binds ∙ ap (λ (k : Kernel). job_binds p.world k.parallel asked.waive.items 0 k.params.items asked.args.items) source_same

      copy_binds : (y : Outline) → Agrees p g begun found y → run.binds.items ≡ argument_binds y.starts s o copy.copy
      copy_binds y a =
          source_binds
          ∙ same_job_binds p text.source.parallel asked.waive.items 0 ps copy.copy.params.items asked.args.items copy.same.params
          ∙ ap (λ b. job_binds p.world b asked.waive.items 0 copy.copy.params.items asked.args.items) copy.same.parallel
          ∙ args_are st y a None copy.copy.parallel asked.waive.items 0 copy.copy.params.items asked.args.items names_below
          (same_args_fit s ps copy.copy.params.items asked.args.items copy.same.params args_fit)

      is_run : started.IsRunOf line home (undeferred asked) b run copy.copy
      is_run = record {
        source = text.source;
        is_source = text.has;
        copied = copy.same;
        binds = λ y a.
            source_binds
            ∙ args_are st y a None text.source.parallel asked.waive.items 0 ps asked.args.items names_below args_fit
            ∙ sym (append-nil (binds_by y.starts s ps (widths_from text.source.parallel asked.waive.items 0 ps) asked.args.items));
        indexes = r.cut_by.indexes ∙ ap (λ (c : ℕ × ℕ). c.0) (numbers_are s asked.cut);
        step = r.cut_by.step ∙ ap (λ (c : ℕ × ℕ). step_of c.0 (batch_for p.world.works.items asked.kernel c.0 c.1)) (numbers_are s asked.cut);
        parallel = r.parallel ∙ ap (λ (k : Kernel). k.parallel && is_none asked.waive.items) source_same;
      }

      abbrev q : Planner
      q = started.as_q line home (undeferred asked) b none named uses gs noted mid.copies_of p.draft.guards_of mid.kernels
          mid.codes copy.copy run place new deps deps_are done

      back : (y : Outline) → Agrees q g begun found y → Agrees p g begun found y
      back = started.agrees line home (undeferred asked) b none named uses gs noted
          mid.copies_of p.draft.guards_of mid.kernels
          mid.codes copy.copy run place new deps deps_are done

      planned_job : (y : Outline) → Agrees q g begun found y → IsPlannedJob y (draft_of p) o (plain_kernel y.starts s o copy.copy) (deps_of h s o) done.job
      planned_job y a =
          subst (λ ds. IsPlannedJob y (draft_of p) o (plain_kernel y.starts s o copy.copy) ds done.job)
          (copying.new_deps g s home asked text.source copy.copy text.has below copy.same)
          (started.job_as line home (undeferred asked) b none named uses gs noted mid.copies_of p.draft.guards_of mid.kernels
          mid.codes copy.copy run place new deps deps_are done y a asked.cut r.cut_by (argument_binds y.starts s o copy.copy) (indexes_of s o copy.copy)
          (same_kernels_are_checked text.source copy.copy copy.same text.checked)
          (copy_binds y (back y a))
          (r.cut_by.indexes ∙ indexes_are s text.source.parallel asked.cut text.one ∙ ap (λ b. executes b (job_length s asked.cut None)) copy.same.parallel)
          (λ seq.
          let none = no_cut text.source.parallel asked.cut text.one (copy.same.parallel ∙ seq) in (
            r.cut_by.indexes ∙ ap (λ c. (numbers_by c).0) none,
            r.cut_by.step
                ∙ ap (λ c. step_of (numbers_by c).0 (batch_for p.world.works.items asked.kernel (numbers_by c).0 (numbers_by c).1)) none
                ∙ ap (step_of 1) (batch_of_one p.world.works.items asked.kernel),
          ))
          (λ par.
          let both = and_parts r.source.parallel (is_none asked.waive.items) (sym r.parallel ∙ par) in
          (sym copy.same.parallel ∙ ap (λ (k : Kernel). k.parallel) (sym source_same) ∙ both.0, none_waived asked.waive.items both.1)))

      plans : (y : Outline) → Agrees q g begun found y → IsPlanned y t (draft_of q)
      plans y a = subst (λ u. IsPlanned y u (draft_of q)) (sym (copying.new_accepted g s home asked text.source copy.copy text.has below copy.same))
          (schedules_are_planned y h s o copy.copy (plain_kernel y.starts s o copy.copy) (draft_of p) (draft_of q) done.started.segment done.job a.small
          st.knows.known (st.planned y (back y a)) accepted_now has_new (planned_job y a)
          (plain_kernels_stand_in y h s o copy.copy (draft_of p) done.job a.small (st.planned y (back y a)) accepted_now refl has_new (planned_job y a))
          (started.starts_next line home (undeferred asked) b none named uses gs noted mid.copies_of p.draft.guards_of mid.kernels
          mid.codes copy.copy run place new deps deps_are done)
          (started.closes line home (undeferred asked) b none named uses gs noted mid.copies_of p.draft.guards_of mid.kernels
          mid.codes copy.copy run place new deps deps_are done))

      pub goes_on : HasStepped b new
      goes_on = started.goes_on line home (undeferred asked) b none named uses gs noted mid.copies_of p.draft.guards_of
          mid.kernels mid.codes copy.copy run place new deps deps_are done is_run plans
