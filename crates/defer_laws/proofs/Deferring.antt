-- With `defer` the guarded kernel stands in for the kernel of an accepted schedule.
use Rattle.std.proofs.Common.{◌≡◌, ℕ, ◌+◌, ◌-◌, ◌<◌, ◌≤◌, ◌^◌, true, pos, List, [], ◌∷◌, ◌++◌, Option, None, Some, refl, sym, ap, subst, ◌∙◌, arith}
use Rattle.std.specs.Prelude.{slice_get}
use Rattle.job_base.specs.Cells.{cell_list}
use Rattle.frame_ast.specs.declared.kernel.Kernel.{Kernel}
use Rattle.frame_ast.specs.declared.kernel.Param.{Param}
use Rattle.frame_ast.specs.Arguments.{length_of}
use Rattle.frame_ast.specs.Conflicts.{uses_it, writes_it}
use Rattle.frame_ast.specs.Contents.{Contents, Cells as Elements}
use Rattle.frame_ast.specs.JobRuns.{full_steps, deferred_steps, executes}
use Rattle.frame_ast.specs.Jobs.{Jobs}
use Rattle.frame_ast.specs.Orders.{job_length}
use Rattle.frame_ast.specs.Schedules.{arguments_of, writes_to, widths_from}
use Rattle.frame_ast.specs.States.{ScriptState, container_at, contents_at}
use Rattle.kernel_exec.specs.declared.binds.Bind.{Bind}
use Rattle.kernel_exec.specs.Binds.{IsWordOf, widths}
use Rattle.kernel_exec.specs.Conditions.{BindsFit}
use Rattle.kernel_exec.specs.Laws.{at_indexes, HaveOwnParts}
use Rattle.kernel_exec.specs.Layout.{StandFor}
use Rattle.merge_laws.specs.Graph.{Cells}
use Rattle.frame_core.specs.declared.plan.JobPlan.{JobPlan}
use Rattle.frame_core.specs.Ordered.{JobFits}
use Rattle.frame_core.specs.Touched.{IsBound, IsBoundToWrite}
use Rattle.frame_core.proofs.Small.{not_both, get_below}
use Rattle.plan_laws.specs.Accepting.{Schedule, deps_of, argument_binds, indexes_of, needs_of, IsPlannedJob, StandsIn}
use Rattle.plan_laws.specs.Binds.{bind_of_container, start_at}
use Rattle.plan_laws.specs.Drafts.{Draft, cells_of}
use Rattle.plan_laws.specs.Enrolling.{IsOfArgument}
use Rattle.plan_laws.specs.Planned.{Outline}
use Rattle.plan_laws.proofs.Schedules.AtHand as at_hand
use Rattle.plan_laws.proofs.Schedules.AtHand.{IsAtHand}
use Rattle.plan_laws.proofs.Schedules.LeftWords.{argument_word, any_by, writes_by}
use Rattle.plan_laws.proofs.Owners.{word_has}
use Rattle.plan_laws.proofs.Schedules.Uses.{argument_used, argument_written, list_used}
use Rattle.defer_laws.specs.Deferring.{capacity_of, guarded_kernel, Guards, GuardedKernelsStandIn}
use Rattle.defer_laws.specs.GuardedRuns.{word_at}
use Rattle.defer_laws.proofs.GuardFitting as guard
use Rattle.defer_laws.proofs.GuardedRuns.{guarded_indexes_run_alike}
use Rattle.defer_laws.proofs.Lengths as lengths

-- its length is that of the list, whatever else is there
deferred_length : (s : ScriptState) (cut : Option (ℕ × ℕ)) (defer : ℕ × ℕ) → job_length s cut (Some defer) ≡ length_of (contents_at s defer.0)
deferred_length s None defer = refl
deferred_length s (Some c) defer = refl

module _ (x : Outline) (s : ScriptState) (defer : ℕ × ℕ) (old new : Kernel) (d : Draft) (guards : Guards old new) where
  -- with `defer`
  module _ (o : Schedule) (is : IsAtHand x s (record o { defer = Some defer }) d (Some old)) where
    abbrev deferred : Schedule
    deferred = record o { defer = Some defer }

    abbrev ps : List Param
    ps = old.params.items

    abbrev ws : List ℕ
    ws = widths_from old.parallel o.waive 0 ps

    abbrev binds : List Bind
    binds = argument_binds x.starts s o old

    abbrev start : ℕ
    start = start_at x.starts s defer.0

    abbrev all : List Bind
    all = binds ++ word_at start ∷ []

    abbrev before : Cells
    before = cells_of x.plan d

    abbrev c : ℕ
    c = container_at s defer.0

    abbrev len : ℕ
    len = length_of (contents_at s defer.0)

    abbrev cap : ℕ
    cap = capacity_of (contents_at s defer.0)

    old_fit : BindsFit old binds
    old_fit = at_hand.binds_fit x s deferred old d is

    length_within : start + 1 ≤ x.plan.cells
    length_within = lengths.length_within x s o defer old d is

    new_fit : BindsFit new all
    new_fit = guard.binds_fit old new guards.guarded binds start old_fit (lengths.length_only x s o defer old d is) (let le = length_within in omega arith)

    -- ---- its job fits the guarded kernel

    job_fits : (deps : Jobs) (job : JobPlan) → IsPlannedJob x d deferred (guarded_kernel x.starts s deferred defer.0 old new) deps job → JobFits x.plan job new
    job_fits deps job pj = record {
      binds = subst (BindsFit new) (sym pj.binds) new_fit;
      within = λ y b h. guard.binds_within old new guards.guarded binds start x.plan.cells (at_hand.within x s deferred old d is) length_within y b
          (ap (λ bs. slice_get bs y) (sym pj.binds) ∙ h);
      widths = record {
        waived = o.waive;
        widths_are = ap widths pj.binds
            ∙ guard.binds_have_widths old new guards.guarded binds start o.waive is.deferrable (at_hand.widths_are x s deferred old d is);
      };
      cut = pj.cut;
      one = pj.one;
      deps = pj.known_deps;
      is_parallel = λ h. (pj.parallel h).0;
      parts = λ h. subst (HaveOwnParts new) (sym pj.binds) (guard.own_parts old new guards.guarded binds start old_fit.count
          (at_hand.own_parts x s deferred old d is is.deferrable (pj.parallel h).1));
    }

    -- ---- it does what the old kernel does

    alike : at_indexes new all full_steps cap 0 before ≡ at_indexes old binds deferred_steps (indexes_of s deferred old) 0 before
    alike =
        let held = lengths.is_held x s o defer old d is in
        let le = held.1 in
        let count : cap ≡ len + (cap - len) = omega arith in
        let long = deferred_length s o.cut defer in
        ap (λ n. at_indexes new all full_steps n 0 before) count
        ∙ guarded_indexes_run_alike old new binds start len (cap - len) before guards.words guards.checked old_fit
        (lengths.length_unwritten x s o defer old d is) held.0
        ∙ (λ i. at_indexes old binds deferred_steps (executes (sym is.deferrable i) (sym long i)) 0 before)

    stand : StandFor all before (arguments_of s ps o.args ++ Elements (cell_list before start 1) ∷ [])
    stand = guard.stand_more binds (word_at start) before (arguments_of s ps o.args) (Elements (cell_list before start 1))
        (at_hand.stand x s deferred old d is) refl

    -- ---- a word of a bind is one of an argument's container, or the length

    of_bound : (w : ℕ) → IsBound new.params.items all w → IsOfArgument x s (uses_it (needs_of s deferred old)) w
    of_bound w b = guard.by_end (λ z. IsWordOf z w → IsOfArgument x s (uses_it (needs_of s deferred old)) w) binds (word_at start) b.number b.bind b.has_bind
        (λ lt at word.
        let r = at_hand.bind_here x s deferred old d is b.number b.bind at in
        let a = argument_word x.starts s ps ws o.args b.number w b.bind (at_hand.all_fit x s deferred old d is) at word in
        record {
          container = container_at s a.name;
          below = a.below;
          alive = a.alive;
          is_of = argument_used s (Some defer) ps o.args (container_at s a.name)
              (any_by s ps o.args b.number a.name (container_at s a.name) r.param r.has_param a.has refl);
          word = word_has x.starts s (container_at s a.name) w a.word;
        })
        (λ end word.
        let lo = word.from in
        let hi = word.below in
        let at : w ≡ start = omega arith in
        record {
          container = c;
          below = is.list_fits.made;
          alive = is.list_fits.alive;
          is_of = list_used s ps o.args defer;
          word = word_has x.starts s c w (subst (IsWordOf (bind_of_container x.starts s c)) (sym at) (lengths.length_word x s o defer old d is));
        })
        b.word

    of_written : (w : ℕ) → IsBoundToWrite new.params.items all w → IsOfArgument x s (writes_it (needs_of s deferred old)) w
    of_written w b =
        let p = guard.old_param old new guards.guarded binds start b.bound.number b.bound.param b.bound.has_param b.writes in
        let few = get_below ps b.bound.number p.0 p.1 in
        let count = old_fit.count in
        guard.by_end (λ z. IsWordOf z w → IsOfArgument x s (writes_it (needs_of s deferred old)) w) binds (word_at start) b.bound.number b.bound.bind
        b.bound.has_bind
        (λ lt at word.
        let a = argument_word x.starts s ps ws o.args b.bound.number w b.bound.bind (at_hand.all_fit x s deferred old d is) at word in
        record {
          container = container_at s a.name;
          below = a.below;
          alive = a.alive;
          is_of = argument_written s (Some defer) ps o.args (container_at s a.name)
              (writes_by s ps o.args b.bound.number a.name (container_at s a.name) p.0 p.1 a.has refl (ap writes_to p.2.access ∙ b.writes));
          word = word_has x.starts s (container_at s a.name) w a.word;
        })
        (λ end word. absurd (omega arith))
        b.bound.word

  module _ (deps : Jobs) (job : JobPlan) where
    abbrev StandIn : Schedule → Type 0
    StandIn o = IsAtHand x s o d (Some old) → IsPlannedJob x d o (guarded_kernel x.starts s o defer.0 old new) deps job
        → StandsIn x s d o old (guarded_kernel x.starts s o defer.0 old new) job

    stands : (o : Schedule) → StandIn (record o { defer = Some defer })
    stands o is pj = record {
      fits = job_fits o is deps job pj;
      checked = guards.checked;
      alike = alike o is;
      contents = arguments_of s old.params.items o.args ++ Elements (cell_list (cells_of x.plan d) (start_at x.starts s defer.0) 1) ∷ [];
      stand = stand o is;
      bound = of_bound o is;
      bound_to_write = of_written o is;
    }

pub guarded_kernels_stand_in : GuardedKernelsStandIn
guarded_kernels_stand_in x g s o defer old new d job small was a deferred has guards pj =
    let same : record o { defer = Some defer } ≡ o = λ i. record o { defer = sym deferred i } in
    subst (StandIn x s defer old new d guards (deps_of g s o) job) same (stands x s defer old new d guards (deps_of g s o) job o)
    (at_hand.at_hand x g s o old d small was a has) pj
