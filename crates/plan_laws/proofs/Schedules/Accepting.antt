-- An accepted schedule whose job's planned kernel stands in for its own: the plan goes on with it.
use Rattle.std.proofs.Common.{◌≡◌, ℕ, zero, suc, ◌+◌, ◌<◌, ◌≤◌, Bool, true, false, ◌&&◌, ◌||◌, List, [], ◌∷◌, ◌++◌, length, map, get_or, Option, Some, refl, sym, ap, subst, ◌∙◌, arith}
use Rattle.std.specs.Prelude.{slice_get, nat_eq, if◌then◌else◌}
use Rattle.std.proofs.lemmas.List.{get_or-map}
use Rattle.frame_ast.specs.declared.kernel.Kernel.{Kernel}
use Rattle.frame_ast.specs.declared.kernel.Param.{Param}
use Rattle.frame_ast.specs.Conflicts.{Need, blocking, automatic, with_uses, uses_it, writes_it}
use Rattle.frame_ast.specs.Contents.{Contents, words_of}
use Rattle.frame_ast.specs.Effects.{all_broken, view_broken, steps_by}
use Rattle.frame_ast.specs.Fitting.{is_written}
use Rattle.frame_ast.specs.Forms.{form_of}
use Rattle.frame_ast.specs.JobRuns.{Ran, Run, no_run, run_of}
use Rattle.frame_ast.specs.Jobs.{Jobs, only, both, with_job}
use Rattle.frame_ast.specs.Laws.{IsKnown}
use Rattle.frame_ast.specs.Orders.{kernel_params, kernel_parallel, job_length}
use Rattle.frame_ast.specs.Refusals.{jobs_named}
use Rattle.frame_ast.specs.Schedules.{Given, is_list, givens, arguments_of, leave_all, widths_from}
use Rattle.frame_ast.specs.States.{Value, ScriptState, with_at}
use Rattle.frame_ast.proofs.Forms.{words_by_form}
use Rattle.frame_core.specs.declared.plan.JobPlan.{JobPlan}
use Rattle.frame_core.specs.Names as names
use Rattle.frame_core.proofs.Small.{some_is, none_some, get_below}
use Rattle.plan_laws.specs.Accepting.{Schedule, accepted, PlannedKernel, IsPlannedJob, SchedulesArePlanned}
use Rattle.plan_laws.specs.Drafts.{Draft}
use Rattle.plan_laws.specs.Enrolling.{IsEnrolled}
use Rattle.plan_laws.specs.Leaving.{AllHeld}
use Rattle.plan_laws.specs.Planned.{Outline, IsPlanned}
use Rattle.plan_laws.specs.Scheduling.{script_trap, cells_with, IsStarted}
use Rattle.plan_laws.proofs.Schedules.AtHand.{at_hand}
use Rattle.plan_laws.proofs.Schedules.JobAtHand as job_at_hand
use Rattle.plan_laws.proofs.Schedules.JobAtHand.{IsJobAtHand}
use Rattle.plan_laws.proofs.Schedules.Leaving.{all_leave, all_hold, none_leaves}
use Rattle.plan_laws.proofs.Schedules.Scheduling.{started_jobs_are_planned}
use Rattle.plan_laws.proofs.Schedules.Uses.{written_used, argument_written, used_alive, read_free, write_free, unblocked, deps_up}

-- ---- small lemmas

get_is : {A : Type 0} (xs : List A) (i : ℕ) (z d : A) → slice_get xs i ≡ Some z → get_or xs i d ≡ z
get_is [] i z d e = absurd (none_some e)
get_is (x ∷ xs) zero z d e = some_is e
get_is (x ∷ xs) (suc i) z d e = get_is xs i z d e

-- view numbers alone are changed for the lists that may be written
module _ (s : ScriptState) where
  abbrev with_views : (ℕ → Contents) → (ℕ → ℕ) → ScriptState
  with_views K v = record s { contents = K; view = v }

  abbrev broken : List Given → (ℕ → ℕ) → ℕ → ℕ
  broken [] v = v
  broken (g ∷ more) v = broken more (if is_list g.kind && g.need.writes then with_at v g.need.container (v g.need.container + 1) else v)

  broken_are : (gs : List Given) (K : ℕ → Contents) (v : ℕ → ℕ) → all_broken gs (with_views K v) ≡ with_views K (broken gs v)
  broken_are [] K v = refl
  broken_are (g ∷ more) K v = by (broken_are more K) (is_list g.kind && g.need.writes)
    where
      by : ((v : ℕ → ℕ) → all_broken more (with_views K v) ≡ with_views K (broken more v)) → (b : Bool)
          → all_broken more (if b then view_broken g.need.container (with_views K v) else with_views K v)
          ≡ with_views K (broken more (if b then with_at v g.need.container (v g.need.container + 1) else v))
      by rest true = rest (with_at v g.need.container (v g.need.container + 1))
      by rest false = rest v

-- ---- the statement, with its kernel and its run at hand

abbrev deps_with : ScriptState → Schedule → Option Kernel → Jobs
deps_with s o k =
    let named = jobs_named s o.after in
    let needs = map (λ v. v.need) (givens s (kernel_params k) o.args o.defer) in
    if o.auto then both named (automatic s.book s.uses named needs) else named

abbrev accepted_with : ScriptState → Schedule → Option Kernel → Run → ScriptState
accepted_with s o k run =
    let params = kernel_params k in
    let gs = givens s params o.args o.defer in
    let needs = map (λ v. v.need) gs in
    let job = s.book.count + 1 in
    let ran = run (widths_from (kernel_parallel k) o.waive 0 params) (steps_by o.defer) (job_length s o.cut o.defer) (arguments_of s params o.args) in
    let left = all_broken gs (leave_all params o.args ran.store s) in
    record left {
      values = with_at s.values o.handle (Value.Handle (only job));
      uses = with_uses s.uses job needs;
      book = with_job s.book (deps_with s o k);
      traps = s.traps ++ map (λ t. record { job = job; index = t.0; trap = t.1 }) ran.traps;
    }

module _ (x : Outline) (s : ScriptState) (o : Schedule) (k : Kernel) (run : PlannedKernel) (d : Draft) (job : JobPlan) where
  abbrev ps : List Param
  ps = k.params.items

  abbrev gs : List Given
  gs = givens s ps o.args o.defer

  abbrev needs : List Need
  needs = map (λ v. v.need) gs

  abbrev deps : Jobs
  deps = deps_with s o (Some k)

  one_more : s.book.count + 1 ≡ suc s.book.count
  one_more = omega arith

  -- what a run makes of the state
  abbrev state_of : Ran (List Contents) → ScriptState → ScriptState
  state_of r left = record left {
    values = with_at s.values o.handle (Value.Handle (only (s.book.count + 1)));
    uses = with_uses s.uses (s.book.count + 1) needs;
    book = with_job s.book deps;
    traps = s.traps ++ map (script_trap (s.book.count + 1)) r.traps;
  }

  abbrev t : ScriptState
  t = accepted_with s o (Some k) (run_of k)

  module _ (is : IsJobAtHand x s o k run d deps job) (known : IsKnown s)
      (forms : (c : ℕ) → c < s.made → form_of (t.contents c) ≡ form_of (s.contents c)) where
    abbrev ran : Ran (List Contents)
    ran = job_at_hand.ran x s o k run d deps job is

    abbrev left : ℕ → Contents
    left = all_leave x.starts s ps o.args ran.store s.contents

    abbrev u : ScriptState
    u = state_of ran (with_views s left (broken s gs s.view))

    u_is : t ≡ u
    u_is = ap (state_of ran) (ap (all_broken gs) (all_hold x.starts s ps o.args ran.store s.contents) ∙ broken_are s gs left s.view)

    given_alive : (c : ℕ) → uses_it needs c ≡ true → (c < s.made) × (s.alive c ≡ true)
    given_alive c e = used_alive s o.defer ps o.args c is.at.args_fit is.at.list_fits e

    sizes : (c : ℕ) → words_of (u.contents c) ≡ words_of (s.contents c)
    sizes c = by (is_written s ps o.args c) refl
      where
        by : (b : Bool) → is_written s ps o.args c ≡ b → words_of (u.contents c) ≡ words_of (s.contents c)
        by true h =
            ap (λ (t : ScriptState). words_of (t.contents c)) (sym u_is) ∙ sym (words_by_form (t.contents c))
            ∙ ap words_of (forms c (given_alive c (written_used needs c (argument_written s o.defer ps o.args c h))).0) ∙ words_by_form (s.contents c)
        by false h = ap words_of (none_leaves x.starts s ps o.args ran.store s.contents c h)

    free : (j : ℕ) → 0 < j → j ≤ s.book.count → blocking s.book s.uses deps needs j ≡ false
    free = unblocked s known o.auto k.parallel gs o.after is.at.unrefused

    enrolled : IsEnrolled x s u (length d.jobs) job (uses_it needs) (writes_it needs) deps
    enrolled = record {
      has = job_at_hand.has_job x s o k run d deps job is;
      made = refl;
      alive = refl;
      range = refl;
      words = sizes;
      book = refl;
      users = λ c j i. (s.uses c).users j || (nat_eq j (one_more i) && uses_it needs c);
      writers = λ c j i. (s.uses c).writers j || (nat_eq j (one_more i) && writes_it needs c);
      deps_up = deps_up s known o.auto k.parallel gs o.after;
      deps_are = is.planned.deps_are;
      writable_given = written_used needs;
      used_alive = given_alive;
      readers = λ c j given w. let up = (known.uses c).users j ((known.uses c).writers j w) in
          read_free s deps c j needs given w (free j up.0 up.1);
      writers_too = λ c j given w. let up = (known.uses c).users j w in write_free s deps c j needs given w (free j up.0 up.1);
      reads = job_at_hand.reads_are x s o k run d deps job is;
      writes = job_at_hand.writes_are x s o k run d deps job is;
    }

    held : AllHeld x.starts u (cells_with x d (names.pieces_of job))
    held = λ c below alive. subst (λ t. AllHeld x.starts t (cells_with x d (names.pieces_of job))) (all_hold x.starts s ps o.args ran.store s.contents)
        (job_at_hand.left_held x s o k run d deps job is) c below alive

    started : IsStarted x s u d job run.kernel (uses_it needs) (writes_it needs) deps ran.traps
    started = record {
      jobs_later = is.planned.jobs_later;
      jobs_are = is.planned.jobs_are;
      has_kernel = is.planned.has_kernel;
      checked = is.planned.checked;
      fits = is.stands.fits;
      first = is.planned.first;
      enrolled = enrolled;
      held = held;
      stand = job_at_hand.parts_stand x s o k run d deps job is;
      traps_are = job_at_hand.traps_are x s o k run d deps job is;
      lines = refl;
      refused = refl;
      traps_more = λ i. s.traps ++ map (script_trap (one_more i)) ran.traps;
    }

pub schedules_are_planned : SchedulesArePlanned
schedules_are_planned x g s o k run d e segment job small known was a has pj stands starts closes =
    let run_is : get_or g.runs o.kernel no_run ≡ run_of k =
    ap (λ rs. get_or rs o.kernel no_run) a.runs ∙ get_or-map run_of g.kernels o.kernel k no_run (get_below g.kernels o.kernel k has)
    ∙ ap run_of (get_is g.kernels o.kernel k k has) in
    let same : accepted g s o ≡ accepted_with s o (Some k) (run_of k) = λ i. accepted_with s o (has i) (run_is i) in
    let planned = subst (λ ok. IsPlannedJob x d o run (deps_with s o ok) job) has pj in
    let is : IsJobAtHand x s o k run d (deps_with s o (Some k)) job =
    record { at = at_hand x g s o k d small was a has; planned = planned; stands = stands } in
    let forms = subst (λ (t : ScriptState). (c : ℕ) → c < s.made → form_of (t.contents c) ≡ form_of (s.contents c)) same a.forms in
    let left = u_is x s o k run d job is known forms in
    subst (λ t. IsPlanned x t e) (sym (same ∙ left))
    (started_jobs_are_planned x small s (u x s o k run d job is known forms) d e segment job run.kernel _ _ (deps_with s o (Some k))
    (ran x s o k run d job is known forms).traps known was (started x s o k run d job is known forms) starts closes)
