-- The job of an accepted schedule, whose planned kernel stands in for the schedule's own: it leaves what that leaves, and
-- touches words of containers that the schedule uses.
use Rattle.std.proofs.Common.{◌≡◌, ℕ, suc, ◌+◌, ◌<◌, ◌≤◌, ◌⊎◌, inl, inr, ⊎_elim, true, ◌&&◌, List, [], ◌∷◌, ◌++◌, length, map, Some, refl, sym, ap, subst, ◌∙◌, arith}
use Rattle.std.specs.Prelude.{nat_le, nat_lt, slice_get}
use Rattle.frame_ast.specs.declared.kernel.Kernel.{Kernel}
use Rattle.frame_ast.specs.declared.kernel.Param.{Param}
use Rattle.frame_ast.specs.Conflicts.{Need, uses_it, writes_it}
use Rattle.frame_ast.specs.Contents.{Contents}
use Rattle.frame_ast.specs.Effects.{steps_by}
use Rattle.frame_ast.specs.JobRuns.{Ran, full_steps}
use Rattle.frame_ast.specs.Jobs.{Jobs}
use Rattle.frame_ast.specs.Schedules.{arguments_of, leave_all, widths_from}
use Rattle.frame_ast.specs.States.{ScriptState}
use Rattle.kernel_exec.specs.declared.binds.Bind.{Bind}
use Rattle.kernel_exec.specs.Binds.{widths}
use Rattle.kernel_exec.specs.Layout.{StandFor}
use Rattle.kernel_exec.specs.Laws.{at_indexes}
use Rattle.kernel_exec.proofs.Stand.{still}
use Rattle.merge_laws.specs.Graph.{Cells}
use Rattle.frame_core.specs.declared.piece.Piece.TheVariants.{OfJob}
use Rattle.frame_core.specs.declared.plan.JobPlan.{JobPlan}
use Rattle.frame_core.specs.Effects.{touches}
use Rattle.frame_core.specs.Names.{job_at}
use Rattle.frame_core.specs.Names as names
use Rattle.frame_core.specs.Output.{job_trap, pieces_in}
use Rattle.frame_core.specs.Pieces.{own_word}
use Rattle.frame_core.specs.Touched.{IsBound, IsBoundToWrite}
use Rattle.frame_core.specs.Touches.{has_word, reads_in, writes_in}
use Rattle.frame_core.proofs.Small.{get_before, get_behind}
use Rattle.frame_core.proofs.Extents.Touched.{touched_words_are_used}
use Rattle.frame_core.proofs.Extents.Touching.{it_has}
use Rattle.plan_laws.specs.Accepting.{Schedule, PlannedKernel, argument_binds, indexes_of, needs_of, IsPlannedJob, StandsIn}
use Rattle.plan_laws.specs.Drafts.{Draft, parts_traps, pieces_of, cells_of}
use Rattle.plan_laws.specs.Enrolling.{IsOfArgument}
use Rattle.plan_laws.specs.Leaving.{AllHeld, JobLeaves}
use Rattle.plan_laws.specs.LeftWords.{AreApartBelow}
use Rattle.plan_laws.specs.Ledgers.{is_own_word}
use Rattle.plan_laws.specs.Planned.{Outline, jobs_before}
use Rattle.plan_laws.specs.Running.{on_contents, indexes_before}
use Rattle.plan_laws.specs.Scheduling.{cells_with}
use Rattle.plan_laws.proofs.Apart.{read_by, written_by}
use Rattle.plan_laws.proofs.Schedules.AtHand as at_hand
use Rattle.plan_laws.proofs.Schedules.AtHand.{IsAtHand}
use Rattle.plan_laws.proofs.Schedules.Leaving.{left_contents_are_held}
use Rattle.plan_laws.proofs.Schedules.LeftWords.{jobs_leave}
use Rattle.plan_laws.proofs.Statements.Making.{alive_is_live}
use Rattle.plan_laws.proofs.Owners.{words_apart, word_has}
use Rattle.plan_laws.proofs.Schedules.Running.{pieces_run_as_one, all_indexes_run, words_run_as_contents}

-- what is known of the schedule and of its job
pub record IsJobAtHand (x : Outline) (s : ScriptState) (o : Schedule) (k : Kernel) (run : PlannedKernel) (d : Draft) (deps : Jobs) (job : JobPlan)
    : Type 0 where
  pub at : IsAtHand x s o d (Some k)
  pub planned : IsPlannedJob x d o run deps job
  pub stands : StandsIn x s d o k run job

module _ (x : Outline) (s : ScriptState) (o : Schedule) (k : Kernel) (run : PlannedKernel) (d : Draft) (deps : Jobs) (job : JobPlan)
    (is : IsJobAtHand x s o k run d deps job) where
  abbrev ps : List Param
  ps = k.params.items

  abbrev ws : List ℕ
  ws = widths_from k.parallel o.waive 0 ps

  abbrev binds : List Bind
  binds = argument_binds x.starts s o k

  abbrev count : ℕ
  count = indexes_of s o k

  abbrev needs : List Need
  needs = needs_of s o k

  abbrev n : ℕ
  n = length d.jobs

  abbrev N : ℕ
  N = names.pieces_of job

  abbrev before : Cells
  before = cells_of x.plan d

  abbrev after : Cells
  after = cells_with x d N

  pub has_job : job_at x.plan n ≡ Some job
  has_job =
      ap (λ js. slice_get js n) is.planned.jobs_are
      ∙ get_before (d.jobs ++ job ∷ []) is.planned.jobs_later n (let e : length (d.jobs ++ job ∷ []) ≡ suc (length d.jobs) = long d.jobs in omega arith)
      ∙ (let e : n ≡ length d.jobs + 0 = omega arith in ap (slice_get (d.jobs ++ job ∷ [])) e) ∙ get_behind d.jobs (job ∷ []) 0
    where
      long : (xs : List JobPlan) → length (xs ++ job ∷ []) ≡ suc (length xs)
      long [] = refl
      long (x ∷ xs) = ap suc (long xs)

  -- ---- its words

  -- the job at the words at hand
  abbrev job_ran : ℕ → Ran Cells
  job_ran m = at_indexes run.kernel job.binds.items full_steps m 0 before

  abbrev own_ran : Ran Cells
  own_ran = at_indexes k binds (steps_by o.defer) count 0 before

  alike : job_ran job.cut.n ≡ own_ran
  alike = (λ i. at_indexes run.kernel (is.planned.binds i) full_steps (is.planned.indexes i) 0 before) ∙ is.stands.alike

  after_is : (w : ℕ) → w < x.plan.cells → after w ≡ own_ran.store w
  after_is w lt =
      (pieces_run_as_one x.plan n job run.kernel (pieces_of x.plan d) has_job is.planned.has_kernel is.planned.checked is.stands.fits N
      (omega arith)).cells w lt
      ∙ ap (λ c. (job_ran c).store w) (all_indexes_run x.plan job run.kernel is.stands.fits)
      ∙ ap (λ (r : Ran Cells). r.store w) alike

  apart : AreApartBelow x.starts s x.plan.cells
  apart = record {
    apart = λ c e w bc be ac ae wc we. words_apart x.plan x.starts (jobs_before x) n s is.at.was.ordered.ledger c e w (alive_is_live s c bc ac)
        (alive_is_live s e be ae) (word_has x.starts s c w wc) (word_has x.starts s e w we);
    below = λ c w b a word. let le = is.at.was.standing.within c (alive_is_live s c b a) in let lt = word.below in omega arith;
  }

  -- what the language says that its kernel does
  abbrev pub ran : Ran (List Contents)
  ran = on_contents k ws (steps_by o.defer) count 0 (arguments_of s ps o.args)

  leaves : JobLeaves x.starts s ps ws o.args before after ran.store
  leaves = subst (λ v. JobLeaves x.starts s ps ws o.args before after (on_contents k v (steps_by o.defer) count 0 (arguments_of s ps o.args)).store)
      (at_hand.widths_are x s o k d is.at)
      (jobs_leave x.starts s k ws o.args o.defer (steps_by o.defer) count x.plan.cells before after is.stands.checked (at_hand.binds_fit x s o k d is.at)
      is.at.args_fit (at_hand.widths_long x s o k d is.at) (at_hand.unshared x s o k d is.at) is.at.was.standing.contents apart after_is)

  pub left_held : AllHeld x.starts (leave_all ps o.args ran.store s) after
  left_held = left_contents_are_held x.starts s ps ws o.args o.defer before after ran.store is.at.was.standing.contents is.at.args_fit
      (at_hand.widths_long x s o k d is.at) (at_hand.unshared x s o k d is.at) leaves

  given : StandFor job.binds.items before is.stands.contents
  given = subst (λ bs. StandFor bs before is.stands.contents) (sym is.planned.binds) is.stands.stand

  -- before each piece
  pub parts_stand : (i : ℕ) → i < N → (contents : List Contents) × StandFor job.binds.items (cells_with x d i) contents
  parts_stand i lt =
      let first = pieces_run_as_one x.plan n job run.kernel (pieces_of x.plan d) has_job is.planned.has_kernel is.planned.checked is.stands.fits i
      (omega arith) in
      let ended = words_run_as_contents run.kernel job.binds.items full_steps (indexes_before job i) 0 before is.stands.contents is.planned.checked
      is.stands.fits.binds given in (
        (on_contents run.kernel (widths job.binds.items) full_steps (indexes_before job i) 0 is.stands.contents).store,
        record {
          count = ended.store.count;
          each = λ y b h. still b (job_ran (indexes_before job i)).store (cells_with x d i) _ (ended.store.each y b h)
              (λ w word. first.cells w (let le = is.stands.fits.within y b h in let lt = word.below in omega arith));
        },
      )

  pub traps_are : parts_traps x.plan (pieces_of x.plan d) n N ≡ map (job_trap n) ran.traps
  traps_are =
      let ended = words_run_as_contents k binds (steps_by o.defer) count 0 before (arguments_of s ps o.args) is.stands.checked
      (at_hand.binds_fit x s o k d is.at) (at_hand.stand x s o k d is.at) in
      (pieces_run_as_one x.plan n job run.kernel (pieces_of x.plan d) has_job is.planned.has_kernel is.planned.checked is.stands.fits N (omega arith)).traps
      ∙ ap (λ c. map (job_trap n) (job_ran c).traps) (all_indexes_run x.plan job run.kernel is.stands.fits)
      ∙ ap (λ (r : Ran Cells). map (job_trap n) r.traps) alike
      ∙ ap (map (job_trap n))
      (ended.traps ∙ ap (λ v. (on_contents k v (steps_by o.defer) count 0 (arguments_of s ps o.args)).traps) (at_hand.widths_are x s o k d is.at))

  -- ---- what its pieces touch

  own_is : (i w : ℕ) → i < N → has_word (record { from = own_word x.plan n i; end = own_word x.plan n i + 1; written = true }) w ≡ true
      → is_own_word x.plan (suc n) w ≡ true
  own_is i w lt e =
      let b = it_has (record { from = own_word x.plan n i; end = own_word x.plan n i + 1; written = true }) w e in
      let lo = b.0 in
      let hi = b.1 in
      let here : pieces_in (job_at x.plan n) ≡ N = ap pieces_in has_job in
      has_it_between (own_word x.plan n 0) (own_word x.plan n (pieces_in (job_at x.plan n))) w (omega arith) (omega arith)
    where
      has_it_between : (lo hi w : ℕ) → lo ≤ w → w < hi → (nat_le lo w && nat_lt w hi) ≡ true
      has_it_between lo hi w le lt = λ i. (let f : nat_le lo w ≡ true = grind arith in f) i && (let f : nat_lt w hi ≡ true = grind arith in f) i

  pub reads_are : (i w : ℕ) → i < N → reads_in (touches x.plan (OfJob n i)) w ≡ true
      → (is_own_word x.plan (suc n) w ≡ true) ⊎ IsOfArgument x s (uses_it needs) w
  reads_are i w lt e = ⊎_elim (λ own. inl (own_is i w lt own))
      (λ b. inr (is.stands.bound w (subst (λ bs. IsBound run.kernel.params.items bs w) is.planned.binds
      (touched_words_are_used.bound job.parallel run.kernel.params.items job.binds.items _ _ w b))))
      (read_by x n job run.kernel has_job is.planned.has_kernel is.stands.fits i w e)

  pub writes_are : (i w : ℕ) → i < N → writes_in (touches x.plan (OfJob n i)) w ≡ true
      → (is_own_word x.plan (suc n) w ≡ true) ⊎ IsOfArgument x s (writes_it needs) w
  writes_are i w lt e = ⊎_elim (λ own. inl (own_is i w lt own))
      (λ b. inr (is.stands.bound_to_write w (subst (λ bs. IsBoundToWrite run.kernel.params.items bs w) is.planned.binds
      (touched_words_are_used.bound_to_write job.parallel run.kernel.params.items job.binds.items _ _ w b))))
      (written_by x n job run.kernel has_job is.planned.has_kernel is.stands.fits i w e)
