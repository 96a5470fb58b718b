-- A job in pieces does what the whole job does.
use Rattle.std.proofs.Common.{◌≡◌, ◌≢◌, ℕ, zero, suc, ◌+◌, ◌-◌, ◌*◌, ◌<◌, ◌≤◌, ◌⊎◌, inl, inr, ⊎_elim, ne_eqb, Bool, true, false, cond, min, List, [], ◌∷◌, ◌++◌, length, map, Option, Some, None, refl, sym, ap, subst, ◌∙◌, arith}
use Rattle.std.specs.Prelude.{nat_eq, if◌then◌else◌}
use Rattle.std.specs.Int.{div_ceil}
use Rattle.std.proofs.lemmas.Bool.{cases_eq, cond-false}
use Rattle.std.proofs.lemmas.Grind.{div_ceil_times}
use Rattle.std.proofs.lemmas.List.{map-append}
use Rattle.batch_cut.specs.Cuts.{count_of, piece_of}
use Rattle.job_base.specs.declared.Span.{Span}
use Rattle.job_base.specs.declared.Trap.{Trap}
use Rattle.job_base.proofs.Windows.{with_cell-other}
use Rattle.frame_ast.specs.declared.kernel.Kernel.{Kernel}
use Rattle.frame_ast.specs.Checked.{IsChecked, is_read}
use Rattle.frame_ast.specs.JobRuns.{Ran, trap_at, full_steps}
use Rattle.kernel_exec.specs.declared.binds.Bind.{Bind}
use Rattle.kernel_exec.specs.declared.binds.Bind.TheVariants.{Int, Array, View, List as WholeList, Ref, Map, Stream}
use Rattle.kernel_exec.specs.Binds.{IsWordOf}
use Rattle.kernel_exec.specs.Footprint.{IsRead, IsLength, ReadsBy}
use Rattle.kernel_exec.specs.Laws.{at_indexes}
use Rattle.kernel_exec.proofs.Rights.{uses_word}
use Rattle.kernel_exec.proofs.Ends.{stands_after}
use Rattle.kernel_exec.proofs.Pieces.{indexes_are_cut, read_words_decide}
use Rattle.merge_laws.specs.Graph.{Cells}
use Rattle.merge_laws.specs.Pieces.{Piece}
use Rattle.frame_core.specs.declared.piece.Piece.TheVariants.{OfJob}
use Rattle.frame_core.specs.declared.plan.JobPlan.{JobPlan}
use Rattle.frame_core.specs.declared.plan.Plan.{Plan}
use Rattle.frame_core.specs.Names.{job_at, kernel_of, pieces_of, indexes_of}
use Rattle.frame_core.specs.Pieces.{own_word}
use Rattle.frame_core.specs.Effects.{note_of, noted, part_run, part_ran, job_ran, piece_cells}
use Rattle.frame_core.specs.Output.{job_trap}
use Rattle.frame_core.specs.Ordered.{JobFits}
use Rattle.plan_laws.specs.Drafts.{parts, cells_past}
use Rattle.plan_laws.specs.Running.{WordsRunAsContents, indexes_before, AreFirstParts, PiecesRunAsOne, AllIndexesRun}

pub words_run_as_contents : WordsRunAsContents
words_run_as_contents kernel binds steps zero from cells args checked fit st = record { store = st; traps = refl }
words_run_as_contents kernel binds steps (suc n) from cells args checked fit st =
    let e = stands_after kernel binds checked fit from steps cells args st in
    let r = words_run_as_contents kernel binds steps n (from + 1) _ _ checked fit e.store in
    record { store = r.store; traps = λ i. trap_at from (e.trap i) ++ r.traps i }

-- ---- the indexes of pieces

abbrev span_by : Bool → ℕ → ℕ → ℕ → Span
span_by parallel n step i = if parallel then piece_of n step i else record { start = 0; len = n }

abbrev upto : Bool → ℕ → ℕ → ℕ → ℕ
upto parallel n step i = if parallel then min (i * step) n else (if nat_eq i 0 then 0 else n)

abbrev count_by : Bool → ℕ → ℕ → ℕ
count_by parallel n step = if parallel then count_of n step else 1

-- what a piece begins with isn't beyond the last index
within : (n step i : ℕ) → 1 ≤ step → i < count_of n step → i * step ≤ n
within n step i le lt = ⊎_elim
    (λ z. let few : i < 1 = subst (λ k. i < count_of k step) z lt in
    let none : i * step ≡ 0 * step = ap (λ k. k * step) (let e : i ≡ 0 = omega arith in e) in
    grind arith)
    (λ ne. let below : i < div_ceil n step = subst (λ x. i < x) (cond-false (nat_eq n 0) 1 (div_ceil n step) (ne_eqb n 0 ne)) lt in
    let most : div_ceil n step * step < n + step = (div_ceil_times n step (omega arith)).1 in
    let next : suc i * step ≤ div_ceil n step * step = times (suc i) (div_ceil n step) below in
    let here : suc i * step ≡ i * step + step = grind arith in
    omega arith)
    (cases_eq n 0)
  where
    times : (a b : ℕ) → a ≤ b → a * step ≤ b * step
    times zero b le = let e : zero * step ≡ 0 = grind arith in omega arith
    times (suc a) zero le = absurd (omega arith)
    times (suc a) (suc b) le =
        let r = times a b (omega arith) in
        let x : suc a * step ≡ a * step + step = grind arith in
        let y : suc b * step ≡ b * step + step = grind arith in
        omega arith

spans_by : (parallel : Bool) (n step i : ℕ) → 1 ≤ step → i < count_by parallel n step
    → ((span_by parallel n step i).start ≡ upto parallel n step i) × (upto parallel n step (suc i) ≡ upto parallel n step i + (span_by parallel n step i).len)
spans_by true n step i le lt =
    let w = within n step i le lt in
    let s : suc i * step ≡ (i + 1) * step = grind arith in
    let g : (i + 1) * step ≡ i * step + step = grind arith in
    (omega arith, ap (λ x. min x n) s ∙ omega arith)
spans_by false n step zero le lt = (refl, omega arith)
spans_by false n step (suc i) le lt = absurd (omega arith)

enough : (n step : ℕ) → 0 < step → n ≤ count_of n step * step
enough n step h = ⊎_elim
    (λ z. omega arith)
    (λ ne. subst (λ x. n ≤ x * step) (sym (cond-false (nat_eq n 0) 1 (div_ceil n step) (ne_eqb n 0 ne))) (div_ceil_times n step h).0)
    (cases_eq n 0)

all_by : (parallel : Bool) (n step : ℕ) → 1 ≤ step → upto parallel n step (count_by parallel n step) ≡ n
all_by true n step le = let e = enough n step (omega arith) in omega arith
all_by false n step le = refl

pub all_indexes_run : AllIndexesRun
all_indexes_run plan job kernel fits = all_by job.parallel job.cut.n job.cut.step fits.cut.step.0

-- ---- a piece of a job, on the words of containers

length_word : (b : Bind) (w : ℕ) → IsLength b w → IsWordOf b w
length_word (Int z) w u = absurd u
length_word (Array at own) w u = absurd u
length_word (View at own) w u = record { from = omega arith; below = omega arith }
length_word (WholeList at) w u = absurd u
length_word (Ref at) w u = absurd u
length_word (Map at) w u = absurd u
length_word (Stream at own) w u = absurd u

reads_word : (only : Bool) (b : Bind) (from to w : ℕ) → ReadsBy only b from to w → IsWordOf b w
reads_word true b from to w u = u
reads_word false b from to w u = ⊎_elim (uses_word b from to w) (length_word b w) u

-- notes lie behind the words of containers
noted_keeps : (own : ℕ) (ts : List (ℕ × Trap)) (cells : Cells) (w : ℕ) → w < own → noted own ts cells w ≡ cells w
noted_keeps own [] cells w lt = refl
noted_keeps own (t ∷ more) cells w lt = with_cell-other cells own (Rattle.std.proofs.Common.pos (note_of (t ∷ more))) w (λ e. omega arith)

module _ (plan : Plan) (j : ℕ) (job : JobPlan) (kernel : Kernel) (has_job : job_at plan j ≡ Some job) (has_kernel : kernel_of plan job ≡ Some kernel)
    (checked : IsChecked kernel) (fits : JobFits plan job kernel) where
  pub part_runs : (i : ℕ) (cells : Cells) → part_run plan j i cells ≡ at_indexes kernel job.binds.items full_steps (indexes_of job i).len
      (indexes_of job i).start cells
  unfolding part_run
  part_runs i cells = ap (λ o. job_ran plan i o cells) has_job ∙ ap (λ k. part_ran job i k cells) has_kernel

  part_cells : (i : ℕ) (cells : Cells) (w : ℕ) → w < plan.cells → piece_cells plan (OfJob j i) cells w ≡ (part_run plan j i cells).store w
  unfolding piece_cells
  part_cells i cells w lt = noted_keeps (own_word plan j i) (part_run plan j i cells).traps (part_run plan j i cells).store w (omega arith)

  pub read_below : (from to w : ℕ) → IsRead kernel.params.items job.binds.items from to w → w < plan.cells
  read_below from to w r =
      let u = reads_word (is_read r.param.access) r.bind from to w r.reads in
      let le = fits.within r.number r.bind r.has_bind in
      let lt = u.below in
      omega arith

  module _ (earlier : List Piece) where
    abbrev before : Cells
    before = cells_past plan earlier

    abbrev go : ℕ → ℕ → Cells → Ran Cells
    go n from cells = at_indexes kernel job.binds.items full_steps n from cells

    first_parts : (i : ℕ) → i ≤ pieces_of job → AreFirstParts plan j job kernel earlier i
    first_parts zero le = record {
      cells = λ w lt. ap (λ n. (go n 0 before).store w) (sym (none job.parallel));
      traps = ap (λ n. map (job_trap j) (go n 0 before).traps) (sym (none job.parallel));
    }
      where
        none : (b : Bool) → upto b job.cut.n job.cut.step 0 ≡ 0
        none true = let e : 0 * job.cut.step ≡ 0 = grind arith in omega arith
        none false = refl
    first_parts (suc i) le =
        let old = first_parts i (omega arith) in
        let span = indexes_of job i in
        let sp = spans_by job.parallel job.cut.n job.cut.step i fits.cut.step.0 (omega arith) in
        let a : Cells = (go (indexes_before job i) 0 before).store in
        let b : Cells = cells_past plan (parts plan j i ++ earlier) in
        let d = read_words_decide.at_many kernel job.binds.items full_steps span.len span.start a b checked fits.binds
        (λ w r. old.cells w (read_below span.start (span.start + span.len) w r)) in
        let here : span.start ≡ 0 + indexes_before job i = sp.0 ∙ omega arith in
        record {
          cells = λ w lt.
              part_cells i b w lt
              ∙ ap (λ (r : Ran Cells). r.store w) (part_runs i b)
              ∙ d.1 w (old.cells w lt)
              ∙ ap (λ k. (go span.len k a).store w) here
              ∙ ap (λ (f : Cells). f w) (sym (indexes_are_cut.store kernel job.binds.items full_steps (indexes_before job i) span.len 0 before))
              ∙ ap (λ n. (go n 0 before).store w) (sym sp.1);
          traps =
              (λ k. old.traps k ++ map (job_trap j) (part_runs i b k).traps)
              ∙ ap (λ ts. map (job_trap j) (go (indexes_before job i) 0 before).traps ++ map (job_trap j) ts) (sym d.0)
              ∙ sym (map-append (job_trap j) (go (indexes_before job i) 0 before).traps (go span.len span.start a).traps)
              ∙ ap (λ k. map (job_trap j) ((go (indexes_before job i) 0 before).traps ++ (go span.len k a).traps)) here
              ∙ ap (map (job_trap j)) (sym (indexes_are_cut.traps kernel job.binds.items full_steps (indexes_before job i) span.len 0 before))
              ∙ ap (λ n. map (job_trap j) (go n 0 before).traps) (sym sp.1);
        }

pub pieces_run_as_one : PiecesRunAsOne
pieces_run_as_one plan j job kernel earlier has_job has_kernel checked fits i le = first_parts plan j job kernel has_job has_kernel checked fits earlier i le
