-- The pieces of a job are apart.
use Rattle.std.proofs.Common.{◌≡◌, ◌≢◌, ℕ, zero, suc, ◌+◌, ◌*◌, ◌<◌, ◌≤◌, ◌⊎◌, inl, inr, ⊎_elim, Bool, true, false, ◌||◌, List, ◌∷◌, Some, refl, sym, ap, subst, ◌∙◌, arith}
use Rattle.std.specs.Prelude.{if◌then◌else◌}
use Rattle.std.proofs.lemmas.Bool.{cases_lt}
use Rattle.std.proofs.lemmas.Nat.{mul-le}
use Rattle.batch_cut.specs.Cuts.{piece_of}
use Rattle.job_base.specs.declared.Span.{Span}
use Rattle.frame_ast.specs.declared.kernel.Kernel.{Kernel}
use Rattle.kernel_exec.proofs.Apart.{own_parts_are_apart}
use Rattle.merge_laws.specs.Planning.{AreApart, IsApartFrom}
use Rattle.frame_core.specs.declared.piece.Piece.TheVariants.{OfJob}
use Rattle.frame_core.specs.declared.plan.JobPlan.{JobPlan}
use Rattle.frame_core.specs.declared.plan.Plan.{Plan}
use Rattle.frame_core.specs.declared.touch.Touch.{Touch}
use Rattle.frame_core.specs.Names.{job_at, kernel_of, pieces_of, indexes_of}
use Rattle.frame_core.specs.Pieces.{own_word}
use Rattle.frame_core.specs.Touches.{has_word, reads_in, writes_in, binds_touch}
use Rattle.frame_core.specs.Effects.{touches, part_touches, params_in}
use Rattle.frame_core.specs.Ordered.{JobFits}
use Rattle.frame_core.proofs.Small.{not_both}
use Rattle.frame_core.proofs.Extents.Touching.{it_has, writes_read}
use Rattle.plan_laws.specs.Drafts.{part_piece, parts}
use Rattle.plan_laws.specs.Planned.{Outline}
use Rattle.plan_laws.specs.Apart.{PartsAreApart}
use Rattle.frame_core.specs.Touched.{IsBound}
use Rattle.frame_core.proofs.Extents.Touched.{touched_words_are_used}

-- a piece's own word and the words of its binds
abbrev pub job_touches : Plan → ℕ → JobPlan → Kernel → ℕ → List Touch
job_touches plan n job kernel i =
    record { from = own_word plan n i; end = own_word plan n i + 1; written = true }
    ∷ binds_touch job.parallel kernel.params.items job.binds.items (indexes_of job i).start ((indexes_of job i).start + (indexes_of job i).len)

pub touches_are : (plan : Plan) (n : ℕ) (job : JobPlan) (kernel : Kernel) → job_at plan n ≡ Some job → kernel_of plan job ≡ Some kernel → (i : ℕ)
    → touches plan (OfJob n i) ≡ job_touches plan n job kernel i
unfolding touches
touches_are plan n job kernel has has_kernel i =
    ap (part_touches plan n i) has
    ∙ ap (λ k. record { from = own_word plan n i; end = own_word plan n i + 1; written = true }
    ∷ binds_touch job.parallel (params_in k) job.binds.items (indexes_of job i).start ((indexes_of job i).start + (indexes_of job i).len)) has_kernel

or_cases : (a b : Bool) → (a || b) ≡ true → (a ≡ true) ⊎ (b ≡ true)
or_cases true b e = inl refl
or_cases false b e = inr e

module _ (x : Outline) (n : ℕ) (job : JobPlan) (kernel : Kernel) (has : job_at x.plan n ≡ Some job) (has_kernel : kernel_of x.plan job ≡ Some kernel)
    (fits : JobFits x.plan job kernel) where
  abbrev own : ℕ → Touch
  own i = record { from = own_word x.plan n i; end = own_word x.plan n i + 1; written = true }

  abbrev binds : ℕ → List Touch
  binds i = binds_touch job.parallel kernel.params.items job.binds.items (indexes_of job i).start ((indexes_of job i).start + (indexes_of job i).len)

  pub read_by : (i w : ℕ) → reads_in (touches x.plan (OfJob n i)) w ≡ true → (has_word (own i) w ≡ true) ⊎ (reads_in (binds i) w ≡ true)
  read_by i w e = or_cases _ _ (sym (ap (λ ts. reads_in ts w) (touches_are x.plan n job kernel has has_kernel i)) ∙ e)

  pub written_by : (i w : ℕ) → writes_in (touches x.plan (OfJob n i)) w ≡ true → (has_word (own i) w ≡ true) ⊎ (writes_in (binds i) w ≡ true)
  written_by i w e = or_cases _ _ (sym (ap (λ ts. writes_in ts w) (touches_are x.plan n job kernel has has_kernel i)) ∙ e)

  -- the words of binds are those of containers
  pub bound_below : (i w : ℕ) → reads_in (binds i) w ≡ true → w < x.plan.cells
  bound_below i w e =
      let b : IsBound kernel.params.items job.binds.items w = touched_words_are_used.bound job.parallel kernel.params.items job.binds.items _ _ w e in
      let le = fits.within b.number b.bind b.has_bind in
      let lt = b.word.below in
      omega arith

  own_above : (i w : ℕ) → has_word (own i) w ≡ true → x.plan.cells ≤ w
  own_above i w e = let b = (it_has (own i) w e).0 in omega arith

  own_apart : (i k w : ℕ) → i ≢ k → has_word (own i) w ≡ true → has_word (own k) w ≡ true → ⊥
  own_apart i k w ne a b =
      let p = it_has (own i) w a in
      let q = it_has (own k) w b in
      let a0 = p.0 in let a1 = p.1 in let b0 = q.0 in let b1 = q.1 in
      ⊎_elim (λ lt. absurd (omega arith)) (λ ge. ⊎_elim (λ lt. absurd (omega arith)) (λ le. ne (omega arith)) (cases_lt k i)) (cases_lt i k)

  span_by : Bool → ℕ → Span
  span_by parallel i = if parallel then piece_of job.cut.n job.cut.step i else record { start = 0; len = job.cut.n }

  -- indexes of different pieces
  ordered : (i k : ℕ) → i < k → (indexes_of job i).start + (indexes_of job i).len ≤ (piece_of job.cut.n job.cut.step k).start ⊎ (job.parallel ≡ false)
  ordered i k lt = by job.parallel refl
    where
      by : (b : Bool) → job.parallel ≡ b → ((if b then piece_of job.cut.n job.cut.step i else record { start = 0; len = job.cut.n }).start +
          (if b then piece_of job.cut.n job.cut.step i else record { start = 0; len = job.cut.n }).len ≤ (piece_of job.cut.n job.cut.step k).start)
          ⊎ (job.parallel ≡ false)
      by true e =
          let next : (i + 1) * job.cut.step ≤ k * job.cut.step = mul-le (i + 1) job.cut.step k job.cut.step (omega arith) (omega arith) in
          let more : (i + 1) * job.cut.step ≡ i * job.cut.step + job.cut.step = grind arith in
          inl (omega arith)
      by false e = inr e

  parallel_span : (k : ℕ) → job.parallel ≡ true → indexes_of job k ≡ piece_of job.cut.n job.cut.step k
  parallel_span k e = ap (λ b. if b then piece_of job.cut.n job.cut.step k else record { start = 0; len = job.cut.n }) e

  -- two pieces of it, so it is parallel
  several : (i k : ℕ) → i ≢ k → i < pieces_of job → k < pieces_of job → job.parallel ≡ true
  several i k ne li lk = by job.parallel refl
    where
      by : (b : Bool) → job.parallel ≡ b → b ≡ true
      by true e = refl
      by false e =
          let one : pieces_of job ≡ 1 = ap (λ b. if b then Rattle.batch_cut.specs.Cuts.count_of job.cut.n job.cut.step else 1) e in
          absurd (ne (omega arith))

  beyond : (i k : ℕ) → i ≢ k → job.parallel ≡ true → ((indexes_of job i).start + (indexes_of job i).len ≤ (indexes_of job k).start)
      ⊎ ((indexes_of job k).start + (indexes_of job k).len ≤ (indexes_of job i).start)
  beyond i k ne par =
      let pi = parallel_span i par in
      let pk = parallel_span k par in
      ⊎_elim
      (λ lt. ⊎_elim (λ le. inl (subst (λ (s : Span). (indexes_of job i).start + (indexes_of job i).len ≤ s.start) (sym pk) le)) (λ f. absurd (not_both par f))
      (ordered i k lt))
      (λ ge. ⊎_elim (λ le. inr (subst (λ (s : Span). (indexes_of job k).start + (indexes_of job k).len ≤ s.start) (sym pi) le)) (λ f. absurd (not_both par f))
      (ordered k i (omega arith)))
      (cases_lt i k)

  clash : (i k w : ℕ) → i ≢ k → i < pieces_of job → k < pieces_of job → writes_in (touches x.plan (OfJob n i)) w ≡ true
      → reads_in (touches x.plan (OfJob n k)) w ≡ true → ⊥
  clash i k w ne li lk a b =
      let par = several i k ne li lk in
      ⊎_elim
      (λ own_i. ⊎_elim (λ own_k. own_apart i k w ne own_i own_k) (λ bound. let lt = bound_below k w bound in let ge = own_above i w own_i in
      absurd (omega arith)) (read_by k w b))
      (λ wrote. ⊎_elim
      (λ own_k. let lt = bound_below i w (writes_read (binds i) w wrote) in let ge = own_above k w own_k in absurd (omega arith))
      (λ bound. own_parts_are_apart kernel job.binds.items (indexes_of job i).start ((indexes_of job i).start + (indexes_of job i).len) (indexes_of job k).start
      ((indexes_of job k).start + (indexes_of job k).len) w fits.binds (fits.parts par) (beyond i k ne par)
      (touched_words_are_used.writes kernel.params.items job.binds.items _ _ w
      (subst (λ p. writes_in (binds_touch p kernel.params.items job.binds.items (indexes_of job i).start
      ((indexes_of job i).start + (indexes_of job i).len)) w ≡ true) par wrote))
      (touched_words_are_used.reads kernel.params.items job.binds.items _ _ w
      (subst (λ p. reads_in (binds_touch p kernel.params.items job.binds.items (indexes_of job k).start ((indexes_of job k).start + (indexes_of job k).len))
      w ≡ true) par bound)))
      (read_by k w b))
      (written_by i w a)

  none : (b : Bool) → (b ≡ true → ⊥) → b ≡ false
  none true f = absurd (f refl)
  none false f = refl

  two_apart : (k i : ℕ) → k < i → i < pieces_of job → AreApart (part_piece x.plan n k) (part_piece x.plan n i)
  two_apart k i lt li = record {
    first = λ w e. none _ (λ r. clash k i w (λ h. omega arith) (omega arith) li e r);
    second = λ w e. none _ (λ r. clash i k w (λ h. omega arith) li (omega arith) e r);
  }

  from_all : (k i : ℕ) → k ≤ i → i < pieces_of job → IsApartFrom (part_piece x.plan n i) (parts x.plan n k)
  from_all zero i le li = tt
  from_all (suc k) i le li = (two_apart k i (omega arith) li, from_all k i (omega arith) li)

pub parts_are_apart : PartsAreApart
parts_are_apart x n job kernel has has_kernel fits i lt = from_all x n job kernel has has_kernel fits i i (omega arith) lt
