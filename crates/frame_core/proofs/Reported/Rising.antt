-- The traps of a plan rise, by job and by index.
use Rattle.std.proofs.Common.{◌≡◌, ℕ, zero, suc, ◌+◌, ◌*◌, ◌<◌, ◌≤◌, inl, inr, Bool, true, false, cond, List, [], ◌∷◌, ◌++◌, length, map, Option, Some, None, refl, sym, ap, subst, ◌∙◌, arith}
use Rattle.std.proofs.Math.Nat.{mul-le-mul_right}
use Rattle.job_base.specs.declared.Trap.{Trap}
use Rattle.batch_cut.specs.Cuts.{count_of, piece_of}
use Rattle.frame_ast.specs.declared.kernel.Kernel.{Kernel}
use Rattle.frame_ast.specs.Kernels.{Outcome, store_after, trap_after}
use Rattle.frame_ast.specs.JobRuns.{full_steps, trap_at, indexes}
use Rattle.frame_ast.specs.States.{JobTrap}
use Rattle.kernel_exec.specs.Laws.{at_index}
use Rattle.merge_laws.specs.Graph.{Cells}
use Rattle.frame_core.specs.declared.piece.Piece.TheVariants.{OfJob}
use Rattle.frame_core.specs.declared.plan.JobPlan.{JobPlan}
use Rattle.frame_core.specs.declared.plan.Plan.{Plan}
use Rattle.frame_core.specs.Names.{job_at, kernel_of, pieces_of, indexes_of}
use Rattle.frame_core.specs.Effects.{part_ran, job_ran, part_run}
use Rattle.frame_core.specs.Graphs.{before_piece}
use Rattle.frame_core.specs.Output.{job_trap, part_traps, parts_traps, pieces_in, jobs_traps, plan_traps}
use Rattle.frame_core.specs.Tallies.{ComesBefore, ComesBeforeAll, IsRising, TrapsRise}
use Rattle.frame_core.proofs.Graphing.{has_plan}

-- LISTS OF TRAPS

abbrev AllIn : (JobTrap → Type 0) → List JobTrap → Type 0
AllIn P [] = Unit {0}
AllIn P (t ∷ more) = P t × AllIn P more

all_append : (P : JobTrap → Type 0) (xs ys : List JobTrap) → AllIn P xs → AllIn P ys → AllIn P (xs ++ ys)
all_append P [] ys a b = b
all_append P (t ∷ xs) ys a b = (a.0, all_append P xs ys a.1 b)

all_so : (P Q : JobTrap → Type 0) (xs : List JobTrap) → ((t : JobTrap) → P t → Q t) → AllIn P xs → AllIn Q xs
all_so P Q [] f a = tt
all_so P Q (t ∷ xs) f a = (f t a.0, all_so P Q xs f a.1)

before_each : (Q : JobTrap → Type 0) (t : JobTrap) (ys : List JobTrap) → ((u : JobTrap) → Q u → ComesBefore t u) → AllIn Q ys → ComesBeforeAll t ys
before_each Q t [] f a = tt
before_each Q t (u ∷ ys) f a = (f u a.0, before_each Q t ys f a.1)

before_both : (t : JobTrap) (xs ys : List JobTrap) → ComesBeforeAll t xs → ComesBeforeAll t ys → ComesBeforeAll t (xs ++ ys)
before_both t [] ys a b = b
before_both t (u ∷ xs) ys a b = (a.0, before_both t xs ys a.1 b)

rising_append : (P Q : JobTrap → Type 0) (xs ys : List JobTrap) → ((t u : JobTrap) → P t → Q u → ComesBefore t u)
    → IsRising xs → AllIn P xs → IsRising ys → AllIn Q ys → IsRising (xs ++ ys)
rising_append P Q [] ys f rx px ry qy = ry
rising_append P Q (t ∷ xs) ys f rx px ry qy =
    (before_both t xs ys rx.0 (before_each Q t ys (λ u q. f t u px.0 q) qy), rising_append P Q xs ys f rx.1 px.1 ry qy)

-- SOME INDEXES OF A JOB

-- a trap of the job at place j, at an index from one on to before another
abbrev InSpan : ℕ → ℕ → ℕ → JobTrap → Type 0
InSpan j low high t = (t.job ≡ suc j) × (low ≤ t.index) × (t.index < high)

module _ {S : Type 0} (ex : ℕ → S → Outcome S) (j : ℕ) where
  abbrev traps : ℕ → ℕ → S → List JobTrap
  traps n index s = map (job_trap j) (indexes ex n index s).traps

  in_span : (high n index : ℕ) (s : S) → index + n ≤ high → AllIn (InSpan j index high) (traps n index s)
  in_span high zero index s le = tt
  in_span high (suc n) index s le = then (trap_after (ex index s)) (all_so (InSpan j (index + 1) high) (InSpan j index high)
      (traps n (index + 1) (store_after (ex index s))) (λ t h. let lo = h.1 in (h.0, omega arith, h.2))
      (in_span high n (index + 1) (store_after (ex index s)) (omega arith)))
    where
      then : (o : Option Trap) → AllIn (InSpan j index high) (traps n (index + 1) (store_after (ex index s)))
          → AllIn (InSpan j index high) (map (job_trap j) (trap_at index o ++ (indexes ex n (index + 1) (store_after (ex index s))).traps))
      then None h = h
      then (Some t) h = ((refl, omega arith, omega arith), h)

  rising : (n index : ℕ) (s : S) → IsRising (traps n index s)
  rising zero index s = tt
  rising (suc n) index s = then (trap_after (ex index s)) (in_span (index + 1 + n) n (index + 1) (store_after (ex index s)) (omega arith))
      (rising n (index + 1) (store_after (ex index s)))
    where
      then : (o : Option Trap) → AllIn (InSpan j (index + 1) (index + 1 + n)) (traps n (index + 1) (store_after (ex index s)))
          → IsRising (traps n (index + 1) (store_after (ex index s)))
          → IsRising (map (job_trap j) (trap_at index o ++ (indexes ex n (index + 1) (store_after (ex index s))).traps))
      then None h r = r
      then (Some t) h r = (
        before_each (InSpan j (index + 1) (index + 1 + n)) (job_trap j (index, t)) (traps n (index + 1) (store_after (ex index s)))
            (λ u q. let lo = q.1 in inr (sym q.0, omega arith)) h,
        r,
      )

-- PIECES OF A JOB

-- how many indexes each piece of a job has at most
abbrev width : JobPlan → ℕ
width x = cond x.parallel x.cut.step x.cut.n

edges : (b : Bool) (n step i : ℕ) → i < cond b (count_of n step) 1
    → let span = cond b (piece_of n step i) (record { start = 0; len = n }) in
    (i * cond b step n ≤ span.start) × (span.start + span.len ≤ suc i * cond b step n)
edges true n step i lt =
    let next : suc i * step ≡ i * step + step = grind arith in
    let up : (i + 1) * step ≡ i * step + step = grind arith in
    (omega arith, omega arith)
edges false n step zero lt = (let z : zero * n ≡ 0 = grind arith in omega arith, let one : suc zero * n ≡ n = grind arith in omega arith)
edges false n step (suc i) lt = absurd (omega arith)

abbrev IsBelow : ℕ → ℕ → JobTrap → Type 0
IsBelow j high t = (t.job ≡ suc j) × (t.index < high)

module _ (plan : Plan) (j : ℕ) (x : JobPlan) (hx : job_at plan j ≡ Some x) where
  ran_rises : (i : ℕ) (o : Option Kernel) (c : Cells) → IsRising (map (job_trap j) (part_ran x i o c).traps)
  ran_rises i None c = tt
  ran_rises i (Some k) c = rising (λ index cells. at_index k x.binds.items full_steps index cells) j (indexes_of x i).len (indexes_of x i).start c

  ran_within : (i : ℕ) (o : Option Kernel) (c : Cells) → AllIn (InSpan j (indexes_of x i).start ((indexes_of x i).start + (indexes_of x i).len))
      (map (job_trap j) (part_ran x i o c).traps)
  ran_within i None c = tt
  ran_within i (Some k) c =
      in_span (λ index cells. at_index k x.binds.items full_steps index cells) j ((indexes_of x i).start + (indexes_of x i).len) (indexes_of x i).len
      (indexes_of x i).start c (omega arith)

  -- the traps of a piece, as the run of its job
  part_is : (i : ℕ) → part_traps plan j i ≡ map (job_trap j) (part_ran x i (kernel_of plan x) (before_piece plan (OfJob j i))).traps
  unfolding part_run
  part_is i = ap (λ o. map (job_trap j) (job_ran plan i o (before_piece plan (OfJob j i))).traps) hx

  part_rises : (i : ℕ) → IsRising (part_traps plan j i)
  part_rises i = subst IsRising (sym (part_is i)) (ran_rises i (kernel_of plan x) (before_piece plan (OfJob j i)))

  part_within : (i : ℕ) → i < pieces_of x → AllIn (InSpan j (i * width x) (suc i * width x)) (part_traps plan j i)
  part_within i lt =
      let e = edges x.parallel x.cut.n x.cut.step i lt in
      let lo = e.0 in
      let hi = e.1 in
      let span = indexes_of x i in
      subst (AllIn (InSpan j (i * width x) (suc i * width x))) (sym (part_is i))
      (all_so (InSpan j span.start (span.start + span.len)) (InSpan j (i * width x) (suc i * width x))
      (map (job_trap j) (part_ran x i (kernel_of plan x) (before_piece plan (OfJob j i))).traps)
      (λ t h. let a = h.1 in let b = h.2 in (h.0, omega (arith, a, lo), omega (arith, b, hi)))
      (ran_within i (kernel_of plan x) (before_piece plan (OfJob j i))))

  parts_rise : (i : ℕ) → i ≤ pieces_of x → IsRising (parts_traps plan j i) × AllIn (IsBelow j (i * width x)) (parts_traps plan j i)
  parts_rise zero le = (tt, tt)
  parts_rise (suc i) le =
      let old = parts_rise i (omega arith) in
      let more = mul-le-mul_right {m = i} {n = suc i} (width x) (omega arith) in
      let in_ = part_within i (omega arith) in (
        rising_append (IsBelow j (i * width x)) (InSpan j (i * width x) (suc i * width x)) (parts_traps plan j i) (part_traps plan j i)
            (λ t u p q. let a = p.1 in let b = q.1 in inr (p.0 ∙ sym q.0, omega (arith, a, b))) old.0 old.1 (part_rises i) in_,
        all_append (IsBelow j (suc i * width x)) (parts_traps plan j i) (part_traps plan j i)
            (all_so (IsBelow j (i * width x)) (IsBelow j (suc i * width x)) (parts_traps plan j i) (λ t h. let a = h.1 in (h.0, omega (arith, a, more))) old.1)
            (all_so (InSpan j (i * width x) (suc i * width x)) (IsBelow j (suc i * width x)) (part_traps plan j i) (λ t h. (h.0, h.2)) in_),
      )

-- JOBS

module _ (plan : Plan) where
  abbrev IsUpTo : ℕ → JobTrap → Type 0
  IsUpTo j t = t.job ≤ j

  jobs_rise : (j : ℕ) → j ≤ length plan.jobs.items → IsRising (jobs_traps plan j) × AllIn (IsUpTo j) (jobs_traps plan j)
  jobs_rise zero le = (tt, tt)
  jobs_rise (suc j) le =
      let x = has_plan plan j (omega arith) in
      let old = jobs_rise j (omega arith) in
      let parts = subst (λ n. IsRising (parts_traps plan j n) × AllIn (IsBelow j (pieces_of x.0 * width x.0)) (parts_traps plan j n)) (ap pieces_in (sym x.1))
      (parts_rise plan j x.0 x.1 (pieces_of x.0) (omega arith)) in
      let all = parts_traps plan j (pieces_in (job_at plan j)) in (
        rising_append (IsUpTo j) (IsBelow j (pieces_of x.0 * width x.0)) (jobs_traps plan j) all
            (λ t u p q. let b = q.0 in inl (omega (arith, p, b))) old.0 old.1 parts.0 parts.1,
        all_append (IsUpTo (suc j)) (jobs_traps plan j) all
            (all_so (IsUpTo j) (IsUpTo (suc j)) (jobs_traps plan j) (λ t h. omega (arith, h)) old.1)
            (all_so (IsBelow j (pieces_of x.0 * width x.0)) (IsUpTo (suc j)) all (λ t h. let b = h.0 in omega (arith, b)) parts.1),
      )

pub traps_rise : TrapsRise
unfolding plan_traps
traps_rise plan = (jobs_rise plan (length plan.jobs.items) (omega arith)).0
