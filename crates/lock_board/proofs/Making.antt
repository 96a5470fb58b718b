-- A new content keeps what a content keeps.
use Rattle.std.proofs.Common.{◌≡◌, ◌≢◌, ℕ, zero, suc, ◌+◌, ◌-◌, ◌<◌, ◌≤◌, ⊎_elim, Bool, true, false, cond, not, ◌&&◌, ne_eqb, ltb, leb, List, [], ◌∷◌, ◌++◌, replicate, length, ℤ, pos, refl, sym, ap, subst, ◌∙◌, arith, Option, Some, None}
use Rattle.std.specs.Prelude.{slice_index, nat_eq}
use Rattle.std.proofs.lemmas.Bool.{cond-true, cond-false}
use Rattle.job_base.specs.declared.JobId.{JobId}
use Rattle.job_base.specs.Cells.{cells_of}
use Rattle.merge_laws.specs.Numbers.{tally}
use Rattle.merge_laws.specs.Graph.{cells_before}
use Rattle.merge_laws.specs.Core.{Lease}
use Rattle.merge_laws.proofs.Order.{latest_none, merged_same}
use Rattle.merge_laws.proofs.Sums.{tally_same}
use Rattle.frame_core.specs.declared.piece.Piece.{Piece}
use Rattle.frame_core.specs.declared.plan.Plan.{Plan}
use Rattle.frame_core.specs.Names.{has_job, deps_in, job_at, pieces_of, pieces_before}
use Rattle.frame_core.specs.Graphs.{piece_at, cells_at_first, graph_of}
use Rattle.frame_core.specs.Know.{is_of, piece_count}
use Rattle.frame_core.specs.Ordered.{IsWellOrderedPlan}
use Rattle.frame_core.proofs.Small.{not_both, either_bool, none_some}
use Rattle.frame_core.proofs.Counting.{all_of, deps_counted, within}
use Rattle.frame_core.proofs.Graphing.{has_plan}
use Rattle.frame_core.proofs.Numbered.{pieces_next, pieces_within}
use Rattle.frame_core.proofs.Planned.{has_kernel, has_pieces}
use Rattle.lock_board.specs.declared.state.State.{State}
use Rattle.lock_board.specs.declared.state.State.TheVariants.{Closed}
use Rattle.lock_board.specs.States.{is_over, is_counted, state_of, state_in, state_at}
use Rattle.lock_board.proofs.Knowing.{repeated_at}
use Rattle.lock_board.specs.Locked.{leased, locked, uncounted, unfinished, starter_number, IsKept}

-- HOW MANY DEPENDENCIES A JOB HAS

tally_most : (f : ℕ → Bool) (n : ℕ) → tally f n ≤ n
tally_most f zero = omega arith
tally_most f (suc n) = let r = tally_most f n in ⊎_elim
    (λ t. let e = cond-true (f n) (suc (tally f n)) (tally f n) t in omega arith)
    (λ t. let e = cond-false (f n) (suc (tally f n)) (tally f n) t in omega arith)
    (either_bool (f n))

-- no more than there are jobs
pub deps_few : (plan : Plan) → IsWellOrderedPlan plan → (j : ℕ) → j < length plan.jobs.items → length (deps_in (job_at plan j)) ≤ length plan.jobs.items
deps_few plan well j lt =
    let x = has_plan plan j lt in
    let k = has_kernel plan well.jobs j x.0 x.1 in
    let deps = (well.jobs.fits j x.0 k.0 x.1 k.1).deps in
    let c = deps_counted x.0.deps.items 0 (length plan.jobs.items) deps.0 deps.1 in
    let most = tally_most (λ i. has_job x.0.deps.items (suc i)) (length plan.jobs.items) in
    subst (λ o. length (deps_in o) ≤ length plan.jobs.items) (sym x.1) (omega arith)

-- A NEW CONTENT

pub record AreNew (plan : Plan) (ss : List State) (cs : List ℤ) (rs ws ds : List ℕ) : Type 0 where
  pub states : (p : ℕ) → state_of ss p ≡ Closed
  pub cells : (w : ℕ) → cells_of cs w ≡ cells_at_first plan w
  pub rests : (j : ℕ) → j < length plan.jobs.items → slice_index rs j ≡ pieces_before plan.jobs.items (suc j) - pieces_before plan.jobs.items j
  pub waits : (j : ℕ) → j < length plan.jobs.items → slice_index ws j ≡ 1 + length (deps_in (job_at plan j))
  pub dues : (j : ℕ) → slice_index ds j ≡ 0

first_is : (plan : Plan) (w : ℕ) → (graph_of plan).first w ≡ cells_at_first plan w
unfolding graph_of
first_is plan w = refl

-- a list of cells, and zeros
pub zeros_past : (cells : List ℤ) (more w : ℕ) → cells_of (cells ++ replicate more (pos 0)) w ≡ cells_of cells w
zeros_past [] more w = repeated_at more w (pos 0)
zeros_past (x ∷ cells) more zero = refl
zeros_past (x ∷ cells) more (suc w) = zeros_past cells more w

module _ (plan : Plan) (well : IsWellOrderedPlan plan) (states : List State) (cells : List ℤ) (rests waits dues : List ℕ)
    (N : AreNew plan states cells rests waits dues) where
  closed_at : (q : ℕ) → state_at plan states q ≡ Closed
  closed_at q = by (piece_at plan q)
    where
      by : (o : Option Piece) → state_in states plan o ≡ Closed
      by None = refl
      by (Some x) = N.states (Rattle.frame_core.specs.Pieces.number_of plan x)

  no_lease : (k : ℕ) (l : Lease) → leased plan k (state_at plan states k) ≡ Some l → ⊥
  no_lease k l e = none_some (sym (ap (leased plan k) (closed_at k)) ∙ e)

  not_over : (q : ℕ) → is_over (state_at plan states q) ≡ false
  not_over q = ap is_over (closed_at q)

  rest_new : (j : ℕ) → j < length plan.jobs.items → slice_index rests j ≡ uncounted plan states j
  rest_new j lt =
      let x = has_plan plan j lt in
      let next = pieces_next plan.jobs.items j x.0 x.1 in
      let fits = pieces_within plan.jobs.items j x.0 x.1 in
      let b : ℕ = pieces_before plan.jobs.items j in
      let c : ℕ = pieces_of x.0 in
      let e : ℕ = piece_count plan - (b + c) in
      let whole : piece_count plan ≡ b + c + e = omega arith in
      let size : slice_index rests j ≡ c = N.rests j lt ∙ omega arith in
      size ∙ sym (tally_same (λ p. is_of plan (suc j) p && not (is_counted (state_of states p))) (within b c) (piece_count plan)
      (λ p l. ap (λ s. is_of plan (suc j) p && not (is_counted s)) (N.states p) ∙ (and_true (is_of plan (suc j) p) ∙ ap (λ n. leb b p && ltb p n) next))
      ∙ (ap (tally (within b c)) whole ∙ all_of b c e))
    where
      and_true : (b : Bool) → (b && true) ≡ b
      and_true true = refl
      and_true false = refl

  -- each dependency has a piece
  rest_some : (d : ℕ) → d < length plan.jobs.items → slice_index rests d ≢ 0
  rest_some d lt e =
      let x = has_plan plan d lt in
      let next = pieces_next plan.jobs.items d x.0 x.1 in
      let some = has_pieces plan well.jobs d x.0 x.1 in
      let r = N.rests d lt in
      absurd (omega arith)

  wait_new : (j : ℕ) → j < length plan.jobs.items → slice_index waits j ≡ unfinished plan states rests j + slice_index dues j
  wait_new j lt =
      let x = has_plan plan j lt in
      let k = has_kernel plan well.jobs j x.0 x.1 in
      let deps = (well.jobs.fits j x.0 k.0 x.1 k.1).deps in
      let is : deps_in (job_at plan j) ≡ x.0.deps.items = ap deps_in x.1 in
      let due = N.dues j in
      let t : ℕ = tally (λ d. has_job (deps_in (job_at plan j)) (suc d) && not (nat_eq (slice_index rests d) 0)) (length plan.jobs.items) in
      let starter : cond (is_over (state_of states (starter_number plan j))) 0 1 ≡ 1 = ap (λ s. cond (is_over s) 0 1) (N.states (starter_number plan j)) in
      let all : t ≡ length (deps_in (job_at plan j)) =
      tally_same (λ d. has_job (deps_in (job_at plan j)) (suc d) && not (nat_eq (slice_index rests d) 0)) (λ d. has_job (deps_in (job_at plan j)) (suc d))
      (length plan.jobs.items)
      (λ d l. ap (λ (b : Bool). has_job (deps_in (job_at plan j)) (suc d) && not b) (ne_eqb (slice_index rests d) 0 (rest_some d l))
      ∙ and_true (has_job (deps_in (job_at plan j)) (suc d)))
      ∙ (ap (λ (l : List JobId). tally (λ d. has_job l (suc d)) (length plan.jobs.items)) is
      ∙ (deps_counted x.0.deps.items 0 (length plan.jobs.items) deps.0 deps.1 ∙ ap length (sym is))) in
      N.waits j lt ∙ by (cond (is_over (state_of states (starter_number plan j))) 0 1) t (length (deps_in (job_at plan j))) (slice_index dues j) starter all due
    where
      and_true : (b : Bool) → (b && true) ≡ b
      and_true true = refl
      and_true false = refl

      by : (s t n x : ℕ) → s ≡ 1 → t ≡ n → x ≡ 0 → 1 + n ≡ s + t + x
      by s t n x a b c = omega arith

  pub new_kept : IsKept plan (locked states cells rests waits dues)
  new_kept = record {
    well = well;
    consistent = record {
      sound = record {
        ended_ready = λ p e. absurd (not_both e (not_over p));
        lease_ready = λ k l e. absurd (no_lease k l e);
        lease_below = λ k l e. absurd (no_lease k l e);
        lease_unended = λ k l e. absurd (no_lease k l e);
        lease_once = λ j k l m e f. absurd (no_lease j l e);
      };
      merged = λ w none. N.cells w ∙ sym (merged_same (graph_of plan) (λ q. is_over (state_at plan states q)) (λ q. false) w (λ q t. not_over q)
          ∙ (ap (λ k. cells_before (graph_of plan) k w) (latest_none (graph_of plan) w (graph_of plan).count) ∙ first_is plan w));
    };
    ready = λ p lt live. absurd (live (N.states p));
    rest_is = rest_new;
    wait_is = wait_new;
    fits = λ j lt. let few = deps_few plan well j lt in let jobs = well.sized.jobs in let w = N.waits j lt in omega arith;
  }
