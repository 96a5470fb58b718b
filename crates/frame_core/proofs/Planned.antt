-- A well ordered plan meets the laws of the merge.
use Rattle.std.proofs.Common.{◌≡◌, ℕ, zero, suc, ◌*◌, ◌<◌, ◌≤◌, ◌^◌, ⊎_elim, ne_eqb, Bool, true, false, cond, List, [], ◌∷◌, length, Option, Some, None, refl, sym, subst, arith}
use Rattle.std.specs.Prelude.{slice_get, nat_eq}
use Rattle.std.specs.Int.{div_ceil}
use Rattle.std.proofs.lemmas.Bool.{cases_eq, cond-false}
use Rattle.std.proofs.lemmas.Grind.{div_ceil_times}
use Rattle.batch_cut.specs.Cuts.{count_of}
use Rattle.frame_ast.specs.declared.kernel.Kernel.{Kernel}
use Rattle.merge_laws.specs.Graph.{cells_before, IsWellOrdered}
use Rattle.frame_core.specs.declared.piece.Piece.{Piece}
use Rattle.frame_core.specs.declared.plan.JobPlan.{JobPlan}
use Rattle.frame_core.specs.declared.plan.Plan.{Plan}
use Rattle.frame_core.specs.Names.{job_at, kernel_of, pieces_of}
use Rattle.frame_core.specs.Graphs.{piece_at, touches_at, cells_at, graph_of}
use Rattle.frame_core.specs.Ordered.{IsSized, AreJobsFitting, IsWellOrderedPlan}
use Rattle.frame_core.specs.Laws.{PlansMeetTheLaws, PiecesAreNamed, PredecessorsAreOfFourKinds}
use Rattle.frame_core.proofs.Extents.Touching.{writes_read}
use Rattle.frame_core.proofs.Framing.{piece_frames}
use Rattle.frame_core.specs.Framed.{Frames, PiecesKeepToTouches}
use Rattle.frame_core.proofs.Orders.{at_place, piece_is_at}
use Rattle.frame_core.proofs.Graphing.{jobs_are, parts_are, graph_is, precedes_it}
use Rattle.frame_core.proofs.Numbered.{numbered_number, number_below, number_numbered, of_job, of_script}

pub cells_fit : (plan : Plan) → IsSized plan → plan.cells < 2 ^ 32
cells_fit plan sized = let e = sized.words_are in let lt = sized.words in omega arith

-- each job has a piece
some_piece : (n step : ℕ) → 1 ≤ step → 0 < count_of n step
some_piece zero step le = omega arith
some_piece (suc n) step le =
    let much : suc n ≤ div_ceil (suc n) step * step = (div_ceil_times (suc n) step le).0 in
    let some : 0 < div_ceil (suc n) step = ⊎_elim
    (λ z. let less : suc n ≤ 0 * step = subst (λ c. suc n ≤ c * step) z much in absurd (omega arith))
    (λ ne. omega arith)
    (cases_eq (div_ceil (suc n) step) 0) in
    subst (λ c. 0 < c) (sym (cond-false (nat_eq (suc n) 0) 1 (div_ceil (suc n) step) (ne_eqb (suc n) 0 (omega arith)))) some

by_parallel : (b : Bool) (n step : ℕ) → 1 ≤ step → 0 < cond b (count_of n step) 1
by_parallel true n step le = some_piece n step le
by_parallel false n step le = omega arith

pub has_kernel : (plan : Plan) → AreJobsFitting plan → (j : ℕ) (x : JobPlan) → job_at plan j ≡ Some x → (k : Kernel) × (kernel_of plan x ≡ Some k)
has_kernel plan jobs j x h = by plan.kernels.items x.kernel (jobs.has_kernel j x h)
  where
    by : (ks : List Kernel) (n : ℕ) → n < length ks → (k : Kernel) × (slice_get ks n ≡ Some k)
    by [] n lt = absurd (omega arith)
    by (k ∷ ks) zero lt = (k, refl)
    by (k ∷ ks) (suc n) lt = by ks n (omega arith)

pub has_pieces : (plan : Plan) → AreJobsFitting plan → (j : ℕ) (x : JobPlan) → job_at plan j ≡ Some x → 0 < pieces_of x
has_pieces plan jobs j x h =
    let k = has_kernel plan jobs j x h in
    by_parallel x.parallel x.cut.n x.cut.step (jobs.fits j x k.0 h k.1).cut.step.0

module _ (plan : Plan) (well : IsWellOrderedPlan plan) where
  frames : (o : Option Piece) → Frames (touches_at plan o) (cells_at plan o)
  frames None = record { kept = λ a w out. refl; same = λ a b agree w e. e }
  frames (Some x) = piece_frames plan (cells_fit plan well.sized) well.jobs well.ops x

  pub graph_ordered : IsWellOrdered (graph_of plan)
  unfolding graph_of
  graph_ordered = record {
    reads_written = λ p w lt e. writes_read (touches_at plan (piece_at plan p)) w e;
    earlier = λ p q lt e. well.order.earlier p q lt e;
    conflicts_lead = well.conflicts;
    writes_only = λ p w lt e. (frames (piece_at plan p)).kept (cells_before (graph_of plan) p) w e;
    reads_only = λ p cells lt agree w e.
        (frames (piece_at plan p)).same (cells_before (graph_of plan) p) cells agree w (agree w (writes_read (touches_at plan (piece_at plan p)) w e));
  }

pub plans_meet_the_laws : PlansMeetTheLaws
plans_meet_the_laws plan well = record {
  ordered = graph_ordered plan well;
  jobs = jobs_are plan well.order (has_pieces plan well.jobs);
  of = graph_is plan well.order (has_pieces plan well.jobs);
  parts = parts_are plan well.order (has_pieces plan well.jobs);
}

pub pieces_are_named : PiecesAreNamed
pieces_are_named plan well = record {
  numbered = λ p lt. let n = number_numbered plan p lt in (n.is, sym n.number);
  number = λ x h. (number_below plan x h, numbered_number plan x h);
  of_job = of_job plan;
  of_script = of_script plan;
  place = λ x h. at_place plan well.order.starts x h;
  placed = λ p x e. let a = piece_is_at plan well.order.starts p x e in (a.is, sym a.place);
}

pub pieces_keep_to_touches : PiecesKeepToTouches
pieces_keep_to_touches plan well x = piece_frames plan (cells_fit plan well.sized) well.jobs well.ops x

pub predecessors_are_of_four_kinds : PredecessorsAreOfFourKinds
predecessors_are_of_four_kinds plan well q p =
    (λ t. (graph_is plan well.order (has_pieces plan well.jobs)).predecessor q p t, λ h. precedes_it plan well.order (has_pieces plan well.jobs) q p h)
