-- Traps and refused statements that a report counts.
use Rattle.std.proofs.Common.{◌≡◌, ◌≢◌, ℕ, zero, suc, ◌+◌, ◌-◌, ◌*◌, ◌<◌, ◌≤◌, ◌^◌, pos, List, [], ◌∷◌, ◌++◌, length, map, drop, Option, Some, None, refl, sym, ap, subst, ◌∙◌, arith}
use Rattle.std.specs.Prelude.{slice_get}
use Rattle.std.proofs.lemmas.Grind.{common_steps}
use Rattle.std.proofs.lemmas.Nat.{mod-mul-add}
use Rattle.job_base.specs.declared.Trap.{Trap}
use Rattle.job_base.specs.declared.limits.TheConstants.{MOST_INDEXES}
use Rattle.job_base.specs.declared.Refusal.{Refusal}
use Rattle.frame_ast.specs.States.{JobTrap}
use Rattle.merge_laws.specs.Graph.{Cells}
use Rattle.frame_core.specs.declared.piece.Piece.TheVariants.{OfScript, OfJob}
use Rattle.frame_core.specs.declared.plan.Op.{Op}
use Rattle.frame_core.specs.declared.plan.Segment.{Segment}
use Rattle.frame_core.specs.declared.plan.Plan.{Plan}
use Rattle.frame_core.specs.Names.{job_pieces, ops_in, segment_at}
use Rattle.frame_core.specs.Pieces.{piece_numbered, number_of, own_word, IsPieceOf}
use Rattle.frame_core.specs.Operations.{op_answer, op_cells, one_if_refused, ops_refused}
use Rattle.frame_core.specs.declared.trap_numbers.TheConstants.{NOTE_UNIT}
use Rattle.frame_core.specs.Effects.{trap_number, part_run}
use Rattle.frame_core.specs.Graphs.{before_piece, cells_after}
use Rattle.frame_core.specs.Output.{job_trap, piece_traps, first_traps, plan_traps, refused_of, plan_refused}
use Rattle.frame_core.specs.Ordered.{ops_count, IsWellOrderedPlan}
use Rattle.frame_core.specs.Laws.{TellsTraps}
use Rattle.frame_core.specs.Tallies.{own_word_numbered, noted_count, said, TellsNext, TellsFirst, TellsAll, ReportsTally, RefusalsAreFew}
use Rattle.frame_core.proofs.Numbered.{of_job, number_numbered}
use Rattle.frame_core.proofs.Reported.OwnWords.{traps_are_told}
use Rattle.frame_core.proofs.Reported.Traps.{traps_come_by_number}

-- ONE PIECE

told_count : (own : ℕ) (ts : List (ℕ × Trap)) (cells : Cells) → length ts ≤ MOST_INDEXES → TellsTraps own ts cells
    → noted_count (cells own) ≡ length ts
told_count own [] cells few t = ap noted_count t
told_count own (u ∷ more) cells few t =
    let e : length more + 1 ≡ suc (length more) = omega arith in
    ap noted_count t ∙ (mod-mul-add (trap_number u.1 * NOTE_UNIT + u.0) NOTE_UNIT (length more + 1) (omega arith) ∙ e)

-- an empty list has no length, and goes on as what follows
behind_empty : (xs ys : List JobTrap) (x : JobTrap) → length xs ≡ 0 → slice_get ys 0 ≡ Some x → slice_get (xs ++ ys) 0 ≡ Some x
behind_empty [] ys x none e = e
behind_empty (y ∷ xs) ys x none e = absurd (omega arith)

first_stays : (xs ys : List JobTrap) (x : JobTrap) → slice_get xs 0 ≡ Some x → slice_get (xs ++ ys) 0 ≡ Some x
first_stays [] ys x e = absurd (none_some e)
  where
    none_some : None ≡ Some x → ⊥
    none_some e = cc
first_stays (y ∷ xs) ys x e = e

module _ (plan : Plan) (well : IsWellOrderedPlan plan) (cells : Cells)
    (tells : (j i : ℕ) → IsPieceOf plan (OfJob j i) → TellsTraps (own_word plan j i) (part_run plan j i (before_piece plan (OfJob j i))).traps cells) where
  each : (p : ℕ) → p < job_pieces plan → TellsNext plan cells p
  each p lt =
      let n = of_job plan p lt in
      let m = number_numbered plan p (omega arith) in
      let is : IsPieceOf plan (OfJob n.0 n.1) = subst (IsPieceOf plan) n.2 m.is in
      let number : p ≡ number_of plan (OfJob n.0 n.1) = m.number ∙ ap (number_of plan) n.2 in
      let told = traps_are_told plan well n.0 n.1 is in
      let traps = (part_run plan n.0 n.1 (before_piece plan (OfJob n.0 n.1))).traps in
      record {
        job = n.0;
        part = n.1;
        is = n.2;
        traps = traps;
        next = ap (λ y. first_traps plan p ++ piece_traps plan y) n.2;
        told = subst (λ k. TellsTraps (plan.cells + k) traps cells) (sym number) (tells n.0 n.1 is);
        few = told.few;
        below = told.below;
      }

  longer : (p : ℕ) (t : TellsNext plan cells p) → length (first_traps plan (suc p)) ≡ length (first_traps plan p) + length t.traps
  longer p t =
      let split : length (first_traps plan p ++ map (job_trap t.job) t.traps) ≡ length (first_traps plan p) + length t.traps = grind (arith, common_steps) in
      ap length t.next ∙ split

  counted : (p : ℕ) → p ≤ job_pieces plan → said plan cells p ≡ length (first_traps plan p)
  counted zero le = refl
  counted (suc p) le =
      let t = each p (omega arith) in
      ap (λ n. n + noted_count (cells (own_word_numbered plan p))) (counted p (omega arith))
      ∙ (ap (λ n. length (first_traps plan p) + n) (told_count (own_word_numbered plan p) t.traps cells t.few t.told) ∙ sym (longer p t))

  so_far : (p : ℕ) → p ≤ job_pieces plan → length (first_traps plan p) ≤ MOST_INDEXES * p
  so_far zero le = omega arith
  so_far (suc p) le =
      let t = each p (omega arith) in
      let few = t.few in
      let here = so_far p (omega arith) in
      let more = longer p t in
      omega arith

  all : first_traps plan (job_pieces plan) ≡ plan_traps plan
  all = sym (traps_come_by_number plan)

  -- the first trap of the first pieces is the first one of more
  lasts : (d p : ℕ) (x : JobTrap) → slice_get (first_traps plan p) 0 ≡ Some x → slice_get (first_traps plan (p + d)) 0 ≡ Some x
  lasts zero p x e = let z : p + 0 ≡ p = omega arith in ap (λ n. slice_get (first_traps plan n) 0) z ∙ e
  lasts (suc d) p x e =
      let up : p + suc d ≡ suc (p + d) = omega arith in
      ap (λ n. slice_get (first_traps plan n) 0) up
      ∙ first_stays (first_traps plan (p + d)) (piece_traps plan (piece_numbered plan (p + d))) x (lasts d p x e)

  first_by : (p : ℕ) → p < job_pieces plan → said plan cells p ≡ 0 → (t : TellsNext plan cells p) → (ts : List (ℕ × Trap)) → ts ≡ t.traps
      → TellsTraps (own_word_numbered plan p) ts cells → cells (own_word_numbered plan p) ≢ pos 0 → TellsFirst plan cells p
  first_by p lt none t [] at told some = absurd (some told)
  first_by p lt none t (u ∷ more) at told some =
      let x = job_trap t.job u in
      let empty : length (first_traps plan p) ≡ 0 = sym (counted p (omega arith)) ∙ none in
      let here : slice_get (first_traps plan (suc p)) 0 ≡ Some x =
      ap (λ l. slice_get l 0) (t.next ∙ ap (λ l. first_traps plan p ++ map (job_trap t.job) l) (sym at))
      ∙ behind_empty (first_traps plan p) (map (job_trap t.job) (u ∷ more)) x empty refl in
      let far : suc p + (job_pieces plan - suc p) ≡ job_pieces plan = omega arith in
      record {
        job = t.job;
        part = t.part;
        is = t.is;
        trap = x;
        first = ap (λ l. slice_get l 0) (sym all ∙ ap (first_traps plan) (sym far)) ∙ lasts (job_pieces plan - suc p) (suc p) x here;
        of_job = refl;
        more = more;
        told = told;
      }

  few : MOST_INDEXES * job_pieces plan < 2 ^ 64
  few = let lt = well.sized.pieces in omega arith

  tells_all : TellsAll plan cells
  tells_all = record {
    each = each;
    all = all;
    number = counted (job_pieces plan) (omega arith) ∙ ap length all;
    first = λ p lt none some. let t = each p lt in first_by p lt none t t.traps refl t.told some;
    so_far = so_far;
    few = few;
  }

pub reports_tally : ReportsTally
reports_tally plan well = record {
  last = λ k e. tells_all plan well (before_piece plan (OfScript k)) (λ j i is. (traps_are_told plan well j i is).last k e);
  after = tells_all plan well (cells_after plan) (λ j i is. (traps_are_told plan well j i is).after);
}

-- REFUSED STATEMENTS

refused_once : (r : Option Refusal) → one_if_refused r ≤ 1
refused_once None = omega arith
refused_once (Some refusal) = omega arith

refused_within : (plan : Plan) (ops : List Op) (cells : Cells) → ops_refused plan ops cells ≤ length ops
refused_within plan [] cells = omega arith
refused_within plan (op ∷ more) cells =
    let one = refused_once (op_answer plan op cells) in
    let rest = refused_within plan more (op_cells plan op cells) in
    omega arith

ops_left : (segments : List Segment) (k : ℕ) → length (ops_in (slice_get segments k)) + ops_count (drop (suc k) segments) ≡ ops_count (drop k segments)
ops_left [] zero = refl
ops_left [] (suc k) = refl
ops_left (s ∷ more) zero = refl
ops_left (s ∷ more) (suc k) = ops_left more k

module _ (plan : Plan) where
  refused_then : (k : ℕ) → refused_of plan k + ops_count (drop k plan.segments.items) ≤ ops_count plan.segments.items
  refused_then zero = omega arith
  refused_then (suc k) =
      let before = refused_then k in
      let here = refused_within plan (ops_in (segment_at plan k)) (before_piece plan (OfScript k)) in
      let left = ops_left plan.segments.items k in
      omega arith

pub refusals_are_few : RefusalsAreFew
unfolding plan_refused
refusals_are_few plan well =
    let few : (k : ℕ) → refused_of plan k < 2 ^ 32 = λ k. let le = refused_then plan k in let all = well.sized.ops in omega arith in
    record { so_far = few; all = few (length plan.segments.items) }
