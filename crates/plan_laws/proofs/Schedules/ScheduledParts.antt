-- Small lemmas on the pieces, the numbers and the traps of a new job.
use Rattle.std.proofs.Common.{get_or, eq-eqb, ◌≡◌, ℕ, zero, suc, ◌+◌, ◌*◌, ◌<◌, ◌≤◌, ⊎_elim, Bool, true, false, cond, ne_eqb, List, [], ◌∷◌, ◌++◌, length, map, refl, sym, ap, subst, ◌∙◌, arith}
use Rattle.std.specs.Prelude.{nat_eq}
use Rattle.std.specs.Int.{div_ceil}
use Rattle.std.proofs.lemmas.Bool.{cases_eq, cond-false, or_left, or_right}
use Rattle.std.proofs.lemmas.Grind.{div_ceil_times}
use Rattle.batch_cut.specs.Cuts.{count_of}
use Rattle.job_base.specs.declared.JobId.{JobId}
use Rattle.job_base.specs.declared.Trap.{Trap}
use Rattle.merge_laws.specs.Pieces.{Piece}
use Rattle.merge_laws.proofs.Places.{at_new, at_old}
use Rattle.frame_core.specs.declared.plan.JobPlan.{JobPlan}
use Rattle.frame_core.specs.declared.plan.Plan.{Plan}
use Rattle.frame_core.specs.Names.{job_at, kernel_of, pieces_before, starts_from, numbers_from, number_in}
use Rattle.frame_core.specs.Names as names
use Rattle.frame_core.specs.Output.{job_trap}
use Rattle.plan_laws.specs.Drafts.{part_piece, parts}
use Rattle.plan_laws.specs.Planned.{HasPieceOf, renumbered}
use Rattle.plan_laws.specs.Scheduling.{script_trap}

pub some_pieces : (b : Bool) (n step : ℕ) → 1 ≤ step → 0 < cond b (count_of n step) 1
some_pieces false n step le = omega arith
some_pieces true n step le = ⊎_elim
    (λ z. subst (λ k. 0 < count_of k step) (sym z) (omega arith))
    (λ ne. subst (λ k. 0 < k) (sym (cond-false (nat_eq n 0) 1 (div_ceil n step) (ne_eqb n 0 ne)))
    (⊎_elim (λ z. let much : n ≤ div_ceil n step * step = (div_ceil_times n step (omega arith)).0 in
    let less : n ≤ 0 * step = subst (λ c. n ≤ c * step) z much in let zz : 0 * step ≡ 0 = grind arith in absurd (ne (omega arith))) (λ ne. omega arith)
    (cases_eq (div_ceil n step) 0)))
    (cases_eq n 0)

pub before_more : (xs : List JobPlan) (y : JobPlan) (j : ℕ) → j ≤ length xs → pieces_before (xs ++ y ∷ []) j ≡ pieces_before xs j
before_more xs y zero le = refl
before_more [] y (suc j) le = absurd (omega arith)
before_more (x ∷ xs) y (suc j) le = ap (λ k. names.pieces_of x + k) (before_more xs y j (omega arith))

pub numbers_more : (m n : ℕ) → numbers_from m n ++ (m + n) ∷ [] ≡ numbers_from m (suc n)
numbers_more m zero = let e : m + 0 ≡ m = omega arith in ap (λ k. k ∷ []) e
numbers_more m (suc n) = let e : m + suc n ≡ suc m + n = omega arith in ap (λ k. m ∷ (numbers_from (suc m) n ++ k ∷ [])) e
    ∙ ap (λ ns. m ∷ ns) (numbers_more (suc m) n)

pub has_it : (ids : List JobId) (k : ℕ) (id : JobId) → k < length ids → names.has_job ids (get_or ids k id).0 ≡ true
has_it [] k id lt = absurd (omega arith)
has_it (x ∷ ids) zero id lt = or_left (nat_eq x.0 x.0) (names.has_job ids x.0) (eq-eqb x.0 x.0 refl)
has_it (x ∷ ids) (suc k) id lt = or_right (nat_eq x.0 (get_or ids k id).0) (names.has_job ids (get_or ids k id).0) (has_it ids k id (omega arith))

pub part_over : (y : Piece) (e : List Piece) (j : ℕ) → HasPieceOf e j → HasPieceOf (y ∷ e) j
part_over y e j h = (h.0, (let lt = h.1 in omega arith), ap (λ (z : Piece). z.job) (at_old y e h.0 (λ z. let lt = h.1 in omega arith)) ∙ h.2)

pub parts_over : (plan : Plan) (n m : ℕ) (e : List Piece) (j : ℕ) → HasPieceOf e j → HasPieceOf (parts plan n m ++ e) j
parts_over plan n zero e j h = h
parts_over plan n (suc m) e j h = part_over (part_piece plan n m) (parts plan n m ++ e) j (parts_over plan n m e j h)

pub part_there : (plan : Plan) (n m : ℕ) (e : List Piece) → 0 < m → HasPieceOf (parts plan n m ++ e) (suc n)
part_there plan n zero e pos = absurd (omega arith)
part_there plan n (suc m) e pos = (length (parts plan n m ++ e), omega arith, ap (λ (z : Piece). z.job) (at_new (part_piece plan n m) (parts plan n m ++ e)))

pub traps_renumbered : (before n j : ℕ) → before + suc n ≡ j → (ts : List (ℕ × Trap)) → map (renumbered before) (map (job_trap n) ts) ≡ map (script_trap j) ts
traps_renumbered before n j e [] = refl
traps_renumbered before n j e (t ∷ ts) = λ i. record { job = e i; index = t.0; trap = t.1 } ∷ traps_renumbered before n j e ts i
