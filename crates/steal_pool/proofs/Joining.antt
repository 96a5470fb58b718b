-- Reports that are joined, and what bounds them.
use Rattle.std.proofs.Common.{◌≡◌, ℕ, zero, suc, ◌+◌, ◌*◌, ◌<◌, ◌≤◌, List, [], ◌∷◌, ◌++◌, length, map, refl, sym, ap, subst, ◌∙◌, arith}
use Rattle.std.specs.Prelude.{slice_get, IfSome}
use Rattle.std.proofs.lemmas.Grind.{common_steps}
use Rattle.job_base.specs.declared.Trap.{Trap}
use Rattle.job_base.specs.declared.limits.TheConstants.{MOST_INDEXES}
use Rattle.frame_ast.specs.States.{JobTrap}
use Rattle.frame_core.specs.declared.report.Report.{Report}
use Rattle.frame_core.specs.Reports.{Names, IsReportOf}
use Rattle.frame_core.specs.declared.plan.Plan.{Plan}
use Rattle.frame_core.specs.Names.{job_pieces, job_at}
use Rattle.frame_core.specs.Output.{job_trap, first_traps, part_traps, parts_traps, jobs_traps, pieces_in, plan_traps}
use Rattle.frame_core.proofs.Reported.Tallies.{reports_tally, refusals_are_few}
use Rattle.steal_pool.specs.Sections.{shifted, ReportsAreWithin}

-- JOINED REPORTS

longer : (a b : List JobTrap) (n : ℕ) (r s new : Report) → IsReportOf a r → IsReportOf b s → new.traps ≡ r.traps + s.traps
    → length (a ++ shifted n b) ≡ new.traps
longer a b n r s new p q count =
    let x = p.number in
    let y = q.number in
    let e : length (a ++ shifted n b) ≡ length a + length b = grind (arith, common_steps) in
    omega (arith, x, y, e, count)

none_in : (b : List JobTrap) → length b ≡ 0 → b ≡ []
none_in [] e = refl
none_in (t ∷ b) e = let h : suc (length b) ≡ 0 = e in absurd (omega (arith, h))

names_on : (a c : List JobTrap) (r new : Report) → new.job ≡ r.job → new.index ≡ r.index → new.trap ≡ r.trap → (length a ≡ 0 → c ≡ [])
    → IfSome (slice_get a 0) (Names r) → IfSome (slice_get (a ++ c) 0) (Names new)
names_on [] c r new i k t none h = subst (λ (l : List JobTrap). IfSome (slice_get l 0) (Names new)) (sym (none refl)) tt
names_on (x ∷ a) c r new i k t none h = record { job = h.job ∙ ap (λ id. id.0) (sym i); index = h.index ∙ sym k; trap = h.trap ∙ sym t }

-- the earlier report names the first trap, if there is one
pub join_on : (a b : List JobTrap) (n : ℕ) (r s new : Report) → new.traps ≡ r.traps + s.traps → new.job ≡ r.job → new.index ≡ r.index → new.trap ≡ r.trap
    → (r.traps ≡ 0 → s.traps ≡ 0) → IsReportOf a r → IsReportOf b s → IsReportOf (a ++ shifted n b) new
join_on a b n r s new count i k t none p q = record {
  number = longer a b n r s new p q count;
  first = names_on a (shifted n b) r new i k t (λ e. ap (shifted n) (none_in b (q.number ∙ none (sym p.number ∙ e)))) p.first;
}

first_named : (b : List JobTrap) (n : ℕ) (s new : Report) → new.job.0 ≡ s.job.0 + n → new.index ≡ s.index → new.trap ≡ s.trap → IfSome (slice_get b 0) (Names s)
    → IfSome (slice_get (shifted n b) 0) (Names new)
first_named [] n s new i k t h = tt
first_named (x ∷ b) n s new i k t h = record { job = ap (λ m. m + n) h.job ∙ sym i; index = h.index ∙ sym k; trap = h.trap ∙ sym t }

-- the earlier report has no trap
pub join_first : (a b : List JobTrap) (n : ℕ) (r s new : Report) → new.traps ≡ r.traps + s.traps → new.job.0 ≡ s.job.0 + n → new.index ≡ s.index
    → new.trap ≡ s.trap → r.traps ≡ 0 → IsReportOf a r → IsReportOf b s → IsReportOf (a ++ shifted n b) new
join_first a b n r s new count i k t none p q = record {
  number = longer a b n r s new p q count;
  first = subst (λ (l : List JobTrap). IfSome (slice_get (l ++ shifted n b) 0) (Names new)) (sym (none_in a (p.number ∙ none)))
      (first_named b n s new i k t q.first);
}

-- BOUNDS

-- the jobs of all these traps are numbered up to n
abbrev UpTo : ℕ → List JobTrap → Type 0
UpTo n [] = Unit {0}
UpTo n (t ∷ ts) = (t.job ≤ n) × UpTo n ts

up_to_more : (n : ℕ) (a b : List JobTrap) → UpTo n a → UpTo n b → UpTo n (a ++ b)
up_to_more n [] b p q = q
up_to_more n (t ∷ a) b p q = (p.0, up_to_more n a b p.1 q)

up_to_next : (n : ℕ) (a : List JobTrap) → UpTo n a → UpTo (suc n) a
up_to_next n [] p = tt
up_to_next n (t ∷ a) p = let h = p.0 in (omega (arith, h), up_to_next n a p.1)

up_to_job : (j : ℕ) (ts : List (ℕ × Trap)) → UpTo (suc j) (map (job_trap j) ts)
up_to_job j [] = tt
up_to_job j (t ∷ ts) = (omega arith, up_to_job j ts)

up_to_parts : (plan : Plan) (j i : ℕ) → UpTo (suc j) (parts_traps plan j i)
up_to_parts plan j zero = tt
up_to_parts plan j (suc i) = up_to_more (suc j) (parts_traps plan j i) (part_traps plan j i) (up_to_parts plan j i) (up_to_job j _)

up_to_jobs : (plan : Plan) (n : ℕ) → UpTo n (jobs_traps plan n)
up_to_jobs plan zero = tt
up_to_jobs plan (suc j) = up_to_more (suc j) (jobs_traps plan j) (parts_traps plan j (pieces_in (job_at plan j)))
    (up_to_next j (jobs_traps plan j) (up_to_jobs plan j)) (up_to_parts plan j (pieces_in (job_at plan j)))

first_up_to : (n : ℕ) (ts : List JobTrap) (r : Report) → UpTo n ts → 0 < length ts → IfSome (slice_get ts 0) (Names r) → r.job.0 ≤ n
first_up_to n [] r p lt h = absurd (omega (arith, lt))
first_up_to n (t ∷ ts) r p lt h = let a = p.0 in let b = h.job in omega (arith, a, b)

job_up_to : (plan : Plan) (r : Report) → IsReportOf (plan_traps plan) r → 0 < r.traps → r.job.0 ≤ length plan.jobs.items
unfolding plan_traps
job_up_to plan r is some =
    let n = is.number in
    first_up_to (length plan.jobs.items) (jobs_traps plan (length plan.jobs.items)) r (up_to_jobs plan (length plan.jobs.items))
    (omega (arith, n, some)) is.first

pub reports_are_within : ReportsAreWithin
reports_are_within plan report well is =
    let tally = (reports_tally plan well).after in
    record {
      traps =
          let few : length (first_traps plan (job_pieces plan)) ≤ MOST_INDEXES * job_pieces plan = tally.so_far (job_pieces plan) (omega arith) in
          let all = ap length tally.all in
          let number = is.traps.number in
          omega (arith, few, all, number);
      refused = let a = is.refused in let b = (refusals_are_few plan well).all in omega (arith, a, b);
      job = λ some. job_up_to plan report is.traps some;
    }
