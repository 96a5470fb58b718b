-- The chain as it is walked back.
use Rattle.std.proofs.Common.{◌≡◌, ℕ, zero, suc, ◌-◌, ◌<◌, ◌≤◌, List, [], ◌∷◌, ◌++◌, length, reverse, get_or, append_assoc, Option, Some, None, refl, sym, ap, subst, ◌∙◌, arith}
use Rattle.std.proofs.lemmas.Grind.{common_steps}
use Rattle.job_base.specs.declared.JobId.{JobId}
use Rattle.frame_core.specs.declared.plan.Plan.{Plan}
use Rattle.frame_core.specs.Ordered.{IsWellOrderedPlan}
use Rattle.job_depth.specs.Chains.{job_count, number_of_job, ChosenTo, first, next}
use Rattle.job_depth.specs.Direct.{level_of, number_of, AreFound}
use Rattle.job_depth.proofs.Levelling.{none, some, before_is}

-- the chain that ends with a job, by its number; no job for 0
abbrev pub IsFront : Plan → List ℕ → List JobId → ℕ → Type 0
IsFront plan levels front zero = front ≡ []
IsFront plan levels front (suc j) = ChosenTo plan levels front j

-- what was walked so far stands behind the chain that ends with the next job
pub record IsWalked (plan : Plan) (levels : List ℕ) (last job : ℕ) (chain : List JobId) : Type 0 where
  pub within : job ≤ job_count plan
  pub starts : last ≡ 0 → (job ≡ 0) × (chain ≡ [])
  pub goes : (j : ℕ) → last ≡ suc j → (front : List JobId) → IsFront plan levels front job → ChosenTo plan levels (front ++ reverse chain) j

-- a job has a number from 1 on
abbrev pub IsProper : Option JobId → Type 0
IsProper None = Unit {0}
IsProper (Some id) = 0 < id.0

-- the same of jobs as the code has them
pub record IsWalkedTo (plan : Plan) (levels : List ℕ) (last job : Option JobId) (chain : List JobId) : Type 0 where
  pub walked : IsWalked plan levels (number_of last) (number_of job) chain
  pub proper : IsProper job

front_all : (xs : List JobId) → xs ++ reverse [] ≡ xs
front_all xs = grind (arith, common_steps)

turned : (xs : List JobId) (x : JobId) → reverse (xs ++ x ∷ []) ≡ x ∷ reverse xs
turned xs x = grind (arith, common_steps)

module _ (plan : Plan) (levels : List ℕ) where
  pub walk_starts : (last : ℕ) → last ≤ job_count plan → IsWalked plan levels last last []
  walk_starts last le = record {
    within = le;
    starts = λ z. (z, refl);
    goes = λ j e front f. subst (λ xs. ChosenTo plan levels xs j) (sym (front_all front)) (subst (λ n. IsFront plan levels front n) e f);
  }

  pub walk_ends_none : (last job : ℕ) (chain : List JobId) → IsWalked plan levels last job chain → last ≡ 0 → reverse chain ≡ []
  walk_ends_none last job chain w z = ap reverse (w.starts z).1

  pub walk_ends : (last job : ℕ) (chain : List JobId) → IsWalked plan levels last job chain → job ≡ 0 → (j : ℕ) → last ≡ suc j
      → ChosenTo plan levels (reverse chain) j
  walk_ends last job chain w z j e = w.goes j e [] (subst (λ n. IsFront plan levels [] n) (sym z) refl)

  module _ (well : IsWellOrderedPlan plan) (before : List (Option JobId)) (found : AreFound plan levels before) where
    pub walk_on : (last j : ℕ) (chain : List JobId) → j < job_count plan → IsWalked plan levels last (suc j) chain
        → IsWalked plan levels last (number_of (get_or before j None)) (chain ++ number_of_job j ∷ [])
    walk_on last j chain lt w = elim (before_is plan well levels before found j lt) [
      | none o one ↦ let z : number_of (get_or before j None) ≡ 0 = ap number_of o in record {
        within = omega arith;
        starts = λ y. let s = (w.starts y).0 in absurd (omega arith);
        goes = λ k e front f.
            let empty : front ≡ [] = subst (λ n. IsFront plan levels front n) z f in
            let is = w.goes k e (number_of_job j ∷ []) (first lt one) in
            let same : number_of_job j ∷ reverse chain ≡ front ++ reverse (chain ++ number_of_job j ∷ []) =
            sym (ap (λ xs. xs ++ reverse (chain ++ number_of_job j ∷ [])) empty ∙ turned chain (number_of_job j)) in
            subst (λ xs. ChosenTo plan levels xs k) same is;
      }
      | some i li o is ↦ let at : number_of (get_or before j None) ≡ suc i = ap number_of o in record {
        within = omega arith;
        starts = λ y. let s = (w.starts y).0 in absurd (omega arith);
        goes = λ k e front f.
            let c : ChosenTo plan levels front i = subst (λ n. IsFront plan levels front n) at f in
            let r = w.goes k e (front ++ number_of_job j ∷ []) (next c is lt) in
            let same : (front ++ number_of_job j ∷ []) ++ reverse chain ≡ front ++ reverse (chain ++ number_of_job j ∷ []) =
            append_assoc front (number_of_job j ∷ []) (reverse chain) ∙ sym (ap (λ xs. front ++ xs) (turned chain (number_of_job j))) in
            subst (λ xs. ChosenTo plan levels xs k) same r;
      }
    ]

    pub walk_down : (j : ℕ) → j < job_count plan → level_of levels (number_of (get_or before j None)) < level_of levels (suc j)
    walk_down j lt = elim (before_is plan well levels before found j lt) [
      | none o one ↦ let e : level_of levels (number_of (get_or before j None)) ≡ 0 = ap (λ x. level_of levels (number_of x)) o in omega arith
      | some i li o is ↦ let e : level_of levels (number_of (get_or before j None)) ≡ get_or levels i 0 = ap (λ x. level_of levels (number_of x)) o in
          let b = is.below in omega arith
    ]

    -- AS THE CODE SAYS IT

    get_any : (xs : List (Option JobId)) (i : ℕ) (d e : Option JobId) → i < length xs → get_or xs i d ≡ get_or xs i e
    get_any [] i d e lt = absurd (omega arith)
    get_any (x ∷ xs) zero d e lt = refl
    get_any (x ∷ xs) (suc i) d e lt = get_any xs i d e (omega arith)

    is_next : (id : JobId) (then : Option JobId) → 0 < id.0 → id.0 ≤ job_count plan
        → then ≡ get_or before (id.0 - 1) then → then ≡ get_or before (id.0 - 1) None
    is_next id then pos le e = e ∙ get_any before (id.0 - 1) then None (let c = found.before_count in omega arith)

    proper_next : (id : JobId) → 0 < id.0 → id.0 ≤ job_count plan → IsProper (get_or before (id.0 - 1) None)
    proper_next id pos le = elim (before_is plan well levels before found (id.0 - 1) (omega arith)) [
      | none o one ↦ subst IsProper (sym o) tt
      | some i li o is ↦ subst IsProper (sym o) (let p : 0 < suc i = omega arith in p)
    ]

    pub ends_as : (last : Option JobId) (chain : List JobId) → IsWalkedTo plan levels last None chain → (j : ℕ) → last ≡ Some (number_of_job j)
        → ChosenTo plan levels (reverse chain) j
    ends_as last chain w j e = walk_ends (number_of last) 0 chain w.walked refl j (ap number_of e)

    pub ends_none : (last : Option JobId) (chain : List JobId) → IsWalkedTo plan levels last None chain → last ≡ None → reverse chain ≡ []
    ends_none last chain w e = walk_ends_none (number_of last) 0 chain w.walked (ap number_of e)

    pub below_as : (last : Option JobId) (id : JobId) (chain : List JobId) → IsWalkedTo plan levels last (Some id) chain
        → (0 < id.0) × (id.0 - 1 < length before)
    below_as last id chain w = let p = w.proper in let le = w.walked.within in let c = found.before_count in (p, omega arith)

    pub on_as : (last : Option JobId) (id : JobId) (then : Option JobId) (chain longer : List JobId)
        → then ≡ get_or before (id.0 - 1) then → longer ≡ chain ++ id ∷ [] → IsWalkedTo plan levels last (Some id) chain
        → IsWalkedTo plan levels last then longer
    on_as last id then chain longer e el w =
        let pos : 0 < id.0 = w.proper in
        let up : id.0 ≡ suc (id.0 - 1) = omega arith in
        let le = w.walked.within in
        let r = walk_on (number_of last) (id.0 - 1) chain (omega arith) (subst (λ k. IsWalked plan levels (number_of last) k chain) up w.walked) in
        let same : longer ≡ chain ++ number_of_job (id.0 - 1) ∷ [] = el ∙ ap (λ k. chain ++ record { 0 = k } ∷ []) up in
        let next = is_next id then pos le e in
        record {
          walked = subst (λ o. IsWalked plan levels (number_of last) (number_of o) longer) (sym next)
              (subst (λ l. IsWalked plan levels (number_of last) (number_of (get_or before (id.0 - 1) None)) l) (sym same) r);
          proper = subst IsProper (sym next) (proper_next id pos le);
        }

    pub down_as : (last : Option JobId) (id : JobId) (then : Option JobId) (chain : List JobId)
        → then ≡ get_or before (id.0 - 1) then → IsWalkedTo plan levels last (Some id) chain → level_of levels (number_of then) < level_of levels id.0
    down_as last id then chain e w =
        let pos : 0 < id.0 = w.proper in
        let le = w.walked.within in
        let up : suc (id.0 - 1) ≡ id.0 = omega arith in
        let d = walk_down (id.0 - 1) (omega arith) in
        let a : level_of levels (number_of then) ≡ level_of levels (number_of (get_or before (id.0 - 1) None)) =
        ap (λ o. level_of levels (number_of o)) (is_next id then pos le e) in
        let b : level_of levels (suc (id.0 - 1)) ≡ level_of levels id.0 = ap (level_of levels) up in
        omega arith
