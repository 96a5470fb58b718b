-- How far the script's thread is between its turns.
use Rattle.std.proofs.Common.{◌≡◌, ℕ, zero, suc, ◌+◌, ◌<◌, ◌≤◌, Bool, true, false, ◌||◌, ◌⊎◌, inl, inr, List, [], ◌∷◌, length, take, get_or, All, refl, sym, ap, subst, ◌∙◌, arith}
use Rattle.std.specs.Prelude.{nat_eq}
use Rattle.std.proofs.lemmas.Bool.Decides.{nat_tests}
use Rattle.std.proofs.lemmas.List.{take_all}
use Rattle.job_base.specs.declared.JobId.{JobId}
use Rattle.frame_core.specs.declared.plan.Plan.{Plan}
use Rattle.frame_core.specs.Names.{has_job, segment_at, waits_in, IsJobOf}
use Rattle.frame_core.specs.Know.{Know}
use Rattle.steal_pool.specs.declared.standing.Standing.{Standing}
use Rattle.steal_pool.specs.Seats.{IsAt, IsIdle, IsOn}
use Rattle.steal_pool.specs.Turns.{StandsAt}

-- THE JOBS THAT WERE SEEN FINISHED

either : (a b : Bool) → (a || b) ≡ true → (a ≡ true) ⊎ (b ≡ true)
either true b h = inl refl
either false b h = inr h

first_of : (a b : Bool) → a ≡ true → (a || b) ≡ true
first_of true b h = refl
first_of false b h = cc

second_of : (a b : Bool) → b ≡ true → (a || b) ≡ true
second_of true b h = refl
second_of false b h = h

later : (n j : ℕ) (ids : List JobId) (b : Bool) → (has_job ids j ≡ true) ⊎ (b ≡ true) → ((nat_eq n j || has_job ids j) ≡ true) ⊎ (b ≡ true)
later n j ids b (inl x) = inl (second_of (nat_eq n j) (has_job ids j) x)
later n j ids b (inr y) = inr y

shut : (b : Bool) → (b ≡ true → ⊥) → b ≡ false
shut true h = absurd (h refl)
shut false h = refl

-- one job more is the one at the next place
one_more : (ids : List JobId) (n j : ℕ) (d : JobId) → n < length ids → has_job (take (suc n) ids) j ≡ true
    → (has_job (take n ids) j ≡ true) ⊎ (nat_eq (get_or ids n d).0 j ≡ true)
one_more [] n j d lt h = absurd (omega (arith, lt))
one_more (id ∷ more) zero j d lt h = elim (either (nat_eq id.0 j) (has_job [] j) h) [ inl a ↦ inr a | inr b ↦ inl b ]
one_more (id ∷ more) (suc n) j d lt h =
    elim (either (nat_eq id.0 j) (has_job (take (suc n) more) j) h) [
      | inl a ↦ inl (first_of (nat_eq id.0 j) (has_job (take n more) j) a)
      | inr b ↦ later id.0 j (take n more) (nat_eq (get_or more n d).0 j) (one_more more n j d (omega (arith, lt)) b)
    ]

seen_one : (new : ℕ → Bool) (n j : ℕ) → new n ≡ true → nat_eq n j ≡ true → new j ≡ true
seen_one new n j here e = let same : n ≡ j = grind (arith, nat_tests) in rw (← same) here

pub seen_next : (ids : List JobId) (n : ℕ) (id : JobId) (old new : ℕ → Bool) → n < length ids → id ≡ get_or ids n id
    → ((j : ℕ) → has_job (take n ids) j ≡ true → old j ≡ true) → ((j : ℕ) → old j ≡ true → new j ≡ true) → new id.0 ≡ true
    → (j : ℕ) → has_job (take (n + 1) ids) j ≡ true → new j ≡ true
seen_next ids n id old new lt at was kept here j h =
    let up : n + 1 ≡ suc n = omega arith in
    let h2 : has_job (take (suc n) ids) j ≡ true = subst (λ (m : ℕ). has_job (take m ids) j ≡ true) up h in
    elim (one_more ids n j id lt h2) [
      | inl a ↦ kept j (was j a)
      | inr b ↦ seen_one new id.0 j here (ap (λ (x : JobId). nat_eq x.0 j) at ∙ b)
    ]

-- the same of a list that is another's
pub seen_further : (own ids : List JobId) → own ≡ ids → (n : ℕ) (id : JobId) (old new : ℕ → Bool) → n < length ids → id ≡ get_or ids n id
    → ((j : ℕ) → has_job (take n own) j ≡ true → old j ≡ true) → ((j : ℕ) → old j ≡ true → new j ≡ true) → new id.0 ≡ true
    → (j : ℕ) → has_job (take (n + 1) own) j ≡ true → new j ≡ true
seen_further own ids e n id old new lt at was kept here j h =
    seen_next ids n id old new lt at (λ i g. was i (subst (λ (l : List JobId). has_job (take n l) i ≡ true) (sym e) g)) kept here j
    (subst (λ (l : List JobId). has_job (take (n + 1) l) j ≡ true) e h)

-- a job that a segment waits for
pub job_is : (plan : Plan) (ids : List JobId) (n : ℕ) (id : JobId) → All (IsJobOf plan) ids → n < length ids → id ≡ get_or ids n id → IsJobOf plan id
job_is plan ids n id all lt at = subst (IsJobOf plan) (sym at) (all n id lt)

pub seen_all : (ids : List JobId) (n : ℕ) (seen : ℕ → Bool) → length ids ≤ n → ((j : ℕ) → has_job (take n ids) j ≡ true → seen j ≡ true)
    → (j : ℕ) → has_job ids j ≡ true → seen j ≡ true
seen_all ids n seen le was j h = was j (ap (λ (l : List JobId). has_job l j) (take_all n ids le) ∙ h)

-- BETWEEN TURNS

module _ (plan : Plan) (at : Standing) (k : Know) (stands : StandsAt plan at k) where
  -- the seat helped, or looked
  pub stands_on : (l : Know) (n : ℕ) (f : Bool) → IsIdle l → IsOn k l
      → ((j : ℕ) → has_job (take n (waits_in (segment_at plan at.segment))) j ≡ true → l.seen j ≡ true)
      → StandsAt plan (record at { waited = n; failed = f }) l
  stands_on l n f idle on waited = record {
    idle = idle;
    first = on.first ∙ stands.first;
    ended = on.ended ∙ stands.ended;
    opened = on.opened ∙ stands.opened;
    waited = waited;
    within = stands.within;
    there = stands.there;
    refused = stands.refused;
    traps = stands.traps;
  }

  pub is_at : at.opened ≡ false → IsAt at.segment k
  is_at closed = record { idle = stands.idle; first = stands.first; ended = stands.ended; opened = stands.opened ∙ closed }

  -- all segments are run
  pub stands_last : at.segment ≡ length plan.segments.items → IsAt (length plan.segments.items) k
  stands_last all = record {
    idle = stands.idle;
    first = stands.first;
    ended = stands.ended ∙ all;
    opened = stands.opened ∙ shut at.opened (λ h. let lt = stands.there h in omega (arith, lt, all));
  }
