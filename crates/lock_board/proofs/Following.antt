-- The table of the jobs that depend on each job.
use Rattle.std.proofs.Common.{◌≡◌, ◌≢◌, ℕ, zero, suc, ◌+◌, ◌-◌, ◌<◌, ◌≤◌, ◌^◌, ◌⊎◌, ⊎_elim, Bool, true, false, ◌||◌, cond, eqb-true, eq-eqb, ne_eqb, List, [], ◌∷◌, ◌++◌, length, get_or, take, set, length-set, get_or-set_same, get_or-set_other, refl, sym, ap, subst, ◌∙◌, arith, Option, Some}
use Rattle.std.specs.Prelude.{Vec, nat_eq, nat_lt, slice_get, slice_index}
use Rattle.std.specs.declared.alloc.Global.{Global}
use Rattle.std.proofs.Math.Seq.{take-suc}
use Rattle.std.proofs.lemmas.Bool.Decides.{nat_tests}
use Rattle.std.proofs.lemmas.Option.{slice_get_past}
use mathlib.Core.Logic.{dite}
use native.Mathlib.Decide.{ℕ_discrete}
use Rattle.job_base.specs.declared.JobId.{JobId}
use Rattle.frame_core.specs.declared.plan.JobPlan.{JobPlan}
use Rattle.frame_core.specs.declared.plan.Plan.{Plan}
use Rattle.frame_core.specs.Names.{deps_in, has_job, job_at}
use Rattle.frame_core.specs.Know.{due_after}
use Rattle.frame_core.specs.Ordered.{AreJobs, IsAbove, IsWellOrderedPlan}
use Rattle.frame_core.proofs.Planned.{has_kernel}
use Rattle.frame_core.proofs.Small.{none_some, some_is}
use Rattle.lock_board.specs.Layouts.{AreFollowers, NameSome, row, row_of, times}
use Rattle.lock_board.proofs.Reading.{got}
use Rattle.lock_board.proofs.Tables.{above_at, all_at}

below_or : (a b : ℕ) → (a < b) ⊎ (b ≤ a)
below_or a b = grind arith

abbrev pub bit : Bool → ℕ
bit b = cond b 1 0

abbrev pub pick : Bool → ℕ → ℕ
pick b n = cond b n 0

-- HOW OFTEN A JOB STANDS IN A LIST

pub times_push : (e : ℕ) (l : List JobId) (x : JobId) → times e (l ++ x ∷ []) ≡ times e l + cond (nat_eq x.0 e) 1 0
times_push e [] x = omega arith
times_push e (y ∷ l) x =
    let h = times_push e l x in
    let r : cond (nat_eq y.0 e) 1 0 + times e (l ++ x ∷ []) ≡ (cond (nat_eq y.0 e) 1 0 + times e l) + cond (nat_eq x.0 e) 1 0 = omega (arith, h) in
    r

-- in the first ones, and in one more
pub times_next : (e : ℕ) (l : List JobId) (i : ℕ) (d : JobId) → i < length l
    → times e (take (i + 1) l) ≡ times e (take i l) + cond (nat_eq (get_or l i d).0 e) 1 0
times_next e l i d lt =
    let up : i + 1 ≡ suc i = omega arith in
    ap (λ n. times e (take n l)) up ∙ (ap (times e) (take-suc l i d lt) ∙ times_push e (take i l) (get_or l i d))

pub times_take : (e : ℕ) (l : List JobId) (i : ℕ) → times e (take i l) ≤ times e l
times_take e [] zero = omega arith
times_take e [] (suc i) = omega arith
times_take e (x ∷ l) zero = omega arith
times_take e (x ∷ l) (suc i) =
    let h = times_take e l i in
    let r : cond (nat_eq x.0 e) 1 0 + times e (take i l) ≤ cond (nat_eq x.0 e) 1 0 + times e l = omega (arith, h) in
    r

pub times_some : (l : List JobId) (i : ℕ) (id : JobId) → slice_get l i ≡ Some id → 0 < times id.0 l
times_some [] i id e = absurd (none_some e)
times_some (x ∷ l) zero id e =
    let one : bit (nat_eq x.0 id.0) ≡ 1 = ap bit (eq-eqb x.0 id.0 (ap (λ (y : JobId). y.0) (some_is e))) in
    let r : 0 < cond (nat_eq x.0 id.0) 1 0 + times id.0 l = omega (arith, one) in
    r
times_some (x ∷ l) (suc i) id e =
    let h = times_some l i id e in
    let r : 0 < cond (nat_eq x.0 id.0) 1 0 + times id.0 l = omega (arith, h) in
    r

-- numbers in rising order stand there once

times_above : (v n : ℕ) (ids : List JobId) → v ≤ n → IsAbove n ids → times v ids ≡ 0
times_above v n [] le up = refl
times_above v n (id ∷ more) le up =
    let lt = up.0 in
    let h = times_above v id.0 more (omega arith) up.1 in
    let none : bit (nat_eq id.0 v) ≡ 0 = ap bit (ne_eqb id.0 v (λ q. omega arith)) in
    let r : cond (nat_eq id.0 v) 1 0 + times v more ≡ 0 = omega (arith, h, none) in
    r

times_head : (id : JobId) (more : List JobId) (v : ℕ) (b : Bool) → nat_eq id.0 v ≡ b → IsAbove id.0 more → times v more ≡ cond (has_job more v) 1 0
    → cond b 1 0 + times v more ≡ cond (b || has_job more v) 1 0
times_head id more v true e up h = let z = times_above v id.0 more (let s = eqb-true id.0 v e in omega arith) up in omega (arith, z)
times_head id more v false e up h = omega (arith, h)

times_once : (v n : ℕ) (ids : List JobId) → IsAbove n ids → times v ids ≡ cond (has_job ids v) 1 0
times_once v n [] up = refl
times_once v n (id ∷ more) up = times_head id more v (nat_eq id.0 v) refl up.1 (times_once v id.0 more up.1)

-- WHAT IS DUE

pub due_least : (plan : Plan) (j e : ℕ) → due_after plan j e ≤ 1
due_least plan j zero = omega arith
due_least plan j (suc d) = one (has_job (deps_in (job_at plan d)) j)
  where
    one : (b : Bool) → cond b 1 0 ≤ 1
    one true = omega arith
    one false = omega arith

due_past : (plan : Plan) (j d : ℕ) → length plan.jobs.items ≤ d → due_after plan j (suc d) ≡ 0
due_past plan j d le = ap (λ (o : Option JobPlan). cond (has_job (deps_in o) j) 1 0) (slice_get_past plan.jobs.items d le)

due_named : (plan : Plan) (j e : ℕ) → 0 < due_after plan j e → (0 < e) × (e < length plan.jobs.items + 1)
due_named plan j zero lt = absurd (omega arith)
due_named plan j (suc d) lt = ⊎_elim
    (λ low. (omega arith, omega arith))
    (λ past. let z = due_past plan j d past in absurd (omega (arith, lt, z)))
    (below_or d (length plan.jobs.items))

-- ROWS

pub row_at : (rows : List (Vec JobId Global)) (k : ℕ) (v : Vec JobId Global) → k < length rows → v ≡ get_or rows k v → row rows k ≡ v.items
row_at rows k v lt at = ap row_of (got rows k v lt at)

row_here : (rows : List (Vec JobId Global)) (k : ℕ) (v : Vec JobId Global) → k < length rows → row (set rows k v) k ≡ v.items
row_here rows k v lt = row_at (set rows k v) k v (subst (λ n. k < n) (sym (length-set rows k v)) lt) (sym (get_or-set_same rows k v v lt))

row_there : (rows : List (Vec JobId Global)) (k j : ℕ) (v : Vec JobId Global) → j ≢ k → row (set rows k v) j ≡ row rows j
row_there [] k j v ne = refl
row_there (y ∷ rows) zero zero v ne = absurd (ne refl)
row_there (y ∷ rows) zero (suc j) v ne = refl
row_there (y ∷ rows) (suc k) zero v ne = refl
row_there (y ∷ rows) (suc k) (suc j) v ne = row_there rows k j v (λ e. ne (ap suc e))

nothing : (b : Bool) → pick b 0 ≡ 0
nothing true = refl
nothing false = refl

pub row_added : (rows : List (Vec JobId Global)) (v w : Vec JobId Global) (k : ℕ) (dep job : JobId) → k < length rows → v ≡ get_or rows k v
    → w.items ≡ v.items ++ job ∷ [] → dep.0 ≡ suc k
    → (j e : ℕ) → times e (row (set rows k w) j) ≡ times e (row rows j) + cond (nat_eq job.0 e) (cond (nat_eq dep.0 (suc j)) 1 0) 0
row_added rows v w k dep job lt at grown is j e = dite (ℕ_discrete j k)
    (λ same. let yes : bit (nat_eq dep.0 (suc j)) ≡ 1 = ap bit (eq-eqb dep.0 (suc j) (is ∙ ap suc (sym same))) in
    ap (λ n. times e (row (set rows k w) n)) same
    ∙ (ap (times e) (row_here rows k w lt ∙ grown)
    ∙ (times_push e v.items job
    ∙ (ap (λ l. times e l + cond (nat_eq job.0 e) 1 0) (sym (row_at rows k v lt at))
    ∙ (ap (λ n. times e (row rows n) + cond (nat_eq job.0 e) 1 0) (sym same)
    ∙ ap (λ n. times e (row rows j) + cond (nat_eq job.0 e) n 0) (sym yes))))))
    (λ ne. let out : bit (nat_eq dep.0 (suc j)) ≡ 0 = ap bit (ne_eqb dep.0 (suc j) (λ q. ne (omega arith))) in
    let z : pick (nat_eq job.0 e) (bit (nat_eq dep.0 (suc j))) ≡ 0 = ap (pick (nat_eq job.0 e)) out ∙ nothing (nat_eq job.0 e) in
    let r : times e (row rows j) ≡ times e (row rows j) + cond (nat_eq job.0 e) (cond (nat_eq dep.0 (suc j)) 1 0) 0 = omega (arith, z) in
    ap (times e) (row_there rows k j w ne) ∙ r)

both : (b : Bool) (x y : ℕ) → cond b x 0 + cond b y 0 ≡ cond b (x + y) 0
both true x y = refl
both false x y = omega arith

-- after one more of the jobs that it depends on
pub more_added : (old now new n d s : ℕ) (b : Bool) → now ≡ old + cond b n 0 → new ≡ now + cond b d 0 → s ≡ n + d → new ≡ old + cond b s 0
more_added old now new n d s b h a e =
    let p = both b n d in
    let q : pick b s ≡ pick b (n + d) = ap (pick b) e in
    omega (arith, h, a, p, q)

-- THE TABLE OF A PLAN

deps_of : (plan : Plan) → IsWellOrderedPlan plan → (d : ℕ) (x : JobPlan) → job_at plan d ≡ Some x → AreJobs plan x.deps.items
deps_of plan well d x there = let k = has_kernel plan well.jobs d x there in (well.jobs.fits d x k.0 there k.1).deps

pub deps_named : (plan : Plan) → IsWellOrderedPlan plan → (d : ℕ) (x : JobPlan) → job_at plan d ≡ Some x → NameSome (length plan.jobs.items) x.deps.items
deps_named plan well d x there i id e =
    let jobs = deps_of plan well d x there in
    let le = all_at (λ (y : JobId). y.0 ≤ length plan.jobs.items) x.deps.items i id jobs.1 e in
    (above_at x.deps.items 0 i id jobs.0 e, omega arith)

-- the first jobs are in the rows
abbrev pub Filled : Plan → ℕ → List (Vec JobId Global) → Type 0
Filled plan d rows = (j e : ℕ) → times e (row rows j) ≡ cond (nat_lt e (d + 1)) (due_after plan (suc j) e) 0

pub filled_none : (plan : Plan) (rows : List (Vec JobId Global)) → ((j e : ℕ) → times e (row rows j) ≡ 0) → Filled plan 0 rows
filled_none plan rows none j zero = none j 0
filled_none plan rows none j (suc e) =
    let c : nat_lt (suc e) (0 + 1) ≡ false = grind (arith, nat_tests) in
    none j (suc e) ∙ sym (ap (λ (b : Bool). cond b (due_after plan (suc j) (suc e)) 0) c)

by_test : (e d t n x : ℕ) → t ≡ cond (nat_lt e (d + 1)) x 0 → (d + 1 ≡ e → n ≡ x) → t + cond (nat_eq (d + 1) e) n 0 ≡ cond (nat_lt e (d + 1 + 1)) x 0
by_test e d t n x h k = grind (arith, nat_tests)

pub filled_next : (plan : Plan) → IsWellOrderedPlan plan → (old new : List (Vec JobId Global)) (d : ℕ) (x : JobPlan) → job_at plan d ≡ Some x
    → ((j e : ℕ) → times e (row new j) ≡ times e (row old j) + cond (nat_eq (d + 1) e) (times (suc j) x.deps.items) 0) → Filled plan d old
    → Filled plan (d + 1) new
filled_next plan well old new d x there more filled j e =
    let jobs = deps_of plan well d x there in
    let due : times (suc j) x.deps.items ≡ due_after plan (suc j) (suc d) =
    times_once (suc j) 0 x.deps.items jobs.0 ∙ sym (ap (λ (o : Option JobPlan). cond (has_job (deps_in o) (suc j)) 1 0) there) in
    more j e ∙ by_test e d (times e (row old j)) (times (suc j) x.deps.items) (due_after plan (suc j) e) (filled j e)
    (λ h. let up : suc d ≡ e = omega arith in due ∙ ap (due_after plan (suc j)) up)

pub filled_all : (plan : Plan) (rows : List (Vec JobId Global)) (d : ℕ) → length plan.jobs.items ≤ d → Filled plan d rows → AreFollowers plan rows
filled_all plan rows d le filled j e lt = filled j e ∙ by (due_after plan (suc j) e) (nat_lt e (d + 1)) refl
    (λ past. let up : e ≡ suc (e - 1) = omega arith in ap (due_after plan (suc j)) up ∙ due_past plan (suc j) (e - 1) (omega arith))
  where
    by : (n : ℕ) (b : Bool) → nat_lt e (d + 1) ≡ b → (d + 1 ≤ e → n ≡ 0) → cond b n 0 ≡ n
    by n true t past = refl
    by n false t past = let h : d + 1 ≤ e = grind (arith, nat_tests) in sym (past h)

-- WHAT IS KNOWN OF ITS ROWS

module _ (plan : Plan) (rows : List (Vec JobId Global)) (are : AreFollowers plan rows) (j : ℕ) (low : j < length plan.jobs.items) where
  pub followers_named : NameSome (length plan.jobs.items) (row rows j)
  followers_named i id e = due_named plan (suc j) id.0 (subst (λ n. 0 < n) (are j id.0 low) (times_some (row rows j) i id e))

  pub followers_once : (d : ℕ) → times (suc d) (row rows j) ≤ 1
  followers_once d = subst (λ n. n ≤ 1) (sym (are j (suc d) low)) (due_least plan (suc j) (suc d))

-- DUTIES ON EACH OF A LIST

-- a test of one more job
pub one_tested : (dues : List ℕ) (d n t t' : ℕ) → 0 < n → t' ≡ t + cond (nat_eq n (suc d)) 1 0 → slice_index dues (n - 1) + 1 < 2 ^ 32
    → (0 < t → slice_index dues d + 1 < 2 ^ 32) → 0 < t' → slice_index dues d + 1 < 2 ^ 32
one_tested dues d n t t' some next here before due = by (nat_eq n (suc d)) refl
  where
    by : (b : Bool) → nat_eq n (suc d) ≡ b → slice_index dues d + 1 < 2 ^ 32
    by true e = let same : n - 1 ≡ d = (let h = eqb-true n (suc d) e in omega arith) in subst (λ k. slice_index dues k + 1 < 2 ^ 32) same here
    by false e = let z : bit (nat_eq n (suc d)) ≡ 0 = ap bit e in before (omega (arith, z, next, due))

pub one_added : (dues : List ℕ) (k d n old t t' : ℕ) → k < length dues → n ≡ suc k → slice_index dues d ≡ old + t → t' ≡ t + cond (nat_eq n (suc d)) 1 0
    → slice_index (set dues k (slice_index dues k + 1)) d ≡ old + t'
one_added dues k d n old t t' low is before next = dite (ℕ_discrete d k)
    (λ e. let yes : bit (nat_eq n (suc d)) ≡ 1 = ap bit (eq-eqb n (suc d) (is ∙ ap suc (sym e))) in
    let here : slice_index (set dues k (slice_index dues k + 1)) d ≡ slice_index dues d + 1 =
    ap (slice_index (set dues k (slice_index dues k + 1))) e ∙ (get_or-set_same dues k (slice_index dues k + 1) 0 low
    ∙ ap (λ m. slice_index dues m + 1) (sym e)) in
    omega (arith, here, yes, next, before))
    (λ ne. let out : bit (nat_eq n (suc d)) ≡ 0 = ap bit (ne_eqb n (suc d) (λ q. ne (omega arith))) in
    let there : slice_index (set dues k (slice_index dues k + 1)) d ≡ slice_index dues d = get_or-set_other dues k d (slice_index dues k + 1) 0 ne in
    omega (arith, there, out, next, before))

-- what is due is due on a job
pub due_below : (plan : Plan) (j d : ℕ) → 0 < due_after plan j (suc d) → d < length plan.jobs.items
due_below plan j d lt = let h = due_named plan j (suc d) lt in let b = h.1 in omega (arith, b)
