-- What comes before a job, in terms of the jobs that are waited for directly.
use Rattle.std.proofs.Common.{◌≡◌, ℕ, zero, suc, ◌<◌, ◌⊎◌, inl, inr, ⊎_elim, true, eqb-true, length, Option, Some, None, refl, sym, ap, subst, ◌∙◌, arith}
use Rattle.merge_laws.specs.Graph.{LeadsTo, directly, further}
use Rattle.frame_core.specs.declared.plan.Plan.{Plan}
use Rattle.frame_core.specs.declared.piece.Piece.{Piece}
use Rattle.frame_core.specs.declared.piece.Piece.TheVariants.{OfScript, OfJob}
use Rattle.frame_core.specs.Names.{has_job, deps_in, waits_in, pieces_before, job_at, segment_at}
use Rattle.frame_core.specs.Pieces.{starter_of, place_of, piece_numbered, IsPieceOf}
use Rattle.frame_core.specs.Graphs.{is_predecessor, precedes_at, piece_at, graph_of}
use Rattle.frame_core.specs.Ordered.{IsWellOrderedPlan}
use Rattle.frame_core.proofs.Small.{not_both, some_is}
use Rattle.frame_core.proofs.Orders.{at_place, starter_alone}
use Rattle.job_depth.specs.Rounds.{Leads}
use Rattle.job_depth.specs.Chains.{IsPartOf, LeadsJob}
use Rattle.job_depth.specs.Direct.{is_awaited, is_direct}
use Rattle.job_depth.proofs.Passing.{direct_leads}
use Rattle.job_depth.proofs.Levelling.{part_below, first_part}
use Rattle.job_depth.proofs.Steps.{direct_earlier}
use Rattle.plan_waits.proofs.Lists.{left, right}

-- Job i, by its place, is waited for directly, or comes before a job that is.
pub data Comes (plan : Plan) : ℕ → ℕ → Type 0 where
  one : {i j : ℕ} → is_direct plan j (suc i) ≡ true → Comes plan i j
  more : {i e j : ℕ} → Comes plan i e → is_direct plan j (suc e) ≡ true → Comes plan i j

pub comes_on : (plan : Plan) (i e j : ℕ) → Comes plan i e → Comes plan e j → Comes plan i j
comes_on plan i e j a (one t) = more a t
comes_on plan i e j a (more {e = d} b t) = more (comes_on plan i e d a b) t

-- the pieces of which one precedes the other
both_are : (plan : Plan) (o u : Option Piece) → precedes_at plan o u ≡ true
    → (x : Piece) × (y : Piece) × (o ≡ Some x) × (u ≡ Some y) × (is_predecessor plan x y ≡ true)
both_are plan None None t = absurd (not_both t refl)
both_are plan None (Some y) t = absurd (not_both t refl)
both_are plan (Some x) None t = absurd (not_both t refl)
both_are plan (Some x) (Some y) t = (x, y, refl, refl, t)

leads_on : (plan : Plan) (p q r : ℕ) → LeadsTo (graph_of plan) p q → LeadsTo (graph_of plan) q r → LeadsTo (graph_of plan) p r
leads_on plan p q r a (directly t) = further a t
leads_on plan p q r a (further {q = m} b t) = further (leads_on plan p q m a b) t

module _ (plan : Plan) (well : IsWellOrderedPlan plan) where
  abbrev jobs : ℕ
  jobs = length plan.jobs.items

  pub comes_earlier : (i j : ℕ) → j < jobs → Comes plan i j → i < j
  comes_earlier i j lt (one t) = let d = direct_earlier plan well j (suc i) lt t in let e = d.1 in let l = d.2 in omega arith
  comes_earlier i j lt (more {e = e} c t) =
      let d = direct_earlier plan well j (suc e) lt t in
      let same = d.1 in
      let l = d.2 in
      let before = comes_earlier i e (omega arith) c in
      omega arith

  -- COMING IS LEADING

  direct_job : (i j : ℕ) → i < jobs → j < jobs → is_direct plan j (suc i) ≡ true → LeadsJob plan i j
  direct_job i j li lj t p q hp hq =
      let a = part_below plan well i p li hp in
      let b = part_below plan well j q lj hq in
      let l = direct_leads plan well i a.part j b.part a.is b.is lj t in
      subst (λ x. LeadsTo (graph_of plan) (place_of plan x) (place_of plan (piece_numbered plan q))) (sym a.numbered)
      (subst (λ x. LeadsTo (graph_of plan) (place_of plan (OfJob i a.part)) (place_of plan x)) (sym b.numbered) l)

  jobs_on : (i e j : ℕ) → e < jobs → LeadsJob plan i e → LeadsJob plan e j → LeadsJob plan i j
  jobs_on i e j le a b p q hp hq =
      let m = first_part plan well e le in
      leads_on plan _ _ _ (a p (pieces_before plan.jobs.items e) hp m) (b (pieces_before plan.jobs.items e) q m hq)

  pub comes_leads : (i j : ℕ) → j < jobs → Comes plan i j → LeadsJob plan i j
  comes_leads i j lt (one t) = let d = comes_earlier i j lt (one t) in direct_job i j (omega arith) lt t
  comes_leads i j lt (more {e = e} c t) =
      let d = comes_earlier e j lt (one t) in
      let le : e < jobs = omega arith in
      jobs_on i e j le (comes_leads i e le c) (direct_job e j le lt t)

  -- LEADING IS COMING

  both : (q p : ℕ) → (graph_of plan).precedes q p ≡ true → (x : Piece) × (y : Piece) × (piece_at plan q ≡ Some x) × (piece_at plan p ≡ Some y)
      × (is_predecessor plan x y ≡ true)
  unfolding graph_of
  both q p t = both_are plan (piece_at plan q) (piece_at plan p) t

  module _ (d : ℕ) where
    -- what a piece of job d leads to: a piece of a job that d comes before, or a segment after a wait for d or for such a job
    abbrev IsPast : Piece → Type 0
    IsPast (OfJob j i) = Comes plan d j
    IsPast (OfScript k) = (e : ℕ) × (is_awaited plan (suc k) (suc e) ≡ true) × ((d ≡ e) ⊎ Comes plan d e)

    goes_on : (x y : Piece) → IsPast x → is_predecessor plan x y ≡ true → IsPast y
    goes_on (OfScript l) (OfScript k) p t =
        let e : suc l ≡ k = eqb-true (suc l) k t in
        (p.0, subst (λ m. is_awaited plan (suc m) (suc p.0) ≡ true) e (left (is_awaited plan (suc l) (suc p.0)) _ p.1), p.2)
    goes_on (OfScript l) (OfJob j i) p t =
        let own : l ≡ starter_of plan j = starter_alone plan well.order.starts j l t in
        let w : is_awaited plan (suc (starter_of plan j)) (suc p.0) ≡ true = subst (λ m. is_awaited plan (suc m) (suc p.0) ≡ true) own p.1 in
        let direct : is_direct plan j (suc p.0) ≡ true = left (is_awaited plan (suc (starter_of plan j)) (suc p.0)) _ w in
        ⊎_elim (λ same. subst (λ m. Comes plan m j) (sym same) (one direct)) (λ c. more c direct) p.2
    goes_on (OfJob e i) (OfScript k) p t = (e, right (is_awaited plan k (suc e)) _ t, inr p)
    goes_on (OfJob e h) (OfJob j i) p t = more p (right (is_awaited plan (suc (starter_of plan j)) (suc e)) _ t)

    begins : (h : ℕ) (y : Piece) → is_predecessor plan (OfJob d h) y ≡ true → IsPast y
    begins h (OfScript k) t = (d, right (is_awaited plan k (suc d)) _ t, inl refl)
    begins h (OfJob j i) t = one (right (is_awaited plan (suc (starter_of plan j)) (suc d)) _ t)

    passes : (p q : ℕ) (h : ℕ) (y : Piece) → piece_at plan p ≡ Some (OfJob d h) → LeadsTo (graph_of plan) p q → piece_at plan q ≡ Some y → IsPast y
    passes p q h y ep (directly t) eq =
        let b = both p q t in
        let is : is_predecessor plan (OfJob d h) y ≡ true = subst (λ z. is_predecessor plan z y ≡ true) (some_is (sym b.2 ∙ ep))
        (subst (λ z. is_predecessor plan b.0 z ≡ true) (some_is (sym b.3 ∙ eq)) b.4) in
        begins h y is
    passes p q h y ep (further {q = m} l t) eq =
        let b = both m q t in
        let past = passes p m h b.0 ep l b.2 in
        let is : is_predecessor plan b.0 y ≡ true = subst (λ z. is_predecessor plan b.0 z ≡ true) (some_is (sym b.3 ∙ eq)) b.4 in
        goes_on b.0 y past is

    pub leads_comes : (j : ℕ) → d < jobs → j < jobs → LeadsJob plan d j → Comes plan d j
    leads_comes j ld lj l =
        let hd = first_part plan well d ld in
        let hj = first_part plan well j lj in
        let a = part_below plan well d (pieces_before plan.jobs.items d) ld hd in
        let b = part_below plan well j (pieces_before plan.jobs.items j) lj hj in
        let leads : Leads plan (pieces_before plan.jobs.items d) (pieces_before plan.jobs.items j) = l _ _ hd hj in
        let there : LeadsTo (graph_of plan) (place_of plan (OfJob d a.part)) (place_of plan (OfJob j b.part)) =
        subst (λ x. LeadsTo (graph_of plan) (place_of plan x) (place_of plan (OfJob j b.part))) a.numbered
        (subst (λ x. LeadsTo (graph_of plan) (place_of plan (piece_numbered plan (pieces_before plan.jobs.items d))) (place_of plan x)) b.numbered leads) in
        passes (place_of plan (OfJob d a.part)) (place_of plan (OfJob j b.part)) a.part (OfJob j b.part)
        (at_place plan well.order.starts (OfJob d a.part) a.is) there (at_place plan well.order.starts (OfJob j b.part) b.is)
