-- Levels that were found are the levels.
use Rattle.std.proofs.Common.{◌≡◌, ◌≢◌, ℕ, zero, suc, ◌+◌, ◌-◌, ◌<◌, ◌≤◌, ⊎_elim, true, List, [], ◌∷◌, ◌++◌, length, get_or, length-append, Option, Some, None, refl, sym, ap, subst, ◌∙◌, arith}
use Rattle.std.proofs.lemmas.Bool.{cases_eq}
use Rattle.job_base.specs.declared.JobId.{JobId}
use Rattle.merge_laws.specs.Graph.{LeadsTo}
use Rattle.frame_core.specs.declared.plan.Plan.{Plan}
use Rattle.frame_core.specs.declared.piece.Piece.{Piece}
use Rattle.frame_core.specs.declared.piece.Piece.TheVariants.{OfJob}
use Rattle.frame_core.specs.Names.{pieces_before, job_pieces}
use Rattle.frame_core.specs.Pieces.{place_of, piece_numbered, IsPieceOf}
use Rattle.frame_core.specs.Graphs.{graph_of}
use Rattle.frame_core.specs.Ordered.{IsWellOrderedPlan}
use Rattle.frame_core.proofs.Small.{get_below}
use Rattle.frame_core.proofs.Numbered.{number_numbered, pieces_within, pieces_next, part_numbered, of_job}
use Rattle.frame_core.proofs.Graphing.{has_plan}
use Rattle.job_depth.specs.declared.levels.Best.{Best}
use Rattle.job_depth.specs.Rounds.{Leads, IsRoundsPlan, level_of_piece, level_plan}
use Rattle.job_depth.specs.Chains.{number_of_job, IsPartOf, LeadsJob, ChainTo, alone, behind, IsLevel, IsLeastBefore, ChosenTo, first, next, IsHighest}
use Rattle.job_depth.specs.Depths.{HasLevels, IsLongestChain, IsFewest}
use Rattle.job_depth.specs.Direct.{is_direct, level_of, number_of, nothing, IsFound, AreFound, IsTop}
use Rattle.job_depth.proofs.Earlier.{piece_of}
use Rattle.job_depth.proofs.Passing.{IsPast, direct_leads, leads_direct}

-- a level that isn't 0 is that of a job in the list
level_within : (levels : List ℕ) (i : ℕ) → 0 < get_or levels i 0 → i < length levels
level_within [] i lt = absurd (omega arith)
level_within (x ∷ xs) zero lt = omega arith
level_within (x ∷ xs) (suc i) lt = let r = level_within xs i lt in omega arith

-- a job with a number that isn't 0
named : (o : Option JobId) (i : ℕ) → number_of o ≡ suc i → o ≡ Some (number_of_job i)
named None i e = absurd (omega arith)
named (Some id) i e = ap (λ k. Some (record { 0 = k })) e

module _ (plan : Plan) (well : IsWellOrderedPlan plan) where
  abbrev jobs : ℕ
  jobs = length plan.jobs.items

  -- PARTS BY NUMBER

  pub record IsPart (j p : ℕ) : Type 0 where
    pub job : j < jobs
    pub part : ℕ
    pub numbered : piece_numbered plan p ≡ OfJob j part
    pub is : IsPieceOf plan (OfJob j part)
    pub below : p < job_pieces plan

  pub part_below : (j p : ℕ) → j < jobs → IsPartOf plan j p → IsPart j p
  part_below j p lt h =
      let x = has_plan plan j lt in
      let up : suc j ≡ j + 1 = omega arith in
      let lo = h.from in
      let hi = h.end in
      let n = pieces_next plan.jobs.items j x.0 x.1 in
      let w = pieces_within plan.jobs.items j x.0 x.1 in
      record {
        job = lt;
        part = p - pieces_before plan.jobs.items j;
        numbered = part_numbered plan p j x.0 x.1 lo (subst (λ k. p < pieces_before plan.jobs.items k) up hi);
        is = (x.0, x.1, omega arith);
        below = omega arith;
      }

  -- the first piece of a job
  pub first_part : (j : ℕ) → j < jobs → IsPartOf plan j (pieces_before plan.jobs.items j)
  first_part j lt =
      let h = piece_of plan well j lt in
      let n = pieces_next plan.jobs.items j h.0 h.1 in
      let some = h.2 in
      record { from = omega arith; end = omega arith }

  -- the job of a piece
  pub record HasJob (p : ℕ) : Type 0 where
    pub job : ℕ
    pub part : ℕ
    pub numbered : piece_numbered plan p ≡ OfJob job part
    pub is : IsPieceOf plan (OfJob job part)
    pub below : job < jobs

  pub job_of : (p : ℕ) → p < job_pieces plan → HasJob p
  job_of p lt =
      let o = of_job plan p lt in
      let n = (number_numbered plan p (omega arith)).is in
      let is : IsPieceOf plan (OfJob o.0 o.1) = subst (IsPieceOf plan) o.2 n in
      record { job = o.0; part = o.1; numbered = o.2; is = is; below = get_below plan.jobs.items o.0 is.0 is.1 }

  -- FOUND LEVELS

  module _ (levels : List ℕ) (before : List (Option JobId)) (found : AreFound plan levels before) where
    abbrev level : ℕ → ℕ
    level j = get_or levels j 0

    pub from_one : (j : ℕ) → j < jobs → 1 ≤ level j
    from_one j lt = let e = (found.each j lt).level in omega arith

    pub rises : (d j : ℕ) → j < jobs → is_direct plan j (suc d) ≡ true → level d < level j
    rises d j lt t = let f = found.each j lt in let a = f.is_best.above (suc d) t in let e = f.level in omega arith

    -- one piece that leads to another
    leads_past : (d j h i : ℕ) → IsPieceOf plan (OfJob d h) → IsPieceOf plan (OfJob j i)
        → LeadsTo (graph_of plan) (place_of plan (OfJob d h)) (place_of plan (OfJob j i)) → IsPast plan well level rises d (OfJob j i)
    leads_past d j h i hd hj l = leads_direct plan well level rises d h j i hd hj l

    pub leads_rise : (d j h i : ℕ) → j < jobs → IsPieceOf plan (OfJob d h) → IsPieceOf plan (OfJob j i)
        → LeadsTo (graph_of plan) (place_of plan (OfJob d h)) (place_of plan (OfJob j i)) → level d < level j
    leads_rise d j h i lt hd hj l = ⊎_elim (λ t. rises d j lt t) (λ le. omega arith) (leads_past d j h i hd hj l)

    by_parts : (p q : ℕ) (a b : Piece) → piece_numbered plan p ≡ a → piece_numbered plan q ≡ b → Leads plan p q
        → LeadsTo (graph_of plan) (place_of plan a) (place_of plan b)
    by_parts p q a b ea eb l = subst (λ x. LeadsTo (graph_of plan) (place_of plan x) (place_of plan b)) ea
        (subst (λ x. LeadsTo (graph_of plan) (place_of plan (piece_numbered plan p)) (place_of plan x)) eb l)

    -- of the first pieces
    pub record JobsLead (d j : ℕ) : Type 0 where
      pub h : ℕ
      pub i : ℕ
      pub from : IsPieceOf plan (OfJob d h)
      pub to : IsPieceOf plan (OfJob j i)
      pub leads : LeadsTo (graph_of plan) (place_of plan (OfJob d h)) (place_of plan (OfJob j i))

    jobs_lead : (d j : ℕ) → d < jobs → j < jobs → LeadsJob plan d j → JobsLead d j
    jobs_lead d j ld lj l =
        let a = part_below d _ ld (first_part d ld) in
        let b = part_below j _ lj (first_part j lj) in
        record { h = a.part; i = b.part; from = a.is; to = b.is; leads = by_parts _ _ _ _ a.numbered b.numbered (l _ _ (first_part d ld) (first_part j lj)) }

    pub job_rises : (d j : ℕ) → d < jobs → j < jobs → LeadsJob plan d j → level d < level j
    job_rises d j ld lj l = let r = jobs_lead d j ld lj l in leads_rise d j r.h r.i lj r.from r.to r.leads

    -- a direct predecessor leads to the job
    direct_job : (d j : ℕ) → d < jobs → j < jobs → is_direct plan j (suc d) ≡ true → LeadsJob plan d j
    direct_job d j ld lj t p q hp hq =
        let a = part_below d p ld hp in
        let b = part_below j q lj hq in
        let l = direct_leads plan well d a.part j b.part a.is b.is lj t in
        subst (λ x. LeadsTo (graph_of plan) (place_of plan x) (place_of plan (piece_numbered plan q))) (sym a.numbered)
        (subst (λ x. LeadsTo (graph_of plan) (place_of plan (OfJob d a.part)) (place_of plan x)) (sym b.numbered) l)

    -- THE JOB BEFORE

    pub data Before (j : ℕ) : Type 0 where
      none : get_or before j None ≡ None → level j ≡ 1 → Before j
      some : (i : ℕ) → i < jobs → get_or before j None ≡ Some (number_of_job i) → IsLeastBefore plan levels i j → Before j

    module _ (j : ℕ) (lt : j < jobs) (f : IsFound plan levels before j) where
      before_by : (n : ℕ) → number_of f.best.job ≡ n → (is_direct plan j (number_of f.best.job) ≡ true)
          × (level_of levels (number_of f.best.job) ≡ f.best.level) × (0 < f.best.level) → Before j
      before_by zero e r = let z : level_of levels (number_of f.best.job) ≡ 0 = ap (level_of levels) e in let l = r.1 in let p = r.2 in absurd (omega arith)
      before_by (suc i) e r =
          let same : level_of levels (number_of f.best.job) ≡ level i = ap (level_of levels) e in
          let l = r.1 in
          let pos = r.2 in
          let up = f.level in
          let c = found.count in
          let within = level_within levels i (omega arith) in
          let li : i < jobs = omega arith in
          let direct : is_direct plan j (suc i) ≡ true = subst (λ n. is_direct plan j n ≡ true) e r.0 in
          some i li (f.job ∙ named f.best.job i e) (record {
            leads = direct_job i j li lt direct;
            below = omega arith;
            least = λ d ld el leads.
                let x = jobs_lead d j ld lt leads in
                ⊎_elim
                (λ t. let le = f.is_best.least (suc d) t (omega arith) in omega arith)
                (λ (le : suc (level d) < level j). absurd (omega arith))
                (leads_past d j x.h x.i x.from x.to x.leads);
          })

      before_found : Before j
      before_found = ⊎_elim
          (λ (e : f.best ≡ nothing). none (f.job ∙ ap (λ (x : Best). x.job) e) (f.level ∙ ap (λ (x : Best). suc x.level) e))
          (λ r. before_by (number_of f.best.job) refl r)
          f.is_best.is

    pub before_is : (j : ℕ) → j < jobs → Before j
    before_is j lt = before_found j lt (found.each j lt)

    -- A CHAIN FOR EACH LEVEL

    pub record HasChain (j : ℕ) : Type 0 where
      pub ids : List JobId
      pub chosen : ChosenTo plan levels ids j

    chain_by : (n j : ℕ) → j < jobs → level j ≤ n → HasChain j
    chain_by zero j lt le = let o = from_one j lt in absurd (omega arith)
    chain_by (suc n) j lt le = elim (before_is j lt) [
      | none z one ↦ record { ids = number_of_job j ∷ []; chosen = first lt one }
      | some i li e is ↦
          let below = is.below in
          let c = chain_by n i li (omega arith) in
          record { ids = c.ids ++ number_of_job j ∷ []; chosen = next c.chosen is lt }
    ]

    pub chain_for : (j : ℕ) → j < jobs → HasChain j
    chain_for j lt = chain_by (level j) j lt (omega arith)

    pub record IsLongChain (ids : List JobId) (j : ℕ) : Type 0 where
      pub chain : ChainTo plan ids j
      pub long : length ids ≡ level j

    pub chosen_long : (ids : List JobId) (j : ℕ) → ChosenTo plan levels ids j → IsLongChain ids j
    chosen_long ids j (first lt one) = record { chain = alone lt; long = sym one }
    chosen_long ids j (next {ids = front} {i = i} c is lt) =
        let r = chosen_long front i c in
        let e = length-append front (number_of_job j ∷ []) in
        let l = r.long in
        let b = is.below in
        record { chain = behind r.chain is.leads lt; long = omega arith }

    pub chain_job : (ids : List JobId) (j : ℕ) → ChainTo plan ids j → j < jobs
    chain_job ids j (alone lt) = lt
    chain_job ids j (behind c l lt) = lt

    pub chain_short : (ids : List JobId) (j : ℕ) → ChainTo plan ids j → length ids ≤ level j
    chain_short ids j (alone lt) = from_one j lt
    chain_short ids j (behind {ids = front} {i = i} c l lt) =
        let r = chain_short front i c in
        let e = length-append front (number_of_job j ∷ []) in
        let up = job_rises i j (chain_job front i c) lt l in
        omega arith

    pub levels_are : (j : ℕ) → j < jobs → IsLevel plan j (level j)
    levels_are j lt =
        let c = chain_for j lt in
        let l = chosen_long c.ids j c.chosen in
        record { reached = (c.ids, l.chain, l.long); longest = λ ids h. chain_short ids j h }

    -- THE LEVEL PLAN

    level_plan_at : (p j i : ℕ) → piece_numbered plan p ≡ OfJob j i → level_plan plan levels p ≡ level j
    level_plan_at p j i e = ap (level_of_piece levels) e

    pub level_rounds : IsRoundsPlan plan (level_plan plan levels)
    level_rounds = record {
      from_one = λ p lt. let h = job_of p lt in let e = level_plan_at p h.job h.part h.numbered in let o = from_one h.job h.below in omega arith;
      later = λ p q lp lq l.
          let a = job_of p lp in
          let b = job_of q lq in
          let ea = level_plan_at p a.job a.part a.numbered in
          let eb = level_plan_at q b.job b.part b.numbered in
          let r = leads_rise a.job b.job a.part b.part b.below a.is b.is (by_parts p q (OfJob a.job a.part) (OfJob b.job b.part) a.numbered b.numbered l) in
          omega arith;
    }

    pub part_level : (j p : ℕ) → j < jobs → IsPartOf plan j p → level_plan plan levels p ≡ level j
    part_level j p lt h = let a = part_below j p lt h in level_plan_at p j a.part a.numbered

    -- each plan of rounds has as many rounds as a chain has jobs
    pub chain_rounds : (round : ℕ → ℕ) → IsRoundsPlan plan round → (ids : List JobId) (j : ℕ) → ChainTo plan ids j → (p : ℕ) → IsPartOf plan j p
        → length ids ≤ round p
    chain_rounds round is ids j (alone lt) p h = is.from_one p (part_below j p lt h).below
    chain_rounds round is ids j (behind {ids = front} {i = i} c l lt) p h =
        let li = chain_job front i c in
        let q = first_part i li in
        let r = chain_rounds round is front i c (pieces_before plan.jobs.items i) q in
        let e = length-append front (number_of_job j ∷ []) in
        let up = is.later (pieces_before plan.jobs.items i) p (part_below i _ li q).below (part_below j p lt h).below (l _ p q h) in
        omega arith

    -- THE HIGHEST

    module _ (top : Best) (is_top : IsTop levels top) where
      pub data Top : Type 0 where
        no_jobs : jobs ≡ 0 → top.level ≡ 0 → top.job ≡ None → Top
        some_job : (j : ℕ) → top.job ≡ Some (number_of_job j) → top.level ≡ level j → IsHighest plan levels j → Top

      pub top_is : Top
      top_is = ⊎_elim
          (λ (e : top ≡ nothing). no_jobs (empty e) (ap (λ (x : Best). x.level) e) (ap (λ (x : Best). x.job) e))
          (λ r.
          let c = found.count in
          let e : level r.0 ≡ top.level = r.3 in
          let at : number_of top.job ≡ suc r.0 = ap number_of r.2 in
          let below = r.1 in
          some_job r.0 r.2 (sym e) (record {
            job = omega arith;
            highest = λ d ld. let a = is_top.above d (omega arith) in omega arith;
            least = λ d ld same. let le = is_top.least d (omega arith) (same ∙ e) in omega arith;
          }))
          is_top.is
        where
          empty : top ≡ nothing → jobs ≡ 0
          empty e = ⊎_elim (λ z. z) (λ (ne : jobs ≢ 0).
              let lt : 0 < jobs = omega arith in
              let c = found.count in
              let a = is_top.above 0 (omega arith) in
              let o = from_one 0 lt in
              let z : top.level ≡ 0 = ap (λ (x : Best). x.level) e in
              absurd (omega arith)) (cases_eq jobs 0)

      most_levels : (j : ℕ) → j < jobs → level j ≤ top.level
      most_levels j lt = let c = found.count in is_top.above j (omega arith)

      pub has_levels : HasLevels plan levels top.level
      has_levels = record {
        count = found.count;
        each = levels_are;
        greatest = most_levels;
        reached = λ pos. elim top_is [
          | no_jobs z l b ↦ absurd (omega arith)
          | some_job j b l is ↦ (j, is.job, sym l)
        ];
        is_plan = level_rounds;
        has_rounds = record {
          most = λ p lt. let h = job_of p lt in let e = level_plan_at p h.job h.part h.numbered in let m = most_levels h.job h.below in omega arith;
          reached = λ pos. elim top_is [
            | no_jobs z l b ↦ absurd (omega arith)
            | some_job j b l is ↦
                let h = first_part j is.job in
                (pieces_before plan.jobs.items j, (part_below j _ is.job h).below, part_level j _ is.job h ∙ sym l)
          ];
        };
      }

      pub is_fewest : IsFewest plan top.level
      is_fewest round m is has = elim top_is [
        | no_jobs z l b ↦ omega arith
        | some_job j b l at ↦
            let c = chain_for j at.job in
            let k = chosen_long c.ids j c.chosen in
            let h = first_part j at.job in
            let r = chain_rounds round is c.ids j k.chain _ h in
            let long = k.long in
            let most = has.most (pieces_before plan.jobs.items j) (part_below j _ at.job h).below in
            omega arith
      ]

      pub longest_chain : (chain : List JobId) → (top.job ≡ None → chain ≡ []) → ((j : ℕ) → top.job ≡ Some (number_of_job j) → ChosenTo plan levels chain j)
          → IsLongestChain plan levels top.level chain
      longest_chain chain when_none when_some = elim top_is [
        | no_jobs z l b ↦ record { long = ap length (when_none b) ∙ sym l; ends = λ pos. absurd (omega arith) }
        | some_job j b l is ↦
            let c = chosen_long chain j (when_some j b) in
            record { long = c.long ∙ sym l; ends = λ pos. (j, is, when_some j b, c.chain) }
      ]
