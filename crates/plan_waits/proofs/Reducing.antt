-- The arrows of the next job, and its row.
use Rattle.std.proofs.Common.{◌≡◌, ℕ, zero, suc, ◌+◌, ◌-◌, ◌<◌, ◌≤◌, ◌⊎◌, inl, inr, ⊎_elim, Bool, true, false, ◌||◌, eqb, eq-eqb, eqb-true, if◌then◌else◌, List, [], ◌∷◌, ◌++◌, length, map, get_or, All, Option, Some, None, refl, sym, ap, subst, ◌∙◌, arith}
use Rattle.std.specs.Prelude.{slice_get}
use Rattle.std.proofs.lemmas.Bool.{or_cases}
use Rattle.job_base.specs.declared.JobId.{JobId}
use Rattle.job_base.specs.declared.limits.TheConstants.{MOST_JOBS}
use Rattle.frame_ast.specs.Jobs.{Jobs, only, both}
use Rattle.frame_ast.specs.Laws.{AreUpTo}
use Rattle.frame_core.specs.declared.plan.Plan.{Plan}
use Rattle.frame_core.specs.Pieces.{starter_of}
use Rattle.frame_core.specs.Ordered.{IsWellOrderedPlan}
use Rattle.frame_core.proofs.Small.{not_both, some_is, get_below}
use Rattle.job_handle.specs.declared.handle.Handle.{Handle}
use Rattle.job_handle.specs.Sets.{jobs_of, HaveOwnJobs}
use Rattle.job_fewest.specs.Fewest.{Leads, IsLedTo as IsLedIn, IsFewest, IsClosure}
use Rattle.job_depth.specs.Chains.{LeadsJob}
use Rattle.job_depth.specs.Direct.{is_awaited, is_direct}
use Rattle.job_depth.proofs.Steps.{direct_earlier}
use Rattle.plan_waits.specs.declared.arrow.Cause.TheVariants.{Depends, Completed}
use Rattle.plan_waits.specs.declared.arrow.Arrow.{Arrow}
use Rattle.plan_waits.specs.Arrows.{place_from, cause_of, IsLedTo, IsReduction}
use Rattle.plan_waits.specs.Marks.{arrow_of}
use Rattle.plan_waits.proofs.Lists.{left, right, get_map, map_get, get_there, or_of_get}
use Rattle.plan_waits.proofs.Coming.{Comes, one, more, comes_on, comes_leads, leads_comes}

-- A job's row has it and what comes before it.
abbrev pub IsRow : Plan → Handle → ℕ → Type 0
IsRow plan row j = (i : ℕ) → (jobs_of row (suc i) ≡ true → (i ≡ j) ⊎ Comes plan i j) × ((i ≡ j) ⊎ Comes plan i j → jobs_of row (suc i) ≡ true)

abbrev pub AreRows : Plan → List Handle → Type 0
AreRows plan rows = (j : ℕ) (row : Handle) → slice_get rows j ≡ Some row → IsRow plan row j

pub rows_own : (plan : Plan) (rows : List Handle) → AreRows plan rows → HaveOwnJobs (length rows) rows
rows_own plan rows are j d lt =
    let r = get_there rows j lt in
    subst (λ row. jobs_of row (suc j) ≡ true) (sym (or_of_get rows j d r.0 r.1)) ((are j r.0 r.1 j).1 (inl refl))

module _ (plan : Plan) (well : IsWellOrderedPlan plan) (rows : List Handle) (are : AreRows plan rows) (below : length rows < length plan.jobs.items) where
  abbrev j : ℕ
  j = length rows

  module _ (wanted : Jobs) (wants : (n : ℕ) → wanted n ≡ is_direct plan j n) where
    pub wanted_known : AreUpTo (length rows) wanted
    wanted_known n t =
        let d = direct_earlier plan well j n below (sym (wants n) ∙ t) in
        let e = d.1 in
        let lt = d.2 in
        (omega arith, omega arith)

    module _ (ids : List JobId) (least : IsFewest rows wanted ids) where
      -- the place of an answer, which is an earlier job
      pub placed : (a : ℕ) (x : JobId) → slice_get ids a ≡ Some x → (d : ℕ) × (x.0 ≡ suc d) × (d < j) × (is_direct plan j (suc d) ≡ true)
      placed a x at =
          let t : is_direct plan j x.0 ≡ true = sym (wants x.0) ∙ least.each a x at in
          let d = direct_earlier plan well j x.0 below t in
          (d.0, d.1, d.2, subst (λ n. is_direct plan j n ≡ true) d.1 t)

      -- what a row has that leads
      led : (m d i : ℕ) → m ≡ suc d → Leads rows m (suc i) → (i ≡ d) ⊎ Comes plan i d
      led m d i e l =
          let down : m - 1 ≡ d = omega arith in
          (are d l.0 (ap (slice_get rows) (sym down) ∙ l.1) i).0 l.2

      leads : (m d i : ℕ) → m ≡ suc d → d < j → (i ≡ d) ⊎ Comes plan i d → Leads rows m (suc i)
      leads m d i e lt c =
          let down : m - 1 ≡ d = omega arith in
          let r = get_there rows d lt in
          (r.0, ap (slice_get rows) down ∙ r.1, (are d r.0 r.1 i).1 c)

      -- each job that comes before this one is an answer, or comes before one
      pub come : (i : ℕ) → Comes plan i j → (a : ℕ) × (x : JobId) × (d : ℕ) × (slice_get ids a ≡ Some x) × (x.0 ≡ suc d) × ((i ≡ d) ⊎ Comes plan i d)
      come i c = by i j c refl
        where
          reach : (i e : ℕ) → is_direct plan j (suc e) ≡ true → (i ≡ e) ⊎ Comes plan i e
              → (a : ℕ) × (x : JobId) × (d : ℕ) × (slice_get ids a ≡ Some x) × (x.0 ≡ suc d) × ((i ≡ d) ⊎ Comes plan i d)
          reach i e t c =
              let f = least.all (suc e) (wants (suc e) ∙ t) in
              let p = placed f.0 f.1 f.2 in
              let l = led f.1.0 p.0 e p.1 f.3 in (
                f.0,
                f.1,
                p.0,
                f.2,
                p.1,
                ⊎_elim
                    (λ (same : i ≡ e). ⊎_elim (λ (there : e ≡ p.0). inl (same ∙ there)) (λ k. inr (subst (λ m. Comes plan m p.0) (sym same) k)) l)
                    (λ b. ⊎_elim (λ (there : e ≡ p.0). inr (subst (λ m. Comes plan i m) there b)) (λ k. inr (comes_on plan i e p.0 b k)) l)
                    c,
              )

          by : (i n : ℕ) → Comes plan i n → n ≡ j
              → (a : ℕ) × (x : JobId) × (d : ℕ) × (slice_get ids a ≡ Some x) × (x.0 ≡ suc d) × ((i ≡ d) ⊎ Comes plan i d)
          by i n (one t) e = reach i i (subst (λ m. is_direct plan m (suc i) ≡ true) e t) (inl refl)
          by i n (more {e = m} c t) e = reach i m (subst (λ k. is_direct plan k (suc m) ≡ true) e t) (inr c)

      -- THE ARROWS

      module _ (completed : Jobs) (are_completed : (n : ℕ) → completed n ≡ is_awaited plan (suc (starter_of plan j)) n) where
        abbrev arrows : List Arrow
        arrows = map (arrow_of completed) ids

        pub reduced : IsReduction plan j arrows
        reduced = record {
          each = λ a x at. let g = get_map (arrow_of completed) ids a x at in
              subst (λ (y : Arrow). is_direct plan j y.from.0 ≡ true) (sym g.2) (sym (wants g.0.0) ∙ least.each a g.0 g.1);
          cause = λ a x at. let g = get_map (arrow_of completed) ids a x at in
              subst (λ (y : Arrow). y.cause ≡ cause_of plan j y.from.0) (sym g.2) (ap (λ b. if b then Completed else Depends) (are_completed g.0.0));
          all = λ i lt l.
              let c = come i (leads_comes plan well i j lt below l) in
              let down : c.1.0 - 1 ≡ c.2 = (let e = c.4 in omega arith) in
              let p = placed c.0 c.1 c.3 in
              let within : c.2 < length plan.jobs.items = (let e = c.4 in let f = p.1 in let g = p.2 in omega arith) in (
                c.0,
                arrow_of completed c.1,
                map_get (arrow_of completed) ids c.0 c.1 c.3,
                ⊎_elim (λ (same : i ≡ c.2). inl (same ∙ sym down))
                    (λ k. inr (subst (λ m. LeadsJob plan i m) (sym down) (comes_leads plan well i c.2 within k))) c.5,
              );
          apart = λ a b x y lt at bt.
              let g = get_map (arrow_of completed) ids a x at in
              let h = get_map (arrow_of completed) ids b y bt in
              let r = least.apart a b g.0 h.0 lt g.1 h.1 in
              let p = placed a g.0 g.1 in
              let q = placed b h.0 h.1 in
              let fx : x.from.0 ≡ g.0.0 = ap (λ (z : Arrow). z.from.0) g.2 in
              let fy : y.from.0 ≡ h.0.0 = ap (λ (z : Arrow). z.from.0) h.2 in
              let px : place_from x ≡ p.0 = (let e = p.1 in omega arith) in
              let py : place_from y ≡ q.0 = (let e = q.1 in omega arith) in
              let up : suc q.0 ≡ h.0.0 = sym q.1 in
              let lp = p.2 in
              let lq = q.2 in (
                let less = r.0 in omega arith,
                λ l. r.1 (subst (λ n. Leads rows g.0.0 n) up (leads g.0.0 p.0 q.0 p.1 lp
                    (inr (leads_comes plan well q.0 p.0 (omega arith) (omega arith)
                    (subst (λ m. LeadsJob plan q.0 m) px (subst (λ m. LeadsJob plan m (place_from x)) py l)))))),
              );
        }

      -- THE ROW

      module _ (closure row : Handle) (closes : IsClosure rows ids (jobs_of closure)) (id : JobId) (own : id.0 ≡ suc j) (mine : Handle)
          (is_mine : jobs_of mine ≡ only id.0) (joins : jobs_of row ≡ both (jobs_of closure) (jobs_of mine)) where
        row_has : (n : ℕ) → jobs_of row n ≡ (jobs_of closure n || eqb n id.0)
        row_has n = ap (λ f. f n) joins ∙ ap (λ f. jobs_of closure n || f n) is_mine

        pub row_is : IsRow plan row j
        row_is i = (
          λ t. ⊎_elim
              (λ c. let f = (closes (suc i)).0 c in
              let p = placed f.0 f.1 f.2 in
              ⊎_elim (λ (same : i ≡ p.0). inr (one (subst (λ m. is_direct plan j (suc m) ≡ true) (sym same) p.3)))
              (λ k. inr (more k p.3))
              (led f.1.0 p.0 i p.1 f.3))
              (λ u. let e : suc i ≡ id.0 = eqb-true (suc i) id.0 u in inl (omega arith))
              (or_cases (jobs_of closure (suc i)) (eqb (suc i) id.0) (sym (row_has (suc i)) ∙ t)),
          λ s. row_has (suc i) ∙ ⊎_elim
              (λ (same : i ≡ j). right (jobs_of closure (suc i)) _ (eq-eqb (suc i) id.0 (omega arith)))
              (λ c. let f = come i c in
              let p = placed f.0 f.1 f.3 in
              let lt : f.2 < j = (let e = f.4 in let g = p.1 in let h = p.2 in omega arith) in
              left (jobs_of closure (suc i)) _ ((closes (suc i)).1 (f.0, f.1, f.3, leads f.1.0 f.2 i f.4 lt f.5)))
              s,
        )
