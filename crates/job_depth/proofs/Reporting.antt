-- All that a report says, from its parts.
use Rattle.std.proofs.Common.{◌≡◌, ℕ, suc, ◌^◌, ◌<◌, ◌≤◌, List, [], length, get_or, max, Option, Some, None, ⊎_elim, refl, sym, ap, subst, ◌∙◌, arith}
use Rattle.std.specs.Prelude.{IfSome}
use Rattle.std.specs.Int.{div_ceil}
use Rattle.job_base.specs.declared.JobId.{JobId}
use Rattle.frame_core.specs.declared.plan.Plan.{Plan}
use Rattle.frame_core.specs.Names.{job_pieces}
use Rattle.frame_core.specs.Ordered.{IsWellOrderedPlan}
use Rattle.job_depth.specs.declared.levels.Best.{Best}
use Rattle.job_depth.specs.Rounds.{pieces_in, rounds_taken, level_plan}
use Rattle.job_depth.specs.Chains.{job_count, number_of_job, ChosenTo}
use Rattle.job_depth.specs.Depths.{HasLevels, IsLongestChain, IsFewest, IsWidest, IsPackable, IsNeeded}
use Rattle.job_depth.specs.Direct.{number_of, nothing, AreFound, IsTop, IsTopOf}
use Rattle.job_depth.specs.Packing.{AreLevels, IsGreatestOf, ceils, total}
use Rattle.job_depth.proofs.Levelling.{from_one, has_levels, is_fewest, longest_chain}
use Rattle.job_depth.proofs.Counts.{spread_all}
use Rattle.job_depth.proofs.Packs.{is_packable, is_needed}
use Rattle.job_depth.proofs.Gauging.{ceils_are, total_is, widest_is}

some_none : {id : JobId} → Some id ≡ None → ⊥
some_none e = cc

-- the job of the highest level, where there is one
pub top_job : (plan : Plan) (levels : List ℕ) (before : List (Option JobId)) → AreFound plan levels before → (top : Best) → IsTop levels top
    → IfSome top.job (λ id. (0 < id.0) × (id.0 ≤ job_count plan))
top_job plan levels before found top is_top = by top.job refl
  where
    by : (o : Option JobId) → top.job ≡ o → IfSome o (λ id. (0 < id.0) × (id.0 ≤ job_count plan))
    by None e = tt
    by (Some id) e = ⊎_elim
        (λ (n : top ≡ nothing). absurd (some_none (sym e ∙ ap (λ (b : Best). b.job) n)))
        (λ r. let at : number_of (Some id) ≡ number_of (Some (number_of_job r.0)) = ap number_of (sym e ∙ r.2) in let lt = r.1 in let c = found.count in
        (omega arith, omega arith))
        is_top.is

pub top_as : (levels ls : List ℕ) (top : Best) → ls ≡ levels → IsTopOf ls (length ls) top → IsTop levels top
top_as levels ls top e h = subst (λ l. IsTop l top) e h

module _ (plan : Plan) (well : IsWellOrderedPlan plan) (levels : List ℕ) (before : List (Option JobId)) (found : AreFound plan levels before) (top : Best)
    (is_top : IsTop levels top) where
  abbrev levels_hold : HasLevels plan levels top.level
  levels_hold = has_levels plan well levels before found top is_top

  pub are_levels : (ls : List ℕ) → ls ≡ levels → AreLevels plan ls top.level
  are_levels ls e = subst (λ l. AreLevels plan l top.level) (sym e) (record {
    count = found.count;
    from_one = from_one plan well levels before found;
    most = levels_hold.greatest;
  })

  pub record IsReported (workers w p l : ℕ) (chain : List JobId) : Type 0 where
    pub levels_are : HasLevels plan levels top.level
    pub chain_is : IsLongestChain plan levels top.level chain
    pub fewest : IsFewest plan top.level
    pub widest_is : IsWidest plan (level_plan plan levels) top.level w
    pub packed_is : p ≡ rounds_taken workers plan (level_plan plan levels) top.level
    pub packed : IsPackable plan workers p
    pub least_is : l ≡ max (div_ceil (job_pieces plan) workers) top.level
    pub least : IsNeeded plan workers l

  module _ (widths : List ℕ) (long : length widths ≡ top.level) (are : (r : ℕ) → r < top.level
      → get_or widths r 0 ≡ pieces_in plan (level_plan plan levels) (suc r)) where
    pub total_fits : (ws : List ℕ) → ws ≡ widths → total ws < 2 ^ 32
    total_fits ws e =
        let same : total ws ≡ total widths = ap total e in
        let t = total_is plan (level_plan plan levels) top.level widths long are in
        let all = spread_all (level_plan plan levels) (job_pieces plan) top.level
        (λ p lt. (levels_hold.is_plan.from_one p lt, levels_hold.has_rounds.most p lt)) in
        let s = well.sized.pieces in
        omega arith

    pub reported : (ws : List ℕ) → ws ≡ widths → (workers widest packed least : ℕ) (chain : List JobId) → 1 ≤ workers → IsGreatestOf ws widest
        → packed ≡ ceils workers ws
        → least ≡ max (div_ceil (job_pieces plan) workers) top.level → (top.job ≡ None → chain ≡ [])
        → ((j : ℕ) → top.job ≡ Some (number_of_job j) → ChosenTo plan levels chain j)
        → IsReported workers widest packed least chain
    reported ws e workers widest packed least chain one greatest is_packed is_least when_none when_some =
        let round = level_plan plan levels in
        let fewest = is_fewest plan well levels before found top is_top in
        let same : packed ≡ rounds_taken workers plan (level_plan plan levels) top.level = is_packed
        ∙ (ap (ceils workers) e ∙ ceils_are plan (level_plan plan levels) top.level widths long are workers) in
        record {
          levels_are = levels_hold;
          chain_is = longest_chain plan well levels before found top is_top chain when_none when_some;
          fewest = fewest;
          widest_is = widest_is plan (level_plan plan levels) top.level widths long are widest (subst (λ l. IsGreatestOf l widest) e greatest);
          packed_is = same;
          packed = subst (IsPackable plan workers) (sym same) (is_packable plan
              (level_plan plan levels) workers top.level one levels_hold.is_plan levels_hold.has_rounds);
          least_is = is_least;
          least = subst (IsNeeded plan workers) (sym is_least) (is_needed plan workers top.level one fewest);
        }
