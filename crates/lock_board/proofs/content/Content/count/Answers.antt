use Rattle.std.proofs.Common.{◌≡◌, ◌≢◌, ℕ, suc, ◌+◌, ◌-◌, ◌≤◌, ◌<◌, ◌^◌, Bool, true, false, List, length, set, length-set, refl, sym, ap, subst, ◌∙◌, arith}
use Rattle.std.specs.Prelude.{slice_index}
use Rattle.std.specs.Coded.{Coded-set, coded_bool, le_prop}
use Rattle.std.specs.Vec.{with_items}
use Rattle.std.proofs.lemmas.Bool.{and_parts}
use Rattle.std.proofs.lemmas.List.{with_items_is}
use Rattle.std.proofs.Math.Logic.{∥∥₁_elim, ∥∥₁_map}
use Rattle.frame_core.specs.declared.plan.Plan.{Plan}
use Rattle.frame_core.specs.Know.{due_after, is_of, piece_count}
use Rattle.lock_board.specs.declared.state.State.{State}
use Rattle.lock_board.specs.declared.state.State.TheVariants.{Ended, Counted}
use Rattle.lock_board.specs.Locked.{is_owed, locked, unfinished, OthersAreCounted, IsKept}
use Rattle.lock_board.specs.States.{state_of, is_uncounted}
use Rattle.lock_board.proofs.Reading.{read, when_uncounted}
use Rattle.lock_board.proofs.Counting.{of_job_below, one_less, others_then, then_others, more_left, none_left, dues_fit, counted_kept}
use Rattle.lock_board.proofs.content.Content.count.Goals as goal

-- what the test found
record IsEnded (plan : Plan) (states : List State) (rests : List ℕ) (p job x : ℕ) : Type 0 where
  job_is : job ≡ suc (job - 1)
  below : job - 1 < length plan.jobs.items
  part : is_of plan (suc (job - 1)) p ≡ true
  low : p < length states
  ended : state_of states p ≡ Ended
  rest : slice_index rests (job - 1) ≡ x

ended_is : (plan : Plan) (states : List State) (rests : List ℕ) (p job x : ℕ) (owed : Bool) → 0 < job → job < length plan.jobs.items + 1
    → length states ≡ piece_count plan
    → length rests ≡ length plan.jobs.items → owed ≡ is_owed plan states p job → owed ≡ true → x ≡ Rattle.std.proofs.Common.get_or rests (job - 1) x
    → IsEnded plan states rests p job x
ended_is plan states rests p job x owed some few size sizes e t at =
    let both = and_parts (is_of plan job p) (is_uncounted (state_of states p)) (sym e ∙ t) in
    let j : job ≡ suc (job - 1) = omega arith in
    let part : is_of plan (suc (job - 1)) p ≡ true = subst (λ n. is_of plan n p ≡ true) j both.0 in
    let lt = of_job_below plan (job - 1) p part in
    record {
      job_is = j;
      below = omega arith;
      part = part;
      low = omega arith;
      ended = when_uncounted (state_of states p) both.1;
      rest = read rests (job - 1) x 0 (omega arith) at;
    }

pub overflow_sub-left : goal.overflow_sub-left
overflow_sub-left g c =
    let plan = g.K.PlanName.plan in
    let m = c.args.self.now in
    let E = ended_is plan m.states.items m.rests.items c.args.p c.args.job c.index.result.now c.is_owed.result c.requires.job.0 c.requires.job.1 m.state_count
    m.rest_count c.is_owed.ensures c.if-not-is_owed.false c.index.ensures in
    ∥∥₁_elim m.kept le_prop (λ C.
    let o = one_less plan m.states.items m.cells.items m.rests.items m.waits.items m.dues.items c.args.p
    (c.args.job - 1) E.low E.below m.rest_count E.part E.ended C in
    let r = C.rest_is (c.args.job - 1) E.below in
    let x = E.rest in
    omega arith)

-- the count under the lock, with r pieces left
module _ (plan : Plan) (states : List State) (cells : List Rattle.std.proofs.Common.ℤ) (rests waits dues : List ℕ) (p job x : ℕ)
    (sizes : length rests ≡ length plan.jobs.items)
    (E : IsEnded plan states rests p job x) (C : IsKept plan (locked states cells rests waits dues)) where
  some : slice_index rests (job - 1) ≡ suc (x - 1)
  some =
      let o = one_less plan states cells rests waits dues p (job - 1) E.low E.below sizes E.part E.ended C in
      let r = C.rest_is (job - 1) E.below in
      let x = E.rest in
      omega arith

  more_kept : x - 1 ≢ 0 → IsKept plan (locked (set states p Counted) cells (set rests (job - 1) (x - 1)) waits dues)
  more_kept left = counted_kept plan states cells rests waits dues p (job - 1) E.low E.below sizes E.part E.ended C (x - 1) some dues
      (λ d lt. ap (λ n. n + slice_index dues d) (sym (more_left plan states cells rests waits dues p (job - 1) E.low E.below sizes E.part E.ended C
      (x - 1) some left d)))

  none_kept : x - 1 ≡ 0 → (dues' : List ℕ) → ((d : ℕ) → d < length plan.jobs.items
      → slice_index dues' d ≡ slice_index dues d + due_after plan (suc (job - 1)) (suc d))
      → IsKept plan (locked (set states p Counted) cells (set rests (job - 1) (x - 1)) waits dues')
  none_kept z dues' more = counted_kept plan states cells rests waits dues p (job - 1) E.low E.below sizes E.part E.ended C (x - 1) some dues'
      (λ d lt. by_sum (unfinished plan states rests d) _ (slice_index dues d) (slice_index dues' d) _
      (none_left plan states cells rests waits dues p (job - 1) E.low E.below sizes E.part E.ended C (x - 1) some z d) (more d lt))
    where
      by_sum : (u v a b o : ℕ) → v + o ≡ u → b ≡ a + o → u + a ≡ v + b
      by_sum u v a b o e f = omega arith

  others_left : OthersAreCounted plan states job p → x - 1 ≡ 0
  others_left all = others_then plan states cells rests waits dues p (job - 1) E.low E.below sizes E.part E.ended C (x - 1) some
      (subst (λ n. OthersAreCounted plan states n p) E.job_is all)

  no_others : x - 1 ≡ 0 → OthersAreCounted plan states job p
  no_others z = subst (λ n. OthersAreCounted plan states n p) (sym E.job_is)
      (then_others plan states cells rests waits dues p (job - 1) E.low E.below sizes E.part E.ended C (x - 1) some z)

  fits : x - 1 ≡ 0 → (d : ℕ) → d < length plan.jobs.items → slice_index dues d + due_after plan job (suc d) < 2 ^ 32
  fits z d lt = subst (λ n. slice_index dues d + due_after plan n (suc d) < 2 ^ 32) (sym E.job_is)
      (dues_fit plan states cells rests waits dues p (job - 1) E.low E.below sizes E.part E.ended C (x - 1) some z d lt)

pub invariant_of-self : goal.invariant_of-self
invariant_of-self g c =
    let plan = g.K.PlanName.plan in
    let m = c.args.self.now in
    let left = c.if-left-gt0.true in
    let E = ended_is plan m.states.items m.rests.items c.args.p c.args.job c.index.result.now c.is_owed.result c.requires.job.0 c.requires.job.1 m.state_count
    m.rest_count c.is_owed.ensures c.if-not-is_owed.false c.index.ensures in
    record {
      named = m.named;
      state_count = length-set m.states.items c.args.p Counted ∙ m.state_count;
      cell_count = m.cell_count;
      rest_count = length-set m.rests.items (c.args.job - 1) (c.index.result.now - 1) ∙ m.rest_count;
      wait_count = m.wait_count;
      due_count = m.due_count;
      kept = ∥∥₁_map m.kept (λ C. more_kept plan m.states.items m.cells.items m.rests.items m.waits.items m.dues.items c.args.p c.args.job c.index.result.now
          m.rest_count E C (λ e. omega arith));
    }

pub returns-then-left-gt0-clause-last : goal.returns-then-left-gt0-clause-last
returns-then-left-gt0-clause-last g c =
    let plan = g.K.PlanName.plan in
    let m = c.args.self.now in
    let left = c.if-left-gt0.true in
    let E = ended_is plan m.states.items m.rests.items c.args.p c.args.job c.index.result.now c.is_owed.result c.requires.job.0 c.requires.job.1 m.state_count
    m.rest_count c.is_owed.ensures c.if-not-is_owed.false c.index.ensures in (
      (λ t. absurd (Rattle.frame_core.proofs.Small.not_both t refl)),
      (λ all. ∥∥₁_elim m.kept (Coded-set coded_bool _ _) (λ C.
          let z = others_left plan m.states.items m.cells.items m.rests.items m.waits.items m.dues.items c.args.p c.args.job c.index.result.now m.rest_count E C
          all in absurd (omega arith))),
    )

pub add_dues-requires-clause-fits : goal.add_dues-requires-clause-fits
add_dues-requires-clause-fits g c d lt due =
    let plan = g.K.PlanName.plan in
    let m = c.args.self.now in
    let left = c.if-left-gt0.false in
    let z : c.index.result.now - 1 ≡ 0 = omega arith in
    let E = ended_is plan m.states.items m.rests.items c.args.p c.args.job c.index.result.now c.is_owed.result c.requires.job.0 c.requires.job.1 m.state_count
    m.rest_count c.is_owed.ensures c.if-not-is_owed.false c.index.ensures in
    let lent = c.deref_mut.ensures.value in
    let fit : slice_index c.deref_mut.result.now d + due_after plan c.args.job (suc d) < 2 ^ 32 =
    ∥∥₁_elim m.kept le_prop (λ C. subst (λ l. slice_index l d + due_after plan c.args.job (suc d) < 2 ^ 32) (sym lent)
    (fits plan m.states.items m.cells.items m.rests.items m.waits.items m.dues.items c.args.p c.args.job c.index.result.now m.rest_count E C z d
    (subst (λ n. d < n) (ap (λ l. length l) lent ∙ m.due_count) lt))) in
    omega (arith, fit, due)

pub invariant_of-self-2 : goal.invariant_of-self-2
invariant_of-self-2 g c =
    let plan = g.K.PlanName.plan in
    let m = c.args.self.now in
    let left = c.if-left-gt0.false in
    let z : c.index.result.now - 1 ≡ 0 = omega arith in
    let E = ended_is plan m.states.items m.rests.items c.args.p c.args.job c.index.result.now c.is_owed.result c.requires.job.0 c.requires.job.1 m.state_count
    m.rest_count c.is_owed.ensures c.if-not-is_owed.false c.index.ensures in
    let lent = c.deref_mut.ensures.value in
    let more = c.add_dues.new.dues in
    let dues_are : (with_items m.dues more).items ≡ more = with_items_is m.dues more (c.add_dues.auto.dues ∙ (ap (λ l. length l) lent ∙ sym m.dues.ok.0)) in
    record {
      named = m.named;
      state_count = length-set m.states.items c.args.p Counted ∙ m.state_count;
      cell_count = m.cell_count;
      rest_count = length-set m.rests.items (c.args.job - 1) (c.index.result.now - 1) ∙ m.rest_count;
      wait_count = m.wait_count;
      due_count = ap (λ l. length l) dues_are ∙ (c.add_dues.auto.dues ∙ (ap (λ l. length l) lent ∙ m.due_count));
      kept = ∥∥₁_map m.kept (λ C.
          subst (λ (l : List ℕ). IsKept plan (locked (set m.states.items c.args.p Counted) m.cells.items
          (set m.rests.items (c.args.job - 1) (c.index.result.now - 1)) m.waits.items l)) (sym dues_are)
          (none_kept plan m.states.items m.cells.items m.rests.items m.waits.items m.dues.items c.args.p c.args.job c.index.result.now m.rest_count E C z more
          (λ d lt. c.add_dues.ensures.dues d (subst (λ n. d < n) (sym (ap (λ l. length l) lent ∙ m.due_count)) lt)
          ∙ (ap (λ l. slice_index l d + due_after plan c.args.job (suc d)) lent ∙ ap (λ n. slice_index m.dues.items d + due_after plan n (suc d)) E.job_is))));
    }

pub returns-clause-last : goal.returns-clause-last
returns-clause-last g c =
    let plan = g.K.PlanName.plan in
    let m = c.args.self.now in
    let left = c.if-left-gt0.false in
    let z : c.index.result.now - 1 ≡ 0 = omega arith in
    let E = ended_is plan m.states.items m.rests.items c.args.p c.args.job c.index.result.now c.is_owed.result c.requires.job.0 c.requires.job.1 m.state_count
    m.rest_count c.is_owed.ensures c.if-not-is_owed.false c.index.ensures in (
      (λ t q of ne. ∥∥₁_elim m.kept (Coded-set coded_bool _ _) (λ C.
          no_others plan m.states.items m.cells.items m.rests.items m.waits.items m.dues.items c.args.p c.args.job c.index.result.now m.rest_count E C z q of
          ne)),
      (λ all. refl),
    )
