use Rattle.std.proofs.Common.{◌≡◌, ℕ, zero, suc, ◌+◌, ◌-◌, ◌<◌, ◌≤◌, length, sym, ap, subst, ◌∙◌, arith, Some, None}
use Rattle.std.specs.Prelude.{slice_index}
use Rattle.std.specs.Vec.{with_items}
use Rattle.std.proofs.lemmas.List.{with_items_is}
use Rattle.frame_core.specs.Know.{due_once}
use Rattle.frame_core.specs.Names.{job_pieces, starts_in, segment_at}
use Rattle.frame_core.specs.Pieces.{IsPieceOf}
use Rattle.frame_core.proofs.Numbered.{of_job, number_numbered, segment_numbered}
use Rattle.frame_core.proofs.Small.{some_is, get_below}
use Rattle.lock_board.specs.Layouts.{job_number}
use Rattle.lock_board.specs.Seats.{due_of}
use Rattle.lock_board.specs.Started.{started_in}
use Rattle.lock_board.proofs.Knowing.{know_part_ended, know_segment_ended, none_at_zero}
use Rattle.lock_board.proofs.Reading.{read}
use Rattle.lock_board.proofs.seat.Held.end.Goals as goal

pub returns-then-p-layout-clause-know : goal.returns-then-p-layout-clause-know
returns-then-p-layout-clause-know g c t =
    let plan = g.K.PlanName.plan in
    let h = c.args.self.now in
    let l = c.args.layout.now in
    let p = c.args.p.0 in
    let low : p < job_pieces plan = subst (λ n. p < n) l.parts_are c.if-p-layout.true in
    let o = of_job plan p low in
    let x : c.index.result.now ≡ suc o.0 = sym (read l.jobs.items p c.index.result.now 0 (subst (λ n. p < n) (sym l.job_count) low) c.index.ensures)
    ∙ (l.jobs_are p low ∙ ap job_number o.2) in
    know_part_ended plan h.owed h.dues.items h.rights.items h.seen.items h.first h.ended h.opened h.lease h.room.items h.room.items p o.0 o.1 c.index.result.now
    o.2 x

pub returns-then-p-layout-clause-owed : goal.returns-then-p-layout-clause-owed
returns-then-p-layout-clause-owed g c was j e =
    let plan = g.K.PlanName.plan in
    let l = c.args.layout.now in
    let p = c.args.p.0 in
    let low : p < job_pieces plan = subst (λ n. p < n) l.parts_are c.if-p-layout.true in
    let o = of_job plan p low in
    let there = subst (IsPieceOf plan) o.2 (number_numbered plan p (omega arith)).is in
    let below = get_below plan.jobs.items o.0 there.0 there.1 in
    let x : c.index.result.now ≡ suc o.0 = sym (read l.jobs.items p c.index.result.now 0 (subst (λ n. p < n) (sym l.job_count) low) c.index.ensures)
    ∙ (l.jobs_are p low ∙ ap job_number o.2) in
    let is : c.index.result.now ≡ j.0 = ap (λ (y : Rattle.job_base.specs.declared.JobId.JobId). y.0) (some_is e) in
    (omega arith, omega arith)

pub returns-clause-know : goal.returns-clause-know
returns-clause-know g c t =
    let plan = g.K.PlanName.plan in
    let h = c.args.self.now in
    let l = c.args.layout.now in
    let p = c.args.p.0 in
    let no = c.if-p-layout.false in
    let parts = l.parts_are in
    let le : job_pieces plan ≤ p = omega arith in
    let s : ℕ = p - job_pieces plan in
    let is = segment_numbered plan p le in
    let more = c.add_due.new.dues in
    let lent = c.deref_mut.ensures.value in
    let dues_are : (with_items h.dues more).items ≡ more = with_items_is h.dues more (c.add_due.auto.dues ∙ (ap (λ y. length y) lent ∙ sym h.dues.ok.0)) in
    let started : (j : ℕ) → due_once c.started_by-started.result j ≡ due_once (starts_in (segment_at plan s)) j = λ j. c.started_by-started.ensures.started j
    ∙ ap (λ x. started_in plan x j) is in
    let none = none_at_zero c.started_by-started.result (length plan.jobs.items + 1) c.started_by-started.ensures.job in
    know_segment_ended plan h.owed h.rights.items h.seen.items h.first h.lease h.room.items h.room.items h.dues.items
    (with_items h.dues more).items h.ended h.opened p s is
    (by (with_items h.dues more).items h.dues.items c.started_by-started.result none
    (λ j. ap (λ y. slice_index y j) dues_are ∙ (c.add_due.ensures j ∙ ap (λ y. slice_index y j + due_once c.started_by-started.result (suc j)) lent))
    (starts_in (segment_at plan s)) started)
  where
    by : (new old : Rattle.std.proofs.Common.List ℕ) (r : _) → due_once r 0 ≡ 0 → ((j : ℕ) → slice_index new j ≡ slice_index old j + due_once r (suc j))
        → (o : _) → ((j : ℕ) → due_once r j ≡ due_once o j)
        → (j : ℕ) → due_of new j ≡ due_of old j + due_once o j
    by new old r none each o same zero = let e = same 0 in let z : due_once o 0 ≡ 0 = sym e ∙ none in omega arith
    by new old r none each o same (suc j) = each j ∙ ap (λ n. slice_index old j + n) (same (suc j))
