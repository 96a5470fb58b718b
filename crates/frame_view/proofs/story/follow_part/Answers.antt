use Rattle.std.proofs.Common.{◌≡◌, ◌+◌, ◌<◌, ◌≤◌, inl, inr, length, drop, take, get_or, None, Some, refl, sym, ap, subst, ◌∙◌, arith}
use Rattle.std.specs.Prelude.{slice_get, if◌then◌else◌}
use Rattle.job_depth.proofs.Steps.{item_at}
use Rattle.frame_view.specs.declared.story.Story.{Story}
use Rattle.frame_view.specs.Marks.{marks_of, next_fit}
use Rattle.frame_view.specs.Stories.{is_schedule, Leaves}
use Rattle.frame_view.proofs.Following.{begins, skips, tells, ends}
use Rattle.frame_view.proofs.Whole.{IsTellingAll, begins_all, tells_one, tells_on, taken, taken_at, taken_length, ends_all}
use Rattle.frame_view.proofs.story.follow_part.Goals as goal
use Rattle.frame_view.proofs.story.follow_part.Goals.{in-Some+in_ok-tell, in_default}

pub loop-at-init : goal.loop-at-init
loop-at-init c = (
  begins c.args.script.now c.args.part.from c.args.plan.now _ _ c.new.ensures.items c.new-2.ensures.items,
  begins_all c.args.script.now _ c.args.part.from c.args.part.passed _ _ _ c.new.ensures.items c.new-2.ensures.items,
  inr (omega arith),
)

pub loop-at-preserved : goal.loop-at-preserved
loop-at-preserved c =
    let xs = c.args.script.now.statements.items in
    let ok = c.args.script.now.statements.ok.0 in
    let to_is = c.min-to.ensures in
    let test = c.loop-at-test.true in
    let below : c.loop-at.at < c.min-to.result = omega arith in
    let inside : c.min-to.result ≤ length xs = omega arith in
    let here : c.loop-at.at < length xs = omega (arith, below, inside) in
    let short : c.loop-at.at < length (take c.min-to.result xs) = let n = taken_length xs c.min-to.result inside in omega (arith, below, n) in
    let x = c.index-statement.result.now in
    let is : x ≡ get_or (take c.min-to.result xs) c.loop-at.at x =
    c.index-statement.ensures ∙ sym (taken_at xs c.min-to.result c.loop-at.at x below) in
    let has : slice_get xs c.loop-at.at ≡ Some x = item_at _ _ _ _ refl here c.index-statement.ensures in
    let marks_is : c.deref.result.now ≡ marks_of c.args.plan.now.segments.items = c.deref.ensures.value ∙ c.in_ok-marks.ensures in
    let inv = c.loop-at.invariant in
    elim c.match-mark_for.branch [
      | in-Some+in_ok-tell w ↦
          let below_marks : w.in-Some.i < length c.in_ok-marks.marks.items =
          let l = w.in-Some.ensures.within in let e = ap length c.deref.ensures.value in omega arith in
          let within : w.in-Some.i < length (marks_of c.args.plan.now.segments.items) =
          let e = ap length c.in_ok-marks.ensures in omega arith in
          let marked : slice_get (marks_of c.args.plan.now.segments.items) w.in-Some.i ≡ Some w.index.result.now =
          item_at _ _ _ _ c.in_ok-marks.ensures below_marks w.index.ensures in
          let seen : slice_get c.deref.result.now w.in-Some.i ≡ Some w.index.result.now =
          item_at _ _ _ _ (sym c.deref.ensures.value) below_marks w.index.ensures in
          let none = w.in-Some.ensures.here refl in
          let made = ap (λ (s : Story). s.made.items) w.story-is ∙ w.in_ok-tell.ensures.made in
          let refused = ap (λ (s : Story). s.refused.items) w.story-is ∙ w.in_ok-tell.ensures.refused in (
            tells c.args.script.now c.args.part.from c.args.plan.now c.loop-at.story.made.items c.match-mark_for.story.made.items
                c.loop-at.story.refused.items c.match-mark_for.story.refused.items c.loop-at.at x has
                (w.in-Some.ensures.schedule refl) w.index.result.now w.in-Some.i marked (w.in-Some.ensures.fits _ seen)
                made refused inv.0,
            subst (λ n. IsTellingAll c.args.script.now (take c.min-to.result xs) c.args.part.from c.args.part.passed
                (marks_of c.args.plan.now.segments.items) (c.loop-at.at + 1) c.passing_after-passing.result n c.match-mark_for.story.made.items
                c.match-mark_for.story.refused.items) (sym w.next-is)
                (subst (λ n. IsTellingAll c.args.script.now (take c.min-to.result xs) c.args.part.from c.args.part.passed
                (marks_of c.args.plan.now.segments.items) (c.loop-at.at + 1) n (w.in-Some.i + 1) c.match-mark_for.story.made.items
                c.match-mark_for.story.refused.items) (sym c.passing_after-passing.ensures)
                (tells_one c.args.script.now (take c.min-to.result xs) c.args.part.from c.args.part.passed (marks_of c.args.plan.now.segments.items)
                c.loop-at.at c.loop-at.next _ _ x short is has c.loop-at.passing none inv.1 (w.in-Some.ensures.schedule refl) w.in-Some.i
                w.index.result.now within
                (w.index.ensures ∙ ap (λ ys. get_or ys w.in-Some.i w.index.result.now) c.in_ok-marks.ensures)
                (taken _ _ _ (w.in-Some.ensures.schedule refl) (w.in-Some.ensures.next none)
                ∙ ap (λ ys. next_fit x.line c.loop-at.next (drop c.loop-at.next ys)) marks_is)
                _ _ made refused)),
            inl (omega (arith, below)),
          )
      | in_default w ↦ rw (w.story-is, w.next-is) (
        skips _ _ _ _ _ _ inv.0,
        subst (λ n. IsTellingAll c.args.script.now (take c.min-to.result xs) c.args.part.from c.args.part.passed
            (marks_of c.args.plan.now.segments.items) (c.loop-at.at + 1) n c.loop-at.next c.loop-at.story.made.items c.loop-at.story.refused.items)
            (sym c.passing_after-passing.ensures)
            (tells_on c.args.script.now (take c.min-to.result xs) c.args.part.from c.args.part.passed (marks_of c.args.plan.now.segments.items)
            c.loop-at.at c.loop-at.next _ _ x short is has c.loop-at.passing inv.1
            (λ none. w.in_default.ensures.next none
            ∙ ap (λ ys. if is_schedule x.act then next_fit x.line c.loop-at.next (drop c.loop-at.next ys) else None)
            marks_is)),
        inl (omega (arith, below)),
      )
    ]

pub returns-clause-story : goal.returns-clause-story
returns-clause-story c = ends _ _ _ _ c.loop-at.at c.min-to.result c.loop-at.invariant.2 (let m = c.min-to.ensures in omega arith) c.loop-at.invariant.0

pub returns-clause-all : goal.returns-clause-all
returns-clause-all c inside made refused leaves =
    let xs = c.args.script.now.statements.items in
    let to_is = c.min-to.ensures in
    let ok = c.args.script.now.statements.ok.0 in
    let same : c.min-to.result ≡ c.args.part.to = omega arith in
    let n = taken_length xs c.min-to.result (omega (arith, same, inside)) in
    let le : length (take c.min-to.result xs) ≤ c.loop-at.at = let t = c.loop-at-test.false in omega arith in
    ends_all c.args.script.now (take c.min-to.result xs) c.args.part.from c.args.part.passed (marks_of c.args.plan.now.segments.items) c.loop-at.at
    c.loop-at.passing c.loop-at.next _ _ le c.loop-at.invariant.1 made refused
    (subst (λ n. Leaves c.args.script.now c.args.part.from (drop c.args.part.from (take n xs)) c.args.part.passed
    (marks_of c.args.plan.now.segments.items) made refused) (sym same) leaves)
