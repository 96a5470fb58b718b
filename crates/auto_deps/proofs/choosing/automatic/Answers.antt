use Rattle.std.proofs.Common.{◌≡◌, ℕ, true, false, Some, sym, subst, ◌∙◌}
use Rattle.frame_ast.specs.Jobs.{Jobs, both, greatest}
use Rattle.frame_ast.specs.Conflicts.{blocking, automatic}
use Rattle.frame_ast.specs.Laws.{AreUpTo}
use Rattle.frame_ast.proofs.Covering.{automatic_sets_cover}
use Rattle.job_handle.specs.Sets.{jobs_of, outside, job_numbered}
use Rattle.job_handle.specs.Books.{count_of}
use Rattle.job_handle.proofs.Among.{one_among}
use Rattle.auto_deps.specs.Needs.{ForNeeds}
use Rattle.auto_deps.proofs.Covered.{none_blocked}
use Rattle.auto_deps.proofs.Chosen.{none_yet, is_wanted, within_all, one_more, fewer, none_is_left, is_automatic}
use Rattle.auto_deps.proofs.choosing.automatic.Goals as goal
use Rattle.auto_deps.proofs.choosing.automatic.Goals.{In-Some, In_default}

pub loop-j-init : goal.loop-j-init
loop-j-init c = none_yet c.args.jobs.now c.args.after.now c.conflicting-wanted.result c.empty-chosen.result c.before-before.result c.empty-chosen.ensures
    c.before-before.ensures

-- THE NEXT JOB

known : (c : In-Some) → AreUpTo (count_of c.args.jobs.now) (jobs_of c.conflicting-wanted.result)
known c k t = c.requires.noted k (sym (c.conflicting-wanted.ensures k) ∙ t)

found : (c : In-Some) → Some (record { 0 = c.in-Some.j.0 }) ≡ job_numbered
    (greatest (outside (jobs_of c.conflicting-wanted.result) (jobs_of c.loop-j.before)) (count_of c.args.jobs.now))
found c = sym c.in-Some.is ∙ c.latest_outside.ensures (count_of c.args.jobs.now) (known c)

wanted : (c : In-Some) → jobs_of c.conflicting-wanted.result c.in-Some.j.0 ≡ true
wanted c = is_wanted c.args.jobs.now c.args.after.now c.conflicting-wanted.result c.loop-j.chosen c.loop-j.before c.loop-j.invariant
    (count_of c.args.jobs.now) c.in-Some.j.0 (found c) (known c)

pub of-job-requires : goal.of-job-requires
of-job-requires c = within_all c.conflicting-wanted.result c.in-Some.j.0 (wanted c)

pub closure-requires : goal.closure-requires
closure-requires c =
    let d = (goal.at.closure-requires c).In-Some in
    let range = known d c.in-Some.j.0 (wanted d) in
    one_among (count_of c.args.jobs.now) c.in-Some.j.0 c.of-job.result c.of-job.ensures range.0 range.1

pub loop-j-smaller : goal.loop-j-smaller
loop-j-smaller c =
    let d = (goal.at.loop-j-smaller c).In-Some in
    fewer c.args.jobs.now c.args.after.now c.conflicting-wanted.result c.loop-j.chosen c.loop-j.before c.loop-j.invariant
    (count_of c.args.jobs.now) c.in-Some.j.0 (found d) (known d)
    c.of-job.result c.closure.result c.add_all.new.self c.add_all-in-Some.new.self c.of-job.ensures c.closure.ensures.all c.closure.ensures.own
    c.add_all.ensures c.add_all-in-Some.ensures

pub loop-j-preserved : goal.loop-j-preserved
loop-j-preserved c =
    let d = (goal.at.loop-j-preserved c).In-Some in
    one_more c.args.jobs.now c.args.after.now c.conflicting-wanted.result c.loop-j.chosen c.loop-j.before c.loop-j.invariant
    (count_of c.args.jobs.now) c.in-Some.j.0 (found d) (known d)
    c.of-job.result c.closure.result c.add_all.new.self c.add_all-in-Some.new.self c.of-job.ensures c.closure.ensures.all c.closure.ensures.own
    c.add_all.ensures c.add_all-in-Some.ensures

-- THE ANSWER

exact : (c : In_default) → ForNeeds c.args.jobs.now c.args.book.now c.args.uses.now
    (λ b u needs. (j : ℕ) → jobs_of c.loop-j.chosen j ≡ automatic b u (jobs_of c.args.after.now) needs j)
exact c b u needs F U N = is_automatic c.args.jobs.now c.args.after.now c.conflicting-wanted.result c.loop-j.chosen c.loop-j.before c.loop-j.invariant
    (none_is_left c.conflicting-wanted.result c.loop-j.before (count_of c.args.jobs.now) all_known
    (sym c.in_default.is ∙ c.latest_outside.ensures (count_of c.args.jobs.now) all_known))
    c.args.book.now c.args.uses.now c.conflicting-wanted.ensures b u needs F U N
  where
    all_known : AreUpTo (count_of c.args.jobs.now) (jobs_of c.conflicting-wanted.result)
    all_known k t = c.requires.noted k (sym (c.conflicting-wanted.ensures k) ∙ t)

pub returns-clause-known : goal.returns-clause-known
returns-clause-known c k t = c.requires.noted k (sym (c.conflicting-wanted.ensures k) ∙ c.loop-j.invariant.own k t)

pub returns-clause-set : goal.returns-clause-set
returns-clause-set c = exact c

pub returns-clause-blocks : goal.returns-clause-blocks
returns-clause-blocks c b u needs F U N j t = (automatic_sets_cover b u (jobs_of c.args.after.now) needs F.known U).blocks j
    (sym (exact c b u needs F U N j) ∙ t)

pub returns-clause-none_left : goal.returns-clause-none_left
returns-clause-none_left c b u needs F U N = none_blocked b u (both (jobs_of c.args.after.now) (jobs_of c.loop-j.chosen)) needs
    (subst (λ (s : Jobs). (j : ℕ) → blocking b u (both (jobs_of c.args.after.now) s) needs j ≡ false) (sym (λ i j. exact c b u needs F U N j i))
    (automatic_sets_cover b u (jobs_of c.args.after.now) needs F.known U).none_left)

pub returns-clause-apart : goal.returns-clause-apart
returns-clause-apart c b u needs F U N j k s t = (automatic_sets_cover b u (jobs_of c.args.after.now) needs F.known U).apart j k
    (sym (exact c b u needs F U N j) ∙ s) (sym (exact c b u needs F U N k) ∙ t)
