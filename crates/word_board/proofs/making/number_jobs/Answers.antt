use Rattle.std.proofs.Common.{◌≡◌, ◌<◌, length, ap, subst, ◌∙◌, arith, rules}
use Rattle.frame_core.specs.Names.{pieces_before}
use Rattle.word_board.proofs.Laying.{numbered_more}
use Rattle.frame_core.proofs.Boards.{pieces_grow}
use Rattle.word_board.proofs.making.number_jobs.Goals as goal

pub loop-j-init : goal.loop-j-init
loop-j-init c = record { numbered = record { size = ap length c.in_ok-jobs.ensures.items; jobs = λ p lt. absurd (omega arith) } }

pub push_job-requires : goal.push_job-requires
push_job-requires c =
    let size = c.loop-j.invariant.numbered.size in
    let end = c.end_of-end.ensures.end in
    let grows = pieces_grow c.args.plan.now.jobs.items c.loop-j.j in
    record { end = omega arith }

pub loop-j-preserved : goal.loop-j-preserved
loop-j-preserved c =
    record {
      numbered = numbered_more c.args.plan.now c.loop-j.jobs.items c.push_job.new.jobs.items c.loop-j.j c.end_of-end.result _ c.loop-j.invariant.numbered
          c.end_of-end.ensures.end (omega arith)
          c.in_ok-push_job.ensures.size c.in_ok-push_job.ensures.old c.in_ok-push_job.ensures.new;
    }

pub returns-clause-size : goal.returns-clause-size
returns-clause-size c =
    let end : c.len-j-end.result ≡ length c.args.plan.now.jobs.items = search rules in
    let last = c.loop-j-test.false in
    let most = c.loop-j.auto.j-end in
    let all : c.loop-j.j ≡ length c.args.plan.now.jobs.items = omega arith in
    c.loop-j.invariant.numbered.size ∙ ap (pieces_before c.args.plan.now.jobs.items) all

pub returns-clause-jobs : goal.returns-clause-jobs
returns-clause-jobs c =
    let end : c.len-j-end.result ≡ length c.args.plan.now.jobs.items = search rules in
    let last = c.loop-j-test.false in
    let most = c.loop-j.auto.j-end in
    let all : length c.args.plan.now.jobs.items ≡ c.loop-j.j = omega arith in
    λ p lt. c.loop-j.invariant.numbered.jobs p (subst (λ n. p < pieces_before c.args.plan.now.jobs.items n) all lt)
