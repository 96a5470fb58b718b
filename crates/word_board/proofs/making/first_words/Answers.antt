use Rattle.std.proofs.Common.{◌≡◌, ℕ, ◌<◌, length, slice_index_or, sym, ap, ◌∙◌, arith, rules, Some}
use Rattle.std.proofs.lemmas.Option.{slice_get-get_or}
use Rattle.frame_core.specs.declared.plan.JobPlan.{JobPlan}
use Rattle.frame_core.specs.declared.plan.Plan.{Plan}
use Rattle.frame_core.specs.Names.{deps_in, job_at}
use Rattle.word_board.proofs.Laying.{laid_more, laid_all, laid_none}
use Rattle.word_board.proofs.making.first_words.Goals as goal

-- the job that an index gives
job_is : (plan : Plan) (j : ℕ) (x : JobPlan) → j < length plan.jobs.items → x ≡ slice_index_or plan.jobs.items j x → job_at plan j ≡ Some x
job_is plan j x lt e = slice_get-get_or plan.jobs.items j x lt ∙ ap Some (sym e)

pub loop-j-init : goal.loop-j-init
loop-j-init c =
    let segments : c.len.result ≡ length c.args.plan.now.segments.items = search rules in
    let jobs : c.len-2.result ≡ length c.args.plan.now.jobs.items = search rules in
    let jobs' : c.len-3.result ≡ length c.args.plan.now.jobs.items = search rules in
    let parts = c.requires.parts in
    let few = c.requires.well.sized.first in
    let all = c.requires.well.sized.words_are in
    let e = c.in_ok-words.ensures in
    record {
      laid = laid_none c.args.plan.now c.in_ok-words.words.items c.deref.result.now c.deref.ensures.value (omega arith) (e.size ∙ omega arith) e.split
          e.cells e.others;
    }

pub overflow_sub-end_of : goal.overflow_sub-end_of
overflow_sub-end_of c =
    let end : c.len-j-end.result ≡ length c.args.plan.now.jobs.items = search rules in
    let low = c.loop-j-test.true in
    let lt : c.loop-j.j < length c.args.plan.now.jobs.items = omega arith in
    let first = c.requires.well.order.firsts c.loop-j.j c.index.result.now (job_is c.args.plan.now c.loop-j.j c.index.result.now lt c.index.ensures) in
    let e = c.end_of.ensures.end in
    let grows = Rattle.frame_core.proofs.Boards.pieces_grow c.args.plan.now.jobs.items c.loop-j.j in
    omega arith

pub loop-j-preserved : goal.loop-j-preserved
loop-j-preserved c =
    let end : c.len-j-end.result ≡ length c.args.plan.now.jobs.items = search rules in
    let segments : c.len.result ≡ length c.args.plan.now.segments.items = search rules in
    let jobs : c.len-2.result ≡ length c.args.plan.now.jobs.items = search rules in
    let parts = c.requires.parts in
    let low = c.loop-j-test.true in
    let lt : c.loop-j.j < length c.args.plan.now.jobs.items = omega arith in
    let there = job_is c.args.plan.now c.loop-j.j c.index.result.now lt c.index.ensures in
    let first = c.requires.well.order.firsts c.loop-j.j c.index.result.now there in
    let e = c.end_of.ensures.end in
    let there' = job_is c.args.plan.now c.loop-j.j c.index-in-loop-j.result.now lt c.index-in-loop-j.ensures in
    let deps : c.len-in-loop-j.result ≡ length c.index-in-loop-j.result.now.deps.items = search rules in
    let deps' : length (deps_in (job_at c.args.plan.now c.loop-j.j)) ≡ length c.index-in-loop-j.result.now.deps.items = ap (λ o. length (deps_in o)) there' in
    record {
      laid = laid_more c.args.plan.now c.loop-j.words.items c.loop-j.j _ _ _ _ c.loop-j.invariant.laid lt (omega arith) (omega arith) (omega arith)
          (omega arith);
    }

pub returns : goal.returns
returns c =
    let end : c.len-j-end.result ≡ length c.args.plan.now.jobs.items = search rules in
    let last = c.loop-j-test.false in
    let most = c.loop-j.auto.j-end in
    record { words = laid_all c.args.plan.now c.loop-j.words.items c.loop-j.j c.loop-j.invariant.laid (omega arith) }
