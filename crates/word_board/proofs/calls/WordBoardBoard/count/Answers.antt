use Rattle.std.proofs.Common.{◌≡◌, ℕ, suc, ◌+◌, ◌-◌, true, false, length, slice_index_or, vec_len, sym, ap, ◌∙◌, arith, Some, rules}
use Rattle.word_board.specs.Boards.{name_of, home_of}
use Rattle.word_board.specs.Views.{know, counted_view}
use Rattle.word_board.specs.declared.board.WordBoard.{WordBoard}
use Rattle.word_board.specs.declared.seat.WordSeat.{WordSeat}
use Rattle.word_board.proofs.Seated.{seat_of, owed_is, IsOwed, counted_is, counted_step, same_default}
use Rattle.word_board.proofs.calls.WordBoardBoard.count.Goals as goal

pub count-requires-clause-seat : goal.count-requires-clause-seat
count-requires-clause-seat c = seat_of c.args.self.now c.args.seat.now c.requires.home

-- the number that the table of jobs gives is that of the job
job_is : (b : WordBoard) (s : WordSeat) (home : home_of s ≡ name_of b) (j n : ℕ) → IsOwed b s home j → n ≡ slice_index_or b.jobs.items s.piece n → n ≡ j
job_is b s home j n o e = let many = b.job_count in let piece = o.piece in e ∙ (same_default b.jobs.items s.piece n 0 (omega arith) ∙ o.found)

pub index-job-requires : goal.index-job-requires
index-job-requires c =
    let o = owed_is c.args.self.now c.args.seat.now c.requires.home c.requires.owed.0 c.requires.owed.1 in
    let many : length c.args.self.now.jobs.items ≡ Rattle.frame_core.specs.Names.job_pieces c.args.self.now.table.shared.key = c.args.self.now.job_count in
    let len : vec_len c.args.self.now.jobs ≡ length c.args.self.now.jobs.items = search rules in
    let piece = o.piece in
    omega arith

pub overflow_sub-word : goal.overflow_sub-word
overflow_sub-word c =
    let o = owed_is c.args.self.now c.args.seat.now c.requires.home c.requires.owed.0 c.requires.owed.1 in
    let same = job_is c.args.self.now c.args.seat.now c.requires.home c.requires.owed.0 c.index-job.result.now o c.index-job.ensures in
    let number = o.number in
    omega arith

pub overflow_sub-job : goal.overflow_sub-job
overflow_sub-job c =
    let o = owed_is c.args.self.now c.args.seat.now c.requires.home c.requires.owed.0 c.requires.owed.1 in
    let same = job_is c.args.self.now c.args.seat.now c.requires.home c.requires.owed.0 c.index-job.result.now o c.index-job.ensures in
    let number = o.number in
    omega arith

pub count-requires-clause-job : goal.count-requires-clause-job
count-requires-clause-job c =
    let o = owed_is c.args.self.now c.args.seat.now c.requires.home c.requires.owed.0 c.requires.owed.1 in
    let same = job_is c.args.self.now c.args.seat.now c.requires.home c.requires.owed.0 c.index-job.result.now o c.index-job.ensures in
    let number = o.number in
    let below = o.below in
    omega arith

pub count-requires-clause-owed : goal.count-requires-clause-owed
count-requires-clause-owed c =
    let o = owed_is c.args.self.now c.args.seat.now c.requires.home c.requires.owed.0 c.requires.owed.1 in
    let same = job_is c.args.self.now c.args.seat.now c.requires.home c.requires.owed.0 c.index-job.result.now o c.index-job.ensures in
    let number = o.number in
    let e : c.requires.owed.0 ≡ suc (c.index-job.result.now - 1) = omega arith in
    c.requires.owed.1 ∙ ap Some e

pub returns-then-count-clause-job : goal.returns-then-count-clause-job
returns-then-count-clause-job c =
    let o = owed_is c.args.self.now c.args.seat.now c.requires.home c.requires.owed.0 c.requires.owed.1 in
    let same = job_is c.args.self.now c.args.seat.now c.requires.home c.requires.owed.0 c.index-job.result.now o c.index-job.ensures in
    c.requires.owed.1 ∙ ap Some (sym same)

pub returns-then-count-clause-know : goal.returns-then-count-clause-know
returns-then-count-clause-know c =
    let o = owed_is c.args.self.now c.args.seat.now c.requires.home c.requires.owed.0 c.requires.owed.1 in
    let same = job_is c.args.self.now c.args.seat.now c.requires.home c.requires.owed.0 c.index-job.result.now o c.index-job.ensures in
    let number = o.number in
    let e : suc (c.index-job.result.now - 1) ≡ c.index-job.result.now = omega arith in
    ap know c.count.ensures.view
    ∙ (ap (λ r. know (counted_view c.args.seat.now.token.me.0 (suc (c.index-job.result.now - 1)) r 0 0)) c.if-count.true
    ∙ (ap (λ j. know (counted_view c.args.seat.now.token.me.0 j true 0 0)) e
    ∙ counted_is c.args.self.now c.args.seat.now c.requires.home c.index-job.result.now 0 0))

pub returns-then-count-clause-step : goal.returns-then-count-clause-step
returns-then-count-clause-step c =
    let o = owed_is c.args.self.now c.args.seat.now c.requires.home c.requires.owed.0 c.requires.owed.1 in
    let same = job_is c.args.self.now c.args.seat.now c.requires.home c.requires.owed.0 c.index-job.result.now o c.index-job.ensures in
    let number = o.number in
    let e : c.requires.owed.0 ≡ suc (c.index-job.result.now - 1) = omega arith in (
      c.index-job.result.now - 1,
      c.requires.owed.1 ∙ ap Some e,
      counted_step c.args.self.now c.args.seat.now c.requires.home _ _ _ true _ _ c.count.ensures.view c.if-count.true
          (ap (λ r. r + (c.index-job.result.now - 1)) c.args.self.now.rests_are),
    )

pub returns-else-count-clause-step : goal.returns-else-count-clause-step
returns-else-count-clause-step c =
    let o = owed_is c.args.self.now c.args.seat.now c.requires.home c.requires.owed.0 c.requires.owed.1 in
    let same = job_is c.args.self.now c.args.seat.now c.requires.home c.requires.owed.0 c.index-job.result.now o c.index-job.ensures in
    let number = o.number in
    let e : c.requires.owed.0 ≡ suc (c.index-job.result.now - 1) = omega arith in (
      c.index-job.result.now - 1,
      c.requires.owed.1 ∙ ap Some e,
      counted_step c.args.self.now c.args.seat.now c.requires.home _ _ _ false _ _ c.count.ensures.view c.if-count.false
          (ap (λ r. r + (c.index-job.result.now - 1)) c.args.self.now.rests_are),
    )
