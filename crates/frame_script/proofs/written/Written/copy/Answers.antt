use Rattle.std.proofs.Common.{arith, ◌≡◌, ◌≤◌, subst, length, take, drop}
use Rattle.frame_script.specs.Writing.{PutsCopies}
use Rattle.frame_script.proofs.Writing.Repeats.{copied_none, copied_more, as_long}
use Rattle.frame_script.proofs.written.Written.copy.Goals as goal

pub loop-at-init : goal.loop-at-init
loop-at-init c = copied_none c.args.self.now c.args.start

pub copy_one-requires : goal.copy_one-requires
copy_one-requires c =
    let long : length c.args.self.now.statements ≤ length c.loop-at.self.statements =
    as_long c.args.self.now c.loop-at.self c.loop-at.invariant.0 c.loop-at.invariant.2 in
    omega (arith, long, c.requires.within, c.loop-at-test.true)

pub loop-at-preserved : goal.loop-at-preserved
loop-at-preserved c =
    copied_more c.args.self.now c.loop-at.self c.copy_one.new.self c.args.start c.loop-at.at c.loop-at.auto.at
    (omega (arith, c.requires.within, c.loop-at-test.true)) c.loop-at.invariant c.in_ok-copy_one.ensures

pub returns : goal.returns
returns c =
    let end : c.loop-at.at ≡ c.args.end = omega (arith, c.loop-at.auto.at-end c.requires.order, c.loop-at-test.false) in
    subst (λ n. PutsCopies (drop c.args.start (take n c.args.self.now.statements)) c.args.self.now c.loop-at.self) end c.loop-at.invariant
