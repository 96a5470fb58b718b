use Rattle.std.proofs.Common.{refl, arith}
use Rattle.std.specs.Prelude.{slice_index}
use Rattle.job_handle.proofs.handle.Handle.add_all.Goals as goal
use Rattle.job_handle.proofs.Bits.{or_jobs, or_nothing, all_joined, wider, set_within}

pub invariant_of-self : goal.invariant_of-self
invariant_of-self c =
    let a = c.args.self.now in
    let fits = a.few in
    let others = c.args.other.now.few in
    let low = c.min-self.ensures in
    let high = c.max-self.ensures in
    record { few = (omega arith, omega arith); within = wider a.words a.low a.high _ _ a.within (omega arith) (omega arith) }

pub loop-i-init : goal.loop-i-init
loop-i-init c =
    let low = c.min-self.ensures in
    let high = c.max-self.ensures in
    record {
      begun = omega arith;
      low = omega arith;
      high = omega arith;
      joined = λ k lt. or_nothing (slice_index c.args.self.now.words k) (slice_index c.args.other.now.words k) (c.args.other.now.within.below k lt);
      kept = λ k le. refl;
    }

pub invariant_of-self-in-loop-i : goal.invariant_of-self-in-loop-i
invariant_of-self-in-loop-i c =
    let a = c.loop-i.self in
    let I = c.loop-i.invariant in
    record {
      few = a.few;
      within = set_within _ _ _ _ _ a.within (let l = I.low in let b = I.begun in omega arith)
          (let h = I.high in let t = c.loop-i-test.true in omega arith);
    }

pub returns : goal.returns
returns c =
    let b = c.args.other.now in
    let I = c.loop-i.invariant in
    or_jobs c.args.self.now.words b.words _
    (λ k. all_joined c.args.self.now.words b.words _ c.loop-i.i b.high (let f = c.loop-i-test.false in omega arith) b.within.above I.joined I.kept k)
