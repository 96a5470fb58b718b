use Rattle.std.proofs.Common.{refl, rules, arith}
use Rattle.job_handle.proofs.handle.Handle.insert.Goals as goal
use Rattle.job_handle.proofs.Bits.{inserted, wider, set_within}

pub invariant_of-self : goal.invariant_of-self
invariant_of-self c =
    let h = c.requires.1 in
    let a = c.args.self.now in
    let few = a.few in
    let low = c.min-self.ensures in
    let high = c.max-self.ensures in
    record {
      few = (omega arith, omega arith);
      within = set_within _ _ _ _ _ (wider a.words a.low a.high _ _ a.within (omega arith) (omega arith))
          (omega arith) (omega arith);
    }

pub returns : goal.returns
returns c = inserted c.args.self.now.words _ c.args.j.0 _ c.requires.0 c.requires.1 (search rules) refl refl
