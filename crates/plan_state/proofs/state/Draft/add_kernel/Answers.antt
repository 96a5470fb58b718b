use Rattle.std.proofs.Common.{refl, arith}
use Rattle.plan_state.proofs.state.Draft.add_kernel.Goals as goal

pub returns : goal.returns
returns c = record {
  code = c.in_ok-code.code;
  is_code = c.in_ok-code.ensures.code;
  last = (let e = c.len-place.ensures in let ok = c.args.self.now.kernels.ok.0 in omega arith);
  kernels = c.in_ok-push.ensures.items;
  codes = c.in_ok-push-2.ensures.items;
  rest = refl;
}
