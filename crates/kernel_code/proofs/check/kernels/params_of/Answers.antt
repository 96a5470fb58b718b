use Rattle.std.proofs.Common.{refl, arith}
use Rattle.std.proofs.lemmas.Option.{slice_get_read}
use Rattle.kernel_code.proofs.Built.Kernels.{width-within}
use Rattle.kernel_code.proofs.check.kernels.params_of.Goals as goal

pub width_of-requires : goal.width_of-requires
width_of-requires c =
    (width-within c.args.raw.now c.loop-i.i c.index-param.result.now c.requires.faultless
    (slice_get_read c.args.raw.now.params.items _ c.loop-i.i c.index-param.result.now refl (omega arith) c.index-param.ensures)).1
