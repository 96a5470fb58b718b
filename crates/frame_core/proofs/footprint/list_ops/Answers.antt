use Rattle.frame_core.proofs.Extents.Hitting.{fits_at}
use Rattle.frame_core.proofs.footprint.list_ops.Goals as goal

pub act_touches-requires : goal.act_touches-requires
act_touches-requires c = record {
  fits = (
    c.requires.fits.0,
    (fits_at c.requires.fits.0 c.args.ops.now c.loop-i.i _ c.requires.fits.1 c.loop-i-test.true).act,
    c.requires.fits.2,
  );
}
