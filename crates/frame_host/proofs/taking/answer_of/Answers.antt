use Rattle.std.proofs.Common.{refl}
use Rattle.frame_host.proofs.Ending.{answers}
use Rattle.frame_host.proofs.taking.answer_of.Goals as goal

pub returns : goal.returns
returns c = (
  answers c.args.frame c.finish-status.new.progress c.finish-status.new.sink c.finish-status.result _ _ c.requires.last c.finish-status.ensures.closed
      c.if-status-eq-UNWRITTEN.false refl refl c.of-report.ensures refl refl refl c.into_cells.ensures,
  refl,
  refl,
)
