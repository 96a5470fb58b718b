use Rattle.std.proofs.Common.{length, nat_lt}
use Rattle.job_base.specs.Cells.{cells_of}
use Rattle.job_base.specs.Forms.{AreAllowed}
use Rattle.frame_ast.specs.Contents.{Contents}
use Rattle.native_map.specs.Table.{end_of}
use Rattle.native_map.specs.Layout.{StandsFor}
use Rattle.print_rows.proofs.rows.map.Given as goal

abbrev pub invariant-loop-key : goal.invariant-loop-key
invariant-loop-key l = record {
  allowed : AreAllowed l.at.start (end_of l.at) (λ w. nat_lt w (length l.mem));
  stands : (contents : Contents) × StandsFor l.at (cells_of l.mem) contents;
}
