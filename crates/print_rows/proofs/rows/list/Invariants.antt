use Rattle.std.proofs.Common.{◌+◌, length, nat_lt}
use Rattle.job_base.specs.Cells.{cells_of}
use Rattle.job_base.specs.Forms.{AreAllowed}
use Rattle.frame_ast.specs.Contents.{Contents}
use Rattle.native_list.specs.Layout.{StandsFor}
use Rattle.print_rows.proofs.rows.list.Given as goal

abbrev pub invariant-loop-value : goal.invariant-loop-value
invariant-loop-value l = record {
  allowed : AreAllowed 0 (0 + (l.cap + 1)) (λ w. nat_lt w (length l.mem));
  stands : (contents : Contents) × StandsFor (record { start = 0; cap = l.cap }) (cells_of l.mem) contents;
}
