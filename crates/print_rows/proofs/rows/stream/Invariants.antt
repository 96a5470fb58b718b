use Rattle.std.proofs.Common.{length, nat_lt}
use Rattle.job_base.specs.Cells.{cells_of}
use Rattle.job_base.specs.Forms.{AreAllowed}
use Rattle.frame_ast.specs.Contents.{Contents}
use Rattle.native_stream.specs.Layout.{StandsFor}
use Rattle.print_rows.proofs.rows.stream.Given as goal

abbrev pub invariant-loop-i : goal.invariant-loop-i
invariant-loop-i l = record {
  allowed : AreAllowed 0 9 (λ w. nat_lt w (length l.mem));
  stands : (contents : Contents) × StandsFor (record { start = 0; count = 3; room = 2 }) (cells_of l.mem) contents;
}

abbrev pub invariant-loop-i-2 : goal.invariant-loop-i-2
invariant-loop-i-2 l = record {
  allowed : AreAllowed 0 9 (λ w. nat_lt w (length l.mem));
  stands : (contents : Contents) × StandsFor (record { start = 0; count = 3; room = 2 }) (cells_of l.mem) contents;
}
