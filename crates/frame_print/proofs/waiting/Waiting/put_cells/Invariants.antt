use Rattle.std.proofs.Common.{◌++◌, drop, codes}
use Rattle.std.specs.Fmt.{signed_decimal}
use Rattle.job_base.specs.Cells.{cell_list}
use Rattle.frame_ast.specs.Texts.{numbers_text}
use Rattle.frame_print.proofs.Gathering.{Going}
use Rattle.frame_print.proofs.Listing.{Same, text_from}
use Rattle.frame_print.proofs.waiting.Waiting.put_cells.Given as goal

abbrev pub invariant-loop-i : goal.invariant-loop-i
invariant-loop-i g l =
    Going (g.S.Sink.taken l.fn.sink) l.fn.self (g.S.Sink.taken l.sink) l.self (numbers_text (cell_list (g.M.Mem.cells l.fn.mem) l.start l.len))
    (text_from signed_decimal l.i (drop l.i (cell_list (g.M.Mem.cells l.fn.mem) l.start l.len)) ++ codes "]")
    × Same (g.S.Sink.faults l.fn.sink) (g.S.Sink.faults l.sink) (g.M.Mem.cells l.fn.mem) (g.M.Mem.cells l.mem) (g.M.Mem.readable l.fn.mem)
    (g.M.Mem.readable l.mem) (g.M.Mem.writable l.fn.mem) (g.M.Mem.writable l.mem)
