use Rattle.std.proofs.Common.{ℤ, List, Option, ◌++◌, drop, codes}
use Rattle.frame_ast.specs.Texts.{listed, entry_text}
use Rattle.native_stream.specs.Layout.{HoldsEntries}
use Rattle.frame_print.proofs.Gathering.{Going}
use Rattle.frame_print.proofs.Listing.{Same, text_from}
use Rattle.frame_print.proofs.waiting.Waiting.put_entries.Given as goal

abbrev pub invariant-loop-k : goal.invariant-loop-k
invariant-loop-k g l =
    ((es : List (Option (List ℤ))) → HoldsEntries l.at (g.M.Mem.cells l.fn.mem) es
    → Going (g.S.Sink.taken l.fn.sink) l.fn.self (g.S.Sink.taken l.sink) l.self (codes "[" ++ listed entry_text es ++ codes "]")
    (text_from entry_text l.k (drop l.k es) ++ codes "]"))
    × Same (g.S.Sink.faults l.fn.sink) (g.S.Sink.faults l.sink) (g.M.Mem.cells l.fn.mem) (g.M.Mem.cells l.mem) (g.M.Mem.readable l.fn.mem)
    (g.M.Mem.readable l.mem) (g.M.Mem.writable l.fn.mem) (g.M.Mem.writable l.mem)
