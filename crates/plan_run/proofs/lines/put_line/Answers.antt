use Rattle.std.proofs.Common.{subst, List, ℕ}
use Rattle.frame_ast.specs.Contents.{elements}
use Rattle.frame_ast.specs.Texts.{print_line}
use Rattle.frame_print.specs.Gathering.{Gathers}
use Rattle.frame_core.specs.Names.{name_of}
use Rattle.plan_run.proofs.Printing.{printed}
use Rattle.plan_run.proofs.lines.put_line.Goals as goal

pub returns-in-Print-clause-text : goal.returns-in-Print-clause-text
returns-in-Print-clause-text g c =
    let put = λ (text : List ℕ). Gathers (g.S.Sink.taken c.args.sink.now) c.args.out.now
    (g.S.Sink.taken c.put_container.new.sink) c.put_container.new.self c.put_container.result text in
    printed put c.args.op.now.line (name_of c.args.plan.now c.args.op.now.name) c.args.op.now.act c.in-Print.at (g.M.Mem.cells c.args.mem.now) c.args.answer
    c.in_default.is c.in-Print.is c.requires.stands
    (λ x h. subst (λ (n : List ℕ). put (print_line n (elements x) x)) c.name_of-in-Print.ensures (c.put_container.ensures.text x h))
