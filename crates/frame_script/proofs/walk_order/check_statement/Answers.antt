use Rattle.frame_ast.specs.Lists.{first_some}
use Rattle.script_text.specs.Raw.{form_of}
use Rattle.script_checks.specs.Faults.{order_faults}
use Rattle.script_checks.specs.Spelling.{names_after}
use Rattle.script_checks.specs.Checks.{among}
use Rattle.frame_script.specs.Walking.{lists_in}
use Rattle.std.proofs.Common.{length}
use Rattle.frame_script.proofs.SaidLemmas.{said_alone}
use Rattle.frame_script.proofs.walk_order.check_statement.Goals as goal

pub returns-in-None : goal.returns-in-None
returns-in-None c =
    let s = c.args.source in
    let raw = c.args.raw.now in
    let names = c.args.names.now in
    let kernels = c.args.kernels.now in
    said_alone s (names_after s names (form_of raw)) kernels (length c.args.literals.now.items) raw (lists_in c.args.literals.now)
    (first_some (order_faults s (among names kernels) 0 (form_of raw))) c.check_order.result
    (c.in-None.ensures c.requires) c.check_order.ensures
