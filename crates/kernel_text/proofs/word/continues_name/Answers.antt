use Rattle.std.proofs.Common.{◌∙◌, sym, ap, arith}
use Rattle.kernel_text.proofs.Words.Begun.{is_in_name, begun_in_name, in_name, not_in_name}
use Rattle.kernel_text.proofs.word.continues_name.Goals as goal

pub returns-in-Name : goal.returns-in-Name
returns-in-Name c =
    sym (in_name c.kind_begun.result c.in-Name.is) ∙ ap is_in_name c.kind_begun.ensures ∙ begun_in_name c.args.byte (omega (arith, c.ranges.byte))

pub returns-in_default : goal.returns-in_default
returns-in_default c =
    sym (not_in_name c.kind_begun.result c.in_default.not-Name c.in_default.not-Number) ∙ ap is_in_name c.kind_begun.ensures
    ∙ begun_in_name c.args.byte (omega (arith, c.ranges.byte))
