use Rattle.std.proofs.Common.{◌<◌, ◌∙◌, get_or, sym, arith}
use Rattle.kernel_text.proofs.Words.FrontsAt.{at_name, at_number}
use Rattle.kernel_text.proofs.Words.Begun.{begun_name, begun_number, lone_kind, at_begun}
use Rattle.kernel_text.proofs.word.front_end.Goals as goal

pub returns-in-Number-clause-end : goal.returns-in-Number-clause-end
returns-in-Number-clause-end c =
    let small : get_or c.args.source.now c.args.place 0 < 256 = omega (arith, c.type_inv.source c.args.place) in
    (at_number c.args.source.now c.args.place c.digits_end.result c.requires small
    (begun_number _ small (sym c.kind_begun.ensures ∙ c.in-Number.is)) c.digits_end.ensures.run).end_is

pub returns-in-Name-clause-end : goal.returns-in-Name-clause-end
returns-in-Name-clause-end c =
    let small : get_or c.args.source.now c.args.place 0 < 256 = omega (arith, c.type_inv.source c.args.place) in
    (at_name c.args.source.now c.args.place c.name_end.result c.requires small
    (begun_name _ small (sym c.kind_begun.ensures ∙ c.in-Name.is)) c.name_end.ensures.run).end_is

pub returns-in_default : goal.returns-in_default
returns-in_default c =
    let front = at_begun c.args.source.now c.args.place c.kind_begun.result c.requires (omega (arith, c.type_inv.source c.args.place))
    (sym c.kind_begun.ensures) (lone_kind c.kind_begun.result c.in_default.not-Name c.in_default.not-Number c.in_default.not-Bad) in
    record { end = front.end_is; within = omega arith }
