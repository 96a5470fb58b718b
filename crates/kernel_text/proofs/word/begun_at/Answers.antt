use Rattle.std.proofs.Common.{Some, ◌<◌, ◌∙◌, get_or, refl, sym, ap, arith}
use Rattle.kernel_text.specs.Tokens.{is_bad}
use Rattle.kernel_text.proofs.Words.FrontsAt.{at_name, at_number}
use Rattle.kernel_text.proofs.Words.Begun.{begun_name, begun_number, lone_kind, lone_fine, word_fine, at_begun}
use Rattle.kernel_text.proofs.word.begun_at.Goals as goal

pub returns-in-Number-clause-token : goal.returns-in-Number-clause-token
returns-in-Number-clause-token c =
    let small : get_or c.args.source.now c.args.place 0 < 256 = omega (arith, c.type_inv.source c.args.place) in
    let front = at_number c.args.source.now c.args.place c.digits_end.result c.requires small
    (begun_number _ small (sym c.kind_begun-kind.ensures ∙ c.in-Number.is)) c.digits_end.ensures.run in
    record { kind_is = front.kind_is; end_is = front.end_is; some = omega arith; within = c.digits_end.ensures.within; fine = refl }

pub returns-in-Name-clause-token : goal.returns-in-Name-clause-token
returns-in-Name-clause-token c =
    let small : get_or c.args.source.now c.args.place 0 < 256 = omega (arith, c.type_inv.source c.args.place) in
    let front = at_name c.args.source.now c.args.place c.name_end-end.result c.requires small
    (begun_name _ small (sym c.kind_begun-kind.ensures ∙ c.in-Name.is)) c.name_end-end.ensures.run in
    record {
      kind_is = ap Some c.word_kind.ensures ∙ front.kind_is;
      end_is = front.end_is;
      some = omega arith;
      within = c.name_end-end.ensures.within;
      fine = ap is_bad c.word_kind.ensures ∙ word_fine _;
    }

pub returns : goal.returns
returns c =
    let lone = lone_kind c.kind_begun-kind.result c.in_default.not-Name c.in_default-kind.not-Number c.in_default-kind-2.not-Bad in
    let front = at_begun c.args.source.now c.args.place c.kind_begun-kind.result c.requires (omega (arith, c.type_inv.source c.args.place))
    (sym c.kind_begun-kind.ensures) lone in
    record {
      token = record {
        kind_is = front.kind_is;
        end_is = front.end_is;
        some = omega arith;
        within = omega arith;
        fine = lone_fine c.kind_begun-kind.result lone;
      };
      none = (λ is. cc, λ bad. absurd (c.in_default-kind-2.not-Bad (c.kind_begun-kind.ensures ∙ bad)));
    }
