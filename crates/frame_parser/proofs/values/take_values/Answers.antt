use Rattle.std.proofs.Common.{◌≡◌, ◌<◌, length, map, sym, ◌∙◌, ap, subst, arith}
use Rattle.std.proofs.lemmas.List.{get_or-map, length-map}
use Rattle.std.proofs.lemmas.Option.{MatchOption-at_none, MatchOption-at_some}
use Rattle.frame_parser.specs.Notes.{events_of}
use Rattle.frame_parser.specs.Values.{TakesValues}
use Rattle.frame_parser.proofs.ValueTakings.{no_values, more_values}
use Rattle.frame_parser.proofs.values.take_values.Goals.{else-loop-place-test, then-loop-place-test+in_ok-next+in-None}
use Rattle.frame_parser.proofs.values.take_values.Goals as goal

pub loop-place-init : goal.loop-place-init
loop-place-init g c =
    no_values (map g.T.HasKind.kind_of c.args.tokens.now) c.args.from c.args.first (events_of c.args.events.now.items)
    (omega (arith, length-map c.args.tokens.now g.T.HasKind.kind_of, c.requires.within))

pub loop-place-preserved : goal.loop-place-preserved
loop-place-preserved g c =
    let kinds = map g.T.HasKind.kind_of c.args.tokens.now in
    let ahead = get_or-map g.T.HasKind.kind_of c.args.tokens.now c.loop-place.place c.index-tokens-place.result c.kind.result c.loop-place-test.true
    ∙ ap g.T.HasKind.kind_of (sym c.index-tokens-place.is) ∙ sym c.kind.ensures in
    let within : c.loop-place.place < length kinds = omega (arith, length-map c.args.tokens.now g.T.HasKind.kind_of, c.loop-place-test.true) in
    more_values kinds c.args.from c.loop-place.place c.kind.result c.kind.result c.args.first c.loop-place.value c.in-Some.next
    (events_of c.args.events.now.items) (events_of c.loop-place.events.items)
    (events_of c.take_part.new.events.items) within ahead c.loop-place.invariant
    (MatchOption-at_some _ _ c.in-Some.next c.in-Some.is c.in_ok-next.ensures.taken)

pub returns : goal.returns
returns g c =
    let same : events_of c.loop-place-test.events.items ≡ events_of c.loop-place.events.items =
    elim c.loop-place-test.branch [
      | else-loop-place-test w ↦ ap (λ v. events_of v.items) w.events-is
      | then-loop-place-test+in_ok-next+in-None w ↦ ap (λ v. events_of v.items) w.events-is ∙ MatchOption-at_none _ _ w.in-None.is w.in_ok-next.ensures.taken
    ] in (
      c.loop-place.value,
      subst (TakesValues (map g.T.HasKind.kind_of c.args.tokens.now) c.args.from c.loop-place.place c.args.first c.loop-place.value
          (events_of c.args.events.now.items)) (sym same) c.loop-place.invariant,
      c.in_ok-put_rest.ensures,
    )
