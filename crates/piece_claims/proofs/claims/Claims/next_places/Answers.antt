use Rattle.std.proofs.Common.{◌≡◌, ◌+◌, ◌-◌, ◌∙◌, [], cond, eq-eqb, ne_eqb, ap, arith}
use Rattle.piece_claims.specs.declared.view.View.TheVariants.{Saw, Given}
use Rattle.piece_claims.proofs.Giving.{allows_look, allows_claim}
use Rattle.piece_claims.proofs.claims.Claims.next_places.Goals as goal

pub load_new_seat-place-requires : goal.load_new_seat-place-requires
load_new_seat-place-requires c =
    let size = c.args.self.now.size in
    let low = c.requires.job in
    let shared = c.args.self.now.table.shared in
    (omega (arith, size, low), allows_look shared.key shared.table_id.slots c.args.job (Saw 0 0, []))

pub loop-place-init : goal.loop-place-init
loop-place-init c = record { home = c.load_new_seat-place.ensures.0; saw = c.load_new_seat-place.ensures.2 }

pub compare_exchange-found-requires : goal.compare_exchange-found-requires
compare_exchange-found-requires c =
    let size = c.args.self.now.size in
    let low = c.requires.job in
    let shared = c.args.self.now.table.shared in
    let token = c.loop-place.token in
    let I = c.loop-place.invariant in (
      I.home,
      omega (arith, size, low),
      allows_claim shared.key shared.table_id.slots token.id c.args.job c.loop-place.place c.share_of-taken.result token.me I.saw low,
    )

pub returns-then-found-place : goal.returns-then-found-place
returns-then-found-place c =
    let E = c.compare_exchange-found.ensures in
    let job = c.args.job in
    let found = c.compare_exchange-found.result in
    let place = c.loop-place.place in
    let taken = c.share_of-taken.result in
    let same = c.if-found-place.true in
    let all : place + taken - place ≡ taken = omega arith in
    let within = c.share_of-taken.ensures.within in
    let more = c.loop-place-test.true in
    record {
      given = record {
        home = E.0 ∙ c.loop-place.invariant.home;
        given = E.2.0
            ∙ (ap (λ b. cond b (Given job found (place + taken - found)) (Saw job found)) (eq-eqb found place same)
            ∙ (ap (λ y. Given job y (place + taken - y)) same ∙ ap (Given job place) all));
      };
      some = c.share_of-taken.ensures.some;
      low = omega (arith, within, more);
      none = tt;
    }

pub loop-place-smaller : goal.loop-place-smaller
loop-place-smaller c =
    let risen = c.compare_exchange-found.ensures.2.1 c.loop-place.place c.loop-place.invariant.saw in
    let ne = c.if-found-place.false in
    let more = c.loop-place-test.true in
    omega (arith, risen, ne, more)

pub loop-place-preserved : goal.loop-place-preserved
loop-place-preserved c =
    let E = c.compare_exchange-found.ensures in
    let job = c.args.job in
    let found = c.compare_exchange-found.result in
    record {
      home = E.0 ∙ c.loop-place.invariant.home;
      saw = E.2.0
          ∙ ap (λ b. cond b (Given job found (c.loop-place.place + c.share_of-taken.result - found)) (Saw job found))
          (ne_eqb found c.loop-place.place c.if-found-place.false);
    }

pub returns : goal.returns
returns c =
    let none = c.loop-place-test.false in
    record {
      given = tt;
      some = tt;
      low = tt;
      none = record {
        home = c.loop-place.invariant.home;
        seen = c.loop-place.place;
        saw = c.loop-place.invariant.saw;
        all = omega (arith, none);
      };
    }
