use Rattle.std.proofs.Common.{◌≡◌, ◌<◌, ◌≤◌, true, length, set, sym, ap, ◌∙◌, arith, rules}
use Rattle.lock_board.specs.Rooms.{meet, with_touch}
use Rattle.lock_board.proofs.Spans.{met_at, met_nowhere, one_element}
use Rattle.lock_board.proofs.joining.add_touch.Goals as goal

pub returns-then-meet : goal.returns-then-meet
returns-then-meet c =
    let spans = c.loop-i.spans.items in
    let i = c.loop-i.i in
    let t = c.args.t.now in
    let inv = c.loop-i.invariant in
    let n : c.len-i-end.result ≡ length c.args.spans.now.items = search (rules, c.len-i-end.ensures) in
    let test = c.loop-i-test.true in
    let same = ap (λ l. length l) inv.same in
    let lt : i < length spans = omega (arith, n, test, same) in
    let is = one_element spans i c.index-then-meet.result.now c.index.result.now lt c.index-then-meet.ensures c.index.ensures in
    let meets : meet c.index-then-meet.result.now t ≡ true = ap (λ y. meet y t) is ∙ (sym c.meet.ensures ∙ c.if-meet.true) in
    ap (λ h. set spans i h) c.hull.ensures ∙ (met_at spans t c.index-then-meet.result.now i lt c.index-then-meet.ensures meets inv.unmet
    ∙ ap (λ l. with_touch l t) inv.same)

pub returns : goal.returns
returns c =
    let spans = c.loop-i.spans.items in
    let t = c.args.t.now in
    let inv = c.loop-i.invariant in
    let n : c.len-i-end.result ≡ length c.args.spans.now.items = search (rules, c.len-i-end.ensures) in
    let test = c.loop-i-test.false in
    let same = ap (λ l. length l) inv.same in
    let le : length spans ≤ c.loop-i.i = omega (arith, n, test, same) in
    c.in_ok-push.ensures.items ∙ (met_nowhere spans t c.loop-i.i le inv.unmet ∙ ap (λ l. with_touch l t) inv.same)
