use Rattle.std.proofs.Common.{◌≡◌, ℕ, ◌<◌, ◌+◌, ◌-◌, ◌^◌, ◌++◌, is_ok, if◌then◌else◌, take, replicate, ◌∙◌, ap, get_or, length, vec_len, rules, arith}
use Rattle.std.proofs.lemmas.List.{get_or-replicate}
use Rattle.kernel_raw.specs.Edges.{opened, closed}
use Rattle.kernel_raw.proofs.Reading.Keeping.{filled-at}
use Rattle.kernel_raw.proofs.RunningDepths.{closed-le}
use Rattle.kernel_raw.proofs.depths.count_edges.Goals as goal

pub count_one-requires : goal.count_one-requires
count_one-requires c k h = omega (arith, c.loop-j.invariant.are_opened k (omega arith), c.requires.begin k (omega arith))

pub count_one-requires-in-loop-j : goal.count_one-requires-in-loop-j
count_one-requires-in-loop-j c k h =
    let room : length c.args.nodes.now < 2 ^ 63 = omega arith in
    omega (arith, c.loop-j.invariant.are_closed k (omega arith), closed-le k 0 c.args.nodes.now)

pub loop-j-init : goal.loop-j-init
loop-j-init c =
    let nodes = c.args.nodes.now in
    let joined = c.args.joined.items in
    let len : vec_len c.resize.new.self ≡ length nodes = search rules in
    let closed_len : vec_len c.in_ok-closed.closed ≡ length nodes = search rules in
    let same : vec_len c.args.joined ≡ length joined = omega (arith, c.args.joined.ok) in
    let items : c.resize.new.self.items ≡ take (length nodes) joined ++ replicate (length nodes - length joined) 0 =
    c.resize.ensures.items
    ∙ ap (λ r. if is_ok r then take (length nodes) joined ++ replicate (length nodes - vec_len c.args.joined) 0 else joined) c.in_ok-resize.was
    ∙ ap (λ n. take (length nodes) joined ++ replicate (length nodes - n) 0) same in
    let zeros : c.in_ok-closed.closed.items ≡ replicate (length nodes) 0 = c.in_ok-closed.ensures.items_if_clones_equal (λ y e. e) in
    record {
      opened_len = len;
      closed_len = closed_len;
      are_opened = λ k h. ap (λ n. n + opened k 0 nodes) (ap (λ ns. get_or ns k 0) items ∙ filled-at (length nodes) joined k h);
      are_closed = λ k h. ap (λ ns. get_or ns k 0 + closed k 0 nodes) zeros ∙ (let z = get_or-replicate {A = ℕ} (length nodes) k 0 0 h in omega (arith, z));
    }
