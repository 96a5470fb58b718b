use Rattle.std.proofs.Common.{◌≡◌, ◌≤◌, length, length-set, set, ap, ◌∙◌, arith, rules, to_z, of_z, w64}
use Rattle.std.proofs.lemmas.Int.{ints}
use Rattle.job_base.specs.Cells.{cells_of}
use Rattle.lock_board.specs.Rooms.{place_in, room_of}
use Rattle.lock_board.proofs.Spans.{copied_more}
use Rattle.lock_board.proofs.copying.copy_words_in.Goals as goal

pub loop-w-preserved : goal.loop-w-preserved
loop-w-preserved c =
    let spans = c.args.spans.now in
    let cells = c.args.cells.now in
    let room = c.loop-w.room in
    let w = c.loop-w.w in
    let inv = c.loop-w.invariant in
    let test = c.loop-w-test.true in
    let size = inv.size in
    let fit = c.requires.room in
    let fits : room_of spans ≤ length room = omega (arith, size, fit) in
    let hit = c.requires.words w (omega arith) test in
    let whole : to_z w64 (of_z w64 (cells_of cells w)) ≡ cells_of cells w = first_of (omega (arith, ints), search rules) in
    let is : set room c.place_in.result (to_z w64 (of_z w64 (cells_of cells w))) ≡ set room (place_in spans w) (cells_of cells w) =
    ap (set room c.place_in.result) whole ∙ ap (λ n. set room n (cells_of cells w)) c.place_in.ensures.place in
    record {
      reach = λ lt. omega arith;
      size = ap (λ l. length l) is ∙ (length-set room (place_in spans w) (cells_of cells w) ∙ inv.size);
      inside = λ u lo hi. ap (λ l. cells_of l (place_in spans u)) is
          ∙ copied_more spans room cells w fits hit u (c.requires.words u lo (omega arith)) (λ ne. inv.inside u lo (omega arith));
      still = λ u h old. ap (λ l. cells_of l (place_in spans u)) is ∙ copied_more spans room cells w fits hit u h (λ ne. inv.still u h old);
    }
