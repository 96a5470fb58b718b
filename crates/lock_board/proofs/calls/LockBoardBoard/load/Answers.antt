use Rattle.std.proofs.Common.{◌≡◌, ◌<◌, ◌^◌, false, length, sym, ap, subst, ◌∙◌, to_z, of_z, w64, arith}
use Rattle.std.proofs.lemmas.Int.{ints}
use Rattle.job_base.specs.Cells.{cells_of}
use Rattle.frame_core.specs.Touches.{hits}
use Rattle.lock_board.specs.Rooms.{place_in, place_of, room_of, spans_of}
use Rattle.lock_board.specs.Seats.{seen_cells}
use Rattle.lock_board.proofs.Knowing.{leased_reads, seen_cell}
use Rattle.lock_board.proofs.Spans.{place_below, spans_here, spans_read}
use Rattle.lock_board.proofs.calls.LockBoardBoard.load.Goals as goal

pub place_in-at-requires-clause-word : goal.place_in-at-requires-clause-word
place_in-at-requires-clause-word g c =
    let plan = g.K.PlanName.plan in
    let l = c.args.self.now.layout in
    let s = c.args.seat.now in
    let p = c.in-Some.p.0 in
    let low : p < length l.spans.items = subst (λ n. p < n) (sym l.span_count) (s.leased c.in-Some.p c.in-Some.is) in
    let spans = spans_here plan l.spans.items p c.index.result.now c.deref.result.now l.spans_are low c.index.ensures c.deref.ensures.value in
    ap (λ y. hits false y c.args.w.0) spans
    ∙ (spans_read plan p c.args.w.0 ∙ leased_reads plan s.held.lease c.in-Some.p c.requires.word.0 c.args.w.0 c.in-Some.is c.requires.word.1 c.requires.word.2)

pub place_in-at-requires-clause-fits : goal.place_in-at-requires-clause-fits
place_in-at-requires-clause-fits g c =
    let plan = g.K.PlanName.plan in
    let l = c.args.self.now.layout in
    let s = c.args.seat.now in
    let p = c.in-Some.p.0 in
    let leased = s.leased c.in-Some.p c.in-Some.is in
    let low : p < length l.spans.items = subst (λ n. p < n) (sym l.span_count) leased in
    let spans = spans_here plan l.spans.items p c.index.result.now c.deref.result.now l.spans_are low c.index.ensures c.deref.ensures.value in
    let fits = s.room p leased in
    let size = s.held.room.ok.0 in
    let cap = s.held.room.ok.1 in
    let small = s.held.room.small in
    subst (λ y. room_of y < 2 ^ 64) (sym spans) (omega (arith, fits, size, cap, small))

pub read_cell-requires : goal.read_cell-requires
read_cell-requires g c =
    let plan = g.K.PlanName.plan in
    let l = c.args.self.now.layout in
    let s = c.args.seat.now in
    let p = c.in-Some.p.0 in
    let leased = s.leased c.in-Some.p c.in-Some.is in
    let low : p < length l.spans.items = subst (λ n. p < n) (sym l.span_count) leased in
    let spans = spans_here plan l.spans.items p c.index.result.now c.deref.result.now l.spans_are low c.index.ensures c.deref.ensures.value in
    let hit = spans_read plan p c.args.w.0 ∙ leased_reads plan s.held.lease c.in-Some.p c.requires.word.0 c.args.w.0 c.in-Some.is c.requires.word.1
    c.requires.word.2 in
    let below = place_below (spans_of plan p) c.args.w.0 hit in
    let fits = s.room p leased in
    let at : c.place_in-at.result ≡ place_in (spans_of plan p) c.args.w.0 = c.place_in-at.ensures.place ∙ ap (λ y. place_in y c.args.w.0) spans in
    let size = ap (λ y. length y) c.deref-2.ensures.value in
    omega (arith, at, below, fits, size)

pub returns-clause-cell : goal.returns-clause-cell
returns-clause-cell g c =
    let plan = g.K.PlanName.plan in
    let l = c.args.self.now.layout in
    let s = c.args.seat.now in
    let h = s.held in
    let w = c.args.w.0 in
    let p = c.in-Some.p.0 in
    let low : p < length l.spans.items = subst (λ n. p < n) (sym l.span_count) (s.leased c.in-Some.p c.in-Some.is) in
    let spans = spans_here plan l.spans.items p c.index.result.now c.deref.result.now l.spans_are low c.index.ensures c.deref.ensures.value in
    let r = leased_reads plan h.lease c.in-Some.p c.requires.word.0 w c.in-Some.is c.requires.word.1 c.requires.word.2 in
    let at : c.place_in-at.result ≡ place_of plan p w = c.place_in-at.ensures.place ∙ ap (λ y. place_in y w) spans in
    let whole : to_z w64 (of_z w64 c.read_cell.result) ≡ c.read_cell.result = omega (arith, ints) in
    whole ∙ (c.read_cell.ensures ∙ (ap (λ y. cells_of y c.place_in-at.result) c.deref-2.ensures.value ∙ (ap (cells_of h.room.items) at
    ∙ sym (ap (λ o. seen_cells plan o h.room.items w) c.in-Some.is ∙ seen_cell plan h.owed h.dues.items h.rights.items h.seen.items h.first h.ended h.opened
    c.in-Some.p h.room.items w r))))
