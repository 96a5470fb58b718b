use Rattle.std.proofs.Common.{◌≡◌, ◌<◌, ◌^◌, false, length, set, sym, ap, subst, ◌∙◌, Option, to_z, of_z, w64, arith}
use Rattle.std.proofs.lemmas.Int.{ints}
use Rattle.std.specs.Vec.{with_items}
use Rattle.std.proofs.lemmas.List.{with_items_is}
use Rattle.job_base.specs.declared.PieceId.{PieceId}
use Rattle.frame_core.specs.Effects.{touches}
use Rattle.frame_core.specs.Know.{stored}
use Rattle.frame_core.specs.Pieces.{piece_numbered}
use Rattle.frame_core.specs.Touches.{hits}
use Rattle.frame_core.proofs.Extents.Touching.{writes_read}
use Rattle.lock_board.specs.Rooms.{place_in, place_of, room_of, spans_of}
use Rattle.lock_board.proofs.Knowing.{knows, know_stored, leased_reads}
use Rattle.lock_board.proofs.Spans.{place_below, spans_here, spans_read}
use Rattle.lock_board.proofs.calls.LockBoardBoard.store.Goals as goal

pub place_in-at-requires-clause-word : goal.place_in-at-requires-clause-word
place_in-at-requires-clause-word g c =
    let plan = g.K.PlanName.plan in
    let l = c.args.self.now.layout in
    let s = c.args.seat.now in
    let p = c.in-Some.p.0 in
    let low : p < length l.spans.items = subst (λ n. p < n) (sym l.span_count) (s.leased c.in-Some.p c.in-Some.is) in
    let spans = spans_here plan l.spans.items p c.index.result.now c.deref.result.now l.spans_are low c.index.ensures c.deref.ensures.value in
    let read = writes_read (touches plan (piece_numbered plan c.requires.word.0)) c.args.w.0 c.requires.word.2 in
    ap (λ y. hits false y c.args.w.0) spans ∙ (spans_read plan p c.args.w.0
    ∙ leased_reads plan s.held.lease c.in-Some.p c.requires.word.0 c.args.w.0 c.in-Some.is c.requires.word.1 read)

pub place_in-at-requires-clause-fits : goal.place_in-at-requires-clause-fits
place_in-at-requires-clause-fits g c =
    let plan = g.K.PlanName.plan in
    let l = c.args.self.now.layout in
    let s = c.args.seat.now in
    let p = c.in-Some.p.0 in
    let leased = s.leased c.in-Some.p c.in-Some.is in
    let low : p < length l.spans.items = subst (λ n. p < n) (sym l.span_count) leased in
    let spans = spans_here plan l.spans.items p c.index.result.now c.deref.result.now l.spans_are low c.index.ensures c.deref.ensures.value in
    let fits = s.room p leased in
    let size = s.held.room.ok.0 in
    let cap = s.held.room.ok.1 in
    let small = s.held.room.small in
    subst (λ y. room_of y < 2 ^ 64) (sym spans) (omega (arith, fits, size, cap, small))

pub write_cell-requires : goal.write_cell-requires
write_cell-requires g c =
    let plan = g.K.PlanName.plan in
    let l = c.args.self.now.layout in
    let s = c.args.seat.now in
    let p = c.in-Some.p.0 in
    let leased = s.leased c.in-Some.p c.in-Some.is in
    let low : p < length l.spans.items = subst (λ n. p < n) (sym l.span_count) leased in
    let spans = spans_here plan l.spans.items p c.index.result.now c.deref.result.now l.spans_are low c.index.ensures c.deref.ensures.value in
    let read = writes_read (touches plan (piece_numbered plan c.requires.word.0)) c.args.w.0 c.requires.word.2 in
    let hit = spans_read plan p c.args.w.0 ∙ leased_reads plan s.held.lease c.in-Some.p c.requires.word.0 c.args.w.0 c.in-Some.is c.requires.word.1 read in
    let below = place_below (spans_of plan p) c.args.w.0 hit in
    let fits = s.room p leased in
    let at : c.place_in-at.result ≡ place_in (spans_of plan p) c.args.w.0 = c.place_in-at.ensures.place ∙ ap (λ y. place_in y c.args.w.0) spans in
    let size = ap (λ y. length y) c.deref_mut.ensures.value in
    omega (arith, at, below, fits, size)

pub returns-clause-know : goal.returns-clause-know
returns-clause-know g c =
    let plan = g.K.PlanName.plan in
    let l = c.args.self.now.layout in
    let s = c.args.seat.now in
    let h = s.held in
    let w = c.args.w.0 in
    let p = c.in-Some.p.0 in
    let leased = s.leased c.in-Some.p c.in-Some.is in
    let low : p < length l.spans.items = subst (λ n. p < n) (sym l.span_count) leased in
    let spans = spans_here plan l.spans.items p c.index.result.now c.deref.result.now l.spans_are low c.index.ensures c.deref.ensures.value in
    let read = writes_read (touches plan (piece_numbered plan c.requires.word.0)) w c.requires.word.2 in
    let r = leased_reads plan h.lease c.in-Some.p c.requires.word.0 w c.in-Some.is c.requires.word.1 read in
    let at : c.place_in-at.result ≡ place_of plan p w = c.place_in-at.ensures.place ∙ ap (λ y. place_in y w) spans in
    let whole : to_z w64 (of_z w64 c.args.v) ≡ c.args.v = omega (arith, ints) in
    let new = c.write_cell.new.cells in
    let was = c.deref_mut.ensures.value in
    let is : (with_items h.room new).items ≡ set h.room.items (place_of plan p w) c.args.v =
    with_items_is h.room new (c.write_cell.auto.cells ∙ (ap (λ y. length y) was ∙ sym h.room.ok.0))
    ∙ (c.write_cell.ensures ∙ (ap (λ y. set y c.place_in-at.result (to_z w64 (of_z w64 c.args.v))) was
    ∙ (ap (set h.room.items c.place_in-at.result) whole ∙ ap (λ n. set h.room.items n c.args.v) at))) in
    ap (λ y. knows plan h.lease y h.owed h.dues.items h.rights.items h.seen.items h.first h.ended h.opened) is
    ∙ subst (λ (o : Option PieceId). knows plan o (set h.room.items (place_of plan p w) c.args.v) h.owed h.dues.items h.rights.items h.seen.items h.first
    h.ended h.opened
    ≡ stored (knows plan o h.room.items h.owed h.dues.items h.rights.items h.seen.items h.first h.ended h.opened) w c.args.v) (sym c.in-Some.is)
    (know_stored plan h.owed h.dues.items h.rights.items h.seen.items h.first h.ended h.opened c.in-Some.p h.room.items w c.args.v (s.room p leased) r)
