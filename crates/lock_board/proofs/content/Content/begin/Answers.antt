use Rattle.std.proofs.Common.{◌≡◌, ◌≤◌, ◌<◌, false, length, length-set, sym, ap, subst, ◌∙◌}
use Rattle.std.specs.Prelude.{slice_get}
use Rattle.std.specs.Coded.{Coded-set, coded_ℤ}
use Rattle.std.proofs.Math.Logic.{∥∥₁_elim, ∥∥₁_map}
use Rattle.job_base.specs.Cells.{cells_of}
use Rattle.frame_core.specs.Touches.{hits}
use Rattle.lock_board.specs.Rooms.{place_in, place_of, room_of}
use Rattle.lock_board.specs.declared.state.State.TheVariants.{Begun, Open, Closed}
use Rattle.lock_board.specs.States.{state_of, is_open}
use Rattle.lock_board.proofs.Reading.{read, got, when_open}
use Rattle.lock_board.proofs.Beginning.{begun_cells, begun_kept}
use Rattle.lock_board.proofs.Spans.{spans_here, spans_read}
use Rattle.lock_board.proofs.content.Content.begin.Goals as goal

pub invariant_of-self : goal.invariant_of-self
invariant_of-self g c =
    let m = c.args.self.now in
    let p = c.args.p in
    let low : p < length m.states.items = subst (λ n. p < n) (sym m.state_count) c.requires.piece in
    let at : state_of m.states.items p ≡ c.index.result.now = read m.states.items p c.index.result.now Closed low c.index.ensures in
    let is : state_of m.states.items p ≡ Open = when_open (state_of m.states.items p) (ap is_open at ∙ (sym c.is_open.ensures ∙ c.if-not-is_open.false)) in
    record {
      named = m.named;
      state_count = length-set m.states.items p (Begun c.args.seat) ∙ m.state_count;
      cell_count = m.cell_count;
      rest_count = m.rest_count;
      wait_count = m.wait_count;
      due_count = m.due_count;
      kept = ∥∥₁_map m.kept (λ C. begun_kept g.K.PlanName.plan m.states.items m.cells.items m.rests.items m.waits.items m.dues.items p c.requires.piece
          m.state_count is C c.args.seat);
    }

pub copy_in-requires-clause-within : goal.copy_in-requires-clause-within
copy_in-requires-clause-within g c i t e lt =
    let m = c.args.self.now in
    let ts = c.args.layout.now.spans.items in
    let low : c.args.p < length ts = subst (λ n. c.args.p < n) (sym c.args.layout.now.span_count) c.requires.piece in
    let le = c.args.layout.now.within c.args.p i c.index-2.result.now t (got ts c.args.p c.index-2.result.now low c.index-2.ensures)
    (ap (λ l. slice_get l i) (sym c.deref.ensures.value) ∙ e) lt in
    subst (λ n. t.end ≤ n) (sym (ap (λ l. length l) c.deref-2.ensures.value ∙ m.cell_count)) le

pub copy_in-requires-clause-room : goal.copy_in-requires-clause-room
copy_in-requires-clause-room g c =
    let plan = g.K.PlanName.plan in
    let ts = c.args.layout.now.spans.items in
    let low : c.args.p < length ts = subst (λ n. c.args.p < n) (sym c.args.layout.now.span_count) c.requires.piece in
    let is = spans_here plan ts c.args.p c.index-2.result.now c.deref.result.now c.args.layout.now.spans_are low c.index-2.ensures c.deref.ensures.value in
    subst (λ l. room_of l ≤ length c.args.room.now) (sym is) (c.requires.room c.args.p c.requires.piece)

pub returns-clause-room : goal.returns-clause-room
returns-clause-room g c t w r =
    let plan = g.K.PlanName.plan in
    let m = c.args.self.now in
    let p = c.args.p in
    let low : p < length m.states.items = subst (λ n. p < n) (sym m.state_count) c.requires.piece in
    let at : state_of m.states.items p ≡ c.index.result.now = read m.states.items p c.index.result.now Closed low c.index.ensures in
    let is : state_of m.states.items p ≡ Open = when_open (state_of m.states.items p) (ap is_open at ∙ (sym c.is_open.ensures ∙ c.if-not-is_open.false)) in
    let ts = c.args.layout.now.spans.items in
    let low' : p < length ts = subst (λ n. p < n) (sym c.args.layout.now.span_count) c.requires.piece in
    let spans = spans_here plan ts p c.index-2.result.now c.deref.result.now c.args.layout.now.spans_are low' c.index-2.ensures c.deref.ensures.value in
    let hit = ap (λ l. hits false l w) spans ∙ (spans_read plan p w ∙ r) in
    let copied : cells_of c.copy_in.new.room (place_of plan p w) ≡ cells_of m.cells.items w =
    ap (λ l. cells_of c.copy_in.new.room (place_in l w)) (sym spans) ∙ (c.copy_in.ensures w hit ∙ ap (λ l. cells_of l w) c.deref-2.ensures.value) in
    copied ∙ ∥∥₁_elim m.kept (Coded-set coded_ℤ _ _) (λ C. begun_cells plan m.states.items m.cells.items m.rests.items m.waits.items m.dues.items p
    c.requires.piece m.state_count is C w r)
