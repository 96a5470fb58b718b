use Rattle.std.proofs.Common.{◌≡◌, arith, ℕ, suc, ◌+◌, ◌≤◌, ◌<◌, ◌^◌, Bool, true, cond, List, ℤ, length, set, length-set, sym, ap, subst, ◌∙◌}
use Rattle.std.specs.Prelude.{slice_get, slice_index, IfSome}
use Rattle.std.specs.Coded.{le_prop}
use Rattle.std.proofs.Math.Logic.{∥∥₁_elim, ∥∥₁_map}
use Rattle.std.specs.Vec.{with_items}
use Rattle.std.proofs.lemmas.List.{with_items_is}
use Rattle.job_base.specs.Cells.{cells_of}
use Rattle.frame_core.specs.Know.{due_once, writes}
use Rattle.frame_core.specs.Touches.{hits}
use Rattle.lock_board.specs.Rooms.{place_in, room_of}
use Rattle.lock_board.specs.declared.state.State.TheVariants.{Begun, Closed, Ended}
use Rattle.lock_board.specs.Locked.{locked, IsKept}
use Rattle.lock_board.specs.Started.{started_by}
use Rattle.lock_board.specs.States.{state_of, is_begun_by}
use Rattle.lock_board.proofs.Reading.{read, got, when_begun}
use Rattle.lock_board.proofs.Spans.{spans_here, spans_write}
use Rattle.lock_board.proofs.Ending.{ended_kept, more_dues, dues_fit}
use Rattle.lock_board.proofs.content.Content.end.Goals as goal

pub add_due-requires : goal.add_due-requires
add_due-requires g c =
    let plan = g.K.PlanName.plan in
    let m = c.args.self.now in
    let p = c.args.p in
    let low : p < length m.states.items = subst (λ n. p < n) (sym m.state_count) c.requires.piece in
    let at : state_of m.states.items p ≡ c.index.result.now = read m.states.items p c.index.result.now Closed low c.index.ensures in
    let is : state_of m.states.items p ≡ Begun c.args.seat = when_begun c.args.seat (state_of m.states.items p)
    (ap (is_begun_by c.args.seat) at ∙ (sym c.is_begun_by.ensures ∙ c.if-not-is_begun_by.false)) in
    let lent = c.deref_mut.ensures.value in
    record {
      job = subst (λ n. IfSome c.started_by.result (λ id. (0 < id.0) × (id.0 < n + 1))) (sym (ap (λ l. length l) lent ∙ m.due_count)) c.started_by.ensures.job;
      fits = λ j lt due.
          let fit : slice_index c.deref_mut.result.now j + due_once c.started_by.result (suc j) < 2 ^ 32 =
          ∥∥₁_elim m.kept le_prop (λ C.
          subst (λ n. n < 2 ^ 32) (sym (ap (λ l. slice_index l j + due_once c.started_by.result (suc j)) lent
          ∙ ap (λ n. slice_index m.dues.items j + n) (c.started_by.ensures.started (suc j))))
          (dues_fit plan m.states.items m.cells.items m.rests.items m.waits.items m.dues.items p c.args.seat c.requires.piece m.state_count is C j
          (subst (λ n. j < n) (ap (λ l. length l) lent ∙ m.due_count) lt))) in
          omega (arith, fit, due);
    }

pub copy_out-requires-clause-within : goal.copy_out-requires-clause-within
copy_out-requires-clause-within g c i t e lt =
    let m = c.args.self.now in
    let ts = c.args.layout.now.spans.items in
    let low : c.args.p < length ts = subst (λ n. c.args.p < n) (sym c.args.layout.now.span_count) c.requires.piece in
    let le = c.args.layout.now.within c.args.p i c.index-2.result.now t (got ts c.args.p c.index-2.result.now low c.index-2.ensures)
    (ap (λ l. slice_get l i) (sym c.deref.ensures.value) ∙ e) lt in
    subst (λ n. t.end ≤ n) (sym (ap (λ l. length l) c.deref_mut-2.ensures.value ∙ m.cell_count)) le

pub copy_out-requires-clause-room : goal.copy_out-requires-clause-room
copy_out-requires-clause-room g c =
    let plan = g.K.PlanName.plan in
    let ts = c.args.layout.now.spans.items in
    let low : c.args.p < length ts = subst (λ n. c.args.p < n) (sym c.args.layout.now.span_count) c.requires.piece in
    let is = spans_here plan ts c.args.p c.index-2.result.now c.deref.result.now c.args.layout.now.spans_are low c.index-2.ensures c.deref.ensures.value in
    subst (λ l. room_of l ≤ length c.args.room.now) (sym is) (c.requires.room c.args.p c.requires.piece)

pub invariant_of-self : goal.invariant_of-self
invariant_of-self g c =
    let plan = g.K.PlanName.plan in
    let m = c.args.self.now in
    let p = c.args.p in
    let low : p < length m.states.items = subst (λ n. p < n) (sym m.state_count) c.requires.piece in
    let at : state_of m.states.items p ≡ c.index.result.now = read m.states.items p c.index.result.now Closed low c.index.ensures in
    let is : state_of m.states.items p ≡ Begun c.args.seat = when_begun c.args.seat (state_of m.states.items p)
    (ap (is_begun_by c.args.seat) at ∙ (sym c.is_begun_by.ensures ∙ c.if-not-is_begun_by.false)) in
    let ts = c.args.layout.now.spans.items in
    let low' : p < length ts = subst (λ n. p < n) (sym c.args.layout.now.span_count) c.requires.piece in
    let spans = spans_here plan ts p c.index-2.result.now c.deref.result.now c.args.layout.now.spans_are low' c.index-2.ensures c.deref.ensures.value in
    let hit : (w : ℕ) → hits true c.deref.result.now w ≡ writes plan p w = λ w. ap (λ l. hits true l w) spans ∙ spans_write plan p w in
    let was = c.deref_mut-2.ensures.value in
    let copied = c.copy_out.ensures in
    let dues : (j : ℕ) → slice_index c.add_due.new.dues j ≡ slice_index m.dues.items j + started_by plan p (suc j) = λ j.
    c.add_due.ensures j ∙ (ap (λ l. slice_index l j + due_once c.started_by.result (suc j)) c.deref_mut.ensures.value
    ∙ ap (λ n. slice_index m.dues.items j + n) (c.started_by.ensures.started (suc j))) in
    let new = c.copy_out.new.cells in
    let more = c.add_due.new.dues in
    let cells_are : (with_items m.cells new).items ≡ new = with_items_is m.cells new (c.copy_out.auto.cells ∙ (ap (λ l. length l) was ∙ sym m.cells.ok.0)) in
    let dues_are : (with_items m.dues more).items ≡ more = with_items_is m.dues more
    (c.add_due.auto.dues ∙ (ap (λ l. length l) c.deref_mut.ensures.value ∙ sym m.dues.ok.0)) in
    record {
      named = m.named;
      state_count = length-set m.states.items p Ended ∙ m.state_count;
      cell_count = ap (λ l. length l) cells_are ∙ (c.copy_out.auto.cells ∙ (ap (λ l. length l) was ∙ m.cell_count));
      rest_count = m.rest_count;
      wait_count = m.wait_count;
      due_count = ap (λ l. length l) dues_are ∙ (c.add_due.auto.dues ∙ (ap (λ l. length l) c.deref_mut.ensures.value ∙ m.due_count));
      kept = ∥∥₁_map m.kept (λ C.
          subst (λ (l : List ℤ). IsKept plan (locked (set m.states.items p Ended) l m.rests.items m.waits.items (with_items m.dues more).items)) (sym cells_are)
          (subst (λ (l : List ℕ). IsKept plan (locked (set m.states.items p Ended) new m.rests.items m.waits.items l)) (sym dues_are)
          (ended_kept plan m.states.items m.cells.items m.rests.items m.waits.items m.dues.items p c.args.seat c.requires.piece m.state_count is C
          new
          (λ w t. copied w ∙ (ap (λ (b : Bool). cond b (cells_of c.args.room.now (place_in c.deref.result.now w)) (cells_of c.deref_mut-2.result.now w))
          (hit w ∙ t)
          ∙ (ap (λ l. cells_of c.args.room.now (place_in l w)) spans ∙ c.requires.cells w t)))
          (λ w f. copied w ∙ (ap (λ (b : Bool). cond b (cells_of c.args.room.now (place_in c.deref.result.now w)) (cells_of c.deref_mut-2.result.now w))
          (hit w ∙ f) ∙ ap (λ l. cells_of l w) was))
          more
          (more_dues plan m.states.items m.cells.items m.rests.items m.waits.items m.dues.items p c.args.seat c.requires.piece m.state_count is C more dues))));
    }
