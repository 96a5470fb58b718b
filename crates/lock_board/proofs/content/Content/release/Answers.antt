use Rattle.std.proofs.Common.{◌≡◌, ◌-◌, ◌<◌, length, length-set, eq-eqb, eqb-true, sym, subst, ◌∙◌, arith}
use Rattle.std.specs.Prelude.{slice_index}
use Rattle.std.specs.Coded.{Coded-set, coded_ℕ, coded_bool, le_prop}
use Rattle.std.proofs.Math.Logic.{∥∥₁_elim, ∥∥₁_map}
use Rattle.lock_board.proofs.Reading.{read}
use Rattle.lock_board.proofs.Counting.{released_kept}
use Rattle.lock_board.proofs.content.Content.release.Goals as goal

pub overflow_sub-left : goal.overflow_sub-left
overflow_sub-left g c =
    let m = c.args.self.now in
    let j = c.args.j in
    let low : j < length m.dues.items = subst (λ n. j < n) (sym m.due_count) c.requires.job in
    let low' : j < length m.waits.items = subst (λ n. j < n) (sym m.wait_count) c.requires.job in
    let d : slice_index m.dues.items j ≡ c.index.result.now = read m.dues.items j c.index.result.now 0 low c.index.ensures in
    let w : slice_index m.waits.items j ≡ c.index-2.result.now = read m.waits.items j c.index-2.result.now 0 low' c.index-2.ensures in
    let some = c.if-index-eq0.false in
    ∥∥₁_elim m.kept le_prop (λ C. let e = C.wait_is j c.requires.job in omega arith)

pub invariant_of-self : goal.invariant_of-self
invariant_of-self g c =
    let m = c.args.self.now in
    let j = c.args.j in
    let low : j < length m.dues.items = subst (λ n. j < n) (sym m.due_count) c.requires.job in
    let low' : j < length m.waits.items = subst (λ n. j < n) (sym m.wait_count) c.requires.job in
    let d : slice_index m.dues.items j ≡ c.index.result.now = read m.dues.items j c.index.result.now 0 low c.index.ensures in
    let d' : slice_index m.dues.items j ≡ c.index_mut.result.now = read m.dues.items j c.index_mut.result.now 0 low c.index_mut.ensures.value in
    let w : slice_index m.waits.items j ≡ c.index-2.result.now = read m.waits.items j c.index-2.result.now 0 low' c.index-2.ensures in
    let some = c.if-index-eq0.false in
    record {
      named = m.named;
      state_count = m.state_count;
      cell_count = m.cell_count;
      rest_count = m.rest_count;
      wait_count = length-set m.waits.items j (c.index-2.result.now - 1) ∙ m.wait_count;
      due_count = length-set m.dues.items j (c.index_mut.result.now - 1) ∙ m.due_count;
      kept = ∥∥₁_map m.kept (λ C.
          let e = C.wait_is j c.requires.job in
          released_kept g.K.PlanName.plan m.states.items m.cells.items m.rests.items m.waits.items m.dues.items j (c.index-2.result.now - 1)
          (c.index_mut.result.now - 1) c.requires.job
          m.wait_count m.due_count C (omega arith) (omega arith));
    }

pub returns-clause-last : goal.returns-clause-last
returns-clause-last g c =
    let m = c.args.self.now in
    let j = c.args.j in
    let low : j < length m.dues.items = subst (λ n. j < n) (sym m.due_count) c.requires.job in
    let low' : j < length m.waits.items = subst (λ n. j < n) (sym m.wait_count) c.requires.job in
    let d : slice_index m.dues.items j ≡ c.index.result.now = read m.dues.items j c.index.result.now 0 low c.index.ensures in
    let w : slice_index m.waits.items j ≡ c.index-2.result.now = read m.waits.items j c.index-2.result.now 0 low' c.index-2.ensures in
    let some = c.if-index-eq0.false in (
      (λ t. ∥∥₁_elim m.kept (Coded-set coded_ℕ _ _) (λ C. let e = C.wait_is j c.requires.job in
          let z : c.index-2.result.now - 1 ≡ 0 = eqb-true (c.index-2.result.now - 1) 0 t in omega arith)),
      (λ o. ∥∥₁_elim m.kept (Coded-set coded_bool _ _) (λ C. let e = C.wait_is j c.requires.job in eq-eqb (c.index-2.result.now - 1) 0 (omega arith))),
    )
