-- The indexes of a guarded kernel, those below the length and those from it on.
use Rattle.std.proofs.Common.{◌≡◌, ℕ, zero, suc, ◌+◌, ◌<◌, ◌≤◌, true, false, pos, List, [], ◌∷◌, ◌++◌, refl, ap, ◌∙◌, arith}
use Rattle.std.specs.Prelude.{int_lt, nat_lt}
use Rattle.frame_ast.specs.declared.kernel.Kernel.{Kernel}
use Rattle.frame_ast.specs.Checked.{IsChecked}
use Rattle.frame_ast.specs.JobRuns.{Ran, trap_at, followed, full_steps, deferred_steps}
use Rattle.frame_ast.specs.Kernels.{trap_after, store_after}
use Rattle.job_defer.specs.Guarded.{GuardsWords}
use Rattle.kernel_exec.specs.declared.binds.Bind.{Bind}
use Rattle.kernel_exec.specs.Conditions.{BindsFit}
use Rattle.kernel_exec.specs.Footprint.{IsWritten}
use Rattle.kernel_exec.specs.Laws.{at_index, at_indexes}
use Rattle.kernel_exec.proofs.Pieces.{only_written_words_change}
use Rattle.merge_laws.specs.Graph.{Cells}
use Rattle.defer_laws.specs.GuardedRuns.{word_at, GuardedIndexesRunAlike}

is_less : (a b : ℕ) → a < b → int_lt (pos a) (pos b) ≡ true
is_less a b lt = let f : nat_lt a b ≡ true = grind arith in f

isnt_less : (a b : ℕ) → b ≤ a → int_lt (pos a) (pos b) ≡ false
isnt_less a b le = let f : nat_lt a b ≡ false = grind arith in f

module _ (old new : Kernel) (binds : List Bind) (w : ℕ) (guards : GuardsWords old new) (checked : IsChecked old) (fit : BindsFit old binds)
    (unwritten : (from to : ℕ) → IsWritten old.params.items binds from to w → ⊥) where
  abbrev guarded : ℕ → ℕ → Cells → Ran Cells
  guarded n from cells = at_indexes new (binds ++ word_at w ∷ []) full_steps n from cells

  abbrev plain : ℕ → ℕ → Cells → Ran Cells
  plain n from cells = at_indexes old binds deferred_steps n from cells

  -- from the length on they do nothing
  nothing_more : (m from n : ℕ) (cells : Cells) → n ≤ from → cells w ≡ pos n → guarded m from cells ≡ record { store = cells; traps = [] }
  nothing_more zero from n cells le held = refl
  nothing_more (suc m) from n cells le held =
      let r = guards.above binds (record { start = w; len = 1 }) from cells fit.count (omega arith)
      (ap (λ z. int_lt (pos from) z) held ∙ isnt_less from n le) in
      (λ i. followed (trap_at from (r.trap i)) (guarded m (from + 1) (r.store i)))
      ∙ ap (followed []) (nothing_more m (from + 1) n cells (omega arith) held)

  -- below it they do what the old kernel does, which leaves the length
  all_alike : (n m from len : ℕ) (cells : Cells) → from + n ≡ len → cells w ≡ pos len → guarded (n + m) from cells ≡ plain n from cells
  all_alike zero m from len cells e held =
      let none : zero + m ≡ m = omega arith in
      ap (λ k. guarded k from cells) none ∙ nothing_more m from len cells (omega arith) held
  all_alike (suc n) m from len cells e held =
      let more : suc n + m ≡ suc (n + m) = omega arith in
      let r = guards.below binds (record { start = w; len = 1 }) from cells fit.count (omega arith)
      (ap (λ z. int_lt (pos from) z) held ∙ is_less from len (omega arith)) in
      let kept = only_written_words_change.at_one old binds deferred_steps from cells w checked fit (unwritten from (from + 1)) ∙ held in
      ap (λ k. guarded k from cells) more
      ∙ (λ i. followed (trap_at from (r.trap i)) (guarded (n + m) (from + 1) (r.store i)))
      ∙ ap (followed (trap_at from (trap_after (at_index old binds deferred_steps from cells))))
      (all_alike n m (from + 1) len (store_after (at_index old binds deferred_steps from cells)) (omega arith) kept)

pub guarded_indexes_run_alike : GuardedIndexesRunAlike
guarded_indexes_run_alike old new binds w n m cells guards checked fit unwritten held =
    all_alike old new binds w guards checked fit unwritten n m 0 n cells (omega arith) held
