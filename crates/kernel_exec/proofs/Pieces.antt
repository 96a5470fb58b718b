-- The footprint is kept at one index, and at indexes that follow one another.
use Rattle.std.proofs.Common.{◌≡◌, ◌∙◌, inl, inr, ℕ, zero, suc, ◌+◌, ◌≤◌, ℤ, Bool, true, false, List, ◌++◌, refl, sym, ap, arith, append_assoc}
use Rattle.std.proofs.Math.Nat.{mul-le-mul_right}
use Rattle.job_base.specs.declared.Trap.{Trap}
use Rattle.frame_ast.specs.declared.kernel.Kernel.{Kernel}
use Rattle.frame_ast.specs.declared.kernel.Param.{Param}
use Rattle.frame_ast.specs.Checked.{is_read, IsChecked}
use Rattle.frame_ast.specs.Kernels.{store_after, trap_after}
use Rattle.frame_ast.specs.JobRuns.{Ran, trap_at}
use Rattle.kernel_exec.specs.declared.binds.Bind.{Bind}
use Rattle.kernel_exec.specs.declared.binds.Bind.TheVariants.{Int, Array, View, List as WholeList, Ref, Map, Stream}
use Rattle.kernel_exec.specs.Binds.{width_if}
use Rattle.kernel_exec.specs.Footprint.{Own, Uses, ReadsBy, WritesBy, IsRead, IsWritten}
use Rattle.kernel_exec.specs.Conditions.{BindsFit}
use Rattle.kernel_exec.specs.Laws.{at_index, at_indexes, AgreeOn, StayAlike, OnlyWrittenWordsChange, ReadWordsDecide, WrittenWordsAreRead, FootprintsGrow, IndexesAreCut}
use Rattle.kernel_exec.proofs.Footprints.{alike_ends}

-- ---- footprints

module _ (from to from' to' : ℕ) (first : from' ≤ from) (last : to ≤ to') where
  owns_more : (width k : ℕ) → Own width from to k → Own width from' to' k
  owns_more zero k h = tt
  owns_more (suc n) k h =
      let lo = mul-le-mul_right {m = from'} {n = from} (suc n) first in
      let hi = mul-le-mul_right {m = to} {n = to'} (suc n) last in
      (omega (arith, h.0, lo), omega (arith, h.1, hi))

  uses_more : (b : Bind) (w : ℕ) → Uses b from to w → Uses b from' to' w
  uses_more (Int z) w u = absurd u
  uses_more (Array at own) w u = record { place = u.place; is = u.is; within = u.within; owned = owns_more own u.place u.owned }
  uses_more (View at own) w u = record { place = u.place; is = u.is; within = u.within; owned = owns_more own u.place u.owned }
  uses_more (WholeList at) w u = u
  uses_more (Ref at) w u = u
  uses_more (Map at) w u = u
  uses_more (Stream at own) w u = record { index = u.index; within = u.within; owned = owns_more (width_if own) u.index u.owned; start = u.start; end = u.end }

  reads_more : (r : Bool) (b : Bind) (w : ℕ) → ReadsBy r b from to w → ReadsBy r b from' to' w
  reads_more true b w u = u
  reads_more false b w (inl u) = inl (uses_more b w u)
  reads_more false b w (inr u) = inr u

  writes_more : (r : Bool) (b : Bind) (w : ℕ) → WritesBy r b from to w → WritesBy r b from' to' w
  writes_more true b w u = u
  writes_more false b w u = uses_more b w u

pub footprints_grow : FootprintsGrow
footprints_grow = record {
  read = λ params binds from to from' to' w first last h. record {
    number = h.number;
    param = h.param;
    bind = h.bind;
    has_param = h.has_param;
    has_bind = h.has_bind;
    reads = reads_more from to from' to' first last (is_read h.param.access) h.bind w h.reads;
  };
  written = λ params binds from to from' to' w first last h. record {
    number = h.number;
    param = h.param;
    bind = h.bind;
    has_param = h.has_param;
    has_bind = h.has_bind;
    writes = writes_more from to from' to' first last (is_read h.param.access) h.bind w h.writes;
  };
}

reads_written : (r : Bool) (b : Bind) (from to w : ℕ) → WritesBy r b from to w → ReadsBy r b from to w
reads_written true b from to w u = absurd u
reads_written false b from to w u = inl u

pub written_words_are_read : WrittenWordsAreRead
written_words_are_read params binds from to w h =
    record {
      number = h.number;
      param = h.param;
      bind = h.bind;
      has_param = h.has_param;
      has_bind = h.has_bind;
      reads = reads_written (is_read h.param.access) h.bind from to w h.writes;
    }

-- ---- indexes

module _ (kernel : Kernel) (binds : List Bind) (steps : ℕ) (checked : IsChecked kernel) (fit : BindsFit kernel binds) where
  abbrev params : List Param
  params = kernel.params.items

  abbrev after : ℕ → (ℕ → ℤ) → ℕ → ℤ
  after index cells = store_after (at_index kernel binds steps index cells)

  changes_one : (index : ℕ) (cells : ℕ → ℤ) (w : ℕ) → (IsWritten params binds index (index + 1) w → ⊥) → after index cells w ≡ cells w
  changes_one index cells w out = (alike_ends kernel binds index checked fit cells cells (λ w read. refl) steps).1.left w out

  changes_many : (n from : ℕ) (cells : ℕ → ℤ) (w : ℕ) → (IsWritten params binds from (from + n) w → ⊥)
      → (at_indexes kernel binds steps n from cells).store w ≡ cells w
  changes_many zero from cells w out = refl
  changes_many (suc n) from cells w out =
      changes_many n (from + 1) (after from cells) w (λ h. out (footprints_grow.written params binds (from + 1) (from + 1 + n) from (from + suc n) w
      (omega arith) (omega arith) h))
      ∙ changes_one from cells w (λ h. out (footprints_grow.written params binds from (from + 1) from (from + suc n) w (omega arith) (omega arith) h))

  decides_one : (index : ℕ) (a b : ℕ → ℤ) → AgreeOn (IsRead params binds index (index + 1)) a b
      → (trap_after (at_index kernel binds steps index a) ≡ trap_after (at_index kernel binds steps index b)) × StayAlike a b (after index a) (after index b)
  decides_one index a b alike = let end = alike_ends kernel binds index checked fit a b alike steps in (end.0, end.1.same)

  decides_many : (n from : ℕ) (a b : ℕ → ℤ) → AgreeOn (IsRead params binds from (from + n)) a b
      → ((at_indexes kernel binds steps n from a).traps ≡ (at_indexes kernel binds steps n from b).traps)
      × StayAlike a b (at_indexes kernel binds steps n from a).store (at_indexes kernel binds steps n from b).store
  decides_many zero from a b alike = (refl, λ w e. e)
  decides_many (suc n) from a b alike =
      let end = decides_one from a b (λ w h. alike w (footprints_grow.read params binds from (from + 1) from (from + suc n) w (omega arith) (omega arith) h)) in
      let rest = decides_many n (from + 1) (after from a) (after from b) (λ w h. end.1 w
      (alike w (footprints_grow.read params binds (from + 1) (from + 1 + n) from (from + suc n) w (omega arith) (omega arith) h))) in (
        ap (λ o. trap_at from o ++ (at_indexes kernel binds steps n (from + 1) (after from a)).traps) end.0
            ∙ ap (λ ts. trap_at from (trap_after (at_index kernel binds steps from b)) ++ ts) rest.0,
        λ w e. rest.1 w (end.1 w e),
      )

-- ---- a cut

module _ (kernel : Kernel) (binds : List Bind) (steps : ℕ) where
  abbrev go : ℕ → ℕ → (ℕ → ℤ) → Ran (ℕ → ℤ)
  go n from cells = at_indexes kernel binds steps n from cells

  abbrev next : ℕ → (ℕ → ℤ) → ℕ → ℤ
  next index cells = store_after (at_index kernel binds steps index cells)

  abbrev met : ℕ → (ℕ → ℤ) → List (ℕ × Trap)
  met index cells = trap_at index (trap_after (at_index kernel binds steps index cells))

  cut_store : (m n from : ℕ) (cells : ℕ → ℤ) → (go (m + n) from cells).store ≡ (go n (from + m) (go m from cells).store).store
  cut_store zero n from cells =
      let none : 0 + n ≡ n = omega arith in
      let here : from ≡ from + 0 = omega arith in
      ap (λ k. (go k from cells).store) none ∙ ap (λ k. (go n k cells).store) here
  cut_store (suc m) n from cells =
      let one : suc m + n ≡ suc (m + n) = omega arith in
      let here : from + 1 + m ≡ from + suc m = omega arith in
      ap (λ k. (go k from cells).store) one ∙ cut_store m n (from + 1) (next from cells)
      ∙ ap (λ k. (go n k (go m (from + 1) (next from cells)).store).store) here

  cut_traps : (m n from : ℕ) (cells : ℕ → ℤ) → (go (m + n) from cells).traps ≡ (go m from cells).traps ++ (go n (from + m) (go m from cells).store).traps
  cut_traps zero n from cells =
      let none : 0 + n ≡ n = omega arith in
      let here : from ≡ from + 0 = omega arith in
      ap (λ k. (go k from cells).traps) none ∙ ap (λ k. (go n k cells).traps) here
  cut_traps (suc m) n from cells =
      let one : suc m + n ≡ suc (m + n) = omega arith in
      let here : from + 1 + m ≡ from + suc m = omega arith in
      let rest = cut_traps m n (from + 1) (next from cells) ∙ ap (λ k. (go m (from + 1) (next from cells)).traps
      ++ (go n k (go m (from + 1) (next from cells)).store).traps) here in
      ap (λ k. (go k from cells).traps) one ∙ ap (λ ts. met from cells ++ ts) rest ∙ sym (append_assoc (met from cells) _ _)

pub indexes_are_cut : IndexesAreCut
indexes_are_cut = record {
  store = λ kernel binds steps m n from cells. cut_store kernel binds steps m n from cells;
  traps = λ kernel binds steps m n from cells. cut_traps kernel binds steps m n from cells;
}

pub only_written_words_change : OnlyWrittenWordsChange
only_written_words_change = record {
  at_one = λ kernel binds steps index cells w checked fit out. changes_one kernel binds steps checked fit index cells w out;
  at_many = λ kernel binds steps n from cells w checked fit out. changes_many kernel binds steps checked fit n from cells w out;
}

pub read_words_decide : ReadWordsDecide
read_words_decide = record {
  at_one = λ kernel binds steps index a b checked fit alike. decides_one kernel binds steps checked fit index a b alike;
  at_many = λ kernel binds steps n from a b checked fit alike. decides_many kernel binds steps checked fit n from a b alike;
}
