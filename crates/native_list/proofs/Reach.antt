-- Each word form reads and changes words of the list alone.
use Rattle.std.proofs.Common.{◌≡◌, ◌∙◌, ℕ, ◌+◌, ◌-◌, ◌<◌, ◌≤◌, ℤ, pos, Bool, true, false, cond, nat_lt, Result, Ok, Err, refl, sym, ap, subst, arith}
use Rattle.std.proofs.lemmas.Bool.{ltb-true}
use Rattle.job_base.specs.declared.Trap.{Trap}
use Rattle.job_base.specs.declared.Trap.TheVariants.{Full}
use Rattle.job_base.specs.Cells.{with_cell}
use Rattle.job_base.specs.Forms.{AlikeWithin, SameBeyond}
use Rattle.job_base.proofs.Windows.{with_cell-other}
use Rattle.frame_ast.specs.Contents.{then_value, place_in}
use Rattle.native_array.specs.Words.{stored}
use Rattle.native_array.proofs.Places.{in_place}
use Rattle.native_array.proofs.Forms.{alike-with_cell}
use Rattle.native_list.specs.declared.ListAt.{ListAt}
use Rattle.native_list.specs.Layout.{end_of}
use Rattle.native_list.specs.Words.{length_in, len_words, array_words, get_words, set_words, add_words, add_words_at, added, remove_words, remove_words_at}
use Rattle.native_list.proofs.Standing.{length_within}

-- the cells agree on the words of the list
abbrev pub Alike : ListAt → (ℕ → ℤ) → (ℕ → ℤ) → Type 0
Alike at a b = AlikeWithin at.start (end_of at) a b

-- the same answer, and cells that agree
abbrev pub SameCall : {A : Type 0} → ListAt → A × (ℕ → ℤ) → A × (ℕ → ℤ) → Type 0
SameCall at f g = (g.0 ≡ f.0) × Alike at f.1 g.1

module _ (at : ListAt) (cells : ℕ → ℤ) where
  -- a write to two words of the list
  two_outside : (k : ℕ) (v u : ℤ) → k < at.cap → SameBeyond at.start (end_of at) cells (with_cell (with_cell cells (at.start + 1 + k) v) at.start u)
  two_outside k v u below w out =
      with_cell-other (with_cell cells (at.start + 1 + k) v) at.start u w (omega arith) ∙ with_cell-other cells (at.start + 1 + k) v w (omega arith)

  set_outside_at : (i v : ℤ) (p : Result ℕ Trap) → place_in (len_words at cells) i ≡ p
      → SameBeyond at.start (end_of at) cells (stored (array_words at cells) cells v p).1
  set_outside_at i v (Ok k) e w out =
      let below : k < len_words at cells = in_place (len_words at cells) k i e in
      let within : len_words at cells ≤ at.cap = length_within at.cap (cells at.start) in
      with_cell-other cells (at.start + 1 + k) v w (omega arith)
  set_outside_at i v (Err trap) e w out = refl

  pub set_outside : (i v : ℤ) → SameBeyond at.start (end_of at) cells (set_words at cells i v).1
  set_outside i v = set_outside_at i v (place_in (len_words at cells) i) refl

  add_outside_at : (n : ℕ) (v : ℤ) (room : Bool) → nat_lt n at.cap ≡ room
      → SameBeyond at.start (end_of at) cells (cond {A = Result (Unit {0}) Trap × (ℕ → ℤ)} room (Ok tt, added at cells n v) (Err Full, cells)).1
  add_outside_at n v true e = two_outside n v (pos (n + 1)) (ltb-true _ _ e)
  add_outside_at n v false e = λ w out. refl

  pub add_outside : (v : ℤ) → SameBeyond at.start (end_of at) cells (add_words at cells v).1
  add_outside v = add_outside_at (len_words at cells) v (nat_lt (len_words at cells) at.cap) refl

  remove_outside_at : (n : ℕ) (i : ℤ) (p : Result ℕ Trap) → n ≤ at.cap → place_in n i ≡ p
      → SameBeyond at.start (end_of at) cells (remove_words_at at cells n p).1
  remove_outside_at n i (Ok k) within e = let below : k < n = in_place n k i e in two_outside k (cells (at.start + n)) (pos (n - 1)) (omega arith)
  remove_outside_at n i (Err trap) within e = λ w out. refl

  pub remove_outside : (i : ℤ) → SameBeyond at.start (end_of at) cells (remove_words at cells i).1
  remove_outside i = remove_outside_at (len_words at cells) i (place_in (len_words at cells) i) (length_within at.cap (cells at.start)) refl

module _ (at : ListAt) (a b : ℕ → ℤ) (h : Alike at a b) where
  pub len_reads : len_words at b ≡ len_words at a
  len_reads = ap (length_in at.cap) (h at.start (omega arith) (omega arith))

  within : len_words at a ≤ at.cap
  within = length_within at.cap (a at.start)

  get_reads_at : (n : ℕ) (i : ℤ) (p : Result ℕ Trap) → n ≤ at.cap → place_in n i ≡ p
      → then_value p (λ k. Ok (b (at.start + 1 + k))) ≡ then_value p (λ k. Ok (a (at.start + 1 + k)))
  get_reads_at n i (Ok k) le e = let below : k < n = in_place n k i e in ap (λ z. Ok z) (h (at.start + 1 + k) (omega arith) (omega arith))
  get_reads_at n i (Err trap) le e = refl

  pub get_reads : (i : ℤ) → get_words at b i ≡ get_words at a i
  get_reads i =
      ap (λ n. then_value (place_in n i) (λ k. Ok (b (at.start + 1 + k)))) len_reads ∙ get_reads_at (len_words at a) i (place_in (len_words at a) i) within refl

  set_reads_at : (v : ℤ) (p : Result ℕ Trap) → SameCall at (stored (array_words at a) a v p) (stored (array_words at b) b v p)
  set_reads_at v (Ok k) = (refl, alike-with_cell at.start (end_of at) a b (at.start + 1 + k) v v h refl)
  set_reads_at v (Err trap) = (refl, h)

  pub set_reads : (i v : ℤ) → SameCall at (set_words at a i v) (set_words at b i v)
  set_reads i v =
      subst (λ n. SameCall at (set_words at a i v) (stored (array_words at b) b v (place_in n i))) (sym len_reads)
      (set_reads_at v (place_in (len_words at a) i))

  two_alike : (k : ℕ) (v u z : ℤ) → u ≡ v → Alike at (with_cell (with_cell a (at.start + 1 + k) v) at.start z)
      (with_cell (with_cell b (at.start + 1 + k) u) at.start z)
  two_alike k v u z e =
      alike-with_cell at.start (end_of at) (with_cell a (at.start + 1 + k) v) (with_cell b (at.start + 1 + k) u) at.start z z
      (alike-with_cell at.start (end_of at) a b (at.start + 1 + k) v u h e) refl

  add_reads_at : (n : ℕ) (v : ℤ) (room : Bool) → SameCall {A = Result (Unit {0}) Trap} at (cond room (Ok tt, added at a n v) (Err Full, a))
      (cond room (Ok tt, added at b n v) (Err Full, b))
  add_reads_at n v true = (refl, two_alike n v v (pos (n + 1)) refl)
  add_reads_at n v false = (refl, h)

  pub add_reads : (v : ℤ) → SameCall at (add_words at a v) (add_words at b v)
  add_reads v =
      subst (λ n. SameCall at (add_words at a v) (add_words_at at b n v)) (sym len_reads) (add_reads_at (len_words at a) v (nat_lt (len_words at a) at.cap))

  remove_reads_at : (n : ℕ) (i : ℤ) (p : Result ℕ Trap) → n ≤ at.cap → place_in n i ≡ p → SameCall at (remove_words_at at a n p) (remove_words_at at b n p)
  remove_reads_at n i (Ok k) le e =
      let below : k < n = in_place n k i e in
      (refl, two_alike k (a (at.start + n)) (b (at.start + n)) (pos (n - 1)) (h (at.start + n) (omega arith) (omega arith)))
  remove_reads_at n i (Err trap) le e = (refl, h)

  pub remove_reads : (i : ℤ) → SameCall at (remove_words at a i) (remove_words at b i)
  remove_reads i =
      subst (λ n. SameCall at (remove_words at a i) (remove_words_at at b n (place_in n i))) (sym len_reads)
      (remove_reads_at (len_words at a) i (place_in (len_words at a) i) within refl)
