-- Each word form reads and changes words of the stream alone.
use Rattle.std.proofs.Common.{◌≡◌, ◌∙◌, ℕ, zero, suc, ◌+◌, ◌<◌, ◌≤◌, ℤ, pos, negsuc, Bool, true, false, cond, eqb, nat_lt, Result, Ok, Err, refl, sym, ap, subst, arith}
use Rattle.std.proofs.lemmas.Bool.{ltb-true}
use Rattle.job_base.specs.declared.Trap.{Trap}
use Rattle.job_base.specs.declared.Trap.TheVariants.{Full, Written}
use Rattle.job_base.specs.Cells.{with_cell}
use Rattle.job_base.specs.Forms.{AlikeWithin, SameBeyond}
use Rattle.job_base.proofs.Windows.{with_cell-other}
use Rattle.frame_ast.specs.Contents.{then_value, place_in}
use Rattle.native_stream.specs.declared.StreamAt.{StreamAt}
use Rattle.native_stream.specs.Layout.{mark_word, item_word, end_of}
use Rattle.native_stream.specs.Words.{is_written, number_of, is_written_at, item_count, items_words, item_words, at_words, begun, begin_words, added, write_words, write_words_at, unmarked, clear_words}
use Rattle.native_stream.proofs.Places.{in_place, index_within}

-- the cells agree on the words of the stream
abbrev pub Alike : StreamAt → (ℕ → ℤ) → (ℕ → ℤ) → Type 0
Alike at a b = AlikeWithin at.start (end_of at) a b

-- the same answer, and cells that agree
abbrev pub SameCall : {A : Type 0} → StreamAt → A × (ℕ → ℤ) → A × (ℕ → ℤ) → Type 0
SameCall at f g = (g.0 ≡ f.0) × Alike at f.1 g.1

alike-with_cell : (start end : ℕ) (a b : ℕ → ℤ) (w : ℕ) (v : ℤ) → AlikeWithin start end a b → AlikeWithin start end (with_cell a w v) (with_cell b w v)
alike-with_cell start end a b w v h k lo hi = λ i. cond (eqb k w) v (h k lo hi i)

-- an index has at most as many items as there is room for
pub number_within : (room : ℕ) (mark : ℤ) → number_of room mark ≤ room
number_within room (pos n) = omega arith
number_within room (negsuc n) = omega arith

module _ (at : StreamAt) (cells : ℕ → ℤ) where
  begun_outside : (i : ℤ) (k : ℕ) → k < at.count → (b : Bool) → SameBeyond at.start (end_of at) cells
      (cond {A = Result (Unit {0}) Trap × (ℕ → ℤ)} b (Err Written, cells) (Ok tt, with_cell cells (mark_word at k) (pos 1))).1
  begun_outside i k h true w out = refl
  begun_outside i k h false w out = let fits = index_within at k h in with_cell-other cells (mark_word at k) (pos 1) w (omega arith)

  begin_outside_at : (i : ℤ) (p : Result ℕ Trap) → place_in at.count i ≡ p → SameBeyond at.start (end_of at) cells (begun at cells p).1
  begin_outside_at i (Ok k) e = begun_outside i k (in_place at.count k i e) (is_written_at at cells k)
  begin_outside_at i (Err trap) e = λ w out. refl

  pub begin_outside : (i : ℤ) → SameBeyond at.start (end_of at) cells (begin_words at cells i).1
  begin_outside i = begin_outside_at i (place_in at.count i) refl

  write_outside_at : (k n : ℕ) (v : ℤ) → k < at.count → (b : Bool) → nat_lt n at.room ≡ b
      → SameBeyond at.start (end_of at) cells (cond {A = Result (Unit {0}) Trap × (ℕ → ℤ)} b (Ok tt, added at cells k n v) (Err Full, cells)).1
  write_outside_at k n v h true e w out =
      let room : n < at.room = ltb-true n at.room e in
      let fits = index_within at k h in
      with_cell-other (with_cell cells (item_word at k n) v) (mark_word at k) (pos (n + 2)) w (omega arith)
      ∙ with_cell-other cells (item_word at k n) v w (omega arith)
  write_outside_at k n v h false e w out = refl

  pub write_outside : (k : ℕ) (v : ℤ) → k < at.count → SameBeyond at.start (end_of at) cells (write_words at cells k v).1
  write_outside k v h = write_outside_at k (item_count at cells k) v h (nat_lt (item_count at cells k) at.room) refl

  unmarked_outside : (n : ℕ) → n ≤ at.count → SameBeyond at.start (end_of at) cells (unmarked at cells n)
  unmarked_outside zero le w out = refl
  unmarked_outside (suc n) le w out =
      let fits = index_within at n (omega arith) in
      with_cell-other (unmarked at cells n) (mark_word at n) (pos 0) w (omega arith) ∙ unmarked_outside n (omega arith) w out

  pub clear_outside : SameBeyond at.start (end_of at) cells (clear_words at cells)
  clear_outside = unmarked_outside at.count (omega arith)

module _ (at : StreamAt) (a b : ℕ → ℤ) (h : Alike at a b) where
  same_mark : (k : ℕ) → k < at.count → b (mark_word at k) ≡ a (mark_word at k)
  same_mark k hk = let fits = index_within at k hk in h (mark_word at k) (omega arith) (omega arith)

  same_count : (k : ℕ) → k < at.count → item_count at b k ≡ item_count at a k
  same_count k hk = ap (number_of at.room) (same_mark k hk)

  same_written : (k : ℕ) → k < at.count → is_written_at at b k ≡ is_written_at at a k
  same_written k hk = ap is_written (same_mark k hk)

  items_reads_at : (i : ℤ) (p : Result ℕ Trap) → place_in at.count i ≡ p → then_value p (λ j. Ok (item_count at b j)) ≡ then_value p
      (λ j. Ok (item_count at a j))
  items_reads_at i (Ok k) e = ap (λ n. Ok n) (same_count k (in_place at.count k i e))
  items_reads_at i (Err trap) e = refl

  pub items_reads : (i : ℤ) → items_words at b i ≡ items_words at a i
  items_reads i = items_reads_at i (place_in at.count i) refl

  item_found : (k n : ℕ) (i : ℤ) (p : Result ℕ Trap) → k < at.count → n ≤ at.room → place_in n i ≡ p
      → then_value p (λ q. Ok (b (item_word at k q))) ≡ then_value p (λ q. Ok (a (item_word at k q)))
  item_found k n i (Ok q) hk le e =
      let below : q < n = in_place n q i e in
      let fits = index_within at k hk in
      ap (λ z. Ok z) (h (item_word at k q) (omega arith) (omega arith))
  item_found k n i (Err trap) hk le e = refl

  same_item : (k : ℕ) (i : ℤ) → k < at.count → item_words at b k i ≡ item_words at a k i
  same_item k i hk =
      ap (λ n. then_value (place_in n i) (λ q. Ok (b (item_word at k q)))) (same_count k hk)
      ∙ item_found k (item_count at a k) i (place_in (item_count at a k) i) hk (number_within at.room (a (mark_word at k))) refl

  at_reads_at : (i k : ℤ) (p : Result ℕ Trap) → place_in at.count i ≡ p → then_value p (λ j. item_words at b j k) ≡ then_value p (λ j. item_words at a j k)
  at_reads_at i k (Ok j) e = same_item j k (in_place at.count j i e)
  at_reads_at i k (Err trap) e = refl

  pub at_reads : (i k : ℤ) → at_words at b i k ≡ at_words at a i k
  at_reads i k = at_reads_at i k (place_in at.count i) refl

  begun_same : (k : ℕ) (c : Bool) → SameCall {A = Result (Unit {0}) Trap} at (cond c (Err Written, a) (Ok tt, with_cell a (mark_word at k) (pos 1)))
      (cond c (Err Written, b) (Ok tt, with_cell b (mark_word at k) (pos 1)))
  begun_same k true = (refl, h)
  begun_same k false = (refl, alike-with_cell at.start (end_of at) a b (mark_word at k) (pos 1) h)

  begin_reads_at : (i : ℤ) (p : Result ℕ Trap) → place_in at.count i ≡ p → SameCall at (begun at a p) (begun at b p)
  begin_reads_at i (Ok k) e =
      subst (λ c. SameCall {A = Result (Unit {0}) Trap} at (begun at a (Ok k)) (cond c (Err Written, b) (Ok tt, with_cell b (mark_word at k) (pos 1))))
      (sym (same_written k (in_place at.count k i e))) (begun_same k (is_written_at at a k))
  begin_reads_at i (Err trap) e = (refl, h)

  pub begin_reads : (i : ℤ) → SameCall at (begin_words at a i) (begin_words at b i)
  begin_reads i = begin_reads_at i (place_in at.count i) refl

  write_reads_at : (k n : ℕ) (v : ℤ) (c : Bool) → SameCall {A = Result (Unit {0}) Trap} at (cond c (Ok tt, added at a k n v) (Err Full, a))
      (cond c (Ok tt, added at b k n v) (Err Full, b))
  write_reads_at k n v true = (
    refl,
    alike-with_cell at.start (end_of at) (with_cell a (item_word at k n) v) (with_cell b (item_word at k n) v) (mark_word at k) (pos (n + 2))
        (alike-with_cell at.start (end_of at) a b (item_word at k n) v h),
  )
  write_reads_at k n v false = (refl, h)

  pub write_reads : (k : ℕ) (v : ℤ) → k < at.count → SameCall at (write_words at a k v) (write_words at b k v)
  write_reads k v hk =
      subst (λ n. SameCall at (write_words at a k v) (write_words_at at b k n v)) (sym (same_count k hk))
      (write_reads_at k (item_count at a k) v (nat_lt (item_count at a k) at.room))

  unmarked_reads : (n : ℕ) → Alike at (unmarked at a n) (unmarked at b n)
  unmarked_reads zero = h
  unmarked_reads (suc n) = alike-with_cell at.start (end_of at) (unmarked at a n) (unmarked at b n) (mark_word at n) (pos 0) (unmarked_reads n)

  pub clear_reads : Alike at (clear_words at a) (clear_words at b)
  clear_reads = unmarked_reads at.count
