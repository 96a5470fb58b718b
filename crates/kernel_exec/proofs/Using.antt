-- What an operation on a bind reads and changes: the words that an index uses, and of a view the length word too, which is only read.
use Rattle.std.proofs.Common.{◌≡◌, ◌∙◌, ◌⊎◌, ⊎_elim, inl, inr, ℕ, ◌+◌, ◌≤◌, ◌<◌, nat_lt, ℤ, pos, Bool, true, false, IsTrue, if◌then◌else◌, cond, eqb, Result, Ok, Err, refl, sym, ap, subst, arith}
use Rattle.std.proofs.lemmas.Bool.{cases_lt}
use Rattle.job_base.specs.declared.Trap.{Trap}
use Rattle.job_base.specs.declared.Trap.TheVariants.{OwnIndex, Full, Written}
use Rattle.job_base.specs.Cells.{with_cell}
use Rattle.job_base.specs.Forms.{AlikeWithin, SameBeyond, IsForm}
use Rattle.job_base.proofs.Windows.{with_cell-other}
use Rattle.frame_ast.specs.Contents.{Contents, then_value, place_in}
use Rattle.frame_ast.specs.Arguments.{owns, if_owned}
use Rattle.frame_ast.specs.Simulation.{AlikeResults}
use Rattle.native_array.specs.declared.array.ArrayAt.{ArrayAt}
use Rattle.native_array.specs.Words.{stored, get_words as array_get, set_words as array_set}
use Rattle.native_list.specs.declared.ListAt.{ListAt}
use Rattle.native_list.specs.Words.{length_in, len_words, array_words}
use Rattle.native_list.proofs.Standing.{length_within}
use Rattle.native_stream.specs.declared.StreamAt.{StreamAt}
use Rattle.native_stream.specs.Layout.{mark_word, item_word as word_of_item, index_end}
use Rattle.native_stream.specs.Words.{is_written, number_of, item_count, begun, added, write_words}
use Rattle.native_stream.proofs.Places.{place_in-below}
use Rattle.kernel_exec.specs.declared.binds.Bind.{Bind}
use Rattle.kernel_exec.specs.declared.binds.Bind.TheVariants.{View, Stream}
use Rattle.kernel_exec.specs.Binds.{width_if, start_of, end_of, IsWordOf}
use Rattle.kernel_exec.specs.Footprint.{Own, Uses, IsLength}
use Rattle.kernel_exec.specs.Conditions.{IsBegun}
use Rattle.kernel_exec.specs.Words.{after_call, get_word, put_word, begin_word, write_word}
use Rattle.kernel_exec.proofs.Changing.{outside}
use Rattle.kernel_exec.proofs.Rights.{view_element, stream_index}

-- two cells agree on what an index may read of a bind that may be written
abbrev pub AgreeAt : ℕ → Bind → (ℕ → ℤ) → (ℕ → ℤ) → Type 0
AgreeAt index b c d = (w : ℕ) → Uses b index (index + 1) w ⊎ IsLength b w → d w ≡ c w

-- New cells came from two by like changes of words that the index uses: where the two agreed the new ones do, and other words stay.
pub record Moved (index : ℕ) (b : Bind) (c d new new' : ℕ → ℤ) : Type 0 where
  pub same : (w : ℕ) → d w ≡ c w → new' w ≡ new w
  pub left : (w : ℕ) → (Uses b index (index + 1) w → ⊥) → new w ≡ c w
  pub right : (w : ℕ) → (Uses b index (index + 1) w → ⊥) → new' w ≡ d w

module _ (index : ℕ) where
  abbrev Used : Bind → ℕ → Type 0
  Used b w = Uses b index (index + 1) w

  -- ---- some words, and one

  pub stay : (b : Bind) (c d : ℕ → ℤ) → Moved index b c d c d
  stay b c d = record { same = λ w e. e; left = λ w out. refl; right = λ w out. refl }

  pub one_more : (b : Bind) (c d new new' : ℕ → ℤ) (u : ℕ) (v v' : ℤ) → Used b u → v' ≡ v → Moved index b c d new new'
      → Moved index b c d (with_cell new u v) (with_cell new' u v')
  one_more b c d new new' u v v' used is m = record {
    same = λ w e. λ i. cond (eqb w u) (is i) (m.same w e i);
    left = λ w out. with_cell-other new u v w (λ e. out (subst (λ w. Used b w) (sym e) used)) ∙ m.left w out;
    right = λ w out. with_cell-other new' u v' w (λ e. out (subst (λ w. Used b w) (sym e) used)) ∙ m.right w out;
  }

  pub window : (b : Bind) (c d new new' : ℕ → ℤ) → ((w : ℕ) → IsWordOf b w → Used b w) → SameBeyond (start_of b) (end_of b) c new
      → SameBeyond (start_of b) (end_of b) d new' → AlikeWithin (start_of b) (end_of b) new new' → Moved index b c d new new'
  window b c d new new' used from_c from_d alike = record {
    same = λ w e. ⊎_elim (λ lt. from_d w (inl lt) ∙ e ∙ sym (from_c w (inl lt)))
        (λ le. ⊎_elim (λ lt. alike w le lt) (λ ge. from_d w (inr ge) ∙ e ∙ sym (from_c w (inr ge))) (cases_lt w (end_of b))) (cases_lt w (start_of b));
    left = λ w out. from_c w (outside (start_of b) (end_of b) w (λ lo hi. out (used w (record { from = lo; below = hi }))));
    right = λ w out. from_d w (outside (start_of b) (end_of b) w (λ lo hi. out (used w (record { from = lo; below = hi }))));
  }

  -- a call by its word form, on a container that is used whole
  pub called : {A : Type 0} {standing : (ℕ → ℤ) → Contents → Type 0} {effect : Contents → Result A Trap × Contents} (b : Bind)
      (f : (ℕ → ℤ) → Result A Trap × (ℕ → ℤ)) (c d : ℕ → ℤ)
      → IsForm (start_of b) (end_of b) standing f effect → ((w : ℕ) → IsWordOf b w → Used b w) → AgreeAt index b c d
      → AlikeResults (Moved index b c d) (after_call (f c)) (after_call (f d))
  called {A} b f c d form used agree = cases (f c).0 (f d).0 (f c).1 (f d).1 (form.answer c d alike) (form.changes c) (form.changes d) (form.reads c d alike)
    where
      alike : AlikeWithin (start_of b) (end_of b) c d
      alike w lo hi = agree w (inl (used w (record { from = lo; below = hi })))

      cases : (p q : Result A Trap) (new new' : ℕ → ℤ) → q ≡ p → SameBeyond (start_of b) (end_of b) c new → SameBeyond (start_of b) (end_of b) d new'
          → AlikeWithin (start_of b) (end_of b) new new' → AlikeResults (Moved index b c d) (after_call (p, new)) (after_call (q, new'))
      cases (Ok x) (Ok y) new new' e from_c from_d same = window b c d new new' used from_c from_d same
      cases (Ok x) (Err u) new new' e from_c from_d same = cc
      cases (Err t) (Ok y) new new' e from_c from_d same = cc
      cases (Err t) (Err u) new new' e from_c from_d same = cc

  -- ---- an element under the own-index rule

  pub element_same : (at : ArrayAt) (own : ℕ) (i : ℤ) (c d : ℕ → ℤ) → ((k : ℕ) → place_in at.len i ≡ Ok k → IsTrue (owns own index i)
      → d (at.start + k) ≡ c (at.start + k)) → if_owned own index i (array_get at c i) ≡ if_owned own index i (array_get at d i)
  element_same at own i c d same = by (place_in at.len i) refl (owns own index i) refl
    where
      by : (p : Result ℕ Trap) → place_in at.len i ≡ p → (o : Bool) → owns own index i ≡ o
          → then_value (then_value p (λ k. Ok (c (at.start + k)))) (λ z. if o then Ok z else Err OwnIndex) ≡ then_value
          (then_value p (λ k. Ok (d (at.start + k)))) (λ z. if o then Ok z else Err OwnIndex)
      by (Ok k) e true f = ap (λ z. Ok z) (sym (same k e f))
      by (Ok k) e false f = refl
      by (Err t) e o f = refl

  pub element_moved : (b : Bind) (at : ArrayAt) (own : ℕ) (i v : ℤ) (c d : ℕ → ℤ)
      → ((k : ℕ) → place_in at.len i ≡ Ok k → IsTrue (owns own index i) → Used b (at.start + k))
      → AlikeResults (Moved index b c d) (if_owned own index i (after_call (array_set at c i v))) (if_owned own index i (after_call (array_set at d i v)))
  element_moved b at own i v c d used = by (place_in at.len i) refl (owns own index i) refl
    where
      by : (p : Result ℕ Trap) → place_in at.len i ≡ p → (o : Bool) → owns own index i ≡ o
          → AlikeResults (Moved index b c d) (then_value (after_call (stored at c v p)) (λ z. if o then Ok z else Err OwnIndex))
          (then_value (after_call (stored at d v p)) (λ z. if o then Ok z else Err OwnIndex))
      by (Ok k) e true f = one_more b c d c d (at.start + k) v v (used k e f) refl (stay b c d)
      by (Ok k) e false f = refl
      by (Err t) e o f = refl

  -- the elements that a view has, in cells that agree
  module _ (at : ListAt) (own : ℕ) (c d : ℕ → ℤ) (agree : AgreeAt index (View at own) c d) where
    pub same_length : len_words at d ≡ len_words at c
    same_length = ap (length_in at.cap) (agree at.start (inr refl))

    viewed : (i : ℤ) (k : ℕ) → place_in (len_words at c) i ≡ Ok k → IsTrue (owns own index i) → Used (View at own) (at.start + 1 + k)
    viewed i k e may = view_element at (array_words at c) own index k i refl (length_within at.cap (c at.start)) e may

    pub view_same : (i : ℤ) → get_word index i (View at own) c ≡ get_word index i (View at own) d
    view_same i =
        element_same (array_words at c) own i c d (λ k e may. agree (at.start + 1 + k) (inl (viewed i k e may)))
        ∙ ap (λ n. if_owned own index i (array_get (record { start = at.start + 1; len = n }) d i)) (sym same_length)

    pub view_moved : (i v : ℤ) → AlikeResults (Moved index (View at own) c d) (put_word index i v (View at own) c) (put_word index i v (View at own) d)
    view_moved i v =
        subst (λ n. AlikeResults (Moved index (View at own) c d) (put_word index i v (View at own) c)
        (if_owned own index i (after_call (array_set (record { start = at.start + 1; len = n }) d i v)))) (sym same_length)
        (element_moved (View at own) (array_words at c) own i v c d (viewed i))

  -- ---- an index of a stream

  module _ (at : StreamAt) (own : Bool) (c d : ℕ → ℤ) (agree : AgreeAt index (Stream at own) c d) where
    -- a word of an index of the stream that is the job's own
    of_index : (k w : ℕ) → k < at.count → Own (width_if own) index (index + 1) k → mark_word at k ≤ w → w < index_end at k → Used (Stream at own) w
    of_index k w below mine lo hi = record { index = k; within = below; owned = mine; start = lo; end = hi }

    marked : (k : ℕ) → Used (Stream at own) (mark_word at k) → (m : Bool) → is_written (c (mark_word at k)) ≡ m
        → AlikeResults (Moved index (Stream at own) c d) (after_call (begun at c (Ok k))) (after_call (begun at d (Ok k)))
    marked k used m e =
        subst (λ z. AlikeResults (Moved index (Stream at own) c d) (after_call (begun at c (Ok k)))
        (after_call {A = Unit {0}} (if is_written z then (Err Written, d) else (Ok tt, with_cell d (mark_word at k) (pos 1)))))
        (sym (agree (mark_word at k) (inl used)))
        (by (is_written (c (mark_word at k))))
      where
        by : (m : Bool) → AlikeResults (Moved index (Stream at own) c d) (after_call {A = Unit {0}}
            (if m then (Err Written, c) else (Ok tt, with_cell c (mark_word at k) (pos 1))))
            (after_call {A = Unit {0}} (if m then (Err Written, d) else (Ok tt, with_cell d (mark_word at k) (pos 1))))
        by true = refl
        by false = one_more (Stream at own) c d c d (mark_word at k) (pos 1) (pos 1) used refl (stay (Stream at own) c d)

    pub stream_begun : (i : ℤ) → AlikeResults (Moved index (Stream at own) c d) (begin_word index i (Stream at own) c) (begin_word index i (Stream at own) d)
    stream_begun i = by (place_in at.count i) refl (owns (width_if own) index i) refl
      where
        by : (p : Result ℕ Trap) → place_in at.count i ≡ p → (o : Bool) → owns (width_if own) index i ≡ o
            → AlikeResults (Moved index (Stream at own) c d) (then_value (then_value p (λ k. if o then Ok k else Err OwnIndex))
            (λ k. after_call (begun at c p))) (then_value (then_value p (λ k. if o then Ok k else Err OwnIndex)) (λ k. after_call (begun at d p)))
        by (Ok k) e true f = marked k (stream_index at own index k i e f (mark_word at k) (omega arith) (omega arith)) _ refl
        by (Ok k) e false f = refl
        by (Err t) e o f = refl

    items_added : (k n : ℕ) (v : ℤ) → k < at.count → Own (width_if own) index (index + 1) k → (m : Bool) → nat_lt n at.room ≡ m
        → AlikeResults (Moved index (Stream at own) c d) (after_call {A = Unit {0}} (if m then (Ok tt, added at c k n v) else (Err Full, c)))
        (after_call {A = Unit {0}} (if m then (Ok tt, added at d k n v) else (Err Full, d)))
    items_added k n v below mine true e =
        let room : n < at.room = grind (arith, e) in
        one_more (Stream at own) c d _ _ (mark_word at k) (pos (n + 2)) (pos (n + 2)) (of_index k (mark_word at k) below mine (omega arith) (omega arith)) refl
        (one_more (Stream at own) c d c d (word_of_item at k n) v v (of_index k (word_of_item at k n) below mine (omega arith) (omega arith)) refl
        (stay (Stream at own) c d))
    items_added k n v below mine false e = refl

    pub stream_written : (i v : ℤ) → IsBegun (Stream at own) index i → AlikeResults (Moved index (Stream at own) c d) (write_word i v (Stream at own) c)
        (write_word i v (Stream at own) d)
    stream_written i v b =
        subst (λ p. AlikeResults (Moved index (Stream at own) c d) (then_value p (λ k. after_call (write_words at c k v)))
        (then_value p (λ k. after_call (write_words at d k v)))) (sym (ap (place_in at.count) b.1 ∙ place_in-below at.count b.0 b.2))
        (subst (λ z. AlikeResults (Moved index (Stream at own) c d) (after_call (write_words at c b.0 v))
        (after_call {A = Unit {0}} (if nat_lt (number_of at.room z) at.room then (Ok tt, added at d b.0 (number_of at.room z) v) else (Err Full, d))))
        (sym (agree (mark_word at b.0) (inl (of_index b.0 (mark_word at b.0) b.2 b.3 (omega arith) (omega arith)))))
        (items_added b.0 (item_count at c b.0) v b.2 b.3 _ refl))
