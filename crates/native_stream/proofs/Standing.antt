-- What the words of a stream stand for: one index, all of them, and a change of one.
use Rattle.std.proofs.Common.{◌≡◌, ◌∙◌, ℕ, ◌+◌, ◌<◌, ◌≤◌, inl, inr, ℤ, pos, List, length, get_or, set, replicate, Option, Some, None, is_some, refl, sym, ap, subst, arith}
use Rattle.std.proofs.lemmas.Bool.{cases_eq}
use Rattle.std.proofs.lemmas.List.{length-set, length-replicate, get_or-replicate, get_or-set_same, get_or-set_other, ext_get_or}
use Rattle.job_base.specs.Cells.{cell_list}
use Rattle.job_base.specs.Forms.{AlikeWithin, SameBeyond}
use Rattle.job_base.proofs.Windows.{cell_list-same}
use Rattle.frame_ast.specs.Contents.{Entries, items_of}
use Rattle.native_stream.specs.declared.StreamAt.{StreamAt}
use Rattle.native_stream.specs.Layout.{mark_word, index_end, end_of, mark_of, HoldsEntry, HoldsEntries, StandsFor}
use Rattle.native_stream.specs.Words.{is_written, number_of, is_written_at, item_count}
use Rattle.native_stream.specs.Laws.{OwnWordsDecide}
use Rattle.native_stream.proofs.Places.{index_within, apart}

-- ---- marks

mark_written : (e : Option (List ℤ)) → is_written (mark_of e) ≡ is_some e
mark_written None = refl
mark_written (Some xs) = grind arith

mark_number : (room : ℕ) (e : Option (List ℤ)) → length (items_of e) ≤ room → number_of room (mark_of e) ≡ length (items_of e)
mark_number room None h = omega arith
mark_number room (Some xs) h = omega arith

module _ (at : StreamAt) (cells : ℕ → ℤ) (k : ℕ) where
  pub written_is : (e : Option (List ℤ)) → HoldsEntry at cells k e → is_written_at at cells k ≡ is_some e
  written_is e s = ap is_written s.mark ∙ mark_written e

  pub count_is : (e : Option (List ℤ)) → HoldsEntry at cells k e → item_count at cells k ≡ length (items_of e)
  count_is e s = ap (number_of at.room) s.mark ∙ mark_number at.room e s.within

  -- an index without a mark is unwritten
  pub holds_none : cells (mark_word at k) ≡ pos 0 → HoldsEntry at cells k None
  holds_none e = record { mark = e; within = omega arith; items = refl }

-- ---- one index

pub holds_same : (at : StreamAt) (a b : ℕ → ℤ) (k : ℕ) (e : Option (List ℤ)) → AlikeWithin (mark_word at k) (index_end at k) a b → HoldsEntry at a k e
    → HoldsEntry at b k e
holds_same at a b k e h s =
    let within = s.within in
    record {
      mark = h (mark_word at k) (omega arith) (omega arith) ∙ s.mark;
      within = s.within;
      items = cell_list-same b a (mark_word at k + 1) (length (items_of e)) (λ w lo hi. h w (omega arith) (omega arith)) ∙ s.items;
    }

-- marks tell how many items there are, and whether there are any
same_mark : (e f : Option (List ℤ)) → mark_of e ≡ mark_of f → length (items_of e) ≡ length (items_of f) → items_of e ≡ items_of f → e ≡ f
same_mark None None m n s = refl
same_mark None (Some ys) m n s = absurd (grind arith)
same_mark (Some xs) None m n s = absurd (grind arith)
same_mark (Some xs) (Some ys) m n s = ap (λ l. Some l) s

holds_once : (at : StreamAt) (cells : ℕ → ℤ) (k : ℕ) (e f : Option (List ℤ)) → HoldsEntry at cells k e → HoldsEntry at cells k f → e ≡ f
holds_once at cells k e f s t =
    let n : length (items_of e) ≡ length (items_of f) = sym (count_is at cells k e s) ∙ count_is at cells k f t in
    same_mark e f (sym s.mark ∙ t.mark) n (sym s.items ∙ ap (cell_list cells (mark_word at k + 1)) n ∙ t.items)

-- ---- all indexes

-- a change of the words of one index changes its entry alone
pub holds_set : (at : StreamAt) (old new : ℕ → ℤ) (es : List (Option (List ℤ))) (k : ℕ) (e : Option (List ℤ)) → HoldsEntries at old es → k < at.count
    → SameBeyond (mark_word at k) (index_end at k) old new → HoldsEntry at new k e → HoldsEntries at new (set es k e)
holds_set at old new es k e s h same t = record {
  number = length-set es k e ∙ s.number;
  each = λ j hj. elim (cases_eq j k) [
    | inl here ↦
        let inside : k < length es = omega (arith, s.number) in
        subst (λ i. HoldsEntry at new i (get_or (set es k e) i None)) (sym here) (subst (HoldsEntry at new k) (sym (get_or-set_same es k e None inside)) t)
    | inr other ↦
        subst (HoldsEntry at new j) (sym (get_or-set_other es k j e None other))
        (holds_same at old new j (get_or es j None) (λ w lo hi. same w (apart at j k w other lo hi)) (s.each j hj))
  ];
}

-- cells without a mark stand for no written index
pub holds_unwritten : (at : StreamAt) (cells : ℕ → ℤ) (n : ℕ) → n ≡ at.count → ((k : ℕ) → k < at.count → cells (mark_word at k) ≡ pos 0)
    → HoldsEntries at cells (replicate n None)
holds_unwritten at cells n e h = record {
  number = length-replicate n None ∙ e;
  each = λ k hk. subst (HoldsEntry at cells k) (sym (get_or-replicate n k None None (omega arith))) (holds_none at cells k (h k hk));
}

pub zero_words : (at : StreamAt) (cells : ℕ → ℤ) → ((w : ℕ) → at.start ≤ w → w < end_of at → cells w ≡ pos 0)
    → StandsFor at cells (Entries at.room (replicate at.count None))
zero_words at cells zeros = (
  replicate at.count None,
  refl,
  holds_unwritten at cells at.count refl
      (λ k hk. let fits = index_within at k hk in zeros (mark_word at k) (omega arith) (omega arith)),
)

still_holds : (at : StreamAt) (a b : ℕ → ℤ) (es : List (Option (List ℤ))) → AlikeWithin at.start (end_of at) a b → HoldsEntries at a es → HoldsEntries at b es
still_holds at a b es h s = record {
  number = s.number;
  each = λ k hk. holds_same at a b k (get_or es k None) (λ w lo hi. let fits = index_within at k hk in h w (omega arith) (omega arith)) (s.each k hk);
}

same_entries : (at : StreamAt) (cells : ℕ → ℤ) (es fs : List (Option (List ℤ))) → HoldsEntries at cells es → HoldsEntries at cells fs → es ≡ fs
same_entries at cells es fs s t =
    ext_get_or None es fs (s.number ∙ sym t.number)
    (λ k h. let hk : k < at.count = omega (arith, s.number) in holds_once at cells k (get_or es k None) (get_or fs k None) (s.each k hk) (t.each k hk))

pub own_words_decide : OwnWordsDecide
own_words_decide = record {
  same = λ at a b c h s. (s.0, s.1, still_holds at a b s.0 h s.2);
  once = λ at cells c d s t. s.1 ∙ ap (λ l. Entries at.room l) (same_entries at cells s.0 t.0 s.2 t.2) ∙ sym t.1;
}
