-- What each word form that changes words does to the contents that they stand for.
use Rattle.std.proofs.Common.{◌≡◌, ℕ, ℤ, pos, ◌+◌, ◌<◌, ◌≢◌, true, false, cond, not, Some, sym, ap, subst, ◌∙◌, arith, inl, inr, ◌⊎◌, ◌+ℤ◌, List, length}
use Rattle.std.specs.Ordering.{int_eq}
use Rattle.std.proofs.lemmas.Bool.{cases_eq, true≢false}
use Rattle.job_base.specs.Cells.{with_cell}
use Rattle.job_base.proofs.Windows.{with_cell-same, with_cell-other}
use Rattle.frame_ast.specs.Contents.{value_of_key, with_key}
use Rattle.native_map.specs.declared.MapAt.{MapAt}
use Rattle.native_map.specs.Table.{places, flag_word, key_word, value_word, distance, home, holds, key_at, value_at, place_of, held_count}
use Rattle.native_map.specs.Words.{filled}
use Rattle.native_map.specs.Layout.{HoldsPairs}
use Rattle.native_map.proofs.Rising.{with_key-here, with_key-there, rising-with_key, length-with_key}
use Rattle.native_map.proofs.Tables.{count_more, filled_table, filled_gives, rewritten_gives, IsTable, Gives}
use Rattle.native_map.proofs.Searches.{home_below, ended, goes_past, key_there, built, the_table, the_gives, found, missed}

module _ (at : MapAt) (cells : ℕ → ℤ) (ps : List (ℤ × ℤ)) (s : HoldsPairs at cells ps) (k v : ℤ) where
  -- a new value of a key that is there
  pub put_held : (p : ℕ) → place_of at cells k ≡ Some p → holds cells at.start p ≡ true
      → HoldsPairs at (with_cell cells (value_word at.start p) v) (with_key ps k v)
  put_held p e h =
      let after = with_cell cells (value_word at.start p) v in
      let below = (ended at cells k p e).below in
      let same_held : holds cells at.start ≡ holds after at.start = λ i x. not
      (int_eq (sym (with_cell-other cells (value_word at.start p) v (flag_word at.start x) (omega arith)) i) (pos 0)) in
      let same_key : key_at cells at.start ≡ key_at after at.start = λ i x. sym
      (with_cell-other cells (value_word at.start p) v (key_word at.start x) (omega arith)) i in
      let number = length-with_key ps k s.rising v ∙ ap (λ b. cond b (length ps) (length ps + 1)) (found at cells ps s k p e h) in
      let gives = rewritten_gives (places at.cap) (home (places at.cap)) (home_below at.cap) (holds cells at.start) (key_at cells at.start)
      (value_at cells at.start) p below h k (key_there at cells k p e h) (the_table at cells ps s)
      v (value_at after at.start) (with_cell-same cells (value_word at.start p) v)
      (λ x ne. with_cell-other cells (value_word at.start p) v (value_word at.start x) (omega arith)) (value_of_key ps) (value_of_key (with_key ps k v))
      (with_key-here ps k v) (with_key-there ps k v) (the_gives at cells ps s) in
      built at after (with_key ps k v) (rising-with_key ps k s.rising v)
      (λ x hx. subst (λ c. (c ≡ pos 0) ⊎ (c ≡ pos 1)) (sym (with_cell-other cells (value_word at.start p) v (flag_word at.start x) (omega arith)))
      (s.flags x hx))
      (subst (λ f. IsTable (places at.cap) (home (places at.cap)) (home_below at.cap) f (key_at after at.start) (places at.cap)) same_held
      (subst (λ f. IsTable (places at.cap) (home (places at.cap)) (home_below at.cap) (holds cells at.start) f (places at.cap)) same_key
      (the_table at cells ps s)))
      (subst (λ f. Gives (places at.cap) (home (places at.cap)) (home_below at.cap) f (key_at after at.start) (value_at after at.start)
      (value_of_key (with_key ps k v)) (places at.cap)) same_held
      (subst (λ f. Gives (places at.cap) (home (places at.cap)) (home_below at.cap) (holds cells at.start) f (value_at after at.start)
      (value_of_key (with_key ps k v)) (places at.cap)) same_key gives))
      (sym (ap (λ f. held_count f (places at.cap)) same_held) ∙ s.number ∙ sym number)
      (with_cell-other cells (value_word at.start p) v at.start (omega arith) ∙ s.count ∙ ap pos (sym number))
      (omega (arith, number, s.within))

  -- a new pair in a gap
  pub put_gap : (p : ℕ) → place_of at cells k ≡ Some p → holds cells at.start p ≡ false → length ps < at.cap
      → HoldsPairs at (filled at cells p k v) (with_key ps k v)
  put_gap p e free room =
      let one = with_cell cells (key_word at.start p) k in
      let two = with_cell one (value_word at.start p) v in
      let three = with_cell two (flag_word at.start p) (pos 1) in
      let after = with_cell three at.start (cells at.start +ℤ pos 1) in
      let last : (w : ℕ) → w ≢ at.start → after w ≡ three w = λ w ne. with_cell-other three at.start _ w ne in
      let flag_here : after (flag_word at.start p) ≡ pos 1 = last (flag_word at.start p) (omega arith) ∙ with_cell-same two (flag_word at.start p) (pos 1) in
      let flag_there : (x : ℕ) → x ≢ p → after (flag_word at.start x) ≡ cells (flag_word at.start x) = λ x ne.
      last (flag_word at.start x) (omega arith) ∙ with_cell-other two (flag_word at.start p) (pos 1) (flag_word at.start x) (omega arith)
      ∙ with_cell-other one (value_word at.start p) v (flag_word at.start x) (omega arith)
      ∙ with_cell-other cells (key_word at.start p) k (flag_word at.start x) (omega arith) in
      let key_here : after (key_word at.start p) ≡ k =
      last (key_word at.start p) (omega arith) ∙ with_cell-other two (flag_word at.start p) (pos 1) (key_word at.start p) (omega arith)
      ∙ with_cell-other one (value_word at.start p) v (key_word at.start p) (omega arith) ∙ with_cell-same cells (key_word at.start p) k in
      let key_else : (x : ℕ) → x ≢ p → after (key_word at.start x) ≡ cells (key_word at.start x) = λ x ne.
      last (key_word at.start x) (omega arith) ∙ with_cell-other two (flag_word at.start p) (pos 1) (key_word at.start x) (omega arith)
      ∙ with_cell-other one (value_word at.start p) v (key_word at.start x) (omega arith)
      ∙ with_cell-other cells (key_word at.start p) k (key_word at.start x) (omega arith) in
      let value_here : after (value_word at.start p) ≡ v =
      last (value_word at.start p) (omega arith) ∙ with_cell-other two (flag_word at.start p) (pos 1) (value_word at.start p) (omega arith)
      ∙ with_cell-same one (value_word at.start p) v in
      let value_else : (x : ℕ) → x ≢ p → after (value_word at.start x) ≡ cells (value_word at.start x) = λ x ne.
      last (value_word at.start x) (omega arith) ∙ with_cell-other two (flag_word at.start p) (pos 1) (value_word at.start x) (omega arith)
      ∙ with_cell-other one (value_word at.start p) v (value_word at.start x) (omega arith)
      ∙ with_cell-other cells (key_word at.start p) k (value_word at.start x) (omega arith) in
      let held_here : holds after at.start p ≡ true = ap (λ c. not (int_eq c (pos 0))) flag_here in
      let held_there : (x : ℕ) → x ≢ p → holds after at.start x ≡ holds cells at.start x = λ x ne. ap (λ c. not (int_eq c (pos 0))) (flag_there x ne) in
      let at_p = ended at cells k p e in
      let reached : (x : ℕ) → x < places at.cap → distance (places at.cap) (home (places at.cap) k) x < distance (places at.cap) (home (places at.cap) k) p
      → holds cells at.start x ≡ true = λ x hx lt. (goes_past at cells k x (at_p.before x hx lt)).0 in
      let absent : (q : ℕ) → q < places at.cap → holds cells at.start q ≡ true → key_at cells at.start q ≢ k = λ q hq sq same.
      let e' = sym e ∙ sym (ap (place_of at cells) same) ∙ s.searched q hq sq in
      let pq : p ≡ q = cc in
      true≢false (sym sq ∙ ap (holds cells at.start) (sym pq) ∙ free) in
      let number : length (with_key ps k v) ≡ length ps + 1 = length-with_key ps k s.rising v
      ∙ ap (λ b. cond b (length ps) (length ps + 1)) (missed at cells ps s k p e free) in
      built at after (with_key ps k v) (rising-with_key ps k s.rising v)
      (λ x hx. elim (cases_eq x p) [
        | inl x_p ↦ inr (ap (λ y. after (flag_word at.start y)) x_p ∙ flag_here)
        | inr x_o ↦ subst (λ c. (c ≡ pos 0) ⊎ (c ≡ pos 1)) (sym (flag_there x x_o)) (s.flags x hx)
      ])
      (filled_table (places at.cap) (home (places at.cap)) (home_below at.cap) (holds cells at.start) (key_at cells at.start)
      (value_at cells at.start) p at_p.below free k v absent
      (holds after at.start) (key_at after at.start) (value_at after at.start) held_here key_here value_here held_there key_else value_else reached
      (the_table at cells ps s))
      (filled_gives (places at.cap) (home (places at.cap)) (home_below at.cap) (holds cells at.start) (key_at cells at.start)
      (value_at cells at.start) p at_p.below free k v absent
      (holds after at.start) (key_at after at.start) (value_at after at.start) held_here key_here value_here held_there key_else value_else (value_of_key ps)
      (value_of_key (with_key ps k v)) (with_key-here ps k v) (with_key-there ps k v) (the_gives at cells ps s))
      (count_more (holds cells at.start) (holds after at.start) (places at.cap) p at_p.below free held_here held_there ∙ ap (λ n. n + 1) s.number ∙ sym number)
      (with_cell-same three at.start _ ∙ ap (λ c. c +ℤ pos 1) s.count ∙ ap pos (sym number))
      (omega (arith, number))
