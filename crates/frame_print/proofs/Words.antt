-- What the words of maps and streams give, one item after another.
use Rattle.std.proofs.Common.{◌≡◌, ℕ, zero, suc, ◌+◌, ◌<◌, ◌≤◌, ℤ, pos, negsuc, List, [], ◌∷◌, ◌++◌, length, get_or, take, drop, Option, Some, None, Result, Ok, Err, refl, sym, ap, subst, ◌∙◌, arith}
use Rattle.job_base.specs.Cells.{cell_list}
use Rattle.job_base.specs.declared.Trap.{Trap}
use Rattle.frame_ast.specs.Contents.{items_of, place_in, then_value}
use Rattle.frame_ast.specs.Texts.{numbers_text, entry_text}
use Rattle.native_array.specs.declared.array.ArrayAt.{ArrayAt}
use Rattle.native_list.specs.declared.ListAt.{ListAt}
use Rattle.native_list.specs.Layout.{HoldsItems}
use Rattle.native_list.specs.Words.{array_words}
use Rattle.native_list.proofs.Standing.{length_is}
use Rattle.native_map.specs.declared.MapAt.{MapAt}
use Rattle.native_map.specs.Layout.{HoldsPairs}
use Rattle.native_map.specs.Words.{count_words, next_words}
use Rattle.native_map.specs.Effects.{first_above}
use Rattle.native_map.proofs.Effects.{count_law}
use Rattle.native_map.proofs.Nearest.{next_law}
use Rattle.native_map.proofs.InOrder.{key_before, next_at}
use Rattle.native_stream.specs.declared.StreamAt.{StreamAt}
use Rattle.native_stream.specs.Layout.{HoldsEntry, HoldsEntries, mark_word}
use Rattle.native_stream.specs.Words.{number_of, item_count, items_words}
use Rattle.native_stream.proofs.Standing.{count_is}
use Rattle.frame_print.proofs.Listing.{drop_next, drop_all}

-- ---- maps

dropped : {A : Type 0} (xs : List A) (i : ℕ) (e : A) → i < length xs → take (suc i) xs ≡ take i xs ++ e ∷ [] → drop i xs ≡ e ∷ drop (suc i) xs
dropped [] i e h t = absurd (omega arith)
dropped (x ∷ xs) zero e h t = let same : x ≡ e = cc in ap (λ z. z ∷ xs) same
dropped (x ∷ xs) (suc i) e h t = let rest : take (suc i) xs ≡ take i xs ++ e ∷ [] = cc in dropped xs i e (omega arith) rest

-- what is found is the pair at a place of the pairs in order
pub record IsPairAt (ps : List (ℤ × ℤ)) (i : ℕ) (found : Option (ℤ × ℤ)) : Type 0 where
  pub pair : ℤ × ℤ
  pub is : found ≡ Some pair
  pub left : drop i ps ≡ pair ∷ drop (i + 1) ps
  pub key : key_before ps (i + 1) ≡ Some pair.0

-- The pair at a place is found behind the key before it.
pub pair_at : (at : MapAt) (cells now : ℕ → ℤ) (ps : List (ℤ × ℤ)) (i : ℕ) (last : Option ℤ) (found : Option (ℤ × ℤ))
    → HoldsPairs at cells ps → i < count_words at cells → last ≡ key_before ps i → now ≡ cells → found ≡ next_words at now last → IsPairAt ps i found
pair_at at cells now ps i last found s h e same f =
    let count = count_law at cells ps s in
    let n = next_at ps i s.rising (omega (arith, count)) in
    let next : suc i ≡ i + 1 = omega arith in
    record {
      pair = n.0;
      is = f ∙ ap (λ c. next_words at c last) same ∙ next_law at cells ps s last ∙ ap (λ k. first_above k ps) e ∙ n.1;
      left = dropped ps i n.0 (omega (arith, count)) n.2 ∙ ap (λ j. n.0 ∷ drop j ps) next;
      key = subst (λ j. key_before ps j ≡ Some n.0.0) next n.3;
    }

pub pair_left : (ps : List (ℤ × ℤ)) (i : ℕ) (found : Option (ℤ × ℤ)) (pair : ℤ × ℤ) → IsPairAt ps i found → found ≡ Some pair
    → drop i ps ≡ pair ∷ drop (i + 1) ps
pair_left ps i found pair p e = let is = p.is in let same : p.pair ≡ pair = cc in p.left ∙ ap (λ z. z ∷ drop (i + 1) ps) same

pub pair_key : (ps : List (ℤ × ℤ)) (i : ℕ) (found : Option (ℤ × ℤ)) (pair : ℤ × ℤ) → IsPairAt ps i found → found ≡ Some pair
    → Some pair.0 ≡ key_before ps (i + 1)
pair_key ps i found pair p e = let is = p.is in let same : p.pair ≡ pair = cc in sym (p.key ∙ ap (λ z. Some z.0) same)

pub pairs_end : (at : MapAt) (cells : ℕ → ℤ) (ps : List (ℤ × ℤ)) (i : ℕ) → HoldsPairs at cells ps → count_words at cells ≤ i → drop i ps ≡ []
pairs_end at cells ps i s h = let same = count_law at cells ps s in drop_all ps i (omega (arith, same))

-- ---- streams

-- the items that an index has in its words
abbrev pub items_at : StreamAt → (ℕ → ℤ) → ℕ → List ℤ
items_at at cells k = cell_list cells (mark_word at k + 1) (item_count at cells k)

items_are : (at : StreamAt) (cells : ℕ → ℤ) (k : ℕ) (e : Option (List ℤ)) → HoldsEntry at cells k e → items_at at cells k ≡ items_of e
items_are at cells k e s = ap (cell_list cells (mark_word at k + 1)) (count_is at cells k e s) ∙ s.items

pub entry_is : (at : StreamAt) (cells now : ℕ → ℤ) (es : List (Option (List ℤ))) (k : ℕ) → HoldsEntries at cells es → k < at.count → now ≡ cells
    → numbers_text (items_at at now k) ≡ entry_text (get_or es k None)
entry_is at cells now es k s h same =
    ap (λ c. numbers_text (items_at at c k)) same ∙ ap numbers_text (items_are at cells k (get_or es k None) (s.each k h))

pub entry_next : (at : StreamAt) (cells : ℕ → ℤ) (es : List (Option (List ℤ))) (k : ℕ) → HoldsEntries at cells es → k < at.count
    → drop k es ≡ get_or es k None ∷ drop (k + 1) es
entry_next at cells es k s h = let same = s.number in drop_next es k None (get_or es k None) (omega (arith, same)) refl

pub entries_end : (at : StreamAt) (cells : ℕ → ℤ) (es : List (Option (List ℤ))) (k : ℕ) → HoldsEntries at cells es → at.count ≤ k → drop k es ≡ []
entries_end at cells es k s h = let same = s.number in drop_all es k (omega (arith, same))

number_within : (room : ℕ) (mark : ℤ) → number_of room mark ≤ room
number_within room (pos n) = omega arith
number_within room (negsuc n) = omega arith

within : (at : StreamAt) (cells : ℕ → ℤ) (place : Result ℕ Trap) (n : ℕ) → then_value place (λ j. Ok (item_count at cells j)) ≡ Ok n → n ≤ at.room
within at cells (Ok j) n e =
    let same : item_count at cells j ≡ n = cc in
    subst (λ m. m ≤ at.room) same (number_within at.room (cells (mark_word at j)))
within at cells (Err t) n e = cc

-- an index has at most as many items as there is room for
pub items_within : (at : StreamAt) (cells : ℕ → ℤ) (i : ℤ) (n : ℕ) (r : Result ℕ Trap) → r ≡ items_words at cells i → r ≡ Ok n → n ≤ at.room
items_within at cells i n r e f = within at cells (place_in at.count i) n (sym e ∙ f)

-- ---- lists

-- the cells of the array of a list's elements are its elements
pub list_is : (at : ListAt) (cells now : ℕ → ℤ) (xs : List ℤ) (array : ArrayAt) → HoldsItems at cells xs → array ≡ array_words at cells → now ≡ cells
    → numbers_text (cell_list now array.start array.len) ≡ numbers_text xs
list_is at cells now xs array s e same =
    ap (λ c. numbers_text (cell_list c array.start array.len)) same
    ∙ ap (λ (a : ArrayAt). numbers_text (cell_list cells a.start a.len)) e
    ∙ ap (λ n. numbers_text (cell_list cells (at.start + 1) n)) (length_is at cells xs s)
    ∙ ap numbers_text s.elements
