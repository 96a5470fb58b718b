-- Looking for a reserved word among those with its first byte is enough, and none has one byte.
use Rattle.std.proofs.Common.{◌≡◌, ◌≤◌, ℕ, true, false, true≢false, cond, List, [], ◌∷◌, length, get_or, filter, Some, None, ◌∙◌, sym, refl, ap, ⊎_elim, arith}
use Rattle.std.specs.Prelude.{nat_le}
use Rattle.std.specs.Cmp.Derive.{both_true}
use Rattle.std.specs.List.{list_all}
use Rattle.std.specs.Str.{bytes_eq}
use Rattle.std.proofs.lemmas.Bool.{cases_Bool, cond-true, cond-false, eq-eqb, and_parts, leb-true}
use Rattle.std.proofs.lemmas.Slice.Eq.{bytes_eq-Decides}
use Rattle.frame_grammar.specs.declared.token_kind.TokenKind.{TokenKind}
use Rattle.frame_grammar.specs.declared.token_kind.TokenKind.TheVariants.{Index}
use Rattle.kernel_text.specs.Spellings.{spelling_of, spelled, reserved_words, is_shaped}

-- a word that is spelled so has the spelling's length and first byte
shape_of_spelling : (kind : TokenKind) (word : List ℕ) → bytes_eq (spelling_of kind) word ≡ true
    → is_shaped (length word) (get_or word 0 0) kind ≡ true
shape_of_spelling kind word same =
    let equal = (bytes_eq-Decides (spelling_of kind) word).0 same in
    both_true (eq-eqb _ _ (ap length equal)) (eq-eqb _ _ (ap (λ bytes. get_or bytes 0 0) equal))

pub spelled-filter : (kinds : List TokenKind) (word : List ℕ)
    → spelled (filter (is_shaped (length word) (get_or word 0 0)) kinds) word ≡ spelled kinds word
spelled-filter [] word = refl
spelled-filter (kind ∷ kinds) word =
    ⊎_elim
    (λ shaped.
    ap (λ ks. spelled ks word) (cond-true _ _ _ shaped) ∙ ap (λ o. cond (bytes_eq (spelling_of kind) word) (Some kind) o) (spelled-filter kinds word))
    (λ other.
    ap (λ ks. spelled ks word) (cond-false _ _ _ other) ∙ spelled-filter kinds word
    ∙ ⊎_elim
    (λ same. absurd (true≢false (sym (shape_of_spelling kind word same) ∙ other)))
    (λ differs. sym (cond-false _ _ _ differs))
    (cases_Bool (bytes_eq (spelling_of kind) word)))
    (cases_Bool (is_shaped (length word) (get_or word 0 0) kind))

-- texts whose lengths differ are not the same
differs_in_length : (spelling word : List ℕ) → 2 ≤ length spelling → length word ≡ 1 → bytes_eq spelling word ≡ false
differs_in_length spelling word more one =
    ⊎_elim
    (λ same. let equal : length spelling ≡ length word = ap length ((bytes_eq-Decides spelling word).0 same) in absurd (omega arith))
    (λ differs. differs)
    (cases_Bool (bytes_eq spelling word))

longer_not_spelled : (kinds : List TokenKind) (word : List ℕ) → length word ≡ 1 → list_all (λ kind. nat_le 2 (length (spelling_of kind))) kinds ≡ true
    → spelled kinds word ≡ None
longer_not_spelled [] word one longer = refl
longer_not_spelled (kind ∷ kinds) word one longer =
    let parts = and_parts _ _ longer in
    cond-false _ _ _ (differs_in_length (spelling_of kind) word (leb-true _ _ parts.0) one) ∙ longer_not_spelled kinds word one parts.1

-- no reserved word has one byte
pub one_byte : (word : List ℕ) → length word ≡ 1 → spelled reserved_words word ≡ None
unfolding spelling_of reserved_words
one_byte word one = longer_not_spelled reserved_words word one refl

-- the first of the reserved words
pub index_is : (word : List ℕ) → bytes_eq (spelling_of Index) word ≡ true → spelled reserved_words word ≡ Some Index
unfolding reserved_words
index_is word same = cond-true _ _ _ same
