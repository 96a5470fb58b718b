-- A byte that only separates tokens, as the lexer passes over it.
use Rattle.std.proofs.Common.{◌≡◌, ◌⊎◌, inl, inr, ℕ, ◌+◌, ◌<◌, true, List, [], ◌∷◌, ◌++◌, length, drop, get_or, None, ◌∙◌, sym, ap, subst, ⊎_elim, arith, add-zero, length-drop, get_or-drop, append-nil}
use Rattle.std.proofs.lemmas.Bool.{or_cases, eqb-true}
use Rattle.kernel_text.specs.declared.token.Token.{Token}
use Rattle.kernel_text.specs.Words.{is_blank}
use Rattle.kernel_text.specs.Tokens.{tokens_from, line_after, up_to_bad}
use Rattle.kernel_text.proofs.Words.Fronts.{front_blank}
use Rattle.kernel_text.proofs.Tokens.Steps.{one_word}

-- a tab, a carriage return or a space
abbrev IsBlankByte : ℕ → Type 0
IsBlankByte byte = (byte ≡ 9) ⊎ ((byte ≡ 13) ⊎ (byte ≡ 32))

blank_byte : (byte : ℕ) → is_blank (byte ∷ []) ≡ true → IsBlankByte byte
unfolding is_blank
blank_byte byte blank =
    ⊎_elim
    (λ either. ⊎_elim (λ space. inr (inr (eqb-true byte 32 space))) (λ tab. inl (eqb-true byte 9 tab)) (or_cases _ _ either))
    (λ return. inr (inl (eqb-true byte 13 return)))
    (or_cases _ _ blank)

same_line : (byte line : ℕ) → IsBlankByte byte → line_after byte line ≡ line
same_line byte line (inl is) = ap (λ b. line_after b line) is
same_line byte line (inr (inl is)) = ap (λ b. line_after b line) is
same_line byte line (inr (inr is)) = ap (λ b. line_after b line) is

-- it adds no token, and the tokens behind it are those of the file
pub blank_passed : (source : List ℕ) (place line : ℕ) (before all : List Token) → place < length source → is_blank (get_or source place 0 ∷ []) ≡ true →
    before ++ up_to_bad (tokens_from 0 place line (drop place source)) ≡ all
    → before ++ up_to_bad (tokens_from 0 (place + 1) line (drop (place + 1) source)) ≡ all
blank_passed source place line before all within blank so_far =
    let byte_is : get_or (drop place source) 0 0 ≡ get_or source place 0 = get_or-drop place source 0 0 ∙ ap (λ n. get_or source n 0) (add-zero place) in
    let byte = blank_byte (get_or source place 0) blank in
    let front = front_blank (drop place source) (omega (arith, length-drop place source)) (subst IsBlankByte (sym byte_is) byte) in
    let word = one_word source place line 1 None before all within front.kind_is front.len_is (omega arith) (omega arith) (λ k is. cc) so_far in
    ap (λ ts. ts ++ up_to_bad (tokens_from 0 (place + 1) line (drop (place + 1) source))) (sym (append-nil before))
    ∙ ap (λ l. (before ++ []) ++ up_to_bad (tokens_from 0 (place + 1) l (drop (place + 1) source))) (sym (same_line (get_or source place 0) line byte))
    ∙ word
