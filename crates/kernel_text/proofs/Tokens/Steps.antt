-- The tokens from a place on: what a word adds to them, and what is left behind it.
use Rattle.std.proofs.Common.{◌≡◌, ℕ, zero, suc, ◌+◌, ◌-◌, ◌<◌, ◌≤◌, ◌==◌, true, false, List, [], ◌∷◌, ◌++◌, length, drop, get_or, Option, Some, ◌∙◌, sym, refl, ap, arith, add-zero, zero-add, append_assoc, drop-drop, length-drop, get_or-drop}
use Rattle.std.proofs.lemmas.Grind.{common_steps}
use Rattle.std.proofs.lemmas.Bool.{cond_both}
use Rattle.frame_grammar.specs.declared.token_kind.TokenKind.{TokenKind}
use Rattle.kernel_text.specs.declared.token.Token.{Token}
use Rattle.kernel_text.specs.Tokens.{front_len, front_kind, token_at, line_after, tokens_from, mark_len, tokens_of, is_bad, end_at, up_to_bad}
use Rattle.kernel_text.proofs.Tokens.Cuts.{cut_behind_word, cut_at_word, cut_end}

-- the bytes of a word that began before them are passed over
pub tokens_from-skip : (n place line : ℕ) (bytes : List ℕ) → n ≤ length bytes → tokens_from n place line bytes ≡ tokens_from 0 (place + n) line (drop n bytes)
unfolding tokens_from
tokens_from-skip zero place line bytes within = ap (λ p. tokens_from 0 p line bytes) (sym (add-zero place))
tokens_from-skip (suc n) place line [] within = absurd (omega arith)
tokens_from-skip (suc n) place line (byte ∷ bytes) within =
    let moved : place + 1 + n ≡ place + suc n = omega arith in
    tokens_from-skip n (place + 1) line bytes (omega arith) ∙ ap (λ p. tokens_from 0 p line (drop n bytes)) moved

drop-front : (n : ℕ) (byte : ℕ) (bytes : List ℕ) → 0 < n → drop (n - 1) bytes ≡ drop n (byte ∷ bytes)
drop-front zero byte bytes some = absurd (omega arith)
drop-front (suc n) byte bytes some = let less : suc n - 1 ≡ n = omega arith in ap (λ m. drop m bytes) less

-- the word at the front, and the tokens behind it
pub tokens_from-front : (place line : ℕ) (bytes : List ℕ) → 0 < length bytes → 0 < front_len bytes → front_len bytes ≤ length bytes →
    tokens_from 0 place line bytes ≡ token_at (front_kind bytes) place (place + front_len bytes) line
    ++ tokens_from 0 (place + front_len bytes) (line_after (get_or bytes 0 0) line) (drop (front_len bytes) bytes)
unfolding tokens_from
tokens_from-front place line [] some moves within = absurd (omega arith)
tokens_from-front place line (byte ∷ bytes) some moves within =
    let n = front_len (byte ∷ bytes) in
    let place_is : place + 1 + (n - 1) ≡ place + n = omega arith in
    ap (λ ts. token_at (front_kind (byte ∷ bytes)) place (place + n) line ++ ts)
    (tokens_from-skip (n - 1) (place + 1) (line_after byte line) bytes (omega arith)
    ∙ (λ i. tokens_from 0 (place_is i) (line_after byte line) (drop-front n byte bytes moves i)))

-- the word at this place, and the tokens behind it
word_at : (source : List ℕ) (place line len : ℕ) (kind : Option TokenKind) → place < length source →
    kind ≡ front_kind (drop place source) → len ≡ front_len (drop place source) → 0 < len → place + len ≤ length source →
    tokens_from 0 place line (drop place source) ≡ token_at kind place (place + len) line
    ++ tokens_from 0 (place + len) (line_after (get_or source place 0) line) (drop (place + len) source)
word_at source place line len kind within kind_is len_is some room =
    let rest = drop place source in
    let length_rest = length-drop place source in
    let front = tokens_from-front place line rest (omega arith) (omega arith) (omega arith) in
    let byte_is : get_or rest 0 0 ≡ get_or source place 0 = get_or-drop place source 0 0 ∙ ap (λ n. get_or source n 0) (add-zero place) in
    let left : drop (place + len) source ≡ drop (front_len rest) rest = sym (drop-drop len place source) ∙ ap (λ n. drop n rest) len_is in
    front ∙ sym (λ i. token_at (kind_is i) place (place + len_is i) line ++ tokens_from 0 (place + len_is i) (line_after (sym byte_is i) line) (left i))

-- the token of the word at this place, if it is one other than Bad, joins those before it
pub one_word : (source : List ℕ) (place line len : ℕ) (kind : Option TokenKind) (before all : List Token) → place < length source →
    kind ≡ front_kind (drop place source) → len ≡ front_len (drop place source) → 0 < len → place + len ≤ length source →
    ((k : TokenKind) → kind ≡ Some k → is_bad k ≡ false) → before ++ up_to_bad (tokens_from 0 place line (drop place source)) ≡ all →
    (before ++ token_at kind place (place + len) line) ++ up_to_bad (tokens_from 0 (place + len) (line_after (get_or source place 0) line)
    (drop (place + len) source)) ≡ all
one_word source place line len kind before all within kind_is len_is some room fine so_far =
    append_assoc before _ _
    ∙ ap (λ ts. before ++ ts)
    (sym (cut_behind_word kind place (place + len) line _ fine) ∙ ap up_to_bad (sym (word_at source place line len kind within kind_is len_is some room)))
    ∙ so_far

-- the end is the last token
pub tokens_from-end : (place line : ℕ) → up_to_bad (tokens_from 0 place line []) ≡ end_at place line ∷ []
unfolding tokens_from
tokens_from-end place line = cut_end place line

pub tokens_of-start : (source : List ℕ) → mark_len source ≤ length source → tokens_from 0 (mark_len source) 1 (drop (mark_len source) source) ≡ tokens_of source
unfolding tokens_of
tokens_of-start source within = sym (tokens_from-skip (mark_len source) 0 1 source within
    ∙ ap (λ p. tokens_from 0 p 1 (drop (mark_len source) source)) (zero-add (mark_len source)))

pub mark_len-le : (source : List ℕ) → mark_len source ≤ length source
mark_len-le source = grind (arith, common_steps)

-- one turn of the lexer, as its loop has it
pub turn : (source : List ℕ) (place line end : ℕ) (kind : Option TokenKind) (before after all : List Token) → place < length source →
    kind ≡ front_kind (drop place source) → end ≡ place + front_len (drop place source) → place < end → end ≤ length source →
    ((k : TokenKind) → kind ≡ Some k → is_bad k ≡ false) → after ≡ before ++ token_at kind place end line
    → before ++ up_to_bad (tokens_from 0 place line (drop place source)) ≡ all →
    after ++ up_to_bad (tokens_from 0 end (line_after (get_or source place 0) line) (drop end source)) ≡ all
turn source place line end kind before after all within kind_is end_is some room fine after_is so_far =
    (λ i. after_is i ++ up_to_bad (tokens_from 0 end (line_after (get_or source place 0) line) (drop end source)))
    ∙ (λ i. (before ++ token_at kind place (end_is i) line) ++ up_to_bad (tokens_from 0 (end_is i) (line_after (get_or source place 0) line)
    (drop (end_is i) source)))
    ∙ one_word source place line (front_len (drop place source)) kind before all within kind_is refl (omega (arith, end_is)) (omega (arith, end_is)) fine so_far

-- its last turn, at a Bad token
pub last_turn : (source : List ℕ) (place line end : ℕ) (kind : TokenKind) (before after all : List Token) → place < length source →
    Some kind ≡ front_kind (drop place source) → end ≡ place + front_len (drop place source) → place < end → end ≤ length source →
    is_bad kind ≡ true → after ≡ before ++ token_at (Some kind) place end line → before ++ up_to_bad (tokens_from 0 place line (drop place source)) ≡ all →
    after ++ end_at end line ∷ [] ≡ all
last_turn source place line end kind before after all within kind_is end_is some room bad after_is so_far =
    let len = front_len (drop place source) in
    ap (λ ts. ts ++ end_at end line ∷ []) after_is
    ∙ (λ i. (before ++ token_at (Some kind) place (end_is i) line) ++ end_at (end_is i) line ∷ []) ∙ append_assoc before _ _
    ∙ ap (λ ts. before ++ ts)
    (sym (cut_at_word kind place (place + len) line _ bad)
    ∙ ap up_to_bad (sym (word_at source place line len (Some kind) within kind_is refl (omega (arith, end_is)) (omega (arith, end_is)))))
    ∙ so_far

pub line_after-le : (byte line : ℕ) → line_after byte line ≤ line + 1
line_after-le byte line = cond_both (byte == 10) (line + 1) line (λ next. next ≤ line + 1) (λ _. omega arith) (λ _. omega arith)

pub line_after-ge : (byte line : ℕ) → line ≤ line_after byte line
line_after-ge byte line = cond_both (byte == 10) (line + 1) line (λ next. line ≤ next) (λ _. omega arith) (λ _. omega arith)
