-- What a text begins with, by its first byte.
use Rattle.std.proofs.Common.{◌≡◌, ◌⊎◌, inl, inr, ℕ, suc, ◌+◌, ◌<◌, true, List, [], ◌∷◌, length, take, drop, get_or, Option, Some, None, unwrap_or, ◌∙◌, sym, refl, ap, subst, arith, one-add}
use Rattle.std.specs.List.{prefix_len}
use Rattle.std.specs.Char.{is_ascii_digit}
use Rattle.std.proofs.lemmas.Bool.{cond-true}
use Rattle.frame_grammar.specs.declared.token_kind.TokenKind.{TokenKind}
use Rattle.frame_grammar.specs.declared.token_kind.TokenKind.TheVariants.{Name, Number, Text, Line, Bad}
use Rattle.kernel_text.specs.Spellings.{spelling_of, symbols, reserved_words, spelled}
use Rattle.kernel_text.specs.Words.{begins_name, continues_name, stands_in_text, stays_in_line, is_name, is_number, is_text, kind_of}
use Rattle.kernel_text.specs.Tokens.{longest, front_kind, front_len}
use Rattle.kernel_text.specs.Fronts.{IsOther}
use Rattle.kernel_text.proofs.Words.Longest.{front_of_word, front_of_none}
use Rattle.kernel_text.proofs.Words.Runs.{longest_run, run_passes}
use Rattle.kernel_text.proofs.Words.FirstBytes.{kind_of-name, names, kind_of-number, numbers, kind_of-comment, comments}
use Rattle.kernel_text.proofs.Words.Others.{kind_of-space, kind_of-tab, kind_of-return, longest-space, longest-tab, longest-return, longest-line, kind_of-other, longest_pair, longest_single, longest_none}
use Rattle.kernel_text.proofs.Words.Texts.{longest_text, kind_of_text, longest_quote}

-- a text begins with a token of this kind, or with what separates tokens, of so many bytes
pub record IsFront (text : List ℕ) (kind : Option TokenKind) (len : ℕ) : Type 0 where
  pub kind_is : kind ≡ front_kind text
  pub len_is : len ≡ front_len text

front_from_word : (text : List ℕ) (n : ℕ) (kind : Option TokenKind) → longest text ≡ suc n → kind_of (take (suc n) text) ≡ kind → IsFront text kind (suc n)
front_from_word text n kind longest_is kind_is =
    let front = front_of_word text n longest_is in
    record { kind_is = sym (front.0 ∙ kind_is); len_is = sym front.1 }

front_from_none : (text : List ℕ) → longest text ≡ 0 → IsFront text (Some Bad) 1
front_from_none text longest_is =
    let front = front_of_none text longest_is in
    record { kind_is = sym front.0; len_is = sym front.1 }

pub front_name : (text : List ℕ) → 0 < length text → get_or text 0 0 < 256 → begins_name (get_or text 0 0) ≡ true
    → IsFront text (Some (unwrap_or (spelled reserved_words (take (1 + prefix_len continues_name (drop 1 text)) text)) Name))
    (1 + prefix_len continues_name (drop 1 text))
front_name [] some small begins = absurd (omega arith)
front_name (byte ∷ bytes) some small begins =
    let n = prefix_len continues_name bytes in
    rw one-add
    (front_from_word (byte ∷ bytes) n _ (longest_run continues_name byte bytes (names byte small begins))
    (kind_of-name byte (take n bytes) small begins ∙ cond-true _ _ _ (run_passes continues_name bytes)))

pub front_number : (text : List ℕ) → 0 < length text → get_or text 0 0 < 256 → is_ascii_digit (get_or text 0 0) ≡ true
    → IsFront text (Some Number) (1 + prefix_len is_ascii_digit (drop 1 text))
front_number [] some small begins = absurd (omega arith)
front_number (byte ∷ bytes) some small begins =
    let n = prefix_len is_ascii_digit bytes in
    rw one-add
    (front_from_word (byte ∷ bytes) n _ (longest_run is_ascii_digit byte bytes (numbers byte small begins))
    (kind_of-number byte (take n bytes) small begins ∙ cond-true _ _ _ (run_passes is_ascii_digit bytes)))

comment_front : (bytes : List ℕ) → IsFront (35 ∷ bytes) None (1 + prefix_len stays_in_line bytes)
comment_front bytes =
    let n = prefix_len stays_in_line bytes in
    rw one-add
    (front_from_word (35 ∷ bytes) n _ (longest_run stays_in_line 35 bytes comments) (kind_of-comment (take n bytes)))

pub front_comment : (text : List ℕ) → 0 < length text → get_or text 0 0 ≡ 35 → IsFront text None (1 + prefix_len stays_in_line (drop 1 text))
front_comment [] some begins = absurd (omega arith)
front_comment (byte ∷ bytes) some begins = subst (λ b. IsFront (b ∷ bytes) None (1 + prefix_len stays_in_line bytes)) (sym begins) (comment_front bytes)

-- a tab, a carriage return or a space
pub front_blank : (text : List ℕ) → 0 < length text → (get_or text 0 0 ≡ 9) ⊎ ((get_or text 0 0 ≡ 13) ⊎ (get_or text 0 0 ≡ 32)) → IsFront text None 1
front_blank [] some begins = absurd (omega arith)
front_blank (byte ∷ bytes) some (inl begins) = subst (λ b. IsFront (b ∷ bytes) None 1) (sym begins)
    (front_from_word (9 ∷ bytes) 0 _ (longest-tab bytes) (kind_of-tab []))
front_blank (byte ∷ bytes) some (inr (inl begins)) = subst (λ b. IsFront (b ∷ bytes) None 1) (sym begins)
    (front_from_word (13 ∷ bytes) 0 _ (longest-return bytes) (kind_of-return []))
front_blank (byte ∷ bytes) some (inr (inr begins)) = subst (λ b. IsFront (b ∷ bytes) None 1) (sym begins)
    (front_from_word (32 ∷ bytes) 0 _ (longest-space bytes) (kind_of-space []))

line_kind : kind_of (10 ∷ []) ≡ Some Line
unfolding kind_of is_name is_number is_text spelling_of symbols
line_kind = refl

pub front_line : (text : List ℕ) → 0 < length text → get_or text 0 0 ≡ 10 → IsFront text (Some Line) 1
front_line [] some begins = absurd (omega arith)
front_line (byte ∷ bytes) some begins = subst (λ b. IsFront (b ∷ bytes) (Some Line) 1) (sym begins)
    (front_from_word (10 ∷ bytes) 0 _ (longest-line bytes) line_kind)

-- a quote, and what stands behind it
quoted : (bytes : List ℕ) (n : ℕ) → n ≡ prefix_len stands_in_text bytes → 0 < n → n < length bytes → get_or bytes n 0 ≡ 34
    → IsFront (34 ∷ bytes) (Some Text) (suc (suc n))
quoted bytes n is some within quote =
    subst (λ m. IsFront (34 ∷ bytes) (Some Text) (suc (suc m))) (sym is)
    (front_from_word (34 ∷ bytes) (suc (prefix_len stands_in_text bytes)) _
    (longest_text bytes (omega arith) (omega arith) (ap (λ m. get_or bytes m 0) (sym is) ∙ quote))
    (kind_of_text bytes (omega arith) (omega arith) (ap (λ m. get_or bytes m 0) (sym is) ∙ quote)))

pub front_text : (text : List ℕ) (n : ℕ) → 0 < length text → get_or text 0 0 ≡ 34 → n ≡ prefix_len stands_in_text (drop 1 text) → 0 < n → n + 1 < length text
    → get_or text (n + 1) 0 ≡ 34 → IsFront text (Some Text) (n + 2)
front_text [] n some begins is inside within quote = absurd (omega arith)
front_text (byte ∷ bytes) n some begins is inside within quote =
    let two : n + 2 ≡ suc (suc n) = omega arith in
    let one : n + 1 ≡ suc n = omega arith in
    subst (λ m. IsFront (byte ∷ bytes) (Some Text) m) (sym two)
    (subst (λ b. IsFront (b ∷ bytes) (Some Text) (suc (suc n))) (sym begins)
    (quoted bytes n is inside (omega arith) (sym (ap (λ m. get_or (byte ∷ bytes) m 0) one) ∙ quote)))

pub front_quote : (text : List ℕ) (n : ℕ) → 0 < length text → get_or text 0 0 ≡ 34 → n ≡ prefix_len stands_in_text (drop 1 text)
    → (0 < n → n + 1 < length text → get_or text (n + 1) 0 ≡ 34 → ⊥) → IsFront text (Some Bad) 1
front_quote [] n some begins is none = absurd (omega arith)
front_quote (byte ∷ bytes) n some begins is none =
    let one : n + 1 ≡ suc n = omega arith in
    subst (λ b. IsFront (b ∷ bytes) (Some Bad) 1) (sym begins)
    (front_from_none (34 ∷ bytes)
    (longest_quote bytes
    (λ inside within quote. none (omega arith) (omega arith) (ap (λ m. get_or (byte ∷ bytes) m 0) one ∙ ap (λ m. get_or bytes m 0) is ∙ quote))))

-- the symbol of two bytes that a text begins with, if it does
pub front_pair : (text : List ℕ) (kind : TokenKind) → 1 < length text → IsOther (get_or text 0 0)
    → spelled symbols (get_or text 0 0 ∷ get_or text 1 0 ∷ []) ≡ Some kind → IsFront text (Some kind) 2
front_pair [] kind two other pair = absurd (omega arith)
front_pair (first ∷ []) kind two other pair = absurd (omega arith)
front_pair (first ∷ next ∷ more) kind two other pair =
    front_from_word (first ∷ next ∷ more) 1 _ (longest_pair first next more kind other pair) (kind_of-other first (next ∷ []) other ∙ pair)

no_pair : (first : ℕ) (others : List ℕ) → (1 < length (first ∷ others) → spelled symbols (first ∷ get_or others 0 0 ∷ []) ≡ None) → (next : ℕ) (more : List ℕ)
    → others ≡ next ∷ more → spelled symbols (first ∷ next ∷ []) ≡ None
no_pair first others none next more is =
    sym (ap (λ o. spelled symbols (first ∷ get_or o 0 0 ∷ [])) is) ∙ none (omega (arith, ap length is))

-- the symbol of one byte that it begins with, else the byte is no token
pub front_single : (text : List ℕ) (kind : Option TokenKind) → 0 < length text → IsOther (get_or text 0 0)
    → (1 < length text → spelled symbols (get_or text 0 0 ∷ get_or text 1 0 ∷ []) ≡ None) → spelled symbols (get_or text 0 0 ∷ []) ≡ kind
    → IsFront text (Some (unwrap_or kind Bad)) 1
front_single [] kind some other pair single = absurd (omega arith)
front_single (first ∷ others) None some other pair single =
    front_from_none (first ∷ others) (longest_none first others other (no_pair first others pair) single)
front_single (first ∷ others) (Some kind) some other pair single =
    front_from_word (first ∷ others) 0 _ (longest_single first others kind other (no_pair first others pair) single) (kind_of-other first [] other ∙ single)
