-- Which bytes are one word, by the first of them.
use Rattle.std.proofs.Common.{◌≡◌, ℕ, ◌<◌, ◌==◌, ◌||◌, ◌&&◌, not, Bool, true, false, cond, List, ◌∷◌, Some, None, is_some, unwrap_or, ◌∙◌, sym, refl, ap}
use Rattle.std.specs.List.{list_all}
use Rattle.std.specs.Char.{is_ascii_digit}
use Rattle.std.proofs.lemmas.Bool.{cond-false, and_parts, or_from, not-true, agree_below_at}
use Rattle.frame_grammar.specs.declared.token_kind.TokenKind.{TokenKind}
use Rattle.frame_grammar.specs.declared.token_kind.TokenKind.TheVariants.{Name, Number, Text, Line}
use Rattle.kernel_text.specs.Spellings.{spelling_of, symbols, reserved_words, spelled, is_first_of}
use Rattle.kernel_text.specs.Words.{begins_name, continues_name, stays_in_line, is_name, is_number, is_text, is_blank, is_comment, kind_of, is_word}
use Rattle.kernel_text.proofs.Words.Longest.{is_blank_byte, not_blank, not_comment, not_name, not_number, not_text, not_spelled}

-- no symbol and no line feed begins with this byte
abbrev begins_no_symbol : ℕ → Bool
begins_no_symbol byte = list_all (λ kind. not (is_first_of byte kind)) (Line ∷ symbols)

abbrev separates_nothing : ℕ → Bool
separates_nothing byte = not (is_blank_byte byte) && not (byte == 35)

-- what a byte that begins a name doesn't begin
abbrev begins_name_alone : ℕ → Bool
begins_name_alone byte = (separates_nothing byte && not (is_ascii_digit byte)) && (not (byte == 34) && begins_no_symbol byte)

abbrev begins_number_alone : ℕ → Bool
begins_number_alone byte = (separates_nothing byte && not (begins_name byte)) && (not (byte == 34) && begins_no_symbol byte)

names_apart : (byte : ℕ) → byte < 256 → begins_name byte ≡ true → begins_name_alone byte ≡ true
unfolding spelling_of symbols
names_apart byte small begins =
    (and_parts _ _ (sym (agree_below_at begins_name (λ b. begins_name b && begins_name_alone b) 256 byte refl small) ∙ begins)).1

numbers_apart : (byte : ℕ) → byte < 256 → is_ascii_digit byte ≡ true → begins_number_alone byte ≡ true
unfolding spelling_of symbols
numbers_apart byte small begins =
    (and_parts _ _ (sym (agree_below_at is_ascii_digit (λ b. is_ascii_digit b && begins_number_alone b) 256 byte refl small) ∙ begins)).1

is_some-cond : (b : Bool) (kind : TokenKind) → is_some (cond b (Some kind) None) ≡ b
is_some-cond true kind = refl
is_some-cond false kind = refl

-- with this first byte, the words are the names
pub kind_of-name : (byte : ℕ) (others : List ℕ) → byte < 256 → begins_name byte ≡ true
    → kind_of (byte ∷ others) ≡ cond (list_all continues_name others) (Some (unwrap_or (spelled reserved_words (byte ∷ others)) Name)) None
unfolding kind_of is_name
kind_of-name byte others small begins =
    let apart = and_parts _ _ (names_apart byte small begins) in
    let fore = and_parts _ _ apart.0 in
    let back = and_parts _ _ apart.1 in
    let named : is_name (byte ∷ others) ≡ list_all continues_name others = ap (λ b. b && list_all continues_name others) begins in
    let none = cond-false _ (Some Number) _ (not_number byte others (not-true _ fore.1)) ∙ cond-false _ (Some Text) _ (not_text byte others (not-true _ back.0))
    ∙ not_spelled (Line ∷ symbols) byte others back.1 in
    (λ i. cond (named i) (Some (unwrap_or (spelled reserved_words (byte ∷ others)) Name)) (none i))

pub names : (byte : ℕ) → byte < 256 → begins_name byte ≡ true → (others : List ℕ) → is_word (byte ∷ others) ≡ list_all continues_name others
names byte small begins others =
    let apart = and_parts _ _ ((and_parts _ _ ((and_parts _ _ (names_apart byte small begins)).0)).0) in
    let separates : (is_blank (byte ∷ others) || is_comment (byte ∷ others)) ≡ false =
    or_from _ _ (not_blank byte others (not-true _ apart.0)) (not_comment byte others (not-true _ apart.1)) in
    (λ i. separates i || is_some (kind_of-name byte others small begins i)) ∙ is_some-cond _ _

-- with this first byte, the words are the numbers
pub kind_of-number : (byte : ℕ) (others : List ℕ) → byte < 256 → is_ascii_digit byte ≡ true
    → kind_of (byte ∷ others) ≡ cond (list_all is_ascii_digit others) (Some Number) None
unfolding kind_of is_number
kind_of-number byte others small begins =
    let apart = and_parts _ _ (numbers_apart byte small begins) in
    let fore = and_parts _ _ apart.0 in
    let back = and_parts _ _ apart.1 in
    let numbered : is_number (byte ∷ others) ≡ list_all is_ascii_digit others = ap (λ b. b && list_all is_ascii_digit others) begins in
    let none = cond-false _ (Some Text) _ (not_text byte others (not-true _ back.0)) ∙ not_spelled (Line ∷ symbols) byte others back.1 in
    cond-false _ _ _ (not_name byte others (not-true _ fore.1)) ∙ (λ i. cond (numbered i) (Some Number) (none i))

pub numbers : (byte : ℕ) → byte < 256 → is_ascii_digit byte ≡ true → (others : List ℕ) → is_word (byte ∷ others) ≡ list_all is_ascii_digit others
numbers byte small begins others =
    let apart = and_parts _ _ ((and_parts _ _ ((and_parts _ _ (numbers_apart byte small begins)).0)).0) in
    let separates : (is_blank (byte ∷ others) || is_comment (byte ∷ others)) ≡ false =
    or_from _ _ (not_blank byte others (not-true _ apart.0)) (not_comment byte others (not-true _ apart.1)) in
    (λ i. separates i || is_some (kind_of-number byte others small begins i)) ∙ is_some-cond _ _

-- with # as first byte, the words are the comments
pub kind_of-comment : (others : List ℕ) → kind_of (35 ∷ others) ≡ None
unfolding kind_of spelling_of symbols
kind_of-comment others =
    cond-false _ _ _ (not_name 35 others refl) ∙ cond-false _ _ _ (not_number 35 others refl) ∙ cond-false _ _ _ (not_text 35 others refl)
    ∙ not_spelled (Line ∷ symbols) 35 others refl

or-false : (b : Bool) → (b || false) ≡ b
or-false true = refl
or-false false = refl

pub comments : (others : List ℕ) → is_word (35 ∷ others) ≡ list_all stays_in_line others
unfolding is_comment
comments others =
    (λ i. (not_blank 35 others refl i || is_comment (35 ∷ others)) || is_some (kind_of-comment others i)) ∙ or-false _

-- with a quote as first byte, the words are the texts
pub kind_of-text : (others : List ℕ) → kind_of (34 ∷ others) ≡ cond (is_text (34 ∷ others)) (Some Text) None
unfolding kind_of spelling_of symbols
kind_of-text others =
    cond-false _ _ _ (not_name 34 others refl) ∙ cond-false _ _ _ (not_number 34 others refl)
    ∙ ap (λ o. cond (is_text (34 ∷ others)) (Some Text) o) (not_spelled (Line ∷ symbols) 34 others refl)

pub texts : (others : List ℕ) → is_word (34 ∷ others) ≡ is_text (34 ∷ others)
texts others =
    (λ i. (not_blank 34 others refl i || not_comment 34 others refl i) || is_some (kind_of-text others i)) ∙ is_some-cond _ _
