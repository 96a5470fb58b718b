-- The longest word where the first byte is blank, ends a line, or begins at most a symbol.
use Rattle.std.proofs.Common.{◌≡◌, ℕ, zero, suc, ◌<◌, ◌≤◌, ◌==◌, ◌||◌, true, false, List, [], ◌∷◌, length, take, Some, None, is_some, ◌∙◌, sym, refl, ap, arith}
use Rattle.std.specs.List.{list_all}
use Rattle.std.specs.Prelude.{nat_le}
use Rattle.std.specs.Str.{bytes_eq}
use Rattle.std.specs.Char.{is_ascii_digit}
use Rattle.std.proofs.lemmas.Bool.{cond-false, and_left, and_right, and_parts, or_from, leb-true, ne_eqb}
use Rattle.frame_grammar.specs.declared.token_kind.TokenKind.{TokenKind}
use Rattle.frame_grammar.specs.declared.token_kind.TokenKind.TheVariants.{Line}
use Rattle.kernel_text.specs.Spellings.{spelling_of, symbols, spelled}
use Rattle.kernel_text.specs.Words.{begins_name, is_name, is_number, is_text, is_blank, is_comment, kind_of, is_word}
use Rattle.kernel_text.specs.Tokens.{longest}
use Rattle.kernel_text.specs.Fronts.{IsOther}
use Rattle.kernel_text.proofs.Words.Longest.{longest_up_to_is, not_blank, not_comment, not_name, not_number, not_text, not_spelled}

-- where the first byte is a word and no longer front is one
pub longest_one : (first : ℕ) (others : List ℕ) → is_word (first ∷ []) ≡ true → ((next : ℕ) (more : List ℕ) → is_word (first ∷ next ∷ more) ≡ false)
    → longest (first ∷ others) ≡ 1
longest_one first others word longer =
    longest_up_to_is (length (first ∷ others)) (first ∷ others) 1 (omega arith) (λ _. word) (fails others)
  where
    fails : (others : List ℕ) (m : ℕ) → 1 < m → m ≤ length (first ∷ others) → is_word (take m (first ∷ others)) ≡ false
    fails others zero above within = absurd (omega arith)
    fails others (suc zero) above within = absurd (omega arith)
    fails [] (suc (suc m)) above within = absurd (omega arith)
    fails (next ∷ others) (suc (suc m)) above within = longer next (take m others)

-- a byte that is blank stands alone
blank_kind : (byte : ℕ) (others : List ℕ) → begins_name byte ≡ false → is_ascii_digit byte ≡ false → (byte == 34) ≡ false
    → spelled (Line ∷ symbols) (byte ∷ others) ≡ None → kind_of (byte ∷ others) ≡ None
unfolding kind_of
blank_kind byte others no_name no_digit no_quote no_symbol =
    cond-false _ _ _ (not_name byte others no_name) ∙ cond-false _ _ _ (not_number byte others no_digit) ∙ cond-false _ _ _ (not_text byte others no_quote)
    ∙ no_symbol

pub kind_of-space : (others : List ℕ) → kind_of (32 ∷ others) ≡ None
unfolding spelling_of symbols
kind_of-space others = blank_kind 32 others refl refl refl (not_spelled (Line ∷ symbols) 32 others refl)

pub kind_of-tab : (others : List ℕ) → kind_of (9 ∷ others) ≡ None
unfolding spelling_of symbols
kind_of-tab others = blank_kind 9 others refl refl refl (not_spelled (Line ∷ symbols) 9 others refl)

pub kind_of-return : (others : List ℕ) → kind_of (13 ∷ others) ≡ None
unfolding spelling_of symbols
kind_of-return others = blank_kind 13 others refl refl refl (not_spelled (Line ∷ symbols) 13 others refl)

no_longer_blank : (byte next : ℕ) (more : List ℕ) → (byte == 35) ≡ false → kind_of (byte ∷ next ∷ more) ≡ None → is_word (byte ∷ next ∷ more) ≡ false
unfolding is_blank
no_longer_blank byte next more no_comment no_kind =
    or_from _ _ (or_from _ _ refl (not_comment byte (next ∷ more) no_comment)) (ap is_some no_kind)

pub longest-space : (others : List ℕ) → longest (32 ∷ others) ≡ 1
unfolding is_blank
longest-space others = longest_one 32 others refl (λ next more. no_longer_blank 32 next more refl (kind_of-space (next ∷ more)))

pub longest-tab : (others : List ℕ) → longest (9 ∷ others) ≡ 1
unfolding is_blank
longest-tab others = longest_one 9 others refl (λ next more. no_longer_blank 9 next more refl (kind_of-tab (next ∷ more)))

pub longest-return : (others : List ℕ) → longest (13 ∷ others) ≡ 1
unfolding is_blank
longest-return others = longest_one 13 others refl (λ next more. no_longer_blank 13 next more refl (kind_of-return (next ∷ more)))

-- a line feed stands alone
kind_of-line_more : (next : ℕ) (more : List ℕ) → kind_of (10 ∷ next ∷ more) ≡ None
unfolding kind_of spelling_of symbols
kind_of-line_more next more =
    cond-false _ _ _ (not_name 10 (next ∷ more) refl) ∙ cond-false _ _ _ (not_number 10 (next ∷ more) refl) ∙ cond-false _ _ _ (not_text 10 (next ∷ more) refl)
    ∙ not_spelled symbols 10 (next ∷ more) refl

pub longest-line : (others : List ℕ) → longest (10 ∷ others) ≡ 1
unfolding is_blank is_comment kind_of is_name is_number is_text spelling_of symbols
longest-line others = longest_one 10 others refl (λ next more. no_longer_blank 10 next more refl (kind_of-line_more next more))

-- a byte that begins at most a symbol
pub kind_of-other : (byte : ℕ) (others : List ℕ) → IsOther byte → kind_of (byte ∷ others) ≡ spelled symbols (byte ∷ others)
unfolding kind_of spelling_of
kind_of-other byte others other =
    cond-false _ _ _ (not_name byte others other.no_name) ∙ cond-false _ _ _ (not_number byte others other.no_digit)
    ∙ cond-false _ _ _ (not_text byte others (ne_eqb byte 34 other.no_quote))
    ∙ cond-false _ _ _ (and_left _ _ (ne_eqb 10 byte (λ same. other.no_line (sym same))))

others_are : (byte : ℕ) → IsOther byte → (others : List ℕ) → is_word (byte ∷ others) ≡ is_some (spelled symbols (byte ∷ others))
others_are byte other others =
    let separates : (is_blank (byte ∷ others) || is_comment (byte ∷ others)) ≡ false =
    or_from _ _ (not_blank byte others (or_from _ _ (or_from _ _ (ne_eqb byte 32 other.no_space) (ne_eqb byte 9 other.no_tab))
    (ne_eqb byte 13 other.no_return))) (not_comment byte others (ne_eqb byte 35 other.no_comment)) in
    (λ i. separates i || is_some (kind_of-other byte others other i))

short_differs : (spelling : List ℕ) (first second third : ℕ) (more : List ℕ) → length spelling ≤ 2 → bytes_eq spelling (first ∷ second ∷ third ∷ more) ≡ false
short_differs [] first second third more short = refl
short_differs (a ∷ []) first second third more short = and_right _ _ refl
short_differs (a ∷ b ∷ []) first second third more short = and_right _ _ (and_right _ _ refl)
short_differs (a ∷ b ∷ c ∷ spelling) first second third more short = absurd (omega arith)

long_not_spelled : (kinds : List TokenKind) (first second third : ℕ) (more : List ℕ) → list_all (λ kind. nat_le (length (spelling_of kind)) 2) kinds ≡ true
    → spelled kinds (first ∷ second ∷ third ∷ more) ≡ None
long_not_spelled [] first second third more short = refl
long_not_spelled (kind ∷ kinds) first second third more short =
    let parts = and_parts _ _ short in
    cond-false _ _ _ (short_differs (spelling_of kind) first second third more (leb-true _ _ parts.0)) ∙ long_not_spelled kinds first second third more parts.1

-- no symbol has three bytes
no_long_symbol : (first second third : ℕ) (more : List ℕ) → spelled symbols (first ∷ second ∷ third ∷ more) ≡ None
unfolding spelling_of symbols
no_long_symbol first second third more = long_not_spelled symbols first second third more refl

other_fails : (first : ℕ) (others : List ℕ) (n : ℕ) → IsOther first → (n ≡ 0 → spelled symbols (first ∷ []) ≡ None)
    → ((next : ℕ) (more : List ℕ) → others ≡ next ∷ more → n ≤ 1 → spelled symbols (first ∷ next ∷ []) ≡ None) → (m : ℕ) → n < m → m ≤ length (first ∷ others)
    → is_word (take m (first ∷ others)) ≡ false
other_fails first others n other single pair zero above within = absurd (omega arith)
other_fails first others n other single pair (suc zero) above within = others_are first other [] ∙ ap is_some (single (omega arith))
other_fails first [] n other single pair (suc (suc m)) above within = absurd (omega arith)
other_fails first (next ∷ more) n other single pair (suc (suc zero)) above within = others_are first other (next ∷ [])
    ∙ ap is_some (pair next more refl (omega arith))
other_fails first (next ∷ []) n other single pair (suc (suc (suc m))) above within = absurd (omega arith)
other_fails first (next ∷ third ∷ more) n other single pair (suc (suc (suc m))) above within = others_are first other (next ∷ third ∷ take m more)
    ∙ ap is_some (no_long_symbol first next third (take m more))

-- a symbol of two bytes
pub longest_pair : (first next : ℕ) (more : List ℕ) (kind : TokenKind) → IsOther first → spelled symbols (first ∷ next ∷ []) ≡ Some kind
    → longest (first ∷ next ∷ more) ≡ 2
longest_pair first next more kind other pair =
    longest_up_to_is (length (first ∷ next ∷ more)) (first ∷ next ∷ more) 2 (omega arith) (λ _. others_are first other (next ∷ []) ∙ ap is_some pair)
    (other_fails first (next ∷ more) 2 other (λ none. absurd (omega arith)) (λ _ _ _ small. absurd (omega arith)))

-- a symbol of one byte, where no symbol of two bytes stands
pub longest_single : (first : ℕ) (others : List ℕ) (kind : TokenKind) → IsOther first
    → ((next : ℕ) (more : List ℕ) → others ≡ next ∷ more → spelled symbols (first ∷ next ∷ []) ≡ None) → spelled symbols (first ∷ []) ≡ Some kind
    → longest (first ∷ others) ≡ 1
longest_single first others kind other pair single =
    longest_up_to_is (length (first ∷ others)) (first ∷ others) 1 (omega arith) (λ _. others_are first other [] ∙ ap is_some single)
    (other_fails first others 1 other (λ none. absurd (omega arith)) (λ next more is _. pair next more is))

-- no word begins with this byte
pub longest_none : (first : ℕ) (others : List ℕ) → IsOther first → ((next : ℕ) (more : List ℕ) → others ≡ next ∷ more
    → spelled symbols (first ∷ next ∷ []) ≡ None) → spelled symbols (first ∷ []) ≡ None → longest (first ∷ others) ≡ 0
longest_none first others other pair single =
    longest_up_to_is (length (first ∷ others)) (first ∷ others) 0 (omega arith) (λ some. absurd (omega arith))
    (other_fails first others 0 other (λ _. single) (λ next more is _. pair next more is))
