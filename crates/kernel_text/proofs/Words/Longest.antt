-- Which prefix is the longest word, and which bytes are one word, by the first byte.
use Rattle.std.proofs.Common.{◌≡◌, ℕ, zero, suc, ◌<◌, ◌≤◌, ◌==◌, ◌||◌, not, Bool, true, false, cond, List, [], ◌∷◌, take, get_or, Some, None, max, ◌∙◌, refl, ap, ⊎_elim, arith, eqb}
use Rattle.std.specs.List.{list_all}
use Rattle.std.specs.Str.{bytes_eq}
use Rattle.std.specs.Char.{is_ascii_digit}
use Rattle.std.proofs.lemmas.Bool.{cases_lt, cond-true, cond-false, and_left, and_parts, not-true, ne_eqb}
use Rattle.frame_grammar.specs.declared.token_kind.TokenKind.{TokenKind}
use Rattle.frame_grammar.specs.declared.token_kind.TokenKind.TheVariants.{Bad}
use Rattle.kernel_text.specs.Spellings.{spelling_of, spelled, is_first_of}
use Rattle.kernel_text.specs.Words.{begins_name, is_name, is_number, is_text, is_blank, is_comment, kind_of, is_word}
use Rattle.kernel_text.specs.Tokens.{longest_up_to, longest, front_kind, front_len}

-- the longest word has n bytes where the first n bytes are one, or n is 0, and no more bytes are one
pub longest_up_to_is : (k : ℕ) (bytes : List ℕ) (n : ℕ) → n ≤ k → (0 < n → is_word (take n bytes) ≡ true)
    → ((m : ℕ) → n < m → m ≤ k → is_word (take m bytes) ≡ false) → longest_up_to k bytes ≡ n
unfolding longest_up_to
longest_up_to_is zero bytes n within word none = omega arith
longest_up_to_is (suc k) bytes n within word none =
    ⊎_elim
    (λ greater. let whole : suc k ≡ n = omega arith in cond-true _ _ _ (ap (λ m. is_word (take m bytes)) whole ∙ word (omega arith)) ∙ whole)
    (λ smaller. cond-false _ _ _ (none (suc k) (omega arith) (omega arith))
    ∙ longest_up_to_is k bytes n smaller word (λ m above below. none m above (omega arith)))
    (cases_lt k n)

-- a word stands at the front
pub front_of_word : (bytes : List ℕ) (n : ℕ) → longest bytes ≡ suc n → (front_kind bytes ≡ kind_of (take (suc n) bytes)) × (front_len bytes ≡ suc n)
unfolding front_kind front_len
front_of_word bytes n is = (
  ap (λ m. cond (eqb m 0) (Some Bad) (kind_of (take m bytes))) is
      ∙ cond-false _ _ _ (ne_eqb (suc n) 0 (λ none. omega arith)),
  ap (λ m. max 1 m) is ∙ omega arith,
)

-- no word stands at the front
pub front_of_none : (bytes : List ℕ) → longest bytes ≡ 0 → (front_kind bytes ≡ Some Bad) × (front_len bytes ≡ 1)
unfolding front_kind front_len
front_of_none bytes is = (ap (λ m. cond (eqb m 0) (Some Bad) (kind_of (take m bytes))) is, ap (λ m. max 1 m) is)

-- a space, a tab or a carriage return
abbrev pub is_blank_byte : ℕ → Bool
is_blank_byte byte = ((byte == 32) || (byte == 9)) || (byte == 13)

pub not_blank : (byte : ℕ) (others : List ℕ) → is_blank_byte byte ≡ false → is_blank (byte ∷ others) ≡ false
unfolding is_blank
not_blank byte [] apart = apart
not_blank byte (next ∷ others) apart = refl

pub not_comment : (byte : ℕ) (others : List ℕ) → (byte == 35) ≡ false → is_comment (byte ∷ others) ≡ false
unfolding is_comment
not_comment byte others apart = and_left _ _ apart

pub not_name : (byte : ℕ) (others : List ℕ) → begins_name byte ≡ false → is_name (byte ∷ others) ≡ false
unfolding is_name
not_name byte others apart = and_left _ _ apart

pub not_number : (byte : ℕ) (others : List ℕ) → is_ascii_digit byte ≡ false → is_number (byte ∷ others) ≡ false
unfolding is_number
not_number byte others apart = and_left _ _ apart

pub not_text : (byte : ℕ) (others : List ℕ) → (byte == 34) ≡ false → is_text (byte ∷ others) ≡ false
unfolding is_text
not_text byte [] apart = refl
not_text byte (next ∷ others) apart = and_left _ _ (and_left _ _ apart)

-- texts whose first bytes differ are not the same
differs_at_first : (spelling : List ℕ) (byte : ℕ) (others : List ℕ) → (get_or spelling 0 0 == byte) ≡ false → bytes_eq spelling (byte ∷ others) ≡ false
differs_at_first [] byte others apart = refl
differs_at_first (first ∷ spelling) byte others apart = and_left _ _ apart

-- a text is not spelled as any of these kinds, where no spelling begins with its first byte
pub not_spelled : (kinds : List TokenKind) (byte : ℕ) (others : List ℕ) → list_all (λ kind. not (is_first_of byte kind)) kinds ≡ true
    → spelled kinds (byte ∷ others) ≡ None
not_spelled [] byte others apart = refl
not_spelled (kind ∷ kinds) byte others apart =
    let parts = and_parts _ _ apart in
    cond-false _ _ _ (differs_at_first (spelling_of kind) byte others (not-true _ parts.0)) ∙ not_spelled kinds byte others parts.1
