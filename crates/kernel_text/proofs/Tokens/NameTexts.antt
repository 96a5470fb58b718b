-- The names of a file are text.
use Rattle.std.proofs.Common.{◌∙◌, ◌≡◌, ℕ, ◌<◌, ◌&&◌, nat_le, true, List, [], ◌∷◌, Some, sym, ap, subst, ⊎_elim, arith}
use Rattle.std.specs.Prelude.{IsUtf8, IsAscii}
use Rattle.std.specs.List.{list_all}
use Rattle.std.specs.Char.{is_ascii_alphabetic}
use Rattle.std.proofs.lemmas.Bool.{and_parts, or_cases, leb-true, eqb-true}
use Rattle.std.proofs.lemmas.Option.{get_or_from_slice_get, slice_get_within}
use Rattle.std.proofs.lemmas.List.Elements.{All-get_or}
use Rattle.std.proofs.lemmas.Str.{IsUtf8-from_ascii}
use Rattle.std.proofs.lemmas.Str.Ascii.{IsAscii-nil, IsAscii-cons}
use Rattle.frame_grammar.specs.declared.token_kind.TokenKind.TheVariants.{Name}
use Rattle.kernel_text.specs.declared.token.Token.{Token}
use Rattle.kernel_text.specs.Words.{begins_name, continues_name, is_name}
use Rattle.kernel_text.specs.Tokens.{tokens_of, text_of, NamesAreText}
use Rattle.kernel_text.proofs.Tokens.TokenLemmas.{IsTokenOf, tokens_of-are, kind_of-Name}

-- BYTES

between_low : (low high byte : ℕ) → high < 128 → (nat_le low byte && nat_le byte high) ≡ true → byte < 128
between_low low high byte le e = omega (arith, leb-true byte high (and_parts _ _ e).1)

letter_low : (byte : ℕ) → is_ascii_alphabetic byte ≡ true → byte < 128
letter_low byte e = ⊎_elim (λ a. between_low 65 90 byte (omega arith) a) (λ a. between_low 97 122 byte (omega arith) a) (or_cases _ _ e)

first_low : (byte : ℕ) → begins_name byte ≡ true → byte < 128
first_low byte e = ⊎_elim (letter_low byte) (λ a. omega (arith, eqb-true byte 95 a)) (or_cases _ _ e)

other_low : (byte : ℕ) → continues_name byte ≡ true → byte < 128
other_low byte e =
    ⊎_elim
    (λ a. ⊎_elim
    (λ b. ⊎_elim (λ c. between_low 48 57 byte (omega arith) c) (λ c. between_low 65 90 byte (omega arith) c) (or_cases _ _ b))
    (λ b. between_low 97 122 byte (omega arith) b)
    (or_cases _ _ a))
    (λ a. omega (arith, eqb-true byte 95 a))
    (or_cases _ _ e)

others_low : (bytes : List ℕ) → list_all continues_name bytes ≡ true → IsAscii bytes
others_low [] e = IsAscii-nil
others_low (byte ∷ bytes) e = let p = and_parts _ _ e in IsAscii-cons byte bytes (other_low byte p.0) (others_low bytes p.1)

-- a name is text
pub name_text : (word : List ℕ) → is_name word ≡ true → IsUtf8 word
unfolding is_name
name_text [] e = cc
name_text (first ∷ others) e = let p = and_parts _ _ e in IsUtf8-from_ascii (first ∷ others)
    (IsAscii-cons first others (first_low first p.0) (others_low others p.1))

-- TOKENS

token_text_is : (source : List ℕ) (token : Token) → IsTokenOf source token → token.kind ≡ Name → IsUtf8 (text_of source token)
token_text_is source token is named =
    name_text (text_of source token) (kind_of-Name (text_of source token)
    (is.spelled_so (λ e. let clash = sym named ∙ e in cc) (λ e. let clash = sym named ∙ e in cc) ∙ ap Some named))

-- the names of a file are text
pub names_are_text : (source : List ℕ) → NamesAreText source (tokens_of source)
names_are_text source k token is named =
    let within = slice_get_within (tokens_of source) k token is in
    let same = get_or_from_slice_get (tokens_of source) k token token is in
    token_text_is source token (subst (IsTokenOf source) same (All-get_or (IsTokenOf source) (tokens_of source) k token within (tokens_of-are source))) named
