-- What stands at a place whose byte alone tells the kind of the token that begins there, and what the other bytes are.
use Rattle.std.proofs.Common.{◌≡◌, ◌≢◌, ◌⊎◌, inl, inr, ℕ, ◌+◌, ◌<◌, ◌==◌, ◌&&◌, ◌||◌, not, Bool, true, false, true≢false, List, [], ◌∷◌, length, get_or, Option, Some, None, unwrap_or, ◌∙◌, refl, sym, ap, subst, ⊎_elim}
use Rattle.std.specs.Prelude.{nat_eq, nat_le}
use Rattle.std.specs.List.{list_any, list_all}
use Rattle.std.specs.Str.{bytes_eq}
use Rattle.std.specs.Char.{is_ascii_digit}
use Rattle.std.proofs.lemmas.Bool.{agree_below_at, eqb-true, eq-eqb, ne_eqb, cases_Bool, cond-false, cond_both, and_parts, not-true, or_parts, or_cases}
use Rattle.std.proofs.lemmas.Slice.Eq.{bytes_eq-Decides}
use denote.Enum.Declared.{tag_of}
use Rattle.frame_grammar.specs.declared.token_kind.TokenKind.{TokenKind}
use Rattle.frame_grammar.specs.declared.token_kind.TokenKind.TheVariants.{Name, Number, Line, Bad}
use Rattle.frame_grammar.specs.contracts.token_kind.TokenKind.{the_type}
use Rattle.kernel_text.specs.declared.word.TheConstants.{KINDS_BEGUN}
use Rattle.kernel_text.specs.Tokens.{is_bad}
use Rattle.kernel_text.specs.Marks.{kind_numbered}
use Rattle.kernel_text.specs.Spellings.{spelling_of, symbols, reserved_words, spelled, is_first_of}
use Rattle.kernel_text.specs.Words.{begins_name, continues_name}
use Rattle.kernel_text.specs.Fronts.{begins_pair, kind_begun, IsOther}
use Rattle.kernel_text.proofs.Marks.{numbered}
use Rattle.kernel_text.proofs.Words.FrontsAt.{IsFrontAt, at_line, at_single}

-- THE TABLE

-- the number of a kind
abbrev tag : TokenKind → ℕ
tag kind = tag_of the_type kind

same_kind : (a b : TokenKind) → tag a ≡ tag b → a ≡ b
same_kind a b same = sym (numbered a) ∙ ap kind_numbered same ∙ numbered b

-- the table has the kind that each byte begins
pub kinds_begun : (byte : ℕ) → byte < 256 → get_or KINDS_BEGUN byte Name ≡ kind_begun byte
unfolding kind_begun begins_pair spelling_of symbols
kinds_begun byte small =
    same_kind _ _ (eqb-true _ _ (agree_below_at (λ b. nat_eq (tag (get_or KINDS_BEGUN b Name)) (tag (kind_begun b))) (λ b. true) 256 byte refl small))

-- NAMES AND NUMBERS

abbrev is_name_kind : TokenKind → Bool
is_name_kind Name = true
is_name_kind _ = false

abbrev is_number_kind : TokenKind → Bool
is_number_kind Number = true
is_number_kind _ = false

pub begun_name : (byte : ℕ) → byte < 256 → kind_begun byte ≡ Name → begins_name byte ≡ true
unfolding kind_begun begins_pair spelling_of symbols
begun_name byte small is = sym (agree_below_at (λ b. is_name_kind (kind_begun b)) begins_name 256 byte refl small) ∙ ap is_name_kind is

pub begun_number : (byte : ℕ) → byte < 256 → kind_begun byte ≡ Number → is_ascii_digit byte ≡ true
unfolding kind_begun begins_pair spelling_of symbols
begun_number byte small is = sym (agree_below_at (λ b. is_number_kind (kind_begun b)) is_ascii_digit 256 byte refl small) ∙ ap is_number_kind is

-- a name goes on with what begins a name or a number
abbrev pub is_in_name : TokenKind → Bool
is_in_name Name = true
is_in_name Number = true
is_in_name _ = false

pub begun_in_name : (byte : ℕ) → byte < 256 → is_in_name (kind_begun byte) ≡ continues_name byte
unfolding kind_begun begins_pair spelling_of symbols
begun_in_name byte small = agree_below_at (λ b. is_in_name (kind_begun b)) continues_name 256 byte refl small

pub in_name : (kind : TokenKind) → (kind ≡ Name) ⊎ (kind ≡ Number) → is_in_name kind ≡ true
in_name kind (inl is) = ap is_in_name is
in_name kind (inr is) = ap is_in_name is

pub not_in_name : (kind : TokenKind) → kind ≢ Name → kind ≢ Number → is_in_name kind ≡ false
not_in_name Name name number = absurd (name refl)
not_in_name Number name number = absurd (number refl)
not_in_name _ name number = refl

-- BYTES THAT DON'T TELL ALONE

abbrev is_bad_kind : TokenKind → Bool
is_bad_kind Bad = true
is_bad_kind _ = false

-- a byte that begins no name and no number and ends no line
abbrev begins_other : ℕ → Bool
begins_other byte = (not (begins_name byte) && not (is_ascii_digit byte)) && not (byte == 10)

apart : (byte other : ℕ) → (byte == other) ≡ false → byte ≢ other
apart byte other differs same = true≢false (sym (eq-eqb byte other same) ∙ differs)

pub begun_other : (byte : ℕ) → byte < 256 → kind_begun byte ≡ Bad → byte ≢ 34 → byte ≢ 35 → byte ≢ 32 → byte ≢ 9 → byte ≢ 13 → IsOther byte
unfolding kind_begun begins_pair spelling_of symbols
begun_other byte small is no_quote no_comment no_space no_tab no_return =
    let other = and_parts _ _ (sym (agree_below_at (λ b. is_bad_kind (kind_begun b)) (λ b. is_bad_kind (kind_begun b) && begins_other b) 256 byte refl small)
    ∙ ap is_bad_kind is) in
    let parts = and_parts _ _ other.1 in
    let fore = and_parts _ _ parts.0 in
    record {
      no_name = not-true _ fore.0;
      no_digit = not-true _ fore.1;
      no_quote = no_quote;
      no_comment = no_comment;
      no_space = no_space;
      no_tab = no_tab;
      no_return = no_return;
      no_line = apart byte 10 (not-true _ parts.1);
    }

-- BYTES THAT ARE A TOKEN

-- the kind of a token of one byte
abbrev pub is_lone_kind : TokenKind → Bool
is_lone_kind Name = false
is_lone_kind Number = false
is_lone_kind Bad = false
is_lone_kind _ = true

pub lone_kind : (kind : TokenKind) → kind ≢ Name → kind ≢ Number → kind ≢ Bad → is_lone_kind kind ≡ true
lone_kind Name name number bad = absurd (name refl)
lone_kind Number name number bad = absurd (number refl)
lone_kind Bad name number bad = absurd (bad refl)
lone_kind _ name number bad = refl

-- a byte that is another one
abbrev is_other : ℕ → Bool
is_other byte =
    ((not (begins_name byte) && not (is_ascii_digit byte)) && (not (byte == 34) && not (byte == 35)))
    && ((not (byte == 32) && not (byte == 9)) && (not (byte == 13) && not (byte == 10)))

other_is : (byte : ℕ) → is_other byte ≡ true → IsOther byte
other_is byte other =
    let parts = and_parts _ _ other in
    let fore = and_parts _ _ parts.0 in
    let back = and_parts _ _ parts.1 in
    let kinds = and_parts _ _ fore.0 in
    let marks = and_parts _ _ fore.1 in
    let blanks = and_parts _ _ back.0 in
    let ends = and_parts _ _ back.1 in
    record {
      no_name = not-true _ kinds.0;
      no_digit = not-true _ kinds.1;
      no_quote = apart byte 34 (not-true _ marks.0);
      no_comment = apart byte 35 (not-true _ marks.1);
      no_space = apart byte 32 (not-true _ blanks.0);
      no_tab = apart byte 9 (not-true _ blanks.1);
      no_return = apart byte 13 (not-true _ ends.0);
      no_line = apart byte 10 (not-true _ ends.1);
    }

-- the spelling of a pair begins with its first byte and has two
pair_differs : (spelling : List ℕ) (byte next : ℕ) → ((get_or spelling 0 0 == byte) && nat_le 2 (length spelling)) ≡ false
    → bytes_eq spelling (byte ∷ next ∷ []) ≡ false
pair_differs spelling byte next none =
    ⊎_elim
    (λ same.
    let is = (bytes_eq-Decides spelling (byte ∷ next ∷ [])).0 same in
    absurd (true≢false
    (sym (ap (λ s. (get_or s 0 0 == byte) && nat_le 2 (length s)) is ∙ ap (λ b. b && true) (eq-eqb byte byte refl)) ∙ none)))
    (λ differs. differs)
    (cases_Bool (bytes_eq spelling (byte ∷ next ∷ [])))

no_pair : (kinds : List TokenKind) (byte next : ℕ) → list_any (λ kind. is_first_of byte kind && nat_le 2 (length (spelling_of kind))) kinds ≡ false
    → spelled kinds (byte ∷ next ∷ []) ≡ None
no_pair [] byte next none = refl
no_pair (kind ∷ kinds) byte next none =
    let parts = or_parts _ _ none in
    cond-false _ _ _ (pair_differs (spelling_of kind) byte next parts.0) ∙ no_pair kinds byte next parts.1

single_is : (found : Option TokenKind) (kind : TokenKind) → unwrap_or found Bad ≡ kind → is_lone_kind kind ≡ true → found ≡ Some kind
single_is None kind is lone = absurd (true≢false (sym lone ∙ sym (ap is_lone_kind is)))
single_is (Some found) kind is lone = ap Some is

lone_begun : (byte : ℕ) (kind : TokenKind) → kind_begun byte ≡ kind → is_lone_kind kind ≡ true → IsOther byte → begins_pair byte ≡ false
    → spelled symbols (byte ∷ []) ≡ Some kind
unfolding kind_begun
lone_begun byte kind is lone other alone =
    let value = cond-false _ _ _ other.no_name ∙ cond-false _ _ _ other.no_digit ∙ cond-false _ _ _ (ne_eqb byte 10 other.no_line) ∙ cond-false _ _ _ alone in
    single_is (spelled symbols (byte ∷ [])) kind (sym value ∙ is) lone

no_pair_begun : (byte next : ℕ) → begins_pair byte ≡ false → spelled symbols (byte ∷ next ∷ []) ≡ None
unfolding begins_pair
no_pair_begun byte next alone = no_pair symbols byte next alone

line_begun : kind_begun 10 ≡ Line
unfolding kind_begun
line_begun = refl

-- a byte that is a token ends a line or is a symbol
lone_tests : (byte : ℕ) → byte < 256 → is_lone_kind (kind_begun byte) ≡ true → ((byte == 10) || (is_other byte && not (begins_pair byte))) ≡ true
unfolding kind_begun begins_pair spelling_of symbols
lone_tests byte small lone =
    (and_parts _ _ (sym (agree_below_at (λ b. is_lone_kind (kind_begun b))
    (λ b. is_lone_kind (kind_begun b) && ((b == 10) || (is_other b && not (begins_pair b)))) 256 byte refl small) ∙ lone)).1

pub at_begun : (source : List ℕ) (place : ℕ) (kind : TokenKind) → place < length source → get_or source place 0 < 256
    → kind_begun (get_or source place 0) ≡ kind → is_lone_kind kind ≡ true →
    IsFrontAt source place (Some kind) (place + 1)
at_begun source place kind within small is lone =
    let byte = get_or source place 0 in
    ⊎_elim
    (λ feed.
    let ten = eqb-true byte 10 feed in
    subst (λ k. IsFrontAt source place (Some k) (place + 1)) (sym line_begun ∙ sym (ap kind_begun ten) ∙ is) (at_line source place within ten))
    (λ symbol.
    let parts = and_parts _ _ symbol in
    let other = other_is byte parts.0 in
    let alone = not-true _ parts.1 in
    at_single source place (Some kind) within other (λ two. no_pair_begun byte (get_or source (place + 1) 0) alone) (lone_begun byte kind is lone other alone))
    (or_cases _ _ (lone_tests byte small (ap is_lone_kind is ∙ lone)))

-- NO TOKEN THAT A BYTE TELLS IS BAD

pub lone_fine : (kind : TokenKind) → is_lone_kind kind ≡ true → is_bad kind ≡ false
lone_fine Bad lone = absurd (true≢false (sym lone))
lone_fine _ lone = refl

spelled_fine : (kinds : List TokenKind) (word : List ℕ) → list_all (λ kind. not (is_bad kind)) kinds ≡ true
    → is_bad (unwrap_or (spelled kinds word) Name) ≡ false
spelled_fine [] word fine = refl
spelled_fine (kind ∷ kinds) word fine =
    let parts = and_parts _ _ fine in
    cond_both (bytes_eq (spelling_of kind) word) (Some kind) (spelled kinds word) (λ found. is_bad (unwrap_or found Name) ≡ false) (λ same. not-true _ parts.0)
    (λ differs. spelled_fine kinds word parts.1)

pub word_fine : (word : List ℕ) → is_bad (unwrap_or (spelled reserved_words word) Name) ≡ false
unfolding reserved_words
word_fine word = spelled_fine reserved_words word refl
