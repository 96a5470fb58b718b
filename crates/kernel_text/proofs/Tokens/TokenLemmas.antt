-- What holds of the tokens of a file: for those who read them.
use Rattle.std.proofs.Common.{◌≡◌, ◌≢◌, ◌⊎◌, inl, inr, ℕ, zero, suc, ◌+◌, ◌-◌, ◌<◌, ◌≤◌, true, List, [], ◌∷◌, ◌++◌, length, take, drop, get_or, Option, Some, None, unwrap_or, ◌∙◌, sym, refl, ap, subst, ⊎_elim, arith, drop-drop, append_assoc}
use Rattle.std.specs.Prelude.{All}
use Rattle.std.specs.Str.{bytes_eq}
use Rattle.std.proofs.lemmas.Bool.{cases_Bool, cond-true, cond-false, cond_both}
use Rattle.std.proofs.lemmas.List.Elements.{All-nil, All-cons, All-append}
use Rattle.std.proofs.lemmas.Slice.Eq.{bytes_eq-Decides}
use Rattle.frame_grammar.specs.declared.token_kind.TokenKind.{TokenKind}
use Rattle.frame_grammar.specs.declared.token_kind.TokenKind.TheVariants.{Name, Number, Text, Line, End, Bad}
use Rattle.kernel_text.specs.declared.token.Token.{Token}
use Rattle.kernel_text.specs.Spellings.{spelling_of, symbols, reserved_words, spelled}
use Rattle.kernel_text.specs.Words.{is_name, is_number, is_text, is_word, kind_of}
use Rattle.kernel_text.specs.Tokens.{longest_up_to, longest, front_kind, front_len, token_at, line_after, mark_len, tokens_from, tokens_of, text_of}
use Rattle.kernel_text.proofs.Words.Longest.{front_of_word, front_of_none}
use Rattle.kernel_text.proofs.Tokens.Steps.{mark_len-le, line_after-le, line_after-ge}

-- a kind that is found by its spelling is spelled so
spelled-spelling : (kinds : List TokenKind) (word : List ℕ) (kind : TokenKind) → spelled kinds word ≡ Some kind → spelling_of kind ≡ word
spelled-spelling [] word kind found = cc
spelled-spelling (first ∷ kinds) word kind found =
    ⊎_elim
    (λ same.
    let is : Some first ≡ Some kind = sym (cond-true _ _ _ same) ∙ found in
    let first_is : first ≡ kind = cc in
    subst (λ k. spelling_of k ≡ word) first_is ((bytes_eq-Decides (spelling_of first) word).0 same))
    (λ differs. spelled-spelling kinds word kind (sym (cond-false _ _ _ differs) ∙ found))
    (cases_Bool (bytes_eq (spelling_of first) word))

-- no bytes are no token
kind_of-nil : kind_of [] ≡ None
unfolding kind_of is_name is_number is_text spelling_of symbols
kind_of-nil = refl

-- a token with a kind that has no spelling is found as that kind
unspelled : (kinds : List TokenKind) (word : List ℕ) (kind : TokenKind) → spelling_of kind ≡ [] → kind_of word ≡ Some kind → spelled kinds word ≡ Some kind → ⊥
unspelled kinds word kind none is found =
    let empty : word ≡ [] = sym (spelled-spelling kinds word kind found) ∙ none in
    let nothing : kind_of word ≡ None = ap kind_of empty ∙ kind_of-nil in
    cc

-- the kinds of the forms: a name or a reserved word, a number, a text, or what is found by its spelling
pub data FormOf (word : List ℕ) (kind : TokenKind) : Type 0 where
  named : is_name word ≡ true → unwrap_or (spelled reserved_words word) Name ≡ kind → FormOf word kind
  numbered : is_number word ≡ true → Number ≡ kind → FormOf word kind
  texted : is_text word ≡ true → Text ≡ kind → FormOf word kind
  symbolic : spelled (Line ∷ symbols) word ≡ Some kind → FormOf word kind

form_of : (word : List ℕ) (kind : TokenKind) → kind_of word ≡ Some kind → FormOf word kind
unfolding kind_of
form_of word kind is =
    ⊎_elim
    (λ name. let same : Some (unwrap_or (spelled reserved_words word) Name) ≡ Some kind = sym (cond-true _ _ _ name) ∙ is in named name (cc))
    (λ no_name. ⊎_elim
    (λ number. let same : Some Number ≡ Some kind = sym (cond-false _ _ _ no_name ∙ cond-true _ _ _ number) ∙ is in numbered number (cc))
    (λ no_number. ⊎_elim
    (λ text. let same : Some Text ≡ Some kind = sym (cond-false _ _ _ no_name ∙ cond-false _ _ _ no_number ∙ cond-true _ _ _ text) ∙ is in texted text (cc))
    (λ no_text. symbolic (sym (cond-false _ _ _ no_name ∙ cond-false _ _ _ no_number ∙ cond-false _ _ _ no_text) ∙ is))
    (cases_Bool (is_text word)))
    (cases_Bool (is_number word)))
    (cases_Bool (is_name word))

-- a name that is no reserved word is a Name
named_kind : (found : Option TokenKind) (word : List ℕ) (kind : TokenKind) → spelled reserved_words word ≡ found → unwrap_or found Name ≡ kind
    → spelling_of kind ≡ [] → kind_of word ≡ Some kind → kind ≡ Name
named_kind None word kind found is none kind_is = sym is
named_kind (Some reserved) word kind found is none kind_is = absurd (unspelled reserved_words word kind none kind_is (found ∙ ap Some is))

-- a Name is spelled as a name
pub kind_of-Name : (word : List ℕ) → kind_of word ≡ Some Name → is_name word ≡ true
unfolding spelling_of
kind_of-Name word is =
    elim (form_of word Name is) [
      | named name same ↦ name
      | numbered number same ↦ cc
      | texted text same ↦ cc
      | symbolic found ↦ absurd (unspelled (Line ∷ symbols) word Name refl is found)
    ]

-- a Number is spelled in digits
pub kind_of-Number : (word : List ℕ) → kind_of word ≡ Some Number → is_number word ≡ true
unfolding spelling_of
kind_of-Number word is =
    elim (form_of word Number is) [
      | named name same ↦ let clash = named_kind _ word Number refl same refl is in cc
      | numbered number same ↦ number
      | texted text same ↦ cc
      | symbolic found ↦ absurd (unspelled (Line ∷ symbols) word Number refl is found)
    ]

-- a Text is spelled in quotes
pub kind_of-Text : (word : List ℕ) → kind_of word ≡ Some Text → is_text word ≡ true
unfolding spelling_of
kind_of-Text word is =
    elim (form_of word Text is) [
      | named name same ↦ let clash = named_kind _ word Text refl same refl is in cc
      | numbered number same ↦ cc
      | texted text same ↦ text
      | symbolic found ↦ absurd (unspelled (Line ∷ symbols) word Text refl is found)
    ]

-- no word is the end
kind_of-End : (word : List ℕ) → kind_of word ≡ Some End → ⊥
unfolding spelling_of
kind_of-End word is =
    elim (form_of word End is) [
      | named name same ↦ let clash = named_kind _ word End refl same refl is in cc
      | numbered number same ↦ cc
      | texted text same ↦ cc
      | symbolic found ↦ unspelled (Line ∷ symbols) word End refl is found
    ]

longest_up_to-le : (n : ℕ) (bytes : List ℕ) → longest_up_to n bytes ≤ n
unfolding longest_up_to
longest_up_to-le zero bytes = omega arith
longest_up_to-le (suc n) bytes =
    cond_both (is_word (take (suc n) bytes)) (suc n) (longest_up_to n bytes) (λ m. m ≤ suc n) (λ _. omega arith) (λ _. omega (arith, longest_up_to-le n bytes))

-- what stands at the front has some of the bytes
front_len-le : (bytes : List ℕ) → 0 < length bytes → front_len bytes ≤ length bytes
unfolding front_len
front_len-le bytes some = omega (arith, longest_up_to-le (length bytes) bytes)

front_len-some : (bytes : List ℕ) → 0 < front_len bytes
unfolding front_len
front_len-some bytes = omega arith

-- where the front is a token other than Bad, its bytes are a word of that kind
front_kind_of : (n : ℕ) (bytes : List ℕ) (kind : TokenKind) → longest bytes ≡ n → front_kind bytes ≡ Some kind
    → (kind ≡ Bad) ⊎ (kind_of (take (front_len bytes) bytes) ≡ Some kind)
front_kind_of zero bytes kind longest_is is =
    let same : Some Bad ≡ Some kind = sym (front_of_none bytes longest_is).0 ∙ is in
    inl (cc)
front_kind_of (suc n) bytes kind longest_is is =
    let front = front_of_word bytes n longest_is in
    inr (ap (λ m. kind_of (take m bytes)) front.1 ∙ sym front.0 ∙ is)

pub front_kind-End : (bytes : List ℕ) (kind : TokenKind) → front_kind bytes ≡ Some kind → kind ≡ End → ⊥
front_kind-End bytes kind is end =
    ⊎_elim
    (λ bad. let clash : Bad ≡ End = sym bad ∙ end in cc)
    (λ word. kind_of-End _ (word ∙ ap Some end))
    (front_kind_of (longest bytes) bytes kind refl is)

-- the end of a line has one spelling
kind_of-Line : (word : List ℕ) → kind_of word ≡ Some Line → word ≡ 10 ∷ []
unfolding spelling_of
kind_of-Line word is =
    elim (form_of word Line is) [
      | named name same ↦ reserved (spelled reserved_words word) same refl
      | numbered number same ↦ cc
      | texted text same ↦ cc
      | symbolic found ↦ sym (spelled-spelling (Line ∷ symbols) word Line found)
    ]
  where
    reserved : (found : Option TokenKind) → unwrap_or found Name ≡ Line → spelled reserved_words word ≡ found → word ≡ 10 ∷ []
    reserved None same found = cc
    reserved (Some kind) same found = sym (spelled-spelling reserved_words word Line (found ∙ ap Some same))

first_of : (n : ℕ) (bytes : List ℕ) (byte : ℕ) → take n bytes ≡ byte ∷ [] → get_or bytes 0 0 ≡ byte
first_of zero bytes byte is = cc
first_of (suc n) [] byte is = cc
first_of (suc n) (first ∷ bytes) byte is = ap (λ xs. get_or xs 0 0) is

-- it begins with a line feed
pub front_kind-Line : (bytes : List ℕ) → front_kind bytes ≡ Some Line → get_or bytes 0 0 ≡ 10
front_kind-Line bytes is =
    ⊎_elim
    (λ bad. let clash : Line ≡ Bad = bad in cc)
    (λ word. first_of (front_len bytes) bytes 10 (kind_of-Line _ word))
    (front_kind_of (longest bytes) bytes Line refl is)

-- What holds of each token of a file: where it stands, in which line, and how it is spelled.
pub record IsTokenOf (source : List ℕ) (token : Token) : Type 0 where
  pub ordered : token.start ≤ token.end
  pub within : token.end ≤ length source
  pub some : token.kind ≢ End → token.start < token.end
  pub first_line : 1 ≤ token.line
  pub last_line : token.line ≤ length source + 1
  pub spelled_so : token.kind ≢ End → token.kind ≢ Bad → kind_of (text_of source token) ≡ Some token.kind

token_at-is : (source : List ℕ) (place line : ℕ) (bytes : List ℕ) (found : Option TokenKind) → drop place source ≡ bytes → place + length bytes ≡ length source
    → 0 < length bytes → 1 ≤ line → line ≤ place + 1 → front_kind bytes ≡ found →
    All (IsTokenOf source) (token_at found place (place + front_len bytes) line)
token_at-is source place line bytes None rest_is room some first last is = All-nil (IsTokenOf source)
token_at-is source place line bytes (Some kind) rest_is room some first last is =
    let len_le = front_len-le bytes some in
    let len_some = front_len-some bytes in
    let len_is : place + front_len bytes - place ≡ front_len bytes = omega arith in
    All-cons (IsTokenOf source) _ []
    (record {
      ordered = omega arith;
      within = omega arith;
      some = λ _. omega arith;
      first_line = first;
      last_line = omega arith;
      spelled_so = λ no_end no_bad.
          ⊎_elim (λ bad. absurd (no_bad bad)) (λ word. (λ i. kind_of (take (len_is i) (rest_is i))) ∙ word) (front_kind_of (longest bytes) bytes kind refl is);
    })
    (All-nil (IsTokenOf source))

drop-next : (place : ℕ) (source : List ℕ) (byte : ℕ) (bytes : List ℕ) → drop place source ≡ byte ∷ bytes → drop (place + 1) source ≡ bytes
drop-next place source byte bytes rest_is = sym (drop-drop 1 place source) ∙ ap (λ xs. drop 1 xs) rest_is

tokens_from-are : (source : List ℕ) (begun place line : ℕ) (bytes : List ℕ) → drop place source ≡ bytes → place + length bytes ≡ length source
    → begun ≤ length bytes → 1 ≤ line → line ≤ place + 1 →
    All (IsTokenOf source) (tokens_from begun place line bytes)
unfolding tokens_from
tokens_from-are source begun place line [] rest_is room within first last =
    All-cons (IsTokenOf source) _ []
    (record {
      ordered = omega arith;
      within = omega arith;
      some = λ no_end. absurd (no_end refl);
      first_line = first;
      last_line = omega arith;
      spelled_so = λ no_end no_bad. absurd (no_end refl);
    })
    (All-nil (IsTokenOf source))
tokens_from-are source (suc begun) place line (byte ∷ bytes) rest_is room within first last =
    tokens_from-are source begun (place + 1) line bytes (drop-next place source byte bytes rest_is) (omega arith) (omega arith) first (omega arith)
tokens_from-are source zero place line (byte ∷ bytes) rest_is room within first last =
    let len_le = front_len-le (byte ∷ bytes) (omega arith) in
    let next = line_after-le byte line in
    All-append (IsTokenOf source) _ _
    (token_at-is source place line (byte ∷ bytes) _ rest_is room (omega arith) first last refl)
    (tokens_from-are source (front_len (byte ∷ bytes) - 1) (place + 1) (line_after byte line) bytes (drop-next place source byte bytes rest_is) (omega arith)
    (omega arith) (omega (arith, line_after-ge byte line)) (omega arith))

-- each token of a file
pub tokens_of-are : (source : List ℕ) → All (IsTokenOf source) (tokens_of source)
unfolding tokens_of
tokens_of-are source = tokens_from-are source (mark_len source) 0 1 source refl (omega arith) (mark_len-le source) (omega arith) (omega arith)

-- The last token is End, and no other is.
pub record AreEnded (tokens : List Token) : Type 0 where
  pub front : List Token
  pub last : Token
  pub whole : tokens ≡ front ++ last ∷ []
  pub last_is : last.kind ≡ End
  pub no_other : All (λ token. token.kind ≢ End) front

token_at-goes_on : (bytes : List ℕ) (found : Option TokenKind) (start end line : ℕ) → front_kind bytes ≡ found
    → All (λ token. token.kind ≢ End) (token_at found start end line)
token_at-goes_on bytes None start end line is = All-nil (λ token. token.kind ≢ End)
token_at-goes_on bytes (Some kind) start end line is = All-cons (λ token. token.kind ≢ End) _ [] (front_kind-End bytes kind is)
    (All-nil (λ token. token.kind ≢ End))

tokens_from-ended : (begun place line : ℕ) (bytes : List ℕ) → AreEnded (tokens_from begun place line bytes)
unfolding tokens_from
tokens_from-ended begun place line [] =
    record {
      front = [];
      last = record { kind = End; start = place; end = place; line = line };
      whole = refl;
      last_is = refl;
      no_other = All-nil (λ token. token.kind ≢ End);
    }
tokens_from-ended (suc begun) place line (byte ∷ bytes) = tokens_from-ended begun (place + 1) line bytes
tokens_from-ended zero place line (byte ∷ bytes) =
    let len = front_len (byte ∷ bytes) in
    let word = token_at (front_kind (byte ∷ bytes)) place (place + len) line in
    let behind = tokens_from-ended (len - 1) (place + 1) (line_after byte line) bytes in
    record {
      front = word ++ behind.front;
      last = behind.last;
      whole = ap (λ ts. word ++ ts) behind.whole ∙ sym (append_assoc word behind.front (behind.last ∷ []));
      last_is = behind.last_is;
      no_other = All-append (λ token. token.kind ≢ End) word behind.front (token_at-goes_on (byte ∷ bytes) _ place (place + len) line refl) behind.no_other;
    }

pub tokens_of-ended : (source : List ℕ) → AreEnded (tokens_of source)
unfolding tokens_of
tokens_of-ended source = tokens_from-ended (mark_len source) 0 1 source

-- from this place and line on, no token begins before the one in front of it ends, and no line falls
abbrev pub AreInOrder : (place line : ℕ) → List Token → Type 0
AreInOrder place line [] = Unit {0}
AreInOrder place line (token ∷ tokens) = (place ≤ token.start) × (line ≤ token.line) × AreInOrder token.end token.line tokens

token_before : (found : Option TokenKind) (start end line next : ℕ) (place low : ℕ) (tokens : List Token) → place ≤ start → start ≤ end → low ≤ line
    → line ≤ next →
    ((p l : ℕ) → p ≤ end → l ≤ next → AreInOrder p l tokens) → AreInOrder place low (token_at found start end line ++ tokens)
token_before None start end line next place low tokens after ordered rises step behind = behind place low (omega arith) (omega arith)
token_before (Some kind) start end line next place low tokens after ordered rises step behind = (after, rises, behind end line (omega arith) step)

tokens_from-in_order : (begun place line : ℕ) (bytes : List ℕ) (p l : ℕ) → p ≤ place + begun → l ≤ line → begun ≤ length bytes
    → AreInOrder p l (tokens_from begun place line bytes)
unfolding tokens_from
tokens_from-in_order begun place line [] p l after rises within = (omega arith, rises, tt)
tokens_from-in_order (suc begun) place line (byte ∷ bytes) p l after rises within =
    tokens_from-in_order begun (place + 1) line bytes p l (omega arith) rises (omega arith)
tokens_from-in_order zero place line (byte ∷ bytes) p l after rises within =
    let len = front_len (byte ∷ bytes) in
    let len_le = front_len-le (byte ∷ bytes) (omega arith) in
    let len_some = front_len-some (byte ∷ bytes) in
    token_before (front_kind (byte ∷ bytes)) place (place + len) line (line_after byte line) p l _ (omega arith) (omega arith) rises (line_after-ge byte line)
    (λ q m before low. tokens_from-in_order (len - 1) (place + 1) (line_after byte line) bytes q m (omega arith) low (omega arith))

-- the tokens of a file are in order
pub tokens_of-in_order : (source : List ℕ) → AreInOrder 0 1 (tokens_of source)
unfolding tokens_of
tokens_of-in_order source = tokens_from-in_order (mark_len source) 0 1 source 0 1 (omega arith) (omega arith) (mark_len-le source)

from_line : (tokens : List Token) (place line : ℕ) (j : ℕ) (d : Token) → AreInOrder place line tokens → j < length tokens → line ≤ (get_or tokens j d).line
from_line [] place line j d in_order within = absurd (omega arith)
from_line (token ∷ tokens) place line zero d in_order within = in_order.1
from_line (token ∷ tokens) place line (suc j) d in_order within = omega (arith, in_order.1, from_line tokens token.end token.line j d in_order.2 (omega arith))

-- lines don't fall
pub lines_rise : (tokens : List Token) (place line : ℕ) (i j : ℕ) (d : Token) → AreInOrder place line tokens → i ≤ j → j < length tokens
    → (get_or tokens i d).line ≤ (get_or tokens j d).line
lines_rise [] place line i j d in_order below within = absurd (omega arith)
lines_rise (token ∷ tokens) place line zero j d in_order below within = from_line (token ∷ tokens) place token.line j d
    (omega arith, omega arith, in_order.2) within
lines_rise (token ∷ tokens) place line (suc i) zero d in_order below within = absurd (omega arith)
lines_rise (token ∷ tokens) place line (suc i) (suc j) d in_order below within =
    lines_rise tokens token.end token.line i j d in_order.2 (omega arith) (omega arith)
