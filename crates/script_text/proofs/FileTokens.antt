-- The tokens of a file as they are kept: what the one at a place says, and its line.
use Rattle.std.proofs.Common.{◌≡◌, ℕ, ◌+◌, ◌-◌, ◌<◌, ◌≤◌, List, [], length, map, take, drop, get_or, slice_get, length-take, Option, Some, None, option_map, refl, sym, ◌∙◌, ap, subst, arith}
use Rattle.std.proofs.lemmas.Option.{none-some, same_Some, slice_get_past, slice_get_read, slice_get-map}
use Rattle.std.proofs.Math.Seq.{take-add}
use Rattle.frame_ast.specs.declared.script.Sign.{Sign}
use Rattle.frame_grammar.specs.declared.token_kind.TokenKind.{TokenKind}
use Rattle.frame_grammar.specs.declared.token_kind.TokenKind.TheVariants as token
use Rattle.frame_grammar.specs.Sentences.{IsEnded}
use Rattle.kernel_text.specs.declared.mark.Mark.{Mark}
use Rattle.kernel_text.specs.Marks.{kind_of, token_in, tokens_in, lines_in}
use Rattle.kernel_text.specs.Tokens.{text_of, tokens_of, up_to_bad, kinds, token_text, token_line}
use Rattle.kernel_text.proofs.Tokens.Lexed.{lexed-few, lexed-ended}
use Rattle.kernel_text.proofs.Marks.{length-tokens_in, kinds-tokens_in, slice_get-tokens_in, line-tokens_in, lines_in-append, lines_in-le}
use Rattle.script_text.specs.declared.source.Source.{Source}
use Rattle.script_text.specs.declared.line_cursor.LineCursor.{LineCursor}
use Rattle.script_text.specs.Places.{IsTest, TestStands}
use Rattle.script_text.specs.Signs.{sign_of, sign_in}
use Rattle.script_text.specs.Sources.{file_tokens, text_at, line_at}
use Rattle.script_text.specs.Lines.{IsOn}

-- THE TOKEN AT A PLACE

-- a mark that was read at a place
read_at : (s : Source) (at : ℕ) (mark : Mark) → at < length s.marks.now → mark ≡ get_or s.marks.now at mark → slice_get s.marks.now at ≡ Some mark
read_at s at mark within is = slice_get_read s.marks.now (length s.marks.now) at mark refl within is

token_at : (s : Source) (at : ℕ) (o : Option Mark) → slice_get s.marks.now at ≡ o
    → slice_get (file_tokens s) at ≡ option_map (token_in s.bytes.now (1 + lines_in (take at s.marks.now))) o
token_at s at o is =
    slice_get-tokens_in s.bytes.now 1 s.marks.now at
    ∙ ap (option_map (token_in s.bytes.now (1 + lines_in (take at s.marks.now)))) is

pub text_said : (s : Source) (at : ℕ) (mark : Mark) (text : List ℕ) → at < length s.marks.now → mark ≡ get_or s.marks.now at mark
    → ((line : ℕ) → text ≡ text_of s.bytes.now (token_in s.bytes.now line mark)) → text ≡ text_at s at
text_said s at mark text within is said =
    said (1 + lines_in (take at s.marks.now)) ∙ sym (ap (token_text s.bytes.now) (token_at s at (Some mark) (read_at s at mark within is)))

pub no_text : (s : Source) (at : ℕ) → length s.marks.now ≤ at → [] ≡ text_at s at
no_text s at past = sym (ap (token_text s.bytes.now) (token_at s at None (slice_get_past s.marks.now at past)))

pub sign_said : (s : Source) (at : ℕ) (mark : Mark) (said : Sign) → at < length s.marks.now → mark ≡ get_or s.marks.now at mark → said ≡ sign_of (kind_of mark)
    → said ≡ sign_in (slice_get (file_tokens s) at)
sign_said s at mark said within is of = of ∙ sym (ap sign_in (token_at s at (Some mark) (read_at s at mark within is)))

-- COMPARISONS

kind_at : (s : Source) (at : ℕ) (o : Option Mark) → slice_get s.marks.now at ≡ o → slice_get (kinds (file_tokens s)) at ≡ option_map kind_of o
kind_at s at o is =
    ap (λ ks. slice_get ks at) (kinds-tokens_in s.bytes.now 1 s.marks.now)
    ∙ slice_get-map kind_of s.marks.now at
    ∙ ap (option_map kind_of) is

-- where one stands, there is a token
pub test_there : (s : Source) (at : ℕ) → TestStands (kinds (file_tokens s)) at → length s.marks.now ≤ at → ⊥
test_there s at (test, stands, is_test) past =
    none-some test (sym (kind_at s at None (slice_get_past s.marks.now at past)) ∙ stands)

pub test_said : (s : Source) (at : ℕ) (mark : Mark) → at < length s.marks.now → mark ≡ get_or s.marks.now at mark → TestStands (kinds (file_tokens s)) at
    → IsTest (kind_of mark)
test_said s at mark within is (test, stands, is_test) =
    subst IsTest (same_Some test (kind_of mark) (sym stands ∙ kind_at s at (Some mark) (read_at s at mark within is))) is_test

pub one_test : (kind : TokenKind) → IsTest kind → (kind ≡ token.Equal → ⊥) → (kind ≡ token.NotEqual → ⊥) → (kind ≡ token.Less → ⊥)
    → (kind ≡ token.LessEqual → ⊥) → (kind ≡ token.Greater → ⊥) → (kind ≡ token.GreaterEqual → ⊥) → ⊥
one_test token.Equal is equal not_equal less less_equal greater greater_equal = equal refl
one_test token.NotEqual is equal not_equal less less_equal greater greater_equal = not_equal refl
one_test token.Less is equal not_equal less less_equal greater greater_equal = less refl
one_test token.LessEqual is equal not_equal less less_equal greater greater_equal = less_equal refl
one_test token.Greater is equal not_equal less less_equal greater greater_equal = greater refl
one_test token.GreaterEqual is equal not_equal less less_equal greater greater_equal = greater_equal refl
one_test _ is equal not_equal less less_equal greater greater_equal = is

-- LINES

pub no_line : (s : Source) (at : ℕ) → length s.marks.now ≤ at → 0 ≡ line_at s at
no_line s at past =
    sym (ap token_line (slice_get_past (file_tokens s) at (omega (arith, length-tokens_in s.bytes.now 1 s.marks.now))))

pub line_there : (s : Source) (at : ℕ) → at < length s.marks.now → 1 + lines_in (take at s.marks.now) ≡ line_at s at
line_there s at within = sym (line-tokens_in s.bytes.now 1 s.marks.now at within)

-- the ends of lines up to a place, and from there to another
lines_more : (marks : List Mark) (a n : ℕ) → lines_in (take (a + n) marks) ≡ lines_in (take a marks) + lines_in (take n (drop a marks))
lines_more marks a n = ap lines_in (take-add a n marks) ∙ lines_in-append (take a marks) (take n (drop a marks))

-- from where a cursor stands to a place after it
pub lines_to : (s : Source) (start : LineCursor) (place : ℕ) → IsOn s start → start.place ≤ place →
    start.line + lines_in (take (place - start.place) (drop start.place s.marks.now)) ≡ 1 + lines_in (take place s.marks.now)
lines_to s start place on before =
    let n = place - start.place in
    let there : start.place + n ≡ place = omega arith in
    let sum = sym (ap (λ k. lines_in (take k s.marks.now)) there) ∙ lines_more s.marks.now start.place n in
    omega (arith, on.line, sum)

-- there are at most as many lines as tokens
pub lines_few : (marks : List Mark) (place : ℕ) → lines_in (take place marks) ≤ length marks
lines_few marks place = omega (arith, lines_in-le (take place marks), length-take place marks)

-- ALL TOKENS

pub few_marks : (bytes : List ℕ) (marks : List Mark) → tokens_in bytes 1 marks ≡ up_to_bad (tokens_of bytes) → length marks ≤ length bytes + 2
few_marks bytes marks lexed = omega (arith, length-tokens_in bytes 1 marks, ap length lexed, lexed-few bytes)

pub marks_ended : (bytes : List ℕ) (marks : List Mark) → tokens_in bytes 1 marks ≡ up_to_bad (tokens_of bytes) → IsEnded (map kind_of marks)
marks_ended bytes marks lexed = subst IsEnded (ap kinds (sym lexed) ∙ kinds-tokens_in bytes 1 marks) (lexed-ended bytes)

pub kinds_in_file : (s : Source) (marks : List Mark) → marks ≡ s.marks.now → map kind_of marks ≡ kinds (file_tokens s)
kinds_in_file s marks is = ap (map kind_of) is ∙ sym (kinds-tokens_in s.bytes.now 1 s.marks.now)
