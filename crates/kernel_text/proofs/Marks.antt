-- Tokens in 32 bits: the numbers of kinds, and the tokens that marks are in a file.
use Rattle.std.proofs.Common.{◌≡◌, ℕ, zero, suc, ◌+◌, ◌<◌, ◌≤◌, ◌==◌, true, List, [], ◌∷◌, ◌++◌, length, map, take, drop, slice_get, get_or, Some, None, option_map, All, ◌%◌, refl, sym, ◌∙◌, ap, arith}
use Rattle.std.proofs.Math.Nat.{div-add-mod}
use Rattle.std.proofs.lemmas.Bool.{agree_below_at, eqb-true}
use Rattle.std.proofs.lemmas.List.Elements.{All-head, All-tail}
use Rattle.std.proofs.lemmas.List.{drop_more}
use Rattle.std.proofs.lemmas.Option.{slice_get_read, slice_get_past}
use denote.Enum.Declared.{tag_of}
use Rattle.frame_grammar.specs.declared.token_kind.TokenKind.{TokenKind}
use Rattle.frame_grammar.specs.declared.token_kind.TokenKind.TheVariants as kind
use Rattle.frame_grammar.specs.contracts.token_kind.TokenKind.{the_type}
use Rattle.kernel_text.specs.declared.token.Token.{Token}
use Rattle.kernel_text.specs.declared.mark.Mark.{Mark}
use Rattle.kernel_text.specs.Marks.{kind_numbered, kind_of, start_of, IsOfKind, is_line, line_behind, token_in, tokens_in, lines_in}
use Rattle.kernel_text.specs.Tokens.{kinds, token_line}

-- each kind has its number
pub numbered : (k : TokenKind) → kind_numbered (tag_of the_type k) ≡ k
unfolding kind_numbered
numbered kind.Name = refl
numbered kind.Number = refl
numbered kind.Text = refl
numbered kind.Line = refl
numbered kind.End = refl
numbered kind.Bad = refl
numbered kind.OpenBrace = refl
numbered kind.CloseBrace = refl
numbered kind.OpenParen = refl
numbered kind.CloseParen = refl
numbered kind.OpenBracket = refl
numbered kind.CloseBracket = refl
numbered kind.Comma = refl
numbered kind.Semicolon = refl
numbered kind.Colon = refl
numbered kind.Assign = refl
numbered kind.Equal = refl
numbered kind.NotEqual = refl
numbered kind.Less = refl
numbered kind.LessEqual = refl
numbered kind.Greater = refl
numbered kind.GreaterEqual = refl
numbered kind.Plus = refl
numbered kind.Minus = refl
numbered kind.Star = refl
numbered kind.Slash = refl
numbered kind.Percent = refl
numbered kind.Not = refl
numbered kind.AndAnd = refl
numbered kind.OrOr = refl
numbered kind.DotDot = refl
numbered kind.Job = refl
numbered kind.Parallel = refl
numbered kind.Ro = refl
numbered kind.Wo = refl
numbered kind.Rw = refl
numbered kind.Int = refl
numbered kind.Array = refl
numbered kind.List = refl
numbered kind.Ref = refl
numbered kind.Map = refl
numbered kind.Stream = refl
numbered kind.By = refl
numbered kind.Var = refl
numbered kind.If = refl
numbered kind.Else = refl
numbered kind.For = refl
numbered kind.In = refl
numbered kind.While = refl
numbered kind.Begin = refl
numbered kind.Write = refl
numbered kind.Add = refl
numbered kind.Remove = refl
numbered kind.Clear = refl
numbered kind.TryAdd = refl
numbered kind.Len = refl
numbered kind.Has = refl
numbered kind.Count = refl
numbered kind.At = refl
numbered kind.Index = refl
numbered kind.Column = refl
numbered kind.Reference = refl
numbered kind.Slice = refl
numbered kind.View = refl
numbered kind.Copy = refl
numbered kind.Set = refl
numbered kind.Put = refl
numbered kind.SetCapacity = refl
numbered kind.Schedule = refl
numbered kind.Waive = refl
numbered kind.After = refl
numbered kind.Combine = refl
numbered kind.Complete = refl
numbered kind.Dispose = refl
numbered kind.As = refl
numbered kind.Print = refl
numbered kind.Flush = refl
numbered kind.Repeat = refl
numbered kind.Frame = refl
numbered kind.Temp = refl
numbered kind.TempJob = refl
numbered kind.Persistent = refl
numbered kind.Defer = refl
numbered kind.Auto = refl
numbered kind.When = refl

-- the end of a line is told by its number
pub line_numbered : (number : ℕ) → number < 128 → is_line (kind_numbered number) ≡ (number == 3)
unfolding kind_numbered
line_numbered number small = agree_below_at (λ n. is_line (kind_numbered n)) (λ n. n == 3) 128 number refl small

-- a kind's number is that of the mark
kind_back : (number : ℕ) → number < 85 → (tag_of the_type (kind_numbered number) == number) ≡ true
unfolding kind_numbered
kind_back number small = agree_below_at (λ n. tag_of the_type (kind_numbered n) == n) (λ n. true) 85 number refl small

number_back : (m : Mark) → IsOfKind m → tag_of the_type (kind_of m) ≡ m.word % 128
number_back m small = eqb-true _ _ (kind_back (m.word % 128) small)

mark_once : (m n : Mark) → IsOfKind m → IsOfKind n → kind_of m ≡ kind_of n → start_of m ≡ start_of n → m ≡ n
mark_once m n small small' kind start =
    let number : m.word % 128 ≡ n.word % 128 = sym (number_back m small) ∙ ap (tag_of the_type) kind ∙ number_back n small' in
    let word : m.word ≡ n.word = omega (arith, number, start, div-add-mod m.word 128, div-add-mod n.word 128) in
    λ i. record { word = word i }

head_same : (t u : Token) (ts us : List Token) → t ∷ ts ≡ u ∷ us → t ≡ u
head_same t u ts us same = ap (λ xs. get_or xs 0 t) same

-- tokens have one list of marks
pub marks_once : (source : List ℕ) (line : ℕ) (ms ns : List Mark) → All IsOfKind ms → All IsOfKind ns → tokens_in source line ms ≡ tokens_in source line ns
    → ms ≡ ns
marks_once source line [] [] a b same = refl
marks_once source line [] (n ∷ ns) a b same = let lengths = ap length same in absurd (omega (arith, lengths))
marks_once source line (m ∷ ms) [] a b same = let lengths = ap length same in absurd (omega (arith, lengths))
marks_once source line (m ∷ ms) (n ∷ ns) a b same =
    let first = head_same _ _ _ _ same in
    let kind : kind_of m ≡ kind_of n = ap (λ t. t.kind) first in
    let here = mark_once m n (All-head IsOfKind m ms a) (All-head IsOfKind n ns b) kind (ap (λ t. t.start) first) in
    let behind = ap (drop 1) same ∙ ap (λ k. tokens_in source (line_behind k line) ns) (sym kind) in
    ap (λ x. x ∷ ms) here ∙ ap (λ xs. n ∷ xs) (marks_once source (line_behind (kind_of m) line) ms ns (All-tail IsOfKind m ms a)
    (All-tail IsOfKind n ns b) behind)

-- LINES

pub line_behind-plus : (k : TokenKind) (line more : ℕ) → line_behind k (line + more) ≡ line_behind k line + more
line_behind-plus kind.Line line more = omega arith
line_behind-plus _ line more = refl

pub line_behind-le : (k : TokenKind) (line : ℕ) → line_behind k line ≤ line + 1
line_behind-le kind.Line line = omega arith
line_behind-le _ line = omega arith

pub lines_in-le : (marks : List Mark) → lines_in marks ≤ length marks
lines_in-le [] = omega arith
lines_in-le (mark ∷ marks) = omega (arith, line_behind-le (kind_of mark) (lines_in marks), lines_in-le marks)

-- the lines of the tokens from a place on
pub lines_in-drop : (marks : List Mark) (i : ℕ) (d : Mark) → i < length marks
    → lines_in (drop i marks) ≡ line_behind (kind_of (get_or marks i d)) (lines_in (drop (i + 1) marks))
lines_in-drop marks i d within = ap lines_in (drop_more marks i d within)

pub line_ends : (k : TokenKind) (line : ℕ) → is_line k ≡ true → line_behind k line ≡ line + 1
line_ends kind.Line line ends = refl
line_ends _ line ends = cc

-- the line behind a token and others
pub lines_behind : (line : ℕ) (mark : Mark) (marks : List Mark) → line_behind (kind_of mark) line + lines_in marks ≡ line + lines_in (mark ∷ marks)
lines_behind line mark marks = omega (
  arith,
  line_behind-plus (kind_of mark) line (lines_in marks),
  line_behind-plus (kind_of mark) (lines_in marks) line,
  ap (line_behind (kind_of mark)) (turned line (lines_in marks)),
)
  where
    turned : (a b : ℕ) → a + b ≡ b + a
    turned a b = omega arith

-- TOKENS

-- first tokens, and those behind them
pub tokens_in-append : (source : List ℕ) (line : ℕ) (front marks : List Mark) →
    tokens_in source line (front ++ marks) ≡ tokens_in source line front ++ tokens_in source (line + lines_in front) marks
tokens_in-append source line [] marks = let same : line ≡ line + 0 = omega arith in ap (λ l. tokens_in source l marks) same
tokens_in-append source line (mark ∷ front) marks =
    ap (λ ts. token_in source line mark ∷ ts)
    (tokens_in-append source (line_behind (kind_of mark) line) front marks
    ∙ ap (λ l. tokens_in source (line_behind (kind_of mark) line) front ++ tokens_in source l marks) (lines_behind line mark front))

-- a token behind others
pub tokens_in-push : (source : List ℕ) (line : ℕ) (marks : List Mark) (mark : Mark) →
    tokens_in source line (marks ++ mark ∷ []) ≡ tokens_in source line marks ++ token_in source (line + lines_in marks) mark ∷ []
tokens_in-push source line marks mark = tokens_in-append source line marks (mark ∷ [])

pub lines_in-append : (front marks : List Mark) → lines_in (front ++ marks) ≡ lines_in front + lines_in marks
lines_in-append [] marks = omega arith
lines_in-append (mark ∷ front) marks =
    ap (line_behind (kind_of mark)) (lines_in-append front marks) ∙ line_behind-plus (kind_of mark) (lines_in front) (lines_in marks)

pub length-tokens_in : (source : List ℕ) (line : ℕ) (marks : List Mark) → length (tokens_in source line marks) ≡ length marks
length-tokens_in source line [] = refl
length-tokens_in source line (mark ∷ marks) = ap suc (length-tokens_in source (line_behind (kind_of mark) line) marks)

pub kinds-tokens_in : (source : List ℕ) (line : ℕ) (marks : List Mark) → kinds (tokens_in source line marks) ≡ map kind_of marks
kinds-tokens_in source line [] = refl
kinds-tokens_in source line (mark ∷ marks) = ap (λ ks. kind_of mark ∷ ks) (kinds-tokens_in source (line_behind (kind_of mark) line) marks)

-- the token at a place
pub slice_get-tokens_in : (source : List ℕ) (line : ℕ) (marks : List Mark) (at : ℕ) →
    slice_get (tokens_in source line marks) at ≡ option_map (token_in source (line + lines_in (take at marks))) (slice_get marks at)
slice_get-tokens_in source line [] at = refl
slice_get-tokens_in source line (mark ∷ marks) zero = let same : line ≡ line + 0 = omega arith in ap (λ l. Some (token_in source l mark)) same
slice_get-tokens_in source line (mark ∷ marks) (suc at) =
    slice_get-tokens_in source (line_behind (kind_of mark) line) marks at
    ∙ ap (λ l. option_map (token_in source l) (slice_get marks at)) (lines_behind line mark (take at marks))

-- the token of the mark that stands at a place
pub token_there : (source : List ℕ) (line : ℕ) (marks : List Mark) (at : ℕ) (mark : Mark) → at < length marks → mark ≡ get_or marks at mark →
    slice_get (tokens_in source line marks) at ≡ Some (token_in source (line + lines_in (take at marks)) mark)
token_there source line marks at mark within is =
    slice_get-tokens_in source line marks at ∙ ap (option_map (token_in source (line + lines_in (take at marks))))
    (slice_get_read marks (length marks) at mark refl within is)

pub no_token : (source : List ℕ) (line : ℕ) (marks : List Mark) (at : ℕ) → length marks ≤ at → slice_get (tokens_in source line marks) at ≡ None
no_token source line marks at past = slice_get_past (tokens_in source line marks) at (omega (arith, length-tokens_in source line marks))

-- the tokens from a place on
pub drop-tokens_in : (source : List ℕ) (line : ℕ) (at : ℕ) (marks : List Mark) →
    drop at (tokens_in source line marks) ≡ tokens_in source (line + lines_in (take at marks)) (drop at marks)
drop-tokens_in source line zero marks = let same : line ≡ line + 0 = omega arith in ap (λ l. tokens_in source l marks) same
drop-tokens_in source line (suc at) [] = refl
drop-tokens_in source line (suc at) (mark ∷ marks) =
    drop-tokens_in source (line_behind (kind_of mark) line) at marks
    ∙ ap (λ l. tokens_in source l (drop at marks)) (lines_behind line mark (take at marks))

-- the line of the token at a place
pub line-tokens_in : (source : List ℕ) (line : ℕ) (marks : List Mark) (at : ℕ) → at < length marks →
    token_line (slice_get (tokens_in source line marks) at) ≡ line + lines_in (take at marks)
line-tokens_in source line [] at within = absurd (omega arith)
line-tokens_in source line (mark ∷ marks) zero within = omega arith
line-tokens_in source line (mark ∷ marks) (suc at) within =
    line-tokens_in source (line_behind (kind_of mark) line) marks at (omega arith) ∙ lines_behind line mark (take at marks)
