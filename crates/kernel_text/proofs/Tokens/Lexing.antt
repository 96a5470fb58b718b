-- The marks of a lexer: what each turn of its loop adds to the tokens that they are.
use Rattle.std.proofs.Common.{◌≡◌, ℕ, ◌+◌, ◌<◌, ◌≤◌, ◌==◌, true, false, List, [], ◌∷◌, ◌++◌, length, drop, get_or, Option, Some, None, refl, sym, ◌∙◌, ap, ⊎_elim, arith, add-zero, length-drop, get_or-drop, append-nil}
use Rattle.std.proofs.lemmas.Bool.{cases_Bool, cond-true, cond-false, eqb-true, eq-eqb}
use Rattle.frame_grammar.specs.declared.token_kind.TokenKind.{TokenKind}
use Rattle.frame_grammar.specs.declared.token_kind.TokenKind.TheVariants.{Line, End, Bad}
use Rattle.kernel_text.specs.declared.token.Token.{Token}
use Rattle.kernel_text.specs.declared.mark.Mark.{Mark}
use Rattle.kernel_text.specs.Tokens.{front_kind, front_len, token_at, line_after, tokens_from, is_bad, end_at, up_to_bad}
use Rattle.kernel_text.specs.Marks.{kind_of, start_of, line_behind, end_in, tokens_in, lines_in}
use Rattle.kernel_text.proofs.Words.Fronts.{front_line}
use Rattle.kernel_text.proofs.Tokens.TokenLemmas.{front_kind-Line, front_kind-End}
use Rattle.kernel_text.proofs.Marks.{tokens_in-push, lines_in-append}
use Rattle.kernel_text.proofs.Tokens.Steps.{turn, last_turn}

-- the line behind what stands at the front, if it is a token
abbrev pub line_behind_word : Option TokenKind → ℕ → ℕ
line_behind_word None line = line
line_behind_word (Some kind) line = line_behind kind line

-- A line ends just where its end is a token.
other_line : (kind : TokenKind) (line : ℕ) → (kind ≡ Line → ⊥) → line_behind kind line ≡ line
other_line Line line other = absurd (other refl)
other_line _ line other = refl

other_word : (found : Option TokenKind) (line : ℕ) → (found ≡ Some Line → ⊥) → line_behind_word found line ≡ line
other_word None line other = refl
other_word (Some kind) line other = other_line kind line (λ is. other (ap Some is))

line_of_word : (bytes : List ℕ) (line : ℕ) → 0 < length bytes → line_after (get_or bytes 0 0) line ≡ line_behind_word (front_kind bytes) line
line_of_word bytes line some =
    ⊎_elim
    (λ feed. cond-true _ _ _ feed ∙ ap (λ k. line_behind_word k line) (front_line bytes some (eqb-true (get_or bytes 0 0) 10 feed)).kind_is)
    (λ none. cond-false _ _ _ none
    ∙ sym (other_word (front_kind bytes) line (λ is. let feed = eq-eqb (get_or bytes 0 0) 10 (front_kind-Line bytes is) in
    let clash : true ≡ false = sym feed ∙ none in cc)))
    (cases_Bool (get_or bytes 0 0 == 10))

pub line_at_word : (source : List ℕ) (place line : ℕ) (found : Option TokenKind) → place < length source → found ≡ front_kind (drop place source) →
    line_after (get_or source place 0) line ≡ line_behind_word found line
line_at_word source place line found within is =
    let byte_is : get_or (drop place source) 0 0 ≡ get_or source place 0 = get_or-drop place source 0 0 ∙ ap (λ n. get_or source n 0) (add-zero place) in
    ap (λ b. line_after b line) (sym byte_is) ∙ line_of_word (drop place source) line (omega (arith, length-drop place source))
    ∙ ap (λ k. line_behind_word k line) (sym is)

-- where a token ends that is no end of the file
end_behind : (source : List ℕ) (kind : TokenKind) (start : ℕ) → (kind ≡ End → ⊥) → end_in source kind start ≡ start + front_len (drop start source)
end_behind source End start other = absurd (other refl)
end_behind source _ start other = refl

-- the mark of a token that stands at a place is that token behind others
pub word_pushed : (source : List ℕ) (line place end : ℕ) (kind : TokenKind) (before : List Mark) (mark : Mark) → kind_of mark ≡ kind → start_of mark ≡ place →
    Some kind ≡ front_kind (drop place source) → end ≡ place + front_len (drop place source) →
    tokens_in source line (before ++ mark ∷ []) ≡ tokens_in source line before ++ token_at (Some kind) place end (line + lines_in before)
word_pushed source line place end kind before mark kind_is start_is found end_is =
    let same_end : end_in source (kind_of mark) (start_of mark) ≡ end =
    (λ i. end_in source (kind_is i) (start_is i)) ∙ end_behind source kind place (front_kind-End _ kind (sym found)) ∙ sym end_is in
    tokens_in-push source line before mark
    ∙ (λ i. tokens_in source line before ++ record { kind = kind_is i; start = start_is i; end = same_end i; line = line + lines_in before } ∷ [])

-- the mark of an end
pub end_pushed : (source : List ℕ) (line place : ℕ) (before : List Mark) (mark : Mark) → kind_of mark ≡ End → start_of mark ≡ place →
    tokens_in source line (before ++ mark ∷ []) ≡ tokens_in source line before ++ end_at place (line + lines_in before) ∷ []
end_pushed source line place before mark kind_is start_is =
    let same_end : end_in source (kind_of mark) (start_of mark) ≡ place = (λ i. end_in source (kind_is i) (start_is i)) in
    tokens_in-push source line before mark
    ∙ (λ i. tokens_in source line before ++ record { kind = kind_is i; start = start_is i; end = same_end i; line = line + lines_in before } ∷ [])

-- the line behind the marks with one more
pub lines_pushed : (line : ℕ) (before : List Mark) (mark : Mark) (kind : TokenKind) → kind_of mark ≡ kind
    → line + lines_in (before ++ mark ∷ []) ≡ line_behind kind (line + lines_in before)
lines_pushed line before mark kind kind_is =
    ap (λ n. line + n) (lines_in-append before (mark ∷ []) ∙ ap (λ k. lines_in before + line_behind k 0) kind_is) ∙ moved kind (lines_in before)
  where
    moved : (k : TokenKind) (n : ℕ) → line + (n + line_behind k 0) ≡ line_behind k (line + n)
    moved Line n = omega arith
    moved _ n = omega arith

-- the marks so far, and the tokens from a place on, up to a Bad one, are the file's
abbrev pub SoFar : List ℕ → ℕ → List Mark → List Token → Type 0
SoFar source place marks all = tokens_in source 1 marks ++ up_to_bad (tokens_from 0 place (1 + lines_in marks) (drop place source)) ≡ all

-- one turn of the lexer, at what is no token
pub nothing_turn : (source : List ℕ) (place end : ℕ) (found : Option TokenKind) (marks : List Mark) (all : List Token) → place < length source →
    found ≡ front_kind (drop place source) → end ≡ place + front_len (drop place source) → place < end → end ≤ length source →
    found ≡ None → SoFar source place marks all → SoFar source end marks all
nothing_turn source place end found marks all within found_is end_is some room is so_far =
    let line = 1 + lines_in marks in
    let tokens = tokens_in source 1 marks in
    let added : tokens ≡ tokens ++ token_at found place end line = sym (append-nil tokens) ∙ ap (λ k. tokens ++ token_at k place end line) (sym is) in
    ap (λ l. tokens ++ up_to_bad (tokens_from 0 end l (drop end source)))
    (sym (line_at_word source place line found within found_is ∙ ap (λ k. line_behind_word k line) is))
    ∙ turn source place line end found tokens tokens all within found_is end_is some room (λ k e. let clash = sym is ∙ e in cc) added so_far

-- one at a token that is not Bad
pub mark_turn : (source : List ℕ) (place end : ℕ) (found : Option TokenKind) (kind : TokenKind) (before after : List Mark) (mark : Mark) (all : List Token)
    → place < length source →
    found ≡ front_kind (drop place source) → end ≡ place + front_len (drop place source) → place < end → end ≤ length source →
    found ≡ Some kind → is_bad kind ≡ false → kind_of mark ≡ kind → start_of mark ≡ place → after ≡ before ++ mark ∷ [] →
    SoFar source place before all → SoFar source end after all
mark_turn source place end found kind before after mark all within found_is end_is some room is fine kind_is start_is same so_far =
    let line = 1 + lines_in before in
    let tokens = tokens_in source 1 before in
    let added : tokens_in source 1 after ≡ tokens ++ token_at found place end line =
    ap (tokens_in source 1) same ∙ word_pushed source 1 place end kind before mark kind_is start_is (sym is ∙ found_is) end_is
    ∙ ap (λ k. tokens ++ token_at k place end line) (sym is) in
    ap (λ l. tokens_in source 1 after ++ up_to_bad (tokens_from 0 end l (drop end source)))
    (ap (λ ms. 1 + lines_in ms) same ∙ lines_pushed 1 before mark kind kind_is
    ∙ sym (line_at_word source place line found within found_is ∙ ap (λ k. line_behind_word k line) is))
    ∙ turn source place line end found tokens (tokens_in source 1 after) all within found_is end_is some room
    (λ k e. let again : Some kind ≡ Some k = sym is ∙ e in let kind_same : kind ≡ k = cc in ap is_bad (sym kind_same) ∙ fine) added so_far

bad_line : (kind : TokenKind) (line : ℕ) → is_bad kind ≡ true → line_behind kind line ≡ line
bad_line Bad line bad = refl
bad_line _ line bad = cc

-- its last turn, at a Bad token
pub last_mark : (source : List ℕ) (place end : ℕ) (kind : TokenKind) (before after whole : List Mark) (mark : Mark) (all : List Token) → place < length source →
    Some kind ≡ front_kind (drop place source) → end ≡ place + front_len (drop place source) → place < end → end ≤ length source → is_bad kind ≡ true →
    kind_of mark ≡ kind → start_of mark ≡ place → after ≡ before ++ mark ∷ [] →
    tokens_in source 1 whole ≡ tokens_in source 1 after ++ end_at end (1 + lines_in after) ∷ [] → SoFar source place before all → tokens_in source 1 whole ≡ all
last_mark source place end kind before after whole mark all within found_is end_is some room bad kind_is start_is same whole_is so_far =
    let line_is : 1 + lines_in after ≡ 1 + lines_in before =
    ap (λ ms. 1 + lines_in ms) same ∙ lines_pushed 1 before mark kind kind_is ∙ bad_line kind (1 + lines_in before) bad in
    whole_is ∙ ap (λ l. tokens_in source 1 after ++ end_at end l ∷ []) line_is
    ∙ last_turn source place (1 + lines_in before) end kind (tokens_in source 1 before) (tokens_in source 1 after) all within found_is end_is some room bad
    (ap (tokens_in source 1) same ∙ word_pushed source 1 place end kind before mark kind_is start_is found_is end_is) so_far
