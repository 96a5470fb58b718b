-- What rows are written in: tokens by their spelling, and where actions are noted among them.
use Prim.Native.String.{String}
use Rattle.std.proofs.Common.{◌≡◌, ℕ, ◌+◌, ◌==◌, ◌&&◌, Bool, true, false, List, [], ◌∷◌, ◌++◌, length, codes, refl, inl, inr, sym, ◌∙◌, subst, arith, take, take_all, length-append}
use Rattle.std.proofs.lemmas.Bool.{eqb-true}
use Rattle.std.proofs.lemmas.List.{append-nil}
use Rattle.std.specs.Prelude.{unwrap_or}
use Rattle.frame_grammar.specs.declared.token_kind.TokenKind.{TokenKind}
use Rattle.frame_grammar.specs.declared.token_kind.TokenKind.TheVariants.{Line, End, Bad}
use Rattle.frame_grammar.specs.declared.token_kind.TokenKind.TheVariants as kind
use Rattle.grammar_table.proofs.Checks.{same_kind_true}
use Rattle.std.specs.List.{list_all}
use Rattle.frame_grammar.specs.declared.symbols.Nonterminal.{Nonterminal}
use Rattle.frame_grammar.specs.declared.symbols.Nonterminal.TheVariants.{File, Kernel}
use Rattle.frame_grammar.specs.declared.symbols.Action.{Action}
use Rattle.frame_grammar.specs.declared.symbols.Action.TheVariants as action
use Rattle.frame_grammar.specs.declared.symbols.Event.{Event}
use Rattle.frame_grammar.specs.Sentences.{IsStart, IsSentence, IsViable, IsOnlySentence}
use Rattle.grammar_table.specs.Stack.{has_kind}
use Rattle.kernel_text.specs.Spellings.{spelling_of, symbols, reserved_words}
use Rattle.kernel_text.specs.Words.{is_name, is_number, is_text, closes_text, kind_of}
use Rattle.frame_grammar.specs.Bodies.{body_of}
use Rattle.grammar_table.specs.Table.{choices_of, default_of}
use Rattle.grammar_table.specs.Predict.{same_kind}
use Rattle.grammar_rows.proofs.Walk.{Found, found_in, Says, says}

-- the kind of the token that is spelled so
abbrev pub said : String → TokenKind
said s = unwrap_or (kind_of (codes s)) Bad

abbrev pub quoted : String → TokenKind
quoted s = unwrap_or (kind_of (34 ∷ codes s ++ 34 ∷ [])) Bad

-- A token, or an action that is noted before the next token. A name, a number, a text and an operator are tokens before
-- which the action of their kind is noted.
pub data Mark : Type 0 where
  word : String → Mark
  name : String → Mark
  number : String → Mark
  text : String → Mark
  operator : String → Mark
  line : Mark
  end : Mark
  note : Action → Mark

abbrev pub tokens_in : List Mark → List TokenKind
tokens_in [] = []
tokens_in (word s ∷ ms) = said s ∷ tokens_in ms
tokens_in (name s ∷ ms) = said s ∷ tokens_in ms
tokens_in (number s ∷ ms) = said s ∷ tokens_in ms
tokens_in (text s ∷ ms) = quoted s ∷ tokens_in ms
tokens_in (operator s ∷ ms) = said s ∷ tokens_in ms
tokens_in (line ∷ ms) = Line ∷ tokens_in ms
tokens_in (end ∷ ms) = End ∷ tokens_in ms
tokens_in (note a ∷ ms) = tokens_in ms

abbrev noted : Action → ℕ → Event
noted a place = record { action = a; place = place }

-- the events of these marks, where so many tokens stand before them
abbrev pub events_in : ℕ → List Mark → List Event
events_in n [] = []
events_in n (word s ∷ ms) = events_in (n + 1) ms
events_in n (name s ∷ ms) = noted action.Name n ∷ events_in (n + 1) ms
events_in n (number s ∷ ms) = noted action.Number n ∷ events_in (n + 1) ms
events_in n (text s ∷ ms) = noted action.Text n ∷ events_in (n + 1) ms
events_in n (operator s ∷ ms) = noted action.Operator n ∷ events_in (n + 1) ms
events_in n (line ∷ ms) = events_in (n + 1) ms
events_in n (end ∷ ms) = events_in (n + 1) ms
events_in n (note a ∷ ms) = noted a n ∷ events_in n ms

abbrev line_after : Mark → List Mark
line_after (note a) = []
line_after m = line ∷ []

-- the same with an end of a line after each token but the last
abbrev pub lined : List Mark → List Mark
lined [] = []
lined (m ∷ []) = m ∷ []
lined (m ∷ next ∷ ms) = m ∷ line_after m ++ lined (next ∷ ms)

-- These marks are the only sentence that their tokens begin with, and all of them.
abbrev pub Reads : Nonterminal → List Mark → Type 0
Reads start marks = IsOnlySentence start (tokens_in marks) (length (tokens_in marks)) (events_in 0 marks)

-- more steps than any row takes
abbrev pub most_steps : ℕ
most_steps = 10000

abbrev pub Computes : Nonterminal → List Mark → Type 0
Computes start marks = found_in most_steps start (tokens_in marks) ≡ Found.Sentence (length (tokens_in marks)) (events_in 0 marks)

reads : (start : Nonterminal) (marks : List Mark) → IsStart start → Computes start marks → Reads start marks
reads start marks is_start e = subst (Says start (tokens_in marks)) e (says most_steps start (tokens_in marks) is_start)

-- A kernel: line ends may follow each token but its last, and a file may be it alone.
pub record ReadsKernel (marks : List Mark) : Type 0 where
  pub whole : Reads Kernel marks
  pub lines : Reads Kernel (lined marks)
  pub file : Reads File (marks ++ end ∷ [])

pub kernel_reads : {marks : List Mark} → Computes Kernel marks → Computes Kernel (lined marks) → Computes File (marks ++ end ∷ []) → ReadsKernel marks
kernel_reads {marks} e f g = record {
  whole = reads Kernel marks (inr refl) e;
  lines = reads Kernel (lined marks) (inr refl) f;
  file = reads File (marks ++ end ∷ []) (inl refl) g;
}

-- a statement as a whole file
abbrev pub alone : List Mark → List Mark
alone marks = note action.StartStatement ∷ marks ++ end ∷ []

-- `repeat 2 {`, two lines that are the statement, and `}`
abbrev pub twice : List Mark → List Mark
twice marks =
    note action.StartStatement ∷ word "repeat" ∷ number "2" ∷ note action.OpenRepeat ∷ word "{" ∷ line
    ∷ note action.StartStatement ∷ marks ++ line
    ∷ note action.StartStatement ∷ marks ++ line
    ∷ word "}" ∷ note action.RepeatStatement ∷ end ∷ []

-- the statement between two lines that are empty
abbrev pub between : List Mark → List Mark
between marks = line ∷ note action.StartStatement ∷ marks ++ line ∷ line ∷ end ∷ []

-- A statement: alone in a file, between its lines, and in a block.
pub record ReadsStatement (marks : List Mark) : Type 0 where
  pub file : Reads File (alone marks)
  pub lines : Reads File (between marks)
  pub block : Reads File (twice marks)

pub statement_reads : {marks : List Mark} → Computes File (alone marks) → Computes File (between marks) → Computes File (twice marks) → ReadsStatement marks
statement_reads {marks} e f g = record {
  file = reads File (alone marks) (inl refl) e;
  lines = reads File (between marks) (inl refl) f;
  block = reads File (twice marks) (inl refl) g;
}

-- A file that is no kernel alone and no statement alone.
pub record ReadsFile (marks : List Mark) : Type 0 where
  pub file : Reads File marks

pub file_reads : {marks : List Mark} → Computes File marks → ReadsFile marks
file_reads {marks} e = record { file = reads File marks (inl refl) e }

-- with what rows compute
unfoldable pub tables : Unit {0}
unfolding spelling_of symbols reserved_words is_name is_number is_text closes_text kind_of body_of choices_of default_of same_kind
tables = tt

-- whether what is found after a token fits whether it may stand there
abbrev fits : Bool → ℕ → Found → Bool
fits true n Found.Unfinished = true
fits true n (Found.Sentence m events) = m == n + 1
fits false n (Found.Stopped place) = place == n
fits _ n _ = false

-- The tokens after which a sentence may go on from these marks are of these kinds.
pub record GoesOnBy (start : Nonterminal) (marks : List Mark) (kinds : List TokenKind) : Type 0 where
  pub may : (k : TokenKind) → has_kind kinds k ≡ true → IsViable start (tokens_in marks ++ k ∷ [])
  pub only : (k : TokenKind) → IsViable start (tokens_in marks ++ k ∷ []) → has_kind kinds k ≡ true

viable_where : (start : Nonterminal) (tokens : List TokenKind) (k : TokenKind) (found : Found) → Says start (tokens ++ k ∷ []) found
    → fits true (length tokens) found ≡ true → IsViable start (tokens ++ k ∷ [])
viable_where start tokens k Found.Unfinished says e = says
viable_where start tokens k (Found.Sentence m events) says e =
    let whole : take m (tokens ++ k ∷ []) ≡ tokens ++ k ∷ [] = take_all m (tokens ++ k ∷ [])
    (omega (arith, eqb-true m (length tokens + 1) e, length-append tokens (k ∷ []))) in
    ([], events, subst (IsSentence start events) (whole ∙ sym (append-nil (tokens ++ k ∷ []))) says.sentence)
viable_where start tokens k (Found.Stopped place) says e = cc
viable_where start tokens k Found.Tired says e = cc

not_viable_where : (start : Nonterminal) (tokens : List TokenKind) (k : TokenKind) (found : Found) → Says start (tokens ++ k ∷ []) found
    → fits false (length tokens) found ≡ true → IsViable start (tokens ++ k ∷ []) → ⊥
not_viable_where start tokens k (Found.Stopped place) says e v =
    let whole : take (place + 1) (tokens ++ k ∷ []) ≡ tokens ++ k ∷ [] = take_all (place + 1) (tokens ++ k ∷ [])
    (omega (arith, eqb-true place (length tokens) e, length-append tokens (k ∷ []))) in
    says.token (subst (IsViable start) (sym whole) v)
not_viable_where start tokens k Found.Unfinished says e v = cc
not_viable_where start tokens k (Found.Sentence m events) says e v = cc
not_viable_where start tokens k Found.Tired says e v = cc

only_where : (start : Nonterminal) (tokens : List TokenKind) (k : TokenKind) (b : Bool) (found : Found) → Says start (tokens ++ k ∷ []) found
    → fits b (length tokens) found ≡ true → IsViable start (tokens ++ k ∷ []) → b ≡ true
only_where start tokens k true found says e v = refl
only_where start tokens k false found says e v = absurd (not_viable_where start tokens k found says e v)

-- all kinds of tokens
abbrev pub all_kinds : List TokenKind
all_kinds = kind.Name ∷ kind.Number ∷ kind.Text ∷ Line ∷ End ∷ Bad ∷ symbols ++ reserved_words

each_is_one : (k : TokenKind) → has_kind all_kinds k ≡ true
unfolding symbols reserved_words same_kind
each_is_one Line = refl
each_is_one _ = refl

and_left : (a b : Bool) → (a && b) ≡ true → a ≡ true
and_left true b e = refl
and_left false b e = cc

and_right : (a b : Bool) → (a && b) ≡ true → b ≡ true
and_right true b e = e
and_right false b e = cc

holds_at : (test : TokenKind → Bool) (j k : TokenKind) (more b : Bool) → same_kind j k ≡ b → test j ≡ true → (more ≡ true → test k ≡ true) →
    elim b [ true ↦ true | false ↦ more ] ≡ true → test k ≡ true
holds_at test j k more true same e rest h = subst (λ x. test x ≡ true) (same_kind_true j k same) e
holds_at test j k more false same e rest h = rest h

holds_in : (test : TokenKind → Bool) (ks : List TokenKind) → list_all test ks ≡ true → (k : TokenKind) → has_kind ks k ≡ true → test k ≡ true
holds_in test [] e k h = cc
holds_in test (j ∷ ks) e k h = holds_at test j k (has_kind ks k) (same_kind j k) refl (and_left _ _ e) (holds_in test ks (and_right _ _ e) k) h

-- whether each kind of token fits
abbrev pub all_fit : Nonterminal → List Mark → List TokenKind → Bool
all_fit start marks kinds =
    list_all (λ k. fits (has_kind kinds k) (length (tokens_in marks)) (found_in most_steps start (tokens_in marks ++ k ∷ []))) all_kinds

goes_on_by : (start : Nonterminal) (marks : List Mark) (kinds : List TokenKind) → IsStart start → all_fit start marks kinds ≡ true → GoesOnBy start marks kinds
goes_on_by start marks kinds is_start e = record {
  may = λ k h. viable_where start (tokens_in marks) k (found k) (says_so k) (subst (λ b. fits b (length (tokens_in marks)) (found k) ≡ true) h (each k));
  only = λ k v. only_where start (tokens_in marks) k (has_kind kinds k) (found k) (says_so k) (each k) v;
}
  where
    found : TokenKind → Found
    found k = found_in most_steps start (tokens_in marks ++ k ∷ [])

    each : (k : TokenKind) → fits (has_kind kinds k) (length (tokens_in marks)) (found_in most_steps start (tokens_in marks ++ k ∷ [])) ≡ true
    each k =
        holds_in (λ x. fits (has_kind kinds x) (length (tokens_in marks)) (found_in most_steps start (tokens_in marks ++ x ∷ []))) all_kinds e k (each_is_one k)

    says_so : (k : TokenKind) → Says start (tokens_in marks ++ k ∷ []) (found_in most_steps start (tokens_in marks ++ k ∷ []))
    says_so k = says most_steps start (tokens_in marks ++ k ∷ []) is_start

pub kernel_goes_on : {marks : List Mark} {kinds : List TokenKind} → all_fit Kernel marks kinds ≡ true → GoesOnBy Kernel marks kinds
kernel_goes_on {marks} {kinds} e = goes_on_by Kernel marks kinds (inr refl) e

pub file_goes_on : {marks : List Mark} {kinds : List TokenKind} → all_fit File marks kinds ≡ true → GoesOnBy File marks kinds
file_goes_on {marks} {kinds} e = goes_on_by File marks kinds (inl refl) e
