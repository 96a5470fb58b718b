-- What holds of the symbols on a parser's stack: what they may begin with, how they end, and what a step does to them.
use Rattle.std.specs.Prelude.{◌≡◌, ◌≤◌, take, ℕ, suc, ◌+◌, Bool, true, false, List, [], ◌∷◌, ◌++◌, ◌<◌, Option, Some, None, ◌⊎◌}
use Rattle.frame_grammar.specs.declared.token_kind.TokenKind.{TokenKind}
use Rattle.frame_grammar.specs.declared.symbols.Nonterminal.{Nonterminal}
use Rattle.frame_grammar.specs.declared.symbols.Symbol.{Symbol}
use Rattle.frame_grammar.specs.declared.symbols.Symbol.TheVariants as symbol
use Rattle.frame_grammar.specs.declared.symbols.Event.{Event}
use Rattle.frame_grammar.specs.Grammar.{Derives}
use Rattle.grammar_table.specs.Sets.{firsts_of, is_nullable_of, barred_of, is_closed_of, rank_of}
use Rattle.frame_grammar.specs.Sentences.{IsSentence}
use Rattle.grammar_table.specs.Predict.{same_kind}

-- whether the token is among these
abbrev pub has_kind : List TokenKind → TokenKind → Bool
has_kind [] k = false
has_kind (j ∷ js) k = elim (same_kind j k) [ true ↦ true | false ↦ has_kind js k ]

-- what the symbols derive may begin with this token
abbrev pub Starts : List Symbol → TokenKind → Type 0
Starts [] k = ⊥
Starts (symbol.Terminal j ∷ ss) k = j ≡ k
Starts (symbol.Action a ∷ ss) k = Starts ss k
Starts (symbol.Nonterminal n ∷ ss) k = (has_kind (firsts_of n) k ≡ true) ⊎ ((is_nullable_of n ≡ true) × Starts ss k)

-- what follows a nonterminal doesn't begin with a token that may not follow it
abbrev pub IsClear : List Symbol → Type 0
IsClear [] = Unit {0}
IsClear (symbol.Terminal k ∷ ss) = IsClear ss
IsClear (symbol.Action a ∷ ss) = IsClear ss
IsClear (symbol.Nonterminal n ∷ ss) = ((k : TokenKind) → Starts ss k → has_kind (barred_of n) k ≡ false) × IsClear ss

-- the symbols end in a terminal, or will once their last nonterminal is expanded
abbrev pub closes_last : Symbol → Bool
closes_last (symbol.Terminal k) = true
closes_last (symbol.Nonterminal n) = is_closed_of n
closes_last (symbol.Action a) = false

abbrev pub closes : List Symbol → Bool
closes [] = false
closes (s ∷ []) = closes_last s
closes (s ∷ t ∷ ss) = closes (t ∷ ss)

-- how many steps the symbols may go on by without a token
abbrev pub weight_after : Bool → ℕ → ℕ
weight_after true n = n
weight_after false n = 0

abbrev pub weight : List Symbol → ℕ
weight [] = 0
weight (symbol.Terminal k ∷ ss) = 0
weight (symbol.Action a ∷ ss) = suc (weight ss)
weight (symbol.Nonterminal n ∷ ss) = rank_of n + weight_after (is_nullable_of n) (weight ss)

-- the first of the tokens
abbrev pub first_of : List TokenKind → Option TokenKind
first_of [] = None
first_of (k ∷ ks) = Some k

-- The stack ss is where the parser is after the events done and the tokens read, and place is their number.
pub record IsReached (start : Nonterminal) (place : ℕ) (done : List Event) (read : List TokenKind)
    (ss : List Symbol) : Type 0 where
  pub sound : (es : List Event) (ks : List TokenKind) → Derives place es ss ks →
      IsSentence start (done ++ es) (read ++ ks)
  pub complete : (es : List Event) (ks : List TokenKind) → IsSentence start es (read ++ ks) → (rest : List Event)
      × (es ≡ done ++ rest) × Derives place rest ss ks
  pub clear : IsClear ss

-- The same, if this token is ahead.
pub record IsReachedAt (start : Nonterminal) (ahead : TokenKind) (place : ℕ) (done : List Event) (read : List TokenKind)
    (ss : List Symbol) : Type 0 where
  pub sound : (es : List Event) (ks : List TokenKind) → Derives place es ss ks →
      IsSentence start (done ++ es) (read ++ ks)
  pub complete : (es : List Event) (ks : List TokenKind) → first_of ks ≡ Some ahead → IsSentence start es (read ++ ks) →
      (rest : List Event) × (es ≡ done ++ rest) × Derives place rest ss ks
  pub clear : IsClear ss

-- The step took the token ahead.
abbrev pub Takes : TokenKind → ℕ → List Event → List Symbol → List Event → List Symbol → Type 0
Takes ahead place done ss done' ss' =
    ((start : Nonterminal) (read : List TokenKind) → IsReachedAt start ahead place done read ss →
    IsReached start (place + 1) done' (read ++ ahead ∷ []) ss')
    × (closes ss ≡ true → (ss' ≡ []) ⊎ (closes ss' ≡ true))

-- The step took no token: where it was before is where it is now, and it came nearer to the token ahead.
abbrev pub Goes : TokenKind → ℕ → List Event → List Symbol → List Event → List Symbol → Type 0
Goes ahead place done ss done' ss' =
    ((start : Nonterminal) (read : List TokenKind) → IsReachedAt start ahead place done read ss →
    IsReachedAt start ahead place done' read ss')
    × (closes ss ≡ true → closes ss' ≡ true)
    × (weight ss' < weight ss)

-- What holds between two tokens: the stack is reached, it closes, and no front of the tokens so far was a sentence.
pub record Between (start : Nonterminal) (tokens : List TokenKind) (place : ℕ) (done : List Event)
    (ss : List Symbol) : Type 0 where
  pub reached : IsReached start place done (take place tokens) ss
  pub closed : closes ss ≡ true
  pub none : (m : ℕ) (es : List Event) → m ≤ place → IsSentence start es (take m tokens) → ⊥

-- No sentence has the token ahead there.
abbrev pub Stops : TokenKind → ℕ → List Event → List Symbol → Type 0
Stops ahead place done ss = (start : Nonterminal) (read : List TokenKind) → IsReachedAt start ahead place done read ss →
    (es : List Event) (ks : List TokenKind) → first_of ks ≡ Some ahead → IsSentence start es (read ++ ks) → ⊥
