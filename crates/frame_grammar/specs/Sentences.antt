-- Sentences, viable prefixes, and where a fault of syntax is.
use Rattle.std.specs.Prelude.{◌≡◌, ◌⊎◌, ℕ, ◌+◌, ◌<◌, ◌≤◌, List, [], ◌∷◌, ◌++◌, length, take}
use Rattle.frame_grammar.specs.declared.token_kind.TokenKind.{TokenKind}
use Rattle.frame_grammar.specs.declared.token_kind.TokenKind.TheVariants.{End}
use Rattle.frame_grammar.specs.declared.symbols.Nonterminal.{Nonterminal}
use Rattle.frame_grammar.specs.declared.symbols.Nonterminal.TheVariants.{File, Kernel}
use Rattle.frame_grammar.specs.declared.symbols.Symbol.TheVariants as symbol
use Rattle.frame_grammar.specs.declared.symbols.Event.{Event}
use Rattle.frame_grammar.specs.Grammar.{Derives}

-- a start symbol: a whole file, or one kernel
abbrev pub IsStart : Nonterminal → Type 0
IsStart start = (start ≡ File) ⊎ (start ≡ Kernel)

-- these tokens are a sentence of the start symbol, with these events
abbrev pub IsSentence : Nonterminal → List Event → List TokenKind → Type 0
IsSentence start events tokens = Derives 0 events (symbol.Nonterminal start ∷ []) tokens

-- the tokens are a viable prefix: they begin some sentence
abbrev pub IsViable : Nonterminal → List TokenKind → Type 0
IsViable start tokens = (rest : List TokenKind) × (events : List Event) × IsSentence start events (tokens ++ rest)

-- The first n tokens are the only sentence that the tokens begin with, and it has these events alone.
pub record IsOnlySentence (start : Nonterminal) (tokens : List TokenKind) (n : ℕ) (events : List Event) : Type 0 where
  pub within : n ≤ length tokens
  pub sentence : IsSentence start events (take n tokens)
  pub only : (m : ℕ) (others : List Event) → m ≤ length tokens → IsSentence start others (take m tokens) → (m ≡ n)
      × (others ≡ events)

-- The tokens begin with no sentence, and the token at this place is the first such that the tokens up to it and with it
-- are no viable prefix.
pub record IsFault (start : Nonterminal) (tokens : List TokenKind) (place : ℕ) : Type 0 where
  pub within : place < length tokens
  pub before : IsViable start (take place tokens)
  pub token : IsViable start (take (place + 1) tokens) → ⊥
  pub none : (m : ℕ) (events : List Event) → m ≤ length tokens → IsSentence start events (take m tokens) → ⊥

-- what a lexer makes: the last token is the end
abbrev pub IsEnded : List TokenKind → Type 0
IsEnded tokens = (front : List TokenKind) × (tokens ≡ front ++ End ∷ [])
