-- What the steps of the parser do with its stack, and which tokens they take.
use Rattle.std.specs.Prelude.{◌≡◌, ◌≤◌, ℕ, List, [], ◌∷◌, ◌++◌, ◌<◌, length, Option, Some, None}
use Rattle.frame_grammar.specs.declared.token_kind.TokenKind.{TokenKind}
use Rattle.frame_grammar.specs.declared.symbols.Nonterminal.{Nonterminal}
use Rattle.frame_grammar.specs.declared.symbols.Symbol.{Symbol}
use Rattle.frame_grammar.specs.declared.symbols.Symbol.TheVariants as symbol
use Rattle.frame_grammar.specs.declared.symbols.Event.{Event}
use Rattle.frame_parser.specs.declared.operands.Expected.{Expected}
use Rattle.frame_parser.specs.declared.shortcuts.Step.{Step}
use Rattle.frame_parser.specs.declared.shortcuts.Step.TheVariants.{Took, TookBefore, WentOn, Unknown}
use Rattle.frame_grammar.specs.Sentences.{IsOnlySentence, IsFault}
use Rattle.frame_parser.specs.Operands.{to_come}
use Rattle.grammar_table.specs.Stack.{Takes, Goes, Between}

-- what was done with these symbols, which were on top of the stack: the token ahead was taken, before what is to come
-- then, or no token yet
abbrev pub IsPart : Option Expected → TokenKind → ℕ → (part : List Symbol) → List Event → List Symbol → List Event →
    List Symbol → Type 0
IsPart (Some expected) ahead place part done ss done' ss' =
    Takes ahead place done (part ++ ss) done' (to_come expected ++ ss')
IsPart None ahead place part done ss done' ss' = Goes ahead place done (part ++ ss) done' ss'

-- what was done with a nonterminal that was on top of the stack
abbrev pub IsStep : Step → TokenKind → ℕ → Nonterminal → List Event → List Symbol → List Event → List Symbol → Type 0
IsStep Took ahead place n done ss done' ss' = Takes ahead place done (symbol.Nonterminal n ∷ ss) done' ss'
IsStep (TookBefore expected) ahead place n done ss done' ss' =
    IsPart (Some expected) ahead place (symbol.Nonterminal n ∷ []) done ss done' ss'
IsStep WentOn ahead place n done ss done' ss' = IsPart None ahead place (symbol.Nonterminal n ∷ []) done ss done' ss'
IsStep Unknown ahead place n done ss done' ss' = (done' ≡ done) × (ss' ≡ ss)

-- No sentence has the token at a place there.
abbrev pub StopsFrom : List TokenKind → ℕ → List Event → List Symbol → Type 0
StopsFrom tokens place done ss = (start : Nonterminal) → Between start tokens place done ss → IsFault start tokens place

-- The tokens from one place to another were taken: they end a sentence, or more is to come.
pub record TakesFrom (tokens : List TokenKind) (place next : ℕ) (done : List Event) (ss : List Symbol)
    (done' : List Event) (ss' : List Symbol) : Type 0 where
  pub on : place < next
  pub within : next ≤ length tokens
  pub ended : (start : Nonterminal) → Between start tokens place done ss → ss' ≡ [] →
      IsOnlySentence start tokens next done'
  pub more : (start : Nonterminal) → Between start tokens place done ss → (ss' ≡ [] → ⊥) →
      Between start tokens next done' ss'

-- The tokens from one place to another were taken, if any: more is to come.
pub record TakesOn (tokens : List TokenKind) (place next : ℕ) (done : List Event) (ss : List Symbol)
    (done' : List Event) (ss' : List Symbol) : Type 0 where
  pub on : place ≤ next
  pub within : next ≤ length tokens
  pub between : (start : Nonterminal) → Between start tokens place done ss → Between start tokens next done' ss'
