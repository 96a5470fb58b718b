-- Lines of a script that a parser may take at once, and phrases of lines: what it does with their tokens by its table.
use Rattle.std.specs.Prelude.{◌≡◌, ◌<◌, ◌≤◌, ◌+◌, ℕ, suc, zero, List, [], ◌∷◌, ◌++◌, true, map, nat_lt, nat_le, length, slice_get, Option, Some, None, if◌then◌else◌}
use Rattle.std.specs.List.{list_all}
use Rattle.frame_grammar.specs.declared.token_kind.TokenKind.{TokenKind}
use Rattle.frame_grammar.specs.declared.symbols.Action.{Action}
use Rattle.frame_grammar.specs.declared.symbols.Event.{Event}
use Rattle.frame_grammar.specs.declared.symbols.Nonterminal.{Nonterminal}
use Rattle.frame_grammar.specs.declared.symbols.Nonterminal.TheVariants.{Items}
use Rattle.frame_grammar.specs.declared.symbols.Production.{Production}
use Rattle.frame_grammar.specs.declared.symbols.Symbol.{Symbol}
use Rattle.frame_grammar.specs.declared.symbols.Symbol.TheVariants as symbol
use Rattle.frame_grammar.specs.Bodies.{body_of}
use Rattle.grammar_table.specs.Predict.{predicted, same_kind}
use Rattle.grammar_table.specs.Stack.{Between}

-- What is noted, and what is left on the stack.
pub record Left : Type 0 where
  pub events : List Event
  pub stack : List Symbol

-- the same behind these events
abbrev pub behind : List Event → Option Left → Option Left
behind es None = None
behind es (Some left) = Some (record { events = es ++ left.events; stack = left.stack })

-- a token is taken, where the stack isn't empty then
abbrev pub taken : TokenKind → TokenKind → List Symbol → Option Left
taken j k [] = None
taken j k (s ∷ ss) = if same_kind j k then Some (record { events = []; stack = s ∷ ss }) else None

abbrev pub expanded : Option Production → List Symbol → List Symbol
expanded None ss = []
expanded (Some p) ss = body_of p ++ ss

-- what the table does until the token ahead is taken, if it is with so many symbols
abbrev pub taken_with : ℕ → TokenKind → ℕ → List Symbol → Option Left
taken_with zero k place ss = None
taken_with (suc n) k place [] = None
taken_with (suc n) k place (symbol.Terminal j ∷ ss) = taken j k ss
taken_with (suc n) k place (symbol.Action a ∷ ss) =
    behind (record { action = a; place = place } ∷ []) (taken_with n k place ss)
taken_with (suc n) k place (symbol.Nonterminal m ∷ ss) = taken_with n k place (expanded (predicted m k) ss)

abbrev pub then_with : Option Left → (List Symbol → Option Left) → Option Left
then_with None more = None
then_with (Some left) more = behind left.events (more left.stack)

-- the same for these tokens, the first of which stands so many places behind a place
abbrev pub all_taken : List TokenKind → ℕ → ℕ → List Symbol → Option Left
all_taken [] after place ss = Some (record { events = []; stack = ss })
all_taken (k ∷ ks) after place ss =
    then_with (taken_with 12 k (place + after) ss) (all_taken ks (after + 1) place)

-- these actions, each so many places behind a place
abbrev pub events_at : ℕ → List (Action × ℕ) → List Event
events_at place = map (λ note. record { action = note.0; place = place + note.1 })

-- what is noted of the actions on top of the stack, whatever token is ahead at this place
abbrev pub acted : ℕ → List Symbol → Option Left
acted place [] = Some (record { events = []; stack = [] })
acted place (symbol.Terminal k ∷ ss) = Some (record { events = []; stack = symbol.Terminal k ∷ ss })
acted place (symbol.Action a ∷ ss) = behind (record { action = a; place = place } ∷ []) (acted place ss)
acted place (symbol.Nonterminal n ∷ ss) = Some (record { events = []; stack = symbol.Nonterminal n ∷ ss })

-- Where the first symbols are on top of the stack, these tokens are taken, of which this is noted, and then the others
-- are on top of it.
pub record IsPhrase (from to : List Symbol) (kinds : List TokenKind) (notes : List (Action × ℕ)) : Type 0 where
  pub derived : (place : ℕ) (ss : List Symbol) →
      then_with (all_taken kinds 0 place (from ++ ss)) (acted (place + length kinds))
      ≡ Some (record { events = events_at place notes; stack = to ++ ss })

-- there are tokens, and nothing is noted beyond the place behind them
abbrev pub Fits : List TokenKind → List (Action × ℕ) → Type 0
Fits kinds notes = (nat_lt 0 (length kinds) ≡ true) × (list_all (λ note. nat_le note.1 (length kinds)) notes ≡ true)

-- where items are on top of the stack
abbrev pub items_on : List Symbol
items_on = symbol.Nonterminal Items ∷ []

-- these tokens are an item, of which this is noted; behind it items are on top of the stack again
pub record IsLine (kinds : List TokenKind) (notes : List (Action × ℕ)) : Type 0 where
  pub phrase : IsPhrase items_on items_on kinds notes
  pub fits : Fits kinds notes

-- these kinds stand among those of the tokens at a place
abbrev pub AreAt : List TokenKind → List TokenKind → ℕ → Type 0
AreAt kinds tokens place = (j : ℕ) → j < length kinds → slice_get tokens (place + j) ≡ slice_get kinds j

-- events are noted behind those before
abbrev pub Noted : List Event → List Event → Type 0
Noted done done' = (more : List Event) × (done' ≡ done ++ more)

-- The tokens from one place to another are taken, where these symbols are on top of the stack, and then those.
pub record TakesPhrase (from to : List Symbol) (tokens : List TokenKind) (place place' : ℕ)
    (done done' : List Event) : Type 0 where
  pub on : place ≤ place'
  pub within : place' ≤ length tokens
  pub noted : Noted done done'
  pub between : (start : Nonterminal) (ss : List Symbol) → Between start tokens place done (from ++ ss) →
      Between start tokens place' done' (to ++ ss)

-- a phrase is taken up to a place, if any; else nothing is noted
abbrev pub MayTake : List Symbol → List Symbol → List TokenKind → ℕ → Option ℕ → List Event → List Event → Type 0
MayTake from to tokens place None done done' = done' ≡ done
MayTake from to tokens place (Some place') done done' =
    (place < place') × TakesPhrase from to tokens place place' done done'

-- phrases are taken up to a place, if all of them are there; else what was noted is behind what was before
abbrev pub MayTakeAll : List Symbol → List Symbol → List TokenKind → ℕ → Option ℕ → List Event → List Event → Type 0
MayTakeAll from to tokens place None done done' = Noted done done'
MayTakeAll from to tokens place (Some place') done done' = TakesPhrase from to tokens place place' done done'

-- the tokens from one place to another are lines, where items are on top of the stack
abbrev pub TakesLines : List TokenKind → ℕ → ℕ → List Event → List Event → Type 0
TakesLines = TakesPhrase items_on items_on
