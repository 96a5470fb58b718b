-- How far the grammar's table goes on along some tokens, computed, and what that shows of sentences.
use Rattle.std.proofs.Common.{◌≡◌, ℕ, zero, suc, ◌+◌, ◌<◌, ◌≤◌, Bool, true, false, List, [], ◌∷◌, ◌++◌, length, take, drop, get_or, Option, Some, None, refl, sym, ◌∙◌, ap, subst, arith, drop-cons, length-drop, take_all, add-one}
use Rattle.frame_grammar.specs.declared.token_kind.TokenKind.{TokenKind}
use Rattle.frame_grammar.specs.declared.symbols.Nonterminal.{Nonterminal}
use Rattle.frame_grammar.specs.declared.symbols.Production.{Production}
use Rattle.frame_grammar.specs.declared.symbols.Symbol.{Symbol}
use Rattle.frame_grammar.specs.declared.symbols.Symbol.TheVariants as symbol
use Rattle.frame_grammar.specs.declared.symbols.Event.{Event}
use Rattle.frame_grammar.specs.Bodies.{body_of}
use Rattle.frame_grammar.specs.Sentences.{IsStart, IsViable, IsOnlySentence, IsFault}
use Rattle.grammar_table.specs.Predict.{predicted, same_kind}
use Rattle.grammar_table.specs.Stack.{Between, Takes, Stops}
use Rattle.grammar_table.proofs.Checks.{same_kind_true}
use Rattle.grammar_table.proofs.Run.{viable}
use Rattle.grammar_table.proofs.Steps.{Leads, leads_start, taken, stops_empty, stops_at, goes_on_by, acts, between_start, between_more, finds, fault_at, kinds_differ}

-- What is found along tokens: a sentence of so many of them, with its events; a token at which none goes on; that they
-- end before a sentence does; or nothing, for want of steps.
pub data Found : Type 0 where
  Sentence : ℕ → List Event → Found
  Stopped : ℕ → Found
  Unfinished : Found
  Tired : Found

-- what is found by so many steps from a place on, where these events are done, these symbols are to come, and these tokens are ahead
abbrev pub walk : ℕ → ℕ → List Event → List Symbol → TokenKind → List TokenKind → Found
walk zero place done ss k ks = Found.Tired
walk (suc steps) place done [] k ks = Found.Stopped place
walk (suc steps) place done (symbol.Action a ∷ ss) k ks = walk steps place (done ++ record { action = a; place = place } ∷ []) ss k ks
walk (suc steps) place done (symbol.Nonterminal n ∷ ss) k ks =
    elim (predicted n k) [ None ↦ Found.Stopped place | Some p ↦ walk steps place done (body_of p ++ ss) k ks ]
walk (suc steps) place done (symbol.Terminal j ∷ ss) k ks =
    elim (same_kind j k) [
      | false ↦ Found.Stopped place
      | true ↦ elim ss [
        | [] ↦ Found.Sentence (place + 1) done
        | s ∷ more ↦ elim ks [ [] ↦ Found.Unfinished | next ∷ later ↦ walk steps (place + 1) done (s ∷ more) next later ]
      ]
    ]

-- the same from the first token on
abbrev pub found_in : ℕ → Nonterminal → List TokenKind → Found
found_in steps start [] = Found.Tired
found_in steps start (k ∷ ks) = walk steps 0 [] (symbol.Nonterminal start ∷ []) k ks

-- what it says of the tokens that this is found
abbrev pub Says : Nonterminal → List TokenKind → Found → Type 0
Says start tokens (Found.Sentence n events) = IsOnlySentence start tokens n events
Says start tokens (Found.Stopped place) = IsFault start tokens place
Says start tokens Found.Unfinished = IsViable start tokens
Says start tokens Found.Tired = Unit {0}

-- the token at a place, and those after it
record Ahead (tokens : List TokenKind) (place : ℕ) (k : TokenKind) (ks : List TokenKind) : Type 0 where
  within : place < length tokens
  same : get_or tokens place k ≡ k
  rest : drop (place + 1) tokens ≡ ks

within_of : (tokens : List TokenKind) (place : ℕ) (k : TokenKind) (ks : List TokenKind) → drop place tokens ≡ k ∷ ks → place < length tokens
within_of tokens place k ks e =
    let some : length (drop place tokens) ≡ suc (length ks) = ap length e in
    omega (arith, some, length-drop place tokens)

ahead_of : (tokens : List TokenKind) (place : ℕ) (k : TokenKind) (ks : List TokenKind) → drop place tokens ≡ k ∷ ks → Ahead tokens place k ks
ahead_of tokens place k ks e =
    let lt = within_of tokens place k ks e in
    let split = sym (drop-cons tokens place k lt) ∙ e in
    record { within = lt; same = cc; rest = rw add-one cc }

stops_here : (start : Nonterminal) (tokens : List TokenKind) (place : ℕ) (done0 : List Event) (ss0 : List Symbol) (k : TokenKind) (ks : List TokenKind)
    → drop place tokens ≡ k ∷ ks →
    Between start tokens place done0 ss0 → Stops k place done0 ss0 → IsFault start tokens place
stops_here start tokens place done0 ss0 k ks e at step =
    let here = ahead_of tokens place k ks e in
    fault_at start tokens place k done0 ss0 here.within at (subst (λ x. Stops x place done0 ss0) (sym here.same) step)

-- the token is one that goes on: nothing is to come, no token is ahead, or the next is
goes_on_after : (start : Nonterminal) (tokens : List TokenKind) (place : ℕ) (done0 done : List Event) (ss0 ss : List Symbol) (k : TokenKind)
    (ks : List TokenKind) → drop place tokens ≡ k ∷ ks →
    Between start tokens place done0 ss0 → Takes k place done0 ss0 done ss
    → (go : (s : Symbol) (more : List Symbol) (next : TokenKind) (later : List TokenKind) → Found) →
    ((s : Symbol) (more : List Symbol) (next : TokenKind) (later : List TokenKind) → ss ≡ s ∷ more → drop (place + 1) tokens ≡ next ∷ later →
    Between start tokens (place + 1) done (s ∷ more) → Says start tokens (go s more next later)) →
    Says start tokens (elim ss [
      | [] ↦ Found.Sentence (place + 1) done
      | s ∷ more ↦ elim ks [ [] ↦ Found.Unfinished | next ∷ later ↦ go s more next later ]
    ])
goes_on_after start tokens place done0 done ss0 [] k ks e at step go more =
    let here = ahead_of tokens place k ks e in
    finds start tokens place k done0 done ss0 [] here.within at (subst (λ x. Takes x place done0 ss0 done []) (sym here.same) step) refl
goes_on_after start tokens place done0 done ss0 (s ∷ ss) k [] e at step go more =
    let here = ahead_of tokens place k [] e in
    let next = between_more start tokens place k done0 done ss0 (s ∷ ss) here.within at
    (subst (λ x. Takes x place done0 ss0 done (s ∷ ss)) (sym here.same) step) (λ f. cc) in
    subst (IsViable start) (take_all (place + 1) tokens (all_read tokens place here.rest))
    (viable start (place + 1) done (take (place + 1) tokens) (s ∷ ss) next.reached)
  where
    all_read : (tokens : List TokenKind) (place : ℕ) → drop (place + 1) tokens ≡ [] → length tokens ≤ place + 1
    all_read tokens place none = let zero_left : length (drop (place + 1) tokens) ≡ 0 = ap length none in
        omega (arith, zero_left, length-drop (place + 1) tokens)
goes_on_after start tokens place done0 done ss0 (s ∷ ss) k (next ∷ later) e at step go more =
    let here = ahead_of tokens place k (next ∷ later) e in
    more s ss next later refl here.rest
    (between_more start tokens place k done0 done ss0 (s ∷ ss) here.within at (subst (λ x. Takes x place done0 ss0 done (s ∷ ss)) (sym here.same) step)
    (λ f. cc))

same_is : (j k : TokenKind) → same_kind j k ≡ false → j ≡ k → ⊥
unfolding same_kind
same_is j k e = kinds_differ j k e

by_production : (start : Nonterminal) (tokens : List TokenKind) (steps place : ℕ) (done0 done : List Event) (ss0 ss : List Symbol) (k : TokenKind)
    (ks : List TokenKind) (n : Nonterminal) →
    drop place tokens ≡ k ∷ ks → Between start tokens place done0 ss0 → Leads k place done0 ss0 done (symbol.Nonterminal n ∷ ss) →
    ((p : Production) → Leads k place done0 ss0 done (body_of p ++ ss) → Says start tokens (walk steps place done (body_of p ++ ss) k ks)) →
    (o : Option Production) → predicted n k ≡ o → Says start tokens (elim o [
      | None ↦ Found.Stopped place
      | Some p ↦ walk steps place done
          (body_of p ++ ss) k ks
    ])
by_production start tokens steps place done0 done ss0 ss k ks n e at leads more None f =
    stops_here start tokens place done0 ss0 k ks e at (stops_at k place done0 done ss0 ss n leads f)
by_production start tokens steps place done0 done ss0 ss k ks n e at leads more (Some p) f =
    more p (goes_on_by k place done0 done ss0 ss n p leads f)

by_terminal : (start : Nonterminal) (tokens : List TokenKind) (steps place : ℕ) (done0 done : List Event) (ss0 ss : List Symbol) (k : TokenKind)
    (ks : List TokenKind) (j : TokenKind) →
    drop place tokens ≡ k ∷ ks → Between start tokens place done0 ss0 → Leads k place done0 ss0 done (symbol.Terminal j ∷ ss) →
    ((s : Symbol) (more : List Symbol) (next : TokenKind) (later : List TokenKind) → drop (place + 1) tokens ≡ next ∷ later →
    Between start tokens (place + 1) done (s ∷ more) → Says start tokens (walk steps (place + 1) done (s ∷ more) next later)) →
    (b : Bool) → same_kind j k ≡ b → Says start tokens (elim b [
      | false ↦ Found.Stopped place
      | true ↦ elim ss [
        | [] ↦ Found.Sentence (place + 1) done
        | s ∷ more ↦ elim ks [ [] ↦ Found.Unfinished | next ∷ later ↦ walk steps (place + 1) done (s ∷ more) next later ]
      ]
    ])
by_terminal start tokens steps place done0 done ss0 ss k ks j e at leads more false f =
    stops_here start tokens place done0 ss0 k ks e at (taken k place done0 done ss0 ss j false leads (λ g. cc) (λ g. same_is j k f))
by_terminal start tokens steps place done0 done ss0 ss k ks j e at leads more true f =
    goes_on_after start tokens place done0 done ss0 ss k ks e at
    (taken k place done0 done ss0 ss j true leads (λ g. same_kind_true j k f) (λ g. cc))
    (λ s rest next later. walk steps (place + 1) done (s ∷ rest) next later)
    (λ s rest next later is ahead next_at. more s rest next later ahead next_at)

-- What is found along tokens is so.
says_from : (start : Nonterminal) (tokens : List TokenKind) (steps place : ℕ) (done0 done : List Event) (ss0 ss : List Symbol) (k : TokenKind)
    (ks : List TokenKind) → drop place tokens ≡ k ∷ ks →
    Between start tokens place done0 ss0 → Leads k place done0 ss0 done ss → Says start tokens (walk steps place done ss k ks)
says_from start tokens zero place done0 done ss0 ss k ks e at leads = tt
says_from start tokens (suc steps) place done0 done ss0 [] k ks e at leads =
    stops_here start tokens place done0 ss0 k ks e at (stops_empty k place done0 done ss0 leads)
says_from start tokens (suc steps) place done0 done ss0 (symbol.Action a ∷ ss) k ks e at leads =
    says_from start tokens steps place done0 (done ++ record { action = a; place = place } ∷ []) ss0 ss k ks e at (acts k place done0 done ss0 ss a leads)
says_from start tokens (suc steps) place done0 done ss0 (symbol.Nonterminal n ∷ ss) k ks e at leads =
    by_production start tokens steps place done0 done ss0 ss k ks n e at leads
    (λ p more. says_from start tokens steps place done0 done ss0 (body_of p ++ ss) k ks e at more)
    (predicted n k) refl
says_from start tokens (suc steps) place done0 done ss0 (symbol.Terminal j ∷ ss) k ks e at leads =
    by_terminal start tokens steps place done0 done ss0 ss k ks j e at leads
    (λ s more next later rest next_at. says_from start tokens steps (place + 1) done done (s ∷ more) (s ∷ more) next later rest next_at
    (leads_start next (place + 1) done (s ∷ more)))
    (same_kind j k) refl

pub says : (steps : ℕ) (start : Nonterminal) (tokens : List TokenKind) → IsStart start → Says start tokens (found_in steps start tokens)
says steps start [] is_start = tt
says steps start (k ∷ ks) is_start =
    says_from start (k ∷ ks) steps 0 [] [] (symbol.Nonterminal start ∷ []) (symbol.Nonterminal start ∷ []) k ks refl (between_start start (k ∷ ks) is_start)
    (leads_start k 0 [] (symbol.Nonterminal start ∷ []))
