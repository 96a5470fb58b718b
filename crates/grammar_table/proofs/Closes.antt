-- What sentences end in: a terminal of the start symbol's own.
use Rattle.std.proofs.Common.{◌≡◌, ◌⊎◌, inl, inr, ℕ, Bool, true, false, List, [], ◌∷◌, ◌++◌, refl, sym, ◌∙◌, ap}
use Rattle.std.proofs.lemmas.List.{append-nil}
use Rattle.frame_grammar.specs.declared.token_kind.TokenKind.{TokenKind}
use Rattle.frame_grammar.specs.declared.symbols.Event.{Event}
use Rattle.frame_grammar.specs.declared.symbols.Nonterminal.{Nonterminal}
use Rattle.frame_grammar.specs.declared.symbols.Action.{Action}
use Rattle.frame_grammar.specs.declared.symbols.Symbol.{Symbol}
use Rattle.frame_grammar.specs.declared.symbols.Symbol.TheVariants as symbol
use Rattle.frame_grammar.specs.declared.symbols.Production.{Production}
use Rattle.frame_grammar.specs.declared.symbols.Production.TheVariants as production
use Rattle.frame_grammar.specs.Grammar.{head_of, Derives, nothing, terminal, action, expanded}
use Rattle.frame_grammar.specs.Bodies.{body_of}
use Rattle.frame_grammar.specs.Sentences.{IsStart}
use Rattle.grammar_table.specs.Sets.{is_closed_of}
use Rattle.grammar_table.specs.Stack.{closes}

-- Where a nonterminal is closed, each of its bodies closes.
abbrev closes_well : Bool → Production → Bool
closes_well true p = closes (body_of p)
closes_well false p = true

productions_close : (p : Production) → closes_well (is_closed_of (head_of p)) p ≡ true
unfolding head_of body_of is_closed_of
productions_close production.File = refl
productions_close _ = refl

body_closes : (p : Production) (n : Nonterminal) → head_of p ≡ n → is_closed_of n ≡ true → closes (body_of p) ≡ true
body_closes p n h e = ap (λ b. closes_well b p) (sym (ap is_closed_of h ∙ e)) ∙ productions_close p

closes-cons : (s t : Symbol) (ss : List Symbol) → closes (s ∷ t ∷ ss) ≡ closes (t ∷ ss)
closes-cons s t ss = refl

closes-append : (xs : List Symbol) (t : Symbol) (ss : List Symbol) → closes (xs ++ t ∷ ss) ≡ closes (t ∷ ss)
closes-append [] t ss = refl
closes-append (x ∷ []) t ss = refl
closes-append (x ∷ y ∷ xs) t ss = closes-append (y ∷ xs) t ss

-- Expanding keeps the symbols closed.
pub closes-expanded : (p : Production) (n : Nonterminal) (ss : List Symbol) → head_of p ≡ n → closes (symbol.Nonterminal n ∷ ss) ≡ true
    → closes (body_of p ++ ss) ≡ true
closes-expanded p n [] h e = ap closes (append-nil (body_of p)) ∙ body_closes p n h e
closes-expanded p n (t ∷ ss) h e = closes-append (body_of p) t ss ∙ e

pub closes-action : (a : Action) (ss : List Symbol) → closes (symbol.Action a ∷ ss) ≡ true → closes ss ≡ true
closes-action a [] e = cc
closes-action a (t ∷ ss) e = e

pub closes-terminal : (k : TokenKind) (ss : List Symbol) → closes (symbol.Terminal k ∷ ss) ≡ true → (ss ≡ []) ⊎ (closes ss ≡ true)
closes-terminal k [] e = inl refl
closes-terminal k (t ∷ ss) e = inr e

-- Closed symbols derive some token.
pub derives_some : {n : ℕ} {es : List Event} {ss : List Symbol} {ks : List TokenKind} → Derives n es ss ks → closes ss ≡ true → ks ≡ [] → ⊥
derives_some nothing e none = cc
derives_some (terminal k d) e none = cc
derives_some (action {ss = ss} a d) e none = derives_some d (closes-action a ss e) none
derives_some (expanded {ss = ss} p {head = n} h d) e none = derives_some d (closes-expanded p n ss h e) none

pub start_closes : (start : Nonterminal) → IsStart start → closes (symbol.Nonterminal start ∷ []) ≡ true
unfolding is_closed_of
start_closes start (inl file) = ap is_closed_of file
start_closes start (inr kernel) = ap is_closed_of kernel
