-- What the symbols of a body derive, one by one.
use Rattle.std.proofs.Common.{◌≡◌, ℕ, suc, ◌+◌, ◌≤◌, List, [], ◌∷◌, ◌++◌, length, refl, sym, ap, subst}
use Rattle.std.proofs.lemmas.List.{append-nil}
use Rattle.frame_grammar.specs.declared.token_kind.TokenKind.{TokenKind}
use Rattle.frame_grammar.specs.declared.symbols.Nonterminal.{Nonterminal}
use Rattle.frame_grammar.specs.declared.symbols.Production.{Production}
use Rattle.frame_grammar.specs.declared.symbols.Symbol.{Symbol}
use Rattle.frame_grammar.specs.declared.symbols.Symbol.TheVariants as symbol
use Rattle.frame_grammar.specs.declared.symbols.Event.{Event}
use Rattle.frame_grammar.specs.Grammar.{head_of, Derives, expanded}
use Rattle.frame_grammar.specs.Bodies.{body_of}
use Rattle.kernel_raw.specs.RawEvents.{on}
use Rattle.script_text.specs.Places.{Stands}
use Rattle.script_text.proofs.Derivations.Trees.{Tree, nothing, terminal, action, branch, derives_of}

-- what a nonterminal derives from a place on: its events, where they lead to, and what they mean
pub record Piece (M : Nonterminal → ℕ → List Event → Type 0) (all : List TokenKind) (head : Nonterminal) (n : ℕ) : Type 0 where
  pub events : List Event
  pub tokens : List TokenKind
  pub derives : Derives n events (symbol.Nonterminal head ∷ []) tokens
  pub within : n + length tokens ≤ length all
  pub means : M head n events

-- what each of the symbols derives
abbrev pub Chain : (M : Nonterminal → ℕ → List Event → Type 0) → List TokenKind → List Symbol → ℕ → Type 0
Chain M all [] n = Unit {0}
Chain M all (symbol.Terminal k ∷ ss) n = Stands all k n × Chain M all ss (suc n)
Chain M all (symbol.Action a ∷ ss) n = Chain M all ss n
Chain M all (symbol.Nonterminal m ∷ ss) n = (piece : Piece M all m n) × Chain M all ss (n + length piece.tokens)

-- the events of all
abbrev pub events_of : (M : Nonterminal → ℕ → List Event → Type 0) (all : List TokenKind) (ss : List Symbol) (n : ℕ) → Chain M all ss n → List Event
events_of M all [] n c = []
events_of M all (symbol.Terminal k ∷ ss) n c = events_of M all ss (suc n) c.1
events_of M all (symbol.Action a ∷ ss) n c = on a n ∷ events_of M all ss n c
events_of M all (symbol.Nonterminal m ∷ ss) n c = c.0.events ++ events_of M all ss (n + length c.0.tokens) c.1

-- If what a body derives means what its head is to mean, for each production, then all that is derived means what it is to.
abbrev pub Builds : (Nonterminal → ℕ → List Event → Type 0) → List TokenKind → Type 0
Builds M all = (p : Production) (n : ℕ) (c : Chain M all (body_of p) n) → M (head_of p) n (events_of M all (body_of p) n c)

pub record Chained (M : Nonterminal → ℕ → List Event → Type 0) (all : List TokenKind) (n : ℕ) (events : List Event) (ss : List Symbol) : Type 0 where
  pub chain : Chain M all ss n
  pub are : events ≡ events_of M all ss n chain

pub chained : (M : Nonterminal → ℕ → List Event → Type 0) (all : List TokenKind) → Builds M all →
    {n : ℕ} {events : List Event} {ss : List Symbol} {ks : List TokenKind} → Tree all n events ss ks → Chained M all n events ss
chained M all builds nothing = record { chain = tt; are = refl }
chained M all builds (terminal k stands t) = let c = chained M all builds t in record { chain = (stands, c.chain); are = c.are }
chained M all builds (action {n = n} a t) = let c = chained M all builds t in record { chain = c.chain; are = ap (λ x. on a n ∷ x) c.are }
chained M all builds (branch {n = n} {es = es} {ss = ss} {js = js} p {head} own within body t) =
    let b = chained M all builds body in
    let c = chained M all builds t in
    let d : Derives n es (body_of p ++ []) js = subst (λ x. Derives n es x js) (sym (append-nil (body_of p))) (derives_of body) in
    let m : M (head_of p) n es = subst (λ x. M (head_of p) n x) (sym b.are) (builds p n b.chain) in
    record {
      chain = (record { events = es; tokens = js; derives = expanded p own d; within = within; means = subst (λ h. M h n es) own m }, c.chain);
      are = ap (λ x. es ++ x) c.are;
    }
