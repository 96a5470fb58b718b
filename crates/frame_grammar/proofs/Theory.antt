-- How derivations come together, and how one goes on.
use Rattle.std.proofs.Common.{ℕ, suc, length, ◌&&◌, sym, ◌≡◌, ◌+◌, Bool, true, false, List, ◌∷◌, ◌++◌, refl, subst, append_assoc, arith}
use Rattle.frame_grammar.specs.declared.token_kind.TokenKind.{TokenKind}
use Rattle.frame_grammar.specs.declared.symbols.Nonterminal.{Nonterminal}
use Rattle.frame_grammar.specs.declared.symbols.Production.{Production}
use Rattle.frame_grammar.specs.declared.symbols.Symbol.{Symbol}
use Rattle.frame_grammar.specs.declared.symbols.Symbol.TheVariants as symbol
use Rattle.frame_grammar.specs.declared.symbols.Event.{Event}
use Rattle.frame_grammar.specs.Bodies.{body_of}
use Rattle.frame_grammar.specs.Grammar.{head_of, Derives, nothing, terminal, action, expanded}

moved : (n l : ℕ) → n + suc l ≡ suc n + l
moved n l = omega arith

stayed : (n : ℕ) → n + 0 ≡ n
stayed n = omega arith

-- Derivations come one after another.
pub Derives-append : {n : ℕ} {ns : List Event} {ss : List Symbol} {ks : List TokenKind} (ms : List Event) (ts : List Symbol) (js : List TokenKind) →
    Derives n ns ss ks → Derives (n + length ks) ms ts js → Derives n (ns ++ ms) (ss ++ ts) (ks ++ js)
Derives-append ms ts js (nothing {n = n}) e = subst (λ x. Derives x ms ts js) (stayed n) e
Derives-append ms ts js (terminal {n = n} {ks = ks} k d) e =
    terminal k (Derives-append ms ts js d (subst (λ x. Derives x ms ts js) (moved n (length ks)) e))
Derives-append ms ts js (action m d) e = action m (Derives-append ms ts js d e)
Derives-append ms ts js (expanded {n = n} {events = ns} {ss = ss} {ks = ks} r h d) e =
    expanded r h (subst (λ xs. Derives n (ns ++ ms) xs (ks ++ js)) (append_assoc (body_of r) ss ts) (Derives-append ms ts js d e))

-- A nonterminal before tokens: the production it goes on by.
pub record GoesOn (place : ℕ) (n : Nonterminal) (es : List Event) (ss : List Symbol) (ks : List TokenKind) : Type 0 where
  pub production : Production
  pub own : head_of production ≡ n
  pub derives : Derives place es (body_of production ++ ss) ks

pub goes_on : {place : ℕ} {es : List Event} {n : Nonterminal} {ss : List Symbol} {ks : List TokenKind} → Derives place es (symbol.Nonterminal n ∷ ss) ks
    → GoesOn place n es ss ks
goes_on (expanded p h d) = record { production = p; own = h; derives = d }

pub and_left : (a b : Bool) → (a && b) ≡ true → a ≡ true
and_left true b e = refl
and_left false b e = cc

pub and_right : (a b : Bool) → (a && b) ≡ true → b ≡ true
and_right true b e = e
and_right false b e = cc

pub both : {a b : Bool} → a ≡ true → b ≡ true → (a && b) ≡ true
both {a} {b} e h = subst (λ x. (x && b) ≡ true) (sym e) h
