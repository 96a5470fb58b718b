-- Derivations as trees, in which what a nonterminal derives stands together.
use Rattle.std.proofs.Common.{◌≡◌, ℕ, suc, ◌+◌, ◌≤◌, List, [], ◌∷◌, ◌++◌, length, refl, sym, ◌∙◌, ap, subst, arith, append_assoc, length-append}
use Rattle.frame_grammar.specs.declared.token_kind.TokenKind.{TokenKind}
use Rattle.frame_grammar.specs.declared.symbols.Nonterminal.{Nonterminal}
use Rattle.frame_grammar.specs.declared.symbols.Production.{Production}
use Rattle.frame_grammar.specs.declared.symbols.Symbol.{Symbol}
use Rattle.frame_grammar.specs.declared.symbols.Symbol.TheVariants as symbol
use Rattle.frame_grammar.specs.declared.symbols.Action.{Action}
use Rattle.frame_grammar.specs.declared.symbols.Event.{Event}
use Rattle.frame_grammar.specs.Grammar.{head_of, Derives, nothing as d-nothing, terminal as d-terminal, action as d-action, expanded}
use Rattle.frame_grammar.specs.Bodies.{body_of}
use Rattle.frame_grammar.proofs.Theory.{Derives-append}
use Rattle.kernel_raw.specs.RawEvents.{on}
use Rattle.script_text.specs.Places.{Stands}

-- From the place n of all tokens on, these symbols derive these tokens, with these events.
pub data Tree : List TokenKind → ℕ → List Event → List Symbol → List TokenKind → Type 0 where
  nothing : {all : List TokenKind} {n : ℕ} → Tree all n [] [] []
  terminal : {all : List TokenKind} {n : ℕ} {events : List Event} {ss : List Symbol} {ks : List TokenKind} (k : TokenKind) →
      Stands all k n → Tree all (suc n) events ss ks → Tree all n events (symbol.Terminal k ∷ ss) (k ∷ ks)
  action : {all : List TokenKind} {n : ℕ} {events : List Event} {ss : List Symbol} {ks : List TokenKind} (a : Action) →
      Tree all n events ss ks → Tree all n (on a n ∷ events) (symbol.Action a ∷ ss) ks
  branch : {all : List TokenKind} {n : ℕ} {es es' : List Event} {ss : List Symbol} {js js' : List TokenKind} (p : Production) {head : Nonterminal} →
      head_of p ≡ head → n + length js ≤ length all → Tree all n es (body_of p) js → Tree all (n + length js) es' ss js' →
      Tree all n (es ++ es') (symbol.Nonterminal head ∷ ss) (js ++ js')

-- what two lists of symbols derive, one behind the other
pub record Halves (all : List TokenKind) (n : ℕ) (events : List Event) (xs ss : List Symbol) (ks : List TokenKind) : Type 0 where
  pub es : List Event
  pub es' : List Event
  pub js : List TokenKind
  pub js' : List TokenKind
  pub events_are : events ≡ es ++ es'
  pub tokens_are : ks ≡ js ++ js'
  pub first : Tree all n es xs js
  pub second : Tree all (n + length js) es' ss js'

none_before : (n : ℕ) → n ≡ n + 0
none_before n = omega arith

one_before : (n l : ℕ) → suc n + l ≡ n + suc l
one_before n l = omega arith

more_before : (n : ℕ) (js ks : List TokenKind) → n + length js + length ks ≡ n + length (js ++ ks)
more_before n js ks = omega (arith, length-append js ks)

pub halves : (xs ss : List Symbol) {all : List TokenKind} {n : ℕ} {events : List Event} {ks : List TokenKind} → Tree all n events (xs ++ ss) ks
    → Halves all n events xs ss ks
halves [] ss {all} {n} {events} {ks} t = record {
  es = [];
  es' = events;
  js = [];
  js' = ks;
  events_are = refl;
  tokens_are = refl;
  first = nothing;
  second = subst (λ m. Tree all m events ss ks) (none_before n) t;
}
halves (symbol.Terminal j ∷ xs) ss {all} (terminal {n = n} k stands t) =
    let h = halves xs ss t in
    record {
      es = h.es;
      es' = h.es';
      js = k ∷ h.js;
      js' = h.js';
      events_are = h.events_are;
      tokens_are = ap (λ x. k ∷ x) h.tokens_are;
      first = terminal k stands h.first;
      second = subst (λ m. Tree all m h.es' ss h.js') (one_before n (length h.js)) h.second;
    }
halves (symbol.Action b ∷ xs) ss (action {n = n} a t) =
    let h = halves xs ss t in
    record {
      es = on a n ∷ h.es;
      es' = h.es';
      js = h.js;
      js' = h.js';
      events_are = ap (λ x. on a n ∷ x) h.events_are;
      tokens_are = h.tokens_are;
      first = action a h.first;
      second = h.second;
    }
halves (symbol.Nonterminal m ∷ xs) ss {all} (branch {n = n} {es = es} {js = js} p own within body t) =
    let h = halves xs ss t in
    record {
      es = es ++ h.es;
      es' = h.es';
      js = js ++ h.js;
      js' = h.js';
      events_are = ap (λ x. es ++ x) h.events_are ∙ sym (append_assoc es h.es h.es');
      tokens_are = ap (λ x. js ++ x) h.tokens_are ∙ sym (append_assoc js h.js h.js');
      first = branch p own within body h.first;
      second = subst (λ m. Tree all m h.es' ss h.js') (more_before n js h.js) h.second;
    }

stands_between : (read : List TokenKind) (k : TokenKind) (ks : List TokenKind) → Stands (read ++ k ∷ ks) k (length read)
stands_between [] k ks = refl
stands_between (j ∷ read) k ks = stands_between read k ks

one_more : (read : List TokenKind) (k : TokenKind) → suc (length read) ≡ length (read ++ k ∷ [])
one_more read k = omega (arith, length-append read (k ∷ []))

within_all : (all read ks js js' rest : List TokenKind) (n : ℕ) → all ≡ read ++ (ks ++ rest) → ks ≡ js ++ js' → n ≡ length read → n + length js ≤ length all
within_all all read ks js js' rest n whole split place =
    let a : length all ≡ length read + (length ks + length rest) = ap length whole ∙ length-append read (ks ++ rest)
    ∙ ap (λ x. length read + x) (length-append ks rest) in
    let b : length ks ≡ length js + length js' = ap length split ∙ length-append js js' in
    omega arith

-- A derivation from the token on behind those read.
pub tree_of : {all : List TokenKind} {n : ℕ} {events : List Event} {ss : List Symbol} {ks : List TokenKind} (read rest : List TokenKind) →
    all ≡ read ++ (ks ++ rest) → n ≡ length read → Derives n events ss ks → Tree all n events ss ks
tree_of read rest whole place d-nothing = nothing
tree_of {all} {n} read rest whole place (d-terminal {ks = ks} k d) =
    terminal k
    (subst (λ x. Stands x k n) (sym whole) (subst (λ x. Stands (read ++ (k ∷ ks ++ rest)) k x) (sym place) (stands_between read k (ks ++ rest))))
    (tree_of (read ++ k ∷ []) rest (whole ∙ sym (append_assoc read (k ∷ []) (ks ++ rest))) (ap suc place ∙ one_more read k) d)
tree_of read rest whole place (d-action a d) = action a (tree_of read rest whole place d)
tree_of {all} {n} read rest whole place (expanded {ss = ss} {ks = ks} p {head} own d) =
    let h = halves (body_of p) ss (tree_of read rest whole place d) in
    let within = within_all all read ks h.js h.js' rest n whole h.tokens_are place in
    let t = branch p own within h.first h.second in
    subst (λ x. Tree all n x (symbol.Nonterminal head ∷ ss) ks) (sym h.events_are)
    (subst (λ x. Tree all n (h.es ++ h.es') (symbol.Nonterminal head ∷ ss) x) (sym h.tokens_are) t)

-- and back
pub derives_of : {all : List TokenKind} {n : ℕ} {events : List Event} {ss : List Symbol} {ks : List TokenKind} → Tree all n events ss ks
    → Derives n events ss ks
derives_of nothing = d-nothing
derives_of (terminal k stands t) = d-terminal k (derives_of t)
derives_of (action a t) = d-action a (derives_of t)
derives_of (branch {es' = es'} {ss = ss} {js' = js'} p own within body t) = expanded p own (Derives-append es' ss js' (derives_of body) (derives_of t))
