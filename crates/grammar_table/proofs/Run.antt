-- What holds of the parser's stack, and how it goes on.
use Rattle.std.proofs.Common.{suc, add-one, ◌+◌, ℕ, ◌≡◌, true, false, List, [], ◌∷◌, ◌++◌, Some, None, inl, inr, refl, sym, ◌∙◌, ap, subst, append_assoc}
use Rattle.std.proofs.lemmas.List.{append-nil}
use Rattle.frame_grammar.specs.declared.token_kind.TokenKind.{TokenKind}
use Rattle.frame_grammar.specs.declared.symbols.Nonterminal.{Nonterminal}
use Rattle.frame_grammar.specs.declared.symbols.Action.{Action}
use Rattle.frame_grammar.specs.declared.symbols.Symbol.{Symbol}
use Rattle.frame_grammar.specs.declared.symbols.Symbol.TheVariants as symbol
use Rattle.frame_grammar.specs.declared.symbols.Event.{Event}
use Rattle.frame_grammar.specs.declared.symbols.Production.{Production}
use Rattle.frame_grammar.specs.Grammar.{head_of, Derives, nothing, terminal, action, expanded}
use Rattle.frame_grammar.specs.Bodies.{body_of}
use Rattle.grammar_table.specs.Table.{default_of}
use Rattle.grammar_table.specs.Sets.{firsts_of, is_nullable_of, barred_of}
use Rattle.frame_grammar.specs.Sentences.{IsSentence, IsViable}
use Rattle.grammar_table.specs.Predict.{predicted}
use Rattle.grammar_table.specs.Stack.{Starts, IsClear, IsReached, IsReachedAt, first_of, has_kind}
use Rattle.frame_grammar.proofs.Theory.{goes_on}
use Rattle.grammar_table.proofs.Fronts.{Starts-append, IsClear-append}
use Rattle.grammar_table.proofs.Checks.{begins, begins_first, ends, ends_nullable, fine, own, follows, spelled}

-- What derives tokens begins with the first of them.
starts_expanded : (p : Production) (n : Nonterminal) (ss : List Symbol) (k : TokenKind) → head_of p ≡ n → Starts (body_of p ++ ss) k
    → Starts (symbol.Nonterminal n ∷ ss) k
starts_expanded p n ss k h s =
    elim (Starts-append (body_of p) ss k s) [
      | inl b ↦ inl (subst (λ m. has_kind (firsts_of m) k ≡ true) h (begins_first p k b))
      | inr b ↦ inr (subst (λ m. is_nullable_of m ≡ true) h (ends_nullable p b.0), b.1)
    ]

pub Starts-first : {n : ℕ} {es : List Event} {ss : List Symbol} {ks : List TokenKind} (k : TokenKind) (js : List TokenKind) → Derives n es ss ks → ks ≡ k ∷ js
    → Starts ss k
Starts-first k js nothing e = cc
Starts-first k js (terminal j d) e = cc
Starts-first k js (action a d) e = Starts-first k js d e
Starts-first k js (expanded {ss = ss} p {head = n} h d) e = starts_expanded p n ss k h (Starts-first k js d e)

pub terminal_first : {n : ℕ} {es : List Event} {j : TokenKind} {ss : List Symbol} {ks : List TokenKind} → Derives n es (symbol.Terminal j ∷ ss) ks →
    (js : List TokenKind) × (ks ≡ j ∷ js) × Derives (suc n) es ss js
terminal_first (terminal {ks = js} k d) = (js, refl, d)

pub action_first : {n : ℕ} {es : List Event} {a : Action} {ss : List Symbol} {ks : List TokenKind} → Derives n es (symbol.Action a ∷ ss) ks →
    (rest : List Event) × (es ≡ record { action = a; place = n } ∷ rest) × Derives n rest ss ks
action_first (action {events = rest} a d) = (rest, refl, d)

pub reached_start : (start : Nonterminal) → IsReached start 0 [] [] (symbol.Nonterminal start ∷ [])
reached_start start = record { sound = λ es ks d. d; complete = λ es ks d. (es, refl, d); clear = (λ k s. absurd s, tt) }

pub reached_at : (start : Nonterminal) (ahead : TokenKind) (n : ℕ) (done : List Event) (read : List TokenKind) (ss : List Symbol)
    → IsReached start n done read ss → IsReachedAt start ahead n done read ss
reached_at start ahead n done read ss r = record { sound = r.sound; complete = λ es ks e. r.complete es ks; clear = r.clear }

-- Before the ahead token only one production can go on.
pub only_production : (k : TokenKind) (n : Nonterminal) (p : Production) (place : ℕ) (es : List Event) (ss : List Symbol) (ks : List TokenKind) →
    ((j : TokenKind) → Starts ss j → has_kind (barred_of n) j ≡ false) → first_of ks ≡ Some k → head_of p ≡ n → Derives place es (body_of p ++ ss) ks →
    predicted n k ≡ Some p
only_production k n p place es ss [] clear f h d = cc
only_production k n p place es ss (j ∷ js) clear f h d =
    let same : j ≡ k = cc in
    elim (Starts-append (body_of p) ss k (Starts-first k js d (ap (λ x. x ∷ js) same))) [
      | inl b ↦ subst (λ m. predicted m k ≡ Some p) h (begins p k b)
      | inr b ↦ follows n k (subst (λ m. is_nullable_of m ≡ true) h (ends_nullable p b.0)) (clear k b.1)
          ∙ subst (λ m. default_of m ≡ Some p) h (ends p b.0)
    ]

pub expand : (start : Nonterminal) (ahead : TokenKind) (place : ℕ) (n : Nonterminal) (p : Production) (done : List Event) (read : List TokenKind)
    (ss : List Symbol) → predicted n ahead ≡ Some p →
    IsReachedAt start ahead place done read (symbol.Nonterminal n ∷ ss) → IsReachedAt start ahead place done read (body_of p ++ ss)
expand start ahead place n p done read ss e at = record {
  sound = λ es ks d. at.sound es ks (expanded p (own n ahead p e) d);
  complete = λ es ks f sentence. more es ks f (at.complete es ks f sentence);
  clear = IsClear-append (head_of p) (body_of p) ss (fine p)
      (subst (λ m. (k : TokenKind) → Starts ss k → has_kind (barred_of m) k ≡ false) (sym (own n ahead p e)) at.clear.0) at.clear.1;
}
  where
    more : (es : List Event) (ks : List TokenKind) → first_of ks ≡ Some ahead
        → (rest : List Event) × (es ≡ done ++ rest) × Derives place rest (symbol.Nonterminal n ∷ ss) ks →
        (rest : List Event) × (es ≡ done ++ rest) × Derives place rest (body_of p ++ ss) ks
    more es ks f d =
        let g = goes_on d.2 in
        let one = only_production ahead n g.production place d.0 ss ks at.clear.0 f g.own g.derives in
        let same : g.production ≡ p = cc in
        (d.0, d.1, subst (λ x. Derives place d.0 (body_of x ++ ss) ks) same g.derives)

pub act : (start : Nonterminal) (ahead : TokenKind) (n : ℕ) (a : Action) (done : List Event) (read : List TokenKind) (ss : List Symbol) →
    IsReachedAt start ahead n done read (symbol.Action a ∷ ss) → IsReachedAt start ahead n (done ++ record { action = a; place = n } ∷ []) read ss
act start ahead n a done read ss at = record {
  sound = λ es ks d. subst (λ xs. IsSentence start xs (read ++ ks)) (sym (append_assoc done (record { action = a; place = n } ∷ []) es))
      (at.sound (record { action = a; place = n } ∷ es) ks (action a d));
  complete = λ es ks f sentence. more es ks (at.complete es ks f sentence);
  clear = at.clear;
}
  where
    more : (es : List Event) (ks : List TokenKind) → (rest : List Event) × (es ≡ done ++ rest) × Derives n rest (symbol.Action a ∷ ss) ks →
        (rest : List Event) × (es ≡ (done ++ record { action = a; place = n } ∷ []) ++ rest) × Derives n rest ss ks
    more es ks d =
        let t = action_first d.2 in
        (t.0, d.1 ∙ ap (λ xs. done ++ xs) t.1 ∙ sym (append_assoc done (record { action = a; place = n } ∷ []) t.0), t.2)

pub shift : (start : Nonterminal) (k : TokenKind) (n : ℕ) (done : List Event) (read : List TokenKind) (ss : List Symbol) →
    IsReachedAt start k n done read (symbol.Terminal k ∷ ss) → IsReached start (n + 1) done (read ++ k ∷ []) ss
shift start k n done read ss at = record {
  sound = λ es ks d. subst (λ xs. IsSentence start (done ++ es) xs) (sym (append_assoc read (k ∷ []) ks))
      (at.sound es (k ∷ ks) (terminal k (subst (λ x. Derives x es ss ks) (add-one n) d)));
  complete = λ es ks sentence. more es ks (at.complete es (k ∷ ks) refl (subst (λ xs. IsSentence start es xs) (append_assoc read (k ∷ []) ks) sentence));
  clear = at.clear;
}
  where
    more : (es : List Event) (ks : List TokenKind) → (rest : List Event) × (es ≡ done ++ rest) × Derives n rest (symbol.Terminal k ∷ ss) (k ∷ ks) →
        (rest : List Event) × (es ≡ done ++ rest) × Derives (n + 1) rest ss ks
    more es ks p =
        let t = terminal_first p.2 in
        let same : t.0 ≡ ks = cc in
        (p.0, p.1, subst (λ x. Derives x p.0 ss ks) (sym (add-one n)) (subst (λ xs. Derives (suc n) p.0 ss xs) same t.2))

pub viable : (start : Nonterminal) (n : ℕ) (done : List Event) (read : List TokenKind) (ss : List Symbol) → IsReached start n done read ss → IsViable start read
viable start n done read ss at = let s = spelled n ss in (s.tokens, done ++ s.events, at.sound s.events s.tokens s.derives)

pub nothing_only : {n : ℕ} {es : List Event} {ks : List TokenKind} → Derives n es [] ks → (ks ≡ []) × (es ≡ [])
nothing_only nothing = (refl, refl)

-- With an empty stack what was read is a sentence.
pub finished : (start : Nonterminal) (n : ℕ) (done : List Event) (read : List TokenKind) → IsReached start n done read [] → IsSentence start done read
finished start n done read at =
    subst (λ xs. IsSentence start xs read) (append-nil done) (subst (λ xs. IsSentence start (done ++ []) xs) (append-nil read) (at.sound [] [] nothing))

-- It goes on to no longer sentence, and has no other events.
pub only_here : (start : Nonterminal) (n : ℕ) (done : List Event) (read : List TokenKind) → IsReached start n done read [] →
    (es : List Event) (ks : List TokenKind) → IsSentence start es (read ++ ks) → (ks ≡ []) × (es ≡ done)
only_here start n done read at es ks sentence =
    let d = at.complete es ks sentence in
    let none = nothing_only d.2 in
    (none.0, d.1 ∙ ap (λ xs. done ++ xs) none.1 ∙ append-nil done)

-- Where the stack can't go on by the ahead token, no sentence does.
pub IsStuck : TokenKind → ℕ → List Symbol → Type 0
IsStuck ahead n ss = (es : List Event) (ks : List TokenKind) → first_of ks ≡ Some ahead → Derives n es ss ks → ⊥

pub refuses : (start : Nonterminal) (ahead : TokenKind) (n : ℕ) (done : List Event) (read : List TokenKind) (ss : List Symbol)
    → IsReachedAt start ahead n done read ss → IsStuck ahead n ss →
    (es : List Event) (ks : List TokenKind) → first_of ks ≡ Some ahead → IsSentence start es (read ++ ks) → ⊥
unfolding IsStuck
refuses start ahead n done read ss at stuck es ks f sentence = let p = at.complete es ks f sentence in stuck p.0 ks f p.2

pub stuck_empty : (k : TokenKind) (n : ℕ) → IsStuck k n []
unfolding IsStuck
stuck_empty k n es [] f d = cc
stuck_empty k n es (j ∷ ks) f d = let e = (nothing_only d).0 in cc

pub stuck_terminal : (ahead : TokenKind) (n : ℕ) (j : TokenKind) (ss : List Symbol) → (j ≡ ahead → ⊥) → IsStuck ahead n (symbol.Terminal j ∷ ss)
unfolding IsStuck
stuck_terminal ahead n j ss differs es ks f d =
    let t = terminal_first d in
    let first : Some j ≡ Some ahead = sym (ap first_of t.1) ∙ f in
    let same : j ≡ ahead = cc in
    differs same

pub stuck_nonterminal : (ahead : TokenKind) (place : ℕ) (n : Nonterminal) (ss : List Symbol) → IsClear (symbol.Nonterminal n ∷ ss) → predicted n ahead ≡ None
    → IsStuck ahead place (symbol.Nonterminal n ∷ ss)
unfolding IsStuck
stuck_nonterminal ahead place n ss clear e es ks f d =
    let g = goes_on d in
    let one = only_production ahead n g.production place es ss ks clear.0 f g.own g.derives in
    cc
