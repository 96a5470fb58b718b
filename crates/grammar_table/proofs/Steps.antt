-- What the steps of the parser do to its stack and its events.
use Rattle.std.proofs.Common.{suc, ◌≡◌, ⊎_elim, ℕ, ◌+◌, ◌-◌, ◌<◌, ◌≤◌, Bool, true, false, List, [], ◌∷◌, ◌++◌, length, drop, take, get_or, Some, None, refl, sym, ◌∙◌, ap, subst, arith, add-one, drop-cons, cond, append_assoc, take-add, length-take, length-drop, take_all, MatchBool}
use Rattle.std.proofs.lemmas.List.{take_more, append-nil}
use Rattle.std.proofs.lemmas.Bool.{cases_lt}
use Rattle.std.specs.Prelude.{not}
use denote.Enum.Bare.{sameb, same_true, same_false}
use Rattle.frame_grammar.specs.contracts.token_kind.TokenKind.{the_type}
use Rattle.frame_grammar.specs.declared.token_kind.TokenKind.{TokenKind}
use Rattle.frame_grammar.specs.declared.token_kind.TokenKind.TheVariants.{End}
use Rattle.frame_grammar.specs.declared.symbols.Nonterminal.{Nonterminal}
use Rattle.frame_grammar.specs.declared.symbols.Action.{Action}
use Rattle.frame_grammar.specs.declared.symbols.Symbol.{Symbol}
use Rattle.frame_grammar.specs.declared.symbols.Symbol.TheVariants as symbol
use Rattle.frame_grammar.specs.declared.symbols.Event.{Event}
use Rattle.frame_grammar.specs.declared.symbols.Production.{Production}
use Rattle.frame_grammar.specs.Bodies.{body_of}
use Rattle.grammar_table.specs.Sets.{is_nullable_of, rank_of}
use Rattle.frame_grammar.specs.Sentences.{IsStart, IsSentence, IsViable, IsFault, IsOnlySentence, IsEnded}
use Rattle.grammar_table.specs.Predict.{found, predicted, same_kind}
use Rattle.grammar_table.specs.Stack.{Between, weight, weight_after, closes, IsReached, IsReachedAt, Takes, Stops}
use Rattle.grammar_table.proofs.Fronts.{weight-append, nullable, nullable-from}
use Rattle.grammar_table.proofs.Checks.{spelled, ends_nullable, lower, own}
use Rattle.grammar_table.proofs.Run.{expand, act, shift, viable, finished, only_here, refuses, stuck_empty, stuck_terminal, stuck_nonterminal, reached_start, reached_at}
use Rattle.frame_grammar.proofs.Ends.{end_is_last}
use Rattle.grammar_table.proofs.Closes.{closes-expanded, closes-action, closes-terminal, derives_some, start_closes}

pub found-here : (xs : List (TokenKind × Production)) (i : ℕ) (d : TokenKind × Production) (k : TokenKind) → i < length xs
    → sameb the_type (get_or xs i d).0 k ≡ true →
    found (drop i xs) k ≡ Some (get_or xs i d).1
unfolding same_kind
found-here xs i d k h e = rw (drop-cons xs i d h) (ap (λ b. cond b (Some (get_or xs i d).1) (found (drop (suc i) xs) k)) e)

pub found-later : (xs : List (TokenKind × Production)) (i : ℕ) (d : TokenKind × Production) (k : TokenKind) → i < length xs
    → sameb the_type (get_or xs i d).0 k ≡ false →
    found (drop i xs) k ≡ found (drop (i + 1) xs) k
unfolding same_kind
found-later xs i d k h e = rw (add-one, drop-cons xs i d h) (ap (λ b. cond b (Some (get_or xs i d).1) (found (drop (suc i) xs) k)) e)

not_false : (b : Bool) → not b ≡ false → b ≡ true
not_false true e = refl
not_false false e = cc

pub kinds_same : (j k : TokenKind) → sameb the_type j k ≡ true → j ≡ k
kinds_same j k e = same_true the_type tt j k e

pub kinds_same_not : (j k : TokenKind) → not (sameb the_type j k) ≡ false → j ≡ k
kinds_same_not j k e = kinds_same j k (not_false (sameb the_type j k) e)

pub kinds_differ : (j k : TokenKind) → sameb the_type j k ≡ false → j ≡ k → ⊥
kinds_differ j k e h = same_false the_type j k e h

not_true : (b : Bool) → not b ≡ true → b ≡ false
not_true true e = cc
not_true false e = refl

pub kinds_differ_not : (j k : TokenKind) → not (sameb the_type j k) ≡ true → j ≡ k → ⊥
kinds_differ_not j k e h = kinds_differ j k (not_true (sameb the_type j k) e) h

-- Where the stack ss0 was reached, the stack ss is; and where ss0 closes, ss does.
pub record Leads (ahead : TokenKind) (place : ℕ) (done0 : List Event) (ss0 : List Symbol) (done : List Event) (ss : List Symbol) : Type 0 where
  pub reached : (start : Nonterminal) (read : List TokenKind) → IsReachedAt start ahead place done0 read ss0 → IsReachedAt start ahead place done read ss
  pub closed : closes ss0 ≡ true → closes ss ≡ true

pub leads_start : (ahead : TokenKind) (place : ℕ) (done : List Event) (ss : List Symbol) → Leads ahead place done ss done ss
leads_start ahead place done ss = record { reached = λ start read at. at; closed = λ e. e }

pub taken : (ahead : TokenKind) (place : ℕ) (done0 done : List Event) (ss0 ss : List Symbol) (j : TokenKind) (b : Bool)
    → Leads ahead place done0 ss0 done (symbol.Terminal j ∷ ss) →
    (b ≡ true → j ≡ ahead) → (b ≡ false → j ≡ ahead → ⊥) → MatchBool b (Takes ahead place done0 ss0 done ss) (Stops ahead place done0 ss0)
taken ahead place done0 done ss0 ss j true leads same differs = (
  λ start read at. shift start ahead place done read ss (subst (λ k. IsReachedAt start ahead place done read (symbol.Terminal k ∷ ss)) (same refl)
      (leads.reached start read at)),
  λ e. closes-terminal j ss (leads.closed e),
)
taken ahead place done0 done ss0 ss j false leads same differs =
    λ start read at. refuses start ahead place done read (symbol.Terminal j ∷ ss) (leads.reached start read at) (stuck_terminal ahead place j ss (differs refl))

pub stops_empty : (ahead : TokenKind) (place : ℕ) (done0 done : List Event) (ss0 : List Symbol) → Leads ahead place done0 ss0 done []
    → Stops ahead place done0 ss0
stops_empty ahead place done0 done ss0 leads start read at = refuses start ahead place done read [] (leads.reached start read at) (stuck_empty ahead place)

pub stops_at : (ahead : TokenKind) (place : ℕ) (done0 done : List Event) (ss0 ss : List Symbol) (n : Nonterminal)
    → Leads ahead place done0 ss0 done (symbol.Nonterminal n ∷ ss) →
    predicted n ahead ≡ None → Stops ahead place done0 ss0
stops_at ahead place done0 done ss0 ss n leads e start read at =
    let here = leads.reached start read at in
    refuses start ahead place done read (symbol.Nonterminal n ∷ ss) here (stuck_nonterminal ahead place n ss here.clear e)

pub goes_on_by : (ahead : TokenKind) (place : ℕ) (done0 done : List Event) (ss0 ss : List Symbol) (n : Nonterminal) (p : Production)
    → Leads ahead place done0 ss0 done (symbol.Nonterminal n ∷ ss) →
    predicted n ahead ≡ Some p → Leads ahead place done0 ss0 done (body_of p ++ ss)
goes_on_by ahead place done0 done ss0 ss n p leads e = record {
  reached = λ start read at. expand start ahead place n p done read ss e (leads.reached start read at);
  closed = λ c. closes-expanded p n ss (own n ahead p e) (leads.closed c);
}

pub acts : (ahead : TokenKind) (place : ℕ) (done0 done : List Event) (ss0 ss : List Symbol) (a : Action)
    → Leads ahead place done0 ss0 done (symbol.Action a ∷ ss) →
    Leads ahead place done0 ss0 (done ++ record { action = a; place = place } ∷ []) ss
acts ahead place done0 done ss0 ss a leads = record {
  reached = λ start read at. act start ahead place a done read ss (leads.reached start read at);
  closed = λ c. closes-action a ss (leads.closed c);
}

after_less : (n : Nonterminal) (w b : ℕ) (v : Bool) → (v ≡ true → is_nullable_of n ≡ true) → b < rank_of n →
    b + weight_after v w < rank_of n + weight_after (is_nullable_of n) w
after_less n w b true e h = rw (e refl) (omega arith)
after_less n w b false e h = omega arith

-- each production takes a step down
pub smaller : (ahead : TokenKind) (n : Nonterminal) (p : Production) (ss : List Symbol) → predicted n ahead ≡ Some p
    → weight (body_of p ++ ss) < weight (symbol.Nonterminal n ∷ ss)
smaller ahead n p ss e =
    let h = own n ahead p e in
    rw (weight-append (body_of p) ss)
    (after_less n (weight ss) (weight (body_of p)) (nullable (body_of p))
    (λ v. subst (λ m. is_nullable_of m ≡ true) h (ends_nullable p (nullable-from (body_of p) v)))
    (subst (λ m. weight (body_of p) < rank_of m) h (lower p)))

-- an action too
pub less_by_action : (a : Action) (ss : List Symbol) → weight ss < weight (symbol.Action a ∷ ss)
less_by_action a ss = omega arith

-- a closed stack wants another token
no_sentence : (start : Nonterminal) (place : ℕ) (done : List Event) (read : List TokenKind) (ss : List Symbol) → IsReached start place done read ss
    → closes ss ≡ true →
    (es : List Event) → IsSentence start es read → ⊥
no_sentence start place done read ss at closed es sentence =
    let d = at.complete es [] (subst (IsSentence start es) (sym (append-nil read)) sentence) in
    derives_some d.2 closed refl

pub between_start : (start : Nonterminal) (tokens : List TokenKind) → IsStart start → Between start tokens 0 [] (symbol.Nonterminal start ∷ [])
between_start start tokens is_start = record {
  reached = reached_start start;
  closed = start_closes start is_start;
  none = λ m es low sentence.
      let zero_is : m ≡ 0 = omega arith in
      no_sentence start 0 [] [] (symbol.Nonterminal start ∷ []) (reached_start start) (start_closes start is_start) es
      (subst (λ n. IsSentence start es (take n tokens)) zero_is sentence);
}

reached_more : (start : Nonterminal) (tokens : List TokenKind) (place : ℕ) (d : TokenKind) (done done' : List Event) (ss ss' : List Symbol)
    → place < length tokens → Between start tokens place done ss →
    Takes (get_or tokens place d) place done ss done' ss' → IsReached start (place + 1) done' (take (place + 1) tokens) ss'
reached_more start tokens place d done done' ss ss' lt at step =
    subst (λ ks. IsReached start (place + 1) done' ks ss') (sym (take_more tokens place d lt))
    (step.0 start (take place tokens) (reached_at start (get_or tokens place d) place done (take place tokens) ss at.reached))

-- After a token, where the stack isn't empty.
pub between_more : (start : Nonterminal) (tokens : List TokenKind) (place : ℕ) (d : TokenKind) (done done' : List Event) (ss ss' : List Symbol)
    → place < length tokens → Between start tokens place done ss →
    Takes (get_or tokens place d) place done ss done' ss' → (ss' ≡ [] → ⊥) → Between start tokens (place + 1) done' ss'
between_more start tokens place d done done' ss ss' lt at step some =
    let here = reached_more start tokens place d done done' ss ss' lt at step in
    let closed : closes ss' ≡ true = ⊎_elim (λ none. absurd (some none)) (λ e. e) (step.1 at.closed) in
    record {
      reached = here;
      closed = closed;
      none = λ m es low sentence.
          ⊎_elim
          (λ below. at.none m es (omega arith) sentence)
          (λ above.
          let same : m ≡ place + 1 = omega arith in
          no_sentence start (place + 1) done' (take (place + 1) tokens) ss' here closed es (subst (λ n. IsSentence start es (take n tokens)) same sentence))
          (cases_lt m (place + 1));
    }

-- the front of m tokens, from that of n on
take-from : (n m : ℕ) (tokens : List TokenKind) → n ≤ m → take m tokens ≡ take n tokens ++ take (m - n) (drop n tokens)
take-from n m tokens low =
    let sum : n + (m - n) ≡ m = omega arith in
    sym (ap (λ k. take k tokens) sum) ∙ take-add n (m - n) tokens

-- After a token, where the stack is empty.
pub finds : (start : Nonterminal) (tokens : List TokenKind) (place : ℕ) (d : TokenKind) (done done' : List Event) (ss ss' : List Symbol) → place < length tokens
    → Between start tokens place done ss →
    Takes (get_or tokens place d) place done ss done' ss' → ss' ≡ [] → IsOnlySentence start tokens (place + 1) done'
finds start tokens place d done done' ss ss' lt at step empty =
    let here = subst (λ xs. IsReached start (place + 1) done' (take (place + 1) tokens) xs) empty
    (reached_more start tokens place d done done' ss ss' lt at step) in
    record {
      within = omega arith;
      sentence = finished start (place + 1) done' (take (place + 1) tokens) here;
      only = λ m es within sentence.
          ⊎_elim
          (λ below. absurd (at.none m es (omega arith) sentence))
          (λ above.
          let rest = take (m - (place + 1)) (drop (place + 1) tokens) in
          let only = only_here start (place + 1) done' (take (place + 1) tokens) here es rest
          (subst (IsSentence start es) (take-from (place + 1) m tokens above) sentence) in
          let short : length rest ≡ 0 = ap length only.0 in
          (omega (arith, short, length-take (m - (place + 1)) (drop (place + 1) tokens), length-drop (place + 1) tokens), only.1))
          (cases_lt m (place + 1));
    }

-- Where the token ahead can't be taken.
pub fault_at : (start : Nonterminal) (tokens : List TokenKind) (place : ℕ) (d : TokenKind) (done : List Event) (ss : List Symbol) → place < length tokens
    → Between start tokens place done ss →
    Stops (get_or tokens place d) place done ss → IsFault start tokens place
fault_at start tokens place d done ss lt at step =
    let not_viable : IsViable start (take (place + 1) tokens) → ⊥ = λ v.
    step start (take place tokens) (reached_at start (get_or tokens place d) place done (take place tokens) ss at.reached) v.1
    (get_or tokens place d ∷ v.0) refl
    (subst (λ ks. IsSentence start v.1 ks) (ap (λ ks. ks ++ v.0) (take_more tokens place d lt)
    ∙ append_assoc (take place tokens) (get_or tokens place d ∷ []) v.0) v.2) in
    record {
      within = lt;
      before = viable start place done (take place tokens) ss at.reached;
      token = not_viable;
      none = λ m es within sentence.
          ⊎_elim
          (λ below. at.none m es (omega arith) sentence)
          (λ above. not_viable (
            take (m - (place + 1)) (drop (place + 1) tokens),
            es,
            subst (IsSentence start es)
                (take-from (place + 1) m tokens above) sentence,
          ))
          (cases_lt m (place + 1));
    }

-- Behind the last token the stack would want another, but nothing follows an end.
pub never_left : (start : Nonterminal) (tokens : List TokenKind) (place : ℕ) (done : List Event) (ss : List Symbol) → IsStart start → IsEnded tokens
    → length tokens ≤ place → Between start tokens place done ss → ⊥
never_left start tokens place done ss is_start ended past at =
    let s = spelled place ss in
    let whole = take_all place tokens past in
    let sentence = at.reached.sound s.events s.tokens s.derives in
    let joined : take place tokens ++ s.tokens ≡ ended.0 ++ (End ∷ s.tokens) = ap (λ x. x ++ s.tokens) (whole ∙ ended.1)
    ∙ append_assoc ended.0 (End ∷ []) s.tokens in
    let none = end_is_last start (done ++ s.events) ended.0 s.tokens is_start (subst (IsSentence start (done ++ s.events)) joined sentence) in
    derives_some s.derives at.closed none
