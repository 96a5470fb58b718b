-- No sentence has a Bad token, so tokens with one begin with the same sentences, and have the same fault, whatever
-- stands behind it.
use Rattle.std.proofs.Common.{◌≡◌, ℕ, zero, suc, ◌+◌, ◌<◌, ◌≤◌, Bool, true, not, ◌&&◌, List, [], ◌∷◌, ◌++◌, length, take, refl, sym, ◌∙◌, subst, arith, length-append}
use Rattle.std.proofs.lemmas.List.{take-append-le}
use Rattle.frame_grammar.specs.declared.token_kind.TokenKind.{TokenKind}
use Rattle.frame_grammar.specs.declared.token_kind.TokenKind.TheVariants.{Bad}
use Rattle.frame_grammar.specs.declared.symbols.Event.{Event}
use Rattle.frame_grammar.specs.declared.symbols.Nonterminal.{Nonterminal}
use Rattle.frame_grammar.specs.declared.symbols.Symbol.{Symbol}
use Rattle.frame_grammar.specs.declared.symbols.Symbol.TheVariants as symbol
use Rattle.frame_grammar.specs.declared.symbols.Production.{Production}
use Rattle.frame_grammar.specs.declared.symbols.Production.TheVariants as production
use Rattle.frame_grammar.specs.Bodies.{body_of}
use Rattle.frame_grammar.specs.Grammar.{Derives, nothing, terminal, action, expanded}
use Rattle.frame_grammar.specs.Sentences.{IsSentence, IsViable, IsOnlySentence, IsFault}
use Rattle.frame_grammar.proofs.Theory.{and_left, and_right, both}
use Rattle.kernel_text.specs.Tokens.{is_bad}

-- THE GRAMMAR

-- none of the tokens is Bad
abbrev pub no_bad : List TokenKind → Bool
no_bad [] = true
no_bad (k ∷ ks) = not (is_bad k) && no_bad ks

-- none of the symbols is Bad
abbrev badless : List Symbol → Bool
badless [] = true
badless (symbol.Terminal k ∷ ss) = not (is_bad k) && badless ss
badless (symbol.Action a ∷ ss) = badless ss
badless (symbol.Nonterminal n ∷ ss) = badless ss

productions_badless : (p : Production) → badless (body_of p) ≡ true
unfolding body_of
productions_badless production.File = refl
productions_badless _ = refl

badless-append : (xs ys : List Symbol) → badless xs ≡ true → badless ys ≡ true → badless (xs ++ ys) ≡ true
badless-append [] ys e h = h
badless-append (symbol.Terminal k ∷ xs) ys e h = both (and_left _ _ e) (badless-append xs ys (and_right _ _ e) h)
badless-append (symbol.Action a ∷ xs) ys e h = badless-append xs ys e h
badless-append (symbol.Nonterminal n ∷ xs) ys e h = badless-append xs ys e h

no_bad_derived : {n : ℕ} {es : List Event} {ss : List Symbol} {ks : List TokenKind} → Derives n es ss ks → badless ss ≡ true → no_bad ks ≡ true
no_bad_derived nothing e = refl
no_bad_derived (terminal k d) e = both (and_left _ _ e) (no_bad_derived d (and_right _ _ e))
no_bad_derived (action a d) e = no_bad_derived d e
no_bad_derived (expanded {ss = ss} p h d) e = no_bad_derived d (badless-append (body_of p) ss (productions_badless p) e)

sentence_no_bad : (start : Nonterminal) (es : List Event) (ks : List TokenKind) → IsSentence start es ks → no_bad ks ≡ true
sentence_no_bad start es ks sentence = no_bad_derived sentence refl

no_bad-left : (xs ys : List TokenKind) → no_bad (xs ++ ys) ≡ true → no_bad xs ≡ true
no_bad-left [] ys e = refl
no_bad-left (x ∷ xs) ys e = both (and_left _ _ e) (no_bad-left xs ys (and_right _ _ e))

viable_no_bad : (start : Nonterminal) (ks : List TokenKind) → IsViable start ks → no_bad ks ≡ true
viable_no_bad start ks v = no_bad-left ks v.0 (sentence_no_bad start v.1 (ks ++ v.0) v.2)

-- TOKENS WITH A BAD ONE

-- first tokens among which none is Bad end in front of the Bad one
short : (front rest : List TokenKind) (n : ℕ) → no_bad (take n ((front ++ Bad ∷ []) ++ rest)) ≡ true → n ≤ length front
short [] rest zero e = omega arith
short [] rest (suc n) e = cc
short (k ∷ front) rest zero e = omega arith
short (k ∷ front) rest (suc n) e = omega (arith, short front rest n (and_right _ _ e))

module _ (start : Nonterminal) (front rest other : List TokenKind) where
  abbrev pub ahead : List TokenKind
  ahead = (front ++ Bad ∷ []) ++ rest

  abbrev pub instead : List TokenKind
  instead = (front ++ Bad ∷ []) ++ other

  size : length (front ++ Bad ∷ []) ≡ length front + 1
  size = length-append front (Bad ∷ [])

  -- the tokens up to the Bad one are the same
  same : (n : ℕ) → n ≤ length front + 1 → take n ahead ≡ take n instead
  same n le = take-append-le n (front ++ Bad ∷ []) rest (omega (arith, size)) ∙ sym (take-append-le n (front ++ Bad ∷ []) other (omega (arith, size)))

  room : (n : ℕ) → n ≤ length front → n < length instead
  room n le = omega (arith, size, length-append (front ++ Bad ∷ []) other)

  room_ahead : (n : ℕ) → n ≤ length front → n < length ahead
  room_ahead n le = omega (arith, size, length-append (front ++ Bad ∷ []) rest)

  pub sentence_short : (n : ℕ) (es : List Event) → IsSentence start es (take n ahead) → n ≤ length front
  sentence_short n es sentence = short front rest n (sentence_no_bad start es (take n ahead) sentence)

  -- the sentences that the other tokens begin with
  back : (n : ℕ) (es : List Event) → IsSentence start es (take n instead) → (n ≤ length front) × IsSentence start es (take n ahead)
  back n es sentence =
      let le = short front other n (sentence_no_bad start es (take n instead) sentence) in
      (le, subst (IsSentence start es) (sym (same n (omega arith))) sentence)

  pub only_sentence_stands : (n : ℕ) (es : List Event) → IsOnlySentence start ahead n es → IsOnlySentence start instead n es
  only_sentence_stands n es found =
      let le = sentence_short n es found.sentence in
      let room_for = room n le in
      record {
        within = omega arith;
        sentence = subst (IsSentence start es) (same n (omega arith)) found.sentence;
        only = λ m others le sentence.
            let b = back m others sentence in
            let room_there = room_ahead m b.0 in
            found.only m others (omega arith) b.1;
      }

  pub fault_stands : (place : ℕ) → IsFault start ahead place → IsFault start instead place
  fault_stands place fault =
      let le = short front rest place (viable_no_bad start (take place ahead) fault.before) in
      record {
        within = room place le;
        before = subst (IsViable start) (same place (omega arith)) fault.before;
        token = λ v. fault.token (subst (IsViable start) (sym (same (place + 1) (omega arith))) v);
        none = λ m es le sentence.
            let b = back m es sentence in
            let room_there = room_ahead m b.0 in
            fault.none m es (omega arith) b.1;
      }

  pub fault_short : (place : ℕ) → IsFault start ahead place → place ≤ length front
  fault_short place fault = short front rest place (viable_no_bad start (take place ahead) fault.before)
