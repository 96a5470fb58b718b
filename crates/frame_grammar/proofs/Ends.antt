-- Where a sentence has End: a file as its last token, and nothing else.
use Rattle.std.proofs.Common.{◌≡◌, ◌≢◌, ◌⊎◌, inl, inr, ⊎_elim, ℕ, length, take, get_or, get_or-take, length-take, length-append, arith, Bool, true, false, not, ◌&&◌, List, [], ◌∷◌, ◌++◌, refl, sym, ◌∙◌, ap, subst, append_assoc}
use Rattle.std.specs.Prelude.{All}
use Rattle.std.proofs.lemmas.List.Elements.{All-get_or}
use Rattle.std.proofs.lemmas.Bool.{cases_lt}
use Rattle.std.proofs.Math.Seq.{get_or-append_seam}
use Rattle.std.proofs.Math.ListN.{get_or-append}
use denote.Enum.Bare.{sameb, same_true, true_same}
use Rattle.frame_grammar.specs.contracts.token_kind.TokenKind.{the_type as the_kind}
use Rattle.frame_grammar.specs.contracts.symbols.Nonterminal.{the_type as the_nonterminal}
use Rattle.frame_grammar.specs.contracts.symbols.Production.{the_type as the_production}
use Rattle.frame_grammar.specs.declared.token_kind.TokenKind.{TokenKind}
use Rattle.frame_grammar.specs.declared.token_kind.TokenKind.TheVariants.{End}
use Rattle.frame_grammar.specs.declared.symbols.Event.{Event}
use Rattle.frame_grammar.specs.declared.symbols.Nonterminal.{Nonterminal}
use Rattle.frame_grammar.specs.declared.symbols.Nonterminal.TheVariants.{File, Kernel, Items}
use Rattle.frame_grammar.specs.declared.symbols.Symbol.{Symbol}
use Rattle.frame_grammar.specs.declared.symbols.Symbol.TheVariants as symbol
use Rattle.frame_grammar.specs.declared.symbols.Production.{Production}
use Rattle.frame_grammar.specs.declared.symbols.Production.TheVariants as production
use Rattle.frame_grammar.specs.Grammar.{head_of, Derives, nothing, terminal, action, expanded}
use Rattle.frame_grammar.specs.Bodies.{body_of}
use Rattle.frame_grammar.specs.Sentences.{IsStart, IsSentence, IsOnlySentence}
use Rattle.frame_grammar.proofs.Theory.{goes_on, and_left, and_right, both}

abbrev is_end : TokenKind → Bool
is_end k = sameb the_kind k End

abbrev is_file : Nonterminal → Bool
is_file n = sameb the_nonterminal n File

-- no end among the tokens
abbrev no_end : List TokenKind → Bool
no_end [] = true
no_end (k ∷ ks) = not (is_end k) && no_end ks

-- the symbols derive no end
abbrev endless : List Symbol → Bool
endless [] = true
endless (symbol.Terminal k ∷ ss) = not (is_end k) && endless ss
endless (symbol.Action a ∷ ss) = endless ss
endless (symbol.Nonterminal n ∷ ss) = not (is_file n) && endless ss

-- A production of another nonterminal derives no end. The file's only production derives one, the last.
abbrev ends_well : Bool → Production → Bool
ends_well true p = sameb the_production p production.File
ends_well false p = endless (body_of p)

productions_end : (p : Production) → ends_well (is_file (head_of p)) p ≡ true
unfolding head_of body_of
productions_end production.File = refl
productions_end _ = refl

-- the file's body but for the end
file_front : List Symbol
file_front = symbol.Nonterminal Items ∷ []

file_body : body_of production.File ≡ file_front ++ symbol.Terminal End ∷ []
unfolding body_of file_front
file_body = refl

front_endless : endless file_front ≡ true
unfolding file_front
front_endless = refl

endless-append : (xs ys : List Symbol) → endless xs ≡ true → endless ys ≡ true → endless (xs ++ ys) ≡ true
endless-append [] ys e h = h
endless-append (symbol.Terminal k ∷ xs) ys e h = both (and_left _ _ e) (endless-append xs ys (and_right _ _ e) h)
endless-append (symbol.Action a ∷ xs) ys e h = endless-append xs ys e h
endless-append (symbol.Nonterminal n ∷ xs) ys e h = both (and_left _ _ e) (endless-append xs ys (and_right _ _ e) h)

not_true : (b : Bool) → not b ≡ true → b ≡ false
not_true true e = cc
not_true false e = refl

-- a production of a nonterminal that isn't the file
body_endless : (p : Production) (n : Nonterminal) → head_of p ≡ n → not (is_file n) ≡ true → endless (body_of p) ≡ true
body_endless p n h e =
    ap (λ b. ends_well b p) (sym (ap is_file h ∙ not_true (is_file n) e)) ∙ productions_end p

no_end_derived : {n : ℕ} {es : List Event} {ss : List Symbol} {ks : List TokenKind} → Derives n es ss ks → endless ss ≡ true → no_end ks ≡ true
no_end_derived nothing e = refl
no_end_derived (terminal k d) e = both (and_left _ _ e) (no_end_derived d (and_right _ _ e))
no_end_derived (action a d) e = no_end_derived d e
no_end_derived (expanded {ss = ss} p {head = n} h d) e =
    no_end_derived d (endless-append (body_of p) ss (body_endless p n h (and_left _ _ e)) (and_right _ _ e))

-- tokens with an end that is the last
record IsLast (ks : List TokenKind) : Type 0 where
  front : List TokenKind
  is : ks ≡ front ++ End ∷ []
  free : no_end front ≡ true

nothing_left : {n : ℕ} {es : List Event} {ss : List Symbol} {ks : List TokenKind} → Derives n es ss ks → ss ≡ [] → ks ≡ []
nothing_left nothing e = refl
nothing_left (terminal k d) e = cc
nothing_left (action a d) e = cc
nothing_left (expanded p h d) e = cc

more_last : (k : TokenKind) (ks : List TokenKind) → not (is_end k) ≡ true → IsLast ks → IsLast (k ∷ ks)
more_last k ks e l = record { front = k ∷ l.front; is = ap (λ x. k ∷ x) l.is; free = both e l.free }

end_derived : {n : ℕ} {es : List Event} {ss : List Symbol} {ks : List TokenKind} → Derives n es ss ks → (xs : List Symbol)
    → ss ≡ xs ++ symbol.Terminal End ∷ [] →
    endless xs ≡ true → IsLast ks
end_derived nothing [] e h = cc
end_derived nothing (x ∷ xs) e h = cc
end_derived (terminal {ss = ss} {ks = ks} k d) [] e h =
    let rest : ss ≡ [] = cc in
    let same : k ≡ End = cc in
    record { front = []; is = ap (λ x. x ∷ ks) same ∙ ap (λ x. End ∷ x) (nothing_left d rest); free = refl }
end_derived (terminal {ss = ss} {ks = ks} k d) (symbol.Terminal j ∷ xs) e h =
    let rest : ss ≡ xs ++ symbol.Terminal End ∷ [] = cc in
    let same : j ≡ k = cc in
    more_last k ks (subst (λ x. not (is_end x) ≡ true) same (and_left _ _ h)) (end_derived d xs rest (and_right _ _ h))
end_derived (terminal k d) (symbol.Action a ∷ xs) e h = cc
end_derived (terminal k d) (symbol.Nonterminal n ∷ xs) e h = cc
end_derived (action a d) [] e h = cc
end_derived (action a d) (symbol.Terminal j ∷ xs) e h = cc
end_derived (action {ss = ss} a d) (symbol.Action b ∷ xs) e h = let rest : ss ≡ xs ++ symbol.Terminal End ∷ [] = cc in end_derived d xs rest h
end_derived (action a d) (symbol.Nonterminal n ∷ xs) e h = cc
end_derived (expanded p h' d) [] e h = cc
end_derived (expanded p h' d) (symbol.Terminal j ∷ xs) e h = cc
end_derived (expanded p h' d) (symbol.Action b ∷ xs) e h = cc
end_derived (expanded {ss = ss} p {head = n} h' d) (symbol.Nonterminal q ∷ xs) e h =
    let rest : ss ≡ xs ++ symbol.Terminal End ∷ [] = cc in
    let same : q ≡ n = cc in
    end_derived d (body_of p ++ xs) (ap (λ x. body_of p ++ x) rest ∙ sym (append_assoc (body_of p) xs (symbol.Terminal End ∷ [])))
    (endless-append (body_of p) xs (body_endless p q (h' ∙ sym same) (and_left _ _ h)) (and_right _ _ h))

end_in : (front ys : List TokenKind) → no_end (front ++ End ∷ ys) ≡ true → ⊥
end_in [] ys e =
    let is : is_end End ≡ true = refl in
    let isn't : is_end End ≡ false = not_true (is_end End) (and_left (not (is_end End)) (no_end ys) e) in
    cc
end_in (k ∷ front) ys e = end_in front ys (and_right _ _ e)

-- a list with one end, the last, has nothing after an end
nothing_after : (js front ys : List TokenKind) → no_end js ≡ true → js ++ End ∷ [] ≡ front ++ End ∷ ys → ys ≡ []
nothing_after [] [] ys e h = cc
nothing_after [] (f ∷ []) ys e h = cc
nothing_after [] (f ∷ (g ∷ fs)) ys e h = cc
nothing_after (j ∷ js) [] ys e h =
    let same : j ≡ End = cc in
    let is : is_end j ≡ true = true_same the_kind j End same in
    let isn't : is_end j ≡ false = not_true (is_end j) (and_left _ _ e) in
    cc
nothing_after (j ∷ js) (f ∷ fs) ys e h = let rest : js ++ End ∷ [] ≡ fs ++ End ∷ ys = cc in nothing_after js fs ys (and_right _ _ e) rest

is_file_production : (p : Production) → head_of p ≡ File → p ≡ production.File
is_file_production p h =
    same_true the_production tt p production.File (ap (λ b. ends_well b p) (sym (true_same the_nonterminal (head_of p) File h)) ∙ productions_end p)

file_ends : (es : List Event) (ks : List TokenKind) → IsSentence File es ks → IsLast ks
file_ends es ks sentence =
    let g = goes_on sentence in
    let same = is_file_production g.production g.own in
    end_derived g.derives file_front
    (ap (λ p. body_of p ++ []) same ∙ ap (λ x. x ++ []) file_body ∙ append_assoc file_front (symbol.Terminal End ∷ []) []) front_endless

kernel_endless : endless (symbol.Nonterminal Kernel ∷ []) ≡ true
kernel_endless = refl

-- Nothing follows an end.
pub end_is_last : (start : Nonterminal) (es : List Event) (front ys : List TokenKind) → IsStart start → IsSentence start es (front ++ End ∷ ys) → ys ≡ []
end_is_last start es front ys (inl file) sentence =
    let l = file_ends es (front ++ End ∷ ys) (subst (λ n. IsSentence n es (front ++ End ∷ ys)) file sentence) in
    nothing_after l.front front ys l.free (sym l.is)
end_is_last start es front ys (inr kernel) sentence =
    absurd (end_in front ys (no_end_derived (subst (λ n. IsSentence n es (front ++ End ∷ ys)) kernel sentence) kernel_endless))

-- A file has an end, the last of its tokens.
pub file_is_ended : (es : List Event) (ks : List TokenKind) → IsSentence File es ks → (front : List TokenKind) × (ks ≡ front ++ End ∷ [])
file_is_ended es ks sentence = let l = file_ends es ks sentence in (l.front, l.is)

-- Where no token in front of the last is the end, the one file that the tokens begin with is all of them.
pub file_is_all : (front : List TokenKind) (n : ℕ) (events : List Event) → All (λ k. k ≢ End) front → IsOnlySentence File (front ++ End ∷ []) n events
    → n ≡ length (front ++ End ∷ [])
file_is_all front n events free found =
    let tokens = front ++ End ∷ [] in
    let ended = file_is_ended events (take n tokens) found.sentence in
    let size = ap length ended.1 in
    let here : get_or (take n tokens) (length ended.0) End ≡ End = ap (λ ks. get_or ks (length ended.0) End) ended.1 ∙ get_or-append_seam ended.0 End [] End in
    ⊎_elim
    (λ inside.
    let same = get_or-take n tokens (length ended.0) End (omega (arith, size, length-take n tokens, length-append ended.0 (End ∷ []), found.within)) in
    absurd (All-get_or (λ k. k ≢ End) front (length ended.0) End inside free
    (sym (get_or-append front (End ∷ []) End (length ended.0) inside) ∙ sym same ∙ here)))
    (λ past. omega (arith, size, length-take n tokens, length-append ended.0 (End ∷ []), length-append front (End ∷ []), found.within))
    (cases_lt (length ended.0) (length front))
