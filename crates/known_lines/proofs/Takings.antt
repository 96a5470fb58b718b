-- Lines that are taken at once are taken as the table takes them.
use Rattle.std.proofs.Common.{zero, suc, ◌≡◌, ℕ, ◌+◌, ◌-◌, ◌<◌, ◌≤◌, ⊎_elim, Result, Ok, Err, IfOk, Bool, true, false, List, [], ◌∷◌, ◌++◌, All, length, map, get_or, slice_get, nat_le, take, Option, Some, None, refl, sym, ◌∙◌, ap, subst, cond, append_assoc, arith}
use Rattle.std.proofs.lemmas.List.{append-nil}
use Rattle.std.proofs.lemmas.List.Elements.{All-cons, All-nil}
use Rattle.std.proofs.lemmas.Bool.{and_parts, leb-true, cases_lt}
use Rattle.std.specs.List.{list_all}
use Rattle.std.proofs.lemmas.Option.{slice_get_within, get_or_from_slice_get, slice_get-map, slice_get_read, slice_get-get_or}
use Rattle.std.specs.Option.{option_map}
use Rattle.frame_grammar.specs.declared.token_kind.TokenKind.{TokenKind}
use Rattle.frame_grammar.specs.declared.token_kind.TokenKind.TheVariants.{Line}
use Rattle.frame_grammar.specs.declared.symbols.Action.{Action}
use Rattle.frame_grammar.specs.declared.symbols.Event.{Event}
use Rattle.frame_grammar.specs.declared.symbols.Nonterminal.{Nonterminal}
use Rattle.frame_grammar.specs.declared.symbols.Production.{Production}
use Rattle.frame_grammar.specs.declared.symbols.Symbol.{Symbol}
use Rattle.frame_grammar.specs.declared.symbols.Symbol.TheVariants as symbol
use Rattle.frame_grammar.specs.Bodies.{body_of}
use Rattle.grammar_table.specs.Predict.{predicted, same_kind}
use Rattle.frame_grammar.specs.Sentences.{IsSentence}
use Rattle.frame_grammar.specs.Grammar.{Derives, action}
use Rattle.grammar_table.specs.Stack.{Between, IsReached, Takes}
use Rattle.grammar_table.proofs.Run.{action_first}
use Rattle.grammar_table.proofs.Closes.{closes-action}
use Rattle.known_lines.specs.Lines.{Left, behind, expanded, taken_with, then_with, all_taken, events_at, acted, IsPhrase, AreAt, Noted, TakesPhrase, MayTake, MayTakeAll, TakesLines, items_on}
use Rattle.grammar_table.proofs.Steps.{taken, Leads, leads_start, goes_on_by, acts, kinds_same, between_more}

same_left : {a b : Left} → Some a ≡ Some b → a ≡ b
same_left e = cc

-- what is left was led to, and isn't nothing
abbrev Took : TokenKind → ℕ → List Event → List Symbol → List Event → Left → Type 0
Took k place done0 ss0 done left = Takes k place done0 ss0 (done ++ left.events) left.stack × (left.stack ≡ [] → ⊥)

kind_is : (j k : TokenKind) → same_kind j k ≡ true → j ≡ k
unfolding same_kind
kind_is j k e = kinds_same j k e

token_taken : (j k : TokenKind) (place : ℕ) (s : Symbol) (ss : List Symbol) (left : Left) (done0 done : List Event) (ss0 : List Symbol) (b : Bool)
    → same_kind j k ≡ b →
    cond b (Some (record { events = []; stack = s ∷ ss })) None ≡ Some left → Leads k place done0 ss0 done (symbol.Terminal j ∷ s ∷ ss)
    → Took k place done0 ss0 done left
token_taken j k place s ss left done0 done ss0 true same e leads =
    let led = subst (λ x. Leads k place done0 ss0 done (symbol.Terminal x ∷ s ∷ ss)) (kind_is j k same) leads in
    let step = subst (λ es. Takes k place done0 ss0 es (s ∷ ss)) (sym (append-nil done))
    (taken k place done0 done ss0 (s ∷ ss) k true led (λ _. refl) (λ h _. cc)) in
    subst (λ l. Took k place done0 ss0 done l) (same_left e) (step, λ h. cc)
token_taken j k place s ss left done0 done ss0 false same e leads = cc

behind_some : (es : List Event) (o : Option Left) (left : Left) → behind es o ≡ Some left →
    (l : Left) × (o ≡ Some l) × (record { events = es ++ l.events; stack = l.stack } ≡ left)
behind_some es None left e = cc
behind_some es (Some l) left e = (l, refl, same_left e)

nothing_taken : (n : ℕ) (k : TokenKind) (place : ℕ) → taken_with n k place [] ≡ None
nothing_taken zero k place = refl
nothing_taken (suc n) k place = refl

production_taken : (n : ℕ) (k : TokenKind) (place : ℕ) (m : Nonterminal) (ss : List Symbol) (left : Left) (done0 done : List Event) (ss0 : List Symbol)
    (p : Option Production) → predicted m k ≡ p →
    taken_with n k place (expanded p ss) ≡ Some left → Leads k place done0 ss0 done (symbol.Nonterminal m ∷ ss) →
    ((more : List Symbol) → taken_with n k place more ≡ Some left → Leads k place done0 ss0 done more → Took k place done0 ss0 done left)
    → Took k place done0 ss0 done left
production_taken n k place m ss left done0 done ss0 None same e leads goes = let none = sym (nothing_taken n k place) ∙ e in cc
production_taken n k place m ss left done0 done ss0 (Some p) same e leads goes =
    goes (body_of p ++ ss) e (goes_on_by k place done0 done ss0 ss m p leads same)

takes_with : (n : ℕ) (k : TokenKind) (place : ℕ) (ss : List Symbol) (left : Left) → taken_with n k place ss ≡ Some left
    → (done0 done : List Event) (ss0 : List Symbol) →
    Leads k place done0 ss0 done ss → Took k place done0 ss0 done left
takes_with zero k place ss left e done0 done ss0 leads = cc
takes_with (suc n) k place [] left e done0 done ss0 leads = cc
takes_with (suc n) k place (symbol.Terminal j ∷ []) left e done0 done ss0 leads = cc
takes_with (suc n) k place (symbol.Terminal j ∷ s ∷ ss) left e done0 done ss0 leads =
    token_taken j k place s ss left done0 done ss0 (same_kind j k) refl e leads
takes_with (suc n) k place (symbol.Action a ∷ ss) left e done0 done ss0 leads =
    let event : Event = record { action = a; place = place } in
    let found = behind_some (event ∷ []) (taken_with n k place ss) left e in
    let step = takes_with n k place ss found.0 found.1 done0 (done ++ event ∷ []) ss0 (acts k place done0 done ss0 ss a leads) in
    subst (λ l. Took k place done0 ss0 done l) found.2
    (subst (λ es. Takes k place done0 ss0 es found.0.stack) (append_assoc done (event ∷ []) found.0.events) step.0, step.1)
takes_with (suc n) k place (symbol.Nonterminal m ∷ ss) left e done0 done ss0 leads =
    production_taken n k place m ss left done0 done ss0 (predicted m k) refl e leads (λ more e' led. takes_with n k place more left e' done0 done ss0 led)

-- one token, from the first symbol on
pub taken_at_once : (k : TokenKind) (place : ℕ) (ss : List Symbol) (left : Left) → taken_with 12 k place ss ≡ Some left → (done : List Event)
    → Takes k place done ss (done ++ left.events) left.stack
taken_at_once k place ss left e done = (takes_with 12 k place ss left e done done ss (leads_start k place done ss)).0

then_some : (o : Option Left) (more : List Symbol → Option Left) (left : Left) → then_with o more ≡ Some left →
    (l m : Left) × (o ≡ Some l) × (more l.stack ≡ Some m) × (record { events = l.events ++ m.events; stack = m.stack } ≡ left)
then_some None more left e = cc
then_some (Some l) more left e = let found = behind_some l.events (more l.stack) left e in (l, found.0, refl, found.1, found.2)

pub all_between : (start : Nonterminal) (tokens kinds : List TokenKind) (after place : ℕ) (done : List Event) (ss : List Symbol) (left : Left)
    → all_taken kinds after place ss ≡ Some left →
    AreAt kinds tokens (place + after) → Between start tokens (place + after) done ss
    → Between start tokens (place + after + length kinds) (done ++ left.events) left.stack
all_between start tokens [] after place done ss left e there at =
    let same : place + after ≡ place + after + 0 = omega arith in
    subst (λ l. Between start tokens (place + after + 0) (done ++ l.events) l.stack) (same_left e)
    (subst (λ es. Between start tokens (place + after + 0) es ss) (sym (append-nil done)) (subst (λ p. Between start tokens p done ss) same at))
all_between start tokens (k ∷ ks) after place done ss left e there at =
    let here = place + after in
    let found = then_some (taken_with 12 k here ss) (all_taken ks (after + 1) place) left e in
    let l = found.0 in
    let m = found.1 in
    let first_at : here + 0 ≡ here = omega arith in
    let head : slice_get tokens here ≡ Some k = ap (slice_get tokens) (sym first_at) ∙ there 0 (omega arith) in
    let within = slice_get_within tokens here k head in
    let kind = get_or_from_slice_get tokens here k k head in
    let step = takes_with 12 k here ss l found.2 done done ss (leads_start k here done ss) in
    let one = between_more start tokens here k done (done ++ l.events) ss l.stack within at
    (subst (λ x. Takes x here done ss (done ++ l.events) l.stack) (sym kind) step.0) step.1 in
    let next : here + 1 ≡ place + (after + 1) = omega arith in
    let rest = all_between start tokens ks (after + 1) place (done ++ l.events) l.stack m found.3
    (λ j lt. let place_is : place + (after + 1) + j ≡ here + suc j = omega arith in ap (slice_get tokens) place_is ∙ there (suc j) (omega (arith, lt)))
    (subst (λ p. Between start tokens p (done ++ l.events) l.stack) next one) in
    let end : place + (after + 1) + length ks ≡ here + length (k ∷ ks) = omega arith in
    subst (λ x. Between start tokens (here + length (k ∷ ks)) (done ++ x.events) x.stack) found.4
    (subst (λ es. Between start tokens (here + length (k ∷ ks)) es m.stack) (append_assoc done l.events m.events)
    (subst (λ p. Between start tokens p ((done ++ l.events) ++ m.events) m.stack) end rest))

-- an action on top of the stack is done before any token
reached_by : (start : Nonterminal) (n : ℕ) (a : Action) (done : List Event) (read : List TokenKind) (ss : List Symbol)
    → IsReached start n done read (symbol.Action a ∷ ss) → IsReached start n (done ++ record { action = a; place = n } ∷ []) read ss
reached_by start n a done read ss at = record {
  sound = λ es ks d. subst (λ xs. IsSentence start xs (read ++ ks)) (sym (append_assoc done (record { action = a; place = n } ∷ []) es))
      (at.sound (record { action = a; place = n } ∷ es) ks (action a d));
  complete = λ es ks sentence. more es ks (at.complete es ks sentence);
  clear = at.clear;
}
  where
    more : (es : List Event) (ks : List TokenKind) → (rest : List Event) × (es ≡ done ++ rest) × Derives n rest (symbol.Action a ∷ ss) ks →
        (rest : List Event) × (es ≡ (done ++ record { action = a; place = n } ∷ []) ++ rest) × Derives n rest ss ks
    more es ks d =
        let t = action_first d.2 in
        (t.0, d.1 ∙ ap (λ xs. done ++ xs) t.1 ∙ sym (append_assoc done (record { action = a; place = n } ∷ []) t.0), t.2)

between_by : (start : Nonterminal) (tokens : List TokenKind) (place : ℕ) (a : Action) (done : List Event) (ss : List Symbol)
    → Between start tokens place done (symbol.Action a ∷ ss) → Between start tokens place (done ++ record { action = a; place = place } ∷ []) ss
between_by start tokens place a done ss at = record {
  reached = reached_by start place a done (take place tokens) ss at.reached;
  closed = closes-action a ss at.closed;
  none = at.none;
}

-- nothing is done
kept_between : (start : Nonterminal) (tokens : List TokenKind) (place : ℕ) (done : List Event) (ss : List Symbol) (left : Left)
    → Some (record { events = []; stack = ss }) ≡ Some left → Between start tokens place done ss
    → Between start tokens place (done ++ left.events) left.stack
kept_between start tokens place done ss left e at =
    subst (λ l. Between start tokens place (done ++ l.events) l.stack) (same_left e)
    (subst (λ es. Between start tokens place es ss) (sym (append-nil done)) at)

-- all actions on top of the stack are
acted_between : (start : Nonterminal) (tokens : List TokenKind) (place : ℕ) (done : List Event) (ss : List Symbol) (left : Left)
    → acted place ss ≡ Some left → Between start tokens place done ss
    → Between start tokens place (done ++ left.events) left.stack
acted_between start tokens place done [] left e at = kept_between start tokens place done [] left e at
acted_between start tokens place done (symbol.Terminal k ∷ ss) left e at = kept_between start tokens place done (symbol.Terminal k ∷ ss) left e at
acted_between start tokens place done (symbol.Nonterminal n ∷ ss) left e at = kept_between start tokens place done (symbol.Nonterminal n ∷ ss) left e at
acted_between start tokens place done (symbol.Action a ∷ ss) left e at =
    let event : Event = record { action = a; place = place } in
    let found = behind_some (event ∷ []) (acted place ss) left e in
    let rest = acted_between start tokens place (done ++ event ∷ []) ss found.0 found.1 (between_by start tokens place a done ss at) in
    subst (λ l. Between start tokens place (done ++ l.events) l.stack) found.2
    (subst (λ es. Between start tokens place es found.0.stack) (append_assoc done (event ∷ []) found.0.events) rest)

-- a phrase that stands there is taken
phrase_between : (start : Nonterminal) (from to : List Symbol) (tokens kinds : List TokenKind) (notes : List (Action × ℕ)) (place : ℕ) (done : List Event)
    (ss : List Symbol) → IsPhrase from to kinds notes → AreAt kinds tokens place → Between start tokens place done (from ++ ss)
    → Between start tokens (place + length kinds) (done ++ events_at place notes) (to ++ ss)
phrase_between start from to tokens kinds notes place done ss phrase there at =
    let none : place ≡ place + 0 = omega arith in
    let end = place + length kinds in
    let same : place + 0 + length kinds ≡ end = omega arith in
    let found = then_some (all_taken kinds 0 place (from ++ ss)) (acted end) (record { events = events_at place notes; stack = to ++ ss })
    (phrase.derived place ss) in
    let l = found.0 in
    let m = found.1 in
    let all = all_between start tokens kinds 0 place done (from ++ ss) l found.2 (subst (λ p. AreAt kinds tokens p) none there)
    (subst (λ p. Between start tokens p done (from ++ ss)) none at) in
    let rest = acted_between start tokens end (done ++ l.events) l.stack m found.3
    (subst (λ p. Between start tokens p (done ++ l.events) l.stack) same all) in
    subst (λ x. Between start tokens end (done ++ x.events) x.stack) found.4
    (subst (λ es. Between start tokens end es m.stack) (append_assoc done l.events m.events) rest)

pub phrase_taken : (from to : List Symbol) (tokens kinds : List TokenKind) (notes : List (Action × ℕ)) (place : ℕ) (done done' : List Event)
    → IsPhrase from to kinds notes → AreAt kinds tokens place → place + length kinds ≤ length tokens →
    done' ≡ done ++ events_at place notes → TakesPhrase from to tokens place (place + length kinds) done done'
phrase_taken from to tokens kinds notes place done done' phrase there room noted = record {
  on = omega arith;
  within = room;
  noted = (events_at place notes, noted);
  between = λ start ss at.
      subst (λ es. Between start tokens (place + length kinds) es (to ++ ss)) (sym noted)
      (phrase_between start from to tokens kinds notes place done ss phrase there at);
}

-- no phrase is taken
pub nothing_there : (from : List Symbol) (tokens : List TokenKind) (place : ℕ) (done : List Event) → place ≤ length tokens
    → TakesPhrase from from tokens place place done done
nothing_there from tokens place done within =
    record { on = omega arith; within = within; noted = ([], sym (append-nil done)); between = λ start ss at. at }

-- no line is taken
pub none_taken : (tokens : List TokenKind) (place : ℕ) (done : List Event) → place ≤ length tokens → TakesLines tokens place (place + 0) done done
none_taken tokens place done within =
    let same : place ≡ place + 0 = omega arith in
    subst (λ p. TakesLines tokens place p done done) same (nothing_there items_on tokens place done within)

pub noted_more : (es fs gs : List Event) → Noted es fs → Noted fs gs → Noted es gs
noted_more es fs gs first then =
    (first.0 ++ then.0, then.1 ∙ ap (λ xs. xs ++ then.0) first.1 ∙ append_assoc es first.0 then.0)

-- phrases behind phrases
pub then_phrase : (from to last : List Symbol) (tokens : List TokenKind) (a b c : ℕ) (es fs gs : List Event) → TakesPhrase from to tokens a b es fs
    → TakesPhrase to last tokens b c fs gs → TakesPhrase from last tokens a c es gs
then_phrase from to last tokens a b c es fs gs first then = record {
  on = omega (arith, first.on, then.on);
  within = then.within;
  noted = noted_more es fs gs first.noted then.noted;
  between = λ start ss at. then.between start ss (first.between start ss at);
}

-- the same where the phrases behind it may be missing
pub then_all : (from to last : List Symbol) (tokens : List TokenKind) (a b : ℕ) (next : Option ℕ) (es fs gs : List Event)
    → TakesPhrase from to tokens a b es fs → MayTakeAll to last tokens b next fs gs → MayTakeAll from last tokens a next es gs
then_all from to last tokens a b None es fs gs first then = noted_more es fs gs first.noted then
then_all from to last tokens a b (Some c) es fs gs first then = then_phrase from to last tokens a b c es fs gs first then

-- one phrase is one of as many as there may be
pub one_of_all : (from to : List Symbol) (tokens : List TokenKind) (a : ℕ) (next : Option ℕ) (es fs : List Event) → MayTake from to tokens a next es fs
    → MayTakeAll from to tokens a next es fs
one_of_all from to tokens a None es fs one = ([], one ∙ sym (append-nil es))
one_of_all from to tokens a (Some b) es fs one = one.1

-- lines after lines
pub more_taken : (tokens : List TokenKind) (a b c : ℕ) (es fs gs : List Event) → TakesLines tokens a b es fs → TakesLines tokens b c fs gs
    → TakesLines tokens a c es gs
more_taken tokens a b c es fs gs first then = then_phrase items_on items_on items_on tokens a b c es fs gs first then

-- nothing was taken first
pub then_taken : {E : Type 0} (result : Result ℕ E) (tokens : List TokenKind) (place first : ℕ) (es fs gs : List Event) → first ≤ 0
    → TakesLines tokens place (place + first) es fs →
    IfOk result (λ n. TakesLines tokens place (place + n) fs gs) → IfOk result (λ n. TakesLines tokens place (place + n) es gs)
then_taken (Ok n) tokens place first es fs gs none before then =
    let same : place + first ≡ place = omega (arith, none) in
    more_taken tokens place place (place + n) es fs gs (subst (λ p. TakesLines tokens place p es fs) same before) then
then_taken (Err e) tokens place first es fs gs none before then = then

-- nothing was taken at last
pub none_more : (tokens : List TokenKind) (from place last : ℕ) (es fs gs : List Event) → last ≡ 0 → TakesLines tokens from place es fs
    → TakesLines tokens place (place + last) fs gs → TakesLines tokens from place es gs
none_more tokens from place last es fs gs none before then =
    let same : place + last ≡ place = omega (arith, none) in
    subst (λ p. TakesLines tokens from p es gs) same (more_taken tokens from place (place + last) es fs gs before then)

-- places of notes that fit are small
pub few_places : (n place most : ℕ) (notes : List (Action × ℕ)) → list_all (λ note. nat_le note.1 n) notes ≡ true → place + n < most
    → All (λ note. place + note.1 < most) notes
few_places n place most [] h room = All-nil (λ note. place + note.1 < most)
few_places n place most (note ∷ notes) h room =
    let both = and_parts (nat_le note.1 n) (list_all (λ x. nat_le x.1 n) notes) h in
    let low = leb-true note.1 n both.0 in
    All-cons (λ x. place + x.1 < most) note notes (omega (arith, low)) (few_places n place most notes both.1 room)

-- kinds that stand there as far as they were looked at, and one more
pub one_more_there : (kinds tokens : List TokenKind) (place i : ℕ) → ((j : ℕ) → j < i → slice_get tokens (place + j) ≡ slice_get kinds j)
    → slice_get tokens (place + i) ≡ slice_get kinds i →
    (j : ℕ) → j < i + 1 → slice_get tokens (place + j) ≡ slice_get kinds j
one_more_there kinds tokens place i before here j lt =
    ⊎_elim (λ low. before j low) (λ high. let same : i ≡ j = omega arith in subst (λ x. slice_get tokens (place + x) ≡ slice_get kinds x) same here)
    (cases_lt j i)

-- a token has the kind that is wanted
pub kind_there : {X : Type 0} (kind_of : X → TokenKind) (xs : List X) (x : X) (p : ℕ) (kinds : List TokenKind) (i : ℕ) (k d : TokenKind) → p < length xs
    → i < length kinds → x ≡ get_or xs p x → k ≡ kind_of x →
    k ≡ get_or kinds i d → slice_get (map kind_of xs) p ≡ slice_get kinds i
kind_there kind_of xs x p kinds i k d low small token kind wanted =
    slice_get-map kind_of xs p ∙ ap (option_map kind_of) (slice_get_read xs (length xs) p x refl low token) ∙ ap Some (sym kind ∙ wanted)
    ∙ sym (slice_get-get_or kinds i d small)

-- and the other way round
pub kind_wanted : {X : Type 0} (kind_of : X → TokenKind) (xs : List X) (x : X) (p : ℕ) (kinds : List TokenKind) (i : ℕ) (k d : TokenKind) → p < length xs
    → i < length kinds → x ≡ get_or xs p x → k ≡ kind_of x →
    slice_get (map kind_of xs) p ≡ slice_get kinds i → k ≡ get_or kinds i d
kind_wanted kind_of xs x p kinds i k d low small token kind there =
    let same : Some k ≡ Some (get_or kinds i d) =
    ap Some kind ∙ sym (slice_get-map kind_of xs p ∙ ap (option_map kind_of) (slice_get_read xs (length xs) p x refl low token)) ∙ there
    ∙ slice_get-get_or kinds i d small in
    cc

-- fewer tokens are left
pub too_few_there : (kinds tokens : List TokenKind) (place : ℕ) → place ≤ length tokens → length tokens - place < length kinds → AreAt kinds tokens place → ⊥
too_few_there kinds tokens place low few there =
    let last = length kinds - 1 in
    let small : last < length kinds = omega (arith, few) in
    let within = slice_get_within tokens (place + last) _ (there last small ∙ slice_get-get_or kinds last Line small) in
    omega (arith, within, few, low)
