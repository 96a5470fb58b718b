-- Phrases of a line that are taken one after another.
use Rattle.std.proofs.Common.{◌≡◌, ℕ, ◌<◌, ◌≤◌, [], List, Result, Ok, Err, IfOk, Option, Some, None, IfSome, length, map, take, take_all, sym, ◌∙◌, ap, subst, arith}
use Rattle.std.proofs.lemmas.List.{append-nil, take-append-le, length-map}
use Rattle.std.specs.List.{take-map}
use Rattle.frame_grammar.specs.declared.token_kind.TokenKind.{TokenKind}
use Rattle.frame_grammar.specs.declared.symbols.Event.{Event}
use Rattle.frame_grammar.specs.declared.symbols.Symbol.{Symbol}
use Rattle.known_lines.specs.Lines.{Noted, TakesPhrase, MayTake, MayTakeAll}
use Rattle.known_lines.proofs.Takings.{then_all, one_of_all}

-- what a test of one of them said
pub phrase_some : (from to : List Symbol) (tokens : List TokenKind) (place next : ℕ) (o : Option ℕ) (es fs : List Event) → o ≡ Some next
    → MayTake from to tokens place o es fs → (place < next) × TakesPhrase from to tokens place next es fs
phrase_some from to tokens place next o es fs is may = subst (λ x. MayTake from to tokens place x es fs) is may

pub phrase_none : (from to : List Symbol) (tokens : List TokenKind) (place : ℕ) (o : Option ℕ) (es fs : List Event) → o ≡ None
    → MayTake from to tokens place o es fs → fs ≡ es
phrase_none from to tokens place o es fs is may = subst (λ x. MayTake from to tokens place x es fs) is may

pub all_some : (from to : List Symbol) (tokens : List TokenKind) (place next : ℕ) (o : Option ℕ) (es fs : List Event) → o ≡ Some next
    → MayTakeAll from to tokens place o es fs → TakesPhrase from to tokens place next es fs
all_some from to tokens place next o es fs is may = subst (λ x. MayTakeAll from to tokens place x es fs) is may

pub all_none : (from to : List Symbol) (tokens : List TokenKind) (place : ℕ) (o : Option ℕ) (es fs : List Event) → o ≡ None
    → MayTakeAll from to tokens place o es fs → Noted es fs
all_none from to tokens place o es fs is may = subst (λ x. MayTakeAll from to tokens place x es fs) is may

-- phrases end no earlier than they begin
pub all_onward : (from to : List Symbol) (tokens : List TokenKind) (place : ℕ) (o : Option ℕ) (es fs : List Event)
    → MayTakeAll from to tokens place o es fs → IfSome o (λ next. place ≤ next)
all_onward from to tokens place None es fs may = tt
all_onward from to tokens place (Some next) es fs may = may.on

-- one phrase that is known
pub one_known : {E : Type 0} (result : Result (Option ℕ) E) (from to : List Symbol) (tokens : List TokenKind) (place : ℕ) (es fs : List Event)
    (A : List Symbol → List Symbol → Type 0) → A from to →
    IfOk result (λ next. (f t : List Symbol) → A f t → MayTake f t tokens place next es fs) → IfOk result (λ next. MayTake from to tokens place next es fs)
one_known (Ok next) from to tokens place es fs A a h = h from to a
one_known (Err e) from to tokens place es fs A a h = h

-- the second of two, where the first isn't there
pub second_known : {E : Type 0} (result : Result (Option ℕ) E) (tokens : List TokenKind) (place : ℕ) (first : Option ℕ) (es fs gs : List Event)
    (A B : List Symbol → List Symbol → Type 0) → first ≡ None → ((f t : List Symbol) → A f t → MayTake f t tokens place first es fs) →
    IfOk result (λ next. (f t : List Symbol) → B f t → MayTake f t tokens place next fs gs)
    → IfOk result (λ next. (f t : List Symbol) → A f t → B f t → MayTake f t tokens place next es gs)
second_known (Ok next) tokens place first es fs gs A B none before h =
    λ f t a b. subst (λ xs. MayTake f t tokens place next xs gs) (phrase_none f t tokens place first es fs none (before f t a)) (h f t b)
second_known (Err e) tokens place first es fs gs A B none before h = h

-- the last phrase behind others
pub last_phrase : {E : Type 0} (result : Result (Option ℕ) E) (from to last : List Symbol) (tokens : List TokenKind) (a b : ℕ) (es fs gs : List Event)
    → TakesPhrase from to tokens a b es fs → IfOk result (λ next. MayTake to last tokens b next fs gs)
    → IfOk result (λ next. MayTakeAll from last tokens a next es gs)
last_phrase (Ok next) from to last tokens a b es fs gs first h = then_all from to last tokens a b next es fs gs first (one_of_all to last tokens b next fs gs h)
last_phrase (Err e) from to last tokens a b es fs gs first h = h

-- the last phrases behind others
pub last_phrases : {E : Type 0} (result : Result (Option ℕ) E) (from to last : List Symbol) (tokens : List TokenKind) (a b : ℕ) (es fs gs : List Event)
    → TakesPhrase from to tokens a b es fs → IfOk result (λ next. MayTakeAll to last tokens b next fs gs)
    → IfOk result (λ next. MayTakeAll from last tokens a next es gs)
last_phrases (Ok next) from to last tokens a b es fs gs first h = then_all from to last tokens a b next es fs gs first h
last_phrases (Err e) from to last tokens a b es fs gs first h = h

-- nothing more was noted
pub noted_same : (es fs gs : List Event) → Noted es fs → gs ≡ fs → Noted es gs
noted_same es fs gs noted same = subst (λ xs. Noted es xs) (sym same) noted

-- a list of notes that is cut to what it was
pub taken_back : {X : Type 0} (f : X → Event) (before after : List X) (n : ℕ) → n ≡ length before → Noted (map f before) (map f after)
    → map f (take n after) ≡ map f before
taken_back f before after n same noted =
    let len = length-map before f in
    sym (take-map f n after) ∙ ap (take n) noted.1 ∙ take-append-le n (map f before) noted.0 (omega (arith, len, same))
    ∙ take_all n (map f before) (omega (arith, len, same))

-- a phrase isn't there, or one behind others
pub phrase_missing : (from to : List Symbol) (tokens : List TokenKind) (place : ℕ) (o : Option ℕ) (es fs : List Event) → o ≡ None
    → MayTake from to tokens place o es fs → Noted es fs
phrase_missing from to tokens place o es fs is may = ([], phrase_none from to tokens place o es fs is may ∙ sym (append-nil es))

-- the loop over phrases of a kind ends where one isn't there
pub phrases_end : (on to : List Symbol) (tokens : List TokenKind) (a place : ℕ) (o : Option ℕ) (es fs gs : List Event) → o ≡ None
    → TakesPhrase on on tokens a place es fs → MayTake on to tokens place o fs gs → TakesPhrase on on tokens a place es gs
phrases_end on to tokens a place o es fs gs is before may =
    subst (λ xs. TakesPhrase on on tokens a place es xs) (sym (phrase_none on to tokens place o fs gs is may)) before
