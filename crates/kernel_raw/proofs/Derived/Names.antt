-- Each name of which the events of a sentence tell stands at a token that is a name.
use Rattle.std.proofs.Common.{◌≡◌, ℕ, zero, suc, ◌+◌, Bool, true, false, ◌&&◌, List, [], ◌∷◌, ◌++◌, take, drop, Some, refl, sym, ◌∙◌, ap, subst, arith}
use Rattle.std.specs.Prelude.{slice_get}
use Rattle.frame_grammar.specs.declared.token_kind.TokenKind.{TokenKind}
use Rattle.frame_grammar.specs.declared.token_kind.TokenKind.TheVariants.{Name}
use Rattle.frame_grammar.specs.declared.symbols.Nonterminal.{Nonterminal}
use Rattle.frame_grammar.specs.declared.symbols.Production.{Production}
use Rattle.frame_grammar.specs.declared.symbols.Production.TheVariants as production
use Rattle.frame_grammar.specs.declared.symbols.Symbol.{Symbol}
use Rattle.frame_grammar.specs.declared.symbols.Symbol.TheVariants as symbol
use Rattle.frame_grammar.specs.declared.symbols.Action.{Action}
use Rattle.frame_grammar.specs.declared.symbols.Action.TheVariants as action
use Rattle.frame_grammar.specs.declared.symbols.Event.{Event}
use Rattle.frame_grammar.specs.Bodies.{body_of}
use Rattle.frame_grammar.specs.Grammar.{Derives, nothing as d-nothing, terminal as d-terminal, action as d-action, expanded}
use Rattle.frame_grammar.specs.Sentences.{IsOnlySentence}
use Rattle.frame_grammar.proofs.Theory.{and_left, and_right, both}
use Rattle.kernel_raw.specs.Legible.{NamesStand}

abbrev is_name : TokenKind → Bool
is_name Name = true
is_name _ = false

is_name_true : (kind : TokenKind) → is_name kind ≡ true → kind ≡ Name
is_name_true Name e = refl
is_name_true _ e = cc

-- the symbols begin with a name
abbrev begins : List Symbol → Bool
begins [] = false
begins (symbol.Terminal k ∷ ss) = is_name k
begins (symbol.Action a ∷ ss) = false
begins (symbol.Nonterminal n ∷ ss) = false

-- what has to begin with a name behind an action does
abbrev passes : Action → Bool → Bool
passes action.Name b = b
passes _ b = true

-- the action Name stands only before a name
abbrev stand_before : List Symbol → Bool
stand_before [] = true
stand_before (symbol.Terminal k ∷ ss) = stand_before ss
stand_before (symbol.Action a ∷ ss) = passes a (begins ss) && stand_before ss
stand_before (symbol.Nonterminal n ∷ ss) = stand_before ss

-- so it does in each production of the grammar
rules_pass : (r : Production) → stand_before (body_of r) ≡ true
unfolding body_of
rules_pass production.File = refl
rules_pass _ = refl

begins_more : (xs ss : List Symbol) → begins xs ≡ true → begins (xs ++ ss) ≡ true
begins_more [] ss e = cc
begins_more (symbol.Terminal k ∷ xs) ss e = e
begins_more (symbol.Action a ∷ xs) ss e = cc
begins_more (symbol.Nonterminal n ∷ xs) ss e = cc

passes_more : (a : Action) (b c : Bool) → (b ≡ true → c ≡ true) → passes a b ≡ true → passes a c ≡ true
passes_more action.Name b c more e = more e
passes_more _ b c more e = refl

joined : (xs ss : List Symbol) → stand_before xs ≡ true → stand_before ss ≡ true → stand_before (xs ++ ss) ≡ true
joined [] ss e f = f
joined (symbol.Terminal k ∷ xs) ss e f = joined xs ss e f
joined (symbol.Action a ∷ xs) ss e f = both (passes_more a (begins xs) (begins (xs ++ ss)) (begins_more xs ss) (and_left _ _ e))
    (joined xs ss (and_right (passes a (begins xs)) _ e) f)
joined (symbol.Nonterminal n ∷ xs) ss e f = joined xs ss e f

-- symbols that begin with a name derive tokens that do
first_is : {n : ℕ} {events : List Event} {ss : List Symbol} {ks : List TokenKind} → Derives n events ss ks → begins ss ≡ true → slice_get ks 0 ≡ Some Name
first_is d-nothing e = cc
first_is (d-terminal k d) e = ap Some (is_name_true k e)
first_is (d-action a d) e = cc
first_is (expanded p own d) e = cc

passed : (a : Action) (b : Bool) → passes a b ≡ true → a ≡ action.Name → b ≡ true
passed action.Name b e is = e
passed _ b e is = cc

-- among tokens from a place on, a name stands at a place
abbrev NameAt : ℕ → List TokenKind → ℕ → Type 0
NameAt n ks place = (j : ℕ) × (place ≡ n + j) × (slice_get ks j ≡ Some Name)

here : (n : ℕ) → n ≡ n + 0
here n = omega arith

one_on : (n j place : ℕ) → place ≡ suc n + j → place ≡ n + suc j
one_on n j place e = omega arith

derived : {n : ℕ} {events : List Event} {ss : List Symbol} {ks : List TokenKind} → Derives n events ss ks → stand_before ss ≡ true →
    (k : ℕ) (event : Event) → slice_get events k ≡ Some event → event.action ≡ action.Name → NameAt n ks event.place
derived d-nothing e k event is named = cc
derived (d-terminal {n = n} t d) e k event is named =
    let at = derived d e k event is named in
    (suc at.0, one_on n at.0 event.place at.1, at.2)
derived (d-action {n = n} {ss = ss} {ks = ks} a d) e zero event is named =
    let same : record { action = a; place = n } ≡ event = cc in
    subst (λ x. NameAt n ks x.place) same (0, here n, first_is d (passed a (begins ss) (and_left _ _ e) (ap (λ x. x.action) same ∙ named)))
derived (d-action {ss = ss} a d) e (suc k) event is named = derived d (and_right (passes a (begins ss)) _ e) k event is named
derived (expanded {ss = ss} p own d) e k event is named = derived d (joined (body_of p) ss (rules_pass p) e) k event is named

among_first : {A : Type 0} (n : ℕ) (xs : List A) (j : ℕ) (x : A) → slice_get (take n xs) j ≡ Some x → slice_get xs j ≡ Some x
among_first zero xs j x is = cc
among_first (suc n) [] j x is = cc
among_first (suc n) (y ∷ xs) zero x is = is
among_first (suc n) (y ∷ xs) (suc j) x is = among_first n xs j x is

pub among_others : {A : Type 0} (n : ℕ) (xs : List A) (j : ℕ) (x : A) → slice_get (drop n xs) j ≡ Some x → (k : ℕ) × (slice_get xs k ≡ Some x)
among_others zero xs j x is = (j, is)
among_others (suc n) [] j x is = cc
among_others (suc n) (y ∷ xs) j x is = let at = among_others n xs j x is in (suc at.0, at.1)

from_none : (j place : ℕ) → place ≡ 0 + j → place ≡ j
from_none j place e = omega arith

-- each name of which the events of a sentence tell stands at a token that is a name
pub names_stand : (start : Nonterminal) (kinds : List TokenKind) (read : ℕ) (events : List Event) → IsOnlySentence start kinds read events
    → NamesStand kinds events
names_stand start kinds read events found k event is named =
    let at = derived found.sentence refl k event is named in
    among_first read kinds event.place Name (subst (λ j. slice_get (take read kinds) j ≡ Some Name) (sym (from_none at.0 event.place at.1)) at.2)

-- so they do for events that are some of those
pub names_stand-take : (kinds : List TokenKind) (n : ℕ) (events : List Event) → NamesStand kinds events → NamesStand kinds (take n events)
names_stand-take kinds n events stand k event is named = stand k event (among_first n events k event is) named

pub names_stand-drop : (kinds : List TokenKind) (n : ℕ) (events : List Event) → NamesStand kinds events → NamesStand kinds (drop n events)
names_stand-drop kinds n events stand k event is named = let at = among_others n events k event is in stand at.0 event at.1 named
