-- The parser's stack, by the symbols that stand on it.
use Rattle.std.proofs.Common.{◌≡◌, ℕ, ◌+◌, ◌-◌, ◌<◌, ◌==◌, Bool, true, false, List, [], ◌∷◌, ◌++◌, length, map, drop, take, take_all, slice_get, reverse, Option, Some, None, option_to_list, refl, sym, ◌∙◌, ap, append_assoc, arith}
use Rattle.std.proofs.lemmas.List.{reverse-append, reverse-reverse, take_more, map-append, length-reverse}
use Rattle.std.proofs.lemmas.Bool.{eqb-true, eqb-false}
use Rattle.std.proofs.lemmas.Option.{slice_get_within, get_or_from_slice_get}
use Rattle.std.specs.Option.{is_some}
use Rattle.frame_grammar.specs.declared.symbols.Nonterminal.TheVariants.{Lines}
use Rattle.frame_grammar.specs.declared.symbols.Symbol.{Symbol}
use Rattle.frame_grammar.specs.declared.symbols.Symbol.TheVariants as symbol
use Rattle.frame_grammar.specs.declared.symbols.Production.{Production}
use Rattle.grammar_table.specs.declared.stack_symbol.StackSymbol.{StackSymbol}
use Rattle.grammar_table.specs.declared.stack_symbol.StackSymbol.TheVariants as waiting
use Rattle.frame_grammar.specs.Bodies.{written, body_of}
use Rattle.grammar_table.specs.StackSymbols.{symbols_of, alone, all_symbols, standing}

all_symbols-append : (a b : List StackSymbol) → all_symbols (a ++ b) ≡ all_symbols a ++ all_symbols b
all_symbols-append [] b = refl
all_symbols-append (w ∷ a) b = ap (λ ss. symbols_of w ++ ss) (all_symbols-append a b) ∙ sym (append_assoc (symbols_of w) (all_symbols a) (all_symbols b))

-- what was put on the stack is on top of it, turned round
pub behind : (items items' put : List StackSymbol) → items' ≡ items ++ put → standing items' ≡ standing put ++ standing items
behind items items' put e = ap standing e ∙ ap all_symbols (reverse-append items put) ∙ all_symbols-append (reverse put) (reverse items)

-- the last item is on top of the stack
pub top : (items rest : List StackSymbol) (o : Option StackSymbol) (w : StackSymbol) → items ≡ rest ++ option_to_list o → o ≡ Some w
    → standing items ≡ symbols_of w ++ standing rest
top items rest o w e h = ap standing (e ∙ ap (λ x. rest ++ option_to_list x) h) ∙ ap all_symbols (reverse-append rest (w ∷ []))

-- and which of them it is
pub top_is : (items rest : List StackSymbol) (o : Option StackSymbol) (w w' : StackSymbol) → items ≡ rest ++ option_to_list o → o ≡ Some w → w ≡ w'
    → standing items ≡ symbols_of w' ++ standing rest
top_is items rest o w w' e h same = top items rest o w e h ∙ ap (λ x. symbols_of x ++ standing rest) same

pub last_on_top : (items : List StackSymbol) (w : StackSymbol) → slice_get items (length items - 1) ≡ Some w
    → standing items ≡ symbols_of w ++ standing (take (length items - 1) items)
last_on_top items w e =
    let within = slice_get_within items (length items - 1) w e in
    let value = get_or_from_slice_get items (length items - 1) w w e in
    let whole : items ≡ take (length items - 1) items ++ w ∷ [] =
    sym (take_all (length items - 1 + 1) items (omega (arith, within))) ∙ take_more items (length items - 1) w within
    ∙ ap (λ x. take (length items - 1) items ++ x ∷ []) value in
    ap standing whole ∙ ap all_symbols (reverse-append (take (length items - 1) items) (w ∷ []))

pub no_top : (items : List StackSymbol) (n : ℕ) (o : Option StackSymbol) → length items ≡ n → (0 < n → is_some o ≡ true) →
    ((w : StackSymbol) → o ≡ Some w → ⊥) → items ≡ []
no_top [] n o e some none = refl
no_top (x ∷ items) n (Some w) e some none = absurd (none w refl)
no_top (x ∷ items) n None e some none = let lt : 0 < n = omega arith in let f = some lt in cc

-- symbols that wait by themselves
pub alone-symbols : (ss : List Symbol) → all_symbols (map alone ss) ≡ ss
alone-symbols [] = refl
alone-symbols (symbol.Terminal k ∷ ss) = ap (λ xs. symbol.Terminal k ∷ xs) (alone-symbols ss)
alone-symbols (symbol.Nonterminal n ∷ ss) = ap (λ xs. symbol.Nonterminal n ∷ xs) (alone-symbols ss)
alone-symbols (symbol.Action a ∷ ss) = ap (λ xs. symbol.Action a ∷ xs) (alone-symbols ss)

map-reverse : (ss : List Symbol) → reverse (map alone (reverse ss)) ≡ map alone ss
map-reverse [] = refl
map-reverse (s ∷ ss) =
    ap (λ xs. reverse (map alone xs)) (reverse-append (s ∷ []) ss) ∙ ap reverse (map-append alone (reverse ss) (s ∷ []))
    ∙ reverse-append (map alone (reverse ss)) (alone s ∷ []) ∙ ap (λ xs. alone s ∷ xs) (map-reverse ss)

-- a body was put on the stack
pub body_on_top : (items rest : List StackSymbol) (p : Production) → items ≡ rest ++ map alone (reverse (body_of p))
    → standing items ≡ body_of p ++ standing rest
body_on_top items rest p e =
    behind rest items (map alone (reverse (body_of p))) e
    ∙ ap (λ ss. ss ++ standing rest) (ap all_symbols (map-reverse (body_of p)) ∙ alone-symbols (body_of p))

written-append : (has_lines : Bool) (xs ys : List Symbol) → written has_lines (xs ++ ys) ≡ written has_lines xs ++ written has_lines ys
written-append false xs ys = refl
written-append true [] ys = refl
written-append true (symbol.Terminal k ∷ xs) ys = ap (λ ss. symbol.Terminal k ∷ symbol.Nonterminal Lines ∷ ss) (written-append true xs ys)
written-append true (symbol.Action a ∷ xs) ys = ap (λ ss. symbol.Action a ∷ ss) (written-append true xs ys)
written-append true (symbol.Nonterminal n ∷ xs) ys = ap (λ ss. symbol.Nonterminal n ∷ ss) (written-append true xs ys)

-- One more symbol from the end of a body.
pub pushed : (has_lines : Bool) (items items' : List StackSymbol) (rest rest' : List Symbol) (all : List StackSymbol) (s : Symbol) → rest ≡ rest' ++ s ∷ [] →
    items' ≡ items ++ map alone (reverse (written has_lines (s ∷ []))) → items ++ map alone (reverse (written has_lines rest)) ≡ all →
    items' ++ map alone (reverse (written has_lines rest')) ≡ all
pushed has_lines items items' rest rest' all s e h w =
    let last = reverse (written has_lines (s ∷ [])) in
    let before = reverse (written has_lines rest') in
    let split : reverse (written has_lines rest) ≡ last ++ before =
    ap reverse (ap (written has_lines) e ∙ written-append has_lines rest' (s ∷ [])) ∙ reverse-append (written has_lines rest') (written has_lines (s ∷ [])) in
    ap (λ xs. xs ++ map alone before) h ∙ append_assoc items (map alone last) (map alone before)
    ∙ ap (λ xs. items ++ xs) (sym (map-append alone last before) ∙ sym (ap (map alone) split)) ∙ w

without_top : (items left : List StackSymbol) (n : ℕ) (o : Option StackSymbol) (first : StackSymbol) (others : List StackSymbol)
    → items ≡ left ++ option_to_list o
    → length items ≡ n →
    (0 < n → is_some o ≡ true) → reverse items ≡ first ∷ others → reverse left ≡ others
without_top items left n (Some w) first others split size some turned =
    ap (drop 1) (sym (ap reverse split ∙ reverse-append left (w ∷ [])) ∙ turned)
without_top items left n None first others split size some turned =
    let filled : 0 < n = omega (arith, ap length turned, length-reverse items, size) in
    let there = some filled in cc

-- What is left of the stack when a body was put on it, and its first symbol is gone.
pub popped : (old items left : List StackSymbol) (p : Production) (n : ℕ) (o : Option StackSymbol) (first : Symbol) (others : List Symbol) →
    items ≡ old ++ map alone (reverse (body_of p)) → body_of p ≡ first ∷ others → items ≡ left ++ option_to_list o → length items ≡ n →
    (0 < n → is_some o ≡ true) → standing left ≡ others ++ standing old
popped old items left p n o first others e is split size some =
    let turned : reverse items ≡ alone first ∷ map alone others ++ reverse old =
    ap reverse e ∙ reverse-append old (map alone (reverse (body_of p))) ∙ ap (λ ws. ws ++ reverse old) (map-reverse (body_of p))
    ∙ ap (λ ss. map alone ss ++ reverse old) is in
    let gone = without_top items left n o (alone first) (map alone others ++ reverse old) split size some turned in
    ap all_symbols gone ∙ all_symbols-append (map alone others) (reverse old) ∙ ap (λ ss. ss ++ standing old) (alone-symbols others)

some_symbol : (w : StackSymbol) (ss : List Symbol) → symbols_of w ++ ss ≡ [] → ⊥
some_symbol (waiting.Terminal k) ss e = cc
some_symbol (waiting.Nonterminal n) ss e = cc
some_symbol (waiting.Action a) ss e = cc
some_symbol (waiting.LinedNonterminal n) ss e = cc
some_symbol (waiting.LinedAction a) ss e = cc
some_symbol waiting.AfterFactor ss e = cc
some_symbol waiting.AfterTerm ss e = cc

none_left : (ws : List StackSymbol) → all_symbols ws ≡ [] → ws ≡ []
none_left [] e = refl
none_left (w ∷ ws) e = absurd (some_symbol w (all_symbols ws) e)

pub empty_stack : (items : List StackSymbol) (n : ℕ) → n ≡ length items → (n == 0) ≡ true → standing items ≡ []
empty_stack [] n len e = refl
empty_stack (x ∷ items) n len e = absurd (omega (arith, eqb-true n 0 e))

pub full_stack : (items : List StackSymbol) (n : ℕ) → n ≡ length items → (n == 0) ≡ false → standing items ≡ [] → ⊥
full_stack items n len e none =
    let empty : items ≡ [] = sym (reverse-reverse items) ∙ ap reverse (none_left (reverse items) none) in
    eqb-false n 0 e (len ∙ ap length empty)
