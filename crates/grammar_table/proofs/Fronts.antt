-- What a list of symbols may begin with, and how many steps it may go on by without a token.
use Rattle.std.proofs.Common.{suc, ◌&&◌, ◌≡◌, ◌+◌, Bool, true, false, List, [], ◌∷◌, ◌++◌, ◌⊎◌, inl, inr, refl, arith}
use Rattle.frame_grammar.specs.declared.token_kind.TokenKind.{TokenKind}
use Rattle.frame_grammar.specs.declared.symbols.Nonterminal.{Nonterminal}
use Rattle.frame_grammar.specs.declared.symbols.Symbol.{Symbol}
use Rattle.frame_grammar.specs.declared.symbols.Symbol.TheVariants as symbol
use Rattle.frame_grammar.proofs.Theory.{and_left, and_right, both}
use Rattle.grammar_table.specs.Sets.{is_nullable_of, barred_of, rank_of}
use Rattle.grammar_table.specs.Stack.{weight, weight_after, Starts, IsClear, has_kind}

-- the symbols may spell nothing
abbrev pub IsNullable : List Symbol → Type 0
IsNullable [] = Unit {0}
IsNullable (symbol.Terminal k ∷ ss) = ⊥
IsNullable (symbol.Action m ∷ ss) = IsNullable ss
IsNullable (symbol.Nonterminal p ∷ ss) = (is_nullable_of p ≡ true) × IsNullable ss

pub IsNullable-append : (xs ys : List Symbol) → IsNullable (xs ++ ys) → IsNullable xs × IsNullable ys
IsNullable-append [] ys h = (tt, h)
IsNullable-append (symbol.Terminal k ∷ xs) ys h = absurd h
IsNullable-append (symbol.Action m ∷ xs) ys h = IsNullable-append xs ys h
IsNullable-append (symbol.Nonterminal p ∷ xs) ys h = let r = IsNullable-append xs ys h.1 in ((h.0, r.0), r.1)

pub Starts-append : (xs ys : List Symbol) (k : TokenKind) → Starts (xs ++ ys) k → Starts xs k ⊎ (IsNullable xs × Starts ys k)
Starts-append [] ys k h = inr (tt, h)
Starts-append (symbol.Terminal j ∷ xs) ys k h = inl h
Starts-append (symbol.Action m ∷ xs) ys k h = Starts-append xs ys k h
Starts-append (symbol.Nonterminal p ∷ xs) ys k (inl h) = inl (inl h)
Starts-append (symbol.Nonterminal p ∷ xs) ys k (inr h) =
    elim (Starts-append xs ys k h.1) [ inl s ↦ inl (inr (h.0, s)) | inr s ↦ inr ((h.0, s.0), s.1) ]

-- the same inside a rule of the part n, whatever may follow n
abbrev pub IsFine : Nonterminal → List Symbol → Type 0
IsFine n [] = Unit {0}
IsFine n (symbol.Terminal k ∷ ss) = IsFine n ss
IsFine n (symbol.Action m ∷ ss) = IsFine n ss
IsFine n (symbol.Nonterminal p ∷ ss) =
    ((k : TokenKind) → Starts ss k → has_kind (barred_of p) k ≡ false)
    × (IsNullable ss → (k : TokenKind) → has_kind (barred_of n) k ≡ false → has_kind (barred_of p) k ≡ false)
    × IsFine n ss

pub IsClear-append : (n : Nonterminal) (xs ss : List Symbol) → IsFine n xs →
    ((k : TokenKind) → Starts ss k → has_kind (barred_of n) k ≡ false) → IsClear ss → IsClear (xs ++ ss)
IsClear-append n [] ss fine after clear = clear
IsClear-append n (symbol.Terminal k ∷ xs) ss fine after clear = IsClear-append n xs ss fine after clear
IsClear-append n (symbol.Action m ∷ xs) ss fine after clear = IsClear-append n xs ss fine after clear
IsClear-append n (symbol.Nonterminal p ∷ xs) ss fine after clear = (
  λ k h. elim (Starts-append xs ss k h) [ inl s ↦ fine.0 k s | inr s ↦ fine.1 s.0 k (after k s.1) ],
  IsClear-append n xs ss fine.2 after clear,
)

abbrev pub nullable : List Symbol → Bool
nullable [] = true
nullable (symbol.Terminal k ∷ ss) = false
nullable (symbol.Action m ∷ ss) = nullable ss
nullable (symbol.Nonterminal p ∷ ss) = is_nullable_of p && nullable ss

weight_step : (p : Nonterminal) (xs ss : List Symbol) (b : Bool) → weight (xs ++ ss) ≡ weight xs + weight_after (nullable xs) (weight ss) →
    rank_of p + weight_after b (weight (xs ++ ss)) ≡ rank_of p + weight_after b (weight xs) + weight_after (b && nullable xs) (weight ss)
weight_step p xs ss false ih = omega arith
weight_step p xs ss true ih = rw ih (omega arith)

action_step : (xs ss : List Symbol) → weight (xs ++ ss) ≡ weight xs + weight_after (nullable xs) (weight ss) →
    suc (weight (xs ++ ss)) ≡ suc (weight xs) + weight_after (nullable xs) (weight ss)
action_step xs ss ih = omega arith

pub weight-append : (xs ss : List Symbol) → weight (xs ++ ss) ≡ weight xs + weight_after (nullable xs) (weight ss)
weight-append [] ss = omega arith
weight-append (symbol.Terminal k ∷ xs) ss = refl
weight-append (symbol.Action m ∷ xs) ss = action_step xs ss (weight-append xs ss)
weight-append (symbol.Nonterminal p ∷ xs) ss = weight_step p xs ss (is_nullable_of p) (weight-append xs ss)

pub nullable-from : (ss : List Symbol) → nullable ss ≡ true → IsNullable ss
nullable-from [] e = tt
nullable-from (symbol.Terminal k ∷ ss) e = cc
nullable-from (symbol.Action m ∷ ss) e = nullable-from ss e
nullable-from (symbol.Nonterminal p ∷ ss) e = (and_left _ _ e, nullable-from ss (and_right _ _ e))

pub nullable-to : (ss : List Symbol) → IsNullable ss → nullable ss ≡ true
nullable-to [] e = refl
nullable-to (symbol.Terminal k ∷ ss) e = absurd e
nullable-to (symbol.Action m ∷ ss) e = nullable-to ss e
nullable-to (symbol.Nonterminal p ∷ ss) e = both e.0 (nullable-to ss e.1)
