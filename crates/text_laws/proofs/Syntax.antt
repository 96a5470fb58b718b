-- Tokens are a file or have one first token with which none goes on.
use Rattle.std.proofs.Common.{◌≡◌, ℕ, ◌+◌, ◌<◌, ◌≤◌, inl, inr, List, ◌++◌, take, drop, sym, ◌∙◌, ap, subst, arith, append_assoc, take-append-drop, take-take}
use Rattle.std.proofs.lemmas.Bool.{cases_lt}
use Rattle.frame_grammar.specs.declared.token_kind.TokenKind.{TokenKind}
use Rattle.frame_grammar.specs.declared.symbols.Nonterminal.{Nonterminal}
use Rattle.frame_grammar.specs.Sentences.{IsViable, IsSentence, IsFault}

-- what viable tokens begin with is viable
shorter : (start : Nonterminal) (ks ls : List TokenKind) → IsViable start (ks ++ ls) → IsViable start ks
shorter start ks ls v = (ls ++ v.0, v.1, subst (λ x. IsSentence start v.1 x) (append_assoc ks ls v.0) v.2)

fewer : (start : Nonterminal) (tokens : List TokenKind) (n m : ℕ) → n ≤ m → IsViable start (take m tokens) → IsViable start (take n tokens)
fewer start tokens n m le v =
    let parts : take n tokens ++ drop n (take m tokens) ≡ take m tokens = ap (λ xs. xs ++ drop n (take m tokens)) (sym (take-take n m tokens le))
    ∙ take-append-drop n (take m tokens) in
    shorter start (take n tokens) (drop n (take m tokens)) (subst (IsViable start) (sym parts) v)

not_before : (start : Nonterminal) (tokens : List TokenKind) (place other : ℕ) → IsFault start tokens place → IsFault start tokens other → place < other → ⊥
not_before start tokens place other a b lt = a.token (fewer start tokens (place + 1) other (omega arith) b.before)

pub place_once : (start : Nonterminal) (tokens : List TokenKind) (place other : ℕ) → IsFault start tokens place → IsFault start tokens other → place ≡ other
place_once start tokens place other a b = elim (cases_lt place other) [
  | inl lt ↦ absurd (not_before start tokens place other a b lt)
  | inr le ↦ elim (cases_lt other place) [
    | inl lt ↦ absurd (not_before start tokens other place b a lt)
    | inr ge ↦ omega arith
  ]
]
