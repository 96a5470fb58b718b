-- Tokens up to the first Bad one: one by one, and where they end.
use Rattle.std.proofs.Common.{◌≡◌, ℕ, zero, suc, ◌+◌, ◌≤◌, true, false, List, [], ◌∷◌, ◌++◌, length, Option, Some, None, refl, sym, ◌∙◌, ap, arith, ⊎_elim}
use Rattle.std.specs.List.{slice_get}
use Rattle.std.proofs.lemmas.Bool.{cases_Bool, cond-true, cond-false}
use Rattle.frame_grammar.specs.declared.token_kind.TokenKind.{TokenKind}
use Rattle.frame_grammar.specs.declared.token_kind.TokenKind.TheVariants.{End, Bad}
use Rattle.kernel_text.specs.declared.token.Token.{Token}
use Rattle.kernel_text.specs.Tokens.{token_at, is_bad, end_at, up_to_bad}

bad_is : (kind : TokenKind) → is_bad kind ≡ true → kind ≡ Bad
bad_is Bad e = refl
bad_is _ e = cc

-- behind a token that is not Bad
cut_behind : (token : Token) (tokens : List Token) → is_bad token.kind ≡ false → up_to_bad (token ∷ tokens) ≡ token ∷ up_to_bad tokens
unfolding up_to_bad
cut_behind token tokens fine = ap (λ ts. token ∷ ts) (cond-false _ _ _ fine)

-- at a Bad token
cut_at : (token : Token) (tokens : List Token) → is_bad token.kind ≡ true → up_to_bad (token ∷ tokens) ≡ token ∷ end_at token.end token.line ∷ []
unfolding up_to_bad
cut_at token tokens bad = ap (λ ts. token ∷ ts) (cond-true _ _ _ bad)

-- behind what stands at a place, where that is no Bad token
pub cut_behind_word : (found : Option TokenKind) (start end line : ℕ) (tokens : List Token) → ((kind : TokenKind) → found ≡ Some kind → is_bad kind ≡ false) →
    up_to_bad (token_at found start end line ++ tokens) ≡ token_at found start end line ++ up_to_bad tokens
cut_behind_word None start end line tokens fine = refl
cut_behind_word (Some kind) start end line tokens fine = cut_behind _ tokens (fine kind refl)

-- at a Bad token that stands there
pub cut_at_word : (kind : TokenKind) (start end line : ℕ) (tokens : List Token) → is_bad kind ≡ true →
    up_to_bad (token_at (Some kind) start end line ++ tokens) ≡ token_at (Some kind) start end line ++ end_at end line ∷ []
cut_at_word kind start end line tokens bad = cut_at _ tokens bad

-- the end alone
pub cut_end : (place line : ℕ) → up_to_bad (end_at place line ∷ []) ≡ end_at place line ∷ []
unfolding up_to_bad
cut_end place line = refl

-- Nothing is cut off, or the tokens are read up to a Bad one.
pub data IsCut (tokens : List Token) : Type 0 where
  whole : up_to_bad tokens ≡ tokens → IsCut tokens
  at_bad : (front : List Token) (bad : Token) (rest : List Token) → bad.kind ≡ Bad → tokens ≡ (front ++ bad ∷ []) ++ rest →
      up_to_bad tokens ≡ (front ++ bad ∷ []) ++ end_at bad.end bad.line ∷ [] → IsCut tokens

more : (token : Token) (tokens : List Token) → is_bad token.kind ≡ false → IsCut tokens → IsCut (token ∷ tokens)
more token tokens fine (whole is) = whole (cut_behind token tokens fine ∙ ap (λ ts. token ∷ ts) is)
more token tokens fine (at_bad front bad rest bad_kind is cut) =
    at_bad (token ∷ front) bad rest bad_kind (ap (λ ts. token ∷ ts) is) (cut_behind token tokens fine ∙ ap (λ ts. token ∷ ts) cut)

pub cut_of : (tokens : List Token) → IsCut tokens
unfolding up_to_bad
cut_of [] = whole refl
cut_of (token ∷ tokens) =
    ⊎_elim
    (λ bad. at_bad [] token tokens (bad_is token.kind bad) refl (cut_at token tokens bad))
    (λ fine. more token tokens fine (cut_of tokens))
    (cases_Bool (is_bad token.kind))

pub cut-few : (tokens : List Token) → length (up_to_bad tokens) ≤ length tokens + 1
unfolding up_to_bad
cut-few [] = omega arith
cut-few (token ∷ tokens) =
    ⊎_elim
    (λ bad. omega (arith, ap length (cut_at token tokens bad)))
    (λ fine. omega (arith, ap length (cut_behind token tokens fine), cut-few tokens))
    (cases_Bool (is_bad token.kind))

-- each but an end is one of all
pub cut-keeps : (tokens : List Token) (k : ℕ) (token : Token) → slice_get (up_to_bad tokens) k ≡ Some token → (token.kind ≡ End → ⊥)
    → slice_get tokens k ≡ Some token
unfolding up_to_bad
cut-keeps [] k token is other = is
cut-keeps (first ∷ tokens) zero token is other = is
cut-keeps (first ∷ tokens) (suc k) token is other =
    ⊎_elim
    (λ bad. absurd (past first k token (sym (ap (λ ts. slice_get ts (suc k)) (cut_at first tokens bad)) ∙ is) other))
    (λ fine. cut-keeps tokens k token (sym (ap (λ ts. slice_get ts (suc k)) (cut_behind first tokens fine)) ∙ is) other)
    (cases_Bool (is_bad first.kind))
  where
    past : (bad : Token) (k : ℕ) (token : Token) → slice_get (end_at bad.end bad.line ∷ []) k ≡ Some token → (token.kind ≡ End → ⊥) → ⊥
    past bad zero token is other = let same : end_at bad.end bad.line ≡ token = cc in other (sym (ap (λ (t : Token). t.kind) same))
    past bad (suc k) token is other = cc
