-- The checks of the tables, which compute, and what they show.
use Rattle.std.proofs.Common.{length, ◌+◌, zero, suc, cond, ◌≡◌, ℕ, ◌<◌, ◌≤◌, Bool, true, false, not, ◌&&◌, List, [], ◌∷◌, ◌++◌, Option, Some, None, inl, inr, refl, sym, ◌∙◌, ap, subst, arith, nat_lt}
use Rattle.std.proofs.lemmas.Bool.{ltb-true, lt-ltb}
use Rattle.std.specs.List.{list_all}
use Rattle.std.proofs.lemmas.List.Folds.{list_all-append}
use denote.Enum.Bare.{sameb, same_true}
use Rattle.frame_grammar.specs.contracts.token_kind.TokenKind.{the_type as the_kind}
use Rattle.frame_grammar.specs.contracts.symbols.Nonterminal.{the_type as the_part}
use Rattle.frame_grammar.specs.contracts.symbols.Production.{the_type as the_rule}
use Rattle.frame_grammar.specs.declared.token_kind.TokenKind.{TokenKind}
use Rattle.frame_grammar.specs.declared.symbols.Nonterminal.{Nonterminal}
use Rattle.frame_grammar.specs.declared.symbols.Nonterminal.TheVariants.{File}
use Rattle.frame_grammar.specs.declared.symbols.Symbol.{Symbol}
use Rattle.frame_grammar.specs.declared.symbols.Symbol.TheVariants as symbol
use Rattle.frame_grammar.specs.declared.symbols.Event.{Event}
use Rattle.frame_grammar.specs.declared.symbols.Production.{Production}
use Rattle.frame_grammar.specs.declared.symbols.Production.TheVariants as production
use Rattle.frame_grammar.specs.Grammar.{head_of, Derives, nothing, terminal, action, expanded}
use Rattle.frame_grammar.specs.Bodies.{body_of}
use Rattle.grammar_table.specs.Table.{choices_of, default_of}
use Rattle.grammar_table.specs.Predict.{found, or_else, predicted, same_kind}
use Rattle.grammar_table.specs.Sets.{firsts_of, is_nullable_of, barred_of, rank_of}
use Rattle.grammar_table.specs.Stack.{weight, Starts, has_kind}
use Rattle.grammar_table.proofs.Shortest.{short_of, height_of}
use Rattle.frame_grammar.proofs.Theory.{Derives-append, and_left, and_right, both}
use Rattle.grammar_table.proofs.Fronts.{IsNullable, IsFine, nullable, nullable-to}
use Rattle.std.proofs.lemmas.List.{append-nil}

pub same_kind_true : (j k : TokenKind) → same_kind j k ≡ true → j ≡ k
unfolding same_kind
same_kind_true j k e = same_true the_kind tt j k e

abbrev same_part : Nonterminal → Nonterminal → Bool
same_part n m = sameb the_part n m

abbrev is_rule : Option Production → Production → Bool
is_rule None r = false
is_rule (Some q) r = sameb the_rule q r

is_rule_true : (o : Option Production) (r : Production) → is_rule o r ≡ true → o ≡ Some r
is_rule_true None r e = cc
is_rule_true (Some q) r e = ap Some (same_true the_rule tt q r e)

abbrev on_true : Bool → List TokenKind → List TokenKind
on_true true ks = ks
on_true false ks = []

-- the tokens that the symbols may begin with
abbrev firsts : List Symbol → List TokenKind
firsts [] = []
firsts (symbol.Terminal k ∷ ss) = k ∷ []
firsts (symbol.Action m ∷ ss) = firsts ss
firsts (symbol.Nonterminal p ∷ ss) = firsts_of p ++ on_true (is_nullable_of p) (firsts ss)

has_step : (test : TokenKind → Bool) (j k : TokenKind) (o : Bool) (b : Bool) → same_kind j k ≡ b → test j ≡ true → (o ≡ true → test k ≡ true) →
    elim b [ true ↦ true | false ↦ o ] ≡ true → test k ≡ true
has_step test j k o true e h ih i = subst (λ x. test x ≡ true) (same_kind_true j k e) h
has_step test j k o false e h ih i = ih i

-- What passes for each terminal of a list passes for one that it has.
has_all : (test : TokenKind → Bool) (ks : List TokenKind) → list_all test ks ≡ true → (k : TokenKind) → has_kind ks k ≡ true → test k ≡ true
has_all test [] e k h = cc
has_all test (j ∷ ks) e k h = has_step test j k (has_kind ks k) (same_kind j k) refl (and_left _ _ e) (has_all test ks (and_right _ _ e) k) h

on_true_all : (test : TokenKind → Bool) (b : Bool) (ks : List TokenKind) → list_all test (on_true b ks) ≡ true → b ≡ true → list_all test ks ≡ true
on_true_all test true ks e h = e
on_true_all test false ks e h = cc

Starts_all : (test : TokenKind → Bool) (ss : List Symbol) → list_all test (firsts ss) ≡ true → (k : TokenKind) → Starts ss k → test k ≡ true
Starts_all test [] e k h = absurd h
Starts_all test (symbol.Terminal j ∷ ss) e k h = subst (λ x. test x ≡ true) h (and_left _ _ e)
Starts_all test (symbol.Action m ∷ ss) e k h = Starts_all test ss e k h
Starts_all test (symbol.Nonterminal p ∷ ss) e k (inl h) =
    has_all test (firsts_of p) (and_left _ _ (sym (list_all-append test (firsts_of p) (on_true (is_nullable_of p) (firsts ss))) ∙ e)) k h
Starts_all test (symbol.Nonterminal p ∷ ss) e k (inr h) =
    Starts_all test ss
    (on_true_all test (is_nullable_of p) (firsts ss)
    (and_right _ _ (sym (list_all-append test (firsts_of p) (on_true (is_nullable_of p) (firsts ss))) ∙ e)) h.0) k h.1

-- The first check: before each terminal that a rule begins with, its part goes on by it.
abbrev begins_by : Production → TokenKind → Bool
begins_by r k = is_rule (predicted (head_of r) k) r && has_kind (firsts_of (head_of r)) k

abbrev begins_right : Production → Bool
begins_right r = list_all (begins_by r) (firsts (body_of r))

-- The second: a rule that may make nothing is the one that its part has before other tokens.
abbrev implies : Bool → Bool → Bool
implies true b = b
implies false b = true

abbrev ends_right : Production → Bool
ends_right r = implies (nullable (body_of r)) (is_nullable_of (head_of r) && is_rule (default_of (head_of r)) r)

-- The third: nothing follows a part that may not.
abbrev is_fine : Nonterminal → List Symbol → Bool
is_fine n [] = true
is_fine n (symbol.Terminal k ∷ ss) = is_fine n ss
is_fine n (symbol.Action m ∷ ss) = is_fine n ss
is_fine n (symbol.Nonterminal p ∷ ss) =
    list_all (λ k. not (has_kind (barred_of p) k)) (firsts ss)
    && (implies (nullable ss) (list_all (has_kind (barred_of n)) (barred_of p)) && is_fine n ss)

-- The fourth: each rule takes a step down.
abbrev is_lower : Production → Bool
is_lower r = nat_lt (weight (body_of r)) (rank_of (head_of r))

abbrev check_rule : Production → Bool
check_rule r = begins_right r && (ends_right r && (is_fine (head_of r) (body_of r) && is_lower r))

rules_pass : (r : Production) → check_rule r ≡ true
unfolding head_of body_of choices_of default_of firsts_of is_nullable_of barred_of rank_of same_kind
rules_pass production.File = refl
rules_pass _ = refl

-- And of each part: its rules are its own, a terminal before which it may not be empty may not follow it, and its shortest rule ends.
abbrev tokens_of : List (TokenKind × Production) → List TokenKind
tokens_of [] = []
tokens_of (s ∷ starts) = s.0 ∷ tokens_of starts

abbrev own_rules : Nonterminal → List (TokenKind × Production) → Bool
own_rules n [] = true
own_rules n (s ∷ starts) = same_part (head_of s.1) n && own_rules n starts

abbrev own_default : Nonterminal → Option Production → Bool
own_default n None = true
own_default n (Some r) = same_part (head_of r) n

abbrev is_below : ℕ → List Symbol → Bool
is_below h [] = true
is_below h (symbol.Terminal k ∷ ss) = is_below h ss
is_below h (symbol.Action m ∷ ss) = is_below h ss
is_below h (symbol.Nonterminal p ∷ ss) = nat_lt (height_of p) h && is_below h ss

abbrev check_part : Nonterminal → Bool
check_part n =
    own_rules n (choices_of n) && (own_default n (default_of n)
    && (implies (is_nullable_of n) (list_all (has_kind (barred_of n)) (tokens_of (choices_of n)))
    && (same_part (head_of (short_of n)) n && is_below (height_of n) (body_of (short_of n)))))

parts_pass : (n : Nonterminal) → check_part n ≡ true
unfolding head_of body_of choices_of default_of is_nullable_of barred_of same_kind short_of height_of
parts_pass File = refl
parts_pass _ = refl

-- What the checks of a rule show.
begins_both : (r : Production) (k : TokenKind) → Starts (body_of r) k → begins_by r k ≡ true
begins_both r k h = Starts_all (begins_by r) (body_of r) (and_left _ _ (rules_pass r)) k h

pub begins : (r : Production) (k : TokenKind) → Starts (body_of r) k → predicted (head_of r) k ≡ Some r
begins r k h = is_rule_true _ r (and_left _ _ (begins_both r k h))

pub begins_first : (r : Production) (k : TokenKind) → Starts (body_of r) k → has_kind (firsts_of (head_of r)) k ≡ true
begins_first r k h = and_right (is_rule (predicted (head_of r) k) r) _ (begins_both r k h)

implies_to : (a b : Bool) → implies a b ≡ true → a ≡ true → b ≡ true
implies_to true b e h = e
implies_to false b e h = cc

ends_both : (r : Production) → IsNullable (body_of r) → (is_nullable_of (head_of r) && is_rule (default_of (head_of r)) r) ≡ true
ends_both r h =
    implies_to (nullable (body_of r)) _ (and_left _ _ (and_right (begins_right r) _ (rules_pass r))) (nullable-to (body_of r) h)

pub ends : (r : Production) → IsNullable (body_of r) → default_of (head_of r) ≡ Some r
ends r h = is_rule_true _ r (and_right (is_nullable_of (head_of r)) _ (ends_both r h))

pub ends_nullable : (r : Production) → IsNullable (body_of r) → is_nullable_of (head_of r) ≡ true
ends_nullable r h = and_left _ _ (ends_both r h)

not_true : (b : Bool) → not b ≡ true → b ≡ false
not_true true e = cc
not_true false e = refl

not_false : (b c : Bool) → (b ≡ true → c ≡ true) → c ≡ false → b ≡ false
not_false true c h e = sym (h refl) ∙ e
not_false false c h e = refl

fine_from : (n : Nonterminal) (ss : List Symbol) → is_fine n ss ≡ true → IsFine n ss
fine_from n [] e = tt
fine_from n (symbol.Terminal k ∷ ss) e = fine_from n ss e
fine_from n (symbol.Action m ∷ ss) e = fine_from n ss e
fine_from n (symbol.Nonterminal p ∷ ss) e = (
  λ k h. not_true _ (Starts_all (λ j. not (has_kind (barred_of p) j)) ss (and_left _ _ e) k h),
  λ h k. not_false _ _ (has_all (has_kind (barred_of n)) (barred_of p) (implies_to (nullable ss) _ (and_left _ _ (and_right _ _ e)) (nullable-to ss h)) k),
  fine_from n ss (and_right _ _ (and_right _ _ e)),
)

pub fine : (r : Production) → IsFine (head_of r) (body_of r)
fine r = fine_from (head_of r) (body_of r) (and_left _ _ (and_right (ends_right r) _ (and_right (begins_right r) _ (rules_pass r))))

pub lower : (r : Production) → weight (body_of r) < rank_of (head_of r)
lower r = ltb-true _ _ (and_right _ (is_lower r) (and_right (ends_right r) _ (and_right (begins_right r) _ (rules_pass r))))

-- What the checks of a part show.
own_step : (n : Nonterminal) (s : TokenKind × Production) (k : TokenKind) (r : Production) (b : Bool) (o : Option Production)
    → same_part (head_of s.1) n ≡ true →
    (o ≡ Some r → head_of r ≡ n) → cond b (Some s.1) o ≡ Some r → head_of r ≡ n
own_step n s k r true o e ih h = let same : s.1 ≡ r = cc in subst (λ q. head_of q ≡ n) same (same_true the_part tt (head_of s.1) n e)
own_step n s k r false o e ih h = ih h

own_found : (n : Nonterminal) (starts : List (TokenKind × Production)) → own_rules n starts ≡ true → (k : TokenKind) (r : Production) → found starts k ≡ Some r
    → head_of r ≡ n
own_found n [] e k r h = cc
own_found n (s ∷ starts) e k r h = own_step n s k r (same_kind s.0 k) (found starts k) (and_left _ _ e) (own_found n starts (and_right _ _ e) k r) h

own_none : (n : Nonterminal) (o : Option Production) (r : Production) → own_default n o ≡ true → o ≡ Some r → head_of r ≡ n
own_none n None r e h = cc
own_none n (Some q) r e h = let same : q ≡ r = cc in subst (λ x. head_of x ≡ n) same (same_true the_part tt (head_of q) n e)

own_at_end : (n : Nonterminal) (r : Production) → default_of n ≡ Some r → head_of r ≡ n
own_at_end n r = own_none n (default_of n) r (and_left _ _ (and_right (own_rules n (choices_of n)) _ (parts_pass n)))

own_either : (n : Nonterminal) (r : Production) (o : Option Production) → (o ≡ Some r → head_of r ≡ n) → or_else o (default_of n) ≡ Some r → head_of r ≡ n
own_either n r None h e = own_at_end n r e
own_either n r (Some q) h e = h e

-- The production that a nonterminal goes on by is its own.
pub own : (n : Nonterminal) (k : TokenKind) (r : Production) → predicted n k ≡ Some r → head_of r ≡ n
own n k r e = own_either n r (found (choices_of n) k) (own_found n (choices_of n) (and_left _ _ (parts_pass n)) k r) e

parts_rest : (n : Nonterminal) → (implies (is_nullable_of n) (list_all (has_kind (barred_of n)) (tokens_of (choices_of n)))
    && (same_part (head_of (short_of n)) n && is_below (height_of n) (body_of (short_of n)))) ≡ true
parts_rest n = and_right (own_default n (default_of n)) _ (and_right (own_rules n (choices_of n)) _ (parts_pass n))

found_step : (bars : List TokenKind) (s : TokenKind × Production) (k : TokenKind) (b : Bool) (o : Option Production) → same_kind s.0 k ≡ b
    → has_kind bars s.0 ≡ true →
    has_kind bars k ≡ false → o ≡ None → cond b (Some s.1) o ≡ None
found_step bars s k true o e has hasn't ih = let same = same_kind_true s.0 k e in let h = subst (λ x. has_kind bars x ≡ true) same has in cc
found_step bars s k false o e has hasn't ih = ih

found_none : (bars : List TokenKind) (starts : List (TokenKind × Production)) → list_all (has_kind bars) (tokens_of starts) ≡ true → (k : TokenKind)
    → has_kind bars k ≡ false →
    found starts k ≡ None
found_none bars [] e k h = refl
found_none bars (s ∷ starts) e k h = found_step bars s k (same_kind s.0 k) (found starts k) refl (and_left _ _ e) h
    (found_none bars starts (and_right _ _ e) k h)

-- Before a terminal that may follow it, a part that may be empty goes on by its default rule.
pub follows : (n : Nonterminal) (k : TokenKind) → is_nullable_of n ≡ true → has_kind (barred_of n) k ≡ false → predicted n k ≡ default_of n
follows n k h f =
    ap (λ o. or_else o (default_of n)) (found_none (barred_of n) (choices_of n) (implies_to (is_nullable_of n) _ (and_left _ _ (parts_rest n)) h) k f)

pub short_own : (n : Nonterminal) → head_of (short_of n) ≡ n
short_own n = same_true the_part tt (head_of (short_of n)) n (and_left _ _ (and_right (implies (is_nullable_of n) _) _ (parts_rest n)))

short_below : (n : Nonterminal) → is_below (height_of n) (body_of (short_of n)) ≡ true
short_below n = and_right (same_part (head_of (short_of n)) n) _ (and_right (implies (is_nullable_of n) _) _ (parts_rest n))

-- The symbols make something, wherever they stand.
pub record Spells (n : ℕ) (ss : List Symbol) : Type 0 where
  pub events : List Event
  pub tokens : List TokenKind
  pub derives : Derives n events ss tokens

spells_each : (h : ℕ) → ((n : ℕ) (p : Nonterminal) → height_of p < h → Spells n (symbol.Nonterminal p ∷ [])) → (n : ℕ) (ss : List Symbol) → is_below h ss ≡ true
    → Spells n ss
spells_each h part n [] e = record { events = []; tokens = []; derives = nothing }
spells_each h part n (symbol.Terminal k ∷ ss) e =
    let s = spells_each h part (suc n) ss e in record { events = s.events; tokens = k ∷ s.tokens; derives = terminal k s.derives }
spells_each h part n (symbol.Action m ∷ ss) e =
    let s = spells_each h part n ss e in
    record { events = record { action = m; place = n } ∷ s.events; tokens = s.tokens; derives = action m s.derives }
spells_each h part n (symbol.Nonterminal p ∷ ss) e =
    let s = part n p (ltb-true _ _ (and_left _ _ e)) in
    let t = spells_each h part (n + length s.tokens) ss (and_right _ _ e) in
    record { events = s.events ++ t.events; tokens = s.tokens ++ t.tokens; derives = Derives-append t.events ss t.tokens s.derives t.derives }

below_more : (a b : ℕ) (ss : List Symbol) → a ≤ b → is_below a ss ≡ true → is_below b ss ≡ true
below_more a b [] h e = refl
below_more a b (symbol.Terminal k ∷ ss) h e = below_more a b ss h e
below_more a b (symbol.Action m ∷ ss) h e = below_more a b ss h e
below_more a b (symbol.Nonterminal p ∷ ss) h e =
    let lt : height_of p < a = ltb-true _ _ (and_left _ _ e) in
    let lt' : height_of p < b = omega arith in
    both (lt-ltb _ _ lt') (below_more a b ss h (and_right _ _ e))

spells_part : (h : ℕ) (n : ℕ) (p : Nonterminal) → height_of p < h → Spells n (symbol.Nonterminal p ∷ [])
spells_part zero n p lt = absurd (omega arith)
spells_part (suc h) n p lt =
    let below = below_more (height_of p) h (body_of (short_of p)) (omega arith) (short_below p) in
    let s = spells_each h (spells_part h) n (body_of (short_of p)) below in
    record {
      events = s.events;
      tokens = s.tokens;
      derives = expanded (short_of p) (short_own p)
          (subst (λ xs. Derives n s.events xs s.tokens) (sym (append-nil (body_of (short_of p)))) s.derives);
    }

-- Each list of symbols makes something.
pub spelled : (n : ℕ) (ss : List Symbol) → Spells n ss
spelled n [] = record { events = []; tokens = []; derives = nothing }
spelled n (symbol.Terminal k ∷ ss) = let s = spelled (suc n) ss in record { events = s.events; tokens = k ∷ s.tokens; derives = terminal k s.derives }
spelled n (symbol.Action m ∷ ss) =
    let s = spelled n ss in record { events = record { action = m; place = n } ∷ s.events; tokens = s.tokens; derives = action m s.derives }
spelled n (symbol.Nonterminal p ∷ ss) =
    let s = spells_part (suc (height_of p)) n p (omega arith) in
    let t = spelled (n + length s.tokens) ss in
    record { events = s.events ++ t.events; tokens = s.tokens ++ t.tokens; derives = Derives-append t.events ss t.tokens s.derives t.derives }
