-- What a derivation gives, symbol by symbol, once each nonterminal means something.
use Rattle.std.proofs.Common.{◌≡◌, ℕ, suc, ◌+◌, ◌<◌, ◌≤◌, Bool, true, false, List, [], ◌∷◌, ◌++◌, length, append_assoc, refl, sym, ◌∙◌, ap, subst, arith}
use Rattle.frame_grammar.specs.declared.token_kind.TokenKind.{TokenKind}
use Rattle.frame_grammar.specs.declared.symbols.Nonterminal.{Nonterminal}
use Rattle.frame_grammar.specs.declared.symbols.Nonterminal.TheVariants as nonterminal
use Rattle.frame_grammar.specs.declared.symbols.Production.{Production}
use Rattle.frame_grammar.specs.declared.symbols.Symbol.{Symbol}
use Rattle.frame_grammar.specs.declared.symbols.Symbol.TheVariants as symbol
use Rattle.frame_grammar.specs.declared.symbols.Action.{Action}
use Rattle.frame_grammar.specs.declared.symbols.Event.{Event}
use Rattle.frame_grammar.specs.Grammar.{head_of, Derives, nothing, terminal, action, expanded}
use Rattle.frame_grammar.specs.Bodies.{body_of}
use Rattle.kernel_raw.specs.RawEvents.{on}

-- a meaning of nonterminals: what it is that they derive these events between these two places
abbrev pub Meaning : Type 1
Meaning = Nonterminal → ℕ → List Event → ℕ → Type 0

-- some tokens from a place on, and what comes behind them
pub record Taken (n : ℕ) (More : ℕ → Type 0) : Type 0 where
  pub end : ℕ
  pub after : n < end
  pub more : More end

-- maybe some tokens
pub record Skipped (n : ℕ) (More : ℕ → Type 0) : Type 0 where
  pub end : ℕ
  pub after : n ≤ end
  pub more : More end

pub record Noted (a : Action) (n : ℕ) (es : List Event) (More : List Event → Type 0) : Type 0 where
  pub rest : List Event
  pub is : es ≡ on a n ∷ rest
  pub more : More rest

pub record Means (M : Meaning) (head : Nonterminal) (n : ℕ) (es : List Event) (More : ℕ → List Event → Type 0) : Type 0 where
  pub own : List Event
  pub rest : List Event
  pub end : ℕ
  pub is : es ≡ own ++ rest
  pub means : M head n own end
  pub more : More end rest

-- line ends mean nothing
abbrev pub is_lines : Nonterminal → Bool
is_lines nonterminal.Lines = true
is_lines _ = false

abbrev pub OfNonterminal : Bool → Meaning → Nonterminal → ℕ → List Event → (ℕ → List Event → Type 0) → Type 0
OfNonterminal true M p n es More = Skipped n (λ m. More m es)
OfNonterminal false M p n es More = Means M p n es More

-- what these symbols derive means
abbrev pub Parts : Meaning → ℕ → List Event → List Symbol → ℕ → Type 0
Parts M n es [] end = (es ≡ []) × (n ≤ end)
Parts M n es (symbol.Terminal k ∷ ss) end = Taken n (λ m. Parts M m es ss end)
Parts M n es (symbol.Action a ∷ ss) end = Noted a n es (λ rest. Parts M n rest ss end)
Parts M n es (symbol.Nonterminal p ∷ ss) end = OfNonterminal (is_lines p) M p n es (λ m rest. Parts M m rest ss end)

-- The same without the events, which it tells.
pub record Sub (M : Meaning) (p : Nonterminal) (n : ℕ) (More : ℕ → Type 0) : Type 0 where
  pub events : List Event
  pub end : ℕ
  pub means : M p n events end
  pub more : More end

abbrev pub ChainOf : Bool → Meaning → Nonterminal → ℕ → (ℕ → Type 0) → Type 0
ChainOf true M p n More = Skipped n More
ChainOf false M p n More = Sub M p n More

abbrev pub Chain : Meaning → ℕ → List Symbol → ℕ → Type 0
Chain M n [] end = n ≤ end
Chain M n (symbol.Terminal k ∷ ss) end = Taken n (λ m. Chain M m ss end)
Chain M n (symbol.Action a ∷ ss) end = Chain M n ss end
Chain M n (symbol.Nonterminal p ∷ ss) end = ChainOf (is_lines p) M p n (λ m. Chain M m ss end)

abbrev pub events_behind : (b : Bool) (M : Meaning) (p : Nonterminal) (n : ℕ) (More : ℕ → Type 0) → ((m : ℕ) → More m → List Event) → ChainOf b M p n More
    → List Event
events_behind true M p n More events c = events c.end c.more
events_behind false M p n More events c = c.events ++ events c.end c.more

abbrev pub events_of : (M : Meaning) (n : ℕ) (ss : List Symbol) (end : ℕ) → Chain M n ss end → List Event
events_of M n [] end c = []
events_of M n (symbol.Terminal k ∷ ss) end c = events_of M c.end ss end c.more
events_of M n (symbol.Action a ∷ ss) end c = on a n ∷ events_of M n ss end c
events_of M n (symbol.Nonterminal p ∷ ss) end c = events_behind (is_lines p) M p n (λ m. Chain M m ss end) (λ m d. events_of M m ss end d) c

-- the parts of two lists of symbols, one behind the other
pub record Split (M : Meaning) (n : ℕ) (es : List Event) (xs ys : List Symbol) (end : ℕ) : Type 0 where
  pub own : List Event
  pub rest : List Event
  pub middle : ℕ
  pub is : es ≡ own ++ rest
  pub first : Parts M n own xs middle
  pub second : Parts M middle rest ys end

split_of : (b : Bool) (M : Meaning) (p : Nonterminal) (n : ℕ) (es : List Event) (xs ys : List Symbol) (end : ℕ) →
    ((m : ℕ) (rest : List Event) → Parts M m rest (xs ++ ys) end → Split M m rest xs ys end) →
    OfNonterminal b M p n es (λ m rest. Parts M m rest (xs ++ ys) end) →
    (own rest : List Event) × (middle : ℕ) × (es ≡ own ++ rest) × OfNonterminal b M p n own (λ m r. Parts M m r xs middle) × Parts M middle rest ys end
split_of true M p n es xs ys end h d =
    let s = h d.end es d.more in
    (s.own, s.rest, s.middle, s.is, record { end = d.end; after = d.after; more = s.first }, s.second)
split_of false M p n es xs ys end h d =
    let s = h d.end d.rest d.more in (
      d.own ++ s.own,
      s.rest,
      s.middle,
      d.is ∙ ap (λ r. d.own ++ r) s.is ∙ sym (append_assoc d.own s.own s.rest),
      record { own = d.own; rest = s.own; end = d.end; is = refl; means = d.means; more = s.first },
      s.second,
    )

split : (M : Meaning) (n : ℕ) (es : List Event) (xs ys : List Symbol) (end : ℕ) → Parts M n es (xs ++ ys) end → Split M n es xs ys end
split M n es [] ys end d = record { own = []; rest = es; middle = n; is = refl; first = (refl, omega arith); second = d }
split M n es (symbol.Terminal k ∷ xs) ys end d =
    let s = split M d.end es xs ys end d.more in
    record { own = s.own; rest = s.rest; middle = s.middle; is = s.is; first = record { end = d.end; after = d.after; more = s.first }; second = s.second }
split M n es (symbol.Action a ∷ xs) ys end d =
    let s = split M n d.rest xs ys end d.more in
    record {
      own = on a n ∷ s.own;
      rest = s.rest;
      middle = s.middle;
      is = d.is ∙ ap (λ r. on a n ∷ r) s.is;
      first = record { rest = s.own; is = refl; more = s.first };
      second = s.second;
    }
split M n es (symbol.Nonterminal p ∷ xs) ys end d =
    let s = split_of (is_lines p) M p n es xs ys end (λ m rest e. split M m rest xs ys end e) d in
    record { own = s.0; rest = s.1; middle = s.2; is = s.3; first = s.4; second = s.5 }

pub record Chained (M : Meaning) (n : ℕ) (es : List Event) (ss : List Symbol) (end : ℕ) : Type 0 where
  pub chain : Chain M n ss end
  pub are : es ≡ events_of M n ss end chain

chained_of : (b : Bool) (M : Meaning) (p : Nonterminal) (n : ℕ) (es : List Event) (ss : List Symbol) (end : ℕ) →
    ((m : ℕ) (rest : List Event) → Parts M m rest ss end → Chained M m rest ss end) →
    OfNonterminal b M p n es (λ m rest. Parts M m rest ss end) →
    (c : ChainOf b M p n (λ m. Chain M m ss end)) × (es ≡ events_behind b M p n (λ m. Chain M m ss end) (λ m d. events_of M m ss end d) c)
chained_of true M p n es ss end h d = let c = h d.end es d.more in (record { end = d.end; after = d.after; more = c.chain }, c.are)
chained_of false M p n es ss end h d =
    let c = h d.end d.rest d.more in
    (record { events = d.own; end = d.end; means = d.means; more = c.chain }, d.is ∙ ap (λ r. d.own ++ r) c.are)

chained : (M : Meaning) (n : ℕ) (es : List Event) (ss : List Symbol) (end : ℕ) → Parts M n es ss end → Chained M n es ss end
chained M n es [] end d = record { chain = d.1; are = d.0 }
chained M n es (symbol.Terminal k ∷ ss) end d = let c = chained M d.end es ss end d.more in
    record { chain = record { end = d.end; after = d.after; more = c.chain }; are = c.are }
chained M n es (symbol.Action a ∷ ss) end d = let c = chained M n d.rest ss end d.more in record { chain = c.chain; are = d.is ∙ ap (λ r. on a n ∷ r) c.are }
chained M n es (symbol.Nonterminal p ∷ ss) end d =
    let c = chained_of (is_lines p) M p n es ss end (λ m rest e. chained M m rest ss end e) d in
    record { chain = c.0; are = c.1 }

-- What the body of each production derives means what its head is to mean.
abbrev pub Builds : Meaning → Type 0
Builds M = (p : Production) (n end : ℕ) (c : Chain M n (body_of p) end) → M (head_of p) n (events_of M n (body_of p) end c) end

-- what is to be line ends is nothing
abbrev pub SkipsLines : Meaning → Type 0
SkipsLines M = (p : Nonterminal) (n : ℕ) (es : List Event) (end : ℕ) → is_lines p ≡ true → M p n es end → (es ≡ []) × (n ≤ end)

moved : (n l : ℕ) → suc n + l ≡ n + suc l
moved n l = omega arith

stayed : (n : ℕ) → n ≤ n + 0
stayed n = omega arith

expanded_of : (b : Bool) (M : Meaning) (p : Nonterminal) (n : ℕ) (es own rest : List Event) (middle : ℕ) (ss : List Symbol) (end : ℕ) → is_lines p ≡ b
    → SkipsLines M →
    es ≡ own ++ rest → M p n own middle → Parts M middle rest ss end → OfNonterminal b M p n es (λ m r. Parts M m r ss end)
expanded_of true M p n es own rest middle ss end e skips is means more =
    let s = skips p n own middle e means in
    let same : rest ≡ es = sym (is ∙ ap (λ xs. xs ++ rest) s.0) in
    record { end = middle; after = s.1; more = subst (λ r. Parts M middle r ss end) same more }
expanded_of false M p n es own rest middle ss end e skips is means more = record { own = own; rest = rest; end = middle; is = is; means = means; more = more }

-- What is derived means what it is to.
pub parts : (M : Meaning) → Builds M → SkipsLines M → {n : ℕ} {es : List Event} {ss : List Symbol} {ks : List TokenKind} → Derives n es ss ks
    → Parts M n es ss (n + length ks)
parts M builds skips (nothing {n = n}) = (refl, stayed n)
parts M builds skips (terminal {n = n} {events = es} {ss = ss} {ks = ks} k d) =
    record { end = suc n; after = omega arith; more = subst (λ m. Parts M (suc n) es ss m) (moved n (length ks)) (parts M builds skips d) }
parts M builds skips (action {events = es} a d) = record { rest = es; is = refl; more = parts M builds skips d }
parts M builds skips (expanded {n = n} {events = es} {ss = ss} {ks = ks} p {head = head} is_head d) =
    let s = split M n es (body_of p) ss (n + length ks) (parts M builds skips d) in
    let c = chained M n s.own (body_of p) s.middle s.first in
    let means = subst (λ xs. M (head_of p) n xs s.middle) (sym c.are) (builds p n s.middle c.chain) in
    expanded_of (is_lines head) M head n es s.own s.rest s.middle ss (n + length ks) refl skips s.is (subst (λ h. M h n s.own s.middle) is_head means) s.second
