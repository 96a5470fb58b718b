-- What the productions of expressions mean.
use Rattle.std.proofs.Common.{◌≡◌, ℕ, ◌<◌, ◌≤◌, List, [], ◌∷◌, ◌++◌, append_assoc, append-nil, refl, sym, ap, subst, arith}
use Rattle.frame_grammar.specs.declared.symbols.Production.TheVariants as production
use Rattle.frame_grammar.specs.declared.symbols.Action.TheVariants as action
use Rattle.frame_grammar.specs.declared.symbols.Event.{Event}
use Rattle.frame_grammar.specs.Grammar.{head_of}
use Rattle.frame_grammar.specs.Bodies.{body_of}
use Rattle.kernel_raw.specs.declared.raw.RawForm.TheVariants as form
use Rattle.kernel_raw.specs.Raw.{Leaf, One, Two, Infix}
use Rattle.kernel_raw.specs.RawEvents.{on}
use Rattle.kernel_raw.specs.RawEvents as raw
use Rattle.kernel_raw.proofs.Derived.Meanings.{IsExpr, IsMore, Build, expr_up, is_expr_up}

-- CHAINS

-- an operator and its right side behind a left side
join : (k n b m : ℕ) (front own : List Event) → IsExpr k front n → n < b → IsExpr b own m
    → IsExpr k (front ++ on action.Operator n ∷ own ++ on action.Binary m ∷ []) m
join k n b m front own l lt r =
    let le : n ≤ m = omega (arith, r.few) in
    record {
      tree = Infix n l.tree r.tree;
      spells = raw.between m front own l.spells r.spells refl;
      below = (omega (arith, r.few), expr_up n m l.tree le l.below, r.below);
      few = omega (arith, l.few, r.few);
    }

joined : (front own more : List Event) (a b : Event) → ((front ++ (a ∷ own)) ++ (b ∷ [])) ++ more ≡ front ++ (a ∷ (own ++ (b ∷ (more ++ []))))
joined front own more a b = simp (append_assoc, append-nil)

joined_last : (front own : List Event) (a b : Event) → (front ++ (a ∷ own)) ++ (b ∷ []) ≡ front ++ (a ∷ (own ++ (b ∷ [])))
joined_last front own a b = simp append_assoc

more_some : (n b m e end : ℕ) (own more : List Event) → n < b → IsExpr b own m → IsMore m more e → e ≤ end
    → IsMore n (on action.Operator n ∷ (own ++ on action.Binary m ∷ (more ++ []))) end
more_some n b m e end own more lt r h le front k l =
    subst (λ es. IsExpr k es end) (joined front own more (on action.Operator n) (on action.Binary m))
    (is_expr_up k e end _ le (h (front ++ on action.Operator n ∷ own ++ on action.Binary m ∷ []) k (join k n b m front own l lt r)))

compared : (n b m end : ℕ) (own : List Event) → n < b → IsExpr b own m → m ≤ end → IsMore n (on action.Operator n ∷ (own ++ on action.Binary m ∷ [])) end
compared n b m end own lt r le front k l =
    subst (λ es. IsExpr k es end) (joined_last front own (on action.Operator n) (on action.Binary m)) (is_expr_up k m end _ le (join k n b m front own l lt r))

more_none : (n end : ℕ) → n ≤ end → IsMore n [] end
more_none n end le front k l = subst (λ es. IsExpr k es end) (sym (append-nil front)) (is_expr_up k n end front le l)

begun : (n m e end : ℕ) (own more : List Event) → IsExpr n own m → IsMore m more e → e ≤ end → IsExpr n (own ++ (more ++ [])) end
begun n m e end own more l h le = subst (λ es. IsExpr n es end) (ap (λ xs. own ++ xs) (sym (append-nil more))) (is_expr_up n e end _ le (h own n l))

pub expression : Build production.Expression
unfolding body_of head_of
expression n end c = begun n _ _ end c.events c.more.events c.means c.more.means c.more.more

pub both : Build production.Both
unfolding body_of head_of
both n end c = begun n _ _ end c.events c.more.events c.means c.more.means c.more.more

pub comparison : Build production.Comparison
unfolding body_of head_of
comparison n end c = begun n _ _ end c.events c.more.events c.means c.more.means c.more.more

pub sum : Build production.Sum
unfolding body_of head_of
sum n end c = begun n _ _ end c.events c.more.events c.means c.more.means c.more.more

pub term : Build production.Term
unfolding body_of head_of
term n end c = begun n _ _ end c.events c.more.events c.means c.more.means c.more.more

pub more_or_end : Build production.MoreOrEnd
unfolding body_of head_of
more_or_end n end c = more_none n end c

pub more_and_end : Build production.MoreAndEnd
unfolding body_of head_of
more_and_end n end c = more_none n end c

pub compared_none : Build production.ComparedNone
unfolding body_of head_of
compared_none n end c = more_none n end c

pub more_sum_end : Build production.MoreSumEnd
unfolding body_of head_of
more_sum_end n end c = more_none n end c

pub more_term_end : Build production.MoreTermEnd
unfolding body_of head_of
more_term_end n end c = more_none n end c

pub more_or_some : Build production.MoreOrSome
unfolding body_of head_of
more_or_some n end c = let s = c.more.more in more_some n _ _ _ end s.events s.more.events (omega arith) s.means s.more.means s.more.more

pub more_and_some : Build production.MoreAndSome
unfolding body_of head_of
more_and_some n end c = let s = c.more.more in more_some n _ _ _ end s.events s.more.events (omega arith) s.means s.more.means s.more.more

pub more_sum_plus : Build production.MoreSumPlus
unfolding body_of head_of
more_sum_plus n end c = let s = c.more.more in more_some n _ _ _ end s.events s.more.events (omega arith) s.means s.more.means s.more.more

pub more_sum_minus : Build production.MoreSumMinus
unfolding body_of head_of
more_sum_minus n end c = let s = c.more.more in more_some n _ _ _ end s.events s.more.events (omega arith) s.means s.more.means s.more.more

pub more_term_times : Build production.MoreTermTimes
unfolding body_of head_of
more_term_times n end c = let s = c.more.more in more_some n _ _ _ end s.events s.more.events (omega arith) s.means s.more.means s.more.more

pub more_term_over : Build production.MoreTermOver
unfolding body_of head_of
more_term_over n end c = let s = c.more.more in more_some n _ _ _ end s.events s.more.events (omega arith) s.means s.more.means s.more.more

pub more_term_remainder : Build production.MoreTermRemainder
unfolding body_of head_of
more_term_remainder n end c = let s = c.more.more in more_some n _ _ _ end s.events s.more.events (omega arith) s.means s.more.means s.more.more

pub compared_equal : Build production.ComparedEqual
unfolding body_of head_of
compared_equal n end c = let s = c.more.more in compared n _ _ end s.events (omega arith) s.means s.more

pub compared_not_equal : Build production.ComparedNotEqual
unfolding body_of head_of
compared_not_equal n end c = let s = c.more.more in compared n _ _ end s.events (omega arith) s.means s.more

pub compared_less : Build production.ComparedLess
unfolding body_of head_of
compared_less n end c = let s = c.more.more in compared n _ _ end s.events (omega arith) s.means s.more

pub compared_less_equal : Build production.ComparedLessEqual
unfolding body_of head_of
compared_less_equal n end c = let s = c.more.more in compared n _ _ end s.events (omega arith) s.means s.more

pub compared_greater : Build production.ComparedGreater
unfolding body_of head_of
compared_greater n end c = let s = c.more.more in compared n _ _ end s.events (omega arith) s.means s.more

pub compared_greater_equal : Build production.ComparedGreaterEqual
unfolding body_of head_of
compared_greater_equal n end c = let s = c.more.more in compared n _ _ end s.events (omega arith) s.means s.more

-- OPERATORS ON ONE SIDE

unary : (n b m end : ℕ) (own : List Event) → n < b → IsExpr b own m → m ≤ end → IsExpr n (on action.Operator n ∷ (own ++ on action.Unary m ∷ [])) end
unary n b m end own lt r le = record {
  tree = One form.Unary n n r.tree;
  spells = raw.unary m own r.spells refl;
  below = (omega (arith, r.few), omega (arith, r.few), expr_up m end r.tree le r.below);
  few = omega (arith, r.few);
}

pub unary_minus : Build production.UnaryMinus
unfolding body_of head_of
unary_minus n end c = let s = c.more.more in unary n _ _ end s.events (omega arith) s.means s.more

pub unary_not : Build production.UnaryNot
unfolding body_of head_of
unary_not n end c = let s = c.more.more in unary n _ _ end s.events (omega arith) s.means s.more

pub unary_atom : Build production.UnaryAtom
unfolding body_of head_of
unary_atom n end c = subst (λ es. IsExpr n es end) (sym (append-nil c.events)) (is_expr_up n _ end c.events c.more c.means)

-- ATOMS

pub atom_number : Build production.AtomNumber
unfolding body_of head_of
atom_number n end c = record { tree = Leaf form.Number n n; spells = raw.number _ refl; below = (omega arith, omega arith); few = omega arith }

pub atom_index : Build production.AtomIndex
unfolding body_of head_of
atom_index n end c = record { tree = Leaf form.Index n n; spells = raw.index _ refl; below = (omega arith, omega arith); few = omega arith }

pub atom_name : Build production.AtomName
unfolding body_of head_of
atom_name n end c =
    let s = c.more.more in
    subst (λ es. IsExpr n (on action.StartAtom n ∷ on action.Name n ∷ es) end) (sym (append-nil s.events))
    (is_expr_up n _ end _ s.more (s.means n n n (omega arith) (omega arith) (omega arith)))

pub atom_parens : Build production.AtomParens
unfolding body_of head_of
atom_parens n end c =
    let s = c.more.more in
    let e = s.means in
    record {
      tree = e.tree;
      spells = subst (λ es. raw.SpellsExpr es e.tree) (sym (append-nil s.events)) e.spells;
      below = expr_up _ end e.tree (omega arith) e.below;
      few = omega arith;
    }

pub atom_len : Build production.AtomLen
unfolding body_of head_of
atom_len n end c =
    record { tree = Leaf form.Length n c.more.more.more.end; spells = raw.size _ refl; below = (omega arith, omega arith); few = omega arith }

pub atom_has : Build production.AtomHas
unfolding body_of head_of
atom_has n end c =
    let s = c.more.more.more.more.more.more.more.more in
    let e = s.means in
    record {
      tree = One form.Has n c.more.more.more.end e.tree;
      spells = raw.has _ s.events e.spells refl;
      below = (omega arith, omega arith, expr_up _ end e.tree (omega arith) e.below);
      few = omega arith;
    }

pub atom_count : Build production.AtomCount
unfolding body_of head_of
atom_count n end c =
    let s = c.more.more.more.more.more.more.more.more in
    let e = s.means in
    record {
      tree = One form.Count n c.more.more.more.end e.tree;
      spells = raw.count _ s.events e.spells refl;
      below = (omega arith, omega arith, expr_up _ end e.tree (omega arith) e.below);
      few = omega arith;
    }

pub atom_at : Build production.AtomAt
unfolding body_of head_of
atom_at n end c =
    let s = c.more.more.more.more.more.more.more.more in
    let t = s.more.more.more in
    let e = s.means in
    let g = t.means in
    record {
      tree = Two form.Item n c.more.more.more.end e.tree g.tree;
      spells = raw.item _ s.events t.events e.spells g.spells refl;
      below = (omega arith, omega arith, expr_up _ end e.tree (omega arith) e.below, expr_up _ end g.tree (omega arith) g.below);
      few = omega arith;
    }

pub place_none : Build production.PlaceNone
unfolding body_of head_of
place_none n end c at x k at_below x_below k_below = record {
  tree = Leaf form.Name at x;
  spells = raw.name n refl;
  below = (omega arith, omega arith);
  few = omega arith;
}

pub place_some : Build production.PlaceSome
unfolding body_of head_of
place_some n end c at x k at_below x_below k_below =
    let s = c.more.more in
    let e = s.means in
    record {
      tree = One form.Element at x e.tree;
      spells = raw.element _ s.events e.spells refl;
      below = (omega arith, omega arith, expr_up _ end e.tree (omega arith) e.below);
      few = omega arith;
    }
