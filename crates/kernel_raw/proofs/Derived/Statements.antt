-- What the productions of statements mean.
use Rattle.std.proofs.Common.{◌≡◌, ℕ, suc, ◌+◌, ◌<◌, ◌≤◌, List, [], ◌∷◌, ◌++◌, append_assoc, append-nil, refl, sym, ◌∙◌, ap, subst, arith}
use Rattle.frame_grammar.specs.declared.symbols.Production.TheVariants as production
use Rattle.frame_grammar.specs.declared.symbols.Action.{Action}
use Rattle.frame_grammar.specs.declared.symbols.Action.TheVariants as action
use Rattle.frame_grammar.specs.declared.symbols.Event.{Event}
use Rattle.frame_grammar.specs.Grammar.{head_of}
use Rattle.frame_grammar.specs.Bodies.{body_of}
use Rattle.kernel_raw.specs.declared.raw.RawForm.{RawForm}
use Rattle.kernel_raw.specs.declared.raw.RawForm.TheVariants as form
use Rattle.kernel_raw.specs.Raw.{RawExpr, Nothing, Simple, Nested, Branched, parts_size, PartsBelow}
use Rattle.kernel_raw.specs.RawEvents.{on, SpellsBlock, SpellsHead}
use Rattle.kernel_raw.specs.RawEvents as raw
use Rattle.kernel_raw.proofs.Derived.Meanings.{IsSimple, IsStatements, IsBraced, Build, expr_up, parts_up, block_up}

-- SIMPLE STATEMENTS

-- a statement without a block begins those of a block
simple_first : (n at end last : ℕ) (es rest : List Event) → at ≤ n → IsSimple (suc n) es end → IsStatements end rest last
    → IsStatements n (on action.StartStatement at ∷ es ++ rest) last
simple_first n at end last es rest le s more = record {
  block = Simple s.form at s.called s.parts more.block;
  spells = raw.simple es rest s.spells more.spells refl;
  below = (omega (arith, s.few, more.few), omega (arith, s.called_below, more.few), parts_up end last s.parts (omega (arith, more.few)) s.below, more.below);
  few = omega (arith, s.few, more.few);
}

pub var_statement : Build production.VarStatement
unfolding body_of head_of
var_statement n end c at le rest last more =
    let s = c.more.more.more.more.more.more in
    let e = s.means in
    simple_first n at end last _ rest le (record {
      form = form.Var;
      called = c.more.end;
      parts = e.tree ∷ [];
      spells = raw.var _ s.events e.spells refl;
      called_below = omega arith;
      below = (expr_up _ end e.tree (omega arith) e.below, tt);
      few = omega arith;
    }) more

pub name_statement : Build production.NameStatement
unfolding body_of head_of
name_statement n end c at le rest last more =
    let s = c.more.more in
    let t = s.means n (suc n) (omega arith) (omega arith) in
    simple_first n at end last _ rest le (record {
      form = t.form;
      called = t.called;
      parts = t.parts;
      spells = subst (λ es. raw.SpellsSimple (on action.Name n ∷ es) t.form t.called t.parts) (sym (append-nil s.events)) t.spells;
      called_below = omega arith;
      below = parts_up _ end t.parts (omega arith) t.below;
      few = omega arith;
    }) more

pub add_statement : Build production.AddStatement
unfolding body_of head_of
add_statement n end c at le rest last more =
    let s = c.more.more.more.more.more.more.more.more in
    let a = s.more in
    let t = a.means c.more.more.more.end (suc n) s.events (omega arith) (record {
      tree = s.means.tree;
      spells = s.means.spells;
      below = s.means.below;
      few = omega arith;
    }) in
    simple_first n at end last _ rest le (record {
      form = t.form;
      called = t.called;
      parts = t.parts;
      spells = subst (λ es. raw.SpellsSimple (on action.Name c.more.more.more.end ∷ (s.events ++ es)) t.form t.called t.parts)
          (sym (append-nil a.events)) t.spells;
      called_below = omega arith;
      below = parts_up _ end t.parts (omega arith) t.below;
      few = omega arith;
    }) more

pub remove_statement : Build production.RemoveStatement
unfolding body_of head_of
remove_statement n end c at le rest last more =
    let s = c.more.more.more.more.more.more.more.more in
    let e = s.means in
    simple_first n at end last _ rest le (record {
      form = form.Remove;
      called = c.more.more.more.end;
      parts = e.tree ∷ [];
      spells = raw.remove _ s.events e.spells refl;
      called_below = omega arith;
      below = (expr_up _ end e.tree (omega arith) e.below, tt);
      few = omega arith;
    }) more

pub clear_statement : Build production.ClearStatement
unfolding body_of head_of
clear_statement n end c at le rest last more =
    simple_first n at end last _ rest le (record {
      form = form.Clear;
      called = c.more.more.more.end;
      parts = [];
      spells = raw.clear _ refl;
      called_below = omega arith;
      below = tt;
      few = omega arith;
    }) more

pub write_statement : Build production.WriteStatement
unfolding body_of head_of
write_statement n end c at le rest last more =
    let s = c.more.more.more.more.more.more.more.more in
    let e = s.means in
    simple_first n at end last _ rest le (record {
      form = form.Write;
      called = c.more.more.more.end;
      parts = e.tree ∷ [];
      spells = raw.write _ s.events e.spells refl;
      called_below = omega arith;
      below = (expr_up _ end e.tree (omega arith) e.below, tt);
      few = omega arith;
    }) more

-- BEHIND A NAME

pub target_name : Build production.TargetName
unfolding body_of head_of
target_name n end c y k y_below k_below =
    let s = c.more.more in
    let t = s.means y k (omega arith) (omega arith) in
    record {
      form = t.form;
      called = t.called;
      parts = t.parts;
      spells = subst (λ es. raw.SpellsSimple (on action.Name y ∷ es) t.form t.called t.parts) (sym (append-nil s.events)) t.spells;
      called_below = omega arith;
      below = parts_up _ end t.parts (omega arith) t.below;
      few = omega arith;
    }

pub target_place : Build production.TargetPlace
unfolding body_of head_of
target_place n end c y k y_below k_below =
    let s = c.more.more in
    let t = s.more.more.more.more.more in
    let e = s.means in
    let g = t.means in
    record {
      form = form.SetPlace;
      called = y;
      parts = e.tree ∷ g.tree ∷ [];
      spells = raw.set_place _ s.events t.events e.spells g.spells refl;
      called_below = omega arith;
      below = (expr_up _ end e.tree (omega arith) e.below, (expr_up _ end g.tree (omega arith) g.below, tt));
      few = omega arith;
    }

pub value_expression : Build production.ValueExpression
unfolding body_of head_of
value_expression n end c y k y_below k_below =
    let e = c.means in
    record {
      form = form.SetName;
      called = y;
      parts = e.tree ∷ [];
      spells = raw.set_name _ c.events e.spells refl;
      called_below = omega arith;
      below = (expr_up _ end e.tree (omega arith) e.below, tt);
      few = omega arith;
    }

pub value_try_add : Build production.ValueTryAdd
unfolding body_of head_of
value_try_add n end c y k y_below k_below =
    let s = c.more.more.more.more.more.more.more.more in
    let t = s.more.more.more in
    let e = s.means in
    let g = t.means in
    record {
      form = form.SetTryAdd;
      called = c.more.more.more.end;
      parts = e.tree ∷ g.tree ∷ [];
      spells = raw.set_try_add y _ s.events t.events e.spells g.spells refl;
      called_below = omega arith;
      below = (expr_up _ end e.tree (omega arith) e.below, (expr_up _ end g.tree (omega arith) g.below, tt));
      few = omega arith;
    }

pub value_remove : Build production.ValueRemove
unfolding body_of head_of
value_remove n end c y k y_below k_below =
    let s = c.more.more.more.more.more.more.more.more in
    let e = s.means in
    record {
      form = form.SetRemove;
      called = c.more.more.more.end;
      parts = e.tree ∷ [];
      spells = raw.set_remove y _ s.events e.spells refl;
      called_below = omega arith;
      below = (expr_up _ end e.tree (omega arith) e.below, tt);
      few = omega arith;
    }

pub added_value_none : Build production.AddedValueNone
unfolding body_of head_of
added_value_none n end c x k front x_below e = record {
  form = form.AddItem;
  called = x;
  parts = e.tree ∷ [];
  spells = raw.add_item n front e.spells refl;
  called_below = omega arith;
  below = (expr_up n end e.tree c e.below, tt);
  few = omega (arith, e.few);
}

pub added_value_some : Build production.AddedValueSome
unfolding body_of head_of
added_value_some n end c x k front x_below e =
    let s = c.more.more in
    let g = s.means in
    record {
      form = form.AddPair;
      called = x;
      parts = e.tree ∷ g.tree ∷ [];
      spells = raw.add_pair _ front s.events e.spells g.spells refl;
      called_below = omega arith;
      below = (expr_up n end e.tree (omega arith) e.below, (expr_up _ end g.tree (omega arith) g.below, tt));
      few = omega (arith, e.few, g.few);
    }

-- BLOCKS

pub statements_end : Build production.StatementsEnd
unfolding body_of head_of
statements_end n end c = record { block = Nothing; spells = raw.nothing refl; below = tt; few = omega arith }

pub statements_more : Build production.StatementsMore
unfolding body_of head_of
statements_more n end c =
    let more = c.more.means in
    subst (λ es. IsStatements n (on action.StartStatement n ∷ (c.events ++ es)) end) (sym (append-nil c.more.events))
    (c.means n (omega arith) c.more.events end (record {
      block = more.block;
      spells = more.spells;
      below = block_up _ end more.block c.more.more more.below;
      few = omega arith;
    }))

pub block : Build production.Block
unfolding body_of head_of
block n end c =
    let s = c.more.more in
    let b = s.means in
    record {
      opened = c.more.end;
      closed = s.end;
      inside = s.events;
      is = refl;
      inner = record { block = b.block; spells = b.spells; below = block_up _ end b.block (omega arith) b.below; few = omega arith };
    }

-- STATEMENTS WITH A BLOCK

braced : (start : Event) (head rest inside body : List Event) (o c q : Event) → body ≡ o ∷ inside ++ c ∷ [] →
    start ∷ ((head ++ (body ++ (q ∷ []))) ++ rest) ≡ start ∷ head ++ o ∷ inside ++ c ∷ q ∷ rest
braced start head rest inside body o c q is = rw is (simp append_assoc)

-- a statement with one block begins those of a block
nested_first : (n at x q b m end last : ℕ) (f : RawForm) (a : Action) (parts : List RawExpr) (head body rest : List Event) → at ≤ n → n < b → x < b
    → SpellsHead head a f at x parts → PartsBelow b parts → n + (1 + parts_size parts) ≤ b →
    IsBraced b body m → m ≤ end → IsStatements end rest last → IsStatements n (on action.StartStatement at ∷ ((head ++ (body ++ (on a q ∷ []))) ++ rest)) last
nested_first n at x q b m end last f a parts head body rest le lt called spells below few inner within more =
    let i = inner.inner in
    record {
      block = Nested f at x parts i.block more.block;
      spells = raw.nested inner.opened inner.closed q head inner.inside rest spells i.spells more.spells
          (braced (on action.StartStatement at) head rest inner.inside body (on action.OpenBlock inner.opened) (on action.CloseBlock inner.closed)
          (on a q) inner.is);
      below = (
        omega (arith, i.few, more.few),
        omega (arith, i.few, more.few),
        parts_up b last parts (omega (arith, i.few, more.few)) below,
        block_up m last i.block (omega (arith, more.few)) i.below,
        more.below,
      );
      few = omega (arith, i.few, more.few);
    }

headed : (own body rest : List Event) (h : Event) → (own ++ (h ∷ [])) ++ (body ++ rest) ≡ own ++ (h ∷ (body ++ rest))
headed own body rest h = append_assoc own (h ∷ []) (body ++ rest)

headed_two : (own next body rest : List Event) (h : Event) → (own ++ (next ++ (h ∷ []))) ++ (body ++ rest) ≡ own ++ (next ++ (h ∷ (body ++ rest)))
headed_two own next body rest h = simp append_assoc

pub begin_statement : Build production.BeginStatement
unfolding body_of head_of
begin_statement n end c at le rest last more =
    let s = c.more.more.more.more.more.more in
    let t = s.more.more.more in
    let e = s.means in
    let h = on action.BeginHead s.more.more.end in
    let x = c.more.end in
    let lt : x < s.more.more.end = omega arith in
    let from : n + (1 + parts_size (e.tree ∷ [])) ≤ s.more.more.end = omega arith in
    let first : n < s.more.more.end = omega arith in
    subst (λ es. IsStatements n (on action.StartStatement at ∷ ((on action.Name x ∷ es) ++ rest)) last)
    (headed s.events t.events (on action.BeginStatement t.end ∷ []) h)
    (nested_first n at x t.end s.more.more.end t.end end last form.Begin action.BeginStatement (e.tree ∷ [])
    (on action.Name x ∷ s.events ++ h ∷ []) t.events rest le first lt
    (raw.begun _ s.events e.spells refl) (expr_up _ s.more.more.end e.tree (omega arith) e.below, tt) from t.means t.more more)

pub for_statement : Build production.ForStatement
unfolding body_of head_of
for_statement n end c at le rest last more =
    let s = c.more.more.more.more.more.more in
    let t = s.more.more.more in
    let u = t.more in
    let e = s.means in
    let g = t.means in
    let h = on action.ForHead t.end in
    let x = c.more.end in
    let lt : x < t.end = omega arith in
    let from : n + (1 + parts_size (e.tree ∷ g.tree ∷ [])) ≤ t.end = omega arith in
    let first : n < t.end = omega arith in
    subst (λ es. IsStatements n (on action.StartStatement at ∷ ((on action.Name x ∷ es) ++ rest)) last)
    (headed_two s.events t.events u.events (on action.ForStatement u.end ∷ []) h)
    (nested_first n at x u.end t.end u.end end last form.For action.ForStatement (e.tree ∷ g.tree ∷ [])
    (on action.Name x ∷ s.events ++ (t.events ++ h ∷ [])) u.events rest le first lt
    (raw.counted _ s.events t.events e.spells g.spells refl) (expr_up _ t.end e.tree (omega arith) e.below, (g.below, tt)) from u.means u.more more)

pub while_statement : Build production.WhileStatement
unfolding body_of head_of
while_statement n end c at le rest last more =
    let s = c.more.more in
    let t = s.more in
    let e = s.means in
    let h = on action.WhileHead s.end in
    let from : n + (1 + parts_size (e.tree ∷ [])) ≤ s.end = omega arith in
    let first : n < s.end = omega arith in
    let lt : at < s.end = omega arith in
    subst (λ es. IsStatements n (on action.StartStatement at ∷ (es ++ rest)) last)
    (headed s.events t.events (on action.WhileStatement t.end ∷ []) h)
    (nested_first n at at t.end s.end t.end end last form.While action.WhileStatement (e.tree ∷ []) (s.events ++ h ∷ []) t.events rest le first lt
    (raw.looped _ s.events e.spells refl) (e.below, tt) from t.means t.more more)

-- CHOICES

else_behind : (o c : Event) (body inside els rest : List Event) → body ≡ o ∷ inside ++ c ∷ []
    → (body ++ (els ++ [])) ++ rest ≡ o ∷ (inside ++ c ∷ (els ++ rest))
else_behind o c body inside els rest is =
    ap (λ b. (b ++ (els ++ [])) ++ rest) is
    ∙ ap (λ zs. o ∷ zs) (append_assoc (inside ++ c ∷ []) (els ++ []) rest ∙ append_assoc inside (c ∷ []) ((els ++ []) ++ rest)
    ∙ ap (λ zs. inside ++ c ∷ (zs ++ rest)) (append-nil els))

if_events : (start h o c : Event) (cond body inside els rest : List Event) → body ≡ o ∷ inside ++ c ∷ [] →
    start ∷ (cond ++ h ∷ o ∷ (inside ++ c ∷ (els ++ rest))) ≡ start ∷ ((cond ++ (h ∷ (body ++ (els ++ [])))) ++ rest)
if_events start h o c cond body inside els rest is =
    ap (λ zs. start ∷ zs) (sym (append_assoc cond (h ∷ (body ++ (els ++ []))) rest ∙ ap (λ zs. cond ++ h ∷ zs) (else_behind o c body inside els rest is)))

pub if_statement : Build production.IfStatement
unfolding body_of head_of
if_statement n end c at le rest last more =
    let s = c.more.more in
    let t = s.more in
    let u = t.more in
    let e = s.means in
    let b = t.means in
    let i = b.inner in
    let next : IsStatements u.end rest last = record { block = more.block; spells = more.spells; below = more.below; few = omega arith } in
    subst (λ es. IsStatements n es last)
    (if_events (on action.StartStatement at) (on action.IfHead s.end) (on action.OpenBlock b.opened)
    (on action.CloseBlock b.closed) s.events t.events b.inside u.events rest b.is)
    (u.means at s.end b.opened b.closed n s.events b.inside e.tree i.block e.spells i.spells (omega arith)
    (expr_up _ t.end e.tree (omega arith) e.below) i.below (omega arith) rest last next)

else_none_events : (start h o c q : Event) (cond inside rest : List Event) →
    start ∷ (cond ++ h ∷ o ∷ (inside ++ c ∷ ((q ∷ []) ++ rest))) ≡ start ∷ (cond ++ h ∷ []) ++ o ∷ inside ++ c ∷ q ∷ rest
else_none_events start h o c q cond inside rest = simp append_assoc

pub else_none : Build production.ElseNone
unfolding body_of head_of
else_none n end le at h o c k cond inside e b spells inner at_below e_below b_below few rest last more = record {
  block = Nested form.If at at (e ∷ []) b more.block;
  spells = raw.nested o c n (cond ++ on action.IfHead h ∷ []) inside rest (raw.tested h cond spells refl) inner more.spells
      (else_none_events (on action.StartStatement at) (on action.IfHead h) (on action.OpenBlock o) (on action.CloseBlock c)
      (on action.IfStatement n) cond inside rest);
  below = (
    omega (arith, more.few),
    omega (arith, more.few),
    (expr_up n last e (omega (arith, more.few)) e_below, tt),
    block_up n last b
        (omega (arith, more.few)) b_below,
    more.below,
  );
  few = omega (arith, more.few);
}

else_some_events : (start h o c o' c' q : Event) (cond inside body second rest : List Event) → body ≡ o' ∷ second ++ c' ∷ [] →
    start ∷ (cond ++ h ∷ o ∷ (inside ++ c ∷ ((body ++ (q ∷ [])) ++ rest))) ≡ start ∷ cond ++ h ∷ o ∷ inside ++ c ∷ o' ∷ second ++ c' ∷ q ∷ rest
else_some_events start h o c o' c' q cond inside body second rest is = rw is (simp append_assoc)

pub else_some : Build production.ElseSome
unfolding body_of head_of
else_some n end c' at h o c k cond inside e b spells inner at_below e_below b_below few rest last more =
    let s = c'.more.more in
    let second = s.means in
    let i = second.inner in
    record {
      block = Branched at e b i.block more.block;
      spells = raw.branched h o c second.opened second.closed s.end cond inside second.inside rest spells inner i.spells more.spells
          (else_some_events (on action.StartStatement at) (on action.IfHead h) (on action.OpenBlock o) (on action.CloseBlock c)
          (on action.OpenBlock second.opened) (on action.CloseBlock second.closed)
          (on action.IfElseStatement s.end) cond inside s.events second.inside rest second.is);
      below = (
        omega arith,
        expr_up n last e (omega arith) e_below,
        block_up n last b (omega arith) b_below,
        block_up s.end last i.block (omega arith) i.below,
        more.below,
      );
      few = omega arith;
    }
