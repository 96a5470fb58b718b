-- What the reader has after the events of a block.
use Rattle.std.proofs.Common.{◌≡◌, ℕ, ◌-◌, ◌+◌, List, [], ◌∷◌, ◌++◌, length, Option, Some, append_assoc, append-nil, refl, sym, ◌∙◌, ap, arith}
use Rattle.std.proofs.lemmas.List.{length-append}
use Rattle.frame_grammar.specs.declared.symbols.Action.{Action}
use Rattle.frame_grammar.specs.declared.symbols.Action.TheVariants as action
use Rattle.frame_grammar.specs.declared.symbols.Event.{Event}
use Rattle.kernel_raw.specs.declared.raw.RawForm.{RawForm}
use Rattle.kernel_raw.specs.declared.raw.RawForm.TheVariants as form
use Rattle.kernel_raw.specs.declared.raw.RawNode.{RawNode}
use Rattle.kernel_raw.specs.declared.raw.RawParam.{RawParam}
use Rattle.kernel_raw.specs.declared.part.Part.TheVariants as part
use Rattle.kernel_raw.specs.Raw.{RawExpr, RawBlock, Nothing, Simple, Nested, Branched, expr_size, parts_size, block_size, expr_nodes, parts_nodes, statement_node, block_nodes}
use Rattle.kernel_raw.specs.RawEvents.{on, SpellsExpr, SpellsSimple, SpellsHead, SpellsBlock}
use Rattle.kernel_raw.specs.RawEvents as raw
use Rattle.kernel_raw.specs.Reading.{part_of, with_part, top, run}
use Rattle.kernel_raw.proofs.Reading.Readings.{mk, run-append, length-more, change_seam, length-expr, blank, named_node, one_part, two_parts, Reads, reads}

length-parts : (parts : List RawExpr) → length (parts_nodes parts) ≡ parts_size parts
length-parts [] = refl
length-parts (e ∷ more) = omega (arith, length-append (expr_nodes e) (parts_nodes more), length-expr e, length-parts more)

pub length-block : (owner : Option ℕ) (n : ℕ) (b : RawBlock) → length (block_nodes owner n b) ≡ block_size b
length-block owner n Nothing = refl
length-block owner n (Simple f at name parts more) =
    omega (
      arith,
      length-append (parts_nodes parts) (block_nodes owner (n + (1 + parts_size parts)) more),
      length-parts parts,
      length-block owner
          (n + (1 + parts_size parts)) more,
    )
length-block owner n (Nested f at name parts inner more) =
    let a = block_nodes (Some n) (n + (1 + parts_size parts)) inner in
    let b = block_nodes owner (n + (1 + parts_size parts + block_size inner)) more in
    omega (
      arith,
      length-append (parts_nodes parts) (a ++ b),
      length-append a b,
      length-parts parts,
      length-block (Some n) (n + (1 + parts_size parts)) inner,
      length-block owner (n + (1 + parts_size parts + block_size inner)) more,
    )
length-block owner n (Branched at e first second more) =
    let a = block_nodes (Some n) (n + (1 + expr_size e)) first in
    let b = block_nodes (Some n) (n + (1 + expr_size e + block_size first)) second in
    let c = block_nodes owner (n + (1 + expr_size e + block_size first + block_size second)) more in
    omega (
      arith,
      length-append (expr_nodes e) (a ++ (b ++ c)),
      length-append a (b ++ c),
      length-append b c,
      length-expr e,
      length-block (Some n) (n + (1 + expr_size e)) first,
      length-block (Some n) (n + (1 + expr_size e + block_size first)) second,
      length-block owner (n + (1 + expr_size e + block_size first + block_size second)) more,
    )

-- STATEMENTS

-- the last node of the list becomes this one with these behind it, and what is open becomes this
pub record Leads (es : List Event) (ps : List RawParam) (p : RawParam) (xs : List RawNode) (n : RawNode) (os : List ℕ) (l : ℕ) (n' : RawNode)
    (ys : List RawNode) (os' : List ℕ) : Type 0 where
  pub last : ℕ
  pub is : run (mk ps p (xs ++ n ∷ []) (length xs ∷ os) l) es ≡ mk ps p (xs ++ n' ∷ ys) os' last

-- the node of a statement when its name, if it has one, and its expressions have been read
abbrev pub headed : (at name : ℕ) (owner : Option ℕ) (heads : ℕ) → RawNode
headed at name owner heads = record { form = form.Number; at = at; name = name; owner = owner; before = 0; after = 0; heads = heads; inside = 0 }

-- one expression, and then the end of the statement
closes_one : (f : RawForm) (q : ℕ) (a : Action) (es : List Event) (e : RawExpr) → part_of a ≡ part.Closes f → Reads es e →
    (ps : List RawParam) (p : RawParam) (xs : List RawNode) (at name : ℕ) (owner : Option ℕ) (os : List ℕ) (l : ℕ) →
    Leads (es ++ on a q ∷ []) ps p xs (blank at name owner 0) os l (statement_node f at name owner (expr_size e + 0) 0 0) (expr_nodes e ++ []) os
closes_one f q a es e is h ps p xs at name owner os l =
    let size : length (expr_nodes e) ≡ expr_size e + 0 = omega (arith, length-expr e) in
    let sum : expr_size e + 0 ≡ expr_size e + 0 + (0 + 0) = omega arith in
    let k = length (xs ++ blank at name owner 0 ∷ []) in
    record {
      last = k;
      is = one_part es e h ps p xs (blank at name owner 0) os l (on a q ∷ [])
          ∙ ap (λ t. with_part t q (mk ps p (xs ++ blank at name owner 0 ∷ expr_nodes e) (length xs ∷ os) k)) is
          ∙ change_seam (part.Closes f) q ps p xs (blank at name owner 0) (expr_nodes e) os k
          ∙ ap (λ j. mk ps p (xs ++ record (blank at name owner 0) { form = f; after = j; heads = j } ∷ expr_nodes e) os k) size
          ∙ ap (λ j. mk ps p (xs ++ record (blank at name owner 0) { form = f; after = j; heads = expr_size e + 0 } ∷ expr_nodes e) os k) sum
          ∙ ap (λ ys. mk ps p (xs ++ statement_node f at name owner (expr_size e + 0) 0 0 ∷ ys) os k) (sym (append-nil (expr_nodes e)));
    }

closes_two : (f : RawForm) (q : ℕ) (a : Action) (es gs : List Event) (e g : RawExpr) → part_of a ≡ part.Closes f → Reads es e → Reads gs g →
    (ps : List RawParam) (p : RawParam) (xs : List RawNode) (at name : ℕ) (owner : Option ℕ) (os : List ℕ) (l : ℕ) →
    Leads (es ++ (gs ++ on a q ∷ [])) ps p xs (blank at name owner 0) os l (statement_node f at name owner (expr_size e + (expr_size g + 0)) 0 0)
    (expr_nodes e ++ (expr_nodes g ++ [])) os
closes_two f q a es gs e g is h i ps p xs at name owner os l =
    let size : length (expr_nodes e ++ expr_nodes g) ≡ expr_size e + (expr_size g + 0) =
    omega (arith, length-append (expr_nodes e) (expr_nodes g), length-expr e, length-expr g) in
    let sum : expr_size e + (expr_size g + 0) ≡ expr_size e + (expr_size g + 0) + (0 + 0) = omega arith in
    let k = length (xs ++ blank at name owner 0 ∷ expr_nodes e) in
    record {
      last = k;
      is = two_parts es gs e g h i ps p xs (blank at name owner 0) os l (on a q ∷ [])
          ∙ ap (λ t. with_part t q (mk ps p (xs ++ (blank at name owner 0 ∷ expr_nodes e ++ expr_nodes g)) (length xs ∷ os) k)) is
          ∙ change_seam (part.Closes f) q ps p xs (blank at name owner 0) (expr_nodes e ++ expr_nodes g) os k
          ∙ ap (λ j. mk ps p (xs ++ (record (blank at name owner 0) { form = f; after = j; heads = j } ∷ (expr_nodes e ++ expr_nodes g))) os k) size
          ∙ ap (λ j. mk ps p (xs ++ (record (blank at name owner 0) { form = f; after = j; heads = expr_size e + (expr_size g + 0) }
          ∷ (expr_nodes e ++ expr_nodes g))) os k) sum
          ∙ ap (λ ys. mk ps p (xs ++ (statement_node f at name owner (expr_size e + (expr_size g + 0)) 0 0 ∷ (expr_nodes e ++ ys))) os k)
          (sym (append-nil (expr_nodes g)));
    }

-- the name comes first
behind_name : (x : ℕ) (es : List Event) (ps : List RawParam) (p : RawParam) (xs : List RawNode) (at name : ℕ) (owner : Option ℕ) (os : List ℕ) (l : ℕ)
    (n' : RawNode) (ys : List RawNode) (os' : List ℕ) →
    Leads es ps p xs (blank at x owner 0) os l n' ys os' → Leads (on action.Name x ∷ es) ps p xs (blank at name owner 0) os l n' ys os'
behind_name x es ps p xs at name owner os l n' ys os' h = record {
  last = h.last;
  is = ap (λ s. run s es) (named_node ps p xs (blank at name owner 0) os l x) ∙ h.is;
}

leads_along : (es events : List Event) (ps : List RawParam) (p : RawParam) (xs : List RawNode) (n : RawNode) (os : List ℕ) (l : ℕ) (n' : RawNode)
    (ys : List RawNode) (os' : List ℕ) →
    events ≡ es → Leads es ps p xs n os l n' ys os' → Leads events ps p xs n os l n' ys os'
leads_along es events ps p xs n os l n' ys os' is h = record { last = h.last; is = ap (run (mk ps p (xs ++ n ∷ []) (length xs ∷ os) l)) is ∙ h.is }

simple_leads : {es : List Event} {f : RawForm} {name : ℕ} {parts : List RawExpr} → SpellsSimple es f name parts →
    (ps : List RawParam) (p : RawParam) (xs : List RawNode) (at : ℕ) (owner : Option ℕ) (os : List ℕ) (l : ℕ) →
    Leads es ps p xs (blank at at owner 0) os l (statement_node f at name owner (parts_size parts) 0 0) (parts_nodes parts) os
simple_leads (raw.var {x = x} q es {e = e} d is) = λ ps p xs at owner os l.
    leads_along _ _ _ _ _ _ _ _ _ _ _ is (behind_name x _ _ _ _ _ _ _ _ _ _ _ _
    (closes_one form.Var q action.VarStatement es e refl (reads d) ps p xs at x owner os l))
simple_leads (raw.set_name {x = x} q es {e = e} d is) = λ ps p xs at owner os l.
    leads_along _ _ _ _ _ _ _ _ _ _ _ is (behind_name x _ _ _ _ _ _ _ _ _ _ _ _
    (closes_one form.SetName q action.SetName es e refl (reads d) ps p xs at x owner os l))
simple_leads (raw.set_place {x = x} q es gs {e = e} {g = g} d c is) = λ ps p xs at owner os l.
    leads_along _ _ _ _ _ _ _ _ _ _ _ is (behind_name x _ _ _ _ _ _ _ _ _ _ _ _
    (closes_two form.SetPlace q action.SetPlace es gs e g refl (reads d) (reads c) ps p xs at x owner os l))
simple_leads (raw.set_try_add {x = x} y q es gs {e = e} {g = g} d c is) = λ ps p xs at owner os l.
    leads_along _ _ _ _ _ _ _ _ _ _ _ is (behind_name y _ _ _ _ _ _ _ _ _ _ _ _ (behind_name x _ _ _ _ _ _ _ _ _ _ _ _
    (closes_two form.SetTryAdd q action.SetTryAdd es gs e g refl (reads d) (reads c) ps p xs at x owner os l)))
simple_leads (raw.set_remove {x = x} y q es {e = e} d is) = λ ps p xs at owner os l.
    leads_along _ _ _ _ _ _ _ _ _ _ _ is (behind_name y _ _ _ _ _ _ _ _ _ _ _ _ (behind_name x _ _ _ _ _ _ _ _ _ _ _ _
    (closes_one form.SetRemove q action.SetRemove es e refl (reads d) ps p xs at x owner os l)))
simple_leads (raw.add_item {x = x} q es {e = e} d is) = λ ps p xs at owner os l.
    leads_along _ _ _ _ _ _ _ _ _ _ _ is (behind_name x _ _ _ _ _ _ _ _ _ _ _ _
    (closes_one form.AddItem q action.AddItem es e refl (reads d) ps p xs at x owner os l))
simple_leads (raw.add_pair {x = x} q es gs {e = e} {g = g} d c is) = λ ps p xs at owner os l.
    leads_along _ _ _ _ _ _ _ _ _ _ _ is (behind_name x _ _ _ _ _ _ _ _ _ _ _ _
    (closes_two form.AddPair q action.AddPair es gs e g refl (reads d) (reads c) ps p xs at x owner os l))
simple_leads (raw.remove {x = x} q es {e = e} d is) = λ ps p xs at owner os l.
    leads_along _ _ _ _ _ _ _ _ _ _ _ is (behind_name x _ _ _ _ _ _ _ _ _ _ _ _
    (closes_one form.Remove q action.RemoveStatement es e refl (reads d) ps p xs at x owner os l))
simple_leads (raw.clear {x = x} q is) = λ ps p xs at owner os l.
    leads_along _ _ _ _ _ _ _ _ _ _ _ is (behind_name x _ _ _ _ _ _ _ _ _ _ _ _
    (record { last = l; is = change_seam (part.Closes form.Clear) q ps p xs (blank at x owner 0) [] os l }))
simple_leads (raw.write {x = x} q es {e = e} d is) = λ ps p xs at owner os l.
    leads_along _ _ _ _ _ _ _ _ _ _ _ is (behind_name x _ _ _ _ _ _ _ _ _ _ _ _
    (closes_one form.Write q action.WriteStatement es e refl (reads d) ps p xs at x owner os l))

-- HEADS

heads_one : (q : ℕ) (a : Action) (es : List Event) (e : RawExpr) → part_of a ≡ part.Heads → Reads es e →
    (ps : List RawParam) (p : RawParam) (xs : List RawNode) (at name : ℕ) (owner : Option ℕ) (os : List ℕ) (l : ℕ) →
    Leads (es ++ on a q ∷ []) ps p xs (blank at name owner 0) os l (headed at name owner (expr_size e + 0)) (expr_nodes e ++ []) (length xs ∷ os)
heads_one q a es e is h ps p xs at name owner os l =
    let size : length (expr_nodes e) ≡ expr_size e + 0 = omega (arith, length-expr e) in
    let k = length (xs ++ blank at name owner 0 ∷ []) in
    record {
      last = k;
      is = one_part es e h ps p xs (blank at name owner 0) os l (on a q ∷ [])
          ∙ ap (λ t. with_part t q (mk ps p (xs ++ blank at name owner 0 ∷ expr_nodes e) (length xs ∷ os) k)) is
          ∙ change_seam part.Heads q ps p xs (blank at name owner 0) (expr_nodes e) os k
          ∙ ap (λ j. mk ps p (xs ++ headed at name owner j ∷ expr_nodes e) (length xs ∷ os) k) size
          ∙ ap (λ ys. mk ps p (xs ++ headed at name owner (expr_size e + 0) ∷ ys) (length xs ∷ os) k) (sym (append-nil (expr_nodes e)));
    }

heads_two : (q : ℕ) (a : Action) (es gs : List Event) (e g : RawExpr) → part_of a ≡ part.Heads → Reads es e → Reads gs g →
    (ps : List RawParam) (p : RawParam) (xs : List RawNode) (at name : ℕ) (owner : Option ℕ) (os : List ℕ) (l : ℕ) →
    Leads (es ++ (gs ++ on a q ∷ [])) ps p xs (blank at name owner 0) os l (headed at name owner (expr_size e + (expr_size g + 0)))
    (expr_nodes e ++ (expr_nodes g ++ [])) (length xs ∷ os)
heads_two q a es gs e g is h i ps p xs at name owner os l =
    let size : length (expr_nodes e ++ expr_nodes g) ≡ expr_size e + (expr_size g + 0) =
    omega (arith, length-append (expr_nodes e) (expr_nodes g), length-expr e, length-expr g) in
    let k = length (xs ++ blank at name owner 0 ∷ expr_nodes e) in
    record {
      last = k;
      is = two_parts es gs e g h i ps p xs (blank at name owner 0) os l (on a q ∷ [])
          ∙ ap (λ t. with_part t q (mk ps p (xs ++ (blank at name owner 0 ∷ expr_nodes e ++ expr_nodes g)) (length xs ∷ os) k)) is
          ∙ change_seam part.Heads q ps p xs (blank at name owner 0) (expr_nodes e ++ expr_nodes g) os k
          ∙ ap (λ j. mk ps p (xs ++ (headed at name owner j ∷ (expr_nodes e ++ expr_nodes g))) (length xs ∷ os) k) size
          ∙ ap (λ ys. mk ps p (xs ++ (headed at name owner (expr_size e + (expr_size g + 0)) ∷ (expr_nodes e ++ ys))) (length xs ∷ os) k)
          (sym (append-nil (expr_nodes g)));
    }

-- what ends a statement of this head is its form
head_end : {es : List Event} {a : Action} {f : RawForm} {at name : ℕ} {parts : List RawExpr} → SpellsHead es a f at name parts → part_of a ≡ part.Nests f
head_end (raw.begun q es d is) = refl
head_end (raw.tested q es d is) = refl
head_end (raw.counted q es gs d c is) = refl
head_end (raw.looped q es d is) = refl

head_leads : {es : List Event} {a : Action} {f : RawForm} {at name : ℕ} {parts : List RawExpr} → SpellsHead es a f at name parts →
    (ps : List RawParam) (p : RawParam) (xs : List RawNode) (owner : Option ℕ) (os : List ℕ) (l : ℕ) →
    Leads es ps p xs (blank at at owner 0) os l (headed at name owner (parts_size parts)) (parts_nodes parts) (length xs ∷ os)
head_leads (raw.begun {at = at} {x = x} q es {e = e} d is) = λ ps p xs owner os l.
    leads_along _ _ _ _ _ _ _ _ _ _ _ is (behind_name x _ _ _ _ _ _ _ _ _ _ _ _ (heads_one q action.BeginHead es e refl (reads d) ps p xs at x owner os l))
head_leads (raw.tested {at = at} q es {e = e} d is) = λ ps p xs owner os l.
    leads_along _ _ _ _ _ _ _ _ _ _ _ is (heads_one q action.IfHead es e refl (reads d) ps p xs at at owner os l)
head_leads (raw.counted {at = at} {x = x} q es gs {e = e} {g = g} d c is) = λ ps p xs owner os l.
    leads_along _ _ _ _ _ _ _ _ _ _ _ is (behind_name x _ _ _ _ _ _ _ _ _ _ _ _
    (heads_two q action.ForHead es gs e g refl (reads d) (reads c) ps p xs at x owner os l))
head_leads (raw.looped {at = at} q es {e = e} d is) = λ ps p xs owner os l.
    leads_along _ _ _ _ _ _ _ _ _ _ _ is (heads_one q action.WhileHead es e refl (reads d) ps p xs at at owner os l)

-- BLOCKS

-- Reading these events adds the nodes of the block.
pub record AddsBlock (es : List Event) (b : RawBlock) (ps : List RawParam) (p : RawParam) (xs : List RawNode) (os : List ℕ) (l : ℕ) : Type 0 where
  pub last : ℕ
  pub is : run (mk ps p xs os l) es ≡ mk ps p (xs ++ block_nodes (top os) (length xs) b) os last

abbrev pub ReadsBlock : List Event → RawBlock → Type 0
ReadsBlock es b = (ps : List RawParam) (p : RawParam) (xs : List RawNode) (os : List ℕ) (l : ℕ) → AddsBlock es b ps p xs os l

-- the nodes of a block whose owner is the last of the nodes before these
abbrev inner_nodes : List RawNode → List RawNode → RawBlock → List RawNode
inner_nodes xs ys b = block_nodes (Some (length xs)) (length xs + (1 + length ys)) b

inner_block : (o : ℕ) (bs : List Event) (b : RawBlock) → ReadsBlock bs b → (ps : List RawParam) (p : RawParam) (xs : List RawNode) (n : RawNode)
    (ys : List RawNode) (os : List ℕ) (l : ℕ) →
    (k : ℕ) × (run (mk ps p (xs ++ n ∷ ys) (length xs ∷ os) l) (on action.OpenBlock o ∷ bs)
    ≡ mk ps p (xs ++ (record n { inside = length ys - n.heads } ∷ (ys ++ inner_nodes xs ys b))) (length xs ∷ os) k)
inner_block o bs b h ps p xs n ys os l =
    let n' : RawNode = record n { inside = length ys - n.heads } in
    let r = h ps p (xs ++ n' ∷ ys) (length xs ∷ os) l in (
      r.last,
      ap (λ s. run s bs) (change_seam part.Block o ps p xs n ys os l)
          ∙ r.is
          ∙ ap (λ k. mk ps p ((xs ++ n' ∷ ys) ++ block_nodes (Some (length xs)) k b) (length xs ∷ os) r.last) (length-more xs n' ys)
          ∙ ap (λ zs. mk ps p zs (length xs ∷ os) r.last) (append_assoc xs (n' ∷ ys) (inner_nodes xs ys b)),
    )

node_is : (f : RawForm) (at name : ℕ) (owner : Option ℕ) (a a' h h' i i' : ℕ) → a ≡ a' → h ≡ h' → i ≡ i' → (zs : List RawNode) →
    record { form = f; at = at; name = name; owner = owner; before = 0; after = a; heads = h; inside = i } ∷ zs
    ≡ record { form = f; at = at; name = name; owner = owner; before = 0; after = a'; heads = h'; inside = i' } ∷ zs
node_is f at name owner a a' h h' i i' e g j zs =
    ap (λ (k : ℕ). record { form = f; at = at; name = name; owner = owner; before = 0; after = k; heads = h; inside = i } ∷ zs) e
    ∙ ap (λ (k : ℕ). record { form = f; at = at; name = name; owner = owner; before = 0; after = a'; heads = k; inside = i } ∷ zs) g
    ∙ ap (λ (k : ℕ). record { form = f; at = at; name = name; owner = owner; before = 0; after = a'; heads = h'; inside = k } ∷ zs) j

-- the statements behind a statement
goes_on : (rest : List Event) (more : RawBlock) → ReadsBlock rest more → (ps : List RawParam) (p : RawParam) (xs : List RawNode) (n : RawNode)
    (ys : List RawNode) (k : ℕ) (os : List ℕ) (l : ℕ) → length ys ≡ k →
    (j : ℕ) × (run (mk ps p (xs ++ n ∷ ys) os l) rest ≡ mk ps p (xs ++ (n ∷ (ys ++ block_nodes (top os) (length xs + (1 + k)) more))) os j)
goes_on rest more h ps p xs n ys k os l size =
    let r = h ps p (xs ++ n ∷ ys) os l in (
      r.last,
      r.is
          ∙ ap (λ j. mk ps p ((xs ++ n ∷ ys) ++ block_nodes (top os) j more) os r.last) (length-more xs n ys)
          ∙ ap (λ j. mk ps p ((xs ++ n ∷ ys) ++ block_nodes (top os) (length xs + (1 + j)) more) os r.last) size
          ∙ ap (λ zs. mk ps p zs os r.last) (append_assoc xs (n ∷ ys) (block_nodes (top os) (length xs + (1 + k)) more)),
    )

simple_block : (at name : ℕ) (f : RawForm) (parts : List RawExpr) (es rest : List Event) (more : RawBlock) → SpellsSimple es f name parts
    → ReadsBlock rest more →
    ReadsBlock (on action.StartStatement at ∷ es ++ rest) (Simple f at name parts more)
simple_block at name f parts es rest more d h ps p xs os l =
    let a = simple_leads d ps p xs at (top os) os l in
    let g = goes_on rest more h ps p xs (statement_node f at name (top os) (parts_size parts) 0 0) (parts_nodes parts) (parts_size parts) os a.last
    (length-parts parts) in
    record {
      last = g.0;
      is = run-append (mk ps p (xs ++ blank at at (top os) 0 ∷ []) (length xs ∷ os) l) es rest
          ∙ ap (λ s. run s rest) a.is
          ∙ g.1;
    }

nested_block : (at name o c q : ℕ) (f : RawForm) (end : Action) (parts : List RawExpr) (hs bs rest : List Event) (inner more : RawBlock)
    → SpellsHead hs end f at name parts → ReadsBlock bs inner → ReadsBlock rest more →
    ReadsBlock (on action.StartStatement at ∷ hs ++ on action.OpenBlock o ∷ bs ++ on action.CloseBlock c ∷ on end q ∷ rest) (Nested f at name parts inner more)
nested_block at name o c q f end parts hs bs rest inner more d h i ps p xs os l =
    let s = mk ps p (xs ++ blank at at (top os) 0 ∷ []) (length xs ∷ os) l in
    let P = parts_nodes parts in
    let n : RawNode = headed at name (top os) (parts_size parts) in
    let n' : RawNode = record n { inside = length P - parts_size parts } in
    let a = head_leads d ps p xs (top os) os l in
    let b = inner_block o bs inner h ps p xs n P os a.last in
    let I' = inner_nodes xs P inner in
    let I = block_nodes (Some (length xs)) (length xs + (1 + parts_size parts)) inner in
    let same : I' ≡ I = ap (λ k. block_nodes (Some (length xs)) (length xs + (1 + k)) inner) (length-parts parts) in
    let after : length (P ++ I) ≡ parts_size parts + (block_size inner + 0) =
    omega (arith, length-append P I, length-parts parts, length-block (Some (length xs)) (length xs + (1 + parts_size parts)) inner) in
    let inside : length (P ++ I) - parts_size parts ≡ block_size inner =
    omega (arith, length-append P I, length-parts parts, length-block (Some (length xs)) (length xs + (1 + parts_size parts)) inner) in
    let sum : length (P ++ I) ≡ parts_size parts + block_size inner = omega (arith, after) in
    let node = statement_node f at name (top os) (parts_size parts) (block_size inner) 0 in
    let g = goes_on rest more i ps p xs node (P ++ I) (parts_size parts + block_size inner) os b.0 sum in
    let B = block_nodes (top os) (length xs + (1 + parts_size parts + block_size inner)) more in
    let one : length xs + (1 + (parts_size parts + block_size inner)) ≡ length xs + (1 + parts_size parts + block_size inner) = omega arith in
    record {
      last = g.0;
      is = run-append s (hs ++ on action.OpenBlock o ∷ bs) (on action.CloseBlock c ∷ on end q ∷ rest)
          ∙ ap (λ t. run t (on action.CloseBlock c ∷ on end q ∷ rest)) (
          run-append s hs (on action.OpenBlock o ∷ bs)
          ∙ ap (λ t. run t (on action.OpenBlock o ∷ bs)) a.is
          ∙ b.1
          ∙ ap (λ zs. mk ps p (xs ++ (n' ∷ (P ++ zs))) (length xs ∷ os) b.0) same)
          ∙ ap (λ t. run (with_part t q (mk ps p (xs ++ (n' ∷ (P ++ I))) (length xs ∷ os) b.0)) rest) (head_end d)
          ∙ ap (λ t. run t rest) (
          change_seam (part.Nests f) q ps p xs n' (P ++ I) os b.0
          ∙ ap (λ zs. mk ps p (xs ++ zs) os b.0) (node_is f at name (top os) _ _ _ _ _ _ after refl inside (P ++ I)))
          ∙ g.1
          ∙ ap (λ k. mk ps p (xs ++ (node ∷ ((P ++ I) ++ block_nodes (top os) k more))) os g.0) one
          ∙ ap (λ zs. mk ps p (xs ++ (node ∷ zs)) os g.0) (append_assoc P I B);
    }

branched_block : (at h o c o' c' q : ℕ) (e : RawExpr) (es bs bs' rest : List Event) (first second more : RawBlock) → Reads es e → ReadsBlock bs first
    → ReadsBlock bs' second → ReadsBlock rest more →
    ReadsBlock (on action.StartStatement at ∷ es ++ on action.IfHead h ∷ on action.OpenBlock o ∷ bs ++ on action.CloseBlock c ∷ on action.OpenBlock o' ∷ bs'
    ++ on action.CloseBlock c' ∷ on action.IfElseStatement q ∷ rest)
    (Branched at e first second more)
branched_block at h o c o' c' q e es bs bs' rest first second more d i j r ps p xs os l =
    let s = mk ps p (xs ++ blank at at (top os) 0 ∷ []) (length xs ∷ os) l in
    let E = expr_nodes e in
    let k = length (xs ++ blank at at (top os) 0 ∷ []) in
    let n : RawNode = headed at at (top os) (length E) in
    let n1 : RawNode = record n { inside = length E - length E } in
    let a = inner_block o bs first i ps p xs n E os k in
    let F' = inner_nodes xs E first in
    let F = block_nodes (Some (length xs)) (length xs + (1 + expr_size e)) first in
    let sameF : F' ≡ F = ap (λ k. block_nodes (Some (length xs)) (length xs + (1 + k)) first) (length-expr e) in
    let sizeF : length F ≡ block_size first = length-block (Some (length xs)) (length xs + (1 + expr_size e)) first in
    let sizeE : length E ≡ expr_size e = length-expr e in
    let b = inner_block o' bs' second j ps p xs n1 (E ++ F) os a.0 in
    let n2 : RawNode = record n1 { inside = length (E ++ F) - length E } in
    let S' = inner_nodes xs (E ++ F) second in
    let S = block_nodes (Some (length xs)) (length xs + (1 + expr_size e + block_size first)) second in
    let placeS : length xs + (1 + length (E ++ F)) ≡ length xs + (1 + expr_size e + block_size first) = omega (arith, length-append E F, sizeE, sizeF) in
    let sameS : S' ≡ S = ap (λ k. block_nodes (Some (length xs)) k second) placeS in
    let sizeS : length S ≡ block_size second = length-block (Some (length xs)) (length xs + (1 + expr_size e + block_size first)) second in
    let after : length ((E ++ F) ++ S) ≡ expr_size e + (block_size first + block_size second) =
    omega (arith, length-append (E ++ F) S, length-append E F, sizeE, sizeF, sizeS) in
    let inside : length (E ++ F) - length E ≡ block_size first = omega (arith, length-append E F, sizeE, sizeF) in
    let node = statement_node form.IfElse at at (top os) (expr_size e) (block_size first) (block_size second) in
    let g = goes_on rest more r ps p xs node ((E ++ F) ++ S) (expr_size e + (block_size first + block_size second)) os b.0 after in
    let one : length xs + (1 + (expr_size e + (block_size first + block_size second))) ≡ length xs + (1 + expr_size e + block_size first + block_size second) =
    omega arith in
    let B = block_nodes (top os) (length xs + (1 + expr_size e + block_size first + block_size second)) more in
    let to_first = on action.IfHead h ∷ on action.OpenBlock o ∷ bs in
    let to_second = on action.CloseBlock c ∷ on action.OpenBlock o' ∷ bs' in
    let to_end = on action.CloseBlock c' ∷ on action.IfElseStatement q ∷ rest in
    record {
      last = g.0;
      is = run-append s ((es ++ to_first) ++ to_second) to_end
          ∙ ap (λ t. run t to_end) (
          run-append s (es ++ to_first) to_second
          ∙ ap (λ t. run t to_second) (
          one_part es e d ps p xs (blank at at (top os) 0) os l to_first
          ∙ ap (λ t. run t (on action.OpenBlock o ∷ bs)) (change_seam part.Heads h ps p xs (blank at at (top os) 0) E os k)
          ∙ a.1
          ∙ ap (λ zs. mk ps p (xs ++ (n1 ∷ (E ++ zs))) (length xs ∷ os) a.0) sameF)
          ∙ b.1
          ∙ ap (λ zs. mk ps p (xs ++ (n2 ∷ ((E ++ F) ++ zs))) (length xs ∷ os) b.0) sameS)
          ∙ ap (λ t. run t rest) (
          change_seam part.Branches q ps p xs n2 ((E ++ F) ++ S) os b.0
          ∙ ap (λ zs. mk ps p (xs ++ zs) os b.0) (node_is form.IfElse at at (top os) _ _ _ _ _ _ after sizeE inside ((E ++ F) ++ S)))
          ∙ g.1
          ∙ ap (λ k. mk ps p (xs ++ (node ∷ (((E ++ F) ++ S) ++ block_nodes (top os) k more))) os g.0) one
          ∙ ap (λ zs. mk ps p (xs ++ (node ∷ zs)) os g.0) (append_assoc (E ++ F) S B ∙ append_assoc E F (S ++ B));
    }

block_along : (es events : List Event) (b : RawBlock) → events ≡ es → ReadsBlock es b → ReadsBlock events b
block_along es events b is h ps p xs os l = let r = h ps p xs os l in record { last = r.last; is = ap (run (mk ps p xs os l)) is ∙ r.is }

no_nodes : (ps : List RawParam) (p : RawParam) (xs : List RawNode) (os : List ℕ) (l : ℕ) → mk ps p xs os l ≡ mk ps p (xs ++ []) os l
no_nodes ps p xs os l = ap (λ zs. mk ps p zs os l) (sym (append-nil xs))

pub reads_block : {es : List Event} {b : RawBlock} → SpellsBlock es b → ReadsBlock es b
reads_block (raw.nothing is) = block_along _ _ Nothing is (λ ps p xs os l. record { last = l; is = no_nodes ps p xs os l })
reads_block (raw.simple {at = at} {name = name} {f = f} {parts = parts} es rest {more = more} d r is) =
    block_along _ _ (Simple f at name parts more) is (simple_block at name f parts es rest more d (reads_block r))
reads_block (raw.nested {at = at} {name = name} o c q {f = f} {end = end} {parts = parts} hs bs rest {inner = inner} {more = more} d b r is) =
    block_along _ _ (Nested f at name parts inner more) is (nested_block at name o c q f end parts hs bs rest inner more d (reads_block b) (reads_block r))
reads_block (raw.branched {at = at} h o c o' c' q {e = e} es bs bs' rest {first = first} {second = second} {more = more} d b b' r is) =
    block_along _ _ (Branched at e first second more) is (branched_block at h o c o' c' q e es bs bs' rest first second more (reads d) (reads_block b)
    (reads_block b') (reads_block r))
