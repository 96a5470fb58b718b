-- Which streams are open at a node: those of the `begin` blocks that it stands in.
use Rattle.std.proofs.Common.{ℕ, ◌≡◌, ◌≤◌, ◌<◌, ◌+◌, Bool, true, false, List, [], ◌∷◌, ◌++◌, length, take, Option, Some, slice_get, leb, ltb, refl, ap, sym, ◌∙◌, arith}
use Rattle.std.specs.Prelude.{◌&&◌, ◌||◌}
use Rattle.std.proofs.lemmas.List.{take_more, length-take}
use Rattle.std.proofs.lemmas.Option.{slice_get_within, get_or_from_slice_get}
use Rattle.std.proofs.lemmas.Bool.Decides.{nat_tests}
use Rattle.frame_ast.specs.Lists.{member}
use Rattle.kernel_raw.specs.declared.raw.RawNode.{RawNode}
use Rattle.kernel_raw.specs.declared.raw.RawKernel.{RawKernel}
use Rattle.kernel_raw.specs.Raw.{RawExpr, Leaf, One, Two, Infix, RawBlock, Nothing, Simple, Nested, Branched, expr_size, parts_size, block_size}
use Rattle.kernel_raw.specs.RawTexts.{text_at}
use Rattle.kernel_code.specs.Scopes.{parameter, is_begin, is_inside, is_number, begun_among, is_begun}
use Rattle.kernel_code.specs.Known.{is_block}
use Rattle.kernel_code.specs.Places.{StandsExpr, StandsParts, StandsBlock}
use Rattle.kernel_code.proofs.Passing.{begun_among-push}

-- The nodes before node p tell of each node from s on before e in the blocks of which streams it stands: the open ones.
pub record AreOpen (raw : RawKernel) (p s e : ℕ) (opened : List ℕ) : Type 0 where
  pub tell : (x j : ℕ) → s ≤ j → j < e → begun_among raw x j 0 (take p raw.nodes.items) ≡ member x opened

pub none-open : (raw : RawKernel) (e : ℕ) → AreOpen raw 0 0 e []
none-open raw e = record { tell = λ x j h l. refl }

-- fewer nodes are told of
pub open-within : (raw : RawKernel) (p p' s s' e e' : ℕ) (opened : List ℕ) → p ≡ p' → s ≤ s' → e' ≤ e → AreOpen raw p s e opened → AreOpen raw p' s' e' opened
open-within raw p p' s s' e e' opened q h l o =
    record { tell = λ x j a b. ap (λ n. begun_among raw x j 0 (take n raw.nodes.items)) (sym q) ∙ o.tell x j (omega arith) (omega arith) }

pub is-open : (raw : RawKernel) (i e : ℕ) (opened : List ℕ) (x : ℕ) → i < e → AreOpen raw i i e opened → is_begun raw i x ≡ member x opened
is-open raw i e opened x h o = o.tell x i (omega arith) h

-- ONE NODE

one-more : (raw : RawKernel) (i : ℕ) (node : RawNode) (x j : ℕ) → slice_get raw.nodes.items i ≡ Some node →
    begun_among raw x j 0 (take (i + 1) raw.nodes.items) ≡ (begun_among raw x j 0 (take i raw.nodes.items) || is_block raw x j i node)
one-more raw i node x j s =
    let lt = slice_get_within raw.nodes.items i node s in
    let len : 0 + length (take i raw.nodes.items) ≡ i = omega (arith, length-take i raw.nodes.items) in
    ap (begun_among raw x j 0) (take_more raw.nodes.items i node lt ∙ ap (λ n. take i raw.nodes.items ++ n ∷ [])
    (get_or_from_slice_get raw.nodes.items i node node s))
    ∙ begun_among-push raw x j 0 (take i raw.nodes.items) node
    ∙ ap (λ n. begun_among raw x j 0 (take i raw.nodes.items) || is_block raw x j n node) len

or-false : (b c : Bool) → c ≡ false → (b || c) ≡ b
or-false true c h = refl
or-false false c h = h

or-swap : (b c d : Bool) → c ≡ d → (b || c) ≡ (d || b)
or-swap true c true h = refl
or-swap false c true h = h
or-swap b c false h = or-false b c h

outside : (b c : Bool) (j i h k : ℕ) → i + 1 + h + k ≤ j → (b && ((leb (i + 1 + h) j && ltb j (i + 1 + h + k)) && c)) ≡ false
outside b c j i h k l = grind (arith, nat_tests)

-- a node tells nothing of those behind its block
pub open-behind : (raw : RawKernel) (i s e : ℕ) (node : RawNode) (opened : List ℕ) → slice_get raw.nodes.items i ≡ Some node
    → i + 1 + node.heads + node.inside ≤ s →
    AreOpen raw i s e opened → AreOpen raw (i + 1) s e opened
open-behind raw i s e node opened at h o = record {
  tell = λ x j a b.
      one-more raw i node x j at
      ∙ or-false _ _ (outside (is_begin node.form) (is_number x (parameter raw (text_at raw node.name))) j i node.heads node.inside (omega arith))
      ∙ o.tell x j a b;
}

-- a node that is no `begin` tells nothing
pub open-other : (raw : RawKernel) (i s e : ℕ) (node : RawNode) (opened : List ℕ) → slice_get raw.nodes.items i ≡ Some node → is_begin node.form ≡ false →
    AreOpen raw i s e opened → AreOpen raw (i + 1) s e opened
open-other raw i s e node opened at h o = record {
  tell = λ x j a b.
      one-more raw i node x j at
      ∙ or-false _ _ (ap (λ z. z && (is_inside j i node && is_number x (parameter raw (text_at raw node.name)))) h)
      ∙ o.tell x j a b;
}

inside : (c : Bool) (j i h k : ℕ) → i + 1 + h ≤ j → j < i + 1 + h + k → ((leb (i + 1 + h) j && ltb j (i + 1 + h + k)) && c) ≡ c
inside c j i h k l m = grind (arith, nat_tests)

-- a `begin` opens its stream for the nodes of its block
pub open-begun : (raw : RawKernel) (i s e : ℕ) (node : RawNode) (stream : ℕ) (opened : List ℕ) → slice_get raw.nodes.items i ≡ Some node
    → is_begin node.form ≡ true →
    parameter raw (text_at raw node.name) ≡ Some stream → i + 1 + node.heads ≤ s → e ≤ i + 1 + node.heads + node.inside →
    AreOpen raw i s e opened → AreOpen raw (i + 1) s e (stream ∷ opened)
open-begun raw i s e node stream opened at h p l m o = record {
  tell = λ x j a b.
      one-more raw i node x j at
      ∙ ap (λ z. z || is_block raw x j i node) (o.tell x j a b)
      ∙ or-swap (member x opened) _ _ (
      ap (λ z. z && (is_inside j i node && is_number x (parameter raw (text_at raw node.name)))) h
      ∙ inside (is_number x (parameter raw (text_at raw node.name))) j i node.heads node.inside (omega arith) (omega arith)
      ∙ ap (is_number x) p);
}

-- MANY NODES

pub open-expr : (raw : RawKernel) (i s e : ℕ) (x : RawExpr) (opened : List ℕ) → StandsExpr raw.nodes.items i x → i + expr_size x ≤ s →
    AreOpen raw i s e opened → AreOpen raw (i + expr_size x) s e opened
open-expr raw i s e (Leaf f at name) opened st h o = open-behind raw i s e _ opened st (omega arith) o
open-expr raw i s e (One f at name x) opened st h o =
    let a = open-behind raw i s e _ opened st.0 (omega arith) o in
    let b = open-expr raw (i + 1) s e x opened st.1 (omega arith) a in
    open-within raw _ _ s s e e opened (omega arith) (omega arith) (omega arith) b
open-expr raw i s e (Two f at name x y) opened st h o =
    let a = open-behind raw i s e _ opened st.0 (omega arith) o in
    let b = open-expr raw (i + 1) s e x opened st.1 (omega arith) a in
    let b' = open-within raw _ (i + (1 + expr_size x)) s s e e opened (omega arith) (omega arith) (omega arith) b in
    let c = open-expr raw (i + (1 + expr_size x)) s e y opened st.2 (omega arith) b' in
    open-within raw _ _ s s e e opened (omega arith) (omega arith) (omega arith) c
open-expr raw i s e (Infix at x y) opened st h o =
    let a = open-expr raw i s e x opened st.0 (omega arith) o in
    let b = open-behind raw (i + expr_size x) s e _ opened st.1 (omega arith) a in
    let b' = open-within raw _ (i + (expr_size x + 1)) s s e e opened (omega arith) (omega arith) (omega arith) b in
    let c = open-expr raw (i + (expr_size x + 1)) s e y opened st.2 (omega arith) b' in
    open-within raw _ _ s s e e opened (omega arith) (omega arith) (omega arith) c

pub open-parts : (raw : RawKernel) (i s e : ℕ) (parts : List RawExpr) (opened : List ℕ) → StandsParts raw.nodes.items i parts → i + parts_size parts ≤ s →
    AreOpen raw i s e opened → AreOpen raw (i + parts_size parts) s e opened
open-parts raw i s e [] opened st h o = open-within raw _ _ s s e e opened (omega arith) (omega arith) (omega arith) o
open-parts raw i s e (x ∷ parts) opened st h o =
    let a = open-expr raw i s e x opened st.0 (omega arith) o in
    let b = open-parts raw (i + expr_size x) s e parts opened st.1 (omega arith) a in
    open-within raw _ _ s s e e opened (omega arith) (omega arith) (omega arith) b

-- no block is open behind the statements that it stands in
pub open-block : (raw : RawKernel) (owner : Option ℕ) (i s e : ℕ) (b : RawBlock) (opened : List ℕ) → StandsBlock raw.nodes.items owner i b
    → i + block_size b ≤ s →
    AreOpen raw i s e opened → AreOpen raw (i + block_size b) s e opened
open-block raw owner i s e Nothing opened st h o = open-within raw _ _ s s e e opened (omega arith) (omega arith) (omega arith) o
open-block raw owner i s e (Simple f at name parts more) opened st h o =
    let a = open-behind raw i s e _ opened st.0 (omega arith) o in
    let b = open-parts raw (i + 1) s e parts opened st.1 (omega arith) a in
    let b' = open-within raw _ (i + (1 + parts_size parts)) s s e e opened (omega arith) (omega arith) (omega arith) b in
    let c = open-block raw owner (i + (1 + parts_size parts)) s e more opened st.2 (omega arith) b' in
    open-within raw _ _ s s e e opened (omega arith) (omega arith) (omega arith) c
open-block raw owner i s e (Nested f at name parts inner more) opened st h o =
    let a = open-behind raw i s e _ opened st.0 (omega arith) o in
    let b = open-parts raw (i + 1) s e parts opened st.1 (omega arith) a in
    let b' = open-within raw _ (i + (1 + parts_size parts)) s s e e opened (omega arith) (omega arith) (omega arith) b in
    let c = open-block raw (Some i) (i + (1 + parts_size parts)) s e inner opened st.2 (omega arith) b' in
    let c' = open-within raw _ (i + (1 + parts_size parts + block_size inner)) s s e e opened (omega arith) (omega arith) (omega arith) c in
    let d = open-block raw owner (i + (1 + parts_size parts + block_size inner)) s e more opened st.3 (omega arith) c' in
    open-within raw _ _ s s e e opened (omega arith) (omega arith) (omega arith) d
open-block raw owner i s e (Branched at x first second more) opened st h o =
    let a = open-behind raw i s e _ opened st.0 (omega arith) o in
    let b = open-expr raw (i + 1) s e x opened st.1 (omega arith) a in
    let b' = open-within raw _ (i + (1 + expr_size x)) s s e e opened (omega arith) (omega arith) (omega arith) b in
    let c = open-block raw (Some i) (i + (1 + expr_size x)) s e first opened st.2 (omega arith) b' in
    let c' = open-within raw _ (i + (1 + expr_size x + block_size first)) s s e e opened (omega arith) (omega arith) (omega arith) c in
    let d = open-block raw (Some i) (i + (1 + expr_size x + block_size first)) s e second opened st.3 (omega arith) c' in
    let d' = open-within raw _ (i + (1 + expr_size x + block_size first + block_size second)) s s e e opened (omega arith) (omega arith) (omega arith) d in
    let z = open-block raw owner (i + (1 + expr_size x + block_size first + block_size second)) s e more opened st.4 (omega arith) d' in
    open-within raw _ _ s s e e opened (omega arith) (omega arith) (omega arith) z
