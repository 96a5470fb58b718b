-- What a raw kernel's own form and the absence of faults in its head give.
use Rattle.std.proofs.Common.{ℕ, zero, suc, ◌≡◌, ◌≤◌, ◌<◌, ◌+◌, false, List, [], ◌∷◌, ◌++◌, Option, Some, None, slice_get, length, inl, inr, refl, ap, subst, ◌∙◌, append_assoc, arith}
use Rattle.std.specs.Prelude.{◌||◌, nat_le, nat_lt, ◌==◌}
use Rattle.std.proofs.lemmas.List.{length-append, length_push}
use Rattle.std.proofs.lemmas.Option.{slice_get_within}
use Rattle.std.proofs.lemmas.Bool.{cases_lt}
use Rattle.std.proofs.lemmas.Bool.Decides.{nat_tests}
use Rattle.frame_grammar.specs.declared.symbols.Event.{Event}
use Rattle.frame_grammar.specs.declared.symbols.Action.{Action}
use Rattle.kernel_raw.specs.declared.raw.RawForm.{RawForm}
use Rattle.kernel_raw.specs.declared.raw.RawForm.TheVariants as form
use Rattle.kernel_raw.specs.declared.raw.RawNode.{RawNode}
use Rattle.kernel_raw.specs.declared.raw.RawParam.{RawParam}
use Rattle.kernel_raw.specs.declared.raw.RawKernel.{RawKernel}
use Rattle.kernel_raw.specs.Raw.{RawExpr, Leaf, One, Two, Infix, RawBlock, Nothing, Simple, Nested, Branched, expr_size, parts_size, block_size, expr_node, expr_nodes, parts_nodes, block_nodes}
use Rattle.kernel_raw.specs.RawEvents.{SpellsExpr, number, index, name, size, element, has, count, item, unary, between, SpellsSimple, var, set_name, set_place, set_try_add, set_remove, add_item, add_pair, remove, clear, write, SpellsHead, begun, tested, counted, looped, SpellsBlock, nothing, simple, nested, branched, SpellsRaw}
use Rattle.kernel_raw.specs.RawTexts.{value_at}
use Rattle.kernel_code.specs.StaticFaults.{params_fault, param_fault, param_kind_fault}
use Rattle.kernel_code.specs.Trees.{width_at}
use Rattle.kernel_code.specs.Places.{IsFormed, FitsSimple, FitsNested, IsFormedBlock, StandsExpr, StandsParts, StandsBlock, IsBlockHere}
use Rattle.kernel_code.proofs.NoFaults.{option_or-none, fault_at-none, lowest-none, some_if-none}

-- FORMS

pub formed : {events : List Event} {e : RawExpr} → SpellsExpr events e → IsFormed e
formed (number q h) = refl
formed (index q h) = refl
formed (name q h) = refl
formed (size q h) = refl
formed (element q es s h) = (refl, formed s)
formed (has q es s h) = (refl, formed s)
formed (count q es s h) = (refl, formed s)
formed (item q es gs s t h) = (refl, formed s, formed t)
formed (unary q es s h) = (refl, formed s)
formed (between q es gs s t h) = (formed s, formed t)

fits-simple : {events : List Event} {f : RawForm} {x : ℕ} {parts : List RawExpr} → SpellsSimple events f x parts → FitsSimple f parts
fits-simple (var q es s h) = (refl, formed s)
fits-simple (set_name q es s h) = (refl, formed s)
fits-simple (set_place q es gs s t h) = (refl, formed s, formed t)
fits-simple (set_try_add y q es gs s t h) = (refl, formed s, formed t)
fits-simple (set_remove y q es s h) = (refl, formed s)
fits-simple (add_item q es s h) = (refl, formed s)
fits-simple (add_pair q es gs s t h) = (refl, formed s, formed t)
fits-simple (remove q es s h) = (refl, formed s)
fits-simple (clear q h) = refl
fits-simple (write q es s h) = (refl, formed s)

fits-head : {events : List Event} {end : Action} {f : RawForm} {at x : ℕ} {parts : List RawExpr} → SpellsHead events end f at x parts → FitsNested f parts
fits-head (begun q es s h) = (omega arith, omega arith, formed s)
fits-head (tested q es s h) = (omega arith, omega arith, formed s)
fits-head (counted q es gs s t h) = (refl, formed s, formed t)
fits-head (looped q es s h) = (omega arith, omega arith, formed s)

pub formed-block : {events : List Event} {b : RawBlock} → SpellsBlock events b → IsFormedBlock b
formed-block (nothing h) = tt
formed-block (simple es rest s more h) = (fits-simple s, formed-block more)
formed-block (nested o c q hs bs rest s inner more h) = (fits-head s, formed-block inner, formed-block more)
formed-block (branched h o c o' c' q es bs bs' rest s first second more k) = (formed s, formed-block first, formed-block second, formed-block more)

-- PLACES

-- these nodes stand from node i on
abbrev pub At : List RawNode → ℕ → List RawNode → Type 0
At nodes i [] = Unit {0}
At nodes i (n ∷ ns) = (slice_get nodes i ≡ Some n) × At nodes (i + 1) ns

At-at : (nodes : List RawNode) (i j : ℕ) (ns : List RawNode) → i ≡ j → At nodes i ns → At nodes j ns
At-at nodes i j ns e h = subst (λ k. At nodes k ns) e h

At-split : (nodes : List RawNode) (i : ℕ) (xs ys : List RawNode) → At nodes i (xs ++ ys) → At nodes i xs × At nodes (i + length xs) ys
At-split nodes i [] ys h = (tt, At-at nodes i _ ys (omega arith) h)
At-split nodes i (x ∷ xs) ys h = let both = At-split nodes (i + 1) xs ys h.1 in ((h.0, both.0), At-at nodes _ _ ys (omega arith) both.1)

slice-seam : (xs : List RawNode) (y : RawNode) (ys : List RawNode) → slice_get (xs ++ y ∷ ys) (length xs) ≡ Some y
slice-seam [] y ys = refl
slice-seam (x ∷ xs) y ys = slice-seam xs y ys

At-behind : (xs ys : List RawNode) → At (xs ++ ys) (length xs) ys
At-behind xs [] = tt
At-behind xs (y ∷ ys) = (
  slice-seam xs y ys,
  subst (λ zs. At zs (length xs + 1) ys) (append_assoc xs (y ∷ []) ys) (At-at _ _ _ ys (length_push xs y) (At-behind (xs ++ y ∷ []) ys)),
)

pub At-self : (nodes : List RawNode) → At nodes 0 nodes
At-self nodes = At-behind [] nodes

pub length-expr : (e : RawExpr) → length (expr_nodes e) ≡ expr_size e
length-expr (Leaf f a n) = refl
length-expr (One f a n e) = omega (arith, length-expr e)
length-expr (Two f a n e g) = omega (arith, length-append (expr_nodes e) (expr_nodes g), length-expr e, length-expr g)
length-expr (Infix a e g) = omega (
  arith,
  length-append (expr_nodes e) (expr_node form.Binary a a (expr_size e) (expr_size g) ∷ expr_nodes g),
  length-expr e,
  length-expr g,
)

pub length-parts : (parts : List RawExpr) → length (parts_nodes parts) ≡ parts_size parts
length-parts [] = refl
length-parts (e ∷ more) = omega (arith, length-append (expr_nodes e) (parts_nodes more), length-expr e, length-parts more)

pub length-block : (owner : Option ℕ) (n : ℕ) (b : RawBlock) → length (block_nodes owner n b) ≡ block_size b
length-block owner n Nothing = refl
length-block owner n (Simple f a x parts more) =
    omega (
      arith,
      length-append (parts_nodes parts) (block_nodes owner (n + (1 + parts_size parts)) more),
      length-parts parts,
      length-block owner
          (n + (1 + parts_size parts)) more,
    )
length-block owner n (Nested f a x parts inner more) =
    let rest = block_nodes owner (n + (1 + parts_size parts + block_size inner)) more in
    let in_ = block_nodes (Some n) (n + (1 + parts_size parts)) inner in
    omega (
      arith,
      length-append (parts_nodes parts) (in_ ++ rest),
      length-append in_ rest,
      length-parts parts,
      length-block (Some n)
          (n + (1 + parts_size parts)) inner,
      length-block owner (n + (1 + parts_size parts + block_size inner)) more,
    )
length-block owner n (Branched a e first second more) =
    let rest = block_nodes owner (n + (1 + expr_size e + block_size first + block_size second)) more in
    let two = block_nodes (Some n) (n + (1 + expr_size e + block_size first)) second in
    let one = block_nodes (Some n) (n + (1 + expr_size e)) first in
    omega (
      arith,
      length-append (expr_nodes e) (one ++ (two ++ rest)),
      length-append one (two ++ rest),
      length-append two rest,
      length-expr e,
      length-block
          (Some n) (n + (1 + expr_size e)) first,
      length-block (Some n) (n + (1 + expr_size e + block_size first)) second,
      length-block owner
          (n + (1 + expr_size e + block_size first + block_size second)) more,
    )

stands-expr : (nodes : List RawNode) (i : ℕ) (e : RawExpr) → At nodes i (expr_nodes e) → StandsExpr nodes i e
stands-expr nodes i (Leaf f a n) h = h.0
stands-expr nodes i (One f a n e) h = (h.0, stands-expr nodes (i + 1) e h.1)
stands-expr nodes i (Two f a n e g) h =
    let both = At-split nodes (i + 1) (expr_nodes e) (expr_nodes g) h.1 in
    (h.0, stands-expr nodes (i + 1) e both.0, stands-expr nodes _ g (At-at nodes _ _ _ (omega (arith, length-expr e)) both.1))
stands-expr nodes i (Infix a e g) h =
    let both = At-split nodes i (expr_nodes e) (expr_node form.Binary a a (expr_size e) (expr_size g) ∷ expr_nodes g) h in
    let place : i + length (expr_nodes e) ≡ i + expr_size e = ap (λ k. i + k) (length-expr e) in (
      stands-expr nodes i e both.0,
      subst (λ k. slice_get nodes k ≡ Some (expr_node form.Binary a a (expr_size e) (expr_size g))) place both.1.0,
      stands-expr nodes _ g (At-at nodes _ _ _ (omega (arith, length-expr e)) both.1.1),
    )

stands-parts : (nodes : List RawNode) (i : ℕ) (parts : List RawExpr) → At nodes i (parts_nodes parts) → StandsParts nodes i parts
stands-parts nodes i [] h = tt
stands-parts nodes i (e ∷ more) h =
    let both = At-split nodes i (expr_nodes e) (parts_nodes more) h in
    (stands-expr nodes i e both.0, stands-parts nodes (i + expr_size e) more (At-at nodes _ _ _ (ap (λ k. i + k) (length-expr e)) both.1))

pub stands-block : (nodes : List RawNode) (owner : Option ℕ) (i : ℕ) (b : RawBlock) → At nodes i (block_nodes owner i b) → StandsBlock nodes owner i b
stands-block nodes owner i Nothing h = tt
stands-block nodes owner i (Simple f a x parts more) h =
    let both = At-split nodes (i + 1) (parts_nodes parts) (block_nodes owner (i + (1 + parts_size parts)) more) h.1 in (
      h.0,
      stands-parts nodes (i + 1) parts both.0,
      stands-block nodes owner (i + (1 + parts_size parts)) more
          (At-at nodes _ _ _ (omega (arith, length-parts parts)) both.1),
    )
stands-block nodes owner i (Nested f a x parts inner more) h =
    let rest = block_nodes owner (i + (1 + parts_size parts + block_size inner)) more in
    let in_ = block_nodes (Some i) (i + (1 + parts_size parts)) inner in
    let both = At-split nodes (i + 1) (parts_nodes parts) (in_ ++ rest) h.1 in
    let two = At-split nodes _ in_ rest both.1 in (
      h.0,
      stands-parts nodes (i + 1) parts both.0,
      stands-block nodes (Some i) (i + (1 + parts_size parts)) inner (At-at nodes _ _ _ (omega (arith, length-parts parts)) two.0),
      stands-block nodes owner (i + (1 + parts_size parts + block_size inner)) more
          (At-at nodes _ _ _ (omega (arith, length-parts parts, length-block (Some i) (i + (1 + parts_size parts)) inner)) two.1),
    )
stands-block nodes owner i (Branched a e first second more) h =
    let rest = block_nodes owner (i + (1 + expr_size e + block_size first + block_size second)) more in
    let two = block_nodes (Some i) (i + (1 + expr_size e + block_size first)) second in
    let one = block_nodes (Some i) (i + (1 + expr_size e)) first in
    let s1 = At-split nodes (i + 1) (expr_nodes e) (one ++ (two ++ rest)) h.1 in
    let s2 = At-split nodes _ one (two ++ rest) s1.1 in
    let s3 = At-split nodes _ two rest s2.1 in (
      h.0,
      stands-expr nodes (i + 1) e s1.0,
      stands-block nodes (Some i) (i + (1 + expr_size e)) first (At-at nodes _ _ _ (omega (arith, length-expr e)) s2.0),
      stands-block nodes (Some i) (i + (1 + expr_size e + block_size first)) second
          (At-at nodes _ _ _ (omega (arith, length-expr e, length-block (Some i) (i + (1 + expr_size e)) first)) s3.0),
      stands-block nodes owner (i + (1 + expr_size e + block_size first + block_size second)) more
          (At-at nodes _ _ _ (omega (
            arith,
            length-expr e,
            length-block (Some i) (i + (1 + expr_size e)) first,
            length-block (Some i)
                (i + (1 + expr_size e + block_size first)) second,
          )) s3.1),
    )

-- the tree that events spell stands from the first node on
pub body-here : (events : List Event) (raw : RawKernel) (s : SpellsRaw events raw) → raw.nodes.items ≡ block_nodes None 0 s.body → IsBlockHere raw None 0 s.body
body-here events raw s all = record {
  formed = formed-block s.with_statements;
  stands = stands-block raw.nodes.items None 0 s.body (subst (λ ns. At raw.nodes.items 0 ns) all (At-self raw.nodes.items));
  after = λ node t b.
      let size : length raw.nodes.items ≡ block_size s.body = ap length all ∙ length-block None 0 s.body in
      let lt = slice_get_within raw.nodes.items _ node t in absurd (omega arith);
}

pub body-size : (events : List Event) (raw : RawKernel) (s : SpellsRaw events raw) → raw.nodes.items ≡ block_nodes None 0 s.body
    → length raw.nodes.items ≡ 0 + block_size s.body
body-size events raw s all = let size : length raw.nodes.items ≡ block_size s.body = ap length all ∙ length-block None 0 s.body in omega arith

-- PARAMETERS

shift : (raw : RawKernel) (d k : ℕ) (p : RawParam) → param_fault raw (d + 1 + k) p ≡ None → param_fault raw (d + suc k) p ≡ None
shift raw d k p h = let e : d + 1 + k ≡ d + suc k = omega arith in subst (λ n. param_fault raw n p ≡ None) e h

param-at : (raw : RawKernel) (d k : ℕ) (ps : List RawParam) (p : RawParam) → params_fault raw d ps ≡ None → slice_get ps k ≡ Some p
    → param_fault raw (d + k) p ≡ None
param-at raw d k [] p h s = cc
param-at raw d zero (q ∷ more) p h s =
    let e : q ≡ p = cc in
    let z : d ≡ d + 0 = omega arith in
    subst (λ i. param_fault raw i p ≡ None) z (subst (λ m. param_fault raw d m ≡ None) e (option_or-none _ _ h).0)
param-at raw d (suc k) (q ∷ more) p h s = shift raw d k p (param-at raw (d + 1) k more p (option_or-none _ _ h).1 s)

zero_plus : (i : ℕ) → 0 + i ≡ i
zero_plus i = omega arith

pub param-none : (raw : RawKernel) (k : ℕ) (p : RawParam) → params_fault raw 0 raw.params.items ≡ None → slice_get raw.params.items k ≡ Some p
    → param_fault raw k p ≡ None
param-none raw k p h s = subst (λ n. param_fault raw n p ≡ None) (zero_plus k) (param-at raw 0 k raw.params.items p h s)

below16 : (k : ℕ) → nat_le 16 k ≡ false → k < 16
below16 k h = grind (arith, nat_tests)

param-number : (raw : RawKernel) (k : ℕ) (p : RawParam) → params_fault raw 0 raw.params.items ≡ None → slice_get raw.params.items k ≡ Some p → k < 16
param-number raw k p h s =
    let none = fault_at-none _ _ (option_or-none _ _ (param-none raw k p h s)).0 in
    below16 k (some_if-none _ _ (lowest-none _ _ (lowest-none _ _ none).1).0)

has-at : (ps : List RawParam) (k : ℕ) → k < length ps → (p : RawParam) × (slice_get ps k ≡ Some p)
has-at [] k h = absurd (omega arith)
has-at (p ∷ ps) zero h = (p, refl)
has-at (p ∷ ps) (suc k) h = has-at ps k (omega arith)

too-many : (n : ℕ) → (16 < n → ⊥) → n ≤ 16
too-many n h = elim (cases_lt 16 n) [ inl w ↦ absurd (h w) | inr w ↦ w ]

pub few-params : (raw : RawKernel) → params_fault raw 0 raw.params.items ≡ None → length raw.params.items ≤ 16
few-params raw h =
    too-many (length raw.params.items) (λ w. let q = has-at raw.params.items 16 w in let lt = param-number raw 16 q.0 h q.1 in absurd (omega arith))

within-width : (n : ℕ) → (n == 0 || nat_lt 1024 n) ≡ false → (1 ≤ n) × (n ≤ 1024)
within-width n h = (grind (arith, nat_tests), grind (arith, nat_tests))

pub width-of : (raw : RawKernel) (p : RawParam) (w : Option ℕ) → param_kind_fault raw p w ≡ None → (1 ≤ width_at raw w) × (width_at raw w ≤ 1024)
width-of raw p None h = (omega arith, omega arith)
width-of raw p (Some at) h = within-width (value_at raw at) (some_if-none _ _ (fault_at-none _ _ (option_or-none _ _ h).1))

pub width-within : (raw : RawKernel) (k : ℕ) (p : RawParam) → params_fault raw 0 raw.params.items ≡ None → slice_get raw.params.items k ≡ Some p
    → (1 ≤ width_at raw p.width) × (width_at raw p.width ≤ 1024)
width-within raw k p h s = width-of raw p p.width (option_or-none _ _ (param-none raw k p h s)).1
