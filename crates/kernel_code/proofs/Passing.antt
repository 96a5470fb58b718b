-- One node more.
use Rattle.std.proofs.Common.{ℕ, ◌≡◌, ◌<◌, ◌≤◌, ◌+◌, Bool, true, false, List, [], ◌∷◌, ◌++◌, length, get_or, take, drop, Option, Some, None, append-nil, append_assoc, refl, ap, sym, subst, ◌∙◌, add-one, arith, drop-cons}
use Rattle.std.specs.Prelude.{◌||◌}
use Rattle.std.proofs.lemmas.List.{take_more, length_push, drop_all, length-take}
use Rattle.kernel_raw.specs.declared.raw.RawNode.{RawNode}
use Rattle.kernel_raw.specs.declared.raw.RawKernel.{RawKernel}
use Rattle.kernel_code.specs.declared.check.names.Local.{Local}
use Rattle.kernel_code.specs.declared.check.names.Meaning.{Meaning}
use Rattle.kernel_code.specs.declared.check.names.Named.{Named}
use Rattle.kernel_code.specs.declared.check.streams.StreamBlock.{StreamBlock}
use Rattle.kernel_raw.specs.declared.fault.StaticFault.{StaticFault}
use Rattle.std.specs.Option.{option_or}
use Rattle.kernel_code.specs.Scopes.{declares, local_of, local_if, locals_from, locals_before, begun_among}
use Rattle.kernel_code.specs.StaticFaults.{node_fault, nodes_fault}
use Rattle.kernel_code.specs.Known.{stands_in, is_block, answer_named, name_stored, meaning_at, meanings_from, IsKnown}
use Rattle.kernel_code.proofs.NoFaults.{few-locals, node_fault-none}

later : (d : ℕ) {A : Type 0} (x : A) (xs : List A) → d + 1 + length xs ≡ d + length (x ∷ xs)
later d x xs = omega arith

pub locals_from-push : (nodes : List RawNode) (d : ℕ) (xs : List RawNode) (y : RawNode) →
    locals_from nodes d (xs ++ y ∷ []) ≡ locals_from nodes d xs ++ local_if (declares y.form) (local_of nodes (d + length xs) y)
locals_from-push nodes d [] y = append-nil _ ∙ ap (λ n. local_if (declares y.form) (local_of nodes n y)) (omega arith)
locals_from-push nodes d (x ∷ xs) y =
    ap (λ ls. local_if (declares x.form) (local_of nodes d x) ++ ls) (locals_from-push nodes (d + 1) xs y)
    ∙ sym (append_assoc (local_if (declares x.form) (local_of nodes d x)) (locals_from nodes (d + 1) xs)
    (local_if (declares y.form) (local_of nodes (d + 1 + length xs) y)))
    ∙ ap (λ n. (local_if (declares x.form) (local_of nodes d x) ++ locals_from nodes (d + 1) xs) ++ local_if (declares y.form) (local_of nodes n y))
    (later d x xs)

pub meanings_from-push : (raw : RawKernel) (d : ℕ) (xs : List RawNode) (y : RawNode) →
    meanings_from raw d (xs ++ y ∷ []) ≡ meanings_from raw d xs ++ meaning_at raw (d + length xs) y ∷ []
meanings_from-push raw d [] y = ap (λ n. meaning_at raw n y ∷ []) (omega arith)
meanings_from-push raw d (x ∷ xs) y =
    ap (λ ms. meaning_at raw d x ∷ ms) (meanings_from-push raw (d + 1) xs y)
    ∙ ap (λ n. meaning_at raw d x ∷ (meanings_from raw (d + 1) xs ++ meaning_at raw n y ∷ [])) (later d x xs)

or-false : (b : Bool) → (b || false) ≡ b
or-false true = refl
or-false false = refl

or_assoc : (a b c : Bool) → (a || b || c) ≡ (a || (b || c))
or_assoc true b c = refl
or_assoc false b c = refl

pub begun_among-push : (raw : RawKernel) (x i d : ℕ) (xs : List RawNode) (y : RawNode) →
    begun_among raw x i d (xs ++ y ∷ []) ≡ (begun_among raw x i d xs || is_block raw x i (d + length xs) y)
begun_among-push raw x i d [] y = or-false _ ∙ ap (λ n. is_block raw x i n y) (omega arith)
begun_among-push raw x i d (z ∷ xs) y =
    ap (λ b. is_block raw x i d z || b) (begun_among-push raw x i (d + 1) xs y)
    ∙ sym (or_assoc (is_block raw x i d z) (begun_among raw x i (d + 1) xs) (is_block raw x i (d + 1 + length xs) y))
    ∙ ap (λ n. is_block raw x i d z || begun_among raw x i (d + 1) xs || is_block raw x i n y) (later d z xs)

pub known_start : (raw : RawKernel) → IsKnown raw 0 [] [] []
known_start raw = record { locals = refl; few = omega arith; blocks = record { tell = λ x j h. refl }; meanings = refl }

-- a node without a fault leaves room for its local
pub room : (raw : RawKernel) (i : ℕ) (node : RawNode) (b : Bool) (locals : List Local) (l : Local) → declares node.form ≡ b → node_fault raw i node ≡ None →
    locals ≡ locals_before raw.nodes.items i → length locals ≤ 64 → length (locals ++ local_if b l) ≤ 64
room raw i node true locals l d none is few =
    let h = few-locals raw i node.name node.form (node_fault-none raw i node none).name d in
    omega (arith, length_push locals l, ap length is)
room raw i node false locals l d none is few = omega (arith, ap length (append-nil locals))

pub known_next : (raw : RawKernel) (i : ℕ) (node d : RawNode) (locals locals' : List Local) (blocks blocks' : List StreamBlock)
    (meanings meanings' : List Meaning) →
    IsKnown raw i locals blocks meanings → i < length raw.nodes.items → node ≡ get_or raw.nodes.items i d → node_fault raw i node ≡ None →
    locals' ≡ locals ++ local_if (declares node.form) (local_of raw.nodes.items i node) →
    ((x j : ℕ) → stands_in x j blocks' ≡ (stands_in x j blocks || is_block raw x j i node)) →
    meanings' ≡ meanings ++ meaning_at raw i node ∷ [] →
    IsKnown raw (i + 1) locals' blocks' meanings'
known_next raw i node d locals locals' blocks blocks' meanings meanings' known h is none ls bs ms =
    let more : take (i + 1) raw.nodes.items ≡ take i raw.nodes.items ++ node ∷ [] = take_more raw.nodes.items i d h
    ∙ ap (λ n. take i raw.nodes.items ++ n ∷ []) (sym is) in
    let len : 0 + length (take i raw.nodes.items) ≡ i = omega (arith, length-take i raw.nodes.items) in
    record {
      locals =
          ls ∙ ap (λ xs. xs ++ local_if (declares node.form) (local_of raw.nodes.items i node)) known.locals
          ∙ ap (λ n. locals_before raw.nodes.items i ++ local_if (declares node.form) (local_of raw.nodes.items n node)) (sym len)
          ∙ sym (locals_from-push raw.nodes.items 0 (take i raw.nodes.items) node)
          ∙ ap (locals_from raw.nodes.items 0) (sym more);
      few = subst (λ xs. length xs ≤ 64) (sym ls) (room raw i node (declares node.form) locals _ refl none known.locals known.few);
      blocks = record {
        tell = λ x j below.
            ap (begun_among raw x j 0) more
            ∙ begun_among-push raw x j 0 (take i raw.nodes.items) node
            ∙ ap (λ n. begun_among raw x j 0 (take i raw.nodes.items) || is_block raw x j n node) len
            ∙ ap (λ b. b || is_block raw x j i node) (known.blocks.tell x j (omega arith))
            ∙ sym (bs x j);
      };
      meanings =
          ms ∙ ap (λ xs. xs ++ meaning_at raw i node ∷ []) known.meanings
          ∙ ap (λ n. meanings_from raw 0 (take i raw.nodes.items) ++ meaning_at raw n node ∷ []) (sym len)
          ∙ sym (meanings_from-push raw 0 (take i raw.nodes.items) node)
          ∙ ap (meanings_from raw 0) (sym more);
    }

pub nodes_fault-step : (raw : RawKernel) (i : ℕ) (nodes : List RawNode) (d : RawNode) → i < length nodes →
    nodes_fault raw i (drop i nodes) ≡ option_or (node_fault raw i (get_or nodes i d)) (nodes_fault raw (i + 1) (drop (i + 1) nodes))
nodes_fault-step raw i nodes d h = ap (nodes_fault raw i) (drop-cons nodes i d h) ∙ rw (add-one i) refl

pub nodes_fault-passed : (raw : RawKernel) (i : ℕ) (nodes : List RawNode) (node d : RawNode) → i < length nodes → node ≡ get_or nodes i d
    → node_fault raw i node ≡ None →
    nodes_fault raw i (drop i nodes) ≡ nodes_fault raw (i + 1) (drop (i + 1) nodes)
nodes_fault-passed raw i nodes node d h is none =
    nodes_fault-step raw i nodes d h ∙ ap (λ n. option_or (node_fault raw i n) (nodes_fault raw (i + 1) (drop (i + 1) nodes))) (sym is)
    ∙ ap (λ f. option_or f (nodes_fault raw (i + 1) (drop (i + 1) nodes))) none

pub nodes_fault-found : (raw : RawKernel) (i : ℕ) (nodes : List RawNode) (node d : RawNode) (f : StaticFault) → i < length nodes → node ≡ get_or nodes i d
    → node_fault raw i node ≡ Some f →
    nodes_fault raw i (drop i nodes) ≡ Some f
nodes_fault-found raw i nodes node d f h is some =
    nodes_fault-step raw i nodes d h ∙ ap (λ n. option_or (node_fault raw i n) (nodes_fault raw (i + 1) (drop (i + 1) nodes))) (sym is)
    ∙ ap (λ f. option_or f (nodes_fault raw (i + 1) (drop (i + 1) nodes))) some

pub nodes_fault-end : (raw : RawKernel) (i : ℕ) (nodes : List RawNode) → length nodes ≤ i → nodes_fault raw i (drop i nodes) ≡ None
nodes_fault-end raw i nodes h = ap (nodes_fault raw i) (drop_all i nodes h)

pub meaning_pushed : (raw : RawKernel) (i : ℕ) (node : RawNode) (a n : Option Named) (xs ys : List Meaning) →
    a ≡ answer_named raw i node → n ≡ name_stored raw i node → ys ≡ xs ++ (record { answer = a; name = n }) ∷ [] → ys ≡ xs ++ meaning_at raw i node ∷ []
meaning_pushed raw i node a n xs ys p q e =
    e ∙ ap (λ z. xs ++ (record { answer = z; name = n }) ∷ []) p ∙ ap (λ z. xs ++ (record { answer = answer_named raw i node; name = z }) ∷ []) q

pub known_closed : (raw : RawKernel) (i : ℕ) (locals : List Local) (blocks blocks' : List StreamBlock) (meanings : List Meaning) →
    IsKnown raw i locals blocks meanings → ((x j : ℕ) → i ≤ j → stands_in x j blocks' ≡ stands_in x j blocks) → IsKnown raw i locals blocks' meanings
known_closed raw i locals blocks blocks' meanings known same = record {
  locals = known.locals;
  few = known.few;
  blocks = record { tell = λ x j h. known.blocks.tell x j h ∙ sym (same x j h) };
  meanings = known.meanings;
}
