-- Expressions from the nodes that stand behind each other.
use Rattle.std.proofs.Common.{ℕ, zero, suc, ◌≡◌, ◌≤◌, ◌<◌, ◌+◌, ◌-◌, Bool, true, false, not, IsTrue, List, [], ◌∷◌, Option, Some, None, slice_get, length, cond, refl, ap, sym, subst, ◌∙◌, arith}
use Rattle.frame_ast.specs.Lists.{some_if}
use Rattle.frame_ast.specs.declared.kernel.FaultKind.TheVariants.{Syntax}
use Rattle.frame_ast.specs.declared.kernel.Expr.{Expr}
use Rattle.frame_ast.specs.declared.kernel.Expr.TheVariants.{Item'}
use Rattle.kernel_raw.specs.declared.raw.RawForm.{RawForm}
use Rattle.kernel_raw.specs.declared.raw.RawForm.TheVariants as form
use Rattle.kernel_raw.specs.declared.raw.RawNode.{RawNode}
use Rattle.kernel_raw.specs.declared.raw.RawKernel.{RawKernel}
use Rattle.kernel_code.specs.declared.check.names.Named.{Named}
use Rattle.kernel_code.specs.declared.check.names.Meaning.{Meaning}
use Rattle.kernel_raw.specs.RawTexts.{kind_at}
use Rattle.kernel_raw.specs.Raw.{RawExpr, Leaf, One, Two, Infix, expr_size, expr_node}
use Rattle.kernel_code.specs.StaticFaults.{node_fault, nodes_fault, token_fault, name_fault}
use Rattle.kernel_code.specs.Scopes.{declares, as_local, local_of, locals_before}
use Rattle.kernel_code.specs.Known.{IsFaultless, has_name, meaning_if, name_named, name_stored, number_named, meaning_at, meanings_from}
use Rattle.kernel_code.specs.Trees.{ExprOf, item, joint_of, joins}
use Rattle.kernel_code.specs.Places.{is_leaf, is_one, is_two, IsFormed, StandsExpr, Ends, IsHere, IsAtomHere, Begins, whole, further, IsBuilt, IsResolved, leaf_of, IsOneOf, IsJoint}
use Rattle.kernel_code.proofs.NoFaults.{option_or-none, node_fault-none}
use Rattle.kernel_code.proofs.Built.Leaves.{leaf_is, one_is, joint_is, is_parameter}

-- NODES

shift : (raw : RawKernel) (d k : ℕ) (node : RawNode) → node_fault raw (d + 1 + k) node ≡ None → node_fault raw (d + suc k) node ≡ None
shift raw d k node h = let e : d + 1 + k ≡ d + suc k = omega arith in subst (λ n. node_fault raw n node ≡ None) e h

pub none_at : (raw : RawKernel) (d k : ℕ) (nodes : List RawNode) (node : RawNode) → nodes_fault raw d nodes ≡ None → slice_get nodes k ≡ Some node
    → node_fault raw (d + k) node ≡ None
none_at raw d k [] node h s = cc
none_at raw d zero (n ∷ more) node h s =
    let e : n ≡ node = cc in
    let z : d ≡ d + 0 = omega arith in
    subst (λ i. node_fault raw i node ≡ None) z (subst (λ m. node_fault raw d m ≡ None) e (option_or-none _ _ h).0)
none_at raw d (suc k) (n ∷ more) node h s = shift raw d k node (none_at raw (d + 1) k more node (option_or-none _ _ h).1 s)

shift_meaning : (raw : RawKernel) (d k : ℕ) (node : RawNode) (ms : List Meaning) → slice_get ms k ≡ Some (meaning_at raw (d + 1 + k) node)
    → slice_get ms k ≡ Some (meaning_at raw (d + suc k) node)
shift_meaning raw d k node ms h = let e : d + 1 + k ≡ d + suc k = omega arith in subst (λ n. slice_get ms k ≡ Some (meaning_at raw n node)) e h

meaning_there : (raw : RawKernel) (d k : ℕ) (nodes : List RawNode) (node : RawNode) → slice_get nodes k ≡ Some node
    → slice_get (meanings_from raw d nodes) k ≡ Some (meaning_at raw (d + k) node)
meaning_there raw d k [] node s = cc
meaning_there raw d zero (n ∷ more) node s =
    let e : n ≡ node = cc in
    let z : d ≡ d + 0 = omega arith in
    ap (λ m. Some (meaning_at raw d m)) e ∙ ap (λ i. Some (meaning_at raw i node)) z
meaning_there raw d (suc k) (n ∷ more) node s = shift_meaning raw d k node _ (meaning_there raw (d + 1) k more node s)

zero_plus : (i : ℕ) → 0 + i ≡ i
zero_plus i = omega arith

pub faultless_at : (raw : RawKernel) (ms : List Meaning) (i : ℕ) (node : RawNode) → IsResolved raw ms → slice_get raw.nodes.items i ≡ Some node
    → IsFaultless raw i node
faultless_at raw ms i node r s = node_fault-none raw i node (subst (λ n. node_fault raw n node ≡ None) (zero_plus i)
    (none_at raw 0 i raw.nodes.items node r.faultless s))

pub meaning_is : (raw : RawKernel) (ms : List Meaning) (i : ℕ) (node : RawNode) → IsResolved raw ms → slice_get raw.nodes.items i ≡ Some node
    → slice_get ms i ≡ Some (meaning_at raw i node)
meaning_is raw ms i node r s =
    ap (λ xs. slice_get xs i) r.meanings ∙ meaning_there raw 0 i raw.nodes.items node s ∙ ap (λ n. Some (meaning_at raw n node)) (zero_plus i)

-- SIZES AND ENDS

pub size-pos : (e : RawExpr) → 1 ≤ expr_size e
size-pos (Leaf f at name) = omega arith
size-pos (One f at name e) = omega arith
size-pos (Two f at name e g) = omega arith
size-pos (Infix at e g) = omega arith

pub Ends-at : (nodes : List RawNode) (j j' k k' : ℕ) → j ≡ j' → k' ≤ k → Ends nodes j k → Ends nodes j' k'
Ends-at nodes j j' k k' e le h node s b =
    let s' : slice_get nodes j ≡ Some node = ap (slice_get nodes) e ∙ s in
    let lt = h node s' b in
    omega arith

-- the first node of an expression is no operator between two sides
pub first-other : (nodes : List RawNode) (i : ℕ) (e : RawExpr) → IsFormed e → StandsExpr nodes i e → (node : RawNode) → slice_get nodes i ≡ Some node
    → node.form ≡ form.Binary → ⊥
first-other nodes i (Leaf form.Binary at name) f st node s b = cc
first-other nodes i (Leaf f' at name) f st node s b = let e : node ≡ expr_node f' at name 0 0 = cc in cc
first-other nodes i (One form.Binary at name e) f st node s b = let h = f.0 in cc
first-other nodes i (One f' at name e) f st node s b = let e' : node ≡ expr_node f' at name 0 (expr_size e) = let q = st.0 in cc in cc
first-other nodes i (Two form.Binary at name e g) f st node s b = let h = f.0 in cc
first-other nodes i (Two f' at name e g) f st node s b = let e' : node ≡ expr_node f' at name 0 (expr_size e + expr_size g) = let q = st.0 in cc in cc
first-other nodes i (Infix at e g) f st node s b = first-other nodes i e f.0 st.0 node s b

-- ATOMS

one-leaf : (f : RawForm) → IsTrue (is_one f) → IsTrue (is_leaf f) → ⊥
one-leaf form.Element o l = cc
one-leaf form.Has o l = cc
one-leaf form.Count o l = cc
one-leaf form.Unary o l = cc
one-leaf f o l = cc

two-leaf : (f : RawForm) → f ≡ form.Item → IsTrue (is_leaf f) → ⊥
two-leaf form.Item e l = cc
two-leaf f e l = cc

two-one : (f : RawForm) → f ≡ form.Item → IsTrue (is_one f) → ⊥
two-one form.Item e l = cc
two-one f e l = cc

two-is : (f : RawForm) → IsTrue (is_two f) → f ≡ form.Item
two-is form.Item t = refl
two-is f t = cc

one-is : (f : RawForm) → IsTrue (is_one f) → (f ≡ form.Element → ⊥) → (f ≡ form.Has → ⊥) → (f ≡ form.Count → ⊥) → (f ≡ form.Unary → ⊥) → ⊥
one-is form.Element t a b c d = a refl
one-is form.Has t a b c d = b refl
one-is form.Count t a b c d = c refl
one-is form.Unary t a b c d = d refl
one-is f t a b c d = cc

stored : (raw : RawKernel) (i : ℕ) (node : RawNode) → declares node.form ≡ false → name_stored raw i node ≡ name_named raw i node
stored raw i node d =
    ap (λ b. cond b (Some (as_local (local_of raw.nodes.items i node) (length (locals_before raw.nodes.items i)))) (name_named raw i node)) d

leaf-declares : (f : RawForm) → IsTrue (is_leaf f) → declares f ≡ false
leaf-declares form.Var t = cc
leaf-declares form.For t = cc
leaf-declares f t = refl

one-declares : (f : RawForm) → IsTrue (is_one f) → declares f ≡ false
one-declares form.Var t = cc
one-declares form.For t = cc
one-declares f t = refl

pub atom_leaf : (raw : RawKernel) (i : ℕ) (node : RawNode) (named : Option Named) (x : Expr) → slice_get raw.nodes.items i ≡ Some node
    → IsFaultless raw i node →
    named ≡ name_stored raw i node → (node.form ≡ form.Element → ⊥) → (node.form ≡ form.Has → ⊥) → (node.form ≡ form.Count → ⊥) → (node.form ≡ form.Unary → ⊥)
    → (node.form ≡ form.Item → ⊥) →
    x ≡ leaf_of raw node.form node.at named → (e : RawExpr) → IsAtomHere raw i e → IsBuilt raw i e x (i + 1)
atom_leaf raw i node named x s ok n a b c d two is (Leaf f at name) here =
    let same : node ≡ expr_node f at name 0 0 = let q = here.stands in cc in
    record {
      next = refl;
      is =
          rw is (subst (λ m. ExprOf raw i (Leaf f at name) (leaf_of raw m.form m.at named)) (sym same)
          (leaf_is raw i at name f named here.formed
          (subst (λ m. token_fault raw i m.at m.form ≡ None) same ok.token)
          (subst (λ m. name_fault raw i m.name m.form ≡ None) same ok.name)
          (subst (λ m. named ≡ name_stored raw i m) same n ∙ stored raw i (expr_node f at name 0 0) (leaf-declares f here.formed))));
    }
atom_leaf raw i node named x s ok n a b c d two is (One f at name e) here =
    let same : node ≡ expr_node f at name 0 (expr_size e) = let q = here.stands.0 in cc in
    let form_is : node.form ≡ f = ap (λ m. m.form) same in
    absurd (one-is f here.formed.0 (λ h. a (form_is ∙ h)) (λ h. b (form_is ∙ h)) (λ h. c (form_is ∙ h)) (λ h. d (form_is ∙ h)))
atom_leaf raw i node named x s ok n a b c d two is (Two f at name e g) here =
    let same : node ≡ expr_node f at name 0 (expr_size e + expr_size g) = let q = here.stands.0 in cc in
    absurd (two (ap (λ m. m.form) same ∙ two-is f here.formed.0))
atom_leaf raw i node named x s ok n a b c d two is (Infix at e g) here = absurd (let q = here.atom in cc)

pub atom_one : (raw : RawKernel) (i : ℕ) (node : RawNode) (named : Option Named) (y x : Expr) (next : ℕ) → slice_get raw.nodes.items i ≡ Some node
    → IsFaultless raw i node →
    named ≡ name_stored raw i node → IsTrue (is_one node.form) → ((e : RawExpr) → IsHere raw (i + 1) e → IsBuilt raw (i + 1) e y next) →
    IsOneOf raw node.form node.at named y x → (e : RawExpr) → IsAtomHere raw i e → IsBuilt raw i e x next
atom_one raw i node named y x next s ok n o inner is (Leaf f at name) here =
    let same : node ≡ expr_node f at name 0 0 = let q = here.stands in cc in
    absurd (one-leaf f (subst (λ m. IsTrue (is_one m.form)) same o) here.formed)
atom_one raw i node named y x next s ok n o inner is (One f at name e) here =
    let same : node ≡ expr_node f at name 0 (expr_size e) = let q = here.stands.0 in cc in
    let built = inner e (record {
      formed = here.formed.1;
      stands = here.stands.1;
      ends = Ends-at raw.nodes.items _ _ _ _ (omega arith) (omega arith) here.ends;
    }) in
    record {
      next = let h = built.next in omega arith;
      is =
          one_is raw i at name f named e y x here.formed.0
          (subst (λ m. name_fault raw i m.name m.form ≡ None) same ok.name)
          (subst (λ m. named ≡ name_stored raw i m) same n ∙ stored raw i (expr_node f at name 0 (expr_size e)) (one-declares f here.formed.0))
          built.is
          (subst (λ m. IsOneOf raw m.form m.at named y x) same is);
    }
atom_one raw i node named y x next s ok n o inner is (Two f at name e g) here =
    let same : node ≡ expr_node f at name 0 (expr_size e + expr_size g) = let q = here.stands.0 in cc in
    absurd (two-one f (two-is f here.formed.0) (subst (λ m. IsTrue (is_one m.form)) same o))
atom_one raw i node named y x next s ok n o inner is (Infix at e g) here = absurd (let q = here.atom in cc)

IsHere-at : (raw : RawKernel) (i j : ℕ) (e : RawExpr) → i ≡ j → IsHere raw i e → IsHere raw j e
IsHere-at raw i j e same h = subst (λ n. IsHere raw n e) same h

pub atom_two : (raw : RawKernel) (i : ℕ) (node : RawNode) (named : Option Named) (y z x : Expr) {p : _} (middle next : ℕ)
    → slice_get raw.nodes.items i ≡ Some node → IsFaultless raw i node →
    named ≡ name_stored raw i node → node.form ≡ form.Item → ((e : RawExpr) → IsHere raw (i + 1) e → IsBuilt raw (i + 1) e y middle)
    → ((e : RawExpr) → IsHere raw middle e → IsBuilt raw middle e z next) →
    x ≡ Item' (number_named named) p y z → (e : RawExpr) → IsAtomHere raw i e → IsBuilt raw i e x next
atom_two raw i node named y z x middle next s ok n o first second is (Leaf f at name) here =
    let same : node ≡ expr_node f at name 0 0 = let q = here.stands in cc in
    absurd (two-leaf f (sym (ap (λ m. m.form) same) ∙ o) here.formed)
atom_two raw i node named y z x middle next s ok n o first second is (One f at name e) here =
    let same : node ≡ expr_node f at name 0 (expr_size e) = let q = here.stands.0 in cc in
    absurd (two-one f (sym (ap (λ m. m.form) same) ∙ o) here.formed.0)
atom_two raw i node named y z x {p} middle next s ok n o first second is (Two f at name e g) here =
    let same : node ≡ expr_node f at name 0 (expr_size e + expr_size g) = let q = here.stands.0 in cc in
    let is_item : f ≡ form.Item = two-is f here.formed.0 in
    let at_g : i + (1 + expr_size e) ≡ i + 1 + expr_size e = omega arith in
    let one = first e (record {
      formed = here.formed.1;
      stands = here.stands.1;
      ends = λ m t b. absurd (first-other raw.nodes.items (i + (1 + expr_size e)) g here.formed.2 here.stands.2 m (ap (slice_get raw.nodes.items) at_g ∙ t) b);
    }) in
    let there : i + (1 + expr_size e) ≡ middle = let h = one.next in omega arith in
    let g_here : IsHere raw (i + (1 + expr_size e)) g = record {
      formed = here.formed.2;
      stands = here.stands.2;
      ends = Ends-at raw.nodes.items _ _ _ _ (omega arith) (omega arith) here.ends;
    } in
    let other = second g (IsHere-at raw _ _ g there g_here) in
    record {
      next = let h = other.next in omega arith;
      is =
          subst (λ k. ExprOf raw i (Two k at name e g) x) (sym is_item)
          (item (number_named named)
          (is_parameter raw i name form.Item named refl
          (subst (λ k. name_fault raw i name k ≡ None) is_item (subst (λ m. name_fault raw i m.name m.form ≡ None) same ok.name))
          (subst (λ k. named ≡ meaning_if (has_name k) raw i name) is_item
          (subst (λ m. named ≡ name_stored raw i m) same n ∙ stored raw i (expr_node f at name 0 (expr_size e + expr_size g)) (ap declares is_item))))
          one.is (subst (λ k. ExprOf raw k g z) (sym there) other.is) is);
    }
atom_two raw i node named y z x middle next s ok n o first second is (Infix at e g) here = absurd (let q = here.atom in cc)

pub atom_item : (raw : RawKernel) (i : ℕ) (node : RawNode) (named : Option Named) (y z : Expr) {p : _} (m : ℕ) (sides : Expr × Expr) (middle next : ℕ)
    → slice_get raw.nodes.items i ≡ Some node → IsFaultless raw i node →
    named ≡ name_stored raw i node → node.form ≡ form.Item → ((e : RawExpr) → IsHere raw (i + 1) e → IsBuilt raw (i + 1) e y middle)
    → ((e : RawExpr) → IsHere raw middle e → IsBuilt raw middle e z next) →
    m ≡ number_named named → sides ≡ (y, z) → (e : RawExpr) → IsAtomHere raw i e → IsBuilt raw i e (Item' m p sides.0 sides.1) next
atom_item raw i node named y z {p} m sides middle next s ok n o first second a b =
    atom_two raw i node named y z (Item' m p sides.0 sides.1) middle next s ok n o first second
    (ap (λ k. Item' k p sides.0 sides.1) a ∙ ap (λ (w : Expr × Expr). Item' (number_named named) p w.0 w.1) b)

-- CHAINS OF OPERATORS

extend : {l e : RawExpr} (at : ℕ) (g : RawExpr) → Begins l e → Begins l (Infix at e g)
extend at g whole = further at g whole
extend at g (further a h r) = further a h (extend at g r)

pub stands-left : {l e : RawExpr} (nodes : List RawNode) (i : ℕ) → Begins l e → StandsExpr nodes i e → StandsExpr nodes i l
stands-left nodes i whole st = st
stands-left nodes i (further at g r) st = (stands-left nodes i r st).0

pub formed-left : {l e : RawExpr} → Begins l e → IsFormed e → IsFormed l
formed-left whole f = f
formed-left (further at g r) f = (formed-left r f).0

operator-ends : (nodes : List RawNode) (j at a b k : ℕ) → slice_get nodes j ≡ Some (expr_node form.Binary at at a b) → k < a → Ends nodes j k
operator-ends nodes j at a b k s lt node t h =
    let same : node ≡ expr_node form.Binary at at a b = cc in
    let before : node.before ≡ a = ap (λ m. m.before) same in
    omega arith

pub ends-left : {l e : RawExpr} (raw : RawKernel) (i : ℕ) → Begins l e → IsHere raw i e → Ends raw.nodes.items (i + expr_size l) (expr_size l - 1)
ends-left raw i whole here = Ends-at raw.nodes.items _ _ _ _ refl (omega arith) here.ends
ends-left {l = l} raw i (further at g r) here =
    operator-ends raw.nodes.items _ at (expr_size l) (expr_size g) _ (stands-left raw.nodes.items i r here.stands).1 (let h = size-pos l in omega arith)

pub record First (raw : RawKernel) (i : ℕ) (e : RawExpr) : Type 0 where
  pub left : RawExpr
  pub begins : Begins left e
  pub here : IsAtomHere raw i left

first_of : (raw : RawKernel) (i : ℕ) (e : RawExpr) → IsFormed e → StandsExpr raw.nodes.items i e → Ends raw.nodes.items (i + expr_size e) (expr_size e - 1)
    → First raw i e
first_of raw i (Leaf f at name) fo st en = record { left = Leaf f at name; begins = whole; here = record { atom = refl; formed = fo; stands = st; ends = en } }
first_of raw i (One f at name e) fo st en = record {
  left = One f at name e;
  begins = whole;
  here = record { atom = refl; formed = fo; stands = st; ends = en };
}
first_of raw i (Two f at name e g) fo st en = record {
  left = Two f at name e g;
  begins = whole;
  here = record { atom = refl; formed = fo; stands = st; ends = en };
}
first_of raw i (Infix at e g) fo st en =
    let inner = first_of raw i e fo.0 st.0 (operator-ends raw.nodes.items _ at (expr_size e) (expr_size g) _ st.1 (let h = size-pos e in omega arith)) in
    record { left = inner.left; begins = extend at g inner.begins; here = inner.here }

pub first_part : (raw : RawKernel) (i : ℕ) (e : RawExpr) → IsHere raw i e → First raw i e
first_part raw i e here = first_of raw i e here.formed here.stands (Ends-at raw.nodes.items _ _ _ _ refl (omega arith) here.ends)

pub chain_stop : {l e : RawExpr} (raw : RawKernel) (i : ℕ) (x : Expr) (next : ℕ) →
    ((node : RawNode) → slice_get raw.nodes.items next ≡ Some node → node.form ≡ form.Binary → node.before ≡ next - i → ⊥) →
    Begins l e → IsHere raw i e → IsBuilt raw i l x next → IsBuilt raw i e x next
chain_stop raw i x next stops whole here built = built
chain_stop {l = l} raw i x next stops (further at g r) here built =
    let there = (stands-left raw.nodes.items i r here.stands).1 in
    let place : next ≡ i + expr_size l = built.next in
    absurd (stops (expr_node form.Binary at at (expr_size l) (expr_size g)) (ap (slice_get raw.nodes.items) place ∙ there) refl (omega arith))

holds : (b : Bool) → some_if (not b) Syntax ≡ None → IsTrue b
holds true h = refl
holds false h = cc

-- a token without a fault between two sides joins them
pub joins_at : (raw : RawKernel) (i at : ℕ) (f : RawForm) → token_fault raw i at f ≡ None → f ≡ form.Binary → IsTrue (joins (kind_at raw at))
joins_at raw i at f none is = holds (joins (kind_at raw at)) (subst (λ g. token_fault raw i at g ≡ None) is none)

pub chain_more : {l e : RawExpr} (raw : RawKernel) (i : ℕ) (node : RawNode) (x y both last : Expr) (next after end : ℕ) →
    slice_get raw.nodes.items next ≡ Some node → node.form ≡ form.Binary → node.before ≡ next - i →
    ((g : RawExpr) → IsHere raw (next + 1) g → IsBuilt raw (next + 1) g y after) →
    IsJoint (joint_of (kind_at raw node.at)) x y both →
    ((u : RawExpr) → Begins u e → IsBuilt raw i u both after → IsBuilt raw i e last end) →
    Begins l e → IsHere raw i e → IsBuilt raw i l x next → IsBuilt raw i e last end
chain_more {l = l} raw i node x y both last next after end s b k right joint rest whole here built =
    let place : i + expr_size l ≡ next = sym built.next in
    let more = here.ends node (ap (slice_get raw.nodes.items) place ∙ s) b in
    absurd (omega arith)
chain_more {l = l} raw i node x y both last next after end s b k right joint rest (further at g r) here built =
    let stands = stands-left raw.nodes.items i r here.stands in
    let formed = formed-left r here.formed in
    let place : next ≡ i + expr_size l = built.next in
    let there : slice_get raw.nodes.items next ≡ Some (expr_node form.Binary at at (expr_size l) (expr_size g)) = ap (slice_get raw.nodes.items) place
    ∙ stands.1 in
    let at_is : node.at ≡ at = ap (λ m. m.at) (let e : node ≡ expr_node form.Binary at at (expr_size l) (expr_size g) = cc in e) in
    let behind : i + (expr_size l + 1) ≡ next + 1 = omega arith in
    let is = right g (IsHere-at raw _ _ g behind (record {
      formed = formed.1;
      stands = stands.2;
      ends = Ends-at raw.nodes.items _ _ _ _ (omega arith) (omega arith) (ends-left raw i r here);
    })) in
    rest (Infix at l g) r (record {
      next = let h = is.next in omega arith;
      is = joint_is raw i at l g x y both _ refl built.is (subst (λ n. ExprOf raw n g y) (sym behind) is.is)
          (subst (λ a. IsJoint (joint_of (kind_at raw a)) x y both) at_is joint);
    })
