-- What the node of a statement without a fault makes.
use Rattle.std.proofs.Common.{ℕ, ◌≡◌, ◌≤◌, ◌+◌, true, false, IsTrue, List, [], ◌∷◌, Option, Some, None, slice_get, length, cond, refl, ap, sym, subst, ◌∙◌, arith}
use Rattle.frame_ast.specs.declared.kernel.ParamKind.{ParamKind}
use Rattle.frame_ast.specs.declared.kernel.ParamKind.TheVariants as kind
use Rattle.kernel_raw.specs.declared.raw.RawParam.{RawParam}
use Rattle.frame_ast.specs.declared.kernel.Expr.{Expr}
use Rattle.frame_ast.specs.declared.kernel.Stmt.{Stmt, out-Stmt}
use Rattle.frame_ast.specs.declared.kernel.Stmt.TheOpen.{Clear, Begin, If, For, While}
use Rattle.kernel_raw.specs.declared.raw.RawForm.{RawForm}
use Rattle.kernel_raw.specs.declared.raw.RawForm.TheVariants as form
use Rattle.kernel_raw.specs.declared.raw.RawNode.{RawNode}
use Rattle.kernel_raw.specs.declared.raw.RawKernel.{RawKernel}
use Rattle.kernel_code.specs.declared.check.names.Named.{Named}
use Rattle.kernel_code.specs.declared.check.names.Named.TheVariants.{Parameter, Variable, LoopVariable}
use Rattle.kernel_code.specs.declared.check.names.Meaning.{Meaning}
use Rattle.kernel_raw.specs.Raw.{RawExpr, RawBlock, Nothing, Simple, Nested, Branched, expr_size, parts_size, block_size, statement_node}
use Rattle.kernel_raw.specs.RawTexts.{text_at}
use Rattle.kernel_code.specs.Scopes.{meaning_of, declares, as_local, local_of, locals_before}
use Rattle.kernel_code.specs.StaticFaults.{lowest, length_fault, answer_kind_fault, param_answer_fault, answer_fault, use_fault}
use Rattle.kernel_code.specs.Known.{IsFaultless, has_name, meaning_if, name_named, number_named, meaning_at}
use Rattle.kernel_code.specs.Trees.{ExprOf, BlockOf, var, set_local, set_value, set_place, set_try_add, set_remove, add_item, add_pair, remove, clear, write, begun, tested, counted, looped, branched, IsParameter, IsVariable, Declares}
use Rattle.kernel_code.specs.Places.{StandsExpr, StandsBlock, group_of, FitsSimple, FitsNested, IsFormed, IsFormedBlock, NoOperator, IsHere, IsBuilt, IsBlockHere, has_first, IsFirst, set_of, statement_with_one, statement_with_two}
use Rattle.kernel_code.proofs.NoFaults.{lowest-none}
use Rattle.kernel_code.proofs.Built.Expressions.{first-other}
use Rattle.kernel_code.proofs.Built.Leaves.{is_parameter, takes_parameter}

-- GROUPS OF FORMS

simple-group : (f : RawForm) (parts : List RawExpr) → FitsSimple f parts → (1 ≤ group_of f) × (group_of f ≤ 3)
simple-group f [] h = (omega arith, omega arith)
simple-group f (e ∷ []) h = let z = h.0 in (omega arith, omega arith)
simple-group f (e ∷ g ∷ []) h = let z = h.0 in (omega arith, omega arith)
simple-group f (e ∷ g ∷ k ∷ more) h = absurd h

nested-group : (f : RawForm) (parts : List RawExpr) → FitsNested f parts → (4 ≤ group_of f) × (group_of f ≤ 7)
nested-group f [] h = absurd h
nested-group f (e ∷ []) h = let z = h.0 in let w = h.1 in (omega arith, omega arith)
nested-group f (e ∷ g ∷ []) h = let z = h.0 in (omega arith, omega arith)
nested-group f (e ∷ g ∷ k ∷ more) h = absurd h

-- the form of a block's first node
abbrev pub first_form : RawBlock → RawForm
first_form Nothing = form.Index
first_form (Simple f a n parts more) = f
first_form (Nested f a n parts inner more) = f
first_form (Branched a e first second more) = form.IfElse

pub form-is : (raw : RawKernel) (owner : Option ℕ) (at : ℕ) (node : RawNode) (b : RawBlock) → IsTrue (has_first b) → slice_get raw.nodes.items at ≡ Some node →
    StandsBlock raw.nodes.items owner at b → node.form ≡ first_form b
form-is raw owner at node Nothing h s st = cc
form-is raw owner at node (Simple f a n parts more) h s st =
    let e : node ≡ statement_node f a n owner (parts_size parts) 0 0 = let q = st.0 in cc in ap (λ m. m.form) e
form-is raw owner at node (Nested f a n parts inner more) h s st =
    let e : node ≡ statement_node f a n owner (parts_size parts) (block_size inner) 0 = let q = st.0 in cc in ap (λ m. m.form) e
form-is raw owner at node (Branched a e first second more) h s st =
    let same : node ≡ statement_node form.IfElse a a owner (expr_size e) (block_size first) (block_size second) = let q = st.0 in cc in ap (λ m. m.form) same

not-binary : (f : RawForm) → 1 ≤ group_of f → f ≡ form.Binary → ⊥
not-binary form.Binary h e = absurd (omega arith)
not-binary f h e = cc

-- the first node of a block, or what stands behind it, is no operator between two sides
pub block-first : (raw : RawKernel) (owner : Option ℕ) (i : ℕ) (b : RawBlock) → IsFormedBlock b → StandsBlock raw.nodes.items owner i b
    → NoOperator raw.nodes.items (i + block_size b) →
    NoOperator raw.nodes.items i
block-first raw owner i Nothing f st after node s b = let e : i ≡ i + 0 = omega arith in after node (subst (λ n. slice_get raw.nodes.items n ≡ Some node) e s) b
block-first raw owner i (Simple k a n parts more) f st after node s b =
    not-binary k (simple-group k parts f.0).0 (sym (form-is raw owner i node (Simple k a n parts more) refl s st) ∙ b)
block-first raw owner i (Nested k a n parts inner more) f st after node s b =
    not-binary k (let z = (nested-group k parts f.0).0 in omega arith) (sym (form-is raw owner i node (Nested k a n parts inner more) refl s st) ∙ b)
block-first raw owner i (Branched a e first second more) f st after node s b =
    let z : form.IfElse ≡ form.Binary = sym (form-is raw owner i node (Branched a e first second more) refl s st) ∙ b in cc

-- an expression before what is no operator
pub here-before : (raw : RawKernel) (i j : ℕ) (e : RawExpr) → IsFormed e → StandsExpr raw.nodes.items i e → i + expr_size e ≡ j → NoOperator raw.nodes.items j
    → IsHere raw i e
here-before raw i j e f st place quiet = record {
  formed = f;
  stands = st;
  ends = λ node s b. absurd (quiet node (subst (λ n. slice_get raw.nodes.items n ≡ Some node) place s) b);
}

-- NAMES OF STATEMENTS

pub name-param : (raw : RawKernel) (i : ℕ) (node : RawNode) (m : Meaning) → IsFaultless raw i node → m ≡ meaning_at raw i node
    → takes_parameter node.form ≡ true → declares node.form ≡ false → has_name node.form ≡ true →
    IsParameter raw i node.name (number_named m.name)
name-param raw i node m ok is t d h =
    let named : m.name ≡ name_named raw i node =
    ap (λ z. z.name) is ∙ ap (λ b. cond b (Some (as_local (local_of raw.nodes.items i node) (length (locals_before raw.nodes.items i))))
    (name_named raw i node)) d in
    is_parameter raw i node.name node.form m.name t ok.name (named ∙ ap (λ b. meaning_if b raw i node.name) h)

local-number : (l : _) (k : ℕ) → number_named (Some (as_local l k)) ≡ k
local-number l k = elim l.is_loop as (λ b. number_named (Some (cond b (LoopVariable k) (Variable k))) ≡ k) [ true ↦ refl | false ↦ refl ]

pub name-declares : (raw : RawKernel) (i : ℕ) (node : RawNode) (m : Meaning) → m ≡ meaning_at raw i node → declares node.form ≡ true
    → Declares raw i (number_named m.name)
name-declares raw i node m is d =
    let named : m.name ≡ Some (as_local (local_of raw.nodes.items i node) (length (locals_before raw.nodes.items i))) =
    ap (λ z. z.name) is ∙ ap (λ b. cond b (Some (as_local (local_of raw.nodes.items i node) (length (locals_before raw.nodes.items i))))
    (name_named raw i node)) d in
    ap number_named named ∙ local-number (local_of raw.nodes.items i node) (length (locals_before raw.nodes.items i))

kind-answers : (k : ParamKind) → answer_kind_fault k ≡ None → ⊥
kind-answers kind.Int h = cc
kind-answers k h = cc

param-answers : (p : Option RawParam) → param_answer_fault p ≡ None → ⊥
param-answers None h = cc
param-answers (Some p) h = kind-answers p.kind h

answer-cases : (raw : RawKernel) (m : Option Named) → answer_fault raw m ≡ None → m ≡ Some (Variable (number_named m))
answer-cases raw None h = cc
answer-cases raw (Some (Variable k)) h = refl
answer-cases raw (Some (LoopVariable k)) h = cc
answer-cases raw (Some (Parameter x)) h = absurd (param-answers (slice_get raw.params.items x) h)

pub answer-variable : (raw : RawKernel) (i at : ℕ) (m : Option Named) → m ≡ meaning_of raw i (text_at raw at)
    → lowest (answer_fault raw (meaning_of raw i (text_at raw at))) (length_fault (text_at raw at)) ≡ None →
    IsVariable raw i at (number_named m)
answer-variable raw i at m e h =
    let c = answer-cases raw (meaning_of raw i (text_at raw at)) (lowest-none _ _ h).0 in c ∙ ap (λ z. Some (Variable (number_named z))) (sym e)

-- STATEMENTS WITHOUT BLOCKS

-- `x = e`
set_main : (raw : RawKernel) (at a n : ℕ) (e : RawExpr) (y : Expr) (more : RawBlock) (named : Option Named) (st : Stmt)
    → named ≡ meaning_of raw at (text_at raw n) →
    use_fault raw at form.SetName named ≡ None → ExprOf raw (at + 1) e y → out-Stmt st ≡ set_of named y → (others : List Stmt)
    → BlockOf raw (at + (1 + (expr_size e + 0))) more others →
    BlockOf raw at (Simple form.SetName a n (e ∷ []) more) (st ∷ others)
set_main raw at a n e y more None st is h x o others rest = cc
set_main raw at a n e y more (Some (Parameter p)) st is h x o others rest = set_value p (sym is) x o rest
set_main raw at a n e y more (Some (Variable k)) st is h x o others rest = set_local k (sym is) x o rest
set_main raw at a n e y more (Some (LoopVariable k)) st is h x o others rest = cc

module _ (raw : RawKernel) (at a n : ℕ) (owner : Option ℕ) (heads first second : ℕ) (m : Meaning) where
  one_main : (f : RawForm) (e : RawExpr) (y : Expr) (more : RawBlock) (st : Stmt) → group_of f ≡ 2
      → IsFaultless raw at (statement_node f a n owner heads first second) →
      m ≡ meaning_at raw at (statement_node f a n owner heads first second) → ExprOf raw (at + 1) e y → out-Stmt st ≡ statement_with_one f m y →
      (others : List Stmt) → BlockOf raw (at + (1 + (expr_size e + 0))) more others → BlockOf raw at (Simple f a n (e ∷ []) more) (st ∷ others)
  one_main form.Var e y more st g ok is x o others rest = var (number_named m.name)
      (name-declares raw at (statement_node form.Var a n owner heads first second) m is refl) x o rest
  one_main form.SetName e y more st g ok is x o others rest =
      let named : m.name ≡ meaning_of raw at (text_at raw n) = ap (λ z. z.name) is in
      set_main raw at a n e y more m.name st named (subst (λ z. use_fault raw at form.SetName z ≡ None) (sym named) (lowest-none _ _ ok.name).0) x o others rest
  one_main form.SetRemove e y more st g ok is x o others rest =
      set_remove (number_named m.answer) (number_named m.name) (answer-variable raw at a m.answer (ap (λ z. z.answer) is) ok.token)
      (name-param raw at _ m ok is refl refl refl) x o rest
  one_main form.AddItem e y more st g ok is x o others rest = add_item (number_named m.name) (name-param raw at _ m ok is refl refl refl) x o rest
  one_main form.Remove e y more st g ok is x o others rest = remove (number_named m.name) (name-param raw at _ m ok is refl refl refl) x o rest
  one_main form.Write e y more st g ok is x o others rest = write (number_named m.name) (name-param raw at _ m ok is refl refl refl) x o rest
  one_main f e y more st g ok is x o others rest = absurd (omega arith)

  two_main : (f : RawForm) (e h : RawExpr) (y z : Expr) (more : RawBlock) (st : Stmt) → group_of f ≡ 3
      → IsFaultless raw at (statement_node f a n owner heads first second) →
      m ≡ meaning_at raw at (statement_node f a n owner heads first second) → ExprOf raw (at + 1) e y → ExprOf raw (at + (1 + expr_size e)) h z
      → out-Stmt st ≡ statement_with_two f m y z →
      (others : List Stmt) → BlockOf raw (at + (1 + (expr_size e + (expr_size h + 0)))) more others
      → BlockOf raw at (Simple f a n (e ∷ h ∷ []) more) (st ∷ others)
  two_main form.SetPlace e h y z more st g ok is x w o others rest = set_place (number_named m.name) (name-param raw at _ m ok is refl refl refl) x w o rest
  two_main form.SetTryAdd e h y z more st g ok is x w o others rest =
      set_try_add (number_named m.answer) (number_named m.name) (answer-variable raw at a m.answer (ap (λ z. z.answer) is) ok.token)
      (name-param raw at _ m ok is refl refl refl) x w o rest
  two_main form.AddPair e h y z more st g ok is x w o others rest = add_pair (number_named m.name) (name-param raw at _ m ok is refl refl refl) x w o rest
  two_main f e h y z more st g ok is x w o others rest = absurd (omega arith)

  bare_main : (f : RawForm) (more : RawBlock) (st : Stmt) → group_of f ≡ 1 → IsFaultless raw at (statement_node f a n owner heads first second) →
      m ≡ meaning_at raw at (statement_node f a n owner heads first second) → out-Stmt st ≡ Clear (number_named m.name) →
      (others : List Stmt) → BlockOf raw (at + (1 + 0)) more others → BlockOf raw at (Simple f a n [] more) (st ∷ others)
  bare_main form.Clear more st g ok is o others rest = clear (number_named m.name) (name-param raw at _ m ok is refl refl refl) o rest
  bare_main f more st g ok is o others rest = absurd (omega arith)

simple-many : (f : RawForm) (e g : RawExpr) (ps : List RawExpr) → FitsSimple f (e ∷ g ∷ ps) → group_of f ≡ 3
simple-many f e g [] h = h.0
simple-many f e g (k ∷ ps) h = absurd h

nested-many : (f : RawForm) (e g : RawExpr) (ps : List RawExpr) → FitsNested f (e ∷ g ∷ ps) → group_of f ≡ 7
nested-many f e g [] h = h.0
nested-many f e g (k ∷ ps) h = absurd h

-- the two of expressions that stand behind each other
pub second-here : (raw : RawKernel) (i middle : ℕ) (e g : RawExpr) → IsFormed g → StandsExpr raw.nodes.items (i + expr_size e) g
    → NoOperator raw.nodes.items (i + expr_size e + expr_size g) → middle ≡ i + expr_size e → IsHere raw middle g
second-here raw i middle e g f st quiet place = subst (λ n. IsHere raw n g) (sym place) (here-before raw (i + expr_size e) _ g f st refl quiet)

module _ (raw : RawKernel) (at : ℕ) (node : RawNode) (m : Meaning) (ok : IsFaultless raw at node) (is : m ≡ meaning_at raw at node)
    (s : slice_get raw.nodes.items at ≡ Some node) where
  group-is : (owner : Option ℕ) (b : RawBlock) → IsTrue (has_first b) → IsBlockHere raw owner at b → group_of node.form ≡ group_of (first_form b)
  group-is owner b has here = ap group_of (form-is raw owner at node b has s here.stands)

  pub one_first : (y : Expr) (next : ℕ) (st : Stmt) → group_of node.form ≡ 2 → ((e : RawExpr) → IsHere raw (at + 1) e → IsBuilt raw (at + 1) e y next)
      → out-Stmt st ≡ statement_with_one node.form m y →
      (owner : Option ℕ) (b : RawBlock) → IsTrue (has_first b) → IsBlockHere raw owner at b → IsFirst raw at b st
  one_first y next st g built o owner Nothing has here = cc
  one_first y next st g built o owner (Simple f a n [] more) has here =
      let z = group-is owner (Simple f a n [] more) has here in let w = here.formed.0 in absurd (omega arith)
  one_first y next st g built o owner (Simple f a n (e ∷ []) more) has here =
      let same : node ≡ statement_node f a n owner (expr_size e + 0) 0 0 = let q = here.stands.0 in cc in
      let quiet = block-first raw owner _ more here.formed.1 here.stands.2
      (λ node s b. here.after node (subst (λ k. slice_get raw.nodes.items k ≡ Some node) (omega arith) s) b) in
      let x = built e (here-before raw (at + 1) _ e here.formed.0.1 here.stands.1.0 (omega arith) quiet) in
      record {
        before = one_main raw at a n owner _ 0 0 m f e y more st (ap group_of (sym (ap (λ k. k.form) same)) ∙ g) (subst (IsFaultless raw at) same ok)
            (subst (λ k. m ≡ meaning_at raw at k) same is) x.is (subst (λ k. out-Stmt st ≡ statement_with_one k.form m y) same o);
      }
  one_first y next st g built o owner (Simple f a n (e ∷ h ∷ ps) more) has here =
      let z = group-is owner (Simple f a n (e ∷ h ∷ ps) more) has here in let w = simple-many f e h ps here.formed.0 in absurd (omega arith)
  one_first y next st g built o owner (Nested f a n parts inner more) has here =
      let z = group-is owner (Nested f a n parts inner more) has here in let w = (nested-group f parts here.formed.0).0 in absurd (omega arith)
  one_first y next st g built o owner (Branched a e first second more) has here =
      let z = group-is owner (Branched a e first second more) has here in absurd (omega arith)

  pub two_first : (y z : Expr) (middle next : ℕ) (st : Stmt) → group_of node.form ≡ 3
      → ((e : RawExpr) → IsHere raw (at + 1) e → IsBuilt raw (at + 1) e y middle) → ((e : RawExpr) → IsHere raw middle e → IsBuilt raw middle e z next) →
      out-Stmt st ≡ statement_with_two node.form m y z → (owner : Option ℕ) (b : RawBlock) → IsTrue (has_first b) → IsBlockHere raw owner at b →
      IsFirst raw at b st
  two_first y z middle next st g built built' o owner Nothing has here = cc
  two_first y z middle next st g built built' o owner (Simple f a n [] more) has here =
      let k = group-is owner (Simple f a n [] more) has here in let w = here.formed.0 in absurd (omega arith)
  two_first y z middle next st g built built' o owner (Simple f a n (e ∷ []) more) has here =
      let k = group-is owner (Simple f a n (e ∷ []) more) has here in let w = here.formed.0.0 in absurd (omega arith)
  two_first y z middle next st g built built' o owner (Simple f a n (e ∷ h ∷ []) more) has here =
      let same : node ≡ statement_node f a n owner (expr_size e + (expr_size h + 0)) 0 0 = let q = here.stands.0 in cc in
      let quiet = block-first raw owner _ more here.formed.1 here.stands.2
      (λ node s b. here.after node (subst (λ k. slice_get raw.nodes.items k ≡ Some node) (omega arith) s) b) in
      let x = built e (here-before raw (at + 1) _ e here.formed.0.1 here.stands.1.0 refl (first-other raw.nodes.items _ h here.formed.0.2 here.stands.1.1.0)) in
      let there : middle ≡ at + 1 + expr_size e = x.next in
      let w = built' h (second-here raw (at + 1) middle e h here.formed.0.2 here.stands.1.1.0
      (λ node s b. quiet node (subst (λ k. slice_get raw.nodes.items k ≡ Some node) (omega arith) s) b) there) in
      let place : middle ≡ at + (1 + expr_size e) = omega arith in
      record {
        before = two_main raw at a n owner _ 0 0 m f e h y z more st (ap group_of (sym (ap (λ k. k.form) same)) ∙ g) (subst (IsFaultless raw at) same ok)
            (subst (λ k. m ≡ meaning_at raw at k) same is) x.is (subst (λ k. ExprOf raw k h z) place w.is)
            (subst (λ k. out-Stmt st ≡ statement_with_two k.form m y z) same o);
      }
  two_first y z middle next st g built built' o owner (Simple f a n (e ∷ h ∷ k ∷ ps) more) has here = absurd here.formed.0
  two_first y z middle next st g built built' o owner (Nested f a n parts inner more) has here =
      let k = group-is owner (Nested f a n parts inner more) has here in let w = (nested-group f parts here.formed.0).0 in absurd (omega arith)
  two_first y z middle next st g built built' o owner (Branched a e first second more) has here =
      let k = group-is owner (Branched a e first second more) has here in absurd (omega arith)

  pub bare_first : (st : Stmt) → group_of node.form ≤ 1 → out-Stmt st ≡ Clear (number_named m.name) →
      (owner : Option ℕ) (b : RawBlock) → IsTrue (has_first b) → IsBlockHere raw owner at b → IsFirst raw at b st
  bare_first st g o owner Nothing has here = cc
  bare_first st g o owner (Simple f a n [] more) has here =
      let same : node ≡ statement_node f a n owner 0 0 0 = let q = here.stands.0 in cc in
      record {
        before = bare_main raw at a n owner 0 0 0 m f more st here.formed.0 (subst (IsFaultless raw at) same ok)
            (subst (λ k. m ≡ meaning_at raw at k) same is) o;
      }
  bare_first st g o owner (Simple f a n (e ∷ []) more) has here =
      let k = group-is owner (Simple f a n (e ∷ []) more) has here in let w = here.formed.0.0 in absurd (omega arith)
  bare_first st g o owner (Simple f a n (e ∷ h ∷ ps) more) has here =
      let k = group-is owner (Simple f a n (e ∷ h ∷ ps) more) has here in let w = simple-many f e h ps here.formed.0 in absurd (omega arith)
  bare_first st g o owner (Nested f a n parts inner more) has here =
      let k = group-is owner (Nested f a n parts inner more) has here in let w = (nested-group f parts here.formed.0).0 in absurd (omega arith)
  bare_first st g o owner (Branched a e first second more) has here =
      let k = group-is owner (Branched a e first second more) has here in absurd (omega arith)

-- STATEMENTS WITH BLOCKS

-- the blocks of nodes from one up to another are built
abbrev pub Builds : RawKernel → (from end : ℕ) → List Stmt → Type 0
Builds raw from end ss = (owner : Option ℕ) (b : RawBlock) → IsBlockHere raw owner from b → end ≡ from + block_size b → BlockOf raw from b ss

module _ (raw : RawKernel) (at : ℕ) (node : RawNode) (s : slice_get raw.nodes.items at ≡ Some node) where
  no-at : (i j : ℕ) → i ≡ j → NoOperator raw.nodes.items i → NoOperator raw.nodes.items j
  no-at i j e h = subst (λ n. NoOperator raw.nodes.items n) e h

  -- the first block of a statement, and what stands behind its expressions
  pub inner-is : (owner : Option ℕ) (f : RawForm) (a n : ℕ) (parts : List RawExpr) (inner more : RawBlock) (bs : List Stmt)
      → IsBlockHere raw owner at (Nested f a n parts inner more) →
      Builds raw (at + 1 + node.heads) (at + 1 + node.heads + node.inside) bs →
      (BlockOf raw (at + (1 + parts_size parts)) inner bs) × NoOperator raw.nodes.items (at + (1 + parts_size parts))
  inner-is owner f a n parts inner more bs here builds =
      let same : node ≡ statement_node f a n owner (parts_size parts) (block_size inner) 0 = let q = here.stands.0 in cc in
      let heads : node.heads ≡ parts_size parts = ap (λ k. k.heads) same in
      let inside : node.inside ≡ block_size inner = ap (λ k. k.inside) same in
      let place : at + (1 + parts_size parts) ≡ at + 1 + node.heads = omega arith in
      let behind : NoOperator raw.nodes.items (at + (1 + parts_size parts + block_size inner)) =
      block-first raw owner _ more here.formed.2 here.stands.3 (no-at _ _ (omega arith) here.after) in
      let after : NoOperator raw.nodes.items (at + (1 + parts_size parts) + block_size inner) = no-at _ _ (omega arith) behind in
      let inner_here : IsBlockHere raw (Some at) (at + (1 + parts_size parts)) inner =
      record { formed = here.formed.1; stands = here.stands.2; after = after } in
      let built = builds (Some at) inner (subst (λ k. IsBlockHere raw (Some at) k inner) place inner_here) (omega arith) in
      (subst (λ k. BlockOf raw k inner bs) (sym place) built, block-first raw (Some at) _ inner here.formed.1 here.stands.2 after)

  -- its one expression
  pub head-is : (owner : Option ℕ) (f : RawForm) (a n : ℕ) (e : RawExpr) (inner more : RawBlock) (y : Expr) (next : ℕ)
      → IsBlockHere raw owner at (Nested f a n (e ∷ []) inner more) →
      NoOperator raw.nodes.items (at + (1 + (expr_size e + 0))) → ((e : RawExpr) → IsHere raw (at + 1) e → IsBuilt raw (at + 1) e y next)
      → ExprOf raw (at + 1) e y
  head-is owner f a n e inner more y next here quiet built = (built e (here-before raw (at + 1) _ e here.formed.0.2 here.stands.1.0 (omega arith) quiet)).is

module _ (raw : RawKernel) (at : ℕ) (node : RawNode) (m : Meaning) (ok : IsFaultless raw at node) (is : m ≡ meaning_at raw at node)
    (s : slice_get raw.nodes.items at ≡ Some node) where
  form-of : (owner : Option ℕ) (b : RawBlock) → IsTrue (has_first b) → IsBlockHere raw owner at b → node.form ≡ first_form b
  form-of owner b has here = form-is raw owner at node b has s here.stands

  clash : (f g : RawForm) (k : ℕ) → f ≡ g → group_of f ≡ k → group_of g ≡ k
  clash f g k e h = ap group_of (sym e) ∙ h

  name-of : (owner : Option ℕ) (f : RawForm) (a n : ℕ) (parts : List RawExpr) (inner more : RawBlock) → IsBlockHere raw owner at (Nested f a n parts inner more)
      → node.name ≡ n
  name-of owner f a n parts inner more here =
      let same : node ≡ statement_node f a n owner (parts_size parts) (block_size inner) 0 = let q = here.stands.0 in cc in ap (λ k. k.name) same

  -- a statement with one expression and one block is of a form that has them
  pub nested_first : (g : RawForm) (k : ℕ) (y : Expr) (next : ℕ) (bs : List Stmt) (st : Stmt) → node.form ≡ g → group_of g ≡ k → 4 ≤ k → k ≤ 6 →
      ((e : RawExpr) → IsHere raw (at + 1) e → IsBuilt raw (at + 1) e y next) → Builds raw (at + 1 + node.heads) (at + 1 + node.heads + node.inside) bs →
      ((a n : ℕ) (e : RawExpr) (inner more : RawBlock) (others : List Stmt) → node.name ≡ n → ExprOf raw (at + 1) e y
      → BlockOf raw (at + (1 + (expr_size e + 0))) inner bs →
      BlockOf raw (at + (1 + (expr_size e + 0) + block_size inner)) more others → BlockOf raw at (Nested g a n (e ∷ []) inner more) (st ∷ others)) →
      (owner : Option ℕ) (b : RawBlock) → IsTrue (has_first b) → IsBlockHere raw owner at b → IsFirst raw at b st
  nested_first g k y next bs st f gk low high built builds make owner Nothing has here = cc
  nested_first g k y next bs st f gk low high built builds make owner (Simple f' a n parts more) has here =
      let z = clash g f' k (sym f ∙ form-of owner (Simple f' a n parts more) has here) gk in let w = (simple-group f' parts here.formed.0).1 in
      absurd (omega arith)
  nested_first g k y next bs st f gk low high built builds make owner (Nested f' a n [] inner more) has here = absurd here.formed.0
  nested_first g k y next bs st f gk low high built builds make owner (Nested f' a n (e ∷ []) inner more) has here =
      let both = inner-is raw at node s owner f' a n (e ∷ []) inner more bs here builds in
      let x = head-is raw at node s owner f' a n e inner more y next here both.1 built in
      let same : g ≡ f' = sym f ∙ form-of owner (Nested f' a n (e ∷ []) inner more) has here in
      subst (λ h. IsFirst raw at (Nested h a n (e ∷ []) inner more) st) same
      (record { before = λ others o. make a n e inner more others (name-of owner f' a n (e ∷ []) inner more here) x both.0 o })
  nested_first g k y next bs st f gk low high built builds make owner (Nested f' a n (e ∷ h ∷ ps) inner more) has here =
      let z = clash g f' k (sym f ∙ form-of owner (Nested f' a n (e ∷ h ∷ ps) inner more) has here) gk in let w = nested-many f' e h ps here.formed.0 in
      absurd (omega arith)
  nested_first g k y next bs st f gk low high built builds make owner (Branched a e first second more) has here =
      let z = clash g form.IfElse k (sym f ∙ form-of owner (Branched a e first second more) has here) gk in absurd (omega arith)

  pub begin_first : (y : Expr) (next : ℕ) (body : _) (x : ℕ) (st : Stmt) → out-Stmt st ≡ Begin x y body → node.form ≡ form.Begin
      → ((e : RawExpr) → IsHere raw (at + 1) e → IsBuilt raw (at + 1) e y next) →
      Builds raw (at + 1 + node.heads) (at + 1 + node.heads + node.inside) body.items → x ≡ number_named m.name →
      (owner : Option ℕ) (b : RawBlock) → IsTrue (has_first b) → IsBlockHere raw owner at b → IsFirst raw at b st
  begin_first y next body x st o f built builds xn =
      nested_first form.Begin 4 y next body.items st f refl (omega arith) (omega arith) built builds
      (λ a n e inner more others name h i r.
      begun x (rw xn (subst (λ k. IsParameter raw at k (number_named m.name)) name
      (name-param raw at node m ok is (ap takes_parameter f) (ap declares f) (ap has_name f)))) h o i r)

  pub if_first : (y : Expr) (next : ℕ) (body other : _) (st : Stmt) → out-Stmt st ≡ If y body other → node.form ≡ form.If
      → ((e : RawExpr) → IsHere raw (at + 1) e → IsBuilt raw (at + 1) e y next) →
      Builds raw (at + 1 + node.heads) (at + 1 + node.heads + node.inside) body.items → other.items ≡ [] →
      (owner : Option ℕ) (b : RawBlock) → IsTrue (has_first b) → IsBlockHere raw owner at b → IsFirst raw at b st
  if_first y next body other st o f built builds none =
      nested_first form.If 5 y next body.items st f refl (omega arith) (omega arith) built builds (λ a n e inner more others name h i r. tested h o i none r)

  pub while_first : (y : Expr) (next : ℕ) (body : _) (st : Stmt) → out-Stmt st ≡ While y body → node.form ≡ form.While
      → ((e : RawExpr) → IsHere raw (at + 1) e → IsBuilt raw (at + 1) e y next) →
      Builds raw (at + 1 + node.heads) (at + 1 + node.heads + node.inside) body.items →
      (owner : Option ℕ) (b : RawBlock) → IsTrue (has_first b) → IsBlockHere raw owner at b → IsFirst raw at b st
  while_first y next body st o f built builds =
      nested_first form.While 6 y next body.items st f refl (omega arith) (omega arith) built builds (λ a n e inner more others name h i r. looped h o i r)

  pub for_first : (y z : Expr) (middle next : ℕ) (body : _) (x : ℕ) (st : Stmt) → out-Stmt st ≡ For x y z body → node.form ≡ form.For
      → ((e : RawExpr) → IsHere raw (at + 1) e → IsBuilt raw (at + 1) e y middle) →
      ((e : RawExpr) → IsHere raw middle e → IsBuilt raw middle e z next) →
      Builds raw (at + 1 + node.heads) (at + 1 + node.heads + node.inside) body.items → x ≡ number_named m.name →
      (owner : Option ℕ) (b : RawBlock) → IsTrue (has_first b) → IsBlockHere raw owner at b → IsFirst raw at b st
  for_first y z middle next body x st o f built built' builds xn owner Nothing has here = cc
  for_first y z middle next body x st o f built built' builds xn owner (Simple f' a n parts more) has here =
      let k = clash form.For f' 7 (sym f ∙ form-of owner (Simple f' a n parts more) has here) refl in let w = (simple-group f' parts here.formed.0).1 in
      absurd (omega arith)
  for_first y z middle next body x st o f built built' builds xn owner (Nested f' a n [] inner more) has here = absurd here.formed.0
  for_first y z middle next body x st o f built built' builds xn owner (Nested f' a n (e ∷ []) inner more) has here =
      let k = clash form.For f' 7 (sym f ∙ form-of owner (Nested f' a n (e ∷ []) inner more) has here) refl in let w = here.formed.0.1 in absurd (omega arith)
  for_first y z middle next body x st o f built built' builds xn owner (Nested f' a n (e ∷ h ∷ []) inner more) has here =
      let both = inner-is raw at node s owner f' a n (e ∷ h ∷ []) inner more body.items here builds in
      let first = built e (here-before raw (at + 1) _ e here.formed.0.1 here.stands.1.0 refl
      (first-other raw.nodes.items _ h here.formed.0.2 here.stands.1.1.0)) in
      let there : middle ≡ at + 1 + expr_size e = first.next in
      let second = built' h (second-here raw (at + 1) middle e h here.formed.0.2 here.stands.1.1.0
      (subst (λ k. NoOperator raw.nodes.items k) (omega arith) both.1) there) in
      let place : middle ≡ at + (1 + expr_size e) = omega arith in
      let same : form.For ≡ f' = sym f ∙ form-of owner (Nested f' a n (e ∷ h ∷ []) inner more) has here in
      subst (λ k. IsFirst raw at (Nested k a n (e ∷ h ∷ []) inner more) st) same
      (record {
        before = λ others r. counted x (xn ∙ name-declares raw at node m is (ap declares f)) first.is
            (subst (λ k. ExprOf raw k h z) place second.is) o both.0 r;
      })
  for_first y z middle next body x st o f built built' builds xn owner (Nested f' a n (e ∷ h ∷ k ∷ ps) inner more) has here = absurd here.formed.0
  for_first y z middle next body x st o f built built' builds xn owner (Branched a e first second more) has here =
      let k = clash form.For form.IfElse 7 (sym f ∙ form-of owner (Branched a e first second more) has here) refl in absurd (omega arith)

  pub if_else_first : (y : Expr) (next : ℕ) (body other : _) (st : Stmt) → out-Stmt st ≡ If y body other → node.form ≡ form.IfElse
      → ((e : RawExpr) → IsHere raw (at + 1) e → IsBuilt raw (at + 1) e y next) →
      Builds raw (at + 1 + node.heads) (at + 1 + node.heads + node.inside) body.items
      → Builds raw (at + 1 + node.heads + node.inside) (at + 1 + node.after) other.items →
      (owner : Option ℕ) (b : RawBlock) → IsTrue (has_first b) → IsBlockHere raw owner at b → IsFirst raw at b st
  if_else_first y next body other st o f built builds builds' owner Nothing has here = cc
  if_else_first y next body other st o f built builds builds' owner (Simple f' a n parts more) has here =
      let k = clash form.IfElse f' 8 (sym f ∙ form-of owner (Simple f' a n parts more) has here) refl in let w = (simple-group f' parts here.formed.0).1 in
      absurd (omega arith)
  if_else_first y next body other st o f built builds builds' owner (Nested f' a n parts inner more) has here =
      let k = clash form.IfElse f' 8 (sym f ∙ form-of owner (Nested f' a n parts inner more) has here) refl in
      let w = (nested-group f' parts here.formed.0).1 in absurd (omega arith)
  if_else_first y next body other st o f built builds builds' owner (Branched a e first second more) has here =
      let same : node ≡ statement_node form.IfElse a a owner (expr_size e) (block_size first) (block_size second) = let q = here.stands.0 in cc in
      let heads : node.heads ≡ expr_size e = ap (λ k. k.heads) same in
      let inside : node.inside ≡ block_size first = ap (λ k. k.inside) same in
      let after : node.after ≡ expr_size e + (block_size first + block_size second) = ap (λ k. k.after) same in
      let p1 : at + (1 + expr_size e) ≡ at + 1 + node.heads = omega arith in
      let p2 : at + (1 + expr_size e + block_size first) ≡ at + 1 + node.heads + node.inside = omega arith in
      let no4 : NoOperator raw.nodes.items (at + (1 + expr_size e + block_size first + block_size second)) =
      block-first raw owner _ more here.formed.3 here.stands.4 (subst (λ n. NoOperator raw.nodes.items n) (omega arith) here.after) in
      let no3 : NoOperator raw.nodes.items (at + (1 + expr_size e + block_size first) + block_size second) =
      subst (λ n. NoOperator raw.nodes.items n) (omega arith) no4 in
      let no2 = block-first raw (Some at) (at + (1 + expr_size e + block_size first)) second here.formed.2 here.stands.3 no3 in
      let no1 : NoOperator raw.nodes.items (at + (1 + expr_size e) + block_size first) = subst (λ n. NoOperator raw.nodes.items n) (omega arith) no2 in
      let no0 = block-first raw (Some at) (at + (1 + expr_size e)) first here.formed.1 here.stands.2 no1 in
      let first_here : IsBlockHere raw (Some at) (at + (1 + expr_size e)) first = record { formed = here.formed.1; stands = here.stands.2; after = no1 } in
      let second_here : IsBlockHere raw (Some at) (at + (1 + expr_size e + block_size first)) second =
      record { formed = here.formed.2; stands = here.stands.3; after = no3 } in
      let one = builds (Some at) first (subst (λ k. IsBlockHere raw (Some at) k first) p1 first_here) (omega arith) in
      let two = builds' (Some at) second (subst (λ k. IsBlockHere raw (Some at) k second) p2 second_here) (omega arith) in
      let x = (built e (here-before raw (at + 1) _ e here.formed.0 here.stands.1 (omega arith) no0)).is in
      record {
        before = λ others r. branched x o (subst (λ k. BlockOf raw k first body.items) (sym p1) one)
            (subst (λ k. BlockOf raw k second other.items) (sym p2) two) r;
      }
