-- What one node without a fault makes.
use Rattle.std.proofs.Common.{ℕ, ◌≡◌, ◌+◌, min, Bool, true, false, IsTrue, ltb, cond, Option, Some, None, refl, ap, sym, subst, ◌∙◌, arith}
use Rattle.std.specs.Prelude.{pos, if◌then◌else◌}
use Rattle.std.proofs.lemmas.Bool.Decides.{nat_tests}
use Rattle.frame_ast.specs.declared.kernel.FaultKind.TheVariants.{KindMismatch}
use Rattle.frame_ast.specs.declared.kernel.Expr.{Expr}
use Rattle.frame_ast.specs.declared.kernel.Expr.TheVariants.{Number, Negative', Not'}
use Rattle.kernel_raw.specs.declared.raw.RawForm.{RawForm}
use Rattle.kernel_raw.specs.declared.raw.RawForm.TheVariants as form
use Rattle.kernel_raw.specs.declared.raw.RawKernel.{RawKernel}
use Rattle.kernel_code.specs.declared.check.names.Named.{Named}
use Rattle.kernel_code.specs.declared.check.names.Named.TheVariants.{Parameter, Variable, LoopVariable}
use Rattle.kernel_raw.specs.Raw.{RawExpr, Leaf, One, Infix, expr_size}
use Rattle.kernel_raw.specs.RawTexts.{kind_at, text_at, value_at}
use Rattle.kernel_code.specs.Scopes.{meaning_of}
use Rattle.kernel_code.specs.StaticFaults.{use_fault, used_fault, name_fault, token_fault, variable_fault, loop_variable_fault}
use Rattle.kernel_code.specs.Known.{has_name, meaning_if, number_named}
use Rattle.kernel_code.specs.Trees.{Joint, Both, Either, By, Neither, ExprOf, number, index, variable, loop_variable, value, size, element, has, count, negative, opposite, both, either, between, IsParameter, is_minus, joint_of}
use Rattle.kernel_code.specs.Places.{is_leaf, is_one, value_named, leaf_of, IsOneOf, IsJoint}
use Rattle.kernel_code.proofs.NoFaults.{lowest-none, some_if-none}

-- forms whose name is a parameter
abbrev pub takes_parameter : RawForm → Bool
takes_parameter form.Element = true
takes_parameter form.Length = true
takes_parameter form.Has = true
takes_parameter form.Count = true
takes_parameter form.Item = true
takes_parameter form.SetPlace = true
takes_parameter form.SetTryAdd = true
takes_parameter form.SetRemove = true
takes_parameter form.AddItem = true
takes_parameter form.AddPair = true
takes_parameter form.Remove = true
takes_parameter form.Clear = true
takes_parameter form.Write = true
takes_parameter form.Begin = true
takes_parameter _ = false

use_parameter : (raw : RawKernel) (i : ℕ) (f : RawForm) (m : Option Named) → use_fault raw i f m ≡ None →
    variable_fault f ≡ Some KindMismatch → loop_variable_fault f ≡ Some KindMismatch → m ≡ Some (Parameter (number_named m))
use_parameter raw i f None h v l = cc
use_parameter raw i f (Some (Variable k)) h v l = absurd (let e : Some KindMismatch ≡ None = sym v ∙ h in cc)
use_parameter raw i f (Some (LoopVariable k)) h v l = absurd (let e : Some KindMismatch ≡ None = sym l ∙ h in cc)
use_parameter raw i f (Some (Parameter x)) h v l = refl

used : (raw : RawKernel) (i name : ℕ) (f : RawForm) → used_fault raw i f (text_at raw name) ≡ None →
    variable_fault f ≡ Some KindMismatch → loop_variable_fault f ≡ Some KindMismatch
    → IsParameter raw i name (number_named (meaning_of raw i (text_at raw name)))
used raw i name f h v l = use_parameter raw i f _ (lowest-none _ _ h).0 v l

pub param_named : (raw : RawKernel) (i name : ℕ) (f : RawForm) → takes_parameter f ≡ true → name_fault raw i name f ≡ None →
    IsParameter raw i name (number_named (meaning_of raw i (text_at raw name)))
param_named raw i name form.Element t h = used raw i name form.Element h refl refl
param_named raw i name form.Length t h = used raw i name form.Length h refl refl
param_named raw i name form.Has t h = used raw i name form.Has h refl refl
param_named raw i name form.Count t h = used raw i name form.Count h refl refl
param_named raw i name form.Item t h = used raw i name form.Item h refl refl
param_named raw i name form.SetPlace t h = used raw i name form.SetPlace h refl refl
param_named raw i name form.SetTryAdd t h = used raw i name form.SetTryAdd h refl refl
param_named raw i name form.SetRemove t h = used raw i name form.SetRemove h refl refl
param_named raw i name form.AddItem t h = used raw i name form.AddItem h refl refl
param_named raw i name form.AddPair t h = used raw i name form.AddPair h refl refl
param_named raw i name form.Remove t h = used raw i name form.Remove h refl refl
param_named raw i name form.Clear t h = used raw i name form.Clear h refl refl
param_named raw i name form.Write t h = used raw i name form.Write h refl refl
param_named raw i name form.Begin t h = used raw i name form.Begin h refl refl
param_named raw i name f t h = cc

-- the parameter that a name stands for
pub is_parameter : (raw : RawKernel) (i name : ℕ) (f : RawForm) (named : Option Named) → takes_parameter f ≡ true → name_fault raw i name f ≡ None →
    named ≡ meaning_of raw i (text_at raw name) → IsParameter raw i name (number_named named)
is_parameter raw i name f named t h e = rw e (param_named raw i name f t h)

below : (n : ℕ) → ltb 9223372036854775807 n ≡ false → min 9223372036854775807 n ≡ n
below n h = grind (arith, nat_tests)

value_is : (raw : RawKernel) (i at name : ℕ) (m : Option Named) → m ≡ meaning_of raw i (text_at raw name) → use_fault raw i form.Name m ≡ None →
    ExprOf raw i (Leaf form.Name at name) (value_named m)
value_is raw i at name None e h = cc
value_is raw i at name (Some (Parameter x)) e h = value x (sym e) refl
value_is raw i at name (Some (Variable k)) e h = variable k (sym e) refl
value_is raw i at name (Some (LoopVariable k)) e h = loop_variable k (sym e) refl

pub leaf_is : (raw : RawKernel) (i at name : ℕ) (f : RawForm) (named : Option Named) → IsTrue (is_leaf f) →
    token_fault raw i at f ≡ None → name_fault raw i name f ≡ None → named ≡ meaning_if (has_name f) raw i name →
    ExprOf raw i (Leaf f at name) (leaf_of raw f at named)
leaf_is raw i at name form.Number named l t h e = number (ap (λ n. Number (pos n)) (below (value_at raw at) (some_if-none _ _ t)))
leaf_is raw i at name form.Index named l t h e = index refl
leaf_is raw i at name form.Name named l t h e = value_is raw i at name named e (subst (λ m. use_fault raw i form.Name m ≡ None) (sym e) ((lowest-none _ _ h).0))
leaf_is raw i at name form.Length named l t h e = size (number_named named) (is_parameter raw i name form.Length named refl h e) refl
leaf_is raw i at name f named l t h e = cc

unary_is : (raw : RawKernel) (i at name : ℕ) (named : Option Named) (e : RawExpr) (y x : Expr) (m : Bool) → is_minus (kind_at raw at) ≡ m
    → ExprOf raw (i + 1) e y →
    IsOneOf raw form.Unary at named y x → ExprOf raw i (One form.Unary at name e) x
unary_is raw i at name named e y x true h inner is = negative h inner (is.1 ∙ ap (λ b. cond b (Negative' is.0 y) (Not' is.0 y)) h)
unary_is raw i at name named e y x false h inner is = opposite h inner (is.1 ∙ ap (λ b. cond b (Negative' is.0 y) (Not' is.0 y)) h)

pub one_is : (raw : RawKernel) (i at name : ℕ) (f : RawForm) (named : Option Named) (e : RawExpr) (y x : Expr) → IsTrue (is_one f) →
    name_fault raw i name f ≡ None → named ≡ meaning_if (has_name f) raw i name → ExprOf raw (i + 1) e y → IsOneOf raw f at named y x →
    ExprOf raw i (One f at name e) x
one_is raw i at name form.Element named e y x o h n inner is = element (number_named named) (is_parameter raw i name form.Element named refl h n) inner is.1
one_is raw i at name form.Has named e y x o h n inner is = has (number_named named) (is_parameter raw i name form.Has named refl h n) inner is.1
one_is raw i at name form.Count named e y x o h n inner is = count (number_named named) (is_parameter raw i name form.Count named refl h n) inner is.1
one_is raw i at name form.Unary named e y x o h n inner is = unary_is raw i at name named e y x (is_minus (kind_at raw at)) refl inner is
one_is raw i at name f named e y x o h n inner is = cc

pub joint_is : (raw : RawKernel) (i at : ℕ) (e g : RawExpr) (y z x : Expr) (j : Joint) → joint_of (kind_at raw at) ≡ j → ExprOf raw i e y →
    ExprOf raw (i + (expr_size e + 1)) g z → IsJoint j y z x → ExprOf raw i (Infix at e g) x
joint_is raw i at e g y z x Both h l r is = both h l r is.1
joint_is raw i at e g y z x Either h l r is = either h l r is.1
joint_is raw i at e g y z x (By op) h l r is = between op h l r is.1
joint_is raw i at e g y z x Neither h l r is = absurd is

pub negative_is : (m : Bool) {p : _} (y : Expr) → m ≡ true → (q : _) × (Negative' p y ≡ (if m then Negative' q y else Not' q y))
negative_is m {p} y h = (p, ap (λ b. cond b (Negative' p y) (Not' p y)) (sym h))

pub opposite_is : (m : Bool) {p : _} (y : Expr) → m ≡ false → (q : _) × (Not' p y ≡ (if m then Negative' q y else Not' q y))
opposite_is m {p} y h = (p, ap (λ b. cond b (Negative' p y) (Not' p y)) (sym h))
