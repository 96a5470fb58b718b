-- What the form of a checked kernel asks of a parameter says which parameters there are, and which may be written.
use Rattle.std.proofs.Common.{◌≡◌, refl, subst, ℕ, ◌<◌, Bool, true, ◌&&◌, IsTrue, List, length, Option, Some, None, slice_get}
use Rattle.std.specs.Prelude.{not}
use Rattle.std.proofs.lemmas.Bool.{and_parts, false≢true}
use Rattle.std.proofs.lemmas.Option.{slice_get_within}
use Rattle.job_base.specs.declared.Access.{Access}
use Rattle.job_base.specs.declared.Access.TheVariants.{Read, Write as WriteOnly, Both}
use Rattle.frame_ast.specs.declared.kernel.ParamKind.{ParamKind}
use Rattle.frame_ast.specs.declared.kernel.ParamKind.TheVariants.{Int, Array, List as KindList, Ref, Map, Stream}
use Rattle.frame_ast.specs.declared.kernel.Param.{Param}
use Rattle.frame_ast.specs.Checked.{Touch, Demand, touch_meets, param_meets, meets, is_read, may_write, written_param}

pub param_met : (d : Demand) (o : Option Param) → IsTrue (param_meets d o) → (p : Param) × (o ≡ Some p)
param_met d None h = cc
param_met d (Some p) h = (p, refl)

pub has_param : (params : List Param) (x : ℕ) (d : Demand) → IsTrue (meets params x d) → x < length params
has_param params x d h = let p = param_met d (slice_get params x) h in slice_get_within params x p.0 p.1

-- what a form does writes, where it takes the parameter
abbrev writes_if : Option Touch → Bool
writes_if None = true
writes_if (Some t) = t.writes

-- a form that writes each parameter that it takes
abbrev pub is_writing : Demand → Bool
is_writing d = writes_if (d Int) && (writes_if (d Array) && (writes_if (d KindList) && (writes_if (d Ref) && (writes_if (d Map) && writes_if (d Stream)))))

writing_at : (d : Demand) (k : ParamKind) → is_writing d ≡ true → writes_if (d k) ≡ true
writing_at d k h =
    let int = and_parts (writes_if (d Int)) _ h in
    let array = and_parts (writes_if (d Array)) _ int.1 in
    let list = and_parts (writes_if (d KindList)) _ array.1 in
    let ref = and_parts (writes_if (d Ref)) _ list.1 in
    let map = and_parts (writes_if (d Map)) _ ref.1 in
    by k int.0 array.0 list.0 ref.0 map.0 map.1
  where
    by : (k : ParamKind) → writes_if (d Int) ≡ true → writes_if (d Array) ≡ true → writes_if (d KindList) ≡ true → writes_if (d Ref) ≡ true
        → writes_if (d Map) ≡ true → writes_if (d Stream) ≡ true → writes_if (d k) ≡ true
    by Int a b c d e f = a
    by Array a b c d e f = b
    by KindList a b c d e f = c
    by Ref a b c d e f = d
    by Map a b c d e f = e
    by Stream a b c d e f = f

writes_access : (t : Option Touch) (a : Access) → writes_if t ≡ true → touch_meets t a ≡ true → not (is_read a) ≡ true
writes_access None a w h = absurd (false≢true h)
writes_access (Some t) Read w h = absurd (false≢true (subst (λ b. not b ≡ true) w h))
writes_access (Some t) WriteOnly w h = refl
writes_access (Some t) Both w h = refl

-- a form that writes what it takes stands at a parameter that may be written
writes_param : (d : Demand) (p : Option Param) → is_writing d ≡ true → param_meets d p ≡ true → written_param p ≡ true
writes_param d None w h = h
writes_param d (Some p) w h = writes_access (d p.kind) p.access (writing_at d p.kind w) h

pub written : (params : List Param) (x : ℕ) (d : Demand) → is_writing d ≡ true → IsTrue (meets params x d) → IsTrue (may_write params x)
written params x d w h = writes_param d (slice_get params x) w h
