-- A name without a fault stands for what its form needs.
use Rattle.std.proofs.Common.{ℕ, zero, suc, ◌≡◌, ◌≤◌, ◌<◌, ◌+◌, Bool, true, false, not, IsTrue, cond, List, [], ◌∷◌, map, length, take, Option, Some, None, slice_get, refl, ap, sym, subst, ◌∙◌, arith}
use Rattle.std.specs.Prelude.{◌&&◌, option_map}
use Rattle.std.specs.Str.{bytes_eq}
use Rattle.std.proofs.lemmas.List.{length-append}
use Rattle.job_base.specs.declared.Access.{Access}
use Rattle.job_base.specs.declared.Access.TheVariants.{Read, Write as WriteOnly, Both}
use Rattle.frame_ast.specs.declared.kernel.FaultKind.{FaultKind}
use Rattle.frame_ast.specs.declared.kernel.Param.{Param}
use Rattle.frame_ast.specs.Checked.{Touch, Demand, access_meets, touch_meets, param_meets, meets}
use Rattle.kernel_raw.specs.declared.raw.RawForm.{RawForm}
use Rattle.kernel_raw.specs.declared.raw.RawNode.{RawNode}
use Rattle.kernel_raw.specs.declared.raw.RawParam.{RawParam}
use Rattle.kernel_raw.specs.declared.raw.RawKernel.{RawKernel}
use Rattle.kernel_code.specs.declared.check.names.Named.{Named}
use Rattle.kernel_code.specs.declared.check.names.Named.TheVariants.{Parameter, Variable, LoopVariable}
use Rattle.kernel_code.specs.declared.check.names.Local.{Local}
use Rattle.std.specs.Option.{option_or}
use Rattle.frame_ast.specs.Lists.{some_if}
use Rattle.kernel_raw.specs.RawTexts.{text_at}
use Rattle.kernel_code.specs.Scopes.{declares, local_of, local_if, locals_from, locals_before, locals_of, as_local, in_scope, local_among, parameter, is_begun}
use Rattle.kernel_code.specs.StaticFaults.{demand_of, access_fault, touch_fault, demand_fault, block_fault, param_fault_of, use_fault, used_fault}
use Rattle.kernel_code.specs.Known.{number_named}
use Rattle.kernel_code.specs.Trees.{IsParameter, IsVariable, IsLoopVariable, param_text, raw_param_text}
use Rattle.kernel_code.proofs.NoFaults.{lowest-none}

-- LOCALS

-- the locals of some first nodes are no more than those of all
few-taken : (nodes : List RawNode) (d i : ℕ) (xs : List RawNode) → length (locals_from nodes d (take i xs)) ≤ length (locals_from nodes d xs)
few-taken nodes d zero xs = omega arith
few-taken nodes d (suc i) [] = omega arith
few-taken nodes d (suc i) (x ∷ xs) =
    let head = local_if (declares x.form) (local_of nodes d x) in
    omega (arith, few-taken nodes (d + 1) i xs, length-append head (locals_from nodes (d + 1) (take i xs)), length-append head (locals_from nodes (d + 1) xs))

-- a node that declares a local adds to those before it
fewer-taken : (nodes : List RawNode) (d i : ℕ) (xs : List RawNode) (node : RawNode) → slice_get xs i ≡ Some node → declares node.form ≡ true →
    length (locals_from nodes d (take i xs)) < length (locals_from nodes d xs)
fewer-taken nodes d i [] node s h = cc
fewer-taken nodes d zero (x ∷ xs) node s h =
    let e : x ≡ node = cc in
    let one : length (local_if (declares x.form) (local_of nodes d x)) ≡ 1 =
    ap (λ b. length (local_if b (local_of nodes d x))) (ap (λ n. declares n.form) e ∙ h) in
    omega (arith, length-append (local_if (declares x.form) (local_of nodes d x)) (locals_from nodes (d + 1) xs))
fewer-taken nodes d (suc i) (x ∷ xs) node s h =
    let head = local_if (declares x.form) (local_of nodes d x) in
    omega (
      arith,
      fewer-taken nodes (d + 1) i xs node s h,
      length-append head (locals_from nodes (d + 1) (take i xs)),
      length-append head
          (locals_from nodes (d + 1) xs),
    )

pub declared-below : (raw : RawKernel) (i : ℕ) (node : RawNode) → slice_get raw.nodes.items i ≡ Some node → declares node.form ≡ true →
    length (locals_before raw.nodes.items i) < length (locals_of raw.nodes.items)
declared-below raw i node s h = fewer-taken raw.nodes.items 0 i raw.nodes.items node s h

local-number : (l : Local) (k : ℕ) → number_named (Some (as_local l k)) ≡ k
local-number l k = elim l.is_loop as (λ b. number_named (Some (cond b (LoopVariable k) (Variable k))) ≡ k) [ true ↦ refl | false ↦ refl ]

local-pick : (b : Bool) (l : Local) (k n : ℕ) (o : Option Named) (m : Named) → (o ≡ Some m → number_named (Some m) < k + 1 + n) →
    cond b (Some (as_local l k)) o ≡ Some m → number_named (Some m) < k + suc n
local-pick true l k n o m later h = let e : number_named (Some m) ≡ k = ap number_named (sym h) ∙ local-number l k in omega arith
local-pick false l k n o m later h = let w = later h in omega arith

local-below : (raw : RawKernel) (i : ℕ) (text : List ℕ) (k : ℕ) (ls : List Local) (m : Named) → local_among raw i text k ls ≡ Some m →
    number_named (Some m) < k + length ls
local-below raw i text k [] m h = cc
local-below raw i text k (l ∷ ls) m h =
    local-pick (in_scope i l && bytes_eq (text_at raw l.name) text) l k (length ls) (local_among raw i text (k + 1) ls) m
    (local-below raw i text (k + 1) ls m) h

-- what is among the locals is no parameter
as-other : (l : Local) (k x : ℕ) → Some (as_local l k) ≡ Some (Parameter x) → ⊥
as-other l k x h = other l.is_loop h
  where
    other : (b : Bool) → Some (cond b (LoopVariable k) (Variable k)) ≡ Some (Parameter x) → ⊥
    other true h = cc
    other false h = cc

other-pick : (b : Bool) (l : Local) (k x : ℕ) (o : Option Named) → (o ≡ Some (Parameter x) → ⊥) → cond b (Some (as_local l k)) o ≡ Some (Parameter x) → ⊥
other-pick true l k x o later h = as-other l k x h
other-pick false l k x o later h = later h

local-other : (raw : RawKernel) (i : ℕ) (text : List ℕ) (k : ℕ) (ls : List Local) (x : ℕ) → local_among raw i text k ls ≡ Some (Parameter x) → ⊥
local-other raw i text k [] x h = cc
local-other raw i text k (l ∷ ls) x h =
    other-pick (in_scope i l && bytes_eq (text_at raw l.name) text) l k x (local_among raw i text (k + 1) ls) (local-other raw i text (k + 1) ls x) h

named-variable : (p : Option ℕ) (o : Option Named) (k : ℕ) → option_or (option_map (λ x. Parameter x) p) o ≡ Some (Variable k) → o ≡ Some (Variable k)
named-variable None o k h = h
named-variable (Some x) o k h = cc

named-loop : (p : Option ℕ) (o : Option Named) (k : ℕ) → option_or (option_map (λ x. Parameter x) p) o ≡ Some (LoopVariable k) → o ≡ Some (LoopVariable k)
named-loop None o k h = h
named-loop (Some x) o k h = cc

named-parameter : (p : Option ℕ) (o : Option Named) (x : ℕ) → (o ≡ Some (Parameter x) → ⊥) → option_or (option_map (λ x. Parameter x) p) o ≡ Some (Parameter x)
    → p ≡ Some x
named-parameter None o x other h = absurd (other h)
named-parameter (Some y) o x other h = cc

before-below : (raw : RawKernel) (i : ℕ) (text : List ℕ) (m : Named) → local_among raw i text 0 (locals_before raw.nodes.items i) ≡ Some m →
    number_named (Some m) < length (locals_of raw.nodes.items)
before-below raw i text m h =
    omega (arith, local-below raw i text 0 (locals_before raw.nodes.items i) m h, few-taken raw.nodes.items 0 i raw.nodes.items)

pub variable-below : (raw : RawKernel) (i at k : ℕ) → IsVariable raw i at k → k < length (locals_of raw.nodes.items)
variable-below raw i at k h = before-below raw i (text_at raw at) (Variable k) (named-variable (parameter raw (text_at raw at)) _ k h)

pub loop-below : (raw : RawKernel) (i at k : ℕ) → IsLoopVariable raw i at k → k < length (locals_of raw.nodes.items)
loop-below raw i at k h = before-below raw i (text_at raw at) (LoopVariable k) (named-loop (parameter raw (text_at raw at)) _ k h)

pub parameter-is : (raw : RawKernel) (i at x : ℕ) → IsParameter raw i at x → parameter raw (text_at raw at) ≡ Some x
parameter-is raw i at x h =
    named-parameter (parameter raw (text_at raw at)) _ x (local-other raw i (text_at raw at) 0 (locals_before raw.nodes.items i) x) h

-- PARAMETERS

-- the parameter x is used by a form at node i, without a fault
pub record IsUsed (raw : RawKernel) (i : ℕ) (f : RawForm) (x : ℕ) : Type 0 where
  pub param : RawParam
  pub at : slice_get raw.params.items x ≡ Some param
  pub demand : demand_fault (demand_of f) param ≡ None
  pub block : block_fault f (is_begun raw i x) ≡ None

used-param : (raw : RawKernel) (i : ℕ) (f : RawForm) (x : ℕ) (o : Option RawParam) → slice_get raw.params.items x ≡ o →
    param_fault_of f (is_begun raw i x) o ≡ None → IsUsed raw i f x
used-param raw i f x None e h = cc
used-param raw i f x (Some p) e h = let both = lowest-none _ _ h in record { param = p; at = e; demand = both.0; block = both.1 }

pub is-used : (raw : RawKernel) (i name x : ℕ) (f : RawForm) → used_fault raw i f (text_at raw name) ≡ None → IsParameter raw i name x → IsUsed raw i f x
is-used raw i name x f h p =
    let fine : use_fault raw i f (Some (Parameter x)) ≡ None = subst (λ m. use_fault raw i f m ≡ None) p (lowest-none _ _ h).0 in
    used-param raw i f x (slice_get raw.params.items x) refl fine

-- the parameter of a kernel that a raw one is
record IsLike (params : List Param) (x : ℕ) (r : RawParam) : Type 0 where
  param : Param
  at : slice_get params x ≡ Some param
  kind : param.kind ≡ r.kind
  access : param.access ≡ r.access

is-like : (raw : RawKernel) (ps : List Param) (rs : List RawParam) (x : ℕ) (r : RawParam) → map param_text ps ≡ map (raw_param_text raw) rs →
    slice_get rs x ≡ Some r → IsLike ps x r
is-like raw ps [] x r same s = cc
is-like raw [] (q ∷ rs) x r same s = cc
is-like raw (p ∷ ps) (q ∷ rs) zero r same s =
    let e : q ≡ r = cc in
    let t : param_text p ≡ raw_param_text raw q = cc in
    record { param = p; at = refl; kind = ap (λ z. z.kind) t ∙ ap (λ z. z.kind) e; access = ap (λ z. z.access) t ∙ ap (λ z. z.access) e }
is-like raw (p ∷ ps) (q ∷ rs) (suc x) r same s =
    let t : map param_text ps ≡ map (raw_param_text raw) rs = cc in
    let l = is-like raw ps rs x r t s in
    record { param = l.param; at = l.at; kind = l.kind; access = l.access }

may-none : (b : Bool) (k : FaultKind) → some_if b k ≡ None → not b ≡ true
may-none true k h = cc
may-none false k h = refl

access-met : (t : Touch) (a : Access) → access_fault t a ≡ None → access_meets t a ≡ true
access-met t Read h = may-none t.writes _ h
access-met t WriteOnly h = may-none t.reads _ h
access-met t Both h = refl

touch-met : (o : Option Touch) (a : Access) → touch_fault o a ≡ None → touch_meets o a ≡ true
touch-met None a h = cc
touch-met (Some t) a h = access-met t a h

-- the demand is met where it has no fault
pub demand-met : (raw : RawKernel) (params : List Param) → map param_text params ≡ map (raw_param_text raw) raw.params.items
    → (x : ℕ) (r : RawParam) (d : Demand) →
    slice_get raw.params.items x ≡ Some r → demand_fault d r ≡ None → IsTrue (meets params x d)
demand-met raw params same x r d s h =
    let l = is-like raw params raw.params.items x r same s in
    ap (param_meets d) l.at
    ∙ ap (λ k. touch_meets (d k) l.param.access) l.kind
    ∙ ap (touch_meets (d r.kind)) l.access
    ∙ touch-met (d r.kind) r.access h

-- what a form asks of a parameter is met
pub met : (raw : RawKernel) (params : List Param) → map param_text params ≡ map (raw_param_text raw) raw.params.items → (i name x : ℕ) (f : RawForm) →
    used_fault raw i f (text_at raw name) ≡ None → IsParameter raw i name x → IsTrue (meets params x (demand_of f))
met raw params same i name x f h p =
    let u = is-used raw i name x f h p in
    demand-met raw params same x u.param (demand_of f) u.at u.demand
