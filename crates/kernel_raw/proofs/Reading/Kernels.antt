-- What the reader has after the events of a kernel.
use Rattle.std.proofs.Common.{◌≡◌, ℕ, zero, suc, ◌-◌, ◌<◌, ◌≤◌, ◌^◌, Bool, true, false, List, [], ◌∷◌, ◌++◌, length, drop, get_or, Option, Some, None, slice_get, take, take_all, IfSome, append_assoc, append-nil, refl, sym, ◌∙◌, ap, subst, arith}
use Rattle.std.proofs.lemmas.List.{length-append}
use Rattle.std.proofs.Math.ListN.{length-set}
use Rattle.job_base.specs.declared.Access.{Access}
use Rattle.job_base.specs.declared.Access.TheVariants.{Read, Write as WriteOnly, Both}
use Rattle.frame_grammar.specs.declared.symbols.Action.TheVariants as action
use Rattle.frame_grammar.specs.declared.symbols.Event.{Event}
use Rattle.kernel_raw.specs.declared.raw.RawNode.{RawNode}
use Rattle.kernel_raw.specs.declared.raw.RawParam.{RawParam}
use Rattle.kernel_raw.specs.declared.raw.RawKernel.{RawKernel}
use Rattle.kernel_raw.specs.declared.raw.TheConstants.{MOST_KEPT}
use Rattle.kernel_raw.specs.declared.part.Part.{Part}
use Rattle.kernel_raw.specs.declared.part.Part.TheVariants as part
use Rattle.kernel_raw.specs.RawTexts.{raw_tokens}
use Rattle.kernel_raw.specs.Raw.{RawBlock, RawExpr, Leaf, One, Two, Infix, Nothing, Simple, Nested, Branched, block_nodes, expr_nodes, parts_nodes, ExprBelow, PartsBelow, BlockBelow, ParamsBelow}
use Rattle.kernel_raw.specs.RawEvents.{on, access_action, SpellsKind, SpellsParams, SpellsBlock, SpellsRaw, opening, IsWithin, IsKernel}
use Rattle.kernel_raw.specs.RawEvents as raw
use Rattle.kernel_raw.specs.Depths.{depths_of, kept_depths}
use Rattle.kernel_raw.specs.Reading.{Reading, part_of, with_part, begun, fresh, is_parallel, named, numbered, top, changed, changed_in, replaced_if, step, run, nothing_read}
use Rattle.kernel_raw.proofs.Reading.Readings.{mk, run-append}
use Rattle.kernel_raw.proofs.Reading.Blocks.{reads_block, length-block}

-- PARAMETERS

access_read : (a : Access) (q : ℕ) (ps : List RawParam) (p : RawParam) (xs : List RawNode) (l : ℕ) →
    with_part (part_of (access_action a)) q (mk ps p xs [] l) ≡ mk ps (record p { access = a }) xs [] l
access_read Read q ps p xs l = refl
access_read WriteOnly q ps p xs l = refl
access_read Both q ps p xs l = refl

abbrev ReadsKind : List Event → RawParam → Type 0
ReadsKind ks p = (ps : List RawParam) (xs : List RawNode) (l : ℕ) → run (mk ps (fresh p.name) xs [] l) ks ≡ mk ps p xs [] l

behind_access : (a : Access) (q : ℕ) (ks events : List Event) (x : ℕ) (ps : List RawParam) (p : RawParam) (xs : List RawNode) (l : ℕ) →
    events ≡ on (access_action a) q ∷ ks → run (mk ps (record (fresh x) { access = a }) xs [] l) ks ≡ mk ps p xs [] l
    → run (mk ps (fresh x) xs [] l) events ≡ mk ps p xs [] l
behind_access a q ks events x ps p xs l is e = ap (run (mk ps (fresh x) xs [] l)) is ∙ ap (λ s. run s ks) (access_read a q ps (fresh x) xs l) ∙ e

reads_kind : {ks : List Event} {p : RawParam} → SpellsKind ks p → ReadsKind ks p
reads_kind (raw.int {x = x} q is) = λ ps xs l. ap (run (mk ps (fresh x) xs [] l)) is
reads_kind (raw.array {x = x} q r a is) = λ ps xs l. behind_access a q _ _ x ps _ xs l is refl
reads_kind (raw.wide {x = x} q r a is) = λ ps xs l. behind_access a q _ _ x ps _ xs l is refl
reads_kind (raw.list {x = x} q r a is) = λ ps xs l. behind_access a q _ _ x ps _ xs l is refl
reads_kind (raw.reference {x = x} q r a is) = λ ps xs l. behind_access a q _ _ x ps _ xs l is refl
reads_kind (raw.map {x = x} q r a is) = λ ps xs l. behind_access a q _ _ x ps _ xs l is refl
reads_kind (raw.stream {x = x} q a is) = λ ps xs l. behind_access a q _ _ x ps _ xs l is refl

-- Reading these events adds the parameters.
pub record AddsParams (es : List Event) (more : List RawParam) (ps : List RawParam) (p : RawParam) (xs : List RawNode) (l : ℕ) : Type 0 where
  pub param : RawParam
  pub is : run (mk ps p xs [] l) es ≡ mk (ps ++ more) param xs [] l

abbrev ReadsParams : List Event → List RawParam → Type 0
ReadsParams es more = (ps : List RawParam) (p : RawParam) (xs : List RawNode) (l : ℕ) → AddsParams es more ps p xs l

one_param : (q : ℕ) (ks rest : List Event) (x : RawParam) (more : List RawParam) → ReadsKind ks x → ReadsParams rest more
    → ReadsParams (on action.Name x.name ∷ ks ++ on action.Parameter q ∷ rest) (x ∷ more)
one_param q ks rest x more d h ps p xs l =
    let r = h (ps ++ x ∷ []) x xs l in
    record {
      param = r.param;
      is = run-append (mk ps (fresh x.name) xs [] l) ks (on action.Parameter q ∷ rest)
          ∙ ap (λ s. run s (on action.Parameter q ∷ rest)) (d ps xs l)
          ∙ r.is
          ∙ ap (λ qs. mk qs r.param xs [] l) (append_assoc ps (x ∷ []) more);
    }

params_along : (es events : List Event) (more : List RawParam) → events ≡ es → ReadsParams es more → ReadsParams events more
params_along es events more is h ps p xs l = let r = h ps p xs l in record { param = r.param; is = ap (run (mk ps p xs [] l)) is ∙ r.is }

reads_params : {es : List Event} {more : List RawParam} → SpellsParams es more → ReadsParams es more
reads_params (raw.none is) = params_along _ _ [] is (λ ps p xs l. record { param = p; is = ap (λ qs. mk qs p xs [] l) (sym (append-nil ps)) })
reads_params (raw.param q ks rest {p = p} {more = more} d r is) = params_along _ _ (p ∷ more) is (one_param q ks rest p more (reads_kind d) (reads_params r))

-- KERNELS

-- the events behind the kernel's name
abbrev pub parts_of : {events : List Event} {n : ℕ} → IsKernel events n → List Event
parts_of k = k.param_events ++ on action.OpenBody k.body_at ∷ k.statement_events ++ on action.CloseKernel k.end_at ∷ []

pub record HasRead (params : List RawParam) (nodes : List RawNode) (es : List Event) : Type 0 where
  pub param : RawParam
  pub last : ℕ
  pub is : run nothing_read es ≡ mk params param nodes [] last

pub reads_kernel : {events : List Event} {n : ℕ} → (k : IsKernel events n) → HasRead k.params (block_nodes None 0 k.body) (parts_of k)
reads_kernel k =
    let a = reads_params k.with_params [] (fresh 0) [] 0 in
    let b = reads_block k.with_statements k.params a.param [] [] 0 in
    record {
      param = a.param;
      last = b.last;
      is = run-append nothing_read (k.param_events ++ on action.OpenBody k.body_at ∷ k.statement_events) (on action.CloseKernel k.end_at ∷ [])
          ∙ ap (λ s. run s (on action.CloseKernel k.end_at ∷ [])) (
          run-append nothing_read k.param_events (on action.OpenBody k.body_at ∷ k.statement_events)
          ∙ ap (λ s. run s (on action.OpenBody k.body_at ∷ k.statement_events)) a.is
          ∙ b.is);
    }

-- nodes are never taken away
set_keeps : (p : Part) (q count at : ℕ) (o : Option RawNode) (s : Reading) → length s.nodes ≤ length (replaced_if p q count at o s).nodes
set_keeps p q count at None s = omega arith
set_keeps p q count at (Some n) s = omega (arith, length-set s.nodes at (changed p q (count - 1 - at) n))

changed_keeps : (p : Part) (q count : ℕ) (o : Option ℕ) (s : Reading) → length s.nodes ≤ length (changed_in p q count o s).nodes
changed_keeps p q count None s = omega arith
changed_keeps p q count (Some at) s = set_keeps p q count at (slice_get s.nodes at) s

change_keeps : (p : Part) (q : ℕ) (o : Option ℕ) (s : Reading) → length s.nodes ≤ length (changed_in p q (length s.nodes) o s).nodes
change_keeps p q o s = changed_keeps p q (length s.nodes) o s

begun_adds : (at : ℕ) (owner : Option ℕ) (before : ℕ) (s : Reading) → length s.nodes ≤ length (begun at owner before s).nodes
begun_adds at owner before s = omega (arith, length-append s.nodes ((begun at owner before (record s { nodes = [] })).nodes))

number_keeps : (os : List ℕ) (q : ℕ) (s : Reading) → length s.nodes ≤ length (numbered os q s).nodes
number_keeps [] q s = omega arith
number_keeps (o ∷ os) q s = begun_adds q None 0 s

name_keeps : (os : List ℕ) (q : ℕ) (s : Reading) → length s.nodes ≤ length (named os q s).nodes
name_keeps [] q s = omega arith
name_keeps (o ∷ os) q s = change_keeps part.Name q (top s.opened) s

part_keeps : (p : Part) (q : ℕ) (s : Reading) → length s.nodes ≤ length (with_part p q s).nodes
part_keeps part.Nothing q s = omega arith
part_keeps (part.Access a) q s = omega arith
part_keeps (part.Container k) q s = omega arith
part_keeps part.Stream q s = omega arith
part_keeps part.Width q s = omega arith
part_keeps part.Parameter q s = omega arith
part_keeps part.Statement q s = begun_adds q (top s.opened) 0 s
part_keeps part.Atom q s = begun_adds q None 0 s
part_keeps part.Operator q s = begun_adds q None (length s.nodes - s.last) s
part_keeps part.Number q s = number_keeps s.opened q s
part_keeps part.Name q s = name_keeps s.opened q s
part_keeps (part.Ends f) q s = change_keeps (part.Ends f) q (top s.opened) s
part_keeps part.Joins q s = change_keeps part.Joins q (top s.opened) s
part_keeps (part.Closes f) q s = change_keeps (part.Closes f) q (top s.opened) s
part_keeps part.Heads q s = change_keeps part.Heads q (top s.opened) s
part_keeps part.Block q s = change_keeps part.Block q (top s.opened) s
part_keeps (part.Nests f) q s = change_keeps (part.Nests f) q (top s.opened) s
part_keeps part.Branches q s = change_keeps part.Branches q (top s.opened) s

pub run_keeps : (s : Reading) (es : List Event) → length s.nodes ≤ length (run s es).nodes
run_keeps s [] = omega arith
run_keeps s (e ∷ es) = omega (arith, part_keeps (part_of e.action) e.place s, run_keeps (step s e) es)

-- PLACES

abbrev NodesBelow : ℕ → List RawNode → Type 0
NodesBelow n [] = Unit {0}
NodesBelow n (x ∷ xs) = (x.at < n) × (x.name < n) × NodesBelow n xs

below_append : (n : ℕ) (xs ys : List RawNode) → NodesBelow n xs → NodesBelow n ys → NodesBelow n (xs ++ ys)
below_append n [] ys h i = i
below_append n (x ∷ xs) ys h i = (h.0, h.1, below_append n xs ys h.2 i)

below_at : (n : ℕ) (xs : List RawNode) → NodesBelow n xs → (i : ℕ) (x : RawNode) → slice_get xs i ≡ Some x → (x.at < n) × (x.name < n)
below_at n [] h i x e = cc
below_at n (y ∷ xs) h zero x e = let same : y ≡ x = cc in subst (λ z. (z.at < n) × (z.name < n)) same (h.0, h.1)
below_at n (y ∷ xs) h (suc i) x e = below_at n xs h.2 i x e

expr_below : (n : ℕ) (e : RawExpr) → ExprBelow n e → NodesBelow n (expr_nodes e)
expr_below n (Leaf f at x) h = (h.0, h.1, tt)
expr_below n (One f at x e) h = (h.0, h.1, expr_below n e h.2)
expr_below n (Two f at x e g) h = (h.0, h.1, below_append n (expr_nodes e) (expr_nodes g) (expr_below n e h.2) (expr_below n g h.3))
expr_below n (Infix at e g) h = below_append n (expr_nodes e) _ (expr_below n e h.1) (h.0, h.0, expr_below n g h.2)

parts_below : (n : ℕ) (parts : List RawExpr) → PartsBelow n parts → NodesBelow n (parts_nodes parts)
parts_below n [] h = tt
parts_below n (e ∷ more) h = below_append n (expr_nodes e) (parts_nodes more) (expr_below n e h.0) (parts_below n more h.1)

block_below : (n : ℕ) (owner : Option ℕ) (k : ℕ) (b : RawBlock) → BlockBelow n b → NodesBelow n (block_nodes owner k b)
block_below n owner k Nothing h = tt
block_below n owner k (Simple f at x parts more) h = (h.0, h.1, below_append n (parts_nodes parts) _ (parts_below n parts h.2) (block_below n owner _ more h.3))
block_below n owner k (Nested f at x parts inner more) h = (
  h.0,
  h.1,
  below_append n (parts_nodes parts) _ (parts_below n parts h.2)
      (below_append n (block_nodes (Some k) _ inner) _ (block_below n (Some k) _ inner h.3) (block_below n owner _ more h.4)),
)
block_below n owner k (Branched at e first second more) h = (
  h.0,
  h.0,
  below_append n (expr_nodes e) _ (expr_below n e h.1) (below_append n (block_nodes (Some k) _ first) _ (block_below n (Some k) _ first h.2)
      (below_append n (block_nodes (Some k) _ second) _ (block_below n (Some k) _ second h.3) (block_below n owner _ more h.4))),
)

abbrev ParamIsBelow : ℕ → RawParam → Type 0
ParamIsBelow n p = (p.name < n) × (p.word < n) × IfSome p.width (λ w. w < n)

param_at : (n : ℕ) (ps : List RawParam) → ParamsBelow n ps → (i : ℕ) (p : RawParam) → slice_get ps i ≡ Some p → ParamIsBelow n p
param_at n [] h i p e = cc
param_at n (x ∷ ps) h zero p e = let same : x ≡ p = cc in subst (ParamIsBelow n) same (h.0, h.1, h.2)
param_at n (x ∷ ps) h (suc i) p e = param_at n ps h.3 i p e

-- THE RAW KERNEL

-- the events behind the first two
pub parts_are : {events : List Event} {n : ℕ} → (k : IsKernel events n) → take (length events - 2) (drop 2 events) ≡ parts_of k
parts_are k = ap (λ es. take (length es - 2) (drop 2 es)) k.spelled ∙ take_all _ (parts_of k) (omega arith)

pub few_nodes : {events : List Event} {n : ℕ} (k : IsKernel events n) → n < 2 ^ 32
    → length (run nothing_read (take (length events - 2) (drop 2 events))).nodes < 2 ^ 32
few_nodes k few =
    let r = reads_kernel k in
    let size = length-block None 0 k.body in
    let e = ap (λ es. length (run nothing_read es).nodes) (parts_are k) ∙ ap (λ s. length s.nodes) r.is ∙ size in
    omega (arith, e, k.few)

parallel_is : (b : Bool) → is_parallel (opening b) ≡ b
parallel_is true = refl
parallel_is false = refl

-- what stands behind the first two events
abbrev pub behind_name : List Event → List Event
behind_name events = take (length events - 2) (drop 2 events)

-- the reader has read a whole kernel
pub record HasAll (events : List Event) (n : ℕ) (k : IsKernel events n) (s : Reading) : Type 0 where
  pub nodes : s.nodes ≡ block_nodes None 0 k.body
  pub params : s.params ≡ k.params
  pub closed : s.opened ≡ []

pub has_all : (events : List Event) (n : ℕ) (k : IsKernel events n) (s : Reading) → s ≡ run nothing_read (behind_name events) → HasAll events n k s
has_all events n k s is =
    let read = reads_kernel k in
    let all : s ≡ mk k.params read.param (block_nodes None 0 k.body) [] read.last = is ∙ ap (run nothing_read) (parts_are k) ∙ read.is in
    record { nodes = ap (λ t. t.nodes) all; params = ap (λ t. t.params) all; closed = ap (λ t. t.opened) all }

pub spells_raw : (events : List Event) (n : ℕ) (k : IsKernel events n) (s : Reading) (raw : RawKernel) (d : Event) → HasAll events n k s →
    raw.parallel ≡ is_parallel (get_or events 0 d).action → raw.name ≡ (get_or events 1 d).place → raw.params.items ≡ s.params
    → raw.nodes.items ≡ take MOST_KEPT s.nodes →
    raw.depths.items ≡ kept_depths (take MOST_KEPT (depths_of s.nodes)) → SpellsRaw events raw
spells_raw events n k s raw d all parallel called params nodes depths =
    let parallel_same : k.parallel ≡ raw.parallel = sym (parallel ∙ ap (λ es. is_parallel (get_or es 0 d).action) k.spelled ∙ parallel_is k.parallel) in
    let name_same : k.name ≡ raw.name = sym (called ∙ ap (λ es. (get_or es 1 d).place) k.spelled) in
    record {
      at = k.at;
      body_at = k.body_at;
      end_at = k.end_at;
      params = k.param_events;
      statements = k.statement_events;
      body = k.body;
      spelled = k.spelled ∙ ap (λ b. on (opening b) k.at ∷ on action.Name k.name ∷ parts_of k) parallel_same
          ∙ ap (λ x. on (opening raw.parallel) k.at ∷ on action.Name x ∷ parts_of k) name_same;
      with_params = subst (λ ps. SpellsParams k.param_events ps) (sym (params ∙ all.params)) k.with_params;
      with_statements = k.with_statements;
      nodes = nodes ∙ ap (take MOST_KEPT) all.nodes;
      depths = depths ∙ ap (λ ns. kept_depths (take MOST_KEPT (depths_of ns))) all.nodes;
    }

slice_get_taken : (m : ℕ) (xs : List RawNode) (i : ℕ) (x : RawNode) → slice_get (take m xs) i ≡ Some x → slice_get xs i ≡ Some x
slice_get_taken zero xs i x e = cc
slice_get_taken (suc m) [] i x e = e
slice_get_taken (suc m) (y ∷ ys) zero x e = e
slice_get_taken (suc m) (y ∷ ys) (suc i) x e = slice_get_taken m ys i x e

pub within_raw : (events : List Event) (n : ℕ) (k : IsKernel events n) (s : Reading) (raw : RawKernel) (d : Event) → HasAll events n k s
    → n ≡ length (raw_tokens raw) →
    raw.name ≡ (get_or events 1 d).place → raw.params.items ≡ s.params → raw.nodes.items ≡ take MOST_KEPT s.nodes → IsWithin raw
within_raw events n k s raw d all size called params nodes =
    let name_same : k.name ≡ raw.name = sym (called ∙ ap (λ es. (get_or es 1 d).place) k.spelled) in
    record {
      name = subst (λ m. raw.name < m) size (subst (λ x. x < n) name_same k.name_below);
      params = λ i p e. subst (λ m. ParamIsBelow m p) size (param_at n k.params k.params_below i p (ap (λ ps. slice_get ps i) (sym (params ∙ all.params)) ∙ e));
      nodes = λ i x e. subst (λ m. (x.at < m) × (x.name < m)) size
          (below_at n (block_nodes None 0 k.body) (block_below n None 0 k.body k.body_below) i x
          (slice_get_taken MOST_KEPT (block_nodes None 0 k.body) i x (ap (λ xs. slice_get xs i) (sym (nodes ∙ ap (take MOST_KEPT) all.nodes)) ∙ e)));
    }
