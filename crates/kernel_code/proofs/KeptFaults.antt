-- The first fault of the kept nodes of a kernel is that of all of its nodes.
use Rattle.std.proofs.Common.{ℕ, zero, suc, ◌≡◌, ◌<◌, ◌≤◌, ◌+◌, ◌&&◌, ◌||◌, Bool, true, false, nat_lt, nat_le, eqb, if◌then◌else◌, List, [], ◌∷◌, ◌++◌, Option, Some, None, slice_get, length, take, Vec, Global, refl, sym, ap, subst, ◌∙◌, arith}
use Rattle.std.specs.Prelude.{unwrap_or, is_some, option_map}
use Rattle.std.specs.Option.{option_or}
use Rattle.std.specs.Str.{bytes_eq}
use Rattle.std.proofs.lemmas.List.{length-take, take-take}
use Rattle.std.proofs.lemmas.Option.{slice_get_past}
use Rattle.std.proofs.lemmas.Bool.Decides.{nat_tests}
use Rattle.job_base.specs.declared.limits.TheConstants.{MOST_LOCALS, MOST_NODES, MOST_DEPTH}
use Rattle.frame_ast.specs.declared.kernel.FaultKind.{FaultKind}
use Rattle.frame_ast.specs.declared.kernel.FaultKind.TheVariants.{DuplicateName, Limit}
use Rattle.frame_ast.specs.declared.kernel.Kernel.{Kernel}
use Rattle.frame_ast.specs.Lists.{some_if}
use Rattle.kernel_raw.specs.declared.raw.RawForm.{RawForm}
use Rattle.kernel_raw.specs.declared.raw.RawForm.TheVariants as form
use Rattle.kernel_raw.specs.declared.raw.RawNode.{RawNode}
use Rattle.kernel_raw.specs.declared.raw.RawParam.{RawParam}
use Rattle.kernel_raw.specs.declared.raw.RawKernel.{RawKernel}
use Rattle.kernel_raw.specs.declared.raw.TheConstants.{MOST_KEPT}
use Rattle.kernel_raw.specs.declared.fault.StaticFault.{StaticFault}
use Rattle.kernel_code.specs.declared.check.names.Named.{Named}
use Rattle.kernel_code.specs.declared.check.names.Named.TheVariants.{Parameter, Variable, LoopVariable}
use Rattle.kernel_code.specs.declared.check.names.Local.{Local}
use Rattle.kernel_raw.specs.RawTexts.{text_at, depth_at}
use Rattle.kernel_code.specs.Scopes.{declares, is_loop, end_in, end_within, block_end, local_of, local_if, locals_from, locals_before, parameter, in_scope, local_among, meaning_of, is_begin, is_inside, is_number, begun_among, is_begun}
use Rattle.kernel_code.specs.StaticFaults.{lowest, length_fault, param_fault_of, use_fault, answer_fault, declared_fault, token_fault, size_fault, used_fault, name_fault, fault_at, first_of_two, node_fault, nodes_fault, first_fault, kernel_name_fault, params_fault, param_name_fault, param_kind_fault}
use Rattle.kernel_raw.proofs.Reading.Keeping.{lt-of, ge-of, of-lt, get-take}

-- TOO MANY NODES

either : {A : Type 0} (b : Bool) (x y : A) → (z : A) × ((if b then Some x else Some y) ≡ Some z)
either true x y = (x, refl)
either false x y = (y, refl)

lowest-right : (a : Option FaultKind) (b : FaultKind) → (z : FaultKind) × (lowest a (Some b) ≡ Some z)
lowest-right None b = (b, refl)
lowest-right (Some a) b = either _ a b

lowest-left : (a : FaultKind) (b : Option FaultKind) → (z : FaultKind) × (lowest (Some a) b ≡ Some z)
lowest-left a None = (a, refl)
lowest-left a (Some b) = either _ a b

two-some : (at : ℕ) (a : FaultKind) (name : ℕ) (b : Option FaultKind) → (z : StaticFault) × (first_of_two at (Some a) name b ≡ Some z)
two-some at a name b = cases (eqb at name)
  where
    cases : (same : Bool) → (z : StaticFault) × ((if same then fault_at at (lowest (Some a) b) else option_or (fault_at at (Some a)) (fault_at name b))
        ≡ Some z)
    cases true = let low = lowest-left a b in (record { at = at; kind = low.0 }, ap (fault_at at) low.1)
    cases false = (record { at = at; kind = a }, refl)

over-true : (i : ℕ) (b : Bool) → MOST_NODES ≤ i → (nat_le MOST_NODES i || b) ≡ true
over-true i b h = let over : nat_le MOST_NODES i ≡ true = grind (arith, nat_tests) in ap (λ c. c || b) over

-- a node that is one too many has a fault
over-some : (raw : RawKernel) (i : ℕ) (node : RawNode) → MOST_NODES ≤ i → (z : StaticFault) × (node_fault raw i node ≡ Some z)
over-some raw i node h =
    let size : size_fault raw i ≡ Some Limit = ap (λ b. some_if b Limit) (over-true i (nat_lt MOST_DEPTH (depth_at raw i)) h) in
    let token = token_fault raw i node.at node.form in
    let name = name_fault raw i node.name node.form in
    let low = lowest-right token Limit in
    let two = two-some node.at low.0 node.name name in
    (two.0, ap (λ s. first_of_two node.at (lowest token s) node.name name) size ∙ ap (λ l. first_of_two node.at l node.name name) low.1 ∙ two.1)

-- no fault of a later node comes first
first-taken : (raw : RawKernel) (m i : ℕ) (nodes : List RawNode) → i + m ≡ MOST_NODES → nodes_fault raw i (take (suc m) nodes) ≡ nodes_fault raw i nodes
first-taken raw m i [] h = refl
first-taken raw zero i (node ∷ more) h =
    let over = over-some raw i node (omega arith) in
    ap (λ o. option_or o None) over.1 ∙ sym (ap (λ o. option_or o (nodes_fault raw (i + 1) more)) over.1)
first-taken raw (suc m) i (node ∷ more) h = ap (option_or (node_fault raw i node)) (first-taken raw m (i + 1) more (omega arith))

-- LOCALS OF THE KEPT NODES

-- at node i, these locals are seen alike
record SeenAlike (i : ℕ) (l m : Local) : Type 0 where
  name : l.name ≡ m.name
  loop : l.is_loop ≡ m.is_loop
  scope : in_scope i l ≡ in_scope i m

abbrev AllAlike : ℕ → List Local → List Local → Type 0
AllAlike i [] [] = Unit {0}
AllAlike i (l ∷ ls) (m ∷ ms) = SeenAlike i l m × AllAlike i ls ms
AllAlike i [] (m ∷ ms) = ⊥
AllAlike i (l ∷ ls) [] = ⊥

module _ (all kept : List RawNode) (is : kept ≡ take MOST_KEPT all) where
  kept-few : length kept ≤ MOST_KEPT
  kept-few = omega (arith, ap length is, length-take MOST_KEPT all)

  kept-within : length kept ≤ length all
  kept-within = omega (arith, ap length is, length-take MOST_KEPT all)

  both-within : (i : ℕ) → i < length kept → nat_lt i (length kept) ≡ nat_lt i (length all)
  both-within i h = of-lt i (length kept) h ∙ sym (of-lt i (length all) (omega (arith, h, kept-within)))

  end-past : (i d p : ℕ) (owner : RawNode) → i < p → nat_lt i (end_in d p owner) ≡ true
  end-past i d p owner h = of-lt i (end_in d p owner) (cases (nat_lt d (p + 1 + owner.heads + owner.inside)))
    where
      cases : (b : Bool) → i < (if b then p + 1 + owner.heads + owner.inside else p + 1 + owner.after)
      cases true = omega (arith, h)
      cases false = omega (arith, h)

  within-same : (i d p : ℕ) (o : Option RawNode) → i < length kept → nat_lt i (end_within kept d p o) ≡ nat_lt i (end_within all d p o)
  within-same i d p None h = both-within i h
  within-same i d p (Some owner) h = refl

  past-same : (i d p : ℕ) (o : Option RawNode) → i < length kept → i < p → nat_lt i (length kept) ≡ nat_lt i (end_within all d p o)
  past-same i d p None h lt = both-within i h
  past-same i d p (Some owner) h lt = of-lt i (length kept) h ∙ sym (end-past i d p owner lt)

  end-same : (i d : ℕ) (owner : Option ℕ) → i < length kept → nat_lt i (block_end kept d owner) ≡ nat_lt i (block_end all d owner)
  end-same i d None h = both-within i h
  end-same i d (Some p) h = cases (nat_lt p MOST_KEPT) refl
    where
      cases : (b : Bool) → nat_lt p MOST_KEPT ≡ b → nat_lt i (end_within kept d p (slice_get kept p)) ≡ nat_lt i (end_within all d p (slice_get all p))
      cases true e =
          let same : slice_get kept p ≡ slice_get all p = ap (λ ns. slice_get ns p) is ∙ get-take MOST_KEPT all p (lt-of p MOST_KEPT e) in
          ap (λ o. nat_lt i (end_within kept d p o)) same ∙ within-same i d p (slice_get all p) h
      cases false e =
          let past = ge-of p MOST_KEPT e in
          ap (λ o. nat_lt i (end_within kept d p o)) (slice_get_past kept p (omega (arith, past, kept-few)))
          ∙ past-same i d p (slice_get all p) h (omega (arith, past, kept-few, h))

  local-alike : (i d : ℕ) (node : RawNode) → i < length kept → SeenAlike i (local_of kept d node) (local_of all d node)
  local-alike i d node h = cases (is_loop node.form)
    where
      inner : Local
      inner = record { name = node.name; start = d + 1 + node.heads; end = d + 1 + node.heads + node.inside; is_loop = true }

      outer : List RawNode → Local
      outer nodes = record { name = node.name; start = d + 1 + node.after; end = block_end nodes d node.owner; is_loop = false }

      cases : (b : Bool) → SeenAlike i (if b then inner else outer kept) (if b then inner else outer all)
      cases true = record { name = refl; loop = refl; scope = refl }
      cases false = record { name = refl; loop = refl; scope = ap (λ b. nat_le (d + 1 + node.after) i && b) (end-same i d node.owner h) }

  locals-alike : (i d : ℕ) (nodes : List RawNode) → i < length kept → AllAlike i (locals_from kept d nodes) (locals_from all d nodes)
  locals-alike i d [] h = tt
  locals-alike i d (node ∷ more) h = cases (declares node.form) (locals-alike i (d + 1) more h)
    where
      cases : (b : Bool) → AllAlike i (locals_from kept (d + 1) more) (locals_from all (d + 1) more) →
          AllAlike i (local_if b (local_of kept d node) ++ locals_from kept (d + 1) more) (local_if b (local_of all d node) ++ locals_from all (d + 1) more)
      cases true rest = (local-alike i d node h, rest)
      cases false rest = rest

length-alike : (i : ℕ) (ls ms : List Local) → AllAlike i ls ms → length ls ≡ length ms
length-alike i [] [] h = refl
length-alike i [] (m ∷ ms) h = absurd h
length-alike i (l ∷ ls) [] h = absurd h
length-alike i (l ∷ ls) (m ∷ ms) h = ap suc (length-alike i ls ms h.1)

-- FAULTS OF THE KEPT NODES

module _ (whole : RawKernel) (ns : Vec RawNode Global) (ds : Vec ℕ Global) (is : ns.items ≡ take MOST_KEPT whole.nodes.items)
    (deep : ds.items ≡ take MOST_KEPT whole.depths.items) where
  among-alike : (i : ℕ) (text : List ℕ) (k : ℕ) (ls ms : List Local) → AllAlike i ls ms
      → local_among (record whole { nodes = ns; depths = ds }) i text k ls ≡ local_among whole i text k ms
  among-alike i text k [] [] h = refl
  among-alike i text k [] (m ∷ ms) h = absurd h
  among-alike i text k (l ∷ ls) [] h = absurd h
  among-alike i text k (l ∷ ls) (m ∷ ms) h =
      let more = among-alike i text (k + 1) ls ms h.1 in
      λ j. if h.0.scope j && bytes_eq (text_at whole (h.0.name j)) text then Some (if h.0.loop j then LoopVariable k else Variable k) else more j

  before-same : (i : ℕ) → i < length ns.items → take i ns.items ≡ take i whole.nodes.items
  before-same i h = ap (take i) is ∙ take-take i MOST_KEPT whole.nodes.items (omega (arith, h, kept-few whole.nodes.items ns.items is))

  before-alike : (i : ℕ) → i < length ns.items → AllAlike i (locals_before ns.items i) (locals_before whole.nodes.items i)
  before-alike i h = subst (λ nodes. AllAlike i (locals_before ns.items i) (locals_from whole.nodes.items 0 nodes)) (before-same i h)
      (locals-alike whole.nodes.items ns.items is i 0 (take i ns.items) h)

  meaning-same : (i : ℕ) (text : List ℕ) → i < length ns.items → meaning_of (record whole { nodes = ns; depths = ds }) i text ≡ meaning_of whole i text
  meaning-same i text h = ap (option_or (option_map (λ x. Parameter x) (parameter whole text))) (among-alike i text 0 _ _ (before-alike i h))

  begun-same : (x i b : ℕ) (nodes : List RawNode) → begun_among (record whole { nodes = ns; depths = ds }) x i b nodes ≡ begun_among whole x i b nodes
  begun-same x i b [] = refl
  begun-same x i b (node ∷ more) = ap (λ c. (is_begin node.form && (is_inside i b node && is_number x (parameter whole (text_at whole node.name)))) || c)
      (begun-same x i (b + 1) more)

  is-begun-same : (i x : ℕ) → i < length ns.items → is_begun (record whole { nodes = ns; depths = ds }) i x ≡ is_begun whole i x
  is-begun-same i x h = begun-same x i 0 (take i ns.items) ∙ ap (begun_among whole x i 0) (before-same i h)

  answer-same : (o : Option Named) → answer_fault (record whole { nodes = ns; depths = ds }) o ≡ answer_fault whole o
  answer-same None = refl
  answer-same (Some (Variable k)) = refl
  answer-same (Some (LoopVariable k)) = refl
  answer-same (Some (Parameter x)) = refl

  use-same : (i : ℕ) (f : RawForm) (o : Option Named) → i < length ns.items → use_fault (record whole { nodes = ns; depths = ds }) i f o ≡ use_fault whole i f o
  use-same i f None h = refl
  use-same i f (Some (Variable k)) h = refl
  use-same i f (Some (LoopVariable k)) h = refl
  use-same i f (Some (Parameter x)) h = ap (λ b. param_fault_of f b (slice_get whole.params.items x)) (is-begun-same i x h)

  used-same : (i : ℕ) (f : RawForm) (text : List ℕ) → i < length ns.items
      → used_fault (record whole { nodes = ns; depths = ds }) i f text ≡ used_fault whole i f text
  used-same i f text h = ap (λ o. lowest o (length_fault text)) (use-same i f _ h ∙ ap (use_fault whole i f) (meaning-same i text h))

  declared-same : (i : ℕ) (text : List ℕ) → i < length ns.items → declared_fault (record whole { nodes = ns; depths = ds }) i text ≡ declared_fault whole i text
  declared-same i text h =
      let meaning = meaning-same i text h in
      let count = length-alike i _ _ (before-alike i h) in
      λ j. lowest (some_if (is_some (meaning j)) DuplicateName) (lowest (some_if (nat_le MOST_LOCALS (count j)) Limit) (length_fault text))

  answered-same : (i at : ℕ) → i < length ns.items → answer_fault (record whole { nodes = ns; depths = ds })
      (meaning_of (record whole { nodes = ns; depths = ds }) i (text_at whole at)) ≡ answer_fault whole (meaning_of whole i (text_at whole at))
  answered-same i at h = answer-same _ ∙ ap (answer_fault whole) (meaning-same i (text_at whole at) h)

  token-same : (i at : ℕ) (f : RawForm) → i < length ns.items → token_fault (record whole { nodes = ns; depths = ds }) i at f ≡ token_fault whole i at f
  token-same i at form.Number h = refl
  token-same i at form.Index h = refl
  token-same i at form.Name h = refl
  token-same i at form.Element h = refl
  token-same i at form.Length h = refl
  token-same i at form.Has h = refl
  token-same i at form.Count h = refl
  token-same i at form.Item h = refl
  token-same i at form.Unary h = refl
  token-same i at form.Binary h = refl
  token-same i at form.Var h = refl
  token-same i at form.SetName h = refl
  token-same i at form.SetPlace h = refl
  token-same i at form.SetTryAdd h = ap (λ o. lowest o (length_fault (text_at whole at))) (answered-same i at h)
  token-same i at form.SetRemove h = ap (λ o. lowest o (length_fault (text_at whole at))) (answered-same i at h)
  token-same i at form.AddItem h = refl
  token-same i at form.AddPair h = refl
  token-same i at form.Remove h = refl
  token-same i at form.Clear h = refl
  token-same i at form.Write h = refl
  token-same i at form.Begin h = refl
  token-same i at form.If h = refl
  token-same i at form.IfElse h = refl
  token-same i at form.For h = refl
  token-same i at form.While h = refl

  name-same : (i name : ℕ) (f : RawForm) → i < length ns.items → name_fault (record whole { nodes = ns; depths = ds }) i name f ≡ name_fault whole i name f
  name-same i name form.Number h = refl
  name-same i name form.Index h = refl
  name-same i name form.Name h = used-same i form.Name (text_at whole name) h
  name-same i name form.Element h = used-same i form.Element (text_at whole name) h
  name-same i name form.Length h = used-same i form.Length (text_at whole name) h
  name-same i name form.Has h = used-same i form.Has (text_at whole name) h
  name-same i name form.Count h = used-same i form.Count (text_at whole name) h
  name-same i name form.Item h = used-same i form.Item (text_at whole name) h
  name-same i name form.Unary h = refl
  name-same i name form.Binary h = refl
  name-same i name form.Var h = declared-same i (text_at whole name) h
  name-same i name form.SetName h = used-same i form.SetName (text_at whole name) h
  name-same i name form.SetPlace h = used-same i form.SetPlace (text_at whole name) h
  name-same i name form.SetTryAdd h = used-same i form.SetTryAdd (text_at whole name) h
  name-same i name form.SetRemove h = used-same i form.SetRemove (text_at whole name) h
  name-same i name form.AddItem h = used-same i form.AddItem (text_at whole name) h
  name-same i name form.AddPair h = used-same i form.AddPair (text_at whole name) h
  name-same i name form.Remove h = used-same i form.Remove (text_at whole name) h
  name-same i name form.Clear h = used-same i form.Clear (text_at whole name) h
  name-same i name form.Write h = used-same i form.Write (text_at whole name) h
  name-same i name form.Begin h = used-same i form.Begin (text_at whole name) h
  name-same i name form.If h = refl
  name-same i name form.IfElse h = refl
  name-same i name form.For h = declared-same i (text_at whole name) h
  name-same i name form.While h = refl

  depth-same : (i : ℕ) → i < length ns.items → depth_at (record whole { nodes = ns; depths = ds }) i ≡ depth_at whole i
  depth-same i h =
      ap (λ xs. unwrap_or (slice_get xs i) 0) deep
      ∙ ap (λ o. unwrap_or o 0) (get-take MOST_KEPT whole.depths.items i (omega (arith, h, kept-few whole.nodes.items ns.items is)))

  node-same : (i : ℕ) (node : RawNode) → i < length ns.items → node_fault (record whole { nodes = ns; depths = ds }) i node ≡ node_fault whole i node
  node-same i node h =
      let token = token-same i node.at node.form h in
      let depth = depth-same i h in
      let name = name-same i node.name node.form h in
      λ j. first_of_two node.at (lowest (token j) (some_if (nat_le MOST_NODES i || nat_lt MOST_DEPTH (depth j)) Limit)) node.name (name j)

  front-same : (i : ℕ) (nodes : List RawNode) → i + length nodes ≤ length ns.items
      → nodes_fault (record whole { nodes = ns; depths = ds }) i nodes ≡ nodes_fault whole i nodes
  front-same i [] h = refl
  front-same i (node ∷ more) h =
      let one = node-same i node (omega (arith, h)) in
      let rest = front-same (i + 1) more (omega (arith, h)) in
      λ j. option_or (one j) (rest j)

  -- A kernel whose later nodes are left out has the same first fault.
  pub same_nodes_fault : nodes_fault (record whole { nodes = ns; depths = ds }) 0 ns.items ≡ nodes_fault whole 0 whole.nodes.items
  same_nodes_fault =
      front-same 0 ns.items (omega arith) ∙ ap (nodes_fault whole 0) is ∙ first-taken whole MOST_NODES 0 whole.nodes.items (omega arith)

  kind-same : (p : RawParam) (width : Option ℕ) → param_kind_fault (record whole { nodes = ns; depths = ds }) p width ≡ param_kind_fault whole p width
  kind-same p None = refl
  kind-same p (Some at) = refl

  params-same : (k : ℕ) (ps : List RawParam) → params_fault (record whole { nodes = ns; depths = ds }) k ps ≡ params_fault whole k ps
  params-same k [] = refl
  params-same k (p ∷ more) =
      let kind = kind-same p p.width in
      let rest = params-same (k + 1) more in
      λ j. option_or (option_or (fault_at p.name (param_name_fault whole k (text_at whole p.name))) (kind j)) (rest j)

  pub same_first_fault : (earlier : List Kernel) → first_fault (record whole { nodes = ns; depths = ds }) earlier ≡ first_fault whole earlier
  same_first_fault earlier =
      let head = params-same 0 whole.params.items in
      let nodes = same_nodes_fault in
      λ j. option_or (fault_at whole.name (kernel_name_fault earlier (text_at whole whole.name))) (option_or (head j) (nodes j))
