-- Several events of a node, taken at once.
use Rattle.std.proofs.Common.{◌≡◌, ℕ, ◌+◌, ◌-◌, ◌<◌, ◌^◌, nat_lt, false, if◌then◌else◌, List, [], ◌∷◌, ◌++◌, length, take, drop, Option, Some, None, slice_get, sym, ◌∙◌, ap, subst, arith, take-add}
use Rattle.std.proofs.lemmas.List.{length-take}
use Rattle.frame_grammar.specs.declared.symbols.Action.TheVariants as action
use Rattle.frame_grammar.specs.declared.symbols.Event.{Event}
use Rattle.kernel_raw.specs.declared.late.Joint.{Joint}
use Rattle.kernel_raw.specs.declared.raw.RawForm.{RawForm}
use Rattle.kernel_raw.specs.declared.raw.RawForm.TheVariants as form
use Rattle.kernel_raw.specs.declared.raw.RawNode.{RawNode}
use Rattle.kernel_raw.specs.declared.raw.RawParam.{RawParam}
use Rattle.kernel_raw.specs.declared.raw.TheConstants.{MOST_KEPT}
use Rattle.kernel_raw.specs.declared.part.Part.{Part}
use Rattle.kernel_raw.specs.declared.part.Part.TheVariants as part
use Rattle.kernel_raw.specs.Raw.{expr_node}
use Rattle.kernel_raw.specs.RawEvents.{on}
use Rattle.kernel_raw.specs.Reading.{Reading, changed, changed_in, described, is_last, last_after, run, step, top}
use Rattle.kernel_raw.specs.Keeping.{Kept, kept_run, kept_step, kept_part, kept_change, kept_begun, begun_kept, begun_late, late_change, showing, is_outside, begun_named, with_leaf, HasSpace, TakesFirst}
use Rattle.kernel_raw.proofs.Reading.Readings.{mk, blank, change_seam, length-more, run-append}
use Rattle.kernel_raw.proofs.Reading.Keeping.{Keeps, if_true, if_false, of-lt, late-few, count-few, no-late}
use Rattle.kernel_raw.proofs.Reading.KeepingSteps.{step-keeps}

-- HOW MANY

pub takes_one : (es : List Event) (e : Event) (k k' : Kept) → slice_get es 0 ≡ Some e → k' ≡ kept_step k e → TakesFirst 1 es k k'
takes_one [] e k k' at h = cc
takes_one (x ∷ xs) e k k' at h =
    let same : e ≡ x = cc in
    record { some = omega arith; within = omega arith; kept = h ∙ ap (kept_step k) same }

pub takes_two : (es : List Event) (e f : Event) (k k' : Kept) → slice_get es 0 ≡ Some e → slice_get es 1 ≡ Some f → k' ≡ kept_step (kept_step k e) f
    → TakesFirst 2 es k k'
takes_two [] e f k k' at next h = cc
takes_two (x ∷ []) e f k k' at next h = cc
takes_two (x ∷ y ∷ xs) e f k k' at next h =
    let first : e ≡ x = cc in
    let second : f ≡ y = cc in
    record { some = omega arith; within = omega arith; kept = h ∙ ap (λ a. kept_step (kept_step k a) f) first ∙ ap (kept_step (kept_step k x)) second }

pub takes_three : (es : List Event) (e f g : Event) (k k' : Kept) → slice_get es 0 ≡ Some e → slice_get es 1 ≡ Some f → slice_get es 2 ≡ Some g →
    k' ≡ kept_step (kept_step (kept_step k e) f) g → TakesFirst 3 es k k'
takes_three [] e f g k k' at next after h = cc
takes_three (x ∷ []) e f g k k' at next after h = cc
takes_three (x ∷ y ∷ []) e f g k k' at next after h = cc
takes_three (x ∷ y ∷ z ∷ xs) e f g k k' at next after h =
    let first : e ≡ x = cc in
    let second : f ≡ y = cc in
    let third : g ≡ z = cc in
    record {
      some = omega arith;
      within = omega arith;
      kept = h ∙ ap (λ a. kept_step (kept_step (kept_step k a) f) g) first ∙ ap (λ a. kept_step (kept_step (kept_step k x) a) g) second
          ∙ ap (kept_step (kept_step (kept_step k x) y)) third;
    }

-- THE LAST NODE

-- the last node, which is open, is changed where it stands
last-changed : (pt : Part) (q : ℕ) (ps : List RawParam) (p : RawParam) (xs : List RawNode) (n : RawNode) (os : List ℕ) (l count late : ℕ) (joint : Option Joint)
    (joined : List ℕ) →
    late ≡ 0 → count ≡ length xs + 1 →
    kept_change pt q (record { shown = mk ps p (xs ++ n ∷ []) (length xs ∷ os) l; count = count; late = late; joint = joint; joined = joined })
    ≡ record {
      shown = mk ps p (xs ++ changed pt q 0 n ∷ []) (if is_last pt then os else length xs ∷ os) (last_after pt (length xs) (changed pt q 0 n).before l);
      count = count;
      late = late;
      joint = joint;
      joined = joined;
    }
last-changed pt q ps p xs n os l count late joint joined early size =
    let s = mk ps p (xs ++ n ∷ []) (length xs ∷ os) l in
    let k : Kept = record { shown = s; count = count; late = late; joint = joint; joined = joined } in
    let all : count ≡ length (xs ++ n ∷ []) = size ∙ sym (length-more xs n []) in
    if_false (nat_lt 0 late) (late_change pt k) (showing (changed_in pt q count (Some (length xs)) s) k) (ap (nat_lt 0) early)
    ∙ ap (λ c. showing (changed_in pt q c (Some (length xs)) s) k) all
    ∙ ap (λ t. showing t k) (change_seam pt q ps p xs n [] os l)

-- a node begins, and is kept
begun-early : (k : Kept) (at : ℕ) (owner : Option ℕ) → k.count < MOST_KEPT → kept_begun at owner 0 k ≡ begun_named at owner at k
begun-early k at owner room = if_true (nat_lt k.count MOST_KEPT) (begun_kept at owner 0 k) (begun_late (k.count - 0) k) (of-lt k.count MOST_KEPT room)

-- a name that is known is the node's from its beginning
named-early : (k : Kept) (at : ℕ) (owner : Option ℕ) (other name : ℕ) → HasSpace k → k.count < MOST_KEPT
    → kept_part part.Name name (begun_named at owner other k) ≡ begun_named at owner name k
named-early k at owner other name space room =
    let early = space.all room in
    last-changed part.Name name k.shown.params k.shown.param k.shown.nodes (blank at other owner 0) k.shown.opened k.shown.last
    (k.count + 1) k.late k.joint k.joined early.1
    (ap (λ n. n + 1) early.0)

-- an atom that is whole where it begins
leaf-early : (f : RawForm) (q : ℕ) (k : Kept) (at name : ℕ) → HasSpace k → k.count < MOST_KEPT
    → kept_part (part.Ends f) q (begun_named at None name k) ≡ with_leaf f at name k
leaf-early f q k at name space room =
    let early = space.all room in
    let nodes = k.shown.nodes ++ expr_node f at name 0 0 ∷ [] in
    let first : length k.shown.nodes - 0 ≡ length k.shown.nodes = omega arith in
    last-changed (part.Ends f) q k.shown.params k.shown.param k.shown.nodes (blank at name None 0) k.shown.opened k.shown.last
    (k.count + 1) k.late k.joint k.joined early.1
    (ap (λ n. n + 1) early.0)
    ∙ ap (λ n. record k { shown = record k.shown { nodes = nodes; last = n }; count = k.count + 1 }) first

-- NODES

pub takes_statement : (es : List Event) (at name : ℕ) (k k' : Kept) → slice_get es 0 ≡ Some (on action.StartStatement at)
    → slice_get es 1 ≡ Some (on action.Name name) → HasSpace k → k.count < MOST_KEPT →
    k' ≡ begun_named at (top k.shown.opened) name k → TakesFirst 2 es k k'
takes_statement es at name k k' first second space room h =
    takes_two es (on action.StartStatement at) (on action.Name name) k k' first second
    (h ∙ sym (ap (kept_part part.Name name) (begun-early k at (top k.shown.opened) room) ∙ named-early k at (top k.shown.opened) at name space room))

pub takes_name : (es : List Event) (at name : ℕ) (k k' : Kept) → slice_get es 0 ≡ Some (on action.StartAtom at) → slice_get es 1 ≡ Some (on action.Name name)
    → HasSpace k → k.count < MOST_KEPT →
    k' ≡ begun_named at None name k → TakesFirst 2 es k k'
takes_name es at name k k' first second space room h =
    takes_two es (on action.StartAtom at) (on action.Name name) k k' first second
    (h ∙ sym (ap (kept_part part.Name name) (begun-early k at None room) ∙ named-early k at None at name space room))

pub takes_named_leaf : (es : List Event) (at name q : ℕ) (k k' : Kept) → slice_get es 0 ≡ Some (on action.StartAtom at)
    → slice_get es 1 ≡ Some (on action.Name name) → slice_get es 2 ≡ Some (on action.NameAtom q) →
    HasSpace k → k.count < MOST_KEPT → k' ≡ with_leaf form.Name at name k → TakesFirst 3 es k k'
takes_named_leaf es at name q k k' first second third space room h =
    takes_three es (on action.StartAtom at) (on action.Name name) (on action.NameAtom q) k k' first second third
    (h ∙ sym (ap (λ s. kept_part (part.Ends form.Name) q (kept_part part.Name name s)) (begun-early k at None room)
    ∙ ap (kept_part (part.Ends form.Name) q) (named-early k at None at name space room) ∙ leaf-early form.Name q k at name space room))

pub takes_index : (es : List Event) (at q : ℕ) (k k' : Kept) → slice_get es 0 ≡ Some (on action.StartAtom at) → slice_get es 1 ≡ Some (on action.IndexAtom q)
    → HasSpace k → k.count < MOST_KEPT →
    k' ≡ with_leaf form.Index at at k → TakesFirst 2 es k k'
takes_index es at q k k' first second space room h =
    takes_two es (on action.StartAtom at) (on action.IndexAtom q) k k' first second
    (h ∙ sym (ap (kept_part (part.Ends form.Index) q) (begun-early k at None room) ∙ leaf-early form.Index q k at at space room))

pub takes_number : (es : List Event) (at q : ℕ) (k k' : Kept) → slice_get es 0 ≡ Some (on action.Number at) → slice_get es 1 ≡ Some (on action.NumberAtom q)
    → HasSpace k → k.count < MOST_KEPT →
    is_outside k ≡ false → k' ≡ with_leaf form.Number at at k → TakesFirst 2 es k k'
takes_number es at q k k' first second space room inside h =
    takes_two es (on action.Number at) (on action.NumberAtom q) k k' first second
    (h ∙ sym (ap (kept_part (part.Ends form.Number) q) (if_false (is_outside k) (showing (described part.Number at k.shown) k) (kept_begun at None 0 k) inside
    ∙ begun-early k at None room)
    ∙ leaf-early form.Number q k at at space room))

-- SEVERAL EVENTS

pub run-keeps : (es : List Event) (k : Kept) (s : Reading) → Keeps k s → Keeps (kept_run k es) (run s es)
run-keeps [] k s h = h
run-keeps (e ∷ es) k s h = run-keeps es (kept_step k e) (step s e) (step-keeps k s e h)

-- what the reader keeps when the next events have been taken
pub taken-keeps : (es : List Event) (s : Reading) (i n : ℕ) (k k' : Kept) → Keeps k (run s (take i es)) → TakesFirst n (drop i es) k k'
    → Keeps k' (run s (take (i + n) es))
taken-keeps es s i n k k' h t =
    let cut : run s (take (i + n) es) ≡ run (run s (take i es)) (take n (drop i es)) = ap (run s) (take-add i n es)
    ∙ run-append s (take i es) (take n (drop i es)) in
    subst (Keeps k') (sym cut) (subst (λ j. Keeps j (run (run s (take i es)) (take n (drop i es)))) (sym t.kept)
    (run-keeps (take n (drop i es)) k (run s (take i es)) h))

-- another event can be taken as long as the nodes can be counted
pub has-space : (k : Kept) (s : Reading) → Keeps k s → length s.nodes < 2 ^ 32 → HasSpace k
has-space k s h few = record {
  few = omega (arith, few, h.count);
  nodes = omega (arith, ap length h.nodes, length-take MOST_KEPT s.nodes);
  late = omega (arith, few, h.late, late-few _ _ _ _ h.are_late);
  joined = count-few k s h few;
  all = λ room.
      let none = no-late s.nodes k.joint (length s.nodes) h.lates h.are_late (omega (arith, h.count, room)) in
      (omega (arith, room, h.count, ap length h.nodes, length-take MOST_KEPT s.nodes), h.late ∙ ap length none);
}
