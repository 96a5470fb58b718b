-- What the reader keeps of what it reads: the first nodes as they are, of all later ones only how many there are.
--
-- A node that isn't kept is late. Where it is open, so are all late nodes that began within it. It says something of a
-- kept node only if it is an operator whose left side begins with that node, and at most one such operator is open.
use Rattle.std.specs.Prelude.{◌≡◌, ◌≤◌, ◌<◌, ℕ, ◌+◌, ◌-◌, ◌^◌, ◌==◌, nat_lt, min, Bool, ◌&&◌, is_none, if◌then◌else◌, List, [], ◌∷◌, ◌++◌, length, take, get_or, replicate, slice_set, slice_index, Option, None, Some}
use Rattle.frame_grammar.specs.declared.symbols.Event.{Event}
use Rattle.kernel_raw.specs.declared.part.Part.{Part}
use Rattle.kernel_raw.specs.declared.part.Part.TheVariants as part
use Rattle.kernel_raw.specs.declared.raw.RawForm.{RawForm}
use Rattle.kernel_raw.specs.declared.raw.RawForm.TheVariants as form
use Rattle.kernel_raw.specs.declared.raw.TheConstants.{MOST_KEPT}
use Rattle.kernel_raw.specs.declared.late.Joint.{Joint}
use Rattle.kernel_raw.specs.declared.reader.Reader.{Reader}
use Rattle.kernel_raw.specs.Raw.{expr_node}
use Rattle.kernel_raw.specs.Reading.{Reading, part_of, with_part, described, begun, changed_in, is_last, is_whole, top, reading_of, nothing_read}

-- What has been read with the kept nodes alone, where MOST_KEPT stands for each late one; how many nodes have begun;
-- how many late ones are open; the one of these whose left side begins with a kept node; and how many late operators
-- that are closed begin with each kept node.
pub record Kept : Type 0 where
  pub shown : Reading
  pub count : ℕ
  pub late : ℕ
  pub joint : Option Joint
  pub joined : List ℕ

abbrev pub kept_of : Reader → Kept
kept_of r = record { shown = reading_of r; count = r.count; late = r.late; joint = r.joint; joined = r.joined.items }

abbrev pub showing : Reading → Kept → Kept
showing s k = record k { shown = s }

-- the first node of the expression that was whole last is this one
abbrev pub with_last : ℕ → Kept → Kept
with_last last k = record k { shown = record k.shown { last = last } }

-- LATE NODES

-- the kept node with which the open late node at this height begins
abbrev pub first_at : Option Joint → ℕ → ℕ
first_at None height = MOST_KEPT
first_at (Some j) height = if j.height == height then j.first else MOST_KEPT

-- when the open late node at this height is closed
abbrev pub joint_below : Option Joint → ℕ → Option Joint
joint_below None height = None
joint_below (Some j) height = if j.height == height then None else Some j

-- when a late node at this height begins, and begins with this node
abbrev pub joint_with : Option Joint → (height first : ℕ) → Option Joint
joint_with joint height first =
    if nat_lt first MOST_KEPT then Some (record { height = height; first = first }) else joint

-- a number for each kept node
abbrev pub sized : List ℕ → List ℕ
sized counts = take MOST_KEPT counts ++ replicate (MOST_KEPT - length counts) 0

-- one more at a place, if it is among those that are counted
abbrev pub one_more : ℕ → List ℕ → List ℕ
one_more place counts =
    if nat_lt place (length counts) then slice_set counts place (get_or counts place 0 + 1) else counts

-- the first node of a late node that began with this one, when this part has been read of it
abbrev pub first_left : Part → ℕ → ℕ
first_left (part.Ends f) first = MOST_KEPT
first_left _ first = first

-- the innermost late node is whole with this part
abbrev pub closed_late : Part → Kept → Kept
closed_late p k =
    let first = first_left p (first_at k.joint k.late) in
    record {
      shown = record k.shown { last = if is_whole p then first else k.shown.last };
      count = k.count;
      late = k.late - 1;
      joint = joint_below k.joint k.late;
      joined = one_more first k.joined;
    }

-- a late node begins, and its left side with this node
abbrev pub begun_late : ℕ → Kept → Kept
begun_late first k = record {
  shown = k.shown;
  count = k.count + 1;
  late = k.late + 1;
  joint = joint_with k.joint (k.late + 1) first;
  joined = sized k.joined;
}

-- ALL NODES

abbrev pub begun_kept : (at : ℕ) (owner : Option ℕ) (before : ℕ) → Kept → Kept
begun_kept at owner before k = record k { shown = begun at owner before k.shown; count = k.count + 1 }

abbrev pub kept_begun : (at : ℕ) (owner : Option ℕ) (before : ℕ) → Kept → Kept
kept_begun at owner before k =
    if nat_lt k.count MOST_KEPT then begun_kept at owner before k else begun_late (k.count - before) k

abbrev pub late_change : Part → Kept → Kept
late_change p k = if is_last p then closed_late p k else k

abbrev pub kept_change : Part → ℕ → Kept → Kept
kept_change p q k =
    if nat_lt 0 k.late then late_change p k
    else showing (changed_in p q k.count (top k.shown.opened) k.shown) k

-- no node is open
abbrev pub is_outside : Kept → Bool
is_outside k = is_none (top k.shown.opened) && k.late == 0

-- what is kept, when this has been read at this place
abbrev pub kept_part : Part → ℕ → Kept → Kept
kept_part part.Nothing q k = k
kept_part (part.Access a) q k = showing (with_part (part.Access a) q k.shown) k
kept_part (part.Container c) q k = showing (with_part (part.Container c) q k.shown) k
kept_part part.Stream q k = showing (with_part part.Stream q k.shown) k
kept_part part.Width q k = showing (with_part part.Width q k.shown) k
kept_part part.Parameter q k = showing (with_part part.Parameter q k.shown) k
kept_part part.Statement q k = kept_begun q (top k.shown.opened) 0 k
kept_part part.Atom q k = kept_begun q None 0 k
kept_part part.Operator q k = with_last (min MOST_KEPT k.count) (kept_begun q None (k.count - k.shown.last) k)
kept_part part.Number q k =
    if is_outside k then showing (described part.Number q k.shown) k else kept_begun q None 0 k
kept_part part.Name q k =
    if is_outside k then showing (described part.Name q k.shown) k else kept_change part.Name q k
kept_part (part.Ends f) q k = kept_change (part.Ends f) q k
kept_part part.Joins q k = kept_change part.Joins q k
kept_part (part.Closes f) q k = kept_change (part.Closes f) q k
kept_part part.Heads q k = kept_change part.Heads q k
kept_part part.Block q k = kept_change part.Block q k
kept_part (part.Nests f) q k = kept_change (part.Nests f) q k
kept_part part.Branches q k = kept_change part.Branches q k

abbrev pub kept_step : Kept → Event → Kept
kept_step k e = kept_part (part_of e.action) e.place k

-- FIRST EVENTS

-- what is kept after these events
abbrev pub kept_run : Kept → List Event → Kept
kept_run k [] = k
kept_run k (e ∷ es) = kept_run (kept_step k e) es

-- a node with a name begins, and is kept
abbrev pub begun_named : (at : ℕ) (owner : Option ℕ) (name : ℕ) → Kept → Kept
begun_named at owner name k =
    let nodes = k.shown.nodes ++ record {
      form = form.Number;
      at = at;
      name = name;
      owner = owner;
      before = 0;
      after = 0;
      heads = 0;
      inside = 0;
    } ∷ [] in
    record k {
      shown = record k.shown { nodes = nodes; opened = length k.shown.nodes ∷ k.shown.opened };
      count = k.count + 1;
    }

-- an atom with nothing under it has been read, and is kept
abbrev pub with_leaf : RawForm → (at name : ℕ) → Kept → Kept
with_leaf f at name k = record k {
  shown = record k.shown { nodes = k.shown.nodes ++ expr_node f at name 0 0 ∷ []; last = length k.shown.nodes };
  count = k.count + 1;
}

-- nothing that is kept grows too great by one more event, and as long as there is room all nodes are kept
pub record HasSpace (k : Kept) : Type 0 where
  pub few : k.count < 2 ^ 32
  pub nodes : length k.shown.nodes < 2 ^ 32
  pub late : k.late + 1 < 2 ^ 32
  pub joined : (n : ℕ) → slice_index k.joined n < 2 ^ 64 - 1
  pub all : k.count < MOST_KEPT → (k.count ≡ length k.shown.nodes) × (k.late ≡ 0)

-- the first events, so many of them, have been taken
pub record TakesFirst (n : ℕ) (es : List Event) (k k' : Kept) : Type 0 where
  pub some : 0 < n
  pub within : n ≤ length es
  pub kept : k' ≡ kept_run k (take n es)

abbrev pub nothing_kept : Kept
nothing_kept = record { shown = nothing_read; count = 0; late = 0; joint = None; joined = [] }
