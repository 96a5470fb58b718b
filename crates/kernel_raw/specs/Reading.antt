-- How the events of a kernel, one after another, make its raw form.
use Rattle.std.specs.Prelude.{ℕ, ◌-◌, Bool, true, false, List, [], ◌∷◌, ◌++◌, length, reverse, drop, slice_get, slice_set, Option, None, Some, if◌then◌else◌}
use Rattle.job_base.specs.declared.Access.TheVariants.{Read, Write as WriteOnly, Both}
use Rattle.frame_grammar.specs.declared.symbols.Action.{Action}
use Rattle.frame_grammar.specs.declared.symbols.Action.TheVariants as action
use Rattle.frame_grammar.specs.declared.symbols.Event.{Event}
use Rattle.frame_ast.specs.declared.kernel.ParamKind.TheVariants as kind
use Rattle.kernel_raw.specs.declared.raw.RawForm.TheVariants as form
use Rattle.kernel_raw.specs.declared.raw.RawNode.{RawNode}
use Rattle.kernel_raw.specs.declared.raw.RawParam.{RawParam}
use Rattle.kernel_raw.specs.declared.part.Part.{Part}
use Rattle.kernel_raw.specs.declared.part.Part.TheVariants as part
use Rattle.kernel_raw.specs.declared.reader.Reader.{Reader}

-- what an action says of the raw form
abbrev pub part_of : Action → Part
part_of action.ReadParameter = part.Access Read
part_of action.WriteParameter = part.Access WriteOnly
part_of action.ReadWriteParameter = part.Access Both
part_of action.ArrayContainer = part.Container kind.Array
part_of action.ListContainer = part.Container kind.List
part_of action.RefContainer = part.Container kind.Ref
part_of action.MapContainer = part.Container kind.Map
part_of action.StreamContainer = part.Stream
part_of action.Width = part.Width
part_of action.Parameter = part.Parameter
part_of action.StartStatement = part.Statement
part_of action.StartAtom = part.Atom
part_of action.Operator = part.Operator
part_of action.Number = part.Number
part_of action.Name = part.Name
part_of action.NumberAtom = part.Ends form.Number
part_of action.IndexAtom = part.Ends form.Index
part_of action.NameAtom = part.Ends form.Name
part_of action.PlaceAtom = part.Ends form.Element
part_of action.LenAtom = part.Ends form.Length
part_of action.HasAtom = part.Ends form.Has
part_of action.CountAtom = part.Ends form.Count
part_of action.AtAtom = part.Ends form.Item
part_of action.Unary = part.Ends form.Unary
part_of action.Binary = part.Joins
part_of action.VarStatement = part.Closes form.Var
part_of action.SetName = part.Closes form.SetName
part_of action.SetPlace = part.Closes form.SetPlace
part_of action.SetTryAdd = part.Closes form.SetTryAdd
part_of action.SetRemove = part.Closes form.SetRemove
part_of action.AddItem = part.Closes form.AddItem
part_of action.AddPair = part.Closes form.AddPair
part_of action.RemoveStatement = part.Closes form.Remove
part_of action.ClearStatement = part.Closes form.Clear
part_of action.WriteStatement = part.Closes form.Write
part_of action.BeginHead = part.Heads
part_of action.IfHead = part.Heads
part_of action.ForHead = part.Heads
part_of action.WhileHead = part.Heads
part_of action.OpenBlock = part.Block
part_of action.BeginStatement = part.Nests form.Begin
part_of action.IfStatement = part.Nests form.If
part_of action.ForStatement = part.Nests form.For
part_of action.WhileStatement = part.Nests form.While
part_of action.IfElseStatement = part.Branches
part_of _ = part.Nothing

-- What has been read: the parameters and the one that is being read, the nodes, those of them that are open, the
-- innermost first, and the first node of the expression that was whole last, or of an operator that has begun since.
pub record Reading : Type 0 where
  pub params : List RawParam
  pub param : RawParam
  pub nodes : List RawNode
  pub opened : List ℕ
  pub last : ℕ

abbrev pub reading_of : Reader → Reading
reading_of r =
    record {
      params = r.params.items;
      param = r.param;
      nodes = r.nodes.items;
      opened = reverse r.opened.items;
      last = r.last;
    }

-- a parameter of this name of which nothing else has been read
abbrev pub fresh : ℕ → RawParam
fresh x = record { name = x; kind = kind.Int; access = Read; word = x; width = None }

-- a parameter, when this has been read of it
abbrev pub param_with : Part → ℕ → RawParam → RawParam
param_with (part.Access a) q p = record p { access = a }
param_with (part.Container k) q p = record p { kind = k }
param_with part.Stream q p = record p { kind = kind.Stream; word = q }
param_with part.Width q p = record p { word = q }
param_with part.Number q p = record p { width = Some q }
param_with part.Name q p = fresh q
param_with _ q p = p

-- an open node that so many nodes stand behind, when this has been read
abbrev pub changed : Part → ℕ → ℕ → RawNode → RawNode
changed part.Name q behind n = record n { name = q }
changed (part.Ends f) q behind n = record n { form = f; before = 0; after = behind }
changed part.Joins q behind n = record n { form = form.Binary; after = behind }
changed (part.Closes f) q behind n = record n { form = f; after = behind; heads = behind }
changed part.Heads q behind n = record n { heads = behind }
changed part.Block q behind n = record n { inside = behind - n.heads }
changed (part.Nests f) q behind n = record n { form = f; after = behind; inside = behind - n.heads }
changed part.Branches q behind n = record n { form = form.IfElse; after = behind }
changed _ q behind n = n

abbrev pub is_last : Part → Bool
is_last (part.Ends f) = true
is_last part.Joins = true
is_last (part.Closes f) = true
is_last (part.Nests f) = true
is_last part.Branches = true
is_last _ = false

abbrev pub is_whole : Part → Bool
is_whole (part.Ends f) = true
is_whole part.Joins = true
is_whole _ = false

-- the innermost of the open nodes
abbrev pub top : List ℕ → Option ℕ
top [] = None
top (o ∷ os) = Some o

abbrev pub begun : (at : ℕ) (owner : Option ℕ) (before : ℕ) → Reading → Reading
begun at owner before s = record {
  params = s.params;
  param = s.param;
  nodes = s.nodes ++ record {
    form = form.Number;
    at = at;
    name = at;
    owner = owner;
    before = before;
    after = 0;
    heads = 0;
    inside = 0;
  } ∷ [];
  opened = length s.nodes ∷ s.opened;
  last = s.last;
}

-- the first node of the expression that was whole last, after this part of a node
abbrev pub last_after : Part → (at before last : ℕ) → ℕ
last_after p at before last = if is_whole p then at - before else last

abbrev pub left : Part → Reading → Reading
left p s = record s { opened = if is_last p then drop 1 s.opened else s.opened }

abbrev pub replaced : Part → (at : ℕ) → RawNode → Reading → Reading
replaced p at n s = record {
  params = s.params;
  param = s.param;
  nodes = slice_set s.nodes at n;
  opened = if is_last p then drop 1 s.opened else s.opened;
  last = last_after p at n.before s.last;
}

abbrev pub replaced_if : Part → (q count at : ℕ) → Option RawNode → Reading → Reading
replaced_if p q count at None s = s
replaced_if p q count at (Some n) s = replaced p at (changed p q (count - 1 - at) n) s

-- this open node, where so many nodes have begun
abbrev pub changed_in : Part → (q count : ℕ) → Option ℕ → Reading → Reading
changed_in p q count None s = s
changed_in p q count (Some at) s = replaced_if p q count at (slice_get s.nodes at) s

-- the innermost open node, when this has been read
abbrev pub change : Part → ℕ → Reading → Reading
change p q s = changed_in p q (length s.nodes) (top s.opened) s

-- the parameter that is being read, when this has been
abbrev pub described : Part → ℕ → Reading → Reading
described p q s = record s { param = param_with p q s.param }

abbrev pub named : List ℕ → ℕ → Reading → Reading
named [] q s = described part.Name q s
named (o ∷ os) q s = change part.Name q s

abbrev pub numbered : List ℕ → ℕ → Reading → Reading
numbered [] q s = described part.Number q s
numbered (o ∷ os) q s = begun q None 0 s

-- what has been read, when this has been read at this place
abbrev pub with_part : Part → ℕ → Reading → Reading
with_part part.Nothing q s = s
with_part (part.Access a) q s = described (part.Access a) q s
with_part (part.Container k) q s = described (part.Container k) q s
with_part part.Stream q s = described part.Stream q s
with_part part.Width q s = described part.Width q s
with_part part.Parameter q s = record s { params = s.params ++ s.param ∷ [] }
with_part part.Statement q s = begun q (top s.opened) 0 s
with_part part.Atom q s = begun q None 0 s
with_part part.Operator q s = record (begun q None (length s.nodes - s.last) s) { last = length s.nodes }
with_part part.Number q s = numbered s.opened q s
with_part part.Name q s = named s.opened q s
with_part (part.Ends f) q s = change (part.Ends f) q s
with_part part.Joins q s = change part.Joins q s
with_part (part.Closes f) q s = change (part.Closes f) q s
with_part part.Heads q s = change part.Heads q s
with_part part.Block q s = change part.Block q s
with_part (part.Nests f) q s = change (part.Nests f) q s
with_part part.Branches q s = change part.Branches q s

abbrev pub step : Reading → Event → Reading
step s e = with_part (part_of e.action) e.place s

-- after these events
abbrev pub run : Reading → List Event → Reading
run s [] = s
run s (e ∷ es) = run (step s e) es

abbrev pub nothing_read : Reading
nothing_read = record { params = []; param = fresh 0; nodes = []; opened = []; last = 0 }

-- whether an action opens a parallel kernel
abbrev pub is_parallel : Action → Bool
is_parallel action.OpenParallel = true
is_parallel _ = false
