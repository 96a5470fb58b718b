-- The words of containers: the bind of a container, of what a name stands for, and of what a job is given.
use Rattle.std.specs.Prelude.{ℕ, ◌+◌, false, not, nat_eq, List, [], ◌∷◌, length}
use Rattle.frame_ast.specs.declared.kernel.ParamKind.{ParamKind}
use Rattle.frame_ast.specs.declared.kernel.ParamKind.TheVariants.{Int as IntKind, Array as ArrayKind, List as ListKind, Ref as RefKind, Map as MapKind, Stream as StreamKind}
use Rattle.frame_ast.specs.declared.kernel.Param.{Param}
use Rattle.frame_ast.specs.declared.script.Arg.{Arg}
use Rattle.frame_ast.specs.declared.script.Arg.TheVariants.{Name, Number}
use Rattle.frame_ast.specs.Contents.{Contents, Cells, Single, Items, Pairs, Entries}
use Rattle.frame_ast.specs.Ranges.{Starts}
use Rattle.frame_ast.specs.States.{ScriptState, Value, container_at, contents_at}
use Rattle.native_map.specs.Table.{map_at}
use Rattle.kernel_exec.specs.declared.binds.Bind.{Bind}
use Rattle.kernel_exec.specs.declared.binds.Bind.TheVariants.{Int, Array, View, List as WholeList, Ref, Map, Stream}

-- The bind of a whole container that starts at a word. It rests on the form of the contents alone.
abbrev pub bind_of : ℕ → Contents → Bind
bind_of start (Cells xs) = Array (record { start = start; len = length xs }) 0
bind_of start (Single z) = Ref (record { start = start })
bind_of start (Items cap xs) = WholeList (record { start = start; cap = cap })
bind_of start (Pairs cap ps) = Map (map_at start cap)
bind_of start (Entries room es) = Stream (record { start = start; count = length es; room = room }) false

-- its elements as an array, with the width of the own-index rule
abbrev pub array_of : ℕ → ℕ → Contents → Bind
array_of width start (Cells xs) = Array (record { start = start; len = length xs }) width
array_of width start (Single z) = bind_of start (Single z)
array_of width start (Items cap xs) = View (record { start = start; cap = cap }) width
array_of width start (Pairs cap ps) = bind_of start (Pairs cap ps)
array_of width start (Entries room es) = bind_of start (Entries room es)

abbrev pub slice_of : ℕ → ℕ → ℕ → ℕ → Bind
slice_of width start from len = Array (record { start = start + from; len = len }) width

-- What a name stands for, as the script's own statements use it: no own-index rule holds.
abbrev pub bind_for : Value → ℕ → Contents → Bind
bind_for Value.Dead start c = bind_of start c
bind_for (Value.Whole n) start c = bind_of start c
bind_for (Value.Slice n from len) start c = slice_of 0 start from len
bind_for (Value.View n number) start c = array_of 0 start c
bind_for (Value.Handle jobs) start c = bind_of start c

-- what it stands for as an array
abbrev pub array_for : ℕ → Value → ℕ → Contents → Bind
array_for width Value.Dead start c = bind_of start c
array_for width (Value.Whole n) start c = array_of width start c
array_for width (Value.Slice n from len) start c = slice_of width start from len
array_for width (Value.View n number) start c = array_of width start c
array_for width (Value.Handle jobs) start c = bind_of start c

abbrev pub stream_of : ℕ → ℕ → Contents → Bind
stream_of width start (Cells xs) = bind_of start (Cells xs)
stream_of width start (Single z) = bind_of start (Single z)
stream_of width start (Items cap xs) = bind_of start (Items cap xs)
stream_of width start (Pairs cap ps) = bind_of start (Pairs cap ps)
stream_of width start (Entries room es) =
    Stream (record { start = start; count = length es; room = room }) (not (nat_eq width 0))

-- What a job is given for a parameter of a kind, with the width of the own-index rule.
abbrev pub bind_as : ParamKind → ℕ → Value → ℕ → Contents → Bind
bind_as IntKind width v start c = bind_of start c
bind_as ArrayKind width v start c = array_for width v start c
bind_as ListKind width v start c = bind_of start c
bind_as RefKind width v start c = bind_of start c
bind_as MapKind width v start c = bind_of start c
bind_as StreamKind width v start c = stream_of width start c

-- the word at which the container of a name starts
abbrev pub start_at : Starts → ScriptState → ℕ → ℕ
start_at starts s name = starts (s.range (container_at s name))

abbrev pub bind_at : Starts → ScriptState → ℕ → Bind
bind_at starts s name = bind_for (s.values name) (start_at starts s name) (contents_at s name)

abbrev pub bind_of_container : Starts → ScriptState → ℕ → Bind
bind_of_container starts s c = bind_of (starts (s.range c)) (s.contents c)

abbrev pub bind_by : Starts → ScriptState → Param → ℕ → Arg → Bind
bind_by starts s p width (Name n) = bind_as p.kind width (s.values n) (start_at starts s n) (contents_at s n)
bind_by starts s p width (Number z) = Int z

-- the binds of a job, by its parameters and their widths
abbrev pub binds_by : Starts → ScriptState → List Param → List ℕ → List Arg → List Bind
binds_by starts s [] widths args = []
binds_by starts s (p ∷ ps) [] args = []
binds_by starts s (p ∷ ps) (w ∷ ws) [] = []
binds_by starts s (p ∷ ps) (w ∷ ws) (a ∷ as_) = bind_by starts s p w a ∷ binds_by starts s ps ws as_
