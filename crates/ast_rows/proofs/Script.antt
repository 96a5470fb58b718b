-- Scripts as they are written: a tree for each, and what its output and status compute to.
use Prim.Native.String.{String}
use Rattle.std.proofs.Common.{◌≡◌, ap, ◌∙◌, codes, ℕ, ◌+◌, pos, ℤ, Bool, true, false, List, [], ◌∷◌, ◌++◌, length, map, Option, Some, None}
use Rattle.std.specs.Prelude.{unwrap_or}
use Rattle.std.specs.List.{position}
use Rattle.std.specs.Str.{bytes_eq}
use Rattle.frame_ast.specs.declared.script.Life.{Life}
use Rattle.frame_ast.specs.declared.script.Sign.{Sign}
use Rattle.frame_ast.specs.declared.script.Arg.{Arg}
use Rattle.frame_ast.specs.declared.script.Order.{Order}
use Rattle.frame_ast.specs.declared.script.Statement.{Statement}
use Rattle.frame_ast.specs.declared.script.Script.{Script}
use Rattle.frame_ast.specs.JobRuns.{Run}
use Rattle.frame_ast.specs.States.{ScriptState}
use Rattle.frame_ast.specs.Orders.{Table, setting}
use Rattle.frame_ast.specs.Scripts.{final, output_at, status_at, output_of, status_of}
use Rattle.ast_rows.proofs.Trees.{Place, boxed, vec}
use Rattle.ast_rows.proofs.Kernel.{kernel, run, same_runs}
use Rattle.ast_rows.proofs.Kernels.{kernels}

-- a name as its number among some names
abbrev pub number_of : List String → String → ℕ
number_of names name = unwrap_or (position (λ n. bytes_eq (codes n) (codes name)) names) (length names)

-- A statement, by what its names are numbers of; one with a literal stands apart, since literals are numbered too.
pub data Said : Type 0 where
  says : (Place → (String → ℕ) → Order) → Said
  fills : String → Life → List ℤ → Said

-- MAKING CONTAINERS

abbrev pub array_for : Life → String → ℕ → Said
array_for life x n = says (λ at number. Order.Array (number x) n life None)

abbrev pub array : String → ℕ → Said
array x n = array_for Life.Persistent x n

abbrev pub array_of_for : Life → String → List ℕ → Said
array_of_for life x values = fills x life (map (λ n. pos n) values)

-- `array x 2 = 5 6`
abbrev pub array_of : String → List ℕ → Said
array_of x values = array_of_for Life.Persistent x values

abbrev pub column : String → String → Said
column x name = says (λ at number. Order.Column (number x) (vec at (codes name)) Life.Persistent)

abbrev pub list : String → ℕ → Said
list x cap = says (λ at number. Order.List (number x) cap Life.Persistent)

abbrev pub reference : String → Said
reference x = says (λ at number. Order.Reference (number x) Life.Persistent None)

-- `reference x = 7`
abbrev pub reference_of : String → ℕ → Said
reference_of x n = says (λ at number. Order.Reference (number x) Life.Persistent (Some (pos n)))

abbrev pub map_ : String → ℕ → Said
map_ x cap = says (λ at number. Order.Map (number x) cap Life.Persistent)

abbrev pub stream : String → ℕ → ℕ → Said
stream x count room = says (λ at number. Order.Stream (number x) count room Life.Persistent)

abbrev pub slice : String → String → ℕ → ℕ → Said
slice x of start len = says (λ at number. Order.Slice (number x) (number of) start len)

abbrev pub view : String → String → Said
view x of = says (λ at number. Order.View (number x) (number of))

abbrev pub copy : String → String → Said
copy x of = says (λ at number. Order.Copy (number x) (number of))

-- USING THEM

-- `set x 0 = 9`
abbrev pub set : String → ℕ → ℕ → Said
set x i n = says (λ at number. Order.Set (number x) (Some (pos i)) (pos n))

-- `set x = 9`
abbrev pub set_to : String → ℕ → Said
set_to x n = says (λ at number. Order.Set (number x) None (pos n))

abbrev pub add : String → ℕ → Said
add x n = says (λ at number. Order.Add (number x) (pos n) None)

abbrev pub add_pair : String → ℕ → ℕ → Said
add_pair x key n = says (λ at number. Order.Add (number x) (pos key) (Some (pos n)))

abbrev pub put : String → ℕ → ℕ → Said
put x key n = says (λ at number. Order.Put (number x) (pos key) (pos n))

abbrev pub remove : String → ℕ → Said
remove x n = says (λ at number. Order.Remove (number x) (pos n))

abbrev pub clear : String → Said
clear x = says (λ at number. Order.Clear (number x))

abbrev pub setcapacity : String → ℕ → Said
setcapacity x n = says (λ at number. Order.SetCapacity (number x) n)

abbrev pub print : String → Said
print x = says (λ at number. Order.Print (number x))

-- JOBS

-- what a schedule says after its arguments: `cut 4 2` is `4 2`, and a parameter after `waive` is given by its number
pub record Options : Type 0 where
  pub length : Option (ℕ × ℕ)
  pub list : Option (String × ℕ)
  pub waived : List ℕ
  pub handles : List String
  -- the numbers among the arguments, which stand behind the names
  pub numbers : List ℕ

abbrev pub plain : Options
plain = record { length = None; list = None; waived = []; handles = []; numbers = [] }

abbrev pub after : List String → Options → Options
after handles o = record o { handles = handles }

abbrev pub cut : ℕ → ℕ → Options → Options
cut n batch o = record o { length = Some (n, batch) }

abbrev pub defer : String → ℕ → Options → Options
defer l batch o = record o { list = Some (l, batch) }

abbrev pub waive : List ℕ → Options → Options
waive params o = record o { waived = params }

abbrev pub numbers : List ℕ → Options → Options
numbers ns o = record o { numbers = ns }

abbrev numbered_list : (String → ℕ) → Option (String × ℕ) → Option (ℕ × ℕ)
numbered_list number None = None
numbered_list number (Some l) = Some (number l.0, l.1)

abbrev scheduled : Bool → String → String → List String → Options → Said
scheduled auto handle kernel args o = says (λ at number. Order.Schedule (boxed at (record {
  auto = auto;
  handle = number handle;
  kernel = number_of (map (λ k. k.name) kernels) kernel;
  args = vec at (map (λ a. Arg.Name (number a)) args ++ map (λ n. Arg.Number (pos n)) o.numbers);
  cut = o.length;
  defer = numbered_list number o.list;
  waive = vec at o.waived;
  after = vec at (map number o.handles);
})))

abbrev pub schedule : String → String → List String → Options → Said
schedule handle kernel args o = scheduled false handle kernel args o

abbrev pub schedule_auto : String → String → List String → Options → Said
schedule_auto handle kernel args o = scheduled true handle kernel args o

abbrev pub combine : String → List String → Said
combine h handles = says (λ at number. Order.Combine (number h) (vec at (map number handles)))

abbrev pub complete : String → Said
complete h = says (λ at number. Order.Complete (number h))

abbrev pub complete_auto : String → Said
complete_auto x = says (λ at number. Order.CompleteAuto (number x))

-- DISPOSAL, FRAMES, TESTS

abbrev pub dispose : String → Said
dispose x = says (λ at number. Order.Dispose (number x) (vec at []) None)

-- `dispose x after h as d`
abbrev pub dispose_after : String → List String → String → Said
dispose_after x handles d = says (λ at number. Order.Dispose (number x) (vec at (map number handles)) (Some (number d)))

abbrev pub dispose_auto : String → String → Said
dispose_auto x d = says (λ at number. Order.DisposeAuto (number x) (number d))

abbrev pub frame : Said
frame = says (λ at number. Order.Frame)

-- `when x > 3 { .. }`, whose block is the next statements, as many as the last number says
abbrev pub when : String → Sign → ℕ → ℕ → Said
when x sign n count = says (λ at number. Order.When (number x) sign (pos n) count)

-- SCRIPTS

-- Statements that stand on one line after another, from a line on. Where a script's own first line is 13, the first twelve kernels stand
-- before it, one on each line; where it is 2, one kernel.
abbrev pub lines : ℕ → List Said → List (ℕ × Said)
lines line [] = []
lines line (x ∷ more) = (line, x) ∷ lines (line + 1) more

abbrev pub literals : List (ℕ × Said) → List (List ℤ)
literals [] = []
literals ((line, says order) ∷ more) = literals more
literals ((line, fills x life values) ∷ more) = values ∷ literals more

abbrev pub statements : Place → (String → ℕ) → ℕ → List (ℕ × Said) → List Statement
statements at number n [] = []
statements at number n ((line, says order) ∷ more) = record { line = line; act = order at number } ∷ statements at number n more
statements at number n ((line, fills x life values) ∷ more) =
    record { line = line; act = Order.Array (number x) (length values) life (Some n) } ∷ statements at number (n + 1) more

abbrev pub script : Place → List String → List (ℕ × Said) → Script
script at names said = record {
  kernels = vec at (map (kernel at) kernels);
  names = map (λ n. codes n) names;
  literals = vec at (map (vec at) (literals said));
  statements = vec at (statements at (number_of names) 0 said);
}

-- the state at the end, where jobs do what these runs say
abbrev pub ended : Place → List String → List (ℕ × Said) → Table → List Run → ScriptState
ended at names said table runs =
    let s = script at names said in
    final (record (setting s table) { runs = runs }) s.statements.items

abbrev pub answer : ScriptState → List ℕ × ℕ
answer s = (output_at s, status_at s)

-- What a script prints and its status, wherever its trees lie.
pub record Gives (names : List String) (said : List (ℕ × Said)) (table : Table) (output : String) (status : ℕ) : Type 0 where
  pub prints : (at : Place) → output_of (script at names said) table ≡ codes output
  pub ends : (at : Place) → status_of (script at names said) table ≡ status

-- It is enough to compute with the runs of the kernels.
pub computed : {names : List String} {said : List (ℕ × Said)} {table : Table} {output : String} {status : ℕ}
    → ((at : Place) → answer (ended at names said table (map (run at) kernels)) ≡ (codes output, status)) → Gives names said table output status
computed {names} {said} {table} same = record {
  prints = λ at. ap (λ runs. output_at (ended at names said table runs)) (same_runs at kernels) ∙ ap (λ a. a.0) (same at);
  ends = λ at. ap (λ runs. status_at (ended at names said table runs)) (same_runs at kernels) ∙ ap (λ a. a.1) (same at);
}
