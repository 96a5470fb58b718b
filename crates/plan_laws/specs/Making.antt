-- A new container: it gets the first fit, and its words stand for what it holds.
use Rattle.std.specs.Prelude.{ℕ, ◌+◌, ◌≡◌, ◌<◌, ◌≤◌, ◌^◌, [], ◌∷◌, length, Option, ℤ, List, None, Some}
use Rattle.job_base.specs.declared.Span.{Span}
use Rattle.job_base.specs.Cells.{write_cells}
use Rattle.frame_ast.specs.declared.script.Life.{Life}
use Rattle.frame_ast.specs.Contents.{Contents, Cells as Elements, Single, words_of}
use Rattle.frame_ast.specs.Forms.{form_of}
use Rattle.frame_core.specs.Names.{literal_of}
use Rattle.frame_ast.specs.Effects.{make}
use Rattle.frame_ast.specs.Ranges.{IsFirstFit, is_live_word}
use Rattle.frame_ast.specs.States.{ScriptState}
use Rattle.kernel_exec.specs.Layout.{Holds}
use Rattle.merge_laws.specs.Graph.{Cells}
use Rattle.frame_core.specs.declared.plan.Act.TheVariants.{Fill}
use Rattle.frame_core.specs.declared.plan.Plan.{Plan}
use Rattle.frame_core.specs.Operations.{first_cells}
use Rattle.frame_core.specs.Ordered.{IsLiteral}
use Rattle.plan_laws.specs.Binds.{bind_of}
use Rattle.plan_laws.specs.Drafts.{Draft}
use Rattle.plan_laws.specs.Planned.{Outline, IsPlanned, Adds}

-- the range that the next take gets
abbrev pub next_span : Outline → ScriptState → Contents → Span
next_span x s contents = record { start = x.starts s.takes; len = words_of contents }

-- what the words begin with stands for the contents, whatever was there
abbrev pub FillsAs : Plan → Span → Option ℕ → Contents → Type 0
FillsAs plan span literal contents =
    (length (first_cells plan span literal) ≡ span.len)
    × ((cells : Cells)
    → Holds (write_cells cells span.start (first_cells plan span literal)) (bind_of span.start contents) contents)

-- Zeros stand for a new container without elements: for what the form of its contents says.
abbrev pub ZerosFill : Type 0
ZerosFill = (plan : Plan) (span : Span) (c : Contents)
    → span.len ≡ words_of c
    → form_of c ≡ c
    → FillsAs plan span None c

-- the elements that a literal gives an array, or the value that it gives a reference
abbrev pub IsGivenBy : List ℤ → Contents → Type 0
IsGivenBy ys (Elements xs) = ys ≡ xs
IsGivenBy ys (Single z) = ys ≡ z ∷ []
IsGivenBy ys _ = ⊥

abbrev pub LiteralsFill : Type 0
LiteralsFill = (plan : Plan) (span : Span) (n : ℕ) (c : Contents)
    → span.len ≡ words_of c
    → IsGivenBy (literal_of plan n) c
    → FillsAs plan span (Some n) c

abbrev pub ContainersArePlanned : Type 0
ContainersArePlanned = (x : Outline)
    → x.plan.cells < 2 ^ 32
    → (s : ScriptState) (line name : ℕ) (life : Life) (contents : Contents) (literal : Option ℕ) (shown : ℕ)
    (d e : Draft)
    → IsPlanned x s d
    → IsFirstFit (is_live_word x.starts s) (words_of contents) (x.starts s.takes)
    → x.starts s.takes + words_of contents ≤ x.plan.cells
    → IsLiteral x.plan (next_span x s contents) literal
    → FillsAs x.plan (next_span x s contents) literal contents
    → shown < length x.plan.names
    → Adds d e (record { line = line; name = shown; act = Fill (next_span x s contents) literal } ∷ [])
    → IsPlanned x (make line name life contents s) e
