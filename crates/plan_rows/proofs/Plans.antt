-- The plans of some worked scripts, made by hand.
use Prim.Native.String.{String}
use Rattle.std.proofs.Common.{codes, ℕ, pos, ℤ, Bool, true, false, List, [], ◌∷◌, map, Option, Some, None}
use Rattle.job_base.specs.declared.JobId.{JobId}
use Rattle.job_base.specs.declared.Span.{Span}
use Rattle.kernel_exec.specs.declared.binds.Bind.{Bind}
use Rattle.frame_core.specs.declared.plan.Act.{Act}
use Rattle.frame_core.specs.declared.plan.JobPlan.{JobPlan}
use Rattle.frame_core.specs.declared.plan.Segment.{Segment}
use Rattle.frame_core.specs.declared.plan.Op.{Op}
use Rattle.frame_core.specs.declared.plan.Plan.{Plan}
use Rattle.ast_rows.proofs.Trees.{Place, vec}
use Rattle.ast_rows.proofs.Kernel.{Text, kernel}
use Rattle.ast_rows.proofs.Kernels.{scale, total, bump, peek, slow, quick, shift, emit}

-- jobs by their numbers
abbrev pub ids : Place → List ℕ → Rattle.std.specs.Prelude.Vec JobId Rattle.std.specs.declared.alloc.Global.Global
ids at ns = vec at (map (λ n. record { 0 = n }) ns)

abbrev pub span : ℕ → ℕ → Span
span start len = record { start = start; len = len }

-- an array, with the width of its own-index rule
abbrev pub array : ℕ → ℕ → ℕ → Bind
array start len own = Bind.Array (record { start = start; len = len }) own

abbrev pub ref : ℕ → Bind
ref start = Bind.Ref (record { start = start })

-- a stream of some indexes with room for some items each
abbrev pub stream : ℕ → ℕ → ℕ → Bool → Bind
stream start count room own = Bind.Stream (record { start = start; count = count; room = room }) own

abbrev pub fill : ℕ → ℕ → ℕ → ℕ → Op
fill line name start len = record { line = line; name = name; act = Act.Fill (span start len) None }

abbrev pub fill_of : ℕ → ℕ → ℕ → ℕ → ℕ → Op
fill_of line name start len literal = record { line = line; name = name; act = Act.Fill (span start len) (Some literal) }

abbrev pub print : ℕ → ℕ → Bind → Op
print line name at = record { line = line; name = name; act = Act.Print at }

-- a job of a parallel kernel: its length and the step of its cut
abbrev pub parallel_job : Place → ℕ → List Bind → ℕ → ℕ → List ℕ → ℕ → JobPlan
parallel_job at kernel binds n step deps first = record {
  kernel = kernel;
  binds = vec at binds;
  cut = record { n = n; step = step };
  parallel = true;
  deps = ids at deps;
  first = record { 0 = first };
}

abbrev pub plain_job : Place → ℕ → List Bind → List ℕ → ℕ → JobPlan
plain_job at kernel binds deps first = record {
  kernel = kernel;
  binds = vec at binds;
  cut = record { n = 1; step = 1 };
  parallel = false;
  deps = ids at deps;
  first = record { 0 = first };
}

abbrev pub segment : Place → List ℕ → List Op → Option ℕ → Segment
segment at waits ops None = record { waits = ids at waits; ops = vec at ops; starts = None }
segment at waits ops (Some j) = record { waits = ids at waits; ops = vec at ops; starts = Some (record { 0 = j }) }

-- A plan without the code of its kernels, of which cells say nothing. All cells are 0 at first.
abbrev pub plan : Place → List Text → List String → List (List ℤ) → List JobPlan → List Segment → ℕ → ℕ → Plan
plan at kernels names literals jobs segments cells words = record {
  kernels = vec at (map (kernel at) kernels);
  codes = vec at [];
  names = map (λ n. codes n) names;
  literals = vec at (map (vec at) literals);
  jobs = vec at jobs;
  segments = vec at segments;
  first = vec at [];
  cells = cells;
  words = words;
}

abbrev pub numbers : List ℕ → List ℤ
numbers ns = map (λ n. pos n) ns

-- array x 4 = 1 2 3 4 / array y 4 / reference t / schedule h1 scale(x, y) 4 2 / schedule h2 total(y, t) after h1 / complete h2 / print t
abbrev pub chained : Place → Plan
chained at = plan at (scale ∷ total ∷ []) ("x" ∷ "y" ∷ "t" ∷ "h1" ∷ "h2" ∷ []) (numbers (1 ∷ 2 ∷ 3 ∷ 4 ∷ []) ∷ [])
    (parallel_job at 0 (array 0 4 0 ∷ array 4 4 1 ∷ []) 4 2 [] 0
    ∷ plain_job at 1 (array 4 4 0 ∷ ref 8 ∷ []) (1 ∷ []) 2
    ∷ [])
    (segment at [] (fill_of 13 0 0 4 0 ∷ fill 14 1 4 4 ∷ fill 15 2 8 1 ∷ []) (Some 1)
    ∷ segment at [] [] (Some 2)
    ∷ segment at (1 ∷ 2 ∷ []) (print 19 2 (ref 8) ∷ []) None
    ∷ segment at (1 ∷ 2 ∷ []) [] None
    ∷ []) 9 12

-- array a 2 = 1 2 / reference t / schedule h peek(a, t) / dispose a after h as d / array b 2 = 8 9 / complete d / array c 2 / print t / print b
abbrev pub reused : Place → Plan
reused at = plan at (peek ∷ []) ("a" ∷ "t" ∷ "h" ∷ "d" ∷ "b" ∷ "c" ∷ []) (numbers (1 ∷ 2 ∷ []) ∷ numbers (8 ∷ 9 ∷ []) ∷ [])
    (plain_job at 0 (array 0 2 0 ∷ ref 2 ∷ []) [] 0 ∷ [])
    (segment at [] (fill_of 13 0 0 2 0 ∷ fill 14 1 2 1 ∷ []) (Some 1)
    ∷ segment at [] (fill_of 17 4 3 2 1 ∷ []) None
    ∷ segment at (1 ∷ []) (fill 19 5 0 2 ∷ print 20 1 (ref 2) ∷ print 21 4 (array 3 2 0) ∷ []) None
    ∷ segment at (1 ∷ []) [] None
    ∷ []) 5 6

-- the section after array a 2 = 4 6 / reference t / when t == 0 {, which begins with the cells of a and of t
-- schedule h bump(a) / complete h / print a / }
abbrev pub carried : Place → Plan
carried at = record (plan at (bump ∷ []) ("a" ∷ "t" ∷ "h" ∷ []) []
    (plain_job at 0 (array 0 2 0 ∷ []) [] 0 ∷ [])
    (segment at [] [] (Some 1)
    ∷ segment at (1 ∷ []) (print 18 0 (array 0 2 0) ∷ []) None
    ∷ segment at (1 ∷ []) [] None
    ∷ []) 3 4) { first = vec at (numbers (4 ∷ 6 ∷ 0 ∷ [])) }

-- array x 5 = 1 2 3 4 5 / array y 4 / schedule h scale(x, y) 5 2 / complete h / print y
abbrev pub past_the_end : Place → Plan
past_the_end at = plan at (scale ∷ []) ("x" ∷ "y" ∷ "h" ∷ []) (numbers (1 ∷ 2 ∷ 3 ∷ 4 ∷ 5 ∷ []) ∷ [])
    (parallel_job at 0 (array 0 5 0 ∷ array 5 4 1 ∷ []) 5 2 [] 0 ∷ [])
    (segment at [] (fill_of 13 0 0 5 0 ∷ fill 14 1 5 4 ∷ []) (Some 1)
    ∷ segment at (1 ∷ []) (print 17 1 (array 5 4 0) ∷ []) None
    ∷ segment at (1 ∷ []) [] None
    ∷ []) 9 12

-- array a 1 / array b 1 / schedule h1 slow(a) / schedule h2 quick(b)
abbrev pub two_traps : Place → Plan
two_traps at = plan at (slow ∷ quick ∷ []) ("a" ∷ "b" ∷ "h1" ∷ "h2" ∷ []) []
    (plain_job at 0 (array 0 1 0 ∷ []) [] 0 ∷ plain_job at 1 (array 1 1 0 ∷ []) [] 1 ∷ [])
    (segment at [] (fill 13 0 0 1 ∷ fill 14 1 1 1 ∷ []) (Some 1)
    ∷ segment at [] [] (Some 2)
    ∷ segment at [] [] None
    ∷ segment at (1 ∷ 2 ∷ []) [] None
    ∷ []) 2 4

-- array b 4 = 1 0 0 0 / schedule h shift(b) 3 64 / complete h / print b
abbrev pub restricted : Place → Plan
restricted at = plan at (shift ∷ []) ("b" ∷ "h" ∷ []) (numbers (1 ∷ 0 ∷ 0 ∷ 0 ∷ []) ∷ [])
    (parallel_job at 0 (array 0 4 1 ∷ []) 3 64 [] 0 ∷ [])
    (segment at [] (fill_of 13 0 0 4 0 ∷ []) (Some 1)
    ∷ segment at (1 ∷ []) (print 16 0 (array 0 4 0) ∷ []) None
    ∷ segment at (1 ∷ []) [] None
    ∷ []) 4 5

-- a job of a parallel kernel with a waiver: one piece, in which no own-index rule holds
abbrev pub waived_job : Place → ℕ → List Bind → ℕ → ℕ → List ℕ → ℕ → JobPlan
waived_job at kernel binds n step deps first = record {
  kernel = kernel;
  binds = vec at binds;
  cut = record { n = n; step = step };
  parallel = false;
  deps = ids at deps;
  first = record { 0 = first };
}

-- the same script with `schedule h shift(b) 3 64 waive b`
abbrev pub waived : Place → Plan
waived at = plan at (shift ∷ []) ("b" ∷ "h" ∷ []) (numbers (1 ∷ 0 ∷ 0 ∷ 0 ∷ []) ∷ [])
    (waived_job at 0 (array 0 4 0 ∷ []) 3 64 [] 0 ∷ [])
    (segment at [] (fill_of 13 0 0 4 0 ∷ []) (Some 1)
    ∷ segment at (1 ∷ []) (print 16 0 (array 0 4 0) ∷ []) None
    ∷ segment at (1 ∷ []) [] None
    ∷ []) 4 5

-- stream s 4 2 / schedule h emit(s) 4 1 / complete h / print s
abbrev pub emitted : Place → Plan
emitted at = plan at (emit ∷ []) ("s" ∷ "h" ∷ []) []
    (parallel_job at 0 (stream 0 4 2 true ∷ []) 4 1 [] 0 ∷ [])
    (segment at [] (fill 13 0 0 12 ∷ []) (Some 1)
    ∷ segment at (1 ∷ []) (print 16 0 (stream 0 4 2 false) ∷ []) None
    ∷ segment at (1 ∷ []) [] None
    ∷ []) 12 16
