-- Copies of statements: each holds the same, in lists of its own.
use Rattle.std.specs.Prelude.{◌≡◌, ℕ, Bool, true, false, Box, Vec, List}
use Rattle.std.specs.List.{AllZip}
use Rattle.std.specs.declared.alloc.Global.{Global}
use Rattle.frame_ast.specs.SameJobs.{SameJob}
use Rattle.frame_ast.specs.declared.script.NewJob.{NewJob}
use Rattle.frame_ast.specs.declared.script.Order.{Order}
use Rattle.frame_ast.specs.declared.script.Order.TheVariants.{Column, Schedule, Combine, Dispose}
use Rattle.frame_ast.specs.declared.script.Statement.{Statement}

abbrev pub IsCopyOf : Order → Order → Type 0
IsCopyOf (Column name column life) o =
    (bytes : Vec ℕ Global) × (bytes.items ≡ column.items) × (o ≡ Column name bytes life)
IsCopyOf (Schedule job) o =
    (copy : Box NewJob Global) × SameJob copy.value job.value × (o ≡ Schedule copy)
IsCopyOf (Combine name of) o = (handles : Vec ℕ Global) × (handles.items ≡ of.items) × (o ≡ Combine name handles)
IsCopyOf (Dispose name after handle) o =
    (handles : Vec ℕ Global) × (handles.items ≡ after.items) × (o ≡ Dispose name handles handle)
IsCopyOf order o = o ≡ order

abbrev pub IsCopy : Statement → Statement → Type 0
IsCopy x y = (y.line ≡ x.line) × IsCopyOf x.act y.act

abbrev pub has_no_lists : Order → Bool
has_no_lists (Column name column life) = false
has_no_lists (Schedule job) = false
has_no_lists (Combine name of) = false
has_no_lists (Dispose name after handle) = false
has_no_lists _ = true

-- one after another, the statements of the second list are copies of those of the first
abbrev pub AreCopies : List Statement → List Statement → Type 0
AreCopies = AllZip IsCopy
