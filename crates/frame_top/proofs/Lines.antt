-- The lines of short parts, as they are written.
use Rattle.std.proofs.Common.{◌≡◌, ℕ, List, [], ◌++◌, Option, Some, subst, sym, ap, ◌∙◌, append_assoc}
use Rattle.std.specs.Prelude.{codes, decimal}
use Rattle.frame_ast.specs.Answers.{no_column_line, unequal_row_line, not_number_line}
use Rattle.frame_ast.specs.Limits.{Limit, TooManyJobs, TooManyWords}
use Rattle.plan_state.specs.declared.state.PlanFault.{PlanFault}
use Rattle.plan_state.specs.declared.state.PlanFault.TheVariants.{Jobs, Words, NoMemory}
use Rattle.frame_plan.specs.Sections.{limit_told}
use Rattle.frame_top.specs.Answers.{Said}
use Rattle.frame_top.specs.Refusals.{answer}

abbrev pub limit_in : PlanFault → Limit
limit_in Jobs = TooManyJobs
limit_in Words = TooManyWords
limit_in NoMemory = TooManyJobs

limit_by : (f : PlanFault) (limit : Limit) → limit_told f ≡ Some limit → limit_in f ≡ limit
limit_by Jobs limit e = let same : TooManyJobs ≡ limit = cc in same
limit_by Words limit e = let same : TooManyWords ≡ limit = cc in same
limit_by NoMemory limit e = absurd cc

pub said_as : (old new : Option (List ℕ)) (before now status result : ℕ) (t text : List ℕ) → t ≡ text → Said old new before now (answer status t) result
    → Said old new before now (answer status text) result
said_as old new before now status result t text e p = subst (λ l. Said old new before now (answer status l) result) e p

pub row_is : (x why : List ℕ) (row : ℕ) → x ≡ decimal row
    → codes "table refused row " ++ (x ++ (codes ": " ++ (why ++ (codes "\n" ++ [])))) ≡ codes "table refused row " ++ decimal row ++ codes ": " ++ why
    ++ codes "\n"
row_is x why row p = simp (p, append_assoc)

pub column_is : (name : List ℕ) → codes "table refused: no column " ++ (name ++ (codes "\n" ++ [])) ≡ no_column_line name
column_is name = simp append_assoc

-- the limit that a fault is about
pub told_limit : (fault f : PlanFault) (limit : Limit) → fault ≡ f → limit_told fault ≡ Some limit → limit_in f ≡ limit
told_limit fault f limit is told = limit_by f limit (sym (ap limit_told is) ∙ told)

pub unequal_is : (row : ℕ) → codes "table refused row " ++ decimal row ++ codes ": " ++ codes "unequal row" ++ codes "\n" ≡ unequal_row_line row
unequal_is row = simp append_assoc

pub no_number_is : (row : ℕ) → codes "table refused row " ++ decimal row ++ codes ": " ++ codes "not a number" ++ codes "\n" ≡ not_number_line row
no_number_is row = simp append_assoc
