-- The text of the depth report.
use Rattle.std.specs.Prelude.{ℕ, List, [], ◌∷◌, ◌++◌, codes, decimal}
use Rattle.job_base.specs.declared.JobId.{JobId}
use Rattle.job_depth.specs.declared.report.Depth.{Depth}

-- a space and a number for each job
abbrev pub jobs_text : List JobId → List ℕ
jobs_text [] = []
jobs_text (id ∷ more) = (codes " " ++ decimal id.0) ++ jobs_text more

abbrev pub numbers_text : Depth → List ℕ
numbers_text d = codes "rounds " ++ (decimal d.rounds
    ++ (codes "\nwidest " ++ (decimal d.widest
    ++ (codes "\nworkers " ++ (decimal d.workers
    ++ (codes ": " ++ (decimal d.packed
    ++ (codes " rounds, at least " ++ (decimal d.least
    ++ codes "\nchain")))))))))

-- Four lines: the rounds, the widest round, what the workers take, and the chain.
abbrev pub depth_text : Depth → List ℕ
depth_text d = numbers_text d ++ (jobs_text d.chain.items ++ codes "\n")
