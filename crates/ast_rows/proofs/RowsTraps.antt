-- Traps: stores before a trap stay, and the least trap is told.
use Rattle.std.proofs.Common.{refl, pos, negsuc, [], ◌∷◌}
use Rattle.std.specs.Fmt.{digits}
use Rattle.frame_ast.specs.Lists.{first_some}
use Rattle.frame_ast.specs.declared.script.Life.{Life}
use Rattle.frame_ast.specs.Kernels.{fresh}
use Rattle.frame_ast.specs.JobRuns.{full_steps, deferred_steps}
use Rattle.frame_ast.specs.Orders.{no_table}
use Rattle.ast_rows.proofs.Script.{Gives, computed, lines, array, print, plain, schedule, complete, fills}

-- a script of no bytes
empty_script : Gives [] [] no_table "" 0
unfolding fresh full_steps deferred_steps digits first_some
empty_script = computed (λ at. refl)

-- array a 1 / array b 1 / schedule h1 slow(a) / schedule h2 quick(b)
traps_of_two_jobs : Gives ("a" ∷ "b" ∷ "h1" ∷ "h2" ∷ []) (lines 13 (
    array "a" 1
    ∷ array "b" 1
    ∷ schedule "h1" "slow" ("a" ∷ []) plain
    ∷ schedule "h2" "quick" ("b" ∷ []) plain
    ∷ [])) no_table "trap job 1 index 0: zero-divisor\ntraps 2\n" 5
unfolding fresh full_steps deferred_steps digits first_some
traps_of_two_jobs = computed (λ at. refl)

-- a whole file: job edge(..) / array a 3 = 9223372036854775807 -9223372036854775808 0 / schedule h edge(a) / complete h / print a
stores_before_an_overflow : Gives ("a" ∷ "h" ∷ []) (lines 2 (
    fills "a" Life.Persistent (pos 9223372036854775807 ∷ negsuc 9223372036854775807 ∷ pos 0 ∷ [])
    ∷ schedule "h" "edge" ("a" ∷ []) plain
    ∷ complete "h"
    ∷ print "a"
    ∷ [])) no_table "a = [9223372036854775807, 5, 0]\ntrap job 1 index 0: overflow\ntraps 1\n" 5
unfolding fresh full_steps deferred_steps digits first_some
stores_before_an_overflow = computed (λ at. refl)
