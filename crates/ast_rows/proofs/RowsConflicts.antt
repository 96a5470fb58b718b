-- Conflicts and handles: which jobs block a statement, and which a handle leads to.
use Prim.Native.String.{String}
use Rattle.std.proofs.Common.{refl, ℕ, List, [], ◌∷◌, ◌++◌}
use Rattle.std.specs.Fmt.{digits}
use Rattle.frame_ast.specs.Lists.{first_some}
use Rattle.frame_ast.specs.Kernels.{fresh}
use Rattle.frame_ast.specs.JobRuns.{full_steps, deferred_steps}
use Rattle.frame_ast.specs.Orders.{no_table}
use Rattle.ast_rows.proofs.Script.{Said, Gives, computed, lines, array, array_of, reference, slice, set, print, plain, after, cut, schedule, complete, combine}

-- the first script, a whole file: job triple(..) / array x 4 = 1 2 3 4 / array y 4 / schedule h triple(x, y) / complete h / print y
first_script : Gives ("x" ∷ "y" ∷ "h" ∷ []) (lines 2 (
    array_of "x" (1 ∷ 2 ∷ 3 ∷ 4 ∷ [])
    ∷ array "y" 4
    ∷ schedule "h" "triple" ("x" ∷ "y" ∷ []) plain
    ∷ complete "h"
    ∷ print "y"
    ∷ [])) no_table "y = [3, 6, 9, 12]\n" 0
unfolding fresh full_steps deferred_steps digits first_some
first_script = computed (λ at. refl)

-- the same without its line `complete h`
print_of_a_pending_write : Gives ("x" ∷ "y" ∷ "h" ∷ []) (lines 2 (
    array_of "x" (1 ∷ 2 ∷ 3 ∷ 4 ∷ [])
    ∷ array "y" 4
    ∷ schedule "h" "triple" ("x" ∷ "y" ∷ []) plain
    ∷ print "y"
    ∷ [])) no_table "refused 5: pending job 1 on y\n" 1
unfolding fresh full_steps deferred_steps digits first_some
print_of_a_pending_write = computed (λ at. refl)

-- array x 4 = 1 2 3 4 / array y 4 / reference t / schedule h1 scale(x, y) 4 2 / schedule h2 total(y, t) after h1 / complete h2 / print t
abbrev pub total_names : List String
total_names = "x" ∷ "y" ∷ "t" ∷ "h1" ∷ "h2" ∷ []

abbrev pub total_said : List (ℕ × Said)
total_said = lines 13 (
    array_of "x" (1 ∷ 2 ∷ 3 ∷ 4 ∷ [])
    ∷ array "y" 4
    ∷ reference "t"
    ∷ schedule "h1" "scale" ("x" ∷ "y" ∷ []) (cut 4 2 plain)
    ∷ schedule "h2" "total" ("y" ∷ "t" ∷ []) (after ("h1" ∷ []) plain)
    ∷ complete "h2"
    ∷ print "t"
    ∷ [])

total_after_scale : Gives total_names total_said no_table "t = 30\n" 0
unfolding fresh full_steps deferred_steps digits first_some
total_after_scale = computed (λ at. refl)

-- the same without `after h1`: h2 is the default handle, and completing it completes nothing
total_without_waiting : Gives ("x" ∷ "y" ∷ "t" ∷ "h1" ∷ "h2" ∷ []) (lines 13 (
    array_of "x" (1 ∷ 2 ∷ 3 ∷ 4 ∷ [])
    ∷ array "y" 4
    ∷ reference "t"
    ∷ schedule "h1" "scale" ("x" ∷ "y" ∷ []) (cut 4 2 plain)
    ∷ schedule "h2" "total" ("y" ∷ "t" ∷ []) plain
    ∷ complete "h2"
    ∷ print "t"
    ∷ [])) no_table "refused 17: pending job 1 on y\nt = 0\n" 1
unfolding fresh full_steps deferred_steps digits first_some
total_without_waiting = computed (λ at. refl)

-- array a 1 / array b 1 / schedule h1 bump(a) / schedule h2 bump(b) after h1 / schedule h3 bump(a) after h2 / complete h3 / print a / print b
-- Job 3 depends on job 1 through job 2 alone.
dependency_through_another_job : Gives ("a" ∷ "b" ∷ "h1" ∷ "h2" ∷ "h3" ∷ []) (lines 13 (
    array "a" 1
    ∷ array "b" 1
    ∷ schedule "h1" "bump" ("a" ∷ []) plain
    ∷ schedule "h2" "bump" ("b" ∷ []) (after ("h1" ∷ []) plain)
    ∷ schedule "h3" "bump" ("a" ∷ []) (after ("h2" ∷ []) plain)
    ∷ complete "h3"
    ∷ print "a"
    ∷ print "b"
    ∷ [])) no_table "a = [2]\nb = [1]\n" 0
unfolding fresh full_steps deferred_steps digits first_some
dependency_through_another_job = computed (λ at. refl)

-- array a 1 = 5 / reference t / reference u / schedule w bump(a) / schedule r1 peek(a, t) after w / schedule r2 peek(a, u) after w
-- / schedule w2 bump(a) after r2 / complete r2 / print a
writer_behind_one_of_two_readers : Gives ("a" ∷ "t" ∷ "u" ∷ "w" ∷ "r1" ∷ "r2" ∷ "w2" ∷ []) (lines 13 (
    array_of "a" (5 ∷ [])
    ∷ reference "t"
    ∷ reference "u"
    ∷ schedule "w" "bump" ("a" ∷ []) plain
    ∷ schedule "r1" "peek" ("a" ∷ "t" ∷ []) (after ("w" ∷ []) plain)
    ∷ schedule "r2" "peek" ("a" ∷ "u" ∷ []) (after ("w" ∷ []) plain)
    ∷ schedule "w2" "bump" ("a" ∷ []) (after ("r2" ∷ []) plain)
    ∷ complete "r2"
    ∷ print "a"
    ∷ [])) no_table "refused 19: pending job 2 on a\na = [6]\n" 1
unfolding fresh full_steps deferred_steps digits first_some
writer_behind_one_of_two_readers = computed (λ at. refl)

-- array a 1 / schedule h1 bump(a) / schedule h2 bump(a) after h1 / schedule h3 bump(a) / complete h2 / print a
latest_writer_is_named : Gives ("a" ∷ "h1" ∷ "h2" ∷ "h3" ∷ []) (lines 13 (
    array "a" 1
    ∷ schedule "h1" "bump" ("a" ∷ []) plain
    ∷ schedule "h2" "bump" ("a" ∷ []) (after ("h1" ∷ []) plain)
    ∷ schedule "h3" "bump" ("a" ∷ []) plain
    ∷ complete "h2"
    ∷ print "a"
    ∷ [])) no_table "refused 16: pending job 2 on a\na = [2]\n" 1
unfolding fresh full_steps deferred_steps digits first_some
latest_writer_is_named = computed (λ at. refl)

-- array a 1 = 4 / reference t / reference u / schedule r1 peek(a, t) / schedule r2 peek(a, u) / print a / set a 0 = 9 / print t
readers_share : Gives ("a" ∷ "t" ∷ "u" ∷ "r1" ∷ "r2" ∷ []) (lines 13 (
    array_of "a" (4 ∷ [])
    ∷ reference "t"
    ∷ reference "u"
    ∷ schedule "r1" "peek" ("a" ∷ "t" ∷ []) plain
    ∷ schedule "r2" "peek" ("a" ∷ "u" ∷ []) plain
    ∷ print "a"
    ∷ set "a" 0 9
    ∷ print "t"
    ∷ [])) no_table "a = [4]\nrefused 19: pending job 2 on a\nrefused 20: pending job 1 on t\n" 1
unfolding fresh full_steps deferred_steps digits first_some
readers_share = computed (λ at. refl)

-- array a 2 = 1 2 / slice v a 0 1 / reference t / schedule h pair(a, v) / schedule h both(a, v, t) / complete h / print t
slice_beside_its_array : Gives ("a" ∷ "v" ∷ "t" ∷ "h" ∷ []) (lines 13 (
    array_of "a" (1 ∷ 2 ∷ [])
    ∷ slice "v" "a" 0 1
    ∷ reference "t"
    ∷ schedule "h" "pair" ("a" ∷ "v" ∷ []) plain
    ∷ schedule "h" "both" ("a" ∷ "v" ∷ "t" ∷ []) plain
    ∷ complete "h"
    ∷ print "t"
    ∷ [])) no_table "refused 16: alias v\nt = 2\n" 1
unfolding fresh full_steps deferred_steps digits first_some
slice_beside_its_array = computed (λ at. refl)

-- array a 4 = 1 2 3 4 / slice v a 0 2 / slice w a 2 2 / schedule h1 bump(v) / schedule h2 bump(w) / schedule h2 bump(w) after h1
-- / complete h2 / print a
slices_of_one_array : Gives ("a" ∷ "v" ∷ "w" ∷ "h1" ∷ "h2" ∷ []) (lines 13 (
    array_of "a" (1 ∷ 2 ∷ 3 ∷ 4 ∷ [])
    ∷ slice "v" "a" 0 2
    ∷ slice "w" "a" 2 2
    ∷ schedule "h1" "bump" ("v" ∷ []) plain
    ∷ schedule "h2" "bump" ("w" ∷ []) plain
    ∷ schedule "h2" "bump" ("w" ∷ []) (after ("h1" ∷ []) plain)
    ∷ complete "h2"
    ∷ print "a"
    ∷ [])) no_table "refused 17: pending job 1 on w\na = [2, 2, 4, 4]\n" 1
unfolding fresh full_steps deferred_steps digits first_some
slices_of_one_array = computed (λ at. refl)

-- array a 1 = 1 / repeat 3 { / schedule h bump(a) / complete h / } / print a
repeat_is_written_out : Gives ("a" ∷ "h" ∷ []) (lines 13 (
    array_of "a" (1 ∷ [])
    ∷ [])
    ++ lines 15 (
    schedule "h" "bump" ("a" ∷ []) plain
    ∷ complete "h"
    ∷ [])
    ++ lines 15 (
    schedule "h" "bump" ("a" ∷ []) plain
    ∷ complete "h"
    ∷ [])
    ++ lines 15 (
    schedule "h" "bump" ("a" ∷ []) plain
    ∷ complete "h"
    ∷ [])
    ++ lines 18 (
    print "a"
    ∷ [])) no_table "a = [4]\n" 0
unfolding fresh full_steps deferred_steps digits first_some
repeat_is_written_out = computed (λ at. refl)

-- a whole file: job triple(..) / array x 1 / schedule h triple(x, x)
array_given_twice : Gives ("x" ∷ "h" ∷ []) (lines 2 (
    array "x" 1
    ∷ schedule "h" "triple" ("x" ∷ "x" ∷ []) plain
    ∷ [])) no_table "refused 3: alias x\n" 1
unfolding fresh full_steps deferred_steps digits first_some
array_given_twice = computed (λ at. refl)

-- array a 1 / array b 1 / schedule h1 bump(a) / schedule h2 bump(b) / combine h h1 h2 / complete h / print b
union_of_handles : Gives ("a" ∷ "b" ∷ "h1" ∷ "h2" ∷ "h" ∷ []) (lines 13 (
    array "a" 1
    ∷ array "b" 1
    ∷ schedule "h1" "bump" ("a" ∷ []) plain
    ∷ schedule "h2" "bump" ("b" ∷ []) plain
    ∷ combine "h" ("h1" ∷ "h2" ∷ [])
    ∷ complete "h"
    ∷ print "b"
    ∷ [])) no_table "b = [1]\n" 0
unfolding fresh full_steps deferred_steps digits first_some
union_of_handles = computed (λ at. refl)
