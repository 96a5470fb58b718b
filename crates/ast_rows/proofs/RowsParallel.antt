-- Parallel jobs: own index, widths, waivers, deferred lengths.
use Rattle.std.proofs.Common.{refl, [], ◌∷◌}
use Rattle.std.specs.Fmt.{digits}
use Rattle.frame_ast.specs.Lists.{first_some}
use Rattle.frame_ast.specs.Kernels.{fresh}
use Rattle.frame_ast.specs.JobRuns.{full_steps, deferred_steps}
use Rattle.frame_ast.specs.Orders.{no_table}
use Rattle.ast_rows.proofs.Script.{Gives, computed, lines, array, array_of, list, reference, add, print, plain, after, cut, defer, waive, schedule, complete, view, stream}

-- array x 0 / array y 4 = 1 1 1 1 / reference t / schedule h1 scale(x, y) 0 4 / schedule h2 total(y, t) after h1 / complete h2 / print t
no_index : Gives ("x" ∷ "y" ∷ "t" ∷ "h1" ∷ "h2" ∷ []) (lines 13 (
    array "x" 0
    ∷ array_of "y" (1 ∷ 1 ∷ 1 ∷ 1 ∷ [])
    ∷ reference "t"
    ∷ schedule "h1" "scale" ("x" ∷ "y" ∷ []) (cut 0 4 plain)
    ∷ schedule "h2" "total" ("y" ∷ "t" ∷ []) (after ("h1" ∷ []) plain)
    ∷ complete "h2"
    ∷ print "t"
    ∷ [])) no_table "t = 4\n" 0
unfolding fresh full_steps deferred_steps digits first_some
no_index = computed (λ at. refl)

-- array x 5 = 1 2 3 4 5 / array y 4 / schedule h scale(x, y) 5 2 / complete h / print y
index_past_the_end : Gives ("x" ∷ "y" ∷ "h" ∷ []) (lines 13 (
    array_of "x" (1 ∷ 2 ∷ 3 ∷ 4 ∷ 5 ∷ [])
    ∷ array "y" 4
    ∷ schedule "h" "scale" ("x" ∷ "y" ∷ []) (cut 5 2 plain)
    ∷ complete "h"
    ∷ print "y"
    ∷ [])) no_table "y = [3, 6, 9, 12]\ntrap job 1 index 4: range\ntraps 1\n" 5
unfolding fresh full_steps deferred_steps digits first_some
index_past_the_end = computed (λ at. refl)

-- array b 4 = 1 0 0 0 / schedule h shift(b) 3 64 / complete h / print b
index_owns_its_place : Gives ("b" ∷ "h" ∷ []) (lines 13 (
    array_of "b" (1 ∷ 0 ∷ 0 ∷ 0 ∷ [])
    ∷ schedule "h" "shift" ("b" ∷ []) (cut 3 64 plain)
    ∷ complete "h"
    ∷ print "b"
    ∷ [])) no_table "b = [1, 0, 0, 0]\ntrap job 1 index 0: own-index\ntraps 3\n" 5
unfolding fresh full_steps deferred_steps digits first_some
index_owns_its_place = computed (λ at. refl)

-- the same with `schedule h shift(b) 3 64 waive b`
waived_index_rule : Gives ("b" ∷ "h" ∷ []) (lines 13 (
    array_of "b" (1 ∷ 0 ∷ 0 ∷ 0 ∷ [])
    ∷ schedule "h" "shift" ("b" ∷ []) (waive (0 ∷ []) (cut 3 64 plain))
    ∷ complete "h"
    ∷ print "b"
    ∷ [])) no_table "b = [1, 2, 3, 4]\n" 0
unfolding fresh full_steps deferred_steps digits first_some
waived_index_rule = computed (λ at. refl)

-- list l 4 / schedule h push(l) 4 1 / print l
list_written_in_parallel : Gives ("l" ∷ "h" ∷ []) (lines 13 (
    list "l" 4
    ∷ schedule "h" "push" ("l" ∷ []) (cut 4 1 plain)
    ∷ print "l"
    ∷ [])) no_table "refused 14: not parallel l\nl = []\n" 1
unfolding fresh full_steps deferred_steps digits first_some
list_written_in_parallel = computed (λ at. refl)

-- a whole file: parallel pairs(..) / array a 6 / schedule h pairs(a) 3 1 / complete h / print a
two_places_for_each_index : Gives ("a" ∷ "h" ∷ []) (lines 2 (
    array "a" 6
    ∷ schedule "h" "pairs" ("a" ∷ []) (cut 3 1 plain)
    ∷ complete "h"
    ∷ print "a"
    ∷ [])) no_table "a = [0, 10, 1, 11, 2, 12]\n" 0
unfolding fresh full_steps deferred_steps digits first_some
two_places_for_each_index = computed (λ at. refl)

-- a whole file: parallel over(..) / array a 6 / schedule h over(a) 3 64 / complete h / print a
-- Index 2 traps Range, but the least trap is told.
past_the_two_places : Gives ("a" ∷ "h" ∷ []) (lines 2 (
    array "a" 6
    ∷ schedule "h" "over" ("a" ∷ []) (cut 3 64 plain)
    ∷ complete "h"
    ∷ print "a"
    ∷ [])) no_table "a = [7, 0, 7, 0, 7, 0]\ntrap job 1 index 0: own-index\ntraps 3\n" 5
unfolding fresh full_steps deferred_steps digits first_some
past_the_two_places = computed (λ at. refl)

-- list l 4 / add l 2 / add l 5 / array y 4 = 1 1 1 1 / schedule h scale(l, y) defer l 1 / complete h / print y
length_of_a_list : Gives ("l" ∷ "y" ∷ "h" ∷ []) (lines 13 (
    list "l" 4
    ∷ add "l" 2
    ∷ add "l" 5
    ∷ array_of "y" (1 ∷ 1 ∷ 1 ∷ 1 ∷ [])
    ∷ schedule "h" "scale" ("l" ∷ "y" ∷ []) (defer "l" 1 plain)
    ∷ complete "h"
    ∷ print "y"
    ∷ [])) no_table "y = [6, 15, 1, 1]\n" 0
unfolding fresh full_steps deferred_steps digits first_some
length_of_a_list = computed (λ at. refl)

-- job grow(..) / list l 3 / schedule g grow(l) / array y 3 / schedule h scale(l, y) defer l 64 after g / add l 1 / complete h / print y
length_after_an_earlier_job : Gives ("l" ∷ "g" ∷ "y" ∷ "h" ∷ []) (lines 14 (
    list "l" 3
    ∷ schedule "g" "grow" ("l" ∷ []) plain
    ∷ array "y" 3
    ∷ schedule "h" "scale" ("l" ∷ "y" ∷ []) (defer "l" 64 (after ("g" ∷ []) plain))
    ∷ add "l" 1
    ∷ complete "h"
    ∷ print "y"
    ∷ [])) no_table "refused 18: pending job 2 on l\ny = [21, 24, 0]\n" 1
unfolding fresh full_steps deferred_steps digits first_some
length_after_an_earlier_job = computed (λ at. refl)

-- list l 4 / add l 5 / add l 5 / view v l / schedule h mark(l) defer l 2 / complete h / print v / print l
-- A list that is given for an array breaks no view.
list_as_the_array_of_its_length : Gives ("l" ∷ "v" ∷ "h" ∷ []) (lines 1 (
    list "l" 4
    ∷ add "l" 5
    ∷ add "l" 5
    ∷ view "v" "l"
    ∷ schedule "h" "mark" ("l" ∷ []) (defer "l" 2 plain)
    ∷ complete "h"
    ∷ print "v"
    ∷ print "l"
    ∷ [])) no_table "v = [0, 1]\nl = [0, 1]\n" 0
unfolding fresh full_steps deferred_steps digits first_some
list_as_the_array_of_its_length = computed (λ at. refl)

-- list l 4 / add l 5 / view v l / schedule h mark(v) defer l 2
view_of_the_list_of_its_length : Gives ("l" ∷ "v" ∷ "h" ∷ []) (lines 1 (
    list "l" 4
    ∷ add "l" 5
    ∷ view "v" "l"
    ∷ schedule "h" "mark" ("v" ∷ []) (defer "l" 2 plain)
    ∷ [])) no_table "refused 4: alias l\n" 1
unfolding fresh full_steps deferred_steps digits first_some
view_of_the_list_of_its_length = computed (λ at. refl)

-- stream s 2 1 / schedule h cross(s) 2 1 / complete h / print s
index_owns_its_items : Gives ("s" ∷ "h" ∷ []) (lines 1 (
    stream "s" 2 1
    ∷ schedule "h" "cross" ("s" ∷ []) (cut 2 1 plain)
    ∷ complete "h"
    ∷ print "s"
    ∷ [])) no_table "s = [[], []]\ntrap job 1 index 1: own-index\ntraps 1\n" 5
unfolding fresh full_steps deferred_steps digits first_some
index_owns_its_items = computed (λ at. refl)
