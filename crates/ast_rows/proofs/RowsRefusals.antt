-- The order of causes, the value that is named, and what a refused statement still does.
use Rattle.std.proofs.Common.{refl, [], ◌∷◌}
use Rattle.std.specs.Fmt.{digits}
use Rattle.frame_ast.specs.Lists.{first_some}
use Rattle.frame_ast.specs.Kernels.{fresh}
use Rattle.frame_ast.specs.JobRuns.{full_steps, deferred_steps}
use Rattle.frame_ast.specs.Orders.{no_table}
use Rattle.ast_rows.proofs.Script.{Gives, computed, lines, array, array_of, list, reference, view, copy, set, add, setcapacity, print, plain, schedule, combine, complete, dispose, dispose_after}

-- array a 1 / array b 1 / schedule h1 bump(a) / schedule h2 bump(b) / schedule h3 pair(a, b)
greatest_blocker_is_named : Gives ("a" ∷ "b" ∷ "h1" ∷ "h2" ∷ "h3" ∷ []) (lines 1 (
    array "a" 1
    ∷ array "b" 1
    ∷ schedule "h1" "bump" ("a" ∷ []) plain
    ∷ schedule "h2" "bump" ("b" ∷ []) plain
    ∷ schedule "h3" "pair" ("a" ∷ "b" ∷ []) plain
    ∷ [])) no_table "refused 5: pending job 2 on b\n" 1
unfolding fresh full_steps deferred_steps digits first_some
greatest_blocker_is_named = computed (λ at. refl)

-- array a 1 / array b 1 / reference t / schedule g bump(a) / dispose b / schedule h both(a, b, t)
disposed_before_pending : Gives ("a" ∷ "b" ∷ "t" ∷ "g" ∷ "h" ∷ []) (lines 1 (
    array "a" 1
    ∷ array "b" 1
    ∷ reference "t"
    ∷ schedule "g" "bump" ("a" ∷ []) plain
    ∷ dispose "b"
    ∷ schedule "h" "both" ("a" ∷ "b" ∷ "t" ∷ []) plain
    ∷ [])) no_table "refused 6: disposed b\n" 1
unfolding fresh full_steps deferred_steps digits first_some
disposed_before_pending = computed (λ at. refl)

-- array a 1 / array b 1 / reference t / dispose b / dispose a / schedule h both(a, b, t)
first_value_is_named : Gives ("a" ∷ "b" ∷ "t" ∷ "h" ∷ []) (lines 1 (
    array "a" 1
    ∷ array "b" 1
    ∷ reference "t"
    ∷ dispose "b"
    ∷ dispose "a"
    ∷ schedule "h" "both" ("a" ∷ "b" ∷ "t" ∷ []) plain
    ∷ [])) no_table "refused 6: disposed a\n" 1
unfolding fresh full_steps deferred_steps digits first_some
first_value_is_named = computed (λ at. refl)

-- array a 1 / schedule h bump(a) / dispose a / combine g / dispose a after g as d / complete d / print a / complete h / dispose a after h as d / print a
-- The refused disposal leaves d without jobs.
disposal_waits_for_users : Gives ("a" ∷ "h" ∷ "g" ∷ "d" ∷ []) (lines 1 (
    array "a" 1
    ∷ schedule "h" "bump" ("a" ∷ []) plain
    ∷ dispose "a"
    ∷ combine "g" []
    ∷ dispose_after "a" ("g" ∷ []) "d"
    ∷ complete "d"
    ∷ print "a"
    ∷ complete "h"
    ∷ dispose_after "a" ("h" ∷ []) "d"
    ∷ print "a"
    ∷ [])) no_table "refused 3: pending job 1 on a\nrefused 5: pending job 1 on a\nrefused 7: pending job 1 on a\nrefused 10: disposed a\n" 1
unfolding fresh full_steps deferred_steps digits first_some
disposal_waits_for_users = computed (λ at. refl)

-- list l 1 / add l 1 / view v l / add l 2 / print v / print l
full_list_breaks_views : Gives ("l" ∷ "v" ∷ []) (lines 1 (
    list "l" 1
    ∷ add "l" 1
    ∷ view "v" "l"
    ∷ add "l" 2
    ∷ print "v"
    ∷ print "l"
    ∷ [])) no_table "refused 4: full\nrefused 5: stale view v\nl = [1]\n" 1
unfolding fresh full_steps deferred_steps digits first_some
full_list_breaks_views = computed (λ at. refl)

-- list l 1 / view v l / setcapacity l 0 / print v
small_capacity_breaks_views : Gives ("l" ∷ "v" ∷ []) (lines 1 (
    list "l" 1
    ∷ view "v" "l"
    ∷ setcapacity "l" 0
    ∷ print "v"
    ∷ [])) no_table "refused 3: range\nrefused 4: stale view v\n" 1
unfolding fresh full_steps deferred_steps digits first_some
small_capacity_breaks_views = computed (λ at. refl)

-- list l 1 / list k 1048570 / view v l / setcapacity l 5 / print v
full_store_breaks_no_view : Gives ("l" ∷ "k" ∷ "v" ∷ []) (lines 1 (
    list "l" 1
    ∷ list "k" 1048570
    ∷ view "v" "l"
    ∷ setcapacity "l" 5
    ∷ print "v"
    ∷ [])) no_table "refused 4: store full\nv = []\n" 1
unfolding fresh full_steps deferred_steps digits first_some
full_store_breaks_no_view = computed (λ at. refl)

-- list l 2 / view v l / schedule h grow(l) / complete h / print v / print l
job_breaks_views : Gives ("l" ∷ "v" ∷ "h" ∷ []) (lines 1 (
    list "l" 2
    ∷ view "v" "l"
    ∷ schedule "h" "grow" ("l" ∷ []) plain
    ∷ complete "h"
    ∷ print "v"
    ∷ print "l"
    ∷ [])) no_table "refused 5: stale view v\nl = [7, 8]\n" 1
unfolding fresh full_steps deferred_steps digits first_some
job_breaks_views = computed (λ at. refl)

-- list l 3 / add l 1 / view v l / set v 0 = 4 / print v / print l
view_is_written_through : Gives ("l" ∷ "v" ∷ []) (lines 1 (
    list "l" 3
    ∷ add "l" 1
    ∷ view "v" "l"
    ∷ set "v" 0 4
    ∷ print "v"
    ∷ print "l"
    ∷ [])) no_table "v = [4]\nl = [4]\n" 0
unfolding fresh full_steps deferred_steps digits first_some
view_is_written_through = computed (λ at. refl)

-- array a 2 / set a 2 = 1 / list l 2 / add l 1 / set l 1 = 5 / set l 0 = 6 / print l
set_past_the_end : Gives ("a" ∷ "l" ∷ []) (lines 1 (
    array "a" 2
    ∷ set "a" 2 1
    ∷ list "l" 2
    ∷ add "l" 1
    ∷ set "l" 1 5
    ∷ set "l" 0 6
    ∷ print "l"
    ∷ [])) no_table "refused 2: range\nrefused 5: range\nl = [6]\n" 1
unfolding fresh full_steps deferred_steps digits first_some
set_past_the_end = computed (λ at. refl)

-- array a 1 = 1 / copy b a / array a 1 = 2 / print a / print b
name_made_again : Gives ("a" ∷ "b" ∷ []) (lines 1 (
    array_of "a" (1 ∷ [])
    ∷ copy "b" "a"
    ∷ array_of "a" (2 ∷ [])
    ∷ print "a"
    ∷ print "b"
    ∷ [])) no_table "a = [2]\nb = [1]\n" 0
unfolding fresh full_steps deferred_steps digits first_some
name_made_again = computed (λ at. refl)
