-- The forms of kernels: operators, conditions, and the operations of each kind of container.
use Rattle.std.proofs.Common.{refl, [], ◌∷◌}
use Rattle.std.specs.Fmt.{digits}
use Rattle.frame_ast.specs.Lists.{first_some}
use Rattle.frame_ast.specs.Kernels.{fresh}
use Rattle.frame_ast.specs.JobRuns.{full_steps, deferred_steps}
use Rattle.frame_ast.specs.Orders.{no_table}
use Rattle.ast_rows.proofs.Script.{Gives, computed, lines, array, array_of, list, map_, stream, reference, add, add_pair, print, plain, after, cut, numbers, schedule, complete}

-- array x 3 = 1 5 9 / schedule h cap(x, 5) / complete h / print x
both_branches : Gives ("x" ∷ "h" ∷ []) (lines 1 (
    array_of "x" (1 ∷ 5 ∷ 9 ∷ [])
    ∷ schedule "h" "cap" ("x" ∷ []) (numbers (5 ∷ []) plain)
    ∷ complete "h"
    ∷ print "x"
    ∷ [])) no_table "x = [0, 4, 5]\n" 0
unfolding fresh full_steps deferred_steps digits first_some
both_branches = computed (λ at. refl)

-- array a 4 / schedule h signs(a) / complete h / print a
-- A remainder has the sign of the dividend.
quotients_truncate : Gives ("a" ∷ "h" ∷ []) (lines 1 (
    array "a" 4
    ∷ schedule "h" "signs" ("a" ∷ []) plain
    ∷ complete "h"
    ∷ print "a"
    ∷ [])) no_table "a = [-3, -1, -3, 1]\n" 0
unfolding fresh full_steps deferred_steps digits first_some
quotients_truncate = computed (λ at. refl)

-- array a 7 / schedule h logic(a) / complete h / print a
-- `0 && 1 / 0` and `2 || 1 / 0` don't divide, `1 && 1 / 0` does.
right_side_only_where_needed : Gives ("a" ∷ "h" ∷ []) (lines 1 (
    array "a" 7
    ∷ schedule "h" "logic" ("a" ∷ []) plain
    ∷ complete "h"
    ∷ print "a"
    ∷ [])) no_table "a = [1, 0, 1, 0, 1, 1, 0]\ntrap job 1 index 0: zero-divisor\ntraps 1\n" 5
unfolding fresh full_steps deferred_steps digits first_some
right_side_only_where_needed = computed (λ at. refl)

-- list l 3 / add l 4 / add l 5 / map m 2 / add m 1 7 / add m 2 8 / reference t / schedule h edit(l, m, t) / complete h / print l / print m / print t
lists_and_maps_in_a_job : Gives ("l" ∷ "m" ∷ "t" ∷ "h" ∷ []) (lines 1 (
    list "l" 3
    ∷ add "l" 4
    ∷ add "l" 5
    ∷ map_ "m" 2
    ∷ add_pair "m" 1 7
    ∷ add_pair "m" 2 8
    ∷ reference "t"
    ∷ schedule "h" "edit" ("l" ∷ "m" ∷ "t" ∷ []) plain
    ∷ complete "h"
    ∷ print "l"
    ∷ print "m"
    ∷ print "t"
    ∷ [])) no_table "l = []\nm = {2: 9}\nt = 1\n" 0
unfolding fresh full_steps deferred_steps digits first_some
lists_and_maps_in_a_job = computed (λ at. refl)

-- stream s 4 3 / reference t / schedule g emit(s) 4 1 / schedule h lookup(s, t) after g / complete h / print t
stream_that_is_read : Gives ("s" ∷ "t" ∷ "g" ∷ "h" ∷ []) (lines 1 (
    stream "s" 4 3
    ∷ reference "t"
    ∷ schedule "g" "emit" ("s" ∷ []) (cut 4 1 plain)
    ∷ schedule "h" "lookup" ("s" ∷ "t" ∷ []) (after ("g" ∷ []) plain)
    ∷ complete "h"
    ∷ print "t"
    ∷ [])) no_table "t = 23\n" 0
unfolding fresh full_steps deferred_steps digits first_some
stream_that_is_read = computed (λ at. refl)

-- map m 2 / schedule h again(m) / complete h / print m
present_key : Gives ("m" ∷ "h" ∷ []) (lines 1 (
    map_ "m" 2
    ∷ schedule "h" "again" ("m" ∷ []) plain
    ∷ complete "h"
    ∷ print "m"
    ∷ [])) no_table "m = {1: 5}\ntrap job 1 index 0: present-key\ntraps 1\n" 5
unfolding fresh full_steps deferred_steps digits first_some
present_key = computed (λ at. refl)

-- map m 1 / reference t / schedule h missed(m, t) / complete h / print t
missing_key : Gives ("m" ∷ "t" ∷ "h" ∷ []) (lines 1 (
    map_ "m" 1
    ∷ reference "t"
    ∷ schedule "h" "missed" ("m" ∷ "t" ∷ []) plain
    ∷ complete "h"
    ∷ print "t"
    ∷ [])) no_table "t = 0\ntrap job 1 index 0: missing-key\ntraps 1\n" 5
unfolding fresh full_steps deferred_steps digits first_some
missing_key = computed (λ at. refl)
