-- Lists, maps, streams and columns.
use Prim.Native.String.{String}
use Rattle.std.proofs.Common.{refl, pos, negsuc, Some, None, codes, ℕ, List, [], ◌∷◌}
use Rattle.std.specs.Prelude.{if◌then◌else◌}
use Rattle.std.specs.Str.{bytes_eq}
use Rattle.std.specs.Fmt.{digits}
use Rattle.frame_ast.specs.Lists.{first_some}
use Rattle.frame_ast.specs.Kernels.{fresh}
use Rattle.frame_ast.specs.JobRuns.{full_steps, deferred_steps}
use Rattle.frame_ast.specs.Orders.{Table, no_table}
use Rattle.ast_rows.proofs.Script.{Said, Gives, computed, lines, column, list, reference, reference_of, map_, stream, view, add, add_pair, put, remove, setcapacity, print, plain, cut, schedule, complete, clear, slice, set, array_of, set_to}

-- the table of which the columns are made: item,price / 1,250 / 2,-30 / 3,80
abbrev prices : Table
prices name = if bytes_eq name (codes "price") then Some (pos 250 ∷ negsuc 29 ∷ pos 80 ∷ []) else None

-- list l 3 / add l 5 / view v l / add l 6 / print v / view v l / print v
added_item_breaks_views : Gives ("l" ∷ "v" ∷ []) (lines 13 (
    list "l" 3
    ∷ add "l" 5
    ∷ view "v" "l"
    ∷ add "l" 6
    ∷ print "v"
    ∷ view "v" "l"
    ∷ print "v"
    ∷ [])) no_table "refused 17: stale view v\nv = [5, 6]\n" 1
unfolding fresh full_steps deferred_steps digits first_some
added_item_breaks_views = computed (λ at. refl)

-- map m 2 / add m 1 5 / add m 2 6 / reference t = 7 / schedule h keys(m, t) / complete h / print t / remove m 1 / put m 3 8 / remove m 1
-- / add m 2 0 / print m / put m 4 4
abbrev pub keys_names : List String
keys_names = "m" ∷ "t" ∷ "h" ∷ []

abbrev pub keys_said : List (ℕ × Said)
keys_said = lines 13 (
    map_ "m" 2
    ∷ add_pair "m" 1 5
    ∷ add_pair "m" 2 6
    ∷ reference_of "t" 7
    ∷ schedule "h" "keys" ("m" ∷ "t" ∷ []) plain
    ∷ complete "h"
    ∷ print "t"
    ∷ remove "m" 1
    ∷ put "m" 3 8
    ∷ remove "m" 1
    ∷ add_pair "m" 2 0
    ∷ print "m"
    ∷ put "m" 4 4
    ∷ [])

keys_of_a_map : Gives keys_names keys_said no_table
    "t = 0\nrefused 22: missing key\nrefused 23: present key\nm = {2: 6, 3: 8}\nrefused 25: full\ntrap job 1 index 0: full\ntraps 1\n" 5
unfolding fresh full_steps deferred_steps digits first_some
keys_of_a_map = computed (λ at. refl)

-- stream s 4 2 / schedule h emit(s) 4 1 / complete h / print s
items_by_index : Gives ("s" ∷ "h" ∷ []) (lines 13 (
    stream "s" 4 2
    ∷ schedule "h" "emit" ("s" ∷ []) (cut 4 1 plain)
    ∷ complete "h"
    ∷ print "s"
    ∷ [])) no_table "s = [[], [1], [2, 2], [3, 3]]\ntrap job 1 index 3: full\ntraps 1\n" 5
unfolding fresh full_steps deferred_steps digits first_some
items_by_index = computed (λ at. refl)

-- column p "price" / reference t / schedule h total(p, t) / complete h / print t
total_of_a_column : Gives ("p" ∷ "t" ∷ "h" ∷ []) (lines 13 (
    column "p" "price"
    ∷ reference "t"
    ∷ schedule "h" "total" ("p" ∷ "t" ∷ []) plain
    ∷ complete "h"
    ∷ print "t"
    ∷ [])) prices "t = 300\n" 0
unfolding fresh full_steps deferred_steps digits first_some
total_of_a_column = computed {table = prices} (λ at. refl)

-- column p "price" / print p
print_of_a_column : Gives ("p" ∷ []) (lines 13 (
    column "p" "price"
    ∷ print "p"
    ∷ [])) prices "p = [250, -30, 80]\n" 0
unfolding fresh full_steps deferred_steps digits first_some
print_of_a_column = computed {table = prices} (λ at. refl)

-- list l 1 / add l 4 / add l 5 / setcapacity l 2 / add l 5 / remove l 0 / remove l 1 / print l / setcapacity l 1
capacity_of_a_list : Gives ("l" ∷ []) (lines 13 (
    list "l" 1
    ∷ add "l" 4
    ∷ add "l" 5
    ∷ setcapacity "l" 2
    ∷ add "l" 5
    ∷ remove "l" 0
    ∷ remove "l" 1
    ∷ print "l"
    ∷ setcapacity "l" 1
    ∷ [])) no_table "refused 15: full\nrefused 19: range\nl = [5]\nrefused 21: range\n" 1
unfolding fresh full_steps deferred_steps digits first_some
capacity_of_a_list = computed (λ at. refl)

-- a whole file: job twice(..) / stream s 3 1 / schedule h twice(s) / complete h / print s
index_begun_twice : Gives ("s" ∷ "h" ∷ []) (lines 2 (
    stream "s" 3 1
    ∷ schedule "h" "twice" ("s" ∷ []) plain
    ∷ complete "h"
    ∷ print "s"
    ∷ [])) no_table "s = [[5], [], []]\ntrap job 1 index 0: written\ntraps 1\n" 5
unfolding fresh full_steps deferred_steps digits first_some
index_begun_twice = computed (λ at. refl)

-- list l 2 / add l 1 / view v l / clear l / print v / print l / add l 7 / print l
cleared_list : Gives ("l" ∷ "v" ∷ []) (lines 1 (
    list "l" 2
    ∷ add "l" 1
    ∷ view "v" "l"
    ∷ clear "l"
    ∷ print "v"
    ∷ print "l"
    ∷ add "l" 7
    ∷ print "l"
    ∷ [])) no_table "refused 5: stale view v\nl = []\nl = [7]\n" 1
unfolding fresh full_steps deferred_steps digits first_some
cleared_list = computed (λ at. refl)

-- array a 4 = 1 2 3 4 / slice v a 1 3 / slice w v 1 2 / set w 1 = 9 / print a / slice u w 0 3 / print u
slice_of_a_slice : Gives ("a" ∷ "v" ∷ "w" ∷ "u" ∷ []) (lines 1 (
    array_of "a" (1 ∷ 2 ∷ 3 ∷ 4 ∷ [])
    ∷ slice "v" "a" 1 3
    ∷ slice "w" "v" 1 2
    ∷ set "w" 1 9
    ∷ print "a"
    ∷ slice "u" "w" 0 3
    ∷ print "u"
    ∷ [])) no_table "a = [1, 2, 3, 9]\nrefused 6: range\nrefused 7: disposed u\n" 1
unfolding fresh full_steps deferred_steps digits first_some
slice_of_a_slice = computed (λ at. refl)

-- reference t = 3 / set t = 5 / print t
reference_that_is_set : Gives ("t" ∷ []) (lines 1 (
    reference_of "t" 3
    ∷ set_to "t" 5
    ∷ print "t"
    ∷ [])) no_table "t = 5\n" 0
unfolding fresh full_steps deferred_steps digits first_some
reference_that_is_set = computed (λ at. refl)
