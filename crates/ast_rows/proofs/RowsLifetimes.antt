-- Lifetimes, disposal and words.
use Prim.Native.String.{String}
use Rattle.std.proofs.Common.{refl, ℕ, List, [], ◌∷◌}
use Rattle.std.specs.Fmt.{digits}
use Rattle.frame_ast.specs.Lists.{first_some}
use Rattle.frame_ast.specs.declared.script.Life.{Life}
use Rattle.frame_ast.specs.Kernels.{fresh}
use Rattle.frame_ast.specs.JobRuns.{full_steps, deferred_steps}
use Rattle.frame_ast.specs.Orders.{no_table}
use Rattle.ast_rows.proofs.Script.{Said, Gives, computed, lines, array_for, array, array_of, array_of_for, list, reference, copy, print, plain, schedule, complete, dispose, dispose_after, frame, setcapacity}

-- array a 2 = 1 2 / copy b a / dispose a / array c 2 = 3 4 / print b / print c
copy_of_a_disposed_array : Gives ("a" ∷ "b" ∷ "c" ∷ []) (lines 13 (
    array_of "a" (1 ∷ 2 ∷ [])
    ∷ copy "b" "a"
    ∷ dispose "a"
    ∷ array_of "c" (3 ∷ 4 ∷ [])
    ∷ print "b"
    ∷ print "c"
    ∷ [])) no_table "refused 17: disposed b\nc = [3, 4]\n" 1
unfolding fresh full_steps deferred_steps digits first_some
copy_of_a_disposed_array = computed (λ at. refl)

-- array a 2 = 1 2 / reference t / schedule h peek(a, t) / dispose a after h as d / array b 2 = 8 9 / complete d / array c 2 / print t / print b
abbrev pub reused_names : List String
reused_names = "a" ∷ "t" ∷ "h" ∷ "d" ∷ "b" ∷ "c" ∷ []

abbrev pub reused_said : List (ℕ × Said)
reused_said = lines 13 (
    array_of "a" (1 ∷ 2 ∷ [])
    ∷ reference "t"
    ∷ schedule "h" "peek" ("a" ∷ "t" ∷ []) plain
    ∷ dispose_after "a" ("h" ∷ []) "d"
    ∷ array_of "b" (8 ∷ 9 ∷ [])
    ∷ complete "d"
    ∷ array "c" 2
    ∷ print "t"
    ∷ print "b"
    ∷ [])

words_reused_after_the_reader : Gives reused_names reused_said no_table "t = 1\nb = [8, 9]\n" 0
unfolding fresh full_steps deferred_steps digits first_some
words_reused_after_the_reader = computed (λ at. refl)

-- list a 1048575 / array b 1 / print b / dispose a / array b 1 / print b
-- The list takes all 1,048,576 words.
full_store : Gives ("a" ∷ "b" ∷ []) (lines 13 (
    list "a" 1048575
    ∷ array "b" 1
    ∷ print "b"
    ∷ dispose "a"
    ∷ array "b" 1
    ∷ print "b"
    ∷ [])) no_table "refused 14: store full\nrefused 15: disposed b\nb = [0]\n" 1
unfolding fresh full_steps deferred_steps digits first_some
full_store = computed (λ at. refl)

-- list a 1048575 / schedule h grow(a) / dispose a after h as d / array b 1 / complete d / array b 1 / print b
-- The words stay live until the job that uses them is completed.
words_held_by_a_job : Gives ("a" ∷ "h" ∷ "d" ∷ "b" ∷ []) (lines 13 (
    list "a" 1048575
    ∷ schedule "h" "grow" ("a" ∷ []) plain
    ∷ dispose_after "a" ("h" ∷ []) "d"
    ∷ array "b" 1
    ∷ complete "d"
    ∷ array "b" 1
    ∷ print "b"
    ∷ [])) no_table "refused 16: store full\nb = [0]\n" 1
unfolding fresh full_steps deferred_steps digits first_some
words_held_by_a_job = computed (λ at. refl)

-- array a 2 temp = 1 2 / print a / schedule h bump(a) / frame / print a / array b 2 / print b
temp_ends_with_its_frame : Gives ("a" ∷ "h" ∷ "b" ∷ []) (lines 13 (
    array_of_for Life.Temp "a" (1 ∷ 2 ∷ [])
    ∷ print "a"
    ∷ schedule "h" "bump" ("a" ∷ []) plain
    ∷ frame
    ∷ print "a"
    ∷ array "b" 2
    ∷ print "b"
    ∷ [])) no_table "a = [1, 2]\nrefused 15: temp a\nrefused 17: disposed a\nb = [0, 0]\n" 1
unfolding fresh full_steps deferred_steps digits first_some
temp_ends_with_its_frame = computed (λ at. refl)

-- array a 1 tempjob / schedule h bump(a) / frame / frame / frame / frame / complete h / print a / dispose a / frame
tempjob_is_overdue : Gives ("a" ∷ "h" ∷ []) (lines 13 (
    array_for Life.TempJob "a" 1
    ∷ schedule "h" "bump" ("a" ∷ []) plain
    ∷ frame
    ∷ frame
    ∷ frame
    ∷ frame
    ∷ complete "h"
    ∷ print "a"
    ∷ dispose "a"
    ∷ frame
    ∷ [])) no_table "overdue 18: a made on line 13\na = [1]\n" 0
unfolding fresh full_steps deferred_steps digits first_some
tempjob_is_overdue = computed (λ at. refl)

-- list l 9 / list k 1048564 / setcapacity l 5 / setcapacity l 0
-- One word is left, so the first needs more than there is, and would also be too small.
full_store_before_range : Gives ("l" ∷ "k" ∷ []) (lines 1 (
    list "l" 9
    ∷ list "k" 1048564
    ∷ setcapacity "l" 5
    ∷ setcapacity "l" 0
    ∷ [])) no_table "refused 3: store full\nrefused 4: range\n" 1
unfolding fresh full_steps deferred_steps digits first_some
full_store_before_range = computed (λ at. refl)
