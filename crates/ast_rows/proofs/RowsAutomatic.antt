-- Automatic sets, and blocks under a `when`.
use Prim.Native.String.{String}
use Rattle.std.proofs.Common.{refl, ℕ, List, [], ◌∷◌, ◌++◌}
use Rattle.std.specs.Fmt.{digits}
use Rattle.frame_ast.specs.Lists.{first_some}
use Rattle.frame_ast.specs.declared.script.Sign.{Sign}
use Rattle.frame_ast.specs.Kernels.{fresh}
use Rattle.frame_ast.specs.JobRuns.{full_steps, deferred_steps}
use Rattle.frame_ast.specs.Orders.{no_table}
use Rattle.ast_rows.proofs.Script.{Said, Gives, computed, lines, array, array_of, reference, set, print, plain, after, cut, schedule, schedule_auto, complete, complete_auto, dispose_auto, when, reference_of}

-- array x 4 = 1 2 3 4 / array y 4 / reference t / schedule auto h1 scale(x, y) 4 2 / schedule auto h2 total(y, t) / complete auto t / print t
automatic_dependencies : Gives ("x" ∷ "y" ∷ "t" ∷ "h1" ∷ "h2" ∷ []) (lines 13 (
    array_of "x" (1 ∷ 2 ∷ 3 ∷ 4 ∷ [])
    ∷ array "y" 4
    ∷ reference "t"
    ∷ schedule_auto "h1" "scale" ("x" ∷ "y" ∷ []) (cut 4 2 plain)
    ∷ schedule_auto "h2" "total" ("y" ∷ "t" ∷ []) plain
    ∷ complete_auto "t"
    ∷ print "t"
    ∷ [])) no_table "t = 30\n" 0
unfolding fresh full_steps deferred_steps digits first_some
automatic_dependencies = computed (λ at. refl)

-- array a 1 = 5 / reference t / reference u / schedule auto w bump(a) / schedule auto r1 peek(a, t) / schedule auto r2 peek(a, u)
-- / schedule auto w2 bump(a) / dispose auto a as d / complete d / print t / print u
automatic_disposal : Gives ("a" ∷ "t" ∷ "u" ∷ "w" ∷ "r1" ∷ "r2" ∷ "w2" ∷ "d" ∷ []) (lines 13 (
    array_of "a" (5 ∷ [])
    ∷ reference "t"
    ∷ reference "u"
    ∷ schedule_auto "w" "bump" ("a" ∷ []) plain
    ∷ schedule_auto "r1" "peek" ("a" ∷ "t" ∷ []) plain
    ∷ schedule_auto "r2" "peek" ("a" ∷ "u" ∷ []) plain
    ∷ schedule_auto "w2" "bump" ("a" ∷ []) plain
    ∷ dispose_auto "a" "d"
    ∷ complete "d"
    ∷ print "t"
    ∷ print "u"
    ∷ [])) no_table "t = 6\nu = 6\n" 0
unfolding fresh full_steps deferred_steps digits first_some
automatic_disposal = computed (λ at. refl)

-- array a 1 / reference t / schedule auto h1 bump(a) / schedule auto h2 peek(a, t) / complete h2 / print a
automatic_job_waits : Gives ("a" ∷ "t" ∷ "h1" ∷ "h2" ∷ []) (lines 13 (
    array "a" 1
    ∷ reference "t"
    ∷ schedule_auto "h1" "bump" ("a" ∷ []) plain
    ∷ schedule_auto "h2" "peek" ("a" ∷ "t" ∷ []) plain
    ∷ complete "h2"
    ∷ print "a"
    ∷ [])) no_table "a = [1]\n" 0
unfolding fresh full_steps deferred_steps digits first_some
automatic_job_waits = computed (λ at. refl)

-- array a 1 / array b 1 / schedule h1 bump(a) / schedule auto h2 bump(b) after h1 / complete h2 / print a
automatic_job_waits_for_what_it_names : Gives ("a" ∷ "b" ∷ "h1" ∷ "h2" ∷ []) (lines 13 (
    array "a" 1
    ∷ array "b" 1
    ∷ schedule "h1" "bump" ("a" ∷ []) plain
    ∷ schedule_auto "h2" "bump" ("b" ∷ []) (after ("h1" ∷ []) plain)
    ∷ complete "h2"
    ∷ print "a"
    ∷ [])) no_table "a = [1]\n" 0
unfolding fresh full_steps deferred_steps digits first_some
automatic_job_waits_for_what_it_names = computed (λ at. refl)

-- array a 1 / reference t / schedule h peek(a, t) / complete auto a / set a 0 = 5 / print t
automatic_completion_of_a_reader : Gives ("a" ∷ "t" ∷ "h" ∷ []) (lines 13 (
    array "a" 1
    ∷ reference "t"
    ∷ schedule "h" "peek" ("a" ∷ "t" ∷ []) plain
    ∷ complete_auto "a"
    ∷ set "a" 0 5
    ∷ print "t"
    ∷ [])) no_table "t = 0\n" 0
unfolding fresh full_steps deferred_steps digits first_some
automatic_completion_of_a_reader = computed (λ at. refl)

-- array a 1 / reference t / schedule h peek(a, t) / dispose auto a as d / complete d / print t
automatic_disposal_after_a_reader : Gives ("a" ∷ "t" ∷ "h" ∷ "d" ∷ []) (lines 13 (
    array "a" 1
    ∷ reference "t"
    ∷ schedule "h" "peek" ("a" ∷ "t" ∷ []) plain
    ∷ dispose_auto "a" "d"
    ∷ complete "d"
    ∷ print "t"
    ∷ [])) no_table "t = 0\n" 0
unfolding fresh full_steps deferred_steps digits first_some
automatic_disposal_after_a_reader = computed (λ at. refl)

-- reference t / array a 1 = 6 / schedule h peek(a, t) / complete h / when t > 3 { / set a 0 = 1 / print a / } / when t < 3 { / print a / } / print t
abbrev pub block_names : List String
block_names = "t" ∷ "a" ∷ "h" ∷ []

abbrev pub block_said : List (ℕ × Said)
block_said = lines 13 (
    reference "t"
    ∷ array_of "a" (6 ∷ [])
    ∷ schedule "h" "peek" ("a" ∷ "t" ∷ []) plain
    ∷ complete "h"
    ∷ when "t" Sign.Gt 3 2
    ∷ set "a" 0 1
    ∷ print "a"
    ∷ [])
    ++ lines 21 (
    when "t" Sign.Lt 3 1
    ∷ print "a"
    ∷ [])
    ++ lines 24 (
    print "t"
    ∷ [])

block_by_value : Gives block_names block_said no_table "a = [1]\nt = 6\n" 0
unfolding fresh full_steps deferred_steps digits first_some
block_by_value = computed (λ at. refl)

-- reference t / array a 1 / schedule h bump(a) / when t == 0 { / print t / } / complete h / print a
block_while_busy : Gives ("t" ∷ "a" ∷ "h" ∷ []) (lines 13 (
    reference "t"
    ∷ array "a" 1
    ∷ schedule "h" "bump" ("a" ∷ []) plain
    ∷ when "t" Sign.Eq 0 1
    ∷ print "t"
    ∷ [])
    ++ lines 19 (
    complete "h"
    ∷ print "a"
    ∷ [])) no_table "refused 16: busy job 1\na = [1]\n" 1
unfolding fresh full_steps deferred_steps digits first_some
block_while_busy = computed (λ at. refl)

-- reference t / when t == 1 { / array b 2 / } / print b
name_of_a_passed_block : Gives ("t" ∷ "b" ∷ []) (lines 13 (
    reference "t"
    ∷ when "t" Sign.Eq 1 1
    ∷ array "b" 2
    ∷ [])
    ++ lines 17 (
    print "b"
    ∷ [])) no_table "refused 17: disposed b\n" 1
unfolding fresh full_steps deferred_steps digits first_some
name_of_a_passed_block = computed (λ at. refl)

-- reference t = 2 / when t <= 2 { / print t / } / when t >= 3 { / print t / } / when t != 2 { / print t / } / when t == 2 { / print t / }
comparisons_of_when : Gives ("t" ∷ []) (lines 1 (
    reference_of "t" 2
    ∷ when "t" Sign.Le 2 1
    ∷ print "t"
    ∷ [])
    ++ lines 5 (
    when "t" Sign.Ge 3 1
    ∷ print "t"
    ∷ [])
    ++ lines 8 (
    when "t" Sign.Ne 2 1
    ∷ print "t"
    ∷ [])
    ++ lines 11 (
    when "t" Sign.Eq 2 1
    ∷ print "t"
    ∷ [])) no_table "t = 2\nt = 2\n" 0
unfolding fresh full_steps deferred_steps digits first_some
comparisons_of_when = computed (λ at. refl)
