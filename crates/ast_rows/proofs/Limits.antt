-- Limits on words and jobs: by the run, and by the text where there is a `when`.
use Prim.Native.String.{String}
use Rattle.std.proofs.Common.{◌≡◌, refl, ℕ, zero, suc, List, [], ◌∷◌, ◌++◌, Option, Some, None}
use Rattle.frame_ast.specs.Lists.{first_some}
use Rattle.frame_ast.specs.declared.script.Sign.{Sign}
use Rattle.frame_ast.specs.Orders.{no_table, setting}
use Rattle.frame_ast.specs.Limits.{Limit, limit_of, TooManyJobs, TooManyWords}
use Rattle.ast_rows.proofs.Trees.{Place}
use Rattle.ast_rows.proofs.Script.{Said, lines, script, statements, number_of, array, schedule, plain, list, reference, dispose, when, print}

abbrev times : ℕ → List Said → List Said
times zero xs = []
times (suc n) xs = xs ++ times n xs

-- which limit a script passes
abbrev Passes : List String → List Said → Option Limit → Type 0
Passes names said limit =
    (at : Place) → let s = script at names (lines 1 said) in limit_of (setting s no_table) s.statements.items ≡ limit

-- repeat 8 { / list a 1048575 / dispose a / }: as many words as may be created
words_fit : Passes ("a" ∷ []) (times 8 (list "a" 1048575 ∷ dispose "a" ∷ [])) None
unfolding first_some
words_fit at = refl

-- one word more
words_past : Passes ("a" ∷ "b" ∷ []) (times 8 (list "a" 1048575 ∷ dispose "a" ∷ []) ++ reference "b" ∷ []) (Some TooManyWords)
unfolding first_some
words_past at = refl

-- a refused statement creates no words: list b 1048575 / repeat 8 { / list a 1048575 / }
refused_fits : Passes ("b" ∷ "a" ∷ []) (list "b" 1048575 ∷ times 8 (list "a" 1048575 ∷ [])) None
unfolding first_some
refused_fits at = refl

-- but with a `when` they count on the text: reference t / when t == 1 { / print t / } / list b 1048575 / repeat 8 { / list a 1048575 / }
refused_counts : Passes ("t" ∷ "b" ∷ "a" ∷ []) (reference "t" ∷ when "t" Sign.Eq 1 1 ∷ print "t" ∷ list "b" 1048575 ∷ times 8 (list "a" 1048575 ∷ []))
    (Some TooManyWords)
unfolding first_some
refused_counts at = refl

-- 4,096 jobs may be scheduled: reference t / when t == 1 { / print t / } / array a 1 / repeat 4097 { / schedule h bump(a) / }
abbrev jobs_past : ℕ → Place → Option Limit
jobs_past n at =
    let names = "t" ∷ "a" ∷ "h" ∷ [] in
    let said = reference "t" ∷ when "t" Sign.Eq 1 1 ∷ print "t" ∷ array "a" 1 ∷ [] in
    limit_of (setting (script at names (lines 1 said)) no_table) (statements at (number_of names) 0
    (lines 1 (said ++ times n (schedule "h" "bump" ("a" ∷ []) plain ∷ []))))

jobs_4096 : (at : Place) → jobs_past 4096 at ≡ None
unfolding first_some
jobs_4096 at = refl

jobs_4097 : (at : Place) → jobs_past 4097 at ≡ Some TooManyJobs
unfolding first_some
jobs_4097 at = refl
