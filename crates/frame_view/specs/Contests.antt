-- The containers that two jobs contest: words of both, which one of the two may write.
use Rattle.std.specs.Prelude.{ℕ, ◌+◌, nat_lt, max, min, Bool, false, ◌&&◌, ◌||◌, List, [], ◌∷◌, Option, Some, None, slice_get}
use Rattle.job_base.specs.declared.Access.{Access}
use Rattle.frame_ast.specs.declared.kernel.Param.{Param}
use Rattle.frame_ast.specs.Schedules.{writes_to}
use Rattle.kernel_exec.specs.declared.binds.Bind.{Bind}
use Rattle.kernel_exec.specs.Binds.{start_of, end_of}

-- there is a word of both
abbrev pub shares : Bind → Bind → Bool
shares one other = nat_lt (max (start_of one) (start_of other)) (min (end_of one) (end_of other))

abbrev pub clashes : Access → Bind → Access → Bind → Bool
clashes access bind other other_bind = (writes_to access || writes_to other) && shares bind other_bind

abbrev pub clash_at : Option Bind → Access → Access → Bind → Bool
clash_at None access other other_bind = false
clash_at (Some bind) access other other_bind = clashes access bind other other_bind

-- An argument clashes with one of those of a job whose kernel has these parameters, the first of which is at place i.
abbrev pub is_contested : List Bind → Access → Bind → ℕ → List Param → Bool
is_contested binds access bind i [] = false
is_contested binds access bind i (p ∷ more) =
    clash_at (slice_get binds i) p.access access bind || is_contested binds access bind (i + 1) more
