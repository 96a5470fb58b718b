-- What a job is given for its arguments, in the code's terms.
use Rattle.std.specs.Prelude.{ℕ, ◌+◌, Bool, not, nat_eq, List, [], ◌∷◌, Option, None, Some, slice_get}
use Rattle.frame_ast.specs.declared.kernel.ParamKind.{ParamKind}
use Rattle.frame_ast.specs.declared.kernel.ParamKind.TheVariants.{Int as IntKind, Array as ArrayKind, List as ListKind, Ref as RefKind, Map as MapKind, Stream as StreamKind}
use Rattle.frame_ast.specs.declared.kernel.Param.{Param}
use Rattle.frame_ast.specs.declared.script.Arg.{Arg}
use Rattle.frame_ast.specs.declared.script.Arg.TheVariants.{Name, Number}
use Rattle.frame_ast.specs.Schedules.{width_at}
use Rattle.kernel_exec.specs.declared.binds.Bind.{Bind}
use Rattle.kernel_exec.specs.declared.binds.Bind.TheVariants.{Int, Array, View, List as WholeList, Ref, Map, Stream}
use Rattle.plan_state.specs.declared.state.Value.{Value}
use Rattle.plan_state.specs.declared.state.World.{World}
use Rattle.plan_state.specs.Accesses.{no_words, bind_by}

-- the elements of an array, a slice, a view or a list
abbrev pub as_array : ℕ → Bind → Bind
as_array width (Int z) = Int z
as_array width (Array at own) = Array at width
as_array width (View at own) = View at width
as_array width (WholeList at) = View at width
as_array width (Ref at) = Ref at
as_array width (Map at) = Map at
as_array width (Stream at own) = Stream at own

abbrev pub as_stream : ℕ → Bind → Bind
as_stream width (Int z) = Int z
as_stream width (Array at own) = Array at own
as_stream width (View at own) = View at own
as_stream width (WholeList at) = WholeList at
as_stream width (Ref at) = Ref at
as_stream width (Map at) = Map at
as_stream width (Stream at own) = Stream at (not (nat_eq width 0))

abbrev pub as_kind : ParamKind → ℕ → Bind → Bind
as_kind IntKind width b = b
as_kind ArrayKind width b = as_array width b
as_kind ListKind width b = b
as_kind RefKind width b = b
as_kind MapKind width b = b
as_kind StreamKind width b = as_stream width b

abbrev pub bind_of_value : World → Option Value → Bind
bind_of_value w None = no_words
bind_of_value w (Some v) = bind_by w.containers.items v

abbrev pub job_bind : World → ParamKind → ℕ → Arg → Bind
job_bind w kind width (Name n) = as_kind kind width (bind_of_value w (slice_get w.values.items n))
job_bind w kind width (Number z) = Int z

-- the binds of a job, from the parameter at a place on
abbrev pub job_binds : World → Bool → List ℕ → ℕ → List Param → List Arg → List Bind
job_binds w parallel waive x [] args = []
job_binds w parallel waive x (q ∷ qs) [] = []
job_binds w parallel waive x (q ∷ qs) (a ∷ as_) =
    job_bind w q.kind (width_at parallel waive x q) a ∷ job_binds w parallel waive (x + 1) qs as_
