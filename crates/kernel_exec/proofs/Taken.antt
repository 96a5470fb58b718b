-- What a form takes: the bind of its parameter is of no other kind.
use Rattle.std.proofs.Common.{◌≡◌, ◌≢◌, ◌∙◌, ℕ, Bool, IsTrue, ℤ, List, Some, None, slice_get, refl, sym, ap, subst, arith}
use Rattle.std.proofs.lemmas.Option.{slice_get_within}
use Rattle.frame_ast.specs.declared.kernel.ParamKind.TheVariants.{Int as IntKind, Array as ArrayKind, List as ListKind, Ref as RefKind, Map as MapKind, Stream as StreamKind}
use Rattle.frame_ast.specs.declared.kernel.Kernel.{Kernel}
use Rattle.frame_ast.specs.Checked.{Demand, touch_meets, param_meets, meets, a_value, written_value, measurable, written_list, clearable}
use Rattle.frame_ast.proofs.Demands.{param_met}
use Rattle.native_array.specs.declared.array.ArrayAt.{ArrayAt}
use Rattle.native_array.specs.declared.reference.RefAt.{RefAt}
use Rattle.native_list.specs.declared.ListAt.{ListAt}
use Rattle.native_map.specs.declared.MapAt.{MapAt}
use Rattle.native_stream.specs.declared.StreamAt.{StreamAt}
use Rattle.kernel_exec.specs.declared.binds.Bind.{Bind}
use Rattle.kernel_exec.specs.declared.binds.Bind.TheVariants.{Int, Array, View, List as WholeList, Ref, Map, Stream}
use Rattle.kernel_exec.specs.Binds.{bind_at, kind_of}
use Rattle.kernel_exec.specs.Conditions.{IsCall}
use Rattle.kernel_exec.proofs.AtBinds.{bind_here}

pub taken : (kernel : Kernel) (binds : List Bind) (index : ℕ) (may_load may_store : ℕ → Bool)
    → IsCall kernel binds index may_load may_store → (x : ℕ) (b : Bind) → b ≡ bind_at binds x → (d : Demand)
    → IsTrue (meets kernel.params.items x d) → d (kind_of b) ≢ None
taken kernel binds index may_load may_store call x b is d h none =
    let p = param_met d (slice_get kernel.params.items x) h in
    let inside = slice_get_within kernel.params.items x p.0 p.1 in
    let count = call.fit.count in
    let here = bind_here binds x (omega arith) ∙ ap Some (sym is) in
    let kind : kind_of b ≡ p.0.kind = call.fit.kinds x p.0 b p.1 here in
    let met : IsTrue (param_meets d (Some p.0)) = subst (λ o. IsTrue (param_meets d o)) p.1 h in
    let by_bind : IsTrue (touch_meets (d (kind_of b)) p.0.access) =
    subst (λ k. IsTrue (touch_meets (d k) p.0.access)) (sym kind) met in
    let nothing : IsTrue (touch_meets None p.0.access) = subst (λ t. IsTrue (touch_meets t p.0.access)) none by_bind in
    cc

-- Of a bind of none of the kinds that it takes a form asks nothing.
pub no_value : (b : Bind) → ((z : ℤ) → b ≢ Int z) → ((at : RefAt) → b ≢ Ref at) → a_value (kind_of b) ≡ None
no_value (Int z) int ref = absurd (int z refl)
no_value (Array at own) int ref = refl
no_value (View at own) int ref = refl
no_value (WholeList at) int ref = refl
no_value (Ref at) int ref = absurd (ref at refl)
no_value (Map at) int ref = refl
no_value (Stream at own) int ref = refl

pub no_reference : (b : Bind) → ((at : RefAt) → b ≢ Ref at) → written_value (kind_of b) ≡ None
no_reference (Int z) ref = refl
no_reference (Array at own) ref = refl
no_reference (View at own) ref = refl
no_reference (WholeList at) ref = refl
no_reference (Ref at) ref = absurd (ref at refl)
no_reference (Map at) ref = refl
no_reference (Stream at own) ref = refl

pub no_size : (b : Bind) → ((at : ArrayAt) (own : ℕ) → b ≢ Array at own) → ((at : ListAt) (own : ℕ) → b ≢ View at own)
    → ((at : ListAt) → b ≢ WholeList at) → ((at : MapAt) → b ≢ Map at) → ((at : StreamAt) (own : Bool) → b ≢ Stream at own) → measurable (kind_of b) ≡ None
no_size (Int z) array view list map stream = refl
no_size (Array at own) array view list map stream = absurd (array at own refl)
no_size (View at own) array view list map stream = absurd (view at own refl)
no_size (WholeList at) array view list map stream = absurd (list at refl)
no_size (Ref at) array view list map stream = refl
no_size (Map at) array view list map stream = absurd (map at refl)
no_size (Stream at own) array view list map stream = absurd (stream at own refl)

pub no_list : (b : Bind) → ((at : ListAt) → b ≢ WholeList at) → written_list (kind_of b) ≡ None
no_list (Int z) list = refl
no_list (Array at own) list = refl
no_list (View at own) list = refl
no_list (WholeList at) list = absurd (list at refl)
no_list (Ref at) list = refl
no_list (Map at) list = refl
no_list (Stream at own) list = refl

pub no_clearable : (b : Bind) → ((at : ListAt) → b ≢ WholeList at) → ((at : MapAt) → b ≢ Map at) → clearable (kind_of b) ≡ None
no_clearable (Int z) list map = refl
no_clearable (Array at own) list map = refl
no_clearable (View at own) list map = refl
no_clearable (WholeList at) list map = absurd (list at refl)
no_clearable (Ref at) list map = refl
no_clearable (Map at) list map = absurd (map at refl)
no_clearable (Stream at own) list map = refl

pub no_elements : (d : Demand) → d IntKind ≡ None → d RefKind ≡ None → d StreamKind ≡ None → (b : Bind) → ((at : ArrayAt) (own : ℕ) → b ≢ Array at own)
    → ((at : ListAt) (own : ℕ) → b ≢ View at own) → ((at : ListAt) → b ≢ WholeList at) → ((at : MapAt) → b ≢ Map at) → d (kind_of b) ≡ None
no_elements d int_none ref_none stream_none (Int z) array view list map = int_none
no_elements d int_none ref_none stream_none (Array at own) array view list map = absurd (array at own refl)
no_elements d int_none ref_none stream_none (View at own) array view list map = absurd (view at own refl)
no_elements d int_none ref_none stream_none (WholeList at) array view list map = absurd (list at refl)
no_elements d int_none ref_none stream_none (Ref at) array view list map = ref_none
no_elements d int_none ref_none stream_none (Map at) array view list map = absurd (map at refl)
no_elements d int_none ref_none stream_none (Stream at own) array view list map = stream_none

pub no_map : (d : Demand) → d IntKind ≡ None → d ArrayKind ≡ None → d ListKind ≡ None → d RefKind ≡ None → d StreamKind ≡ None → (b : Bind)
    → ((at : MapAt) → b ≢ Map at) → d (kind_of b) ≡ None
no_map d int_none array_none list_none ref_none stream_none (Int z) map = int_none
no_map d int_none array_none list_none ref_none stream_none (Array at own) map = array_none
no_map d int_none array_none list_none ref_none stream_none (View at own) map = array_none
no_map d int_none array_none list_none ref_none stream_none (WholeList at) map = list_none
no_map d int_none array_none list_none ref_none stream_none (Ref at) map = ref_none
no_map d int_none array_none list_none ref_none stream_none (Map at) map = absurd (map at refl)
no_map d int_none array_none list_none ref_none stream_none (Stream at own) map = stream_none

pub no_stream : (d : Demand) → d IntKind ≡ None → d ArrayKind ≡ None → d ListKind ≡ None → d RefKind ≡ None → d MapKind ≡ None → (b : Bind)
    → ((at : StreamAt) (own : Bool) → b ≢ Stream at own) → d (kind_of b) ≡ None
no_stream d int_none array_none list_none ref_none map_none (Int z) stream = int_none
no_stream d int_none array_none list_none ref_none map_none (Array at own) stream = array_none
no_stream d int_none array_none list_none ref_none map_none (View at own) stream = array_none
no_stream d int_none array_none list_none ref_none map_none (WholeList at) stream = list_none
no_stream d int_none array_none list_none ref_none map_none (Ref at) stream = ref_none
no_stream d int_none array_none list_none ref_none map_none (Map at) stream = map_none
no_stream d int_none array_none list_none ref_none map_none (Stream at own) stream = absurd (stream at own refl)
