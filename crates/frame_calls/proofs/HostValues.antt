-- The machine values of a host's handle. Assumes `Logic`.
use Rattle.std.proofs.Common.{◌≡◌, List, [], ◌∷◌, ◌++◌, refl, subst}
use seplogic.Ra.Ura.{Ura}
use mir.Val.{Val, vstruct, of_list}
use base.Fml.{ftrue}
use types.Logic.{Logic}
use types.Kit.{Item, Goal, Seq, Step, step, ‵, ◌$◌, move, drop, fsplit, fjoin, fpick, fpack, feq_i, feq_l}
use denote.RattleType.{Valss}
use denote.RawPtr.{Ptr, ptr_val}
use denote.Steps.{nothing}
use denote.Param.{layout}
use denote.Struct.Struct.{within}
use denote.Struct.Owning.{shape, to as fields_of}
use Rattle.std.proofs.alloc.Calls.{handle_tells}
use Rattle.std.proofs.cell.Inside.{Good}
use Rattle.std.specs.declared.alloc.Global.{Global}
use Rattle.std.specs.declared.option.Option.{Option}
use Rattle.std.specs.contracts.alloc.Global as heap
use Rattle.frame_handle.specs.Handles.{held}
use Rattle.frame_handle.proofs.Values.{both, heap_al}
use Rattle.frame_calls.specs.Holding.{IsSound}
use Rattle.frame_calls.specs.declared.held.Held.{Held}
use Rattle.frame_calls.specs.contracts.held.Held as row_of_held
use Rattle.frame_calls.specs.contracts.host.HostHandle as host

module _ {M : Type 1} {𝓤 : Ura M} {𝓛 : Logic 𝓤} {K : Type 0} {Γ : List (Item 𝓤)} {G : Goal 𝓤 𝓛.H} where
  pub host_out : K → (d : host.the_row.Denot) (vs : List Val)
      → ((h : Val) → vs ≡ both (ptr_val d.at) h ∷ [] → Good (layout heap.the_row) h → IsSound d.value
      → Seq K 𝓛 (‵ (held row_of_held.the_row d.alloc d.at d.value) ∷ ‵ (heap.the_row.own_val d.alloc (h ∷ [])) ∷ Γ) G)
      → Seq K 𝓛 (‵ (host.the_row.own_val d vs) ∷ Γ) G
  host_out t d vs k =
      fsplit t $ fpick t (λ vss. fsplit t $ feq_l t (λ ev. fsplit t $ feq_l t (λ ep. fsplit t $
      handle_tells (heap_al row_of_held.the_row) t d.alloc vss.1.0 (λ h ea fits. move t (1 ∷ []) $ drop t $ move t (1 ∷ []) $
      fsplit t $ move t (1 ∷ []) $ fpick t (λ sound. drop t $
      k h (subst (λ (ws : List Val). vs ≡ vstruct (of_list (ptr_val d.at ∷ (ws ++ []))) ∷ []) ea
      (subst (λ (ps : List Val). vs ≡ vstruct (of_list (ps ++ (vss.1.0 ++ []))) ∷ []) ep ev)) fits sound)))))

  pub host_in : K → (p : Ptr) (h : Val) (a : Global) (x : Option Held) → IsSound x
      → Step K 𝓛 (‵ (host.the_row.own_val (record { at = p; alloc = a; value = x }) (both (ptr_val p) h ∷ [])) ∷ Γ) G
      (‵ (held row_of_held.the_row a p x) ∷ ‵ (heap.the_row.own_val a (h ∷ [])) ∷ Γ) G
  host_in t p h a x sound = step (λ s. let v : Val = both (ptr_val p) h in
      nothing t $ fpack t (IsSound x) (λ _. ftrue) sound $ move t (1 ∷ 0 ∷ []) $ fjoin t $
      nothing t $ move t (2 ∷ 0 ∷ []) $ fjoin t $ feq_i t (List Val) (ptr_val p ∷ []) (ptr_val p ∷ []) refl $ fjoin t $
      feq_i t (List Val) (v ∷ []) (v ∷ []) refl $ fjoin t $
      fpack t (Valss (shape host.the_type).fields) (within (shape host.the_type) (fields_of host.the_type (record { at = p; alloc = a; value = x })) (v ∷ []))
      (ptr_val p ∷ [], (h ∷ [], tt)) $ fjoin t $ s)
