-- The codes of the plan's kernels after one kernel more was added: each kernel has its code.
use Rattle.std.proofs.Common.{◌≡◌, ⊎_elim, ℕ, zero, suc, ◌+◌, List, [], ◌∷◌, ◌++◌, length, Some, sym, ap, subst, ◌∙◌, arith}
use Rattle.std.specs.Prelude.{slice_get}
use Rattle.std.proofs.lemmas.List.{length-append}
use Rattle.frame_ast.specs.declared.kernel.Kernel.{Kernel}
use Rattle.kernel_bytecode.specs.declared.code.Code.{Code}
use Rattle.kernel_bytecode.specs.Codes.{IsCodeOf}
use Rattle.frame_core.specs.Ordered.{AreCodesOf}
use Rattle.frame_core.proofs.Small.{some_is, none_some, get_before, get_behind, get_either}
use Rattle.plan_state.specs.declared.state.Draft.{Draft}
use Rattle.plan_state.specs.Copies.{IsAdded}

coded_push : (ks : List Kernel) (cs : List Code) (k : Kernel) (c : Code) → AreCodesOf ks cs → IsCodeOf k c → AreCodesOf (ks ++ k ∷ []) (cs ++ c ∷ [])
coded_push ks cs k c are is = record {
  each = length-append cs (c ∷ []) ∙ ap (λ n. n + 1) are.each ∙ sym (length-append ks (k ∷ []));
  coded = λ n j d at_k at_c. ⊎_elim
      (λ e. are.coded n j d e.1 (sym (get_before cs (c ∷ []) n (let lt = e.0 in let same = are.each in omega arith)) ∙ at_c))
      (λ e. last j d e.0 e.2 (sym (get_behind cs (c ∷ []) e.0)
      ∙ (let same : length cs + e.0 ≡ n = (let at = e.1 in let same = are.each in omega arith) in ap (slice_get (cs ++ c ∷ [])) same)
      ∙ at_c))
      (get_either ks (k ∷ []) n j at_k);
}
  where
    last : (j : Kernel) (d : Code) (i : ℕ) → slice_get (k ∷ []) i ≡ Some j → slice_get (c ∷ []) i ≡ Some d → IsCodeOf j d
    last j d zero e f = subst (λ (l : Kernel). IsCodeOf l d) (some_is e) (subst (IsCodeOf k) (some_is f) is)
    last j d (suc i) e f = absurd (none_some e)

pub coded_added : (old new : Draft) (kernel : Kernel) (place : ℕ) → IsAdded old new kernel place → AreCodesOf old.kernels.items old.codes.items
    → AreCodesOf new.kernels.items new.codes.items
coded_added old new kernel place a are =
    subst (λ ks. AreCodesOf ks new.codes.items) (sym a.kernels)
    (subst (AreCodesOf (old.kernels.items ++ kernel ∷ [])) (sym a.codes) (coded_push old.kernels.items old.codes.items kernel a.code are a.is_code))
