-- The arguments of an access, one after another.
use Rattle.std.proofs.Common.{◌≡◌, ℕ, zero, suc, ◌+◌, ◌<◌, ◌≤◌, List, [], ◌∷◌, ◌++◌, length, get_or, drop, drop-cons, min, append_assoc, refl, sym, ap, subst, ◌∙◌, arith}
use Rattle.job_base.specs.declared.Access.{Access}
use Rattle.frame_ast.specs.declared.kernel.Param.{Param}
use Rattle.frame_ast.specs.declared.script.Arg.{Arg}
use Rattle.frame_ast.specs.declared.script.Script.{Script}
use Rattle.schedule_text.specs.Boxes.{used_part, used_text}

-- how far the text has come
pub record IsOn (script : Script) (wanted : Access) (args : List Arg) (params : List Param) (text : List ℕ) (i : ℕ) : Type 0 where
  pub same : text ++ used_text script wanted (drop i args) (drop i params) ≡ used_text script wanted args params

pub begins : (script : Script) (wanted : Access) (args : List Arg) (params : List Param) (text : List ℕ) → text ≡ [] → IsOn script wanted args params text 0
begins script wanted args params text e = record { same = ap (λ t. t ++ used_text script wanted args params) e }

no_params : (script : Script) (wanted : Access) (args : List Arg) → used_text script wanted args [] ≡ []
no_params script wanted [] = refl
no_params script wanted (a ∷ args) = refl

none_left : (script : Script) (wanted : Access) (args : List Arg) (params : List Param) (i : ℕ) → min (length args) (length params) ≤ i
    → used_text script wanted (drop i args) (drop i params) ≡ []
none_left script wanted [] params zero le = refl
none_left script wanted [] params (suc i) le = refl
none_left script wanted (a ∷ args) [] zero le = refl
none_left script wanted (a ∷ args) [] (suc i) le = no_params script wanted (drop i args)
none_left script wanted (a ∷ args) (p ∷ params) zero le = absurd (omega arith)
none_left script wanted (a ∷ args) (p ∷ params) (suc i) le = none_left script wanted args params i (omega arith)

append_nil : (xs : List ℕ) → xs ++ [] ≡ xs
append_nil [] = refl
append_nil (x ∷ xs) = ap (λ ys. x ∷ ys) (append_nil xs)

pub ends : (script : Script) (wanted : Access) (args : List Arg) (params : List Param) (text : List ℕ) (i : ℕ) → min (length args) (length params) ≤ i
    → IsOn script wanted args params text i → text ≡ used_text script wanted args params
ends script wanted args params text i le h =
    sym (append_nil text) ∙ (ap (λ t. text ++ t) (sym (none_left script wanted args params i le)) ∙ h.same)

pub goes : (script : Script) (wanted : Access) (args : List Arg) (params : List Param) (text next : List ℕ) (i : ℕ) (a : Arg) (p : Param)
    → i < length args → i < length params → next ≡ text ++ used_part script wanted (get_or args i a) (get_or params i p)
    → IsOn script wanted args params text i → IsOn script wanted args params next (i + 1)
goes script wanted args params text next i a p la lp e h =
    let up : suc i ≡ i + 1 = omega arith in
    let rest = used_text script wanted (drop (suc i) args) (drop (suc i) params) in
    let part = used_part script wanted (get_or args i a) (get_or params i p) in
    let cut : used_text script wanted (drop i args) (drop i params) ≡ part ++ rest =
    ap (λ xs. used_text script wanted xs (drop i params)) (drop-cons args i a la)
    ∙ ap (λ ys. used_text script wanted (get_or args i a ∷ drop (suc i) args) ys) (drop-cons params i p lp) in
    subst (λ k. IsOn script wanted args params next k) up (record {
      same = ap (λ t. t ++ rest) e ∙ (append_assoc text part rest ∙ (ap (λ t. text ++ t) (sym cut) ∙ h.same));
    })
