-- Scripts that a text gives: each name has one kind, is made before it is used, and fits where it stands.
use Prim.Native.String.{String}
use Rattle.std.proofs.Common.{◌≡◌, refl, ℕ, zero, suc, Bool, true, false, List, [], ◌∷◌, length, map, Some, subst, slice_get, IsTrue}
use Rattle.std.specs.Prelude.{count_by}
use Rattle.frame_ast.specs.declared.script.Script.{Script}
use Rattle.frame_ast.specs.declared.kernel.Kernel.{Kernel}
use Rattle.frame_ast.specs.Checked.{IsChecked}
use Rattle.frame_ast.specs.declared.name_kind.NameKind.{NameKind}
use Rattle.frame_ast.specs.declared.name_kind.NameKind.TheVariants.{Array as ArrayName, Reference as RefName, Map as MapName, Handle as HandleName}
use Rattle.frame_ast.specs.Accepted.{statements_fit, up_to, is_when, IsAccepted}
use Rattle.ast_rows.proofs.Trees.{Place}
use Rattle.ast_rows.proofs.Kernel.{Text, kernel}
use Rattle.ast_rows.proofs.Kernels.{kernels}
use Rattle.ast_rows.proofs.Script.{Said, script, lines, array, reference, schedule, plain, cut, print}
use Rattle.ast_rows.proofs.RowsConflicts.{total_names, total_said}
use Rattle.ast_rows.proofs.RowsContainers.{keys_names, keys_said}
use Rattle.ast_rows.proofs.RowsLifetimes.{reused_names, reused_said}
use Rattle.ast_rows.proofs.RowsAutomatic.{block_names, block_said}
use Rattle.ast_rows.proofs.CheckedKernels.{checked_scale, checked_total, checked_bump, checked_peek, checked_shift, checked_pair, checked_both, checked_emit, checked_slow, checked_quick, checked_keys, checked_push, checked_triple, checked_edge, checked_twice, checked_pairs, checked_over, checked_grow, checked_cap, checked_signs, checked_logic, checked_edit, checked_lookup, checked_again, checked_missed, checked_mark, checked_cross}

-- each of some kernels is checked
data AllChecked (at : Place) : List Text → Type 0 where
  none : AllChecked at []
  ◌also◌ : {k : Text} {more : List Text} → IsChecked (kernel at k) → AllChecked at more → AllChecked at (k ∷ more)

infixr 30 ◌also◌
one_of : (at : Place) (ks : List Text) → AllChecked at ks → (n : ℕ) (it : Kernel) → slice_get (map (kernel at) ks) n ≡ Some it → IsChecked it
one_of at [] none n it e = cc
one_of at (k ∷ more) (c also all) zero it e = let same : kernel at k ≡ it = cc in subst IsChecked same c
one_of at (k ∷ more) (c also all) (suc n) it e = one_of at more all n it e

all_checked : (at : Place) → AllChecked at kernels
all_checked at =
    checked_scale.checked at
    also checked_total.checked at
    also checked_bump.checked at
    also checked_peek.checked at
    also checked_shift.checked at
    also checked_pair.checked at
    also checked_both.checked at
    also checked_emit.checked at
    also checked_slow.checked at
    also checked_quick.checked at
    also checked_keys.checked at
    also checked_push.checked at
    also checked_triple.checked at
    also checked_edge.checked at
    also checked_twice.checked at
    also checked_pairs.checked at
    also checked_over.checked at
    also checked_grow.checked at
    also checked_cap.checked at
    also checked_signs.checked at
    also checked_logic.checked at
    also checked_edit.checked at
    also checked_lookup.checked at
    also checked_again.checked at
    also checked_missed.checked at
    also checked_mark.checked at
    also checked_cross.checked at
    also none

-- whether the statements of a script fit, where its names have these kinds
abbrev fit : List String → List (ℕ × Said) → List NameKind → Place → Bool
fit names said kinds at =
    let s = script at names said in
    statements_fit (record { kinds = kinds; made = 0 }) (map (λ v. v.items) s.literals.items) s.kernels.items 0 s.statements.items

abbrev Counts : Script → Type 0
Counts s = IsTrue (up_to 65536 (length s.statements.items)) × IsTrue (up_to 1024 (count_by (λ x. is_when x.act) s.statements.items))

-- A script that a text gives.
pub record Accepts (names : List String) (said : List (ℕ × Said)) : Type 0 where
  pub accepted : (at : Place) → IsAccepted (script at names said)

computed : {names : List String} {said : List (ℕ × Said)} (kinds : List NameKind)
    → ((at : Place) → (length kinds ≡ length (script at names said).names) × (fit names said kinds at ≡ true) × Counts (script at names said))
    → Accepts names said
computed kinds each = record {
  accepted = λ at. record {
    kinds = kinds;
    each = (each at).0;
    fits = (each at).1;
    kernels = λ k it e. one_of at kernels (all_checked at) k it e;
    kernel_count = refl;
    statement_count = (each at).2.0;
    when_count = (each at).2.1;
  };
}

total_fits : Accepts total_names total_said
total_fits = computed (ArrayName ∷ ArrayName ∷ RefName ∷ HandleName ∷ HandleName ∷ []) (λ at. (refl, refl, (refl, refl)))

reused_fits : Accepts reused_names reused_said
reused_fits = computed (ArrayName ∷ RefName ∷ HandleName ∷ HandleName ∷ ArrayName ∷ ArrayName ∷ []) (λ at. (refl, refl, (refl, refl)))

keys_fit : Accepts keys_names keys_said
keys_fit = computed (MapName ∷ RefName ∷ HandleName ∷ []) (λ at. (refl, refl, (refl, refl)))

block_fits : Accepts block_names block_said
block_fits = computed (RefName ∷ ArrayName ∷ HandleName ∷ []) (λ at. (refl, refl, (refl, refl)))

-- print a / array a 1: used before it is made
used_too_early : (at : Place) → fit ("a" ∷ []) (lines 1 (print "a" ∷ array "a" 1 ∷ [])) (ArrayName ∷ []) at ≡ false
used_too_early at = refl

-- reference t / array y 1 / schedule h scale(t, y) 1 1: a reference is no array
wrong_kind : (at : Place) → fit ("t" ∷ "y" ∷ "h" ∷ []) (lines 1 (reference "t" ∷ array "y" 1 ∷ schedule "h" "scale" ("t" ∷ "y" ∷ []) (cut 1 1 plain) ∷ []))
    (RefName ∷ ArrayName ∷ HandleName ∷ []) at ≡ false
wrong_kind at = refl

-- array y 1 / schedule h scale(y, y): a parallel job has no length
no_length : (at : Place) → fit ("y" ∷ "h" ∷ []) (lines 1 (array "y" 1 ∷ schedule "h" "scale" ("y" ∷ "y" ∷ []) plain ∷ []))
    (ArrayName ∷ HandleName ∷ []) at ≡ false
no_length at = refl

-- array y 1 / schedule h scale(y, y) 1 0: a batch is at least 1
no_batch : (at : Place) → fit ("y" ∷ "h" ∷ []) (lines 1 (array "y" 1 ∷ schedule "h" "scale" ("y" ∷ "y" ∷ []) (cut 1 0 plain) ∷ []))
    (ArrayName ∷ HandleName ∷ []) at ≡ false
no_batch at = refl
