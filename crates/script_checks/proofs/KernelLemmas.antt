-- A kernel that is added to those known.
use Rattle.std.proofs.Common.{◌≡◌, ℕ, ◌-◌, ◌<◌, ◌≤◌, ◌^◌, Bool, true, false, cond, nat_lt, List, [], ◌∷◌, ◌++◌, length, map, Option, Some, None, refl, sym, ◌∙◌, ap, subst, arith, length-append, slice_get, zero, suc, IfSome}
use Rattle.std.specs.Map.{update}
use Rattle.std.specs.Str.{bytes_eq}
use Rattle.std.specs.String.{string_bytes}
use Rattle.std.specs.List.{position_or_len}
use Rattle.std.specs.Cmp.Lexicographic.{slice_cmp}
use Rattle.std.specs.Ordering.{nat_cmp}
use Rattle.std.specs.BTreeMap.{BTreeMap, UpdatesBy}
use Rattle.std.specs.Borrow.{Bor}
use Rattle.std.proofs.lemmas.Slice.Eq.{bytes_eq-Decides}
use Rattle.std.proofs.lemmas.List.{map-append}
use Rattle.std.proofs.lemmas.List.Folds.{position_or_len_push}
use Rattle.std.proofs.lemmas.List.Sums.{prefix_len-le-length}
use Rattle.std.proofs.lemmas.Map.Text.{btree_map_updates_str}
use Rattle.frame_ast.specs.declared.kernel.Kernel.{Kernel}
use Rattle.frame_ast.specs.Accepted.{guard_fits}
use Rattle.script_checks.specs.KernelIndex.{IsKernelIndex, kernel_at}
use Rattle.script_names.proofs.NameLemmas.{at_push, bytes_eq-swap, missing, both}

chosen : (kernels : List Kernel) (text q : List ℕ) → kernel_at kernels text ≡ None → (b : Bool) → bytes_eq text q ≡ b → (w : Option ℕ) →
    cond (nat_lt (position_or_len (λ k. bytes_eq q (string_bytes k.name)) kernels) (length kernels))
    (Some (position_or_len (λ k. bytes_eq q (string_bytes k.name)) kernels)) (cond b w None)
    ≡ cond b w (kernel_at kernels q)
chosen kernels text q none true same w =
    let e : text ≡ q = (bytes_eq-Decides text q).0 same in
    let gone = missing _ _ (subst (λ t. kernel_at kernels t ≡ None) e none) in
    rw gone
chosen kernels text q none false same w = refl

-- the place of a name after a kernel of a new name is added
pub kernel_at-push : (kernels : List Kernel) (k : Kernel) (text : List ℕ) → text ≡ string_bytes k.name → kernel_at kernels text ≡ None → (q : List ℕ) →
    kernel_at (kernels ++ k ∷ []) q ≡ update bytes_eq (kernel_at kernels) text (Some (length kernels)) q
kernel_at-push kernels k text is none q =
    rw (position_or_len_push (λ j. bytes_eq q (string_bytes j.name)) kernels k, length-append kernels (k ∷ []))
    (at_push (bytes_eq q (string_bytes k.name)) (position_or_len (λ j. bytes_eq q (string_bytes j.name)) kernels) (length kernels)
    (prefix_len-le-length _ kernels)
    ∙ subst (λ b. cond (nat_lt (position_or_len (λ j. bytes_eq q (string_bytes j.name)) kernels) (length kernels))
    (Some (position_or_len (λ j. bytes_eq q (string_bytes j.name)) kernels)) (cond b (Some (length kernels)) None) ≡ cond (bytes_eq text q)
    (Some (length kernels)) (kernel_at kernels q))
    (bytes_eq-swap text q ∙ ap (bytes_eq q) is) (chosen kernels text q none (bytes_eq text q) refl (Some (length kernels))))

small_more : (kernels : List Kernel) (k : Kernel) → ((place : ℕ) (j : Kernel) → slice_get kernels place ≡ Some j → length j.params.items ≤ 16)
    → length k.params.items ≤ 16 →
    (place : ℕ) (j : Kernel) → slice_get (kernels ++ k ∷ []) place ≡ Some j → length j.params.items ≤ 16
small_more [] k all here zero j h = subst (λ o. IfSome o (λ i. length i.params.items ≤ 16)) h here
small_more [] k all here (suc place) j h = cc
small_more (x ∷ kernels) k all here zero j h = all zero j h
small_more (x ∷ kernels) k all here (suc place) j h = small_more kernels k (λ q i e. all (suc q) i e) here place j h

pub kernel_added : (old new : BTreeMap (Bor (List ℕ)) ℕ) (kernels : List Kernel) (rooms : List Bool) (k : Kernel) (room : Bool) (text : Bor (List ℕ))
    (place : ℕ) → place ≡ length kernels →
    IsKernelIndex old kernels rooms → length kernels < 2 ^ 32 - 1 → text.now ≡ string_bytes k.name → kernel_at kernels text.now ≡ None
    → length k.params.items ≤ 16 → room ≡ guard_fits k →
    UpdatesBy (λ x y. slice_cmp nat_cmp x.now y.now) (λ j. slice_cmp nat_cmp text.now j.now) old new (Some place) →
    IsKernelIndex new (kernels ++ k ∷ []) (rooms ++ room ∷ [])
kernel_added old new kernels rooms k room text place at index few is other small roomy updates = record {
  few = rw (length-append kernels (k ∷ [])) (omega (arith, few));
  finds = λ q.
      btree_map_updates_str text.now old new (Some place) updates q
      ∙ (both (bytes_eq text.now q) place (length kernels) _ _ at (index.finds q) ∙ sym (kernel_at-push kernels k text.now is other q));
  small = small_more kernels k index.small small;
  roomy = ap (λ xs. xs ++ room ∷ []) index.roomy ∙ (ap (λ z. map guard_fits kernels ++ z ∷ []) roomy ∙ sym (map-append guard_fits kernels (k ∷ [])));
}
