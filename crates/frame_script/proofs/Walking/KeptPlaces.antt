-- Names and kernels keep their places when more are known.
use Rattle.std.proofs.Common.{◌≡◌, ℕ, zero, suc, ◌+◌, ◌<◌, Bool, cond, nat_lt, nat_eq, List, [], ◌∷◌, ◌++◌, length, length-append, Option, Some, None, sym, ◌∙◌, ap, arith, unwrap_or}
use Rattle.std.specs.List.{position_or_len, slice_get}
use Rattle.std.specs.Str.{bytes_eq}
use Rattle.std.specs.String.{string_bytes}
use Rattle.std.proofs.lemmas.Bool.Decides.{nat_tests}
use Rattle.std.proofs.lemmas.List.Folds.{find_at, position_or_len_push}
use Rattle.std.proofs.lemmas.Option.{slice_get_within}
use Rattle.frame_ast.specs.declared.kernel.Kernel.{Kernel}
use Rattle.frame_ast.specs.declared.name_kind.NameKind.{NameKind}
use Rattle.script_text.specs.declared.source.Source.{Source}
use Rattle.script_text.specs.Raw.{OrderForm}
use Rattle.script_text.specs.Sources.{text_at}
use Rattle.script_names.specs.Names.{Name}
use Rattle.script_checks.specs.Faults.{made_by}
use Rattle.script_checks.specs.Spelling.{names_with, names_after}
use Rattle.frame_script.specs.Walking.{KeepsNames, KeepsKernels}
use Rattle.script_names.proofs.PlaceLemmas.{place_kept}

names_kept_with : (s : Source) (old new : List Name) (m : Option (ℕ × NameKind)) → KeepsNames (names_with s old m) new → KeepsNames old new
names_kept_with s old new None keeps text place h = keeps text place h
names_kept_with s old new (Some m) keeps text place h = keeps text place (place_kept old (text_at s m.0) text m.1 place h)

-- what keeps the names behind a statement keeps those before it
pub names_kept : (s : Source) (old new : List Name) (form : OrderForm) → KeepsNames (names_after s old form) new → KeepsNames old new
names_kept s old new form keeps = names_kept_with s old new (made_by s old form) keeps

pushed_get : {A : Type 0} (xs : List A) (i : ℕ) (x y : A) → slice_get xs i ≡ Some x → slice_get (xs ++ y ∷ []) i ≡ Some x
pushed_get [] i x y h = cc
pushed_get (z ∷ xs) zero x y h = h
pushed_get (z ∷ xs) (suc i) x y h = pushed_get xs i x y h

stays_at : (n len : ℕ) (b : Bool) → n < len → cond (nat_eq n len) (len + cond b 0 1) n ≡ n
stays_at n len b h = grind (arith, nat_tests)

within_both : (n len : ℕ) → n < len → cond (nat_lt n (len + 1)) (Some n) None ≡ cond (nat_lt n len) (Some n) None
within_both n len h = grind (arith, nat_tests)

-- one more kernel leaves the others at their places
pub kernel_kept : (kernels : List Kernel) (k : Kernel) → KeepsKernels kernels (kernels ++ k ∷ [])
kernel_kept kernels k text j h =
    let p = λ (x : Kernel). bytes_eq text (string_bytes x.name) in
    let place = position_or_len p kernels in
    let here : slice_get kernels place ≡ Some j = sym (find_at p kernels) ∙ h in
    let within = slice_get_within kernels place j here in
    let same : position_or_len p (kernels ++ k ∷ []) ≡ place = position_or_len_push p kernels k ∙ stays_at place (length kernels) (p k) within in (
      find_at p (kernels ++ k ∷ []) ∙ (ap (slice_get (kernels ++ k ∷ [])) same ∙ pushed_get kernels place j k here),
      ap (λ o. unwrap_or o 0)
          (ap (λ n. cond (nat_lt n (length (kernels ++ k ∷ []))) (Some n) None) same
          ∙ (ap (λ m. cond (nat_lt place m) (Some place) None) (length-append kernels (k ∷ [])) ∙ within_both place (length kernels) within)),
    )

pub kernels_kept : (old new final : List Kernel) → KeepsKernels old new → KeepsKernels new final → KeepsKernels old final
kernels_kept old new final first second text k h =
    let a = first text k h in
    let b = second text k a.0 in
    (b.0, b.1 ∙ a.1)
