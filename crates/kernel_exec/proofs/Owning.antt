-- An index owns the place that is the index itself, where the width is at most 1; and the arrays where that is so.
use Rattle.std.proofs.Common.{◌≡◌, ◌∙◌, inl, ℕ, zero, suc, ◌+◌, ◌^◌, ◌<◌, ◌≤◌, Bool, List, length, IsTrue, ℤ, pos, Result, Ok, Err, refl, sym, ap, arith}
use Rattle.std.proofs.lemmas.Bool.Decides.{nat_tests}
use Rattle.job_base.specs.declared.Trap.{Trap}
use Rattle.job_base.specs.Cells.{with_cell}
use Rattle.frame_ast.specs.declared.kernel.Kernel.{Kernel}
use Rattle.frame_ast.specs.Checked.{may_write}
use Rattle.frame_ast.specs.Contents.{place_in}
use Rattle.frame_ast.specs.Arguments.{owns, if_owned}
use Rattle.native_array.specs.declared.array.ArrayAt.{ArrayAt}
use Rattle.kernel_exec.specs.declared.binds.Bind.{Bind}
use Rattle.kernel_exec.specs.declared.binds.Bind.TheVariants.{Int, Array, View, List as WholeList, Ref, Map, Stream}
use Rattle.kernel_exec.specs.Binds.{no_array, own_array, bind_at}
use Rattle.kernel_exec.specs.Conditions.{IsCall}
use Rattle.kernel_exec.specs.Words.{get_word, put_word}
use Rattle.kernel_exec.specs.Footprint.{Uses}
use Rattle.kernel_exec.proofs.Rights.{array_element, fits, may_use, may_change}

pub owns_itself : (width index : ℕ) → width ≤ 1 → IsTrue (owns width index (pos index))
owns_itself zero index h = refl
owns_itself (suc zero) index h = grind (arith, nat_tests)
owns_itself (suc (suc n)) index h = absurd (omega arith)

pub owned_itself : {A : Type 0} (width index : ℕ) (r : Result A Trap) → width ≤ 1 → if_owned width index (pos index) r ≡ r
owned_itself width index (Ok a) h = rw (owns_itself width index h) refl
owned_itself width index (Err t) h = refl

-- a bind is an array where one comparison finds the element at the index
pub record IsOwn (b : Bind) (at : ArrayAt) : Type 0 where
  pub width : ℕ
  pub is : Array at width ≡ b
  pub narrow : width ≤ 1

none : (b : Bind) (at : ArrayAt) (index : ℕ) → at ≡ no_array → index < at.len → IsOwn b at
none b at index e h = let l = ap (λ (a : ArrayAt). a.len) e in absurd (omega arith)

pub own_is : (b : Bind) (at : ArrayAt) (index : ℕ) → at ≡ own_array b → index < at.len → IsOwn b at
own_is (Int z) at index e h = none (Int z) at index e h
own_is (Array here zero) at index e h = record { width = 0; is = ap (λ a. Array a 0) e; narrow = omega arith }
own_is (Array here (suc zero)) at index e h = record { width = 1; is = ap (λ a. Array a 1) e; narrow = omega arith }
own_is (Array here (suc (suc n))) at index e h = none (Array here (suc (suc n))) at index e h
own_is (View here own) at index e h = none (View here own) at index e h
own_is (WholeList here) at index e h = none (WholeList here) at index e h
own_is (Ref here) at index e h = none (Ref here) at index e h
own_is (Map here) at index e h = none (Map here) at index e h
own_is (Stream here own) at index e h = none (Stream here own) at index e h

at_place : (n index : ℕ) → index < n → place_in n (pos index) ≡ Ok index
at_place n index h = grind (arith, nat_tests)

module _ (b : Bind) (at : ArrayAt) (index : ℕ) (own : IsOwn b at) (h : index < at.len) where
  -- what is read and written there
  pub own_get : (cells : ℕ → ℤ) → get_word index (pos index) b cells ≡ Ok (cells (at.start + index))
  own_get cells =
      ap (λ b. get_word index (pos index) b cells) (sym own.is)
      ∙ owned_itself own.width index _ own.narrow
      ∙ rw (at_place at.len index h) refl

  pub own_put : (v : ℤ) (cells : ℕ → ℤ) → put_word index (pos index) v b cells ≡ Ok (with_cell cells (at.start + index) v)
  own_put v cells =
      ap (λ b. put_word index (pos index) v b cells) (sym own.is)
      ∙ owned_itself own.width index _ own.narrow
      ∙ rw (at_place at.len index h) refl

  -- and it is the index's own
  pub own_use : Uses (Array at own.width) index (index + 1) (at.start + index)
  own_use = array_element at own.width index index (pos index) (at_place at.len index h) (owns_itself own.width index own.narrow)

module _ (kernel : Kernel) (binds : List Bind) (index : ℕ) (may_load may_store : ℕ → Bool) (call : IsCall kernel binds index may_load may_store) (x : ℕ)
    (at : ArrayAt) (own : IsOwn (bind_at binds x) at) (inside : x < length kernel.params.items) (h : index < at.len) where
  pub own_fits : at.start + at.len < 2 ^ 32
  own_fits = fits kernel binds index may_load may_store call x (Array at own.width) own.is inside

  pub own_readable : IsTrue (may_load (at.start + index))
  own_readable = may_use kernel binds index may_load may_store call x (Array at own.width) own.is inside (at.start + index)
      (inl (own_use (bind_at binds x) at index own h))

  pub own_writable : IsTrue (may_write kernel.params.items x) → IsTrue (may_store (at.start + index))
  own_writable may = may_change kernel binds index may_load may_store call x (Array at own.width) own.is inside may (at.start + index)
      (own_use (bind_at binds x) at index own h)
