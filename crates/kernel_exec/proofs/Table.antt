-- How the table of own arrays is made.
use Rattle.std.proofs.Common.{◌≡◌, ◌≢◌, ◌∙◌, ◌⊎◌, inl, inr, ℕ, ◌+◌, ◌<◌, ◌≤◌, List, length, get_or, set, replicate, sym, ap, arith, get_or-set_other}
use Rattle.std.proofs.Common.{⊎_elim, length-set}
use Rattle.std.proofs.lemmas.Bool.{cases_lt}
use Rattle.std.proofs.lemmas.Bool.Decides.{nat_tests}
use Rattle.std.proofs.lemmas.List.{get_or-replicate, get_or_past, length-replicate}
use Rattle.std.proofs.lemmas.Grind.{get_or-set_at}
use Rattle.frame_ast.specs.declared.kernel.Kernel.{Kernel}
use Rattle.frame_ast.specs.Checked.{IsChecked}
use Rattle.native_array.specs.declared.array.ArrayAt.{ArrayAt}
use Rattle.kernel_exec.specs.declared.binds.Bind.{Bind}
use Rattle.job_base.specs.declared.limits.TheConstants.{MOST_PARAMS}
use Rattle.kernel_exec.proofs.Stand.{same_or}
use Rattle.kernel_exec.specs.Binds.{IsTable, own_array, bind_at, no_array, no_bind}
use Rattle.kernel_exec.specs.Conditions.{BindsFit}

-- it has room for the arguments of a checked kernel
pub few_binds : (kernel : Kernel) (binds : List Bind) → IsChecked kernel → BindsFit kernel binds → length binds ≤ MOST_PARAMS
few_binds kernel binds checked fit =
    let n = fit.count in
    let m = checked.count in
    grind (arith, nat_tests, n, m)

-- the table as far as it is made: past its end there is no array
pub record IsMade (own : List ArrayAt) (binds : List Bind) (n : ℕ) : Type 0 where
  pub made : (x : ℕ) → x < n → get_or own x no_array ≡ own_array (bind_at binds x)
  pub full : length own ≡ MOST_PARAMS
  pub rest : (x : ℕ) → n ≤ x → get_or own x no_array ≡ no_array

pub one_more : (own : List ArrayAt) (binds : List Bind) (n : ℕ) (at : ArrayAt) → n < MOST_PARAMS → at ≡ own_array (bind_at binds n) → IsMade own binds n
    → IsMade (set own n at) binds (n + 1)
one_more own binds n at inside is so_far = record { made = λ x h. made x h (same_or x n); full = rw (length-set own n at) so_far.full; rest = rest }
  where
    made : (x : ℕ) → x < n + 1 → (x ≡ n) ⊎ (x ≢ n) → get_or (set own n at) x no_array ≡ own_array (bind_at binds x)
    made x h (inl e) = get_or-set_at own n x at no_array e (let l = so_far.full in omega arith) ∙ is ∙ ap (λ y. own_array (bind_at binds y)) (sym e)
    made x h (inr other) = get_or-set_other own n x at no_array other ∙ so_far.made x (omega arith)

    rest : (x : ℕ) → n + 1 ≤ x → get_or (set own n at) x no_array ≡ no_array
    rest x h = get_or-set_other own n x at no_array (λ e. omega arith) ∙ so_far.rest x (omega arith)

past : (n x : ℕ) → get_or (replicate n no_array) x no_array ≡ no_array
past n x =
    ⊎_elim
    (λ lt. get_or-replicate n x no_array no_array lt)
    (λ le. get_or_past (replicate n no_array) x no_array (rw (length-replicate n no_array) le))
    (cases_lt x n)

pub none_made : (binds : List Bind) → IsMade (replicate MOST_PARAMS no_array) binds 0
none_made binds = record { made = λ x h. absurd (omega arith); full = length-replicate MOST_PARAMS no_array; rest = λ x h. past MOST_PARAMS x }

-- a bind past the last one is no array
pub all_made : (own : List ArrayAt) (binds : List Bind) (n : ℕ) → length binds ≤ n → IsMade own binds n → IsTable own binds
all_made own binds n over so_far x =
    ⊎_elim
    (λ lt. so_far.made x lt)
    (λ le. so_far.rest x le ∙ ap own_array (sym (get_or_past binds x no_bind (omega arith))))
    (cases_lt x n)
