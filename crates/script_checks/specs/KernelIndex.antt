-- The kernels that are known, and the map that finds their places.
use Rattle.std.specs.Prelude.{◌≡◌, ℕ, ◌<◌, ◌≤◌, ◌^◌, Bool, Option, List, length, map, position, Some, slice_get, string_bytes}
use Rattle.std.specs.Cmp.Lexicographic.{slice_cmp}
use Rattle.std.specs.Ordering.{nat_cmp}
use Rattle.std.specs.Str.{bytes_eq}
use Rattle.std.specs.BTreeMap.{BTreeMap, get_by}
use Rattle.std.specs.Borrow.{Bor}
use Rattle.job_base.specs.declared.limits.TheConstants.{MOST_PARAMS}
use Rattle.frame_ast.specs.declared.kernel.Kernel.{Kernel}
use Rattle.frame_ast.specs.Accepted.{guard_fits}

abbrev pub kernel_at : List Kernel → List ℕ → Option ℕ
kernel_at kernels text = position (λ k. bytes_eq text (string_bytes k.name)) kernels

-- each kernel is found with its place, and no other name; it is known of each whether it has room for a guard
pub record IsKernelIndex (places : BTreeMap (Bor (List ℕ)) ℕ) (kernels : List Kernel) (rooms : List Bool) : Type 0 where
  pub few : length kernels < 2 ^ 32
  pub finds : (text : List ℕ) → get_by (λ k. slice_cmp nat_cmp text k.now) places ≡ kernel_at kernels text
  pub small : (place : ℕ) (k : Kernel) → slice_get kernels place ≡ Some k → length k.params.items ≤ MOST_PARAMS
  pub roomy : rooms ≡ map guard_fits kernels
