-- A `repeat` without a fault repeats its block at least once.
use Rattle.std.proofs.Common.{arith, ◌≡◌, ◌≤◌, ℕ, Bool, true, false, [], ◌∷◌, Option, Some, None, refl}
use Rattle.std.specs.Prelude.{◌&&◌, nat_le, nat_lt}
use Rattle.std.proofs.lemmas.Bool.Decides.{nat_tests}
use Rattle.kernel_raw.specs.declared.fault.StaticFault.{StaticFault}
use Rattle.frame_ast.specs.declared.kernel.FaultKind.TheVariants.{Limit}
use Rattle.frame_ast.specs.Lists.{first_some}
use Rattle.script_text.specs.declared.source.Source.{Source}
use Rattle.script_text.specs.Sources.{number_at}
use Rattle.script_text.specs.Raw.{Repeat}
use Rattle.script_checks.specs.Faults.{Scope, unless, limit_fault, order_faults}

second_none : (a b : Option StaticFault) → first_some (a ∷ b ∷ []) ≡ None → b ≡ None
unfolding first_some
second_none None None h = refl
second_none None (Some f) h = cc
second_none (Some f) b h = cc

both_hold : (a b : Bool) (at : ℕ) → unless (a && b) Limit at ≡ None → a ≡ true
both_hold true b at h = refl
both_hold false b at h = cc

at_least : (n : ℕ) → nat_le 1 n ≡ true → 1 ≤ n
at_least n h = grind (arith, nat_tests)

pub repeats_once : (s : Source) (c : Scope) (at count : ℕ) → first_some (order_faults s c at (Repeat count)) ≡ None → 1 ≤ number_at s count
repeats_once s c at count none =
    at_least (number_at s count)
    (both_hold (nat_le 1 (number_at s count)) (nat_le (number_at s count) 65536) count
    (second_none (unless (nat_lt c.blocks 8) Limit at) (limit_fault s 1 65536 count) none))
