-- Each mix is of two arrays, and within its bounds.
use Rattle.std.proofs.Common.{◌≡◌, ◌≢◌, ℕ, ◌+◌, ◌*◌, ◌/◌, ◌%◌, ◌<◌, arith}
use Rattle.std.proofs.lemmas.Nat.{mod_below, div-add-mod'}
use Rattle.script_gen.specs.Draws.{drawn, mix_by, IsWithin, MixesAreWithin}

drawn_below : (x m : ℕ) → 0 < m → drawn x m < m
drawn_below x m p = mod_below (x / 65536) m p

-- 1 + e is no multiple of 8
apart : (d e r q : ℕ) → e < 7 → q * 8 + r ≡ d + 1 + e → r ≢ d
apart d e r q p h same = omega arith

within : (d e f b : ℕ) → d < 8 → e < 7 → f < 9 → b < 128 → IsWithin (mix_by d e f b)
within d e f b p q s t = record {
  read = p;
  written = mod_below (d + 1 + e) 8 (omega arith);
  apart = apart d e ((d + 1 + e) % 8) ((d + 1 + e) / 8) q (div-add-mod' (d + 1 + e) 8);
  factor = (omega arith, omega arith);
  batch = (omega arith, omega arith);
}

pub mixes_within : MixesAreWithin
mixes_within x = within _ _ _ _ (drawn_below _ 8 (omega arith)) (drawn_below _ 7 (omega arith)) (drawn_below _ 9 (omega arith))
    (drawn_below _ 128 (omega arith))
