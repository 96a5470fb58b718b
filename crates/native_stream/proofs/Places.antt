-- Where the words of an index are.
use Rattle.std.proofs.Common.{◌≡◌, ◌≢◌, ℕ, ◌+◌, ◌*◌, ◌<◌, ◌≤◌, ◌⊎◌, inl, inr, ℤ, pos, negsuc, Bool, cond, Ok, Err, ap, arith}
use Rattle.std.proofs.Math.Nat.{mul-le-mul_right}
use Rattle.std.proofs.lemmas.Bool.{cases_lt, lt-ltb}
use Rattle.job_base.specs.declared.Trap.TheVariants.{Range}
use Rattle.job_base.specs.Forms.{AreAllowed}
use Rattle.frame_ast.specs.Contents.{place_in}
use Rattle.native_stream.specs.declared.StreamAt.{StreamAt}
use Rattle.native_stream.specs.Layout.{mark_word, index_end, end_of}
use Rattle.native_stream.specs.Words.{MayUse, MayUseAt}

pub in_place : (n k : ℕ) (i : ℤ) → place_in n i ≡ Ok k → k < n
in_place n k (pos i) e = grind arith
in_place n k (negsuc i) e = cc

pub place_in-below : (n k : ℕ) → k < n → place_in n (pos k) ≡ Ok k
place_in-below n k h = ap (λ b. cond b (Ok k) (Err Range)) (lt-ltb k n h)

-- a row of w words ends before the next one begins
pub row_before : (j k w : ℕ) → j < k → j * w + w ≤ k * w
row_before j k w h = omega (arith, mul-le-mul_right {m = j + 1} {n = k} w (omega arith))

module _ (at : StreamAt) where
  pub index_within : (k : ℕ) → k < at.count → index_end at k ≤ end_of at
  index_within k h = omega (arith, row_before k at.count (at.room + 1) h)

  pub marks_apart : (j k : ℕ) → j ≢ k → mark_word at j ≢ mark_word at k
  marks_apart j k ne e = elim (cases_lt j k) [
    | inl l ↦ omega (arith, row_before j k (at.room + 1) l)
    | inr g ↦ omega (arith, row_before k j (at.room + 1) (omega arith))
  ]

  -- a word of one index is none of another
  pub apart : (j k w : ℕ) → j ≢ k → mark_word at j ≤ w → w < index_end at j → (w < mark_word at k) ⊎ (index_end at k ≤ w)
  apart j k w ne lo hi = elim (cases_lt j k) [
    | inl l ↦ inl (omega (arith, row_before j k (at.room + 1) l))
    | inr g ↦ inr (omega (arith, row_before k j (at.room + 1) (omega arith)))
  ]

  -- who may use every word of the stream may use each index
  pub may_use : (allowed : ℕ → Bool) → AreAllowed at.start (end_of at) allowed → (k : ℕ) → k < at.count → MayUse at k allowed
  may_use allowed all k h w lo hi = let fits = index_within k h in all w (omega arith) (omega arith)

  pub may_use_at : (allowed : ℕ → Bool) → AreAllowed at.start (end_of at) allowed → (i : ℤ) → MayUseAt at i allowed
  may_use_at allowed all i k e = may_use allowed all k (in_place at.count k i e)
