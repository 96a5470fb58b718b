-- Word forms: what a call does to the cells of a container's words, as a function of cells that stands for an effect on
-- contents.
use Rattle.std.specs.Prelude.{◌≡◌, ℕ, ℤ, ◌<◌, ◌≤◌, ◌⊎◌, Bool, IsTrue}

-- the cells agree on the words from start to before the end
abbrev pub AlikeWithin : ℕ → ℕ → (ℕ → ℤ) → (ℕ → ℤ) → Type 0
AlikeWithin start end a b = (w : ℕ) → start ≤ w → w < end → b w ≡ a w

-- each cell outside of these words stays
abbrev pub SameBeyond : ℕ → ℕ → (ℕ → ℤ) → (ℕ → ℤ) → Type 0
SameBeyond start end old new = (w : ℕ) → (w < start) ⊎ (end ≤ w) → new w ≡ old w

-- each of these words is allowed
abbrev pub AreAllowed : ℕ → ℕ → (ℕ → Bool) → Type 0
AreAllowed start end allowed = (w : ℕ) → start ≤ w → w < end → IsTrue (allowed w)

-- The answer and the cells after are those of the answer and the contents after, where `stands` says which cells stand
-- for which contents.
abbrev pub Reaches : {A C : Type 0} → ((ℕ → ℤ) → C → Type 0) → A × (ℕ → ℤ) → A × C → Type 0
Reaches stands after effect = (after.0 ≡ effect.0) × stands after.1 effect.1

-- A function from cells to an answer and the cells after is the word form of an effect, from contents to an answer and
-- the contents after, on the words from start to before the end.
pub record IsForm {A C : Type 0} (start end : ℕ) (standing : (ℕ → ℤ) → C → Type 0) (form : (ℕ → ℤ) → A × (ℕ → ℤ))
    (effect : C → A × C) : Type 0 where
  -- it stands for the effect
  pub stands : (cells : ℕ → ℤ) (c : C) → standing cells c → Reaches standing (form cells) (effect c)
  -- it changes these words alone
  pub changes : (cells : ℕ → ℤ) → SameBeyond start end cells (form cells).1
  -- and it reads these words alone
  pub answer : (a b : ℕ → ℤ) → AlikeWithin start end a b → (form b).0 ≡ (form a).0
  pub reads : (a b : ℕ → ℤ) → AlikeWithin start end a b → AlikeWithin start end (form a).1 (form b).1
