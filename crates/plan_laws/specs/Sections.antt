-- A section begins in a state in which every job is completed, with the words that the sections before it left.
use Rattle.std.specs.Prelude.{ℕ, ◌≡◌, ◌<◌, ◌≤◌, ◌^◌, true, length}
use Rattle.frame_ast.specs.Laws.{IsKnown}
use Rattle.frame_ast.specs.Ranges.{has_word}
use Rattle.frame_ast.specs.States.{is_live}
use Rattle.kernel_exec.specs.Binds.{end_of}
use Rattle.merge_laws.specs.Graph.{Cells}
use Rattle.frame_core.specs.Graphs.{cells_at_first}
use Rattle.plan_laws.specs.Binds.{bind_of_container}
use Rattle.plan_laws.specs.Drafts.{empty_draft}
use Rattle.plan_laws.specs.Leaving.{AllHeld}
use Rattle.plan_laws.specs.Planned.{Outline, IsPlanned}

-- so many carried cells stand for the contents of the containers, and the plan begins with them
pub record AreCarried (x : Outline) (carried : Cells) (len : ℕ) : Type 0 where
  pub held : AllHeld x.starts x.begun carried
  pub below : (c : ℕ) → is_live x.begun c ≡ true → end_of (bind_of_container x.starts x.begun c) ≤ len
  pub within : len ≤ x.plan.cells
  pub first : length x.plan.first.items ≤ x.plan.cells
  pub are : (w : ℕ) → w < len → cells_at_first x.plan w ≡ carried w
  -- and no word is of two of them
  pub apart : (c e w : ℕ)
      → is_live x.begun c ≡ true
      → is_live x.begun e ≡ true
      → has_word x.starts x.begun c w ≡ true
      → has_word x.starts x.begun e w ≡ true
      → c ≡ e

abbrev pub SectionsBegin : Type 0
SectionsBegin = (x : Outline) (carried : Cells) (len : ℕ)
    → x.plan.cells < 2 ^ 32
    → IsKnown x.begun
    → ((j : ℕ) → 0 < j → j ≤ x.begun.book.count → x.begun.book.completed j ≡ true)
    → AreCarried x carried len
    → IsPlanned x x.begun empty_draft
