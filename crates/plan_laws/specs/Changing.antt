-- A statement on one container, whether the operation is refused or not.
use Rattle.std.specs.Prelude.{ℕ, ◌≡◌, ◌≢◌, ◌<◌, ◌^◌, Bool, true, [], ◌∷◌}
use Rattle.frame_ast.specs.Conflicts.{conflicts}
use Rattle.frame_ast.specs.Ranges.{has_word}
use Rattle.frame_ast.specs.States.{ScriptState}
use Rattle.kernel_exec.specs.Layout.{Holds}
use Rattle.frame_core.specs.declared.plan.Op.{Op}
use Rattle.frame_core.specs.Touches.{reads_in, act_touches, writes_in}
use Rattle.frame_core.specs.Operations.{op_cells}
use Rattle.frame_core.specs.Ordered.{OpFits, ActStands}
use Rattle.plan_laws.specs.Binds.{bind_of}
use Rattle.plan_laws.specs.Drafts.{Draft, cells_of}
use Rattle.plan_laws.specs.Operations.{AddsOutput}
use Rattle.plan_laws.specs.Planned.{Outline, IsPlanned, Adds}

-- Of what the plan knows of the state, only the contents of one container change, and they keep their form.
pub record ChangesOne (s t : ScriptState) (c : ℕ) : Type 0 where
  pub made : t.made ≡ s.made
  pub alive : t.alive ≡ s.alive
  pub uses : t.uses ≡ s.uses
  pub range : t.range ≡ s.range
  pub book : t.book ≡ s.book
  pub others : (k : ℕ) → k ≢ c → t.contents k ≡ s.contents k
  pub form : (start : ℕ) → bind_of start (t.contents c) ≡ bind_of start (s.contents c)

-- no job is pending that conflicts with a reading or a writing use
abbrev pub IsUnblocked : ScriptState → ℕ → Bool → Type 0
IsUnblocked s c writes = (j : ℕ) → conflicts (s.uses c) writes j ≡ true → s.book.completed j ≡ true

pub record TouchesOne (x : Outline) (s : ScriptState) (op : Op) (c : ℕ) : Type 0 where
  pub reads : (w : ℕ) → reads_in (act_touches op.act) w ≡ true → has_word x.starts s c w ≡ true
  pub unread : (j : ℕ) → (s.uses c).writers j ≡ true → s.book.completed j ≡ true
  pub unwritten : (w j : ℕ)
      → writes_in (act_touches op.act) w ≡ true
      → (s.uses c).users j ≡ true
      → s.book.completed j ≡ true

abbrev pub ChangesArePlanned : Type 0
ChangesArePlanned = (x : Outline)
    → x.plan.cells < 2 ^ 32
    → (s t : ScriptState) (c : ℕ) (op : Op) (d e : Draft)
    → IsPlanned x s d
    → c < s.made
    → s.alive c ≡ true
    → ChangesOne s t c
    → TouchesOne x s op c
    → OpFits x.plan op
    → ActStands op.act (cells_of x.plan d)
    → Holds
    (op_cells x.plan op (cells_of x.plan d))
    (bind_of (x.starts (s.range c)) (t.contents c))
    (t.contents c)
    → AddsOutput x.plan op (cells_of x.plan d) s t
    → Adds d e (op ∷ [])
    → IsPlanned x t e
