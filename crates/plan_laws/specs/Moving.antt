-- `setcapacity`: the list moves to the first fit, while its old range is live.
use Rattle.std.specs.Prelude.{ℕ, ◌+◌, ◌≡◌, ◌<◌, ◌≤◌, ◌^◌, ℤ, List, [], ◌∷◌, length, None}
use Rattle.frame_ast.specs.declared.script.Order.TheVariants.{SetCapacity}
use Rattle.frame_ast.specs.Checks.{refusal}
use Rattle.frame_ast.specs.Contents.{Items}
use Rattle.frame_ast.specs.Effects.{effect}
use Rattle.frame_ast.specs.Laws.{IsKnown}
use Rattle.frame_ast.specs.Orders.{Setting}
use Rattle.frame_ast.specs.Ranges.{Starts, IsFirstFit, is_live_word}
use Rattle.frame_ast.specs.States.{ScriptState, container_at, contents_at}
use Rattle.frame_core.specs.declared.plan.Act.TheVariants.{Move}
use Rattle.frame_core.specs.declared.plan.Op.{Op}
use Rattle.plan_laws.specs.Drafts.{Draft}
use Rattle.plan_laws.specs.Planned.{Outline, IsPlanned, Adds}

-- the list of a name moves from its range to the one that is taken next
abbrev pub move_op : Starts → ScriptState → (line name old cap : ℕ) → Op
move_op starts s line name old cap = record {
  line = line;
  name = name;
  act = Move
      (record { start = starts (s.range (container_at s name)); len = old + 1 })
      (record { start = starts s.takes; len = cap + 1 });
}

abbrev pub MovesArePlanned : Type 0
MovesArePlanned = (x : Outline) (g : Setting) (s : ScriptState) (line name cap old : ℕ) (xs : List ℤ) (d e : Draft)
    → x.plan.cells < 2 ^ 32
    → IsKnown s
    → IsPlanned x s d
    → refusal g s (SetCapacity name cap) ≡ None
    → container_at s name < s.made
    → contents_at s name ≡ Items old xs
    → IsFirstFit (is_live_word x.starts s) (cap + 1) (x.starts s.takes)
    → x.starts s.takes + (cap + 1) ≤ x.plan.cells
    → name < length x.plan.names
    → Adds d e (move_op x.starts s line name old cap ∷ [])
    → IsPlanned x (effect g line s (SetCapacity name cap)) e
