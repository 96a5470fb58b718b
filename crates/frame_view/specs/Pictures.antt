-- The picture of a script's plan.
--
-- Decided here: which boxes and arrows a picture has, in which order, and what it says of the whole plan. How it is
-- written and laid out is said in `view_text`.
use Rattle.std.specs.Prelude.{◌≡◌, ℕ, List, ◌++◌, map, codes, decimal, string_bytes, Vec, vec_len}
use Rattle.std.specs.declared.alloc.Global.{Global}
use Rattle.frame_ast.specs.declared.script.Script.{Script}
use Rattle.frame_core.specs.declared.plan.Plan.{Plan}
use Rattle.frame_core.specs.Names.{job_pieces}
use Rattle.job_depth.specs.declared.report.Depth.{Depth}
use Rattle.job_depth.specs.Depths.{IsDepthOf}
use Rattle.plan_waits.specs.declared.arrow.Arrow.{Arrow}
use Rattle.plan_waits.specs.Arrows.{AreArrows}
use Rattle.view_text.specs.declared.picture.Picture.{Picture}
use Rattle.frame_view.specs.declared.place.Place.{Place}
use Rattle.frame_view.specs.declared.story.Story.{Story}
use Rattle.frame_view.specs.Boxes.{box_of, job_boxes, refused_boxes, greatest_level}
use Rattle.frame_view.specs.Arrows.{line_of, arrow_lines, block_lines}

-- WHAT IT SAYS OF THE WHOLE PLAN

unfoldable pub counts_text : ℕ → ℕ → ℕ → List ℕ
counts_text jobs pieces refused = codes "jobs " ++ (decimal jobs ++ (codes ", pieces " ++ (decimal pieces
    ++ (codes ", refused " ++ decimal refused))))

unfoldable pub rounds_text : Depth → List ℕ
rounds_text depth = codes "; rounds " ++ (decimal depth.rounds ++ (codes ", widest " ++ decimal depth.widest))

unfoldable pub workers_text : Depth → List ℕ
workers_text depth = codes ", workers " ++ (decimal depth.workers ++ (codes ": " ++ (decimal depth.packed
    ++ (codes " rounds, at least " ++ decimal depth.least))))

-- how many jobs, pieces and refused schedules there are, and the numbers of the depth report
abbrev pub head_text : Plan → Story → Depth → List ℕ
head_text plan story depth = counts_text (vec_len plan.jobs) (job_pieces plan) (vec_len story.refused)
    ++ (rounds_text depth ++ workers_text depth)

-- where the only section of a script stands
abbrev pub only_place : Place
only_place = record { number = 1; before = 0 }

-- THE PICTURE

-- The picture of a plan that stands there in its script, of which a story is told.
pub record IsPictureAt (script : Script) (plan : Plan) (story : Story) (place : Place) (workers : ℕ) (p : Picture)
    : Type 0 where
  -- the levels and the chain are those of the plan's depth, and the waits those that no others imply
  pub depth : Depth
  pub is_depth : IsDepthOf plan workers depth
  pub waits : List (Vec Arrow Global)
  pub are_arrows : AreArrows plan waits
  pub number : p.number ≡ place.number
  pub head : string_bytes p.head ≡ head_text plan story depth
  -- a box for each job, in order, and then one for each refused schedule
  pub boxes : map box_of p.nodes.items
      ≡ job_boxes script story depth place.before 0 plan.jobs.items
      ++ refused_boxes script depth place.before 1 story.refused.items
  pub levels : p.levels ≡ greatest_level 0 (map box_of p.nodes.items)
  -- an arrow for each wait, and then one for each job of the plan that blocks a schedule
  pub lines : map line_of p.links.items
      ≡ arrow_lines depth place.before 1 waits ++ block_lines place.before 1 story.refused.items

-- The picture of the plan of a script without a `when`, which is the only one.
abbrev pub IsPictureOf : Script → Plan → Story → ℕ → Picture → Type 0
IsPictureOf script plan story workers p = IsPictureAt script plan story only_place workers p
