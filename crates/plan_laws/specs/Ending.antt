-- The whole plan that a draft becomes: its pieces, lines and refused statements are the draft's.
use Rattle.std.specs.Prelude.{◌≡◌, List, [], ◌∷◌, ◌++◌, length, None}
use Rattle.frame_core.specs.declared.piece.Piece.TheVariants.{OfScript}
use Rattle.frame_core.specs.declared.plan.Segment.{Segment}
use Rattle.frame_core.specs.declared.plan.Plan.{Plan}
use Rattle.frame_core.specs.Output.{plan_lines, plan_refused}
use Rattle.plan_laws.specs.Drafts.{pieces_onto, output_onto, no_output}
use Rattle.plan_laws.specs.WholePlans.{made_piece, whole_pieces}

-- a plan with these segments, and a last one without operations that starts nothing
pub record Ends (plan : Plan) (segments : List Segment) (final : Segment) : Type 0 where
  pub segments_are : plan.segments.items ≡ segments ++ final ∷ []
  pub ops : final.ops.items ≡ []
  pub starts : final.starts ≡ None

abbrev pub PiecesAreMade : Type 0
PiecesAreMade = (plan : Plan) (segments : List Segment) (final : Segment) → Ends plan segments final
    → whole_pieces plan ≡ made_piece plan (OfScript (length segments)) ∷ pieces_onto plan [] segments

pub record IsReported (plan : Plan) (segments : List Segment) : Type 0 where
  pub lines : plan_lines plan ≡ (output_onto plan [] no_output segments).lines
  pub refused : plan_refused plan ≡ (output_onto plan [] no_output segments).refused

abbrev pub LinesAreReported : Type 0
LinesAreReported = (plan : Plan) (segments : List Segment) (final : Segment)
    → Ends plan segments final
    → IsReported plan segments
