-- The text of a picture in a page: its head as text, and a drawing (SVG).
--
-- Decided here: which bytes stand for a picture that is laid out. Where a layout sets its boxes isn't decided here.
use Rattle.std.specs.Prelude.{◌≡◌, ℕ, ◌+◌, List, [], ◌∷◌, ◌++◌, Option, Some, None, option_and_then, slice_get}
use Rattle.std.specs.Prelude.{codes, decimal, string_bytes, String}
use Rattle.std.specs.declared.alloc.Global.{Global}
use Rattle.view_text.specs.declared.escaping.Language.TheVariants.{Html}
use Rattle.view_text.specs.declared.picture.Kind.{Kind}
use Rattle.view_text.specs.declared.picture.Kind.TheVariants.{Job, Chain, Refused}
use Rattle.view_text.specs.declared.picture.Tie.{Tie}
use Rattle.view_text.specs.declared.picture.Tie.TheVariants.{Depends, DependsOnChain, Completed, CompletedOnChain, Blocks}
use Rattle.view_text.specs.declared.picture.Node.{Node}
use Rattle.view_text.specs.declared.picture.Link.{Link}
use Rattle.view_text.specs.declared.picture.Picture.{Picture}
use Rattle.view_text.specs.declared.layout.Spot.{Spot}
use Rattle.view_text.specs.declared.layout.Layout.{Layout}
use Rattle.view_text.specs.declared.curve.Curve.{Curve}
use Rattle.view_text.specs.declared.svg.TheConstants.{STYLE}
use Rattle.view_text.specs.Escapes.{escaped}
use Rattle.view_text.specs.Places.{source_of, target_of}
use Rattle.view_text.specs.Layouts.{curve_of, IsLayoutOf}

-- HOW BOXES AND ARROWS LOOK: the classes that the style speaks of

abbrev pub box_class : Kind → List ℕ
box_class Job = codes "job"
box_class Chain = codes "job chain"
box_class Refused = codes "refused"

abbrev pub arrow_class : Tie → List ℕ
arrow_class Depends = codes "depends"
arrow_class DependsOnChain = codes "depends chain"
arrow_class Completed = codes "completed"
arrow_class CompletedOnChain = codes "completed chain"
arrow_class Blocks = codes "blocks"

-- BOXES

abbrev pub line_text : List ℕ → List ℕ
line_text line = codes "<tspan x=\"8\" dy=\"16\">" ++ (escaped Html line ++ codes "</tspan>")

abbrev pub lines_text : List (String Global) → List ℕ
lines_text [] = []
lines_text (line ∷ more) = line_text (string_bytes line) ++ lines_text more

-- its corner and its size
unfoldable pub frame_text : Spot → List ℕ
frame_text s = codes " transform=\"translate(" ++ (decimal s.x ++ (codes " " ++ (decimal s.y
    ++ (codes ")\"><rect width=\"" ++ (decimal s.width ++ (codes "\" height=\"" ++ (decimal s.height
    ++ codes "\" rx=\"4\"/>")))))))

abbrev pub box_text : Node → Spot → List ℕ
box_text n s = codes "<g class=\"" ++ (box_class n.kind ++ (codes "\"" ++ (frame_text s ++ (codes "<text>"
    ++ (lines_text n.lines.items ++ codes "</text></g>\n")))))

-- each box at its spot
abbrev pub boxes_text : List Node → List Spot → List ℕ
boxes_text [] spots = []
boxes_text (n ∷ more) [] = []
boxes_text (n ∷ more) (s ∷ rest) = box_text n s ++ boxes_text more rest

-- ARROWS

unfoldable pub point_text : ℕ → ℕ → List ℕ
point_text x y = decimal x ++ (codes " " ++ decimal y)

-- it leaves its first box straight down, and comes straight down to its second one
abbrev pub path_text : Curve → List ℕ
path_text c = codes "<path d=\"M" ++ (point_text c.x c.y ++ (codes "C" ++ (point_text c.x c.half_y ++ (codes " "
    ++ (point_text c.end_x c.half_y ++ (codes " " ++ (point_text c.end_x c.end_y ++ codes "\"/>")))))))

-- its label, halfway
unfoldable pub label_text : Link → Curve → List ℕ
label_text k c = codes "<text class=\"note\" x=\"" ++ (decimal c.half_x ++ (codes "\" y=\"" ++ (decimal c.half_y
    ++ (codes "\" dx=\"4\">" ++ (escaped Html (string_bytes k.label) ++ codes "</text>")))))

abbrev pub curve_text : Link → Curve → List ℕ
curve_text k c = codes "<g class=\"" ++ (arrow_class k.tie ++ (codes "\">" ++ (path_text c ++ (label_text k c
    ++ codes "</g>\n"))))

-- An arrow is drawn between the spots of its two boxes, where both are there.
abbrev pub arrow_text : Link → Option Spot → Option Spot → List ℕ
arrow_text k (Some from) (Some to) = curve_text k (curve_of from to)
arrow_text k (Some from) None = []
arrow_text k None to = []

abbrev pub spot_at : List Spot → Option ℕ → Option Spot
spot_at spots place = option_and_then (slice_get spots) place

abbrev pub arrows_text : List Node → List Spot → List Link → List ℕ
arrows_text nodes spots [] = []
arrows_text nodes spots (k ∷ more) =
    arrow_text k (spot_at spots (source_of nodes k)) (spot_at spots (target_of nodes k))
    ++ arrows_text nodes spots more

-- THE WHOLE

unfoldable pub row_text : ℕ → ℕ → List ℕ
row_text level y = codes "<text class=\"note\" x=\"8\" y=\"" ++ (decimal y ++ (codes "\" dy=\"16\">level "
    ++ (decimal level ++ codes "</text>\n")))

-- each row with its level, from this one on
abbrev pub rows_text : ℕ → List ℕ → List ℕ
rows_text level [] = []
rows_text level (y ∷ more) = row_text level y ++ rows_text (level + 1) more

unfoldable pub opening_text : Layout → List ℕ
opening_text l = codes "<svg xmlns=\"http://www.w3.org/2000/svg\" width=\"" ++ (decimal l.width
    ++ (codes "\" height=\"" ++ (decimal l.height ++ (codes "\">\n" ++ STYLE.now))))

-- The drawing: the levels, the arrows, and over them the boxes.
abbrev pub drawing_text : Picture → Layout → List ℕ
drawing_text p l = opening_text l ++ (rows_text 1 l.rows.items
    ++ (arrows_text p.nodes.items l.spots.items p.links.items
    ++ (boxes_text p.nodes.items l.spots.items ++ codes "</svg>\n")))

unfoldable pub head_text : Picture → List ℕ
head_text p = codes "<h2>Section " ++ (decimal p.number ++ (codes "</h2>\n<p>" ++ (escaped Html (string_bytes p.head)
    ++ codes "</p>\n")))

-- A picture without boxes is its head alone.
abbrev pub body_text : List Node → List ℕ → List ℕ
body_text [] drawing = []
body_text (n ∷ more) drawing = drawing

abbrev pub section_text : Picture → Layout → List ℕ
section_text p l = head_text p ++ body_text p.nodes.items (drawing_text p l)

-- a picture's text in a page, in some layout of it
pub record IsPageOf (p : Picture) (text : List ℕ) : Type 0 where
  pub layout : Layout
  pub laid_out : IsLayoutOf p layout
  pub text_is : text ≡ section_text p layout
