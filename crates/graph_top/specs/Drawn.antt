-- What is written of a script.
--
-- Decided here: when a text is that of a script's picture, and what becomes of it. A script without a `when` is only
-- planned, and its picture is that of its plan. One with a `when` is run, and its picture is that of its run: those of
-- its sections, one after another. What a picture shows is said in `frame_view` (`Pictures`), and how it is written in
-- `view_text`; which sections a run has, in `frame_top` (`Seen`).
use Rattle.std.specs.Prelude.{◌≡◌, ◌≢◌, ◌⊎◌, ℕ, ◌+◌, ◌-◌, ◌^◌, min, Bool, true, false, List, [], ◌∷◌, ◌++◌, take, Option, None}
use Rattle.std.specs.Io.KnownBytes.{Appends}
use Rattle.job_base.specs.Faults.{Rose}
use Rattle.frame_ast.specs.declared.script.Script.{Script}
use Rattle.frame_ast.specs.Orders.{Table}
use Rattle.frame_core.specs.declared.plan.Plan.{Plan}
use Rattle.frame_plan.specs.Sections.{IsPlanOf}
use Rattle.command_words.specs.Words.{Text}
use Rattle.frame_top.specs.Answers.{has_when}
use Rattle.frame_top.specs.Inputs.{Told, Reads}
use Rattle.frame_top.specs.Refusals.{table_of, table_refusal}
use Rattle.frame_top.specs.Seen.{SectionAt, AreSectionsOf}
use Rattle.frame_top.specs.Words.{workers_in}
use Rattle.frame_top.specs.declared.status.TheConstants.{DONE, UNWRITTEN}
use Rattle.view_text.specs.declared.picture.Picture.{Picture}
use Rattle.view_text.specs.declared.svg.TheConstants.{PAGE_HEAD}
use Rattle.view_text.specs.Graphs.{graph_text}
use Rattle.view_text.specs.Pages.{IsPageOf}
use Rattle.frame_view.specs.declared.part.Part.{Part as Statements}
use Rattle.frame_view.specs.declared.place.Place.{Place}
use Rattle.frame_view.specs.declared.story.Story.{Story}
use Rattle.frame_view.specs.Parts.{part_of, whole}
use Rattle.frame_view.specs.Stories.{IsStoryIn, TellsAllIn}
use Rattle.frame_view.specs.Pictures.{IsPictureAt, only_place}

-- ONE PICTURE

-- its text: in the language of Graphviz, or a part of a page
abbrev pub IsTextOf : Bool → Picture → List ℕ → Type 0
IsTextOf true p text = text ≡ graph_text p
IsTextOf false p text = IsPageOf p text

-- what comes before all of them
abbrev pub head_of : Bool → List ℕ
head_of true = []
head_of false = PAGE_HEAD.now

-- The text is that of a picture of a plan that stands there in its script, by a story of its statements that leaves
-- none out.
pub record IsDrawnAt (script : Script) (part : Statements) (plan : Plan) (place : Place) (workers : ℕ) (dot : Bool)
    (text : List ℕ) : Type 0 where
  pub story : Story
  pub is_story : IsStoryIn script part plan story
  pub tells_all : TellsAllIn script part plan story
  pub picture : Picture
  pub is_picture : IsPictureAt script plan story place workers picture
  pub is_text : IsTextOf dot picture text

-- OF A PLAN

-- The text is that of a plan of the whole script.
pub record IsDrawn (script : Script) (plan : Plan) (workers : ℕ) (dot : Bool) (text : List ℕ) : Type 0 where
  pub picture : List ℕ
  pub is_picture : IsDrawnAt script (whole script) plan only_place workers dot picture
  pub text_is : text ≡ head_of dot ++ picture

-- OF A RUN

-- the number after a number, as one of the machine
abbrev pub number_after : ℕ → ℕ
number_after number = min (number + 1) (2 ^ 32 - 1)

-- the number after those of some sections, the first of which has this one
abbrev pub number_past : ℕ → List SectionAt → ℕ
number_past number [] = number
number_past number (s ∷ more) = number_past (number_after number) more

-- the text of a section with this number
abbrev pub IsSectionDrawn : Script → ℕ → Bool → ℕ → SectionAt → List ℕ → Type 0
IsSectionDrawn script workers dot number s text = IsDrawnAt script (part_of script s.from s.to s.held) s.section.plan
    (record { number = number; before = s.section.jobs_before }) workers dot text

-- those of some sections, one after another, the first of which has this number
abbrev pub AreDrawn : Script → ℕ → Bool → ℕ → List SectionAt → List ℕ → Type 0
AreDrawn script workers dot number [] text = text ≡ []
AreDrawn script workers dot number (s ∷ more) text = (first : List ℕ) × (rest : List ℕ)
    × IsSectionDrawn script workers dot number s first × AreDrawn script workers dot (number_after number) more rest
    × (text ≡ first ++ rest)

-- what is drawn of a run of which some sections were seen, and the number of the next one
pub record HasDrawn (script : Script) (workers : ℕ) (dot : Bool) (number : ℕ) (text : List ℕ)
    (sections : List SectionAt) : Type 0 where
  pub pictures : List ℕ
  pub are_drawn : AreDrawn script workers dot 1 sections pictures
  pub text_is : text ≡ head_of dot ++ pictures
  pub number_is : number ≡ number_past 1 sections

-- The text is that of exactly the sections of the script's run.
pub record IsRunDrawn (script : Script) (table : Table) (workers : ℕ) (dot : Bool) (text : List ℕ) : Type 0 where
  pub sections : List SectionAt
  pub are : AreSectionsOf script table sections
  pub pictures : List ℕ
  pub are_drawn : AreDrawn script workers dot 1 sections pictures
  pub text_is : text ≡ head_of dot ++ pictures

-- THE SCRIPT'S PICTURE: of its plan, or of its run.
pub data IsDrawing (script : Script) (table : Table) (workers : ℕ) (dot : Bool) (text : List ℕ) : Type 0 where
  OfPlan : has_when script ≡ false → (plan : Plan) → IsPlanOf script table plan → IsDrawn script plan workers dot text
      → IsDrawing script table workers dot text
  OfRun : has_when script ≡ true → IsRunDrawn script table workers dot text → IsDrawing script table workers dot text

-- WHAT BECOMES OF IT: the whole text was written; or a write failed after some first part of it; or nothing was
-- written, and the status isn't that of a picture.
pub data Draws (is_text : List ℕ → Type 0) (old new : Option (List ℕ)) (before now result : ℕ) : Type 0 where
  Whole : result ≡ DONE → (text : List ℕ) → is_text text → Appends old new text → now ≡ before
      → Draws is_text old new before now result
  Part : result ≡ UNWRITTEN → (text : List ℕ) → is_text text → (n : ℕ) → Appends old new (take n text)
      → Rose before now → Draws is_text old new before now result
  Nothing : result ≢ DONE → new ≡ old → now ≡ before → Draws is_text old new before now result

abbrev pub DrawsTo : {S : Type 0} → (S → Option (List ℕ)) → (S → ℕ) → S → S → (List ℕ → Type 0) → ℕ → Type 0
DrawsTo taken faults old new is_text result = Draws is_text (taken old) (taken new) (faults old) (faults new) result

-- WHAT THE WORDS ASK FOR: the picture of the script and the table that they ask for, where these are accepted.
pub record IsFrameDrawing (words : List Text) (told : Told) (dot : Bool) (text : List ℕ) : Type 0 where
  pub script : Script
  pub table : Option Text
  pub read : Reads words told script table
  pub table_stands : table_refusal table ≡ None
  pub drawing : IsDrawing script (table_of table) (workers_in words) dot text
