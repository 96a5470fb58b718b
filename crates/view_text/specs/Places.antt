-- Which boxes an arrow joins: their places among the boxes of a picture.
use Rattle.std.specs.Prelude.{◌≡◌, ◌==◌, ◌&&◌, ℕ, Bool, true, false, List, Option, nat_eq}
use Rattle.std.specs.List.{position_from}
use Rattle.std.specs.HashMap.{get}
use Rattle.view_text.specs.declared.picture.Kind.{Kind}
use Rattle.view_text.specs.declared.picture.Kind.TheVariants.{Job, Chain, Refused}
use Rattle.view_text.specs.declared.picture.Tie.{Tie}
use Rattle.view_text.specs.declared.picture.Tie.TheVariants.{Depends, DependsOnChain, Completed, CompletedOnChain, Blocks}
use Rattle.view_text.specs.declared.picture.Node.{Node}
use Rattle.view_text.specs.declared.picture.Link.{Link}
use Rattle.view_text.specs.declared.places.Places.{Places}

abbrev pub is_refused : Kind → Bool
is_refused Job = false
is_refused Chain = false
is_refused Refused = true

-- whether a kind is that of refused schedules, or that of jobs
abbrev pub is_of : Bool → Kind → Bool
is_of true Job = false
is_of true Chain = false
is_of true Refused = true
is_of false Job = true
is_of false Chain = true
is_of false Refused = false

abbrev pub is_block : Tie → Bool
is_block Depends = false
is_block DependsOnChain = false
is_block Completed = false
is_block CompletedOnChain = false
is_block Blocks = true

-- whether a box is that of the refused schedule, or of the job, with this number
abbrev pub is_box : Bool → ℕ → Node → Bool
is_box refused number n = is_of refused n.kind && n.number == number

-- the place of the first such box, where there is one
abbrev pub place_of : Bool → ℕ → List Node → Option ℕ
place_of refused number nodes = position_from (is_box refused number) 0 nodes

-- An arrow comes from a job, and leads to a job, or to the refused schedule that the job blocks.
abbrev pub source_of : List Node → Link → Option ℕ
source_of nodes k = place_of false k.from nodes

abbrev pub target_of : List Node → Link → Option ℕ
target_of nodes k = place_of (is_block k.tie) k.to nodes

-- what is known of these boxes: the place of each number
pub record ArePlacesOf (nodes : List Node) (p : Places) : Type 0 where
  pub jobs : (number : ℕ) → get nat_eq p.jobs number ≡ place_of false number nodes
  pub refused : (number : ℕ) → get nat_eq p.refused number ≡ place_of true number nodes
