-- Script order, places, numbers, footprints and predecessors of worked plans.
use Rattle.std.proofs.Common.{◌≡◌, refl, ℕ, zero, suc, ◌+◌, Bool, cond, List, [], ◌∷◌, map}
use Rattle.frame_core.specs.declared.piece.Piece.{Piece}
use Rattle.frame_core.specs.declared.piece.Piece.TheVariants.{OfScript, OfJob}
use Rattle.frame_core.specs.declared.plan.Plan.{Plan}
use Rattle.frame_core.specs.Pieces.{script_order, place_of, piece_numbered}
use Rattle.frame_core.specs.Touches.{reads_in, writes_in}
use Rattle.frame_core.specs.Effects.{touches}
use Rattle.frame_core.specs.Graphs.{graph_of}
use Rattle.ast_rows.proofs.Trees.{Place}
use Rattle.plan_rows.proofs.Plans.{chained, reused, past_the_end, two_traps, restricted, waived, emitted}

-- the words below a number that pass a test
abbrev where_ : (ℕ → Bool) → ℕ → ℕ → List ℕ
where_ test from zero = []
where_ test from (suc n) = cond (test from) (from ∷ where_ test (from + 1) n) (where_ test (from + 1) n)

abbrev read_words : Plan → Piece → ℕ → List ℕ
read_words plan x n = where_ (reads_in (touches plan x)) 0 n

abbrev written_words : Plan → Piece → ℕ → List ℕ
written_words plan x n = where_ (writes_in (touches plan x)) 0 n

-- the places that come directly before a place
abbrev before : Plan → ℕ → List ℕ
before plan p = where_ (λ q. (graph_of plan).precedes q p) 0 (graph_of plan).count

module _ (at : Place) where
  order_chained : script_order (chained at) ≡ OfScript 0 ∷ OfJob 0 0 ∷ OfJob 0 1 ∷ OfScript 1 ∷ OfJob 1 0 ∷ OfScript 2 ∷ OfScript 3 ∷ []
  unfolding script_order
  order_chained = refl

  places_chained : map (place_of (chained at)) (OfJob 0 0 ∷ OfJob 0 1 ∷ OfJob 1 0 ∷ OfScript 0 ∷ OfScript 1 ∷ OfScript 2 ∷ OfScript 3 ∷ []) ≡ 1 ∷ 2 ∷ 4 ∷ 0 ∷ 3
      ∷ 5 ∷ 6 ∷ []
  unfolding place_of
  places_chained = refl

  numbers_chained : map (piece_numbered (chained at)) (0 ∷ 1 ∷ 2 ∷ 3 ∷ 4 ∷ 5 ∷ 6 ∷ []) ≡ OfJob 0 0 ∷ OfJob 0 1 ∷ OfJob 1 0 ∷ OfScript 0 ∷ OfScript 1
      ∷ OfScript 2 ∷ OfScript 3 ∷ []
  numbers_chained = refl

  predecessors_chained : map (before (chained at)) (0 ∷ 1 ∷ 2 ∷ 3 ∷ 4 ∷ 5 ∷ 6 ∷ []) ≡ [] ∷ (0 ∷ []) ∷ (0 ∷ []) ∷ (0 ∷ []) ∷ (1 ∷ 2 ∷ 3 ∷ [])
      ∷ (1 ∷ 2 ∷ 3 ∷ 4 ∷ []) ∷ (1 ∷ 2 ∷ 4 ∷ 5 ∷ []) ∷ []
  unfolding script_order graph_of
  predecessors_chained = refl

  reads_chained : map (λ x. read_words (chained at) x 20) (OfJob 0 0 ∷ OfJob 0 1 ∷ OfJob 1 0 ∷ OfScript 1 ∷ OfScript 2 ∷ OfScript 3 ∷ [])
      ≡ (0 ∷ 1 ∷ 2 ∷ 3 ∷ 4 ∷ 5 ∷ 9 ∷ []) ∷ (0 ∷ 1 ∷ 2 ∷ 3 ∷ 6 ∷ 7 ∷ 10 ∷ []) ∷ (4 ∷ 5 ∷ 6 ∷ 7 ∷ 8 ∷ 11 ∷ []) ∷ [] ∷ (8 ∷ [])
      ∷ (9 ∷ 10 ∷ 11 ∷ []) ∷ []
  unfolding touches
  reads_chained = refl

  writes_chained : map (λ x. written_words (chained at) x 20) (OfJob 0 0 ∷ OfJob 0 1 ∷ OfJob 1 0 ∷ OfScript 0 ∷ OfScript 2 ∷ OfScript 3 ∷ [])
      ≡ (4 ∷ 5 ∷ 9 ∷ []) ∷ (6 ∷ 7 ∷ 10 ∷ []) ∷ (8 ∷ 11 ∷ []) ∷ (0 ∷ 1 ∷ 2 ∷ 3 ∷ 4 ∷ 5 ∷ 6 ∷ 7 ∷ 8 ∷ []) ∷ [] ∷ [] ∷ []
  unfolding touches
  writes_chained = refl

  -- the segment that makes c touches the words that a had, after the job that used them
  writes_reused : map (λ x. written_words (reused at) x 9) (OfScript 0 ∷ OfJob 0 0 ∷ OfScript 1 ∷ OfScript 2 ∷ []) ≡ (0 ∷ 1 ∷ 2 ∷ []) ∷ (2 ∷ 5 ∷ [])
      ∷ (3 ∷ 4 ∷ []) ∷ (0 ∷ 1 ∷ []) ∷ []
  unfolding touches
  writes_reused = refl

  reads_reused : map (λ x. read_words (reused at) x 9) (OfJob 0 0 ∷ OfScript 2 ∷ []) ≡ (0 ∷ 1 ∷ 2 ∷ 5 ∷ []) ∷ (0 ∷ 1 ∷ 2 ∷ 3 ∷ 4 ∷ []) ∷ []
  unfolding touches
  reads_reused = refl

  predecessors_reused : map (before (reused at)) (0 ∷ 1 ∷ 2 ∷ 3 ∷ 4 ∷ []) ≡ [] ∷ (0 ∷ []) ∷ (0 ∷ []) ∷ (1 ∷ 2 ∷ []) ∷ (1 ∷ 3 ∷ []) ∷ []
  unfolding script_order graph_of
  predecessors_reused = refl

  -- the last piece has no place of y
  writes_past : map (λ x. written_words (past_the_end at) x 18) (OfJob 0 0 ∷ OfJob 0 1 ∷ OfJob 0 2 ∷ []) ≡ (5 ∷ 6 ∷ 9 ∷ [])
      ∷ (7 ∷ 8 ∷ 10 ∷ []) ∷ (11 ∷ []) ∷ []
  unfolding touches
  writes_past = refl

  predecessors_traps : map (before (two_traps at)) (0 ∷ 1 ∷ 2 ∷ 3 ∷ 4 ∷ 5 ∷ []) ≡ [] ∷ (0 ∷ []) ∷ (0 ∷ []) ∷ (2 ∷ []) ∷ (2 ∷ []) ∷ (1 ∷ 3 ∷ 4 ∷ []) ∷ []
  unfolding script_order graph_of
  predecessors_traps = refl

  -- the index range of the only piece, and the whole array where the rule is waived
  writes_restricted : written_words (restricted at) (OfJob 0 0) 7 ≡ 0 ∷ 1 ∷ 2 ∷ 4 ∷ []
  unfolding touches
  writes_restricted = refl

  writes_waived : written_words (waived at) (OfJob 0 0) 7 ≡ 0 ∷ 1 ∷ 2 ∷ 3 ∷ 4 ∷ []
  unfolding touches
  writes_waived = refl

  order_waived : script_order (waived at) ≡ OfScript 0 ∷ OfJob 0 0 ∷ OfScript 1 ∷ OfScript 2 ∷ []
  unfolding script_order
  order_waived = refl

  predecessors_waived : map (before (waived at)) (0 ∷ 1 ∷ 2 ∷ 3 ∷ []) ≡ [] ∷ (0 ∷ []) ∷ (0 ∷ 1 ∷ []) ∷ (1 ∷ 2 ∷ []) ∷ []
  unfolding script_order graph_of
  predecessors_waived = refl

  order_emitted : script_order (emitted at) ≡ OfScript 0 ∷ OfJob 0 0 ∷ OfJob 0 1 ∷ OfJob 0 2 ∷ OfJob 0 3 ∷ OfScript 1 ∷ OfScript 2 ∷ []
  unfolding script_order
  order_emitted = refl

  -- each piece has the three words of its index, and its own word
  writes_emitted : map (λ x. written_words (emitted at) x 24) (OfJob 0 0 ∷ OfJob 0 1 ∷ OfJob 0 3 ∷ [])
      ≡ (0 ∷ 1 ∷ 2 ∷ 12 ∷ []) ∷ (3 ∷ 4 ∷ 5 ∷ 13 ∷ []) ∷ (9 ∷ 10 ∷ 11 ∷ 15 ∷ []) ∷ []
  unfolding touches
  writes_emitted = refl

  -- the print reads the whole stream, and the last segment all own words
  reads_emitted : map (λ x. read_words (emitted at) x 24) (OfScript 1 ∷ OfScript 2 ∷ [])
      ≡ (0 ∷ 1 ∷ 2 ∷ 3 ∷ 4 ∷ 5 ∷ 6 ∷ 7 ∷ 8 ∷ 9 ∷ 10 ∷ 11 ∷ []) ∷ (12 ∷ 13 ∷ 14 ∷ 15 ∷ []) ∷ []
  unfolding touches
  reads_emitted = refl

  predecessors_emitted : map (before (emitted at)) (0 ∷ 4 ∷ 5 ∷ 6 ∷ []) ≡ [] ∷ (0 ∷ []) ∷ (0 ∷ 1 ∷ 2 ∷ 3 ∷ 4 ∷ []) ∷ (1 ∷ 2 ∷ 3 ∷ 4 ∷ 5 ∷ []) ∷ []
  unfolding script_order graph_of
  predecessors_emitted = refl
