-- Where the cells of a leased piece lie in the room of its seat: its spans one after another.
use Rattle.std.specs.Prelude.{ℕ, ◌+◌, ◌-◌, ◌<◌, ◌≤◌, min, max, Bool, true, false, not, ◌&&◌, nat_le, if◌then◌else◌, List, [], ◌∷◌}
use Rattle.frame_core.specs.declared.plan.Plan.{Plan}
use Rattle.frame_core.specs.declared.touch.Touch.{Touch}
use Rattle.frame_core.specs.Pieces.{piece_numbered}
use Rattle.frame_core.specs.Touches.{has_word}
use Rattle.frame_core.specs.Effects.{touches}
use Rattle.frame_core.specs.Know.{piece_count}

-- SPANS: what a piece touches, in fewer and longer spans, so that a container which several operations use lies once in
-- a room.

abbrev pub same : Bool → Bool → Bool
same true b = b
same false b = not b

-- Two spans of one kind overlap, or one ends where the other begins.
abbrev pub meet : Touch → Touch → Bool
meet a b = same a.written b.written && (nat_le a.from b.end && nat_le b.from a.end)

-- from where the first of two begins to where the last one ends
abbrev pub hull : Touch → Touch → Touch
hull a b = record { from = min a.from b.from; end = max a.end b.end; written = a.written }

-- One more makes the first one that it meets longer, or is the last one.
abbrev pub with_touch : List Touch → Touch → List Touch
with_touch [] t = t ∷ []
with_touch (s ∷ more) t = if meet s t then hull s t ∷ more else s ∷ with_touch more t

abbrev pub joined_to : List Touch → List Touch → List Touch
joined_to spans [] = spans
joined_to spans (t ∷ more) = joined_to (with_touch spans t) more

abbrev pub spans_of : Plan → ℕ → List Touch
spans_of plan p = joined_to [] (touches plan (piece_numbered plan p))

-- PLACES

abbrev pub size_of : Touch → ℕ
size_of t = t.end - t.from

abbrev pub room_of : List Touch → ℕ
room_of [] = 0
room_of (t ∷ more) = size_of t + room_of more

-- the place of a word: in the first span that has it
abbrev pub place_in : List Touch → ℕ → ℕ
place_in [] w = 0
place_in (t ∷ more) w = if has_word t w then w - t.from else size_of t + place_in more w

abbrev pub place_of : Plan → ℕ → ℕ → ℕ
place_of plan p w = place_in (spans_of plan p) w

-- there is room for each piece
abbrev pub HasRoom : Plan → ℕ → Type 0
HasRoom plan room = (p : ℕ) → p < piece_count plan → room_of (spans_of plan p) ≤ room
