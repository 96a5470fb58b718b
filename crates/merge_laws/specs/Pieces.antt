-- A plan as it is made: the list of its pieces so far, and the graph that it is.
use Rattle.std.specs.Prelude.{◌≡◌, ℕ, Bool, true, false, ◌&&◌, ◌||◌, not, nat_eq, nat_lt, if◌then◌else◌, List, [], ◌∷◌, length, pos}
use Rattle.merge_laws.specs.Graph.{Cells, PieceGraph}

-- a set of jobs, and of words
abbrev pub Jobs : Type 0
Jobs = ℕ → Bool

abbrev pub Words : Type 0
Words = ℕ → Bool

pub record Piece : Type 0 where
  -- its job, where jobs are numbered from 1, or 0 for a segment
  pub job : ℕ
  -- the jobs whose pieces have to be ended before it: the dependencies of its job, or what its segment waits for
  pub after : Jobs
  -- its footprint
  pub reads : Words
  pub writes : Words
  -- what it makes of the cells
  pub effect : Cells → Cells

-- what stands past the last piece
abbrev pub no_piece : Piece
no_piece = record { job = 0; after = λ j. false; reads = λ w. false; writes = λ w. false; effect = λ c. c }

-- A list of pieces has the latest in script order first. So the place of its head is the length of the rest, and a new
-- piece changes nothing of the earlier ones.
abbrev pub piece_at : List Piece → ℕ → Piece
piece_at [] p = no_piece
piece_at (x ∷ earlier) p = if nat_eq p (length earlier) then x else piece_at earlier p

-- the place of the latest segment
abbrev pub latest_segment : List Piece → ℕ
latest_segment [] = 0
latest_segment (x ∷ earlier) = if nat_eq x.job 0 then length earlier else latest_segment earlier

-- q has to be ended before the piece x that stands after the earlier ones: it is the latest segment, or a piece of a
-- job that x comes after
abbrev pub is_before : List Piece → Piece → ℕ → Bool
is_before earlier x q = nat_lt q (length earlier)
    && (nat_eq q (latest_segment earlier) || (not (nat_eq (piece_at earlier q).job 0)
    && x.after (piece_at earlier q).job))

-- the predecessors of each piece, by this one rule
abbrev pub precedes_in : List Piece → ℕ → ℕ → Bool
precedes_in [] q p = false
precedes_in (x ∷ earlier) q p = if nat_eq p (length earlier) then is_before earlier x q else precedes_in earlier q p

-- the graph of pieces, where all cells are 0 at first: what leads to what doesn't depend on the cells
abbrev pub graph_of : List Piece → PieceGraph
graph_of pieces = record {
  first = λ w. pos 0;
  count = length pieces;
  reads = λ p w. (piece_at pieces p).reads w;
  writes = λ p w. (piece_at pieces p).writes w;
  precedes = λ q p. precedes_in pieces q p;
  is_segment = λ p. nat_eq (piece_at pieces p).job 0;
  effect = λ p cells. (piece_at pieces p).effect cells;
}

-- the same from other first cells
abbrev pub graph_from : Cells → List Piece → PieceGraph
graph_from first pieces = record (graph_of pieces) { first = first }

-- the cells after the pieces, in script order, from the first cells
abbrev pub cells_after : Cells → List Piece → Cells
cells_after first [] = first
cells_after first (x ∷ earlier) = x.effect (cells_after first earlier)

-- From cells that are, on what it reads, those before it, a piece makes on what it writes the same as from those before
-- it, and keeps all other cells.
pub record IsFramed (x : Piece) (before : Cells) : Type 0 where
  pub written : (cells : Cells) → ((w : ℕ) → x.reads w ≡ true → cells w ≡ before w)
      → (w : ℕ) → x.writes w ≡ true → x.effect cells w ≡ x.effect before w
  pub kept : (cells : Cells) → ((w : ℕ) → x.reads w ≡ true → cells w ≡ before w) → (w : ℕ) → x.writes w ≡ false
      → x.effect cells w ≡ cells w

abbrev pub AreFramed : Cells → List Piece → Type 0
AreFramed first [] = Unit {0}
AreFramed first (x ∷ earlier) = IsFramed x (cells_after first earlier) × AreFramed first earlier
