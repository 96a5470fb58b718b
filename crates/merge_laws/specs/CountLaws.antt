-- The laws of the countdowns: each step leaves them exact.
use Rattle.std.specs.Prelude.{◌≡◌, ◌≢◌, ℕ, List, [], ◌∷◌, ◌++◌, Some, slice_get, slice_set}
use Rattle.merge_laws.specs.Jobs.{JobGraph, IsJobGraph}
use Rattle.merge_laws.specs.Claims.{Claims}
use Rattle.merge_laws.specs.Countdowns.{AreExact}
use Rattle.merge_laws.specs.CountSteps.{Counts, Releases, BeginsState, EndsPart, EndsSegment, OpensPart, OpensSegment, Sees, IsFresh, Joins}

abbrev pub CountsStayExact : Type 0
CountsStayExact = (h : JobGraph) (state rest wait rest' : ℕ → ℕ) (claims : List Claims) → IsJobGraph h
    → AreExact h state rest wait claims
    → (k j : ℕ) (v w : Claims) → slice_get claims k ≡ Some v → Counts h rest rest' v w j
    → AreExact h state rest' wait (slice_set claims k w)

abbrev pub ReleasesStayExact : Type 0
ReleasesStayExact = (h : JobGraph) (state rest wait wait' : ℕ → ℕ) (claims : List Claims) → IsJobGraph h
    → AreExact h state rest wait claims
    → (k j : ℕ) (v w : Claims) → slice_get claims k ≡ Some v → Releases h wait wait' v w j
    → AreExact h state rest wait' (slice_set claims k w)

abbrev pub BeginsStayExact : Type 0
BeginsStayExact = (h : JobGraph) (state rest wait state' : ℕ → ℕ) (claims : List Claims)
    → AreExact h state rest wait claims
    → (p : ℕ) → BeginsState state state' p → AreExact h state' rest wait claims

abbrev pub PartEndsStayExact : Type 0
PartEndsStayExact = (h : JobGraph) (state rest wait state' : ℕ → ℕ) (claims : List Claims) → IsJobGraph h
    → AreExact h state rest wait claims
    → (k p j : ℕ) (v w : Claims) → slice_get claims k ≡ Some v → EndsPart h state state' v w p j
    → AreExact h state' rest wait (slice_set claims k w)

abbrev pub SegmentEndsStayExact : Type 0
SegmentEndsStayExact = (h : JobGraph) (state rest wait state' : ℕ → ℕ) (claims : List Claims) → IsJobGraph h
    → AreExact h state rest wait claims
    → (k i : ℕ) (v w : Claims) → slice_get claims k ≡ Some v → EndsSegment h state state' v w i
    → AreExact h state' rest wait (slice_set claims k w)

abbrev pub PartOpeningsStayExact : Type 0
PartOpeningsStayExact = (h : JobGraph) (state rest wait state' : ℕ → ℕ) (claims : List Claims) → IsJobGraph h
    → AreExact h state rest wait claims
    → (k p : ℕ) (v w : Claims) → slice_get claims k ≡ Some v → OpensPart state state' v w p
    → AreExact h state' rest wait (slice_set claims k w)

abbrev pub SegmentOpeningsStayExact : Type 0
SegmentOpeningsStayExact = (h : JobGraph) (state rest wait state' : ℕ → ℕ) (claims : List Claims) → IsJobGraph h
    → AreExact h state rest wait claims
    → (k : ℕ) (v w : Claims) → slice_get claims k ≡ Some v → OpensSegment h state state' v w
    → AreExact h state' rest wait (slice_set claims k w)

abbrev pub LooksStayExact : Type 0
LooksStayExact = (h : JobGraph) (state rest wait : ℕ → ℕ) (claims : List Claims) → AreExact h state rest wait claims
    → (k j : ℕ) (v w : Claims) → slice_get claims k ≡ Some v → Sees h rest v w j
    → AreExact h state rest wait (slice_set claims k w)

abbrev pub SplitsStayExact : Type 0
SplitsStayExact = (h : JobGraph) (state rest wait : ℕ → ℕ) (claims : List Claims) → AreExact h state rest wait claims
    → (u : Claims) → IsFresh u → AreExact h state rest wait (claims ++ u ∷ [])

abbrev pub JoinsStayExact : Type 0
JoinsStayExact = (h : JobGraph) (state rest wait : ℕ → ℕ) (claims : List Claims) → AreExact h state rest wait claims
    → (i k : ℕ) (u v w x : Claims) → i ≢ k → slice_get claims i ≡ Some u → slice_get claims k ≡ Some v → Joins u v w x
    → AreExact h state rest wait (slice_set (slice_set claims i w) k x)
