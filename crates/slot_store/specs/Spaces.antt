-- Which numbers are live, by the holes between them.
use Rattle.std.specs.Prelude.{◌≡◌, ◌≢◌, ◌⊎◌, ℕ, suc, ◌+◌, ◌-◌, ◌<◌, ◌≤◌, Bool, false, ◌&&◌, ◌||◌, not, nat_lt, nat_le, nat_eq, if◌then◌else◌, List, [], ◌∷◌, length, slice_index_or}
use Rattle.std.specs.Coded.{×_prop, le_prop}
use Rattle.job_base.specs.declared.Span.{Span}

abbrev pub no_span : Span
no_span = record { start = 0; len = 0 }

abbrev pub start_of : List Span → ℕ → ℕ
start_of spans k = (slice_index_or spans k no_span).start

abbrev pub len_of : List Span → ℕ → ℕ
len_of spans k = (slice_index_or spans k no_span).len

abbrev pub end_of : List Span → ℕ → ℕ
end_of spans k = start_of spans k + len_of spans k

abbrev pub has_word : Span → ℕ → Bool
has_word span w = nat_le span.start w && nat_lt w (span.start + span.len)

-- whether one of the ranges has a word
abbrev pub some_has : List Span → ℕ → Bool
some_has [] w = false
some_has (x ∷ more) w = has_word x w || some_has more w

-- below the top, and in no hole
abbrev pub is_live : List Span → ℕ → ℕ → Bool
is_live holes top w = nat_lt w top && not (some_has holes w)

-- The holes lie in rising order from a number on, none is empty, and none touches the next one or the top.
abbrev pub AreHoles : ℕ → List Span → ℕ → Type 0
AreHoles low [] top = low ≤ top
AreHoles low (x ∷ more) top = (low ≤ x.start) × ((0 < x.len) × AreHoles (suc (x.start + x.len)) more top)

pub AreHoles-prop : (low : ℕ) (holes : List Span) (top : ℕ) → IsProp (AreHoles low holes top)
AreHoles-prop low [] top = le_prop
AreHoles-prop low (x ∷ more) top = ×_prop le_prop (×_prop le_prop (AreHoles-prop (suc (x.start + x.len)) more top))

-- the first n holes have less than so many numbers
abbrev pub AreSmall : List Span → ℕ → ℕ → Type 0
AreSmall holes len n = (k : ℕ) → k < n → len_of holes k < len

-- the words of a hole behind the first n, as a list of at most one hole
abbrev pub rest_after : Span → ℕ → List Span
rest_after x n = if nat_eq x.len n then [] else (record { start = x.start + n; len = x.len - n }) ∷ []

-- the first n holes start before a number, and the others don't
pub record IsPlace (holes : List Span) (w n : ℕ) : Type 0 where
  pub within : n ≤ length holes
  pub before : (k : ℕ) → k < n → start_of holes k < w
  pub behind : (k : ℕ) → n ≤ k → k < length holes → w ≤ start_of holes k

-- whether the last of the first n holes ends at a number: then the joined hole starts as that one
abbrev pub JoinsBefore : List Span → ℕ → ℕ → ℕ → ℕ → Type 0
JoinsBefore holes n w from start =
    ((n ≡ from + 1) × (end_of holes from ≡ w) × (start ≡ start_of holes from))
    ⊎ ((n ≡ from) × ((k : ℕ) → n ≡ k + 1 → end_of holes k ≢ w) × (start ≡ w))

-- whether hole n starts at a number: then the joined hole ends as that one
abbrev pub JoinsAfter : List Span → ℕ → ℕ → ℕ → ℕ → Type 0
JoinsAfter holes n w to last =
    ((to ≡ n + 1) × (n < length holes) × (start_of holes n ≡ w) × (last ≡ end_of holes n))
    ⊎ ((to ≡ n) × (n < length holes → start_of holes n ≢ w) × (last ≡ w))
