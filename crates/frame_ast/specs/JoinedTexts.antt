-- Texts that stand one after another among bytes, each up to its end.
use Rattle.std.specs.Prelude.{ℕ, zero, suc, ◌≡◌, ◌-◌, ◌≤◌, List, [], ◌∷◌, length, take, drop, IsUtf8}

-- The texts behind a place: the first begins there, and each other one where the one before it ends.
abbrev pub texts_from : ℕ → List ℕ → List ℕ → List (List ℕ)
texts_from start bytes [] = []
texts_from start bytes (end ∷ ends) = take (end - start) (drop start bytes) ∷ texts_from end bytes ends

-- They are texts, none ends before it begins, and the last one ends with the bytes.
abbrev pub StandIn : ℕ → List ℕ → List ℕ → Type 0
StandIn start bytes [] = start ≡ length bytes
StandIn start bytes (end ∷ ends) =
    (start ≤ end) × (end ≤ length bytes) × IsUtf8 (take (end - start) (drop start bytes)) × StandIn end bytes ends

-- Where the text at a place begins.
abbrev pub start_at : ℕ → List ℕ → ℕ → ℕ
start_at start ends zero = start
start_at start [] (suc place) = start
start_at start (end ∷ ends) (suc place) = start_at end ends place
