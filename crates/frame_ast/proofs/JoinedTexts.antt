-- Texts that stand one after another among bytes: the one at a place, and one more behind them.
use Rattle.std.proofs.Common.{◌≡◌, refl, sym, ap, ◌∙◌, subst, ℕ, zero, suc, ◌+◌, ◌-◌, ◌≤◌, ◌<◌, List, [], ◌∷◌, ◌++◌, length, take, drop, Some, slice_get, slice_index_or, arith}
use Rattle.std.specs.Prelude.{IsUtf8}
use Rattle.std.proofs.lemmas.List.{length-append, take-append-le, drop-append-le, length-drop}
use Rattle.std.proofs.Math.Seq.{drop-append_seam, take-length}
use Rattle.frame_ast.specs.JoinedTexts.{texts_from, StandIn, start_at}

pub how_many : (start : ℕ) (bytes ends : List ℕ) → length (texts_from start bytes ends) ≡ length ends
how_many start bytes [] = refl
how_many start bytes (end ∷ ends) = ap suc (how_many end bytes ends)

-- the one at a place

-- Behind the first text, each begins where the one before it ends.
behind : (start : ℕ) (ends : List ℕ) (n : ℕ) → n < length ends → slice_index_or ends n 0 ≡ start_at start ends (suc n)
behind start [] n within = absurd (omega arith)
behind start (first ∷ ends) zero within = cc
behind start (first ∷ ends) (suc n) within = behind first ends n (omega arith)

pub begins : (ends : List ℕ) (place : ℕ) → place < length ends → (place ≡ 0 → ⊥) → slice_index_or ends (place - 1) 0 ≡ start_at 0 ends place
begins ends zero within some = absurd (some refl)
begins ends (suc n) within some =
    let before : suc n - 1 ≡ n = omega arith in
    ap (λ it. slice_index_or ends it 0) before ∙ behind 0 ends n (omega arith)

pub text_at : (start : ℕ) (bytes ends : List ℕ) (n : ℕ) → n < length ends
    → slice_get (texts_from start bytes ends) n
    ≡ Some (take (slice_index_or ends n 0 - start_at start ends n) (drop (start_at start ends n) bytes))
text_at start bytes [] n within = absurd (omega arith)
text_at start bytes (first ∷ ends) zero within = refl
text_at start bytes (first ∷ ends) (suc n) within = text_at first bytes ends n (omega arith)

abbrev pub StandsAt : ℕ → ℕ → List ℕ → Type 0
StandsAt start end bytes = (start ≤ end) × (end ≤ length bytes) × IsUtf8 (take (end - start) (drop start bytes))

pub stands_at : (start : ℕ) (bytes ends : List ℕ) (n : ℕ) → StandIn start bytes ends → n < length ends
    → StandsAt (start_at start ends n) (slice_index_or ends n 0) bytes
stands_at start bytes [] n stand within = absurd (omega arith)
stands_at start bytes (first ∷ ends) zero stand within = (stand.0, stand.1, stand.2)
stands_at start bytes (first ∷ ends) (suc n) stand within = stands_at first bytes ends n stand.3 (omega arith)

-- one more

-- A part of some bytes stands in them with more behind it too.
same_part : (start end : ℕ) (bytes more : List ℕ) → start ≤ end → end ≤ length bytes
    → take (end - start) (drop start (bytes ++ more)) ≡ take (end - start) (drop start bytes)
same_part start end bytes more in_order within =
    let begins : start ≤ length bytes = omega arith in
    let left : length (drop start bytes) ≡ length bytes - start = length-drop start bytes in
    let fits : end - start ≤ length (drop start bytes) = omega arith in
    ap (take (end - start)) (drop-append-le start bytes more begins) ∙ take-append-le (end - start) (drop start bytes) more fits

-- The part behind all bytes is what was put there.
last_part : (bytes more : List ℕ) → take (length (bytes ++ more) - length bytes) (drop (length bytes) (bytes ++ more)) ≡ more
last_part bytes more =
    let all : length (bytes ++ more) ≡ length bytes + length more = length-append bytes more in
    let size : length (bytes ++ more) - length bytes ≡ length more = omega arith in
    ap (λ n. take n (drop (length bytes) (bytes ++ more))) size
    ∙ ap (take (length more)) (drop-append_seam bytes more)
    ∙ take-length more

pub stand_with_one_more : (start : ℕ) (bytes ends more : List ℕ) → StandIn start bytes ends → IsUtf8 more
    → StandIn start (bytes ++ more) (ends ++ length (bytes ++ more) ∷ [])
stand_with_one_more start bytes [] more stand text =
    let size : length (bytes ++ more) ≡ length bytes + length more = length-append bytes more in
    let grows : start ≤ length (bytes ++ more) = omega arith in
    let part : take (length (bytes ++ more) - start) (drop start (bytes ++ more)) ≡ more =
    ap (λ it. take (length (bytes ++ more) - it) (drop it (bytes ++ more))) stand ∙ last_part bytes more in
    (grows, omega arith, subst IsUtf8 (sym part) text, refl)
stand_with_one_more start bytes (end ∷ ends) more stand text =
    let size : length (bytes ++ more) ≡ length bytes + length more = length-append bytes more in
    let part = same_part start end bytes more stand.0 stand.1 in
    (stand.0, omega arith, subst IsUtf8 (sym part) stand.2, stand_with_one_more end bytes ends more stand.3 text)

pub texts_with_one_more : (start : ℕ) (bytes ends more : List ℕ) → StandIn start bytes ends
    → texts_from start (bytes ++ more) (ends ++ length (bytes ++ more) ∷ []) ≡ texts_from start bytes ends ++ more ∷ []
texts_with_one_more start bytes [] more stand =
    ap (λ it. take (length (bytes ++ more) - it) (drop it (bytes ++ more)) ∷ []) stand ∙ ap (λ it. it ∷ []) (last_part bytes more)
texts_with_one_more start bytes (end ∷ ends) more stand =
    ap (λ it. it ∷ texts_from end (bytes ++ more) (ends ++ length (bytes ++ more) ∷ [])) (same_part start end bytes more stand.0 stand.1)
    ∙ ap (λ rest. take (end - start) (drop start bytes) ∷ rest) (texts_with_one_more end bytes ends more stand.3)
