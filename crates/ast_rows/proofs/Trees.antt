-- How trees hold lists, texts and children, as literals that lie anywhere.
use Rattle.std.proofs.Common.{◌≡◌, refl, ap, sym, subst, ◌∙◌, ℕ, zero, suc, ◌≤◌, min, List, [], ◌∷◌, length, map, take, lit<, arith}
use Rattle.std.proofs.Math.Bridge.{le_prop}
use Rattle.std.proofs.Math.Nat.{ℕ_set, min-le_left}
use Rattle.std.proofs.lemmas.List.{length-take}
use Rattle.std.proofs.lemmas.Str.{IsUtf8-from_ascii}
use Rattle.std.specs.Prelude.{Vec, String, Box, IsAscii}
use Rattle.std.specs.declared.alloc.Global.{Global}
use denote.RawPtr.{Ptr}

-- a pointer and an allocator; what a tree means doesn't depend on them
pub record Place : Type 0 where
  pub ptr : Ptr
  pub heap : Global

-- a `Vec` at a place, with room for 1,000 elements
abbrev pub holding : {A : Type 0} → Place → (xs : List A) (n : ℕ) → n ≡ length xs → n ≤ 1000 → Vec A Global
holding at xs n same fits = record { items = xs; ptr = at.ptr; len = n; cap = 1000; alloc = at.heap; ok = (same, fits); small = lit< tt }

pub few : {A : Type 0} (xs : List A) → length (take 1000 xs) ≤ 1000
few xs = omega (arith, length-take 1000 xs)

-- The first 1,000 elements; no list that is written here is longer.
abbrev pub vec : {A : Type 0} → Place → List A → Vec A Global
vec at xs = holding at (take 1000 xs) (length (take 1000 xs)) refl (few xs)

-- the elements alone decide
pub same_vec : {A : Type 0} (at : Place) (xs ys : List A) (m n : ℕ) (p : m ≡ length xs) (q : n ≡ length ys) (f : m ≤ 1000) (g : n ≤ 1000) → xs ≡ ys
    → holding at xs m p f ≡ holding at ys n q g
same_vec {A} at xs ys m n p q f g e =
    subst (λ zs. (k : ℕ) (r : k ≡ length zs) (h : k ≤ 1000) → holding at xs m p f ≡ holding at zs k r h) e
    (λ k r h. subst (λ k. (r : k ≡ length xs) (h : k ≤ 1000) → holding at xs m p f ≡ holding at xs k r h) (p ∙ sym r)
    (λ r h. let props : IsProp ((m ≡ length xs) × (m ≤ 1000)) = hlevel (le_prop, ℕ_set) in ap (λ o. holding at xs m o.0 o.1) (props (p, f) (r, h))) r h)
    n q g

-- a `Box` at a place
abbrev pub boxed : {A : Type 0} → Place → A → Box A Global
boxed at x = record { value = x; ptr = at.ptr; alloc = at.heap }

-- the child of an expression
abbrev pub child : Place → Box (Unit {0}) Global
child at = boxed at tt

-- all texts here are ASCII
abbrev pub ascii : List ℕ → List ℕ
ascii bs = map (min 127) bs

pub is_ascii : (n : ℕ) (bs : List ℕ) → IsAscii (take n (ascii bs))
is_ascii zero bs i = lit< tt
is_ascii (suc n) [] i = lit< tt
is_ascii (suc n) (b ∷ bs) zero = omega (arith, min-le_left 127 b)
is_ascii (suc n) (b ∷ bs) (suc i) = is_ascii n bs i

abbrev pub text : Place → List ℕ → String Global
text at bs = record { bytes = vec at (ascii bs); ok = ∣ IsUtf8-from_ascii _ (is_ascii 1000 bs) ∣₁ }
