-- Blocks of streams, as far as they are known.
use Rattle.std.proofs.Common.{ℕ, ◌≡◌, ◌≤◌, Bool, true, false, eqb, leb, ltb, List, [], ◌∷◌, ◌++◌, ◌-◌, length, get_or, slice_get, Option, Some, None, append-nil, refl, ap, ◌∙◌, sym, arith}
use Rattle.std.specs.Prelude.{◌&&◌, ◌||◌}
use Rattle.std.specs.Option.{option_to_list}
use Rattle.std.proofs.lemmas.List.{get_or_push, length_push}
use Rattle.std.proofs.lemmas.Option.{get_or_from_slice_get}
use Rattle.std.proofs.lemmas.Bool.Decides.{nat_tests}
use Rattle.kernel_code.specs.declared.check.streams.StreamBlock.{StreamBlock}
use Rattle.kernel_code.specs.Known.{is_in, stands_in}

or-false : (b : Bool) → (b || false) ≡ b
or-false true = refl
or-false false = refl

or_assoc : (a b c : Bool) → (a || b || c) ≡ (a || (b || c))
or_assoc true b c = refl
or_assoc false b c = refl

pub stands_in-push : (x i : ℕ) (blocks : List StreamBlock) (b : StreamBlock) → stands_in x i (blocks ++ b ∷ []) ≡ (stands_in x i blocks || is_in x i b)
stands_in-push x i [] b = or-false (is_in x i b)
stands_in-push x i (a ∷ more) b = ap (λ z. is_in x i a || z) (stands_in-push x i more b) ∙ sym (or_assoc (is_in x i a) (stands_in x i more) (is_in x i b))

is_in-closed : (s : Bool) (i end : ℕ) (x y : ℕ) → end ≤ i → (s && ltb i end && eqb x y) ≡ false
is_in-closed s i end x y h = grind (arith, nat_tests)

pub stands_in-closed : (x i : ℕ) (blocks : List StreamBlock) (b : StreamBlock) → b.end ≤ i → stands_in x i (blocks ++ b ∷ []) ≡ stands_in x i blocks
stands_in-closed x i blocks b h =
    stands_in-push x i blocks b ∙ ap (λ z. stands_in x i blocks || z) (is_in-closed (leb b.start i) i b.end x b.stream h) ∙ or-false (stands_in x i blocks)

-- the last block is let go
pub stands_in-popped : (x i : ℕ) (xs ys : List StreamBlock) (r : Option StreamBlock) (b : StreamBlock) → slice_get xs (length xs - 1) ≡ Some b →
    xs ≡ ys ++ option_to_list r → b.end ≤ i → stands_in x i ys ≡ stands_in x i xs
stands_in-popped x i xs ys None b last split h = ap (stands_in x i) (sym (append-nil ys) ∙ sym split)
stands_in-popped x i xs ys (Some a) b last split h =
    let place : length ys ≡ length xs - 1 = omega (arith, ap length split, length_push ys a) in
    let read = get_or_from_slice_get xs (length xs - 1) b a last in
    let there = get_or_push ys a a (length xs - 1) place in
    let same : a ≡ b = sym there ∙ sym (ap (λ zs. get_or zs (length xs - 1) a) split) ∙ read in
    sym (stands_in-closed x i ys b h) ∙ ap (λ z. stands_in x i (ys ++ z ∷ [])) (sym same) ∙ ap (stands_in x i) (sym split)
