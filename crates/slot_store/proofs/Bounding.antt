-- Bounds on the lengths of holes, by blocks.
use Rattle.std.proofs.Common.{◌≡◌, ℕ, zero, suc, ◌+◌, ◌-◌, ◌*◌, ◌<◌, ◌≤◌, ⊎_elim, Bool, true, false, if◌then◌else◌, nat_eq, List, [], ◌∷◌, ◌++◌, length, get_or, set, take, drop, slice_index, ap, sym, ◌∙◌, subst, arith, get_or-set_same, get_or-set_other}
use Rattle.std.proofs.lemmas.Bool.{cases_eq}
use Rattle.job_base.specs.declared.Span.{Span}
use Rattle.slot_store.specs.declared.blocks.TheConstants.{BLOCK, BLOCKS}
use Rattle.slot_store.specs.Spaces.{no_span, start_of, len_of, rest_after, AreHoles, IsPlace}
use Rattle.slot_store.specs.Blocks.{block_of, AreBounded}
use Rattle.slot_store.proofs.Cuts.{end_below, same_hole}
use Rattle.slot_store.proofs.Gives.{rises_to}

-- WHERE BLOCKS LIE

pub block_rises : (v w : ℕ) → v ≤ w → block_of v ≤ block_of w
block_rises v w le = omega arith

pub block_below : (w b : ℕ) → w < b * BLOCK → block_of w < b
block_below w b lt = omega arith

pub block_from : (w b : ℕ) → b < BLOCKS → b * BLOCK ≤ w → b ≤ block_of w
block_from w b few le = omega arith

-- BOUNDS

abbrev Each : List ℕ → List Span → Type 0
Each bounds [] = Unit {0}
Each bounds (x ∷ more) = (x.len ≤ slice_index bounds (block_of x.start)) × Each bounds more

each_of : (bounds : List ℕ) (holes : List Span) → AreBounded bounds holes → Each bounds holes
each_of bounds [] B = tt
each_of bounds (x ∷ more) B = (B 0 (omega arith), each_of bounds more (λ k lt. B (suc k) (omega arith)))

of_each : (bounds : List ℕ) (holes : List Span) → Each bounds holes → AreBounded bounds holes
of_each bounds [] E k lt = absurd (omega arith)
of_each bounds (x ∷ more) E zero lt = E.0
of_each bounds (x ∷ more) E (suc k) lt = of_each bounds more E.1 k (omega arith)

raised : (old new : List ℕ) (holes : List Span) → ((b : ℕ) → slice_index old b ≤ slice_index new b) → Each old holes → Each new holes
raised old new [] up E = tt
raised old new (x ∷ more) up E = (let a = E.0 in let u = up (block_of x.start) in omega arith, raised old new more up E.1)

joined : (bounds : List ℕ) (xs ys : List Span) → Each bounds xs → Each bounds ys → Each bounds (xs ++ ys)
joined bounds [] ys E F = F
joined bounds (x ∷ xs) ys E F = (E.0, joined bounds xs ys E.1 F)

front : (bounds : List ℕ) (n : ℕ) (xs : List Span) → Each bounds xs → Each bounds (take n xs)
front bounds zero [] E = tt
front bounds zero (x ∷ xs) E = tt
front bounds (suc n) [] E = tt
front bounds (suc n) (x ∷ xs) E = (E.0, front bounds n xs E.1)

back : (bounds : List ℕ) (n : ℕ) (xs : List Span) → Each bounds xs → Each bounds (drop n xs)
back bounds zero [] E = tt
back bounds zero (x ∷ xs) E = E
back bounds (suc n) [] E = tt
back bounds (suc n) (x ∷ xs) E = back bounds n xs E.1

-- a hole is in place of some others
pub bounded_given : (old new : List ℕ) (xs zs : List Span) (from to : ℕ) (hole : Span) → AreBounded old xs → ((b : ℕ) → slice_index old b ≤ slice_index new b)
    → hole.len ≤ slice_index new (block_of hole.start) → zs ≡ take from xs ++ hole ∷ drop to xs → AreBounded new zs
bounded_given old new xs zs from to hole B up noted q = subst (λ l. AreBounded new l) (sym q)
    (let E = raised old new xs up (each_of old xs B) in
    of_each new (take from xs ++ hole ∷ drop to xs) (joined new (take from xs) (hole ∷ drop to xs) (front new from xs E) (noted, back new to xs E)))

-- the last holes are gone
pub bounded_lower : (bounds : List ℕ) (xs zs : List Span) (from : ℕ) → AreBounded bounds xs → zs ≡ take from xs → AreBounded bounds zs
bounded_lower bounds xs zs from B q = subst (λ l. AreBounded bounds l) (sym q) (of_each bounds (take from xs) (front bounds from xs (each_of bounds xs B)))

-- a hole lost its first n numbers
pub bounded_cut : (old new : List ℕ) (xs ys zs : List Span) (i n : ℕ) (x : Span) → AreBounded old xs → ((b : ℕ) → slice_index old b ≤ slice_index new b)
    → ys ≡ xs → i < length ys → x ≡ get_or xs i x → x.len - n ≤ slice_index new (block_of (x.start + n))
    → zs ≡ take i xs ++ (rest_after (get_or xs i no_span) n ++ drop (i + 1) xs) → AreBounded new zs
bounded_cut old new xs ys zs i n x B up e lt r noted q = subst (λ l. AreBounded new l) (sym q)
    (let E = raised old new xs up (each_of old xs B) in
    let l : i < length xs = subst (λ m. i < length m) e lt in
    subst (λ (y : Span). AreBounded new (take i xs ++ (rest_after y n ++ drop (i + 1) xs))) (sym (same_hole xs i x l r))
    (of_each new (take i xs ++ (rest_after x n ++ drop (i + 1) xs))
    (joined new (take i xs) (rest_after x n ++ drop (i + 1) xs) (front new i xs E)
    (joined new (rest_after x n) (drop (i + 1) xs) (rest (nat_eq x.len n)) (back new (i + 1) xs E)))))
  where
    rest : (b : Bool) → Each new (if b then [] else (record { start = x.start + n; len = x.len - n }) ∷ [])
    rest true = tt
    rest false = (noted, tt)

-- a block's bound falls to the greatest length of its holes
pub bounded_seen : (bounds : List ℕ) (holes : List Span) (block most : ℕ) → block < length bounds → AreBounded bounds holes
    → ((k : ℕ) → k < length holes → block_of (start_of holes k) ≡ block → len_of holes k ≤ most) → AreBounded (set bounds block most) holes
bounded_seen bounds holes block most in_list B seen k lt = ⊎_elim
    (λ e. subst (λ m. len_of holes k ≤ m) (sym (ap (λ b. get_or (set bounds block most) b 0) e ∙ get_or-set_same bounds block most 0 in_list)) (seen k lt e))
    (λ n. subst (λ m. len_of holes k ≤ m) (sym (get_or-set_other bounds block (block_of (start_of holes k)) most 0 n)) (B k lt))
    (cases_eq (block_of (start_of holes k)) block)

-- THE SEARCH

pub start_below : (xs : List Span) (i top : ℕ) → AreHoles 0 xs top → i < length xs → block_of (start_of xs i) ≤ block_of top
start_below xs i top H lt = let e = end_below xs 0 i top H lt in block_rises (start_of xs i) top (omega arith)

-- holes that start before a block aren't of it
pub before_block : (xs : List Span) (block first k : ℕ) → IsPlace xs (block * BLOCK) first → k < first → block_of (start_of xs k) < block
before_block xs block first k P lt = block_below (start_of xs k) block (P.before k lt)

-- holes behind one of a later block are of later blocks
pub behind_block : (xs : List Span) (top i k : ℕ) → AreHoles 0 xs top → i ≤ k → k < length xs → block_of (start_of xs i) ≤ block_of (start_of xs k)
behind_block xs top i k H le lt = block_rises (start_of xs i) (start_of xs k) (rises_to xs top i k H le lt)
