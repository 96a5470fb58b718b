-- Windows of cells: what stands in some words that follow one another, before and after writes.
use Rattle.std.proofs.Common.{◌≡◌, ◌≢◌, ℕ, zero, suc, ℤ, pos, ◌+◌, ◌<◌, ◌≤◌, ◌⊎◌, inl, inr, Bool, true, false, cond, eqb, List, [], ◌∷◌, ◌++◌, length, get_or, set, refl, sym, ap, subst, ◌∙◌, arith, eq-eqb, ne_eqb, ⊎_elim}
use native.Mathlib.Decide.{ℕ_discrete}
use mathlib.Core.Logic.{dite}
use Rattle.job_base.specs.Cells.{with_cell, cell_list, write_cells}

-- ---- one cell

pub with_cell-same : (cells : ℕ → ℤ) (w : ℕ) (v : ℤ) → with_cell cells w v w ≡ v
with_cell-same cells w v = ap (λ b. cond b v (cells w)) (eq-eqb w w refl)

pub with_cell-other : (cells : ℕ → ℤ) (w : ℕ) (v : ℤ) (k : ℕ) → k ≢ w → with_cell cells w v k ≡ cells k
with_cell-other cells w v k ne = ap (λ b. cond b v (cells k)) (ne_eqb k w ne)

twice : (b : Bool) (v u x : ℤ) → cond b u (cond b v x) ≡ cond b u x
twice true v u x = refl
twice false v u x = refl

-- the later of two writes to one word stays
pub with_cell-twice : (cells : ℕ → ℤ) (w : ℕ) (v u : ℤ) → with_cell (with_cell cells w v) w u ≡ with_cell cells w u
with_cell-twice cells w v u = λ i k. twice (eqb k w) v u (cells k) i

own : (cells : ℕ → ℤ) (w k : ℕ) → with_cell cells w (cells w) k ≡ cells k
own cells w k = dite (ℕ_discrete k w)
    (λ e. rw e (with_cell-same cells w (cells w)))
    (λ n. with_cell-other cells w (cells w) k n)

-- a word that is given its own cell stays
pub with_cell-own : (cells : ℕ → ℤ) (w : ℕ) → with_cell cells w (cells w) ≡ cells
with_cell-own cells w = λ i k. own cells w k i

swapped : (cells : ℕ → ℤ) (w u : ℕ) (x y : ℤ) → w ≢ u → (k : ℕ) → with_cell (with_cell cells w x) u y k ≡ with_cell (with_cell cells u y) w x k
swapped cells w u x y n k =
    let P : ℕ → Type 0 = λ k. with_cell (with_cell cells w x) u y k ≡ with_cell (with_cell cells u y) w x k in
    let at_w : P w = with_cell-other (with_cell cells w x) u y w n ∙ (with_cell-same cells w x ∙ sym (with_cell-same (with_cell cells u y) w x)) in
    let m : u ≢ w = λ e. n (sym e) in
    let at_u : P u = with_cell-same (with_cell cells w x) u y ∙ (sym (with_cell-same cells u y) ∙ sym (with_cell-other (with_cell cells u y) w x u m)) in
    dite (ℕ_discrete k w)
    (λ e. subst P (sym e) at_w)
    (λ d. dite (ℕ_discrete k u)
    (λ e. subst P (sym e) at_u)
    (λ l. with_cell-other (with_cell cells w x) u y k l
    ∙ (with_cell-other cells w x k d ∙ (sym (with_cell-other cells u y k l) ∙ sym (with_cell-other (with_cell cells u y) w x k d)))))

-- writes to two words may change places
pub with_cell-swap : (cells : ℕ → ℤ) (w u : ℕ) (x y : ℤ) → w ≢ u → with_cell (with_cell cells w x) u y ≡ with_cell (with_cell cells u y) w x
with_cell-swap cells w u x y n = λ i k. swapped cells w u x y n k i

-- ---- a window read

pub length-cell_list : (cells : ℕ → ℤ) (start n : ℕ) → length (cell_list cells start n) ≡ n
length-cell_list cells start zero = refl
length-cell_list cells start (suc n) = ap suc (length-cell_list cells (start + 1) n)

pub get_or-cell_list : (cells : ℕ → ℤ) (start n i : ℕ) (d : ℤ) → i < n → get_or (cell_list cells start n) i d ≡ cells (start + i)
get_or-cell_list cells start zero i d h = absurd (omega arith)
get_or-cell_list cells start (suc n) zero d h = let e : start ≡ start + 0 = omega arith in ap cells e
get_or-cell_list cells start (suc n) (suc i) d h =
    let less : i < n = omega arith in
    let e : (start + 1) + i ≡ start + suc i = omega arith in
    get_or-cell_list cells (start + 1) n i d less ∙ ap cells e

-- cells that agree on a window have the same list there
pub cell_list-same : (f g : ℕ → ℤ) (start n : ℕ) → ((k : ℕ) → start ≤ k → k < start + n → f k ≡ g k) → cell_list f start n ≡ cell_list g start n
cell_list-same f g start zero h = refl
cell_list-same f g start (suc n) h =
    let first : f start ≡ g start = h start (omega arith) (omega arith) in
    let rest : cell_list f (start + 1) n ≡ cell_list g (start + 1) n = cell_list-same f g (start + 1) n (λ k lo hi. h k (omega arith) (omega arith)) in
    ap (λ x. x ∷ cell_list f (start + 1) n) first ∙ ap (λ l. g start ∷ l) rest

-- a list that has the cells of a window in order is the window's list
pub cell_list-is : (cells : ℕ → ℤ) (start n : ℕ) (xs : List ℤ) → length xs ≡ n → ((k : ℕ) → k < n → cells (start + k) ≡ get_or xs k (pos 0))
    → cell_list cells start n ≡ xs
cell_list-is cells start zero [] e h = refl
cell_list-is cells start zero (x ∷ xs) e h = absurd (omega arith)
cell_list-is cells start (suc n) [] e h = absurd (omega arith)
cell_list-is cells start (suc n) (x ∷ xs) e h =
    let same : length xs ≡ n = omega arith in
    let at : start ≡ start + 0 = omega arith in
    let first : cells start ≡ x = ap cells at ∙ h 0 (omega arith) in
    let next : (k : ℕ) → k < n → cells ((start + 1) + k) ≡ get_or xs k (pos 0) =
    λ k l. let place : (start + 1) + k ≡ start + suc k = omega arith in ap cells place ∙ h (suc k) (omega arith) in
    ap (λ y. y ∷ cell_list cells (start + 1) n) first ∙ ap (λ l. x ∷ l) (cell_list-is cells (start + 1) n xs same next)

-- a window is cut in two
pub cell_list-append : (cells : ℕ → ℤ) (start m n : ℕ) → cell_list cells start (m + n) ≡ cell_list cells start m ++ cell_list cells (start + m) n
cell_list-append cells start zero n =
    let e : zero + n ≡ n = omega arith in
    let s : start ≡ start + zero = omega arith in
    ap (λ k. cell_list cells start k) e ∙ ap (λ w. cell_list cells w n) s
cell_list-append cells start (suc m) n =
    let e : suc m + n ≡ suc (m + n) = omega arith in
    let s : (start + 1) + m ≡ start + suc m = omega arith in
    ap (λ k. cell_list cells start k) e
    ∙ (ap (λ l. cells start ∷ l) (cell_list-append cells (start + 1) m n) ∙ ap (λ w. cells start ∷ (cell_list cells (start + 1) m ++ cell_list cells w n)) s)

-- one cell more at the end
pub cell_list-next : (cells : ℕ → ℤ) (start n : ℕ) → cell_list cells start (n + 1) ≡ cell_list cells start n ++ (cells (start + n) ∷ [])
cell_list-next cells start n = cell_list-append cells start n 1

-- ---- a window written

pub write_cells-outside : (cells : ℕ → ℤ) (start : ℕ) (xs : List ℤ) (k : ℕ) → (k < start) ⊎ (start + length xs ≤ k) → write_cells cells start xs k ≡ cells k
write_cells-outside cells start [] k h = refl
write_cells-outside cells start (x ∷ xs) k h =
    let n : k ≢ start = ⊎_elim (λ l. omega arith) (λ l. omega arith) h in
    let o : (k < start + 1) ⊎ ((start + 1) + length xs ≤ k) = ⊎_elim (λ l. inl (omega arith)) (λ l. inr (omega arith)) h in
    with_cell-other (write_cells cells (start + 1) xs) start x k n ∙ write_cells-outside cells (start + 1) xs k o

pub write_cells-inside : (cells : ℕ → ℤ) (start : ℕ) (xs : List ℤ) (i : ℕ) (d : ℤ) → i < length xs → write_cells cells start xs (start + i) ≡ get_or xs i d
write_cells-inside cells start [] i d h = absurd (omega arith)
write_cells-inside cells start (x ∷ xs) zero d h =
    let e : start + zero ≡ start = omega arith in
    ap (write_cells cells start (x ∷ xs)) e ∙ with_cell-same (write_cells cells (start + 1) xs) start x
write_cells-inside cells start (x ∷ xs) (suc i) d h =
    let n : start + suc i ≢ start = omega arith in
    let e : start + suc i ≡ (start + 1) + i = omega arith in
    let l : i < length xs = omega arith in
    with_cell-other (write_cells cells (start + 1) xs) start x (start + suc i) n
    ∙ (ap (write_cells cells (start + 1) xs) e ∙ write_cells-inside cells (start + 1) xs i d l)

-- what was written is read again
pub cell_list-write_cells : (cells : ℕ → ℤ) (start : ℕ) (xs : List ℤ) → cell_list (write_cells cells start xs) start (length xs) ≡ xs
cell_list-write_cells cells start xs =
    cell_list-is (write_cells cells start xs) start (length xs) xs refl (λ k h. write_cells-inside cells start xs k (pos 0) h)

-- a window that a write doesn't touch stays
pub cell_list-apart : (cells : ℕ → ℤ) (start n at : ℕ) (xs : List ℤ) → (at + length xs ≤ start) ⊎ (start + n ≤ at)
    → cell_list (write_cells cells at xs) start n ≡ cell_list cells start n
cell_list-apart cells start n at xs h =
    cell_list-same (write_cells cells at xs) cells start n
    (λ k lo hi. write_cells-outside cells at xs k (⊎_elim (λ l. inr (omega arith)) (λ l. inl (omega arith)) h))

-- so does one that a write of one word doesn't touch
pub cell_list-with_cell-outside : (cells : ℕ → ℤ) (start n w : ℕ) (v : ℤ) → (w < start) ⊎ (start + n ≤ w)
    → cell_list (with_cell cells w v) start n ≡ cell_list cells start n
cell_list-with_cell-outside cells start n w v h =
    cell_list-same (with_cell cells w v) cells start n
    (λ k lo hi. with_cell-other cells w v k (⊎_elim (λ l. omega arith) (λ l. omega arith) h))

-- a write of one word inside a window sets one element of its list
pub cell_list-with_cell-inside : (cells : ℕ → ℤ) (start n i : ℕ) (v : ℤ) → i < n
    → cell_list (with_cell cells (start + i) v) start n ≡ set (cell_list cells start n) i v
cell_list-with_cell-inside cells start zero i v h = absurd (omega arith)
cell_list-with_cell-inside cells start (suc n) zero v h =
    let e : start + zero ≡ start = omega arith in
    let rest : cell_list (with_cell cells start v) (start + 1) n ≡ cell_list cells (start + 1) n =
    cell_list-with_cell-outside cells (start + 1) n start v (inl (omega arith)) in
    ap (λ w. cell_list (with_cell cells w v) start (suc n)) e
    ∙ (ap (λ x. x ∷ cell_list (with_cell cells start v) (start + 1) n) (with_cell-same cells start v) ∙ ap (λ l. v ∷ l) rest)
cell_list-with_cell-inside cells start (suc n) (suc i) v h =
    let e : start + suc i ≡ (start + 1) + i = omega arith in
    let less : i < n = omega arith in
    let ne : start ≢ (start + 1) + i = omega arith in
    ap (λ w. cell_list (with_cell cells w v) start (suc n)) e
    ∙ (ap (λ x. x ∷ cell_list (with_cell cells ((start + 1) + i) v) (start + 1) n) (with_cell-other cells ((start + 1) + i) v start ne)
    ∙ ap (λ l. cells start ∷ l) (cell_list-with_cell-inside cells (start + 1) n i v less))

-- one element more at the end, as a loop writes them
pub write_cells-next : (cells : ℕ → ℤ) (start : ℕ) (xs : List ℤ) (v : ℤ) → write_cells cells start (xs ++ (v ∷ [])) ≡ with_cell (write_cells cells start xs)
    (start + length xs) v
write_cells-next cells start [] v = let e : start ≡ start + 0 = omega arith in ap (λ w. with_cell cells w v) e
write_cells-next cells start (x ∷ xs) v =
    let e : (start + 1) + length xs ≡ start + length (x ∷ xs) = omega arith in
    let ne : start + length (x ∷ xs) ≢ start = omega arith in
    ap (λ c. with_cell c start x) (write_cells-next cells (start + 1) xs v ∙ ap (λ w. with_cell (write_cells cells (start + 1) xs) w v) e)
    ∙ with_cell-swap (write_cells cells (start + 1) xs) (start + length (x ∷ xs)) start v x ne

-- one element of what is written
pub write_cells-set : (cells : ℕ → ℤ) (start : ℕ) (xs : List ℤ) (i : ℕ) (v : ℤ) → i < length xs
    → write_cells cells start (set xs i v) ≡ with_cell (write_cells cells start xs) (start + i) v
write_cells-set cells start [] i v h = absurd (omega arith)
write_cells-set cells start (x ∷ xs) zero v h =
    let e : start ≡ start + zero = omega arith in
    sym (with_cell-twice (write_cells cells (start + 1) xs) start x v) ∙ ap (λ w. with_cell (write_cells cells start (x ∷ xs)) w v) e
write_cells-set cells start (x ∷ xs) (suc i) v h =
    let e : (start + 1) + i ≡ start + suc i = omega arith in
    let less : i < length xs = omega arith in
    let ne : start + suc i ≢ start = omega arith in
    ap (λ c. with_cell c start x) (write_cells-set cells (start + 1) xs i v less ∙ ap (λ w. with_cell (write_cells cells (start + 1) xs) w v) e)
    ∙ with_cell-swap (write_cells cells (start + 1) xs) (start + suc i) start v x ne

-- a window that is given its own list stays
pub write_cells-own : (cells : ℕ → ℤ) (start n : ℕ) → write_cells cells start (cell_list cells start n) ≡ cells
write_cells-own cells start zero = refl
write_cells-own cells start (suc n) =
    ap (λ c. with_cell c start (cells start)) (write_cells-own cells (start + 1) n) ∙ with_cell-own cells start

-- two lists that follow one another
pub write_cells-append : (cells : ℕ → ℤ) (start : ℕ) (xs ys : List ℤ) → write_cells cells start (xs ++ ys) ≡ write_cells
    (write_cells cells (start + length xs) ys) start xs
write_cells-append cells start [] ys = let e : start ≡ start + 0 = omega arith in ap (λ w. write_cells cells w ys) e
write_cells-append cells start (x ∷ xs) ys =
    let e : (start + 1) + length xs ≡ start + length (x ∷ xs) = omega arith in
    ap (λ c. with_cell c start x) (write_cells-append cells (start + 1) xs ys ∙ ap (λ w. write_cells (write_cells cells w ys) (start + 1) xs) e)
