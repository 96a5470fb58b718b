-- What the first words of a new container stand for.
use Rattle.std.proofs.Common.{◌≡◌, ℕ, zero, suc, ◌+◌, ◌-◌, ◌<◌, ◌≤◌, false, pos, List, [], ◌∷◌, length, get_or, None, refl, sym, ap, subst, ◌∙◌, arith}
use Rattle.std.specs.Prelude.{ℤ, replicate}
use Rattle.job_base.specs.Cells.{write_cells}
use Rattle.job_base.proofs.Windows.{write_cells-inside, cell_list-write_cells}
use Rattle.frame_ast.specs.Contents.{Contents, Cells as Elements, Single, Items, Pairs, Entries, words_of}
use Rattle.frame_ast.specs.Forms.{form_of}
use Rattle.native_list.proofs.OwnWords.{zero_words_are_empty}
use Rattle.native_map.specs.Table.{map_at}
use Rattle.native_map.proofs.Effects.{zeros_law}
use Rattle.native_stream.proofs.Standing.{zero_words}
use Rattle.kernel_exec.specs.declared.binds.Bind.TheVariants.{Stream}
use Rattle.kernel_exec.specs.Layout.{Holds}
use Rattle.merge_laws.specs.Graph.{Cells}
use Rattle.plan_laws.specs.Binds.{bind_of}
use Rattle.plan_laws.specs.Making.{ZerosFill, LiteralsFill}
use Rattle.plan_laws.proofs.Owners.{end_is}

long : {A : Type 0} (n : ℕ) (z : A) → length (replicate n z) ≡ n
long zero z = refl
long (suc n) z = ap suc (long n z)

same_in : (n i : ℕ) (z : ℤ) → get_or (replicate n z) i z ≡ z
same_in zero i z = refl
same_in (suc n) zero z = refl
same_in (suc n) (suc i) z = same_in n i z

abbrev zeroed : Cells → ℕ → ℕ → Cells
zeroed cells start n = write_cells cells start (replicate n (pos 0))

zero_at : (cells : Cells) (start n w : ℕ) → start ≤ w → w < start + n → zeroed cells start n w ≡ pos 0
zero_at cells start n w lo hi =
    let l = long n (pos 0) in
    let e : w ≡ start + (w - start) = omega arith in
    ap (zeroed cells start n) e ∙ write_cells-inside cells start (replicate n (pos 0)) (w - start) (pos 0) (omega arith) ∙ same_in n (w - start) (pos 0)

-- an array's elements are the words that are written
written : (cells : Cells) (start : ℕ) (xs : List ℤ) → Holds (write_cells cells start xs) (bind_of start (Elements xs)) (Elements xs)
written cells start xs = ap Elements (sym (cell_list-write_cells cells start xs))

fills : (cells : Cells) (start : ℕ) (c : Contents) → Holds (zeroed cells start (words_of c)) (bind_of start (form_of c)) (form_of c)
fills cells start (Elements xs) = written cells start (replicate (length xs) (pos 0))
fills cells start (Single z) = ap Single (sym (zero_at cells start 1 start (omega arith) (omega arith)))
fills cells start (Items cap xs) =
    zero_words_are_empty (record { start = start; cap = cap }) (zeroed cells start (cap + 1))
    (λ w lo hi. zero_at cells start (cap + 1) w lo (let e = end_is start (Items cap []) in omega arith))
fills cells start (Pairs cap ps) =
    zeros_law (map_at start cap) (zeroed cells start (words_of (Pairs cap ps)))
    (λ w lo hi. zero_at cells start (words_of (Pairs cap ps)) w lo (let e = end_is start (Pairs cap []) in omega arith))
fills cells start (Entries room es) =
    let l = long (length es) None in
    subst (λ k. Holds (zeroed cells start (words_of (Entries room es))) (Stream (record { start = start; count = k; room = room }) false)
    (Entries room (replicate (length es) None))) (sym l)
    (zero_words (record { start = start; count = length es; room = room }) (zeroed cells start (words_of (Entries room es)))
    (λ w lo hi. zero_at cells start (words_of (Entries room es)) w lo (let e = end_is start (Entries room es) in omega arith)))

pub zeros_fill : ZerosFill
zeros_fill plan span c at form = (
  long span.len (pos 0),
  λ cells. subst (λ n. Holds (zeroed cells span.start n) (bind_of span.start c) c) (sym at)
      (subst (λ (k : Contents). Holds (zeroed cells span.start (words_of c)) (bind_of span.start k) k) form (fills cells span.start c)),
)

pub literals_fill : LiteralsFill
literals_fill plan span n (Elements xs) at given = (
  ap length given ∙ sym at,
  λ cells. subst (λ ys. Holds (write_cells cells span.start ys) (bind_of span.start (Elements xs)) (Elements xs)) (sym given) (written cells span.start xs),
)
literals_fill plan span n (Single z) at given = (
  ap length given ∙ sym at,
  λ cells. subst (λ ys. Holds (write_cells cells span.start ys) (bind_of span.start (Single z)) (Single z)) (sym given)
      (let e : span.start ≡ span.start + 0 = omega arith in ap Single (sym
      (ap (write_cells cells span.start (z ∷ [])) e ∙ write_cells-inside cells span.start (z ∷ []) 0 z (omega arith)))),
)
literals_fill plan span n (Items cap xs) at given = absurd given
literals_fill plan span n (Pairs cap ps) at given = absurd given
literals_fill plan span n (Entries room es) at given = absurd given
