-- What is read of a name is what its container holds.
use Rattle.std.proofs.Common.{◌≡◌, refl, sym, ap, ◌∙◌, subst, ℕ, zero, suc, ◌+◌, ◌<◌, ◌≤◌, Bool, true, false, ℤ, List, [], ◌∷◌, length, take, drop, Option, None, Some, arith}
use Rattle.std.specs.Prelude.{if◌then◌else◌, option_and_then}
use Rattle.std.specs.Str.{bytes_eq}
use Rattle.job_base.specs.Cells.{cells_of, cell_list}
use Rattle.frame_plan.proofs.FirstCells.{taken_cells}
use Rattle.frame_ast.specs.Contents.{Contents}
use Rattle.frame_ast.specs.States.{ScriptState, contents_at}
use Rattle.kernel_exec.specs.declared.binds.Bind.{Bind}
use Rattle.kernel_exec.specs.Layout.{Holds}
use Rattle.frame_core.proofs.Small.{some_is, none_some}
use Rattle.frame_plan.specs.Bindings.{IsBindAt, bind_in}
use Rattle.plan_state.specs.Steps.{state_at}
use Rattle.frame_host.specs.declared.answer.FrameAnswer.{FrameAnswer}
use Rattle.frame_host.specs.Frames.{IsAnswer, answered_table, answered_tree}
use Rattle.frame_host.specs.Reading.{numbers_at, numbers_named, numbers_of, place_from, place_named}

-- WINDOWS OF CELLS

-- the cells behind the first one, by their places among the others
shifted : (f g : ℕ → ℤ) (start n : ℕ) → ((k : ℕ) → f k ≡ g (suc k)) → cell_list f start n ≡ cell_list g (suc start) n
shifted f g start zero same = refl
shifted f g start (suc n) same =
    let next : suc (start + 1) ≡ suc start + 1 = omega arith in
    let first = same start in
    let rest = shifted f g (start + 1) n same ∙ ap (λ w. cell_list g w n) next in
    λ i. first i ∷ rest i

-- so many cells from one on are a part of the list
pub window : (xs : List ℤ) (start n : ℕ) → start + n ≤ length xs → take n (drop start xs) ≡ cell_list (cells_of xs) start n
window xs zero n le = taken_cells xs n (omega (arith, le))
window [] (suc start) n le = absurd (omega (arith, le))
window (x ∷ xs) (suc start) n le =
    window xs start n (omega (arith, le)) ∙ shifted (cells_of xs) (cells_of (x ∷ xs)) start n (λ k. refl)

-- NAMES

-- a name that is found is one of the names
place_low : (n : ℕ) (bytes : List ℕ) (names : List (List ℕ)) (k : ℕ) → place_from n bytes names ≡ Some k → k < n + length names
place_low n bytes [] k e = absurd (none_some e)
place_low n bytes (x ∷ more) k e = by (bytes_eq x bytes) e (place_low (suc n) bytes more k)
  where
    by : (b : Bool) → (if b then Some n else place_from (suc n) bytes more) ≡ Some k
        → (place_from (suc n) bytes more ≡ Some k → k < suc n + length more) → k < n + length (x ∷ more)
    by true e low = let is = some_is e in omega arith
    by false e low = let l = low e in omega (arith, l)

-- the state at the script's end
abbrev pub final_of : FrameAnswer → ScriptState
final_of a = state_at (answered_tree a) (answered_table a) (length (answered_tree a).statements.items)

module _ (a : FrameAnswer) (sound : IsAnswer a) (bytes : List ℕ) where
  abbrev s : ScriptState
  s = final_of a

  pub no_place : place_named (answered_tree a) bytes ≡ None → numbers_named (answered_tree a) (answered_table a) bytes ≡ None
  no_place e = ap (option_and_then (numbers_at s)) e

  pub is_bound : (k : ℕ) → place_named (answered_tree a) bytes ≡ Some k → (o : Option Bind) → bind_in a.book k ≡ o
      → IsBindAt s (cells_of a.cells.items) (length a.cells.items) k o
  is_bound k e o is = subst (IsBindAt s (cells_of a.cells.items) (length a.cells.items) k) is
      (sound.reads k (omega (arith, place_low 0 bytes (answered_tree a).names k e)))

  pub no_bind : (k : ℕ) → place_named (answered_tree a) bytes ≡ Some k → bind_in a.book k ≡ None
      → numbers_named (answered_tree a) (answered_table a) bytes ≡ None
  no_bind k e is = ap (option_and_then (numbers_at s)) e ∙ ap (λ b. if b then numbers_of (contents_at s k) else None) (is_bound k e None is)

  pub read_there : (k : ℕ) → place_named (answered_tree a) bytes ≡ Some k → (b : Bind) → bind_in a.book k ≡ Some b → (r : Option (List ℤ))
      → ((c : Contents) → Holds (cells_of a.cells.items) b c → r ≡ numbers_of c) → r ≡ numbers_named (answered_tree a) (answered_table a) bytes
  read_there k e b is r read =
      let at = is_bound k e (Some b) is in
      read (contents_at s k) at.2 ∙ sym (ap (option_and_then (numbers_at s)) e ∙ ap (λ y. if y then numbers_of (contents_at s k) else None) at.0)
