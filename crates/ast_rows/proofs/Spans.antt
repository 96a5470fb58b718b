-- Where the words of a script lie.
use Rattle.std.proofs.Common.{◌≡◌, refl, sym, subst, ℕ, zero, suc, ◌+◌, ◌<◌, Bool, true, false, ◌&&◌, not, List, map, arith, lit<, lit≤}
use Rattle.std.specs.Fmt.{digits}
use Rattle.frame_ast.specs.Lists.{first_some}
use Rattle.frame_ast.specs.Kernels.{fresh}
use Rattle.frame_ast.specs.JobRuns.{full_steps, deferred_steps, Run}
use Rattle.frame_ast.specs.Orders.{no_table, setting}
use Rattle.frame_ast.specs.States.{at_start}
use Rattle.frame_ast.specs.Ranges.{Starts, IsFree, IsFirstFit, AreFirstFits}
use Rattle.std.proofs.lemmas.Bool.{and_parts, false≢true}
use Rattle.ast_rows.proofs.Trees.{Place}
use Rattle.ast_rows.proofs.Kernel.{run, same_runs}
use Rattle.ast_rows.proofs.Kernels.{kernels}
use Rattle.ast_rows.proofs.Script.{script}
use Rattle.ast_rows.proofs.RowsLifetimes.{reused_names, reused_said}

-- WHETHER A START IS THE FIRST FIT, BY LOOKING AT EACH WORD

off : (b : Bool) → not b ≡ true → b ≡ false
off true e = cc
off false e = refl

-- none of so many words from a start on is live
abbrev is_free : (ℕ → Bool) → ℕ → ℕ → Bool
is_free live start zero = true
is_free live start (suc n) = not (live (start + n)) && is_free live start n

-- no start below has so much room
abbrev no_lower : (ℕ → Bool) → ℕ → ℕ → Bool
no_lower live len zero = true
no_lower live len (suc lower) = not (is_free live lower len) && no_lower live len lower

free_by : (live : ℕ → Bool) (start n : ℕ) → is_free live start n ≡ true → IsFree live start n
free_by live start zero e w above below = absurd (omega arith)
free_by live start (suc n) e w above below =
    let parts = and_parts (not (live (start + n))) (is_free live start n) e in
    let last = off (live (start + n)) parts.0 in
    let rest : w < start + n → live w ≡ false = λ h. free_by live start n parts.1 w above h in
    grind arith

seen_free : (live : ℕ → Bool) (start n : ℕ) → IsFree live start n → is_free live start n ≡ true
seen_free live start zero h = refl
seen_free live start (suc n) h =
    let last = h (start + n) (omega arith) (omega arith) in
    let rest = seen_free live start n (λ w above below. h w above (omega arith)) in
    cc

none_lower : (live : ℕ → Bool) (len start : ℕ) → no_lower live len start ≡ true → (lower : ℕ) → lower < start → IsFree live lower len → ⊥
none_lower live len zero e lower below h = absurd (omega arith)
none_lower live len (suc start) e lower below h =
    let parts = and_parts (not (is_free live start len)) (no_lower live len start) e in
    let last = off (is_free live start len) parts.0 in
    let rest : lower < start → ⊥ = λ under. none_lower live len start parts.1 lower under h in
    let seen = seen_free live lower len h in
    grind arith

first_fit : (live : ℕ → Bool) (len start : ℕ) → (is_free live start len && no_lower live len start) ≡ true → IsFirstFit live len start
first_fit live len start e = record {
  free = free_by live start len (and_parts _ _ e).0;
  lowest = none_lower live len start (and_parts _ _ e).1;
}

-- THE SCRIPT OF `words_reused_after_the_reader`

-- a takes the words 0 and 1, t takes 2, b takes 3 and 4, and c takes 0 and 1 again
abbrev starts : Starts
starts zero = 0
starts (suc zero) = 2
starts (suc (suc zero)) = 3
starts (suc (suc (suc n))) = 0

abbrev FitsAt : Starts → Place → Type 0
FitsAt starts at =
    let s = script at reused_names reused_said in
    AreFirstFits (setting s no_table) starts s.statements.items at_start

abbrev FitsWith : Starts → Place → List Run → Type 0
FitsWith starts at runs =
    let s = script at reused_names reused_said in
    AreFirstFits (record (setting s no_table) { runs = runs }) starts s.statements.items at_start

-- it is enough to compute with the runs of the kernels
with_runs : (starts : Starts) (at : Place) → FitsWith starts at (map (run at) kernels) → FitsAt starts at
with_runs starts at h = subst (FitsWith starts at) (sym (same_runs at kernels)) h

spans : (at : Place) → FitsWith starts at (map (run at) kernels)
unfolding fresh full_steps deferred_steps digits first_some
spans at =
    (first_fit _ 2 0 refl, (first_fit _ 1 2 refl, (tt, (tt, (first_fit _ 2 3 refl, (tt, (first_fit _ 2 0 refl, (tt, (tt, tt)))))))))

fitting : (at : Place) → FitsAt starts at
fitting at = with_runs starts at (spans at)

-- b one word higher, where 3 would do
abbrev higher : Starts
higher zero = 0
higher (suc zero) = 2
higher (suc (suc zero)) = 4
higher (suc (suc (suc n))) = 0

b_not_lowest : (at : Place) → FitsWith higher at (map (run at) kernels) → ⊥
unfolding fresh full_steps deferred_steps digits first_some
b_not_lowest at h = h.1.1.1.1.0.lowest 3 (lit< tt) (free_by _ 3 2 refl)

b_too_high : (at : Place) → FitsAt higher at → ⊥
b_too_high at h = b_not_lowest at (subst (FitsWith higher at) (same_runs at kernels) h)

-- c one word higher, over the word of t
abbrev over_t : Starts
over_t zero = 0
over_t (suc zero) = 2
over_t (suc (suc zero)) = 3
over_t (suc (suc (suc n))) = 1

c_not_free : (at : Place) → FitsWith over_t at (map (run at) kernels) → ⊥
unfolding fresh full_steps deferred_steps digits first_some
c_not_free at h = false≢true (sym (h.1.1.1.1.1.1.0.free 2 (lit≤ tt) (lit< tt)))

c_over_t : (at : Place) → FitsAt over_t at → ⊥
c_over_t at h = c_not_free at (subst (FitsWith over_t at) (same_runs at kernels) h)
