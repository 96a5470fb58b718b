-- The bind of a parameter, and what its words stand for.
use Rattle.std.proofs.Common.{◌≡◌, ℕ, zero, suc, ◌≤◌, ◌<◌, ℤ, List, [], ◌∷◌, length, Option, Some, None, slice_get, refl, sym, subst, arith}
use Rattle.frame_ast.specs.Contents.{Contents, Cells}
use Rattle.frame_ast.specs.Arguments.{argument, width_of}
use Rattle.kernel_exec.specs.declared.binds.Bind.{Bind}
use Rattle.kernel_exec.specs.Binds.{own_of, widths, no_bind, bind_at}
use Rattle.kernel_exec.specs.Layout.{Holds, StandFor}

none_past : (xs : List Bind) (x : ℕ) → slice_get xs x ≡ None → length xs ≤ x
none_past [] x e = omega arith
none_past (y ∷ ys) zero e = cc
none_past (y ∷ ys) (suc x) e = let h = none_past ys x e in omega arith

pub bind_is : (binds : List Bind) (x : ℕ) (b : Bind) → slice_get binds x ≡ Some b → bind_at binds x ≡ b
bind_is [] x b e = cc
bind_is (y ∷ ys) zero b e = cc
bind_is (y ∷ ys) (suc x) b e = bind_is ys x b e

pub bind_none : (binds : List Bind) (x : ℕ) → slice_get binds x ≡ None → bind_at binds x ≡ no_bind
bind_none [] x e = refl
bind_none (y ∷ ys) zero e = cc
bind_none (y ∷ ys) (suc x) e = bind_none ys x e

pub bind_here : (binds : List Bind) (x : ℕ) → x < length binds → slice_get binds x ≡ Some (bind_at binds x)
bind_here [] x h = absurd (omega arith)
bind_here (y ∷ ys) zero h = refl
bind_here (y ∷ ys) (suc x) h = bind_here ys x (omega arith)

argument_past : (s : List Contents) (x : ℕ) → length s ≤ x → argument s x ≡ Cells []
argument_past [] x h = refl
argument_past (y ∷ ys) zero h = absurd (omega arith)
argument_past (y ∷ ys) (suc x) h = argument_past ys x (omega arith)

pub width_is : (binds : List Bind) (x : ℕ) → width_of (widths binds) x ≡ own_of (bind_at binds x)
width_is [] x = refl
width_is (b ∷ more) zero = refl
width_is (b ∷ more) (suc x) = width_is more x

pub holds_at : (binds : List Bind) (cells : ℕ → ℤ) (s : List Contents) (x : ℕ) → StandFor binds cells s → Holds cells (bind_at binds x) (argument s x)
holds_at binds cells s x r = cases (slice_get binds x) refl
  where
    cases : (o : Option Bind) → slice_get binds x ≡ o → Holds cells (bind_at binds x) (argument s x)
    cases None e =
        let n = r.count in
        let past = none_past binds x e in
        subst (λ b. Holds cells b (argument s x)) (sym (bind_none binds x e)) (argument_past s x (omega arith))
    cases (Some b) e = subst (λ b. Holds cells b (argument s x)) (sym (bind_is binds x b e)) (r.each x b e)
