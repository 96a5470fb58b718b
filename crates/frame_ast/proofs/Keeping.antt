-- A job of a checked kernel keeps the form of each of its arguments, and leaves what can be held.
use Rattle.std.proofs.Common.{◌≡◌, refl, ap, subst, ℕ, zero, suc, ℤ, List, [], ◌∷◌, get_or, set, map, Some, slice_get, Result, Ok, Err}
use Rattle.std.specs.Prelude.{IfOk}
use Rattle.job_base.specs.declared.Trap.{Trap}
use Rattle.frame_ast.specs.declared.kernel.Param.{Param}
use Rattle.frame_ast.specs.declared.kernel.Kernel.{Kernel}
use Rattle.frame_ast.specs.Contents.{Contents, IsHeld, add_item, swap_back, add_key, cleared, with_single}
use Rattle.frame_ast.specs.Arguments.{argument, changed, width_of, put_in, on_items, on_pairs, without, begin_in, write_place, arguments}
use Rattle.frame_ast.specs.Checked.{IsChecked}
use Rattle.frame_ast.specs.Kernels.{execution, store_after}
use Rattle.frame_ast.specs.JobRuns.{Run, run_of, no_run}
use Rattle.frame_ast.specs.Simulation.{AlikeResults, Simulates}
use Rattle.frame_ast.specs.Forms.{form_of, IsKept, AreHeld, AreKept, JobsKeepForms}
use Rattle.frame_ast.proofs.Simulation.{execution_alike, job_alike}
use Rattle.frame_ast.proofs.Forms.{Keeps, same_kept, then_kept, put_kept, add_kept, remove_at_kept, add_pair_kept, without_kept, cleared_kept, single_kept, begin_kept, write_kept}

pub all_kept : (args : List Contents) → AreHeld args → AreKept args args
all_kept [] held = tt
all_kept (c ∷ args) held = (same_kept c held.0, all_kept args held.1)

pub argument_held : (first args : List Contents) (x : ℕ) → AreKept first args → IsHeld (argument args x)
argument_held [] [] x k = tt
argument_held [] (b ∷ args) x k = absurd k
argument_held (a ∷ first) [] x k = absurd k
argument_held (a ∷ first) (b ∷ args) zero k = k.0.held
argument_held (a ∷ first) (b ∷ args) (suc x) k = argument_held first args x k.1

-- one argument is changed to what keeps it
set_kept : (first args : List Contents) (x : ℕ) (c : Contents) → AreKept first args → IsKept (argument args x) c → AreKept first (set args x c)
set_kept [] [] x c k h = tt
set_kept [] (b ∷ args) x c k h = absurd k
set_kept (a ∷ first) [] x c k h = absurd k
set_kept (a ∷ first) (b ∷ args) zero c k h = (then_kept a b c k.0 h, k.1)
set_kept (a ∷ first) (b ∷ args) (suc x) c k h = (k.0, set_kept first args x c k.1 h)

changed_kept : (first args : List Contents) (x : ℕ) (r : Result Contents Trap) → AreKept first args → Keeps (argument args x) r
    → IfOk (changed args x r) (AreKept first)
changed_kept first args x (Ok c) k h = set_kept first args x c k h
changed_kept first args x (Err t) k h = tt

-- nothing is asked of a begun index
abbrev AnyIndex : ℕ → ℤ → Type 0
AnyIndex x i = Unit {0}

-- A run beside itself: both sides are the same, and keep the first arguments.
module _ (first : List Contents) where
  abbrev Both : List Contents → List Contents → Type 0
  Both s t = (s ≡ t) × AreKept first s

  both_same : (r : Result (List Contents) Trap) → IfOk r (AreKept first) → AlikeResults Both r r
  both_same (Ok args) k = (refl, k)
  both_same (Err t) k = refl

  -- an operation that may trap, and one that doesn't
  may_trap : (x : ℕ) (f : Contents → Result Contents Trap) → ((c : Contents) → IsHeld c → Keeps c (f c)) → (s t : List Contents) → Both s t
      → AlikeResults Both (changed s x (f (argument s x))) (changed t x (f (argument t x)))
  may_trap x f keeps s t b =
      subst (λ t. AlikeResults Both (changed s x (f (argument s x))) (changed t x (f (argument t x)))) b.0
      (both_same (changed s x (f (argument s x))) (changed_kept first s x (f (argument s x)) b.1 (keeps (argument s x) (argument_held first s x b.1))))

  goes_on : (x : ℕ) (f : Contents → Contents) → ((c : Contents) → IsHeld c → IsKept c (f c)) → (s t : List Contents) → Both s t
      → Both (set s x (f (argument s x))) (set t x (f (argument t x)))
  goes_on x f keeps s t b =
      (ap (λ t. set t x (f (argument t x))) b.0, set_kept first s x (f (argument s x)) b.1 (keeps (argument s x) (argument_held first s x b.1)))

  keeping : (params : List Param) (widths : List ℕ) (index : ℕ) → Simulates Both params AnyIndex (arguments widths index) (arguments widths index)
  keeping params widths index = record {
    value = λ x s t b. ap (λ args. (arguments widths index).value x args) b.0;
    len = λ x s t b. ap (λ args. (arguments widths index).len x args) b.0;
    get = λ x i s t b. ap (λ args. (arguments widths index).get x i args) b.0;
    has = λ x k s t b. ap (λ args. (arguments widths index).has x k args) b.0;
    count = λ x i s t read b. ap (λ args. (arguments widths index).count x i args) b.0;
    item = λ x i k s t read b. ap (λ args. (arguments widths index).item x i k args) b.0;
    set_value = λ x v s t may b. goes_on x (with_single v) (single_kept v) s t b;
    put = λ x i v s t may b. may_trap x (put_in (width_of widths x) index i v) (put_kept (width_of widths x) index i v) s t b;
    add = λ x v s t may b. may_trap x (on_items (λ cap xs. add_item cap xs v)) (add_kept v) s t b;
    remove_at = λ x i s t may b. may_trap x (on_items (λ cap xs. swap_back xs i)) (remove_at_kept i) s t b;
    add_pair = λ x k v s t may b. may_trap x (on_pairs (λ cap ps. add_key cap ps k v)) (add_pair_kept k v) s t b;
    remove_key = λ x k s t may b. goes_on x (without k) (without_kept k) s t b;
    clear = λ x s t may b. goes_on x cleared cleared_kept s t b;
    begin = λ x i s t may b. may_trap x (begin_in (width_of widths x) index i) (begin_kept (width_of widths x) index i) s t b;
    begun = λ x i s new e. tt;
    write = λ x i v s t may begun b. may_trap x (λ c. write_place i c v) (write_kept i v) s t b;
  }

pub jobs_keep_forms : JobsKeepForms
jobs_keep_forms k is widths steps n args held =
    (job_alike (Both args) k is AnyIndex (arguments widths) (arguments widths) (λ index. keeping args k.params.items widths index) steps n args args
    (refl, all_kept args held)).store.1

-- one Execute
pub execution_kept : (k : Kernel) → IsChecked k → (widths : List ℕ) (steps index : ℕ) (args : List Contents) → AreHeld args
    → AreKept args (store_after (execution (arguments widths index) k.body.statements.items steps index args))
execution_kept k is widths steps index args held =
    (execution_alike (Both args) k is AnyIndex (arguments widths index) (arguments widths index)
    (keeping args k.params.items widths index) steps index args args (refl, all_kept args held)).store.1

-- parameter by parameter
pub argument_form : (olds news : List Contents) (x : ℕ) → AreKept olds news → form_of (argument news x) ≡ form_of (argument olds x)
argument_form [] [] x k = refl
argument_form [] (b ∷ news) x k = absurd k
argument_form (a ∷ olds) [] x k = absurd k
argument_form (a ∷ olds) (b ∷ news) zero k = k.0.form
argument_form (a ∷ olds) (b ∷ news) (suc x) k = argument_form olds news x k.1

-- the runs of checked kernels
abbrev pub RunsKeep : List Run → Type 0
RunsKeep runs = (k : ℕ) (widths : List ℕ) (steps n : ℕ) (args : List Contents) → AreHeld args → AreKept args (get_or runs k no_run widths steps n args).store

pub runs_keep : (ks : List Kernel) → ((k : ℕ) (it : Kernel) → slice_get ks k ≡ Some it → IsChecked it) → RunsKeep (map run_of ks)
runs_keep [] checked k widths steps n args held = all_kept args held
runs_keep (x ∷ ks) checked zero widths steps n args held = jobs_keep_forms x (checked 0 x refl) widths steps n args held
runs_keep (x ∷ ks) checked (suc k) widths steps n args held = runs_keep ks (λ k it at. checked (suc k) it at) k widths steps n args held
