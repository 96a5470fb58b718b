-- What the guarded kernel does to contents.
use Rattle.std.proofs.Common.{◌≡◌, ℕ, zero, suc, ◌<◌, true, false, ℤ, pos, List, [], ◌∷◌, ◌++◌, length, get_or, set, Result, Ok, Err, refl, sym, ap, subst, ◌∙◌, arith}
use Rattle.std.specs.Prelude.{int_lt, if◌then◌else◌}
use Rattle.std.proofs.lemmas.List.{get_or_append_left, length-set}
use Rattle.std.proofs.Math.Seq.{get_or-append_seam}
use Rattle.std.proofs.lemmas.Bool.{lt-ltb}
use Rattle.job_base.specs.declared.Trap.{Trap}
use Rattle.job_base.specs.declared.Trap.TheVariants.{Range}
use Rattle.frame_ast.specs.declared.kernel.Param.{Param}
use Rattle.frame_ast.specs.declared.kernel.Kernel.{Kernel}
use Rattle.frame_ast.specs.Checked.{IsChecked}
use Rattle.frame_ast.specs.Contents.{Contents, Cells, with_single, then_value, add_item, swap_back, has_key, add_key, item_at, cleared}
use Rattle.frame_ast.specs.Expressions.{Operations}
use Rattle.frame_ast.specs.Arguments.{if_owned, argument, arguments, changed, width_of, value_in, length_of, get_in, put_in, on_items, pairs_of, on_pairs, without, items_in, begin_in, write_place}
use Rattle.frame_ast.specs.Kernels.{Goes, fresh, execution, store_after, trap_after}
use Rattle.frame_ast.specs.JobRuns.{full_steps, deferred_steps}
use Rattle.frame_ast.specs.Simulation.{AlikeResults, Simulates, AlikeEnds}
use Rattle.frame_ast.proofs.Simulation.{execution_alike}
use Rattle.job_defer.specs.Guarded.{IsGuarded, GuardsContents, DoesNothing, WithLength}
use Rattle.job_defer.proofs.Runs.{one_step_more, runs_below, stays_above}
use Rattle.job_defer.proofs.Unseen.{execution_same}
use Rattle.job_defer.proofs.Restricted.{restricted, agrees, same_if, related_if, alike_if}

set_left : {A : Type 0} (xs : List A) (y z : A) (i : ℕ) → i < length xs → set (xs ++ y ∷ []) i z ≡ set xs i z ++ y ∷ []
set_left [] y z i lt = absurd (omega arith)
set_left (x ∷ xs) y z zero lt = refl
set_left (x ∷ xs) y z (suc i) lt = ap (λ ys. x ∷ ys) (set_left xs y z i (omega arith))

-- nothing is asked of begun indexes
abbrev AnyIndex : ℕ → ℤ → Type 0
AnyIndex x i = Unit {0}

module _ (widths : List ℕ) (index n : ℕ) (count : length widths ≡ n) (c : Contents) where
  -- the arguments with one more, and without
  abbrev R : List Contents → List Contents → Type 0
  R s t = (s ≡ t ++ c ∷ []) × (length t ≡ n)

  abbrev p : Operations (List Contents)
  p = arguments (widths ++ 0 ∷ []) index

  abbrev q : Operations (List Contents)
  q = arguments widths index

  width : (x : ℕ) → x < n → width_of (widths ++ 0 ∷ []) x ≡ width_of widths x
  width x lt = get_or_append_left widths (0 ∷ []) 0 x (omega arith)

  arg : (x : ℕ) (s t : List Contents) → R s t → x < n → argument s x ≡ argument t x
  arg x s t r lt = ap (λ u. argument u x) r.0 ∙ get_or_append_left t (c ∷ []) (Cells []) x (let l = r.1 in omega arith)

  set_both : (x : ℕ) (s t : List Contents) (v w : Contents) → R s t → x < n → v ≡ w → R (set s x v) (set t x w)
  set_both x s t v w r lt e = (
    ap (λ u. set u x v) r.0 ∙ ap (λ u. set (t ++ c ∷ []) x u) e ∙ set_left t c w x (let l = r.1 in omega arith),
    length-set t x w ∙ r.1,
  )

  changed_both : (x : ℕ) (s t : List Contents) (v w : Result Contents Trap) → R s t → x < n → v ≡ w
      → AlikeResults R (changed s x v) (changed t x w)
  changed_both x s t v w r lt e = subst (λ u. AlikeResults R (changed s x u) (changed t x w)) (sym e) (go w)
    where
      go : (w : Result Contents Trap) → AlikeResults R (changed s x w) (changed t x w)
      go (Ok a) = set_both x s t a a r lt refl
      go (Err u) = refl

  abbrev on : {A : Type 0} (f : ℕ → Contents → A) (x : ℕ) (s t : List Contents) → R s t → x < n
      → f (width_of (widths ++ 0 ∷ []) x) (argument s x) ≡ f (width_of widths x) (argument t x)
  on f x s t r lt = λ i. f (width x lt i) (arg x s t r lt i)

  sim : (params : List Param) → Simulates R params AnyIndex (restricted n p) (restricted n q)
  sim params = record {
    value = λ x s t r. same_if x n _ _ _ (λ lt. on (λ w a. value_in a) x s t r lt);
    len = λ x s t r. same_if x n _ _ _ (λ lt. on (λ w a. length_of a) x s t r lt);
    get = λ x j s t r. same_if x n _ _ _ (λ lt. on (λ w a. get_in w index j a) x s t r lt);
    has = λ x k s t r. same_if x n _ _ _ (λ lt. on (λ w a. has_key (pairs_of a) k) x s t r lt);
    count = λ x j s t m r. same_if x n _ _ _
        (λ lt. on (λ w a. then_value (items_in j a) (λ xs. Ok (length xs))) x s t r lt);
    item = λ x j k s t m r. same_if x n _ _ _
        (λ lt. on (λ w a. then_value (items_in j a) (λ xs. item_at xs k)) x s t r lt);
    set_value = λ x v s t m r. related_if x n R _ s _ t
        (λ lt. set_both x s t _ _ r lt (on (λ w a. with_single v a) x s t r lt)) r;
    put = λ x j v s t m r. alike_if x n R _ _
        (λ lt. changed_both x s t _ _ r lt (on (λ w a. put_in w index j v a) x s t r lt));
    add = λ x v s t m r. alike_if x n R _ _
        (λ lt. changed_both x s t _ _ r lt (on (λ w a. on_items (λ cap xs. add_item cap xs v) a) x s t r lt));
    remove_at = λ x j s t m r. alike_if x n R _ _
        (λ lt. changed_both x s t _ _ r lt (on (λ w a. on_items (λ cap xs. swap_back xs j) a) x s t r lt));
    add_pair = λ x k v s t m r. alike_if x n R _ _
        (λ lt. changed_both x s t _ _ r lt (on (λ w a. on_pairs (λ cap ps. add_key cap ps k v) a) x s t r lt));
    remove_key = λ x k s t m r. related_if x n R _ s _ t
        (λ lt. set_both x s t _ _ r lt (on (λ w a. without k a) x s t r lt)) r;
    clear = λ x s t m r. related_if x n R _ s _ t (λ lt. set_both x s t _ _ r lt (on (λ w a. cleared a) x s t r lt)) r;
    begin = λ x j s t m r. alike_if x n R _ _
        (λ lt. changed_both x s t _ _ r lt (on (λ w a. begin_in w index j a) x s t r lt));
    begun = λ x j s new e. tt;
    write = λ x j v s t m any r. alike_if x n R _ _
        (λ lt. changed_both x s t _ _ r lt (on (λ w a. write_place j a v) x s t r lt));
  }

module _ (old new : Kernel) (C : IsChecked old) (G : IsGuarded old new) (widths : List ℕ) (index : ℕ)
    (args : List Contents) (z : ℤ) (xs : List ℤ)
    (count : length widths ≡ length old.params.items) (given : length args ≡ length old.params.items) where
  abbrev n : ℕ
  n = length old.params.items

  abbrev last : Contents
  last = Cells (z ∷ xs)

  abbrev all : Operations (List Contents)
  all = arguments (widths ++ 0 ∷ []) index

  abbrev few : Operations (List Contents)
  few = arguments widths index

  first : get_in 0 index (pos 0) last ≡ Ok z
  first = ap (λ b. if_owned 0 index (pos 0)
      (then_value (if b then Ok 0 else Err Range) (λ k. Ok (get_or (z ∷ xs) k (pos 0)))))
      (lt-ltb 0 (length (z ∷ xs)) (omega arith))

  got : get_in (width_of (widths ++ 0 ∷ []) n) index (pos 0) (argument (args ++ last ∷ []) n) ≡ Ok z
  got = ap (λ w. get_in w index (pos 0) (argument (args ++ last ∷ []) n))
      (ap (λ k. width_of (widths ++ 0 ∷ []) k) (sym count) ∙ get_or-append_seam widths 0 [] 0)
      ∙ ap (λ a. get_in 0 index (pos 0) a)
      (ap (λ k. argument (args ++ last ∷ []) k) (sym given) ∙ get_or-append_seam args last [] (Cells []))
      ∙ first

  same_all : execution (restricted n all) old.body.statements.items deferred_steps index (args ++ last ∷ [])
      ≡ execution all old.body.statements.items deferred_steps index (args ++ last ∷ [])
  same_all = execution_same (restricted n all) all old.params.items
      (agrees n all) old.parallel old.locals index old.body.statements.items C.fits deferred_steps (args ++ last ∷ [])

  same_few : execution (restricted n few) old.body.statements.items deferred_steps index args
      ≡ execution few old.body.statements.items deferred_steps index args
  same_few = execution_same (restricted n few) few old.params.items
      (agrees n few) old.parallel old.locals index old.body.statements.items C.fits deferred_steps args

  alike : AlikeEnds (WithLength (z ∷ xs))
      (execution all old.body.statements.items deferred_steps index (args ++ last ∷ []))
      (execution few old.body.statements.items deferred_steps index args)
  alike =
      let e = execution_alike (R widths index n count last) old C AnyIndex (restricted n all) (restricted n few)
      (sim widths index n count last old.params.items) deferred_steps index
      (args ++ last ∷ []) args (refl, given) in
      record {
        trap = sym (ap trap_after same_all) ∙ e.trap ∙ ap trap_after same_few;
        store = sym (ap store_after same_all) ∙ e.store.0 ∙ ap (λ o. store_after o ++ last ∷ []) same_few;
      }

  pub below : int_lt (pos index) z ≡ true
      → AlikeEnds (WithLength (z ∷ xs)) (execution all new.body.statements.items full_steps index (args ++ last ∷ []))
      (execution few old.body.statements.items deferred_steps index args)
  below less =
      let e : execution all new.body.statements.items full_steps index (args ++ last ∷ [])
      ≡ execution all old.body.statements.items deferred_steps index (args ++ last ∷ []) =
      ap (λ m. execution all new.body.statements.items m index (args ++ last ∷ [])) one_step_more
      ∙ runs_below all index n old.body.statements.items new.body.statements.items G.body deferred_steps
      (args ++ last ∷ []) z got less in
      record { trap = ap trap_after e ∙ alike.trap; store = ap store_after e ∙ alike.store }

  pub above : int_lt (pos index) z ≡ false
      → DoesNothing (args ++ last ∷ []) (execution all new.body.statements.items full_steps index (args ++ last ∷ []))
  unfolding fresh
  above past =
      let e : execution all new.body.statements.items full_steps index (args ++ last ∷ [])
      ≡ Goes (fresh deferred_steps (args ++ last ∷ [])) =
      ap (λ m. execution all new.body.statements.items m index (args ++ last ∷ [])) one_step_more
      ∙ stays_above all index n old.body.statements.items new.body.statements.items G.body deferred_steps
      (args ++ last ∷ []) z got past in
      record { trap = ap trap_after e; store = ap store_after e }

pub guards_contents : (old new : Kernel) → IsChecked old → IsGuarded old new → GuardsContents old new
guards_contents old new C G = record {
  below = λ widths index args z xs count given less. below old new C G widths index args z xs count given less;
  above = λ widths index args z xs count given past. above old new C G widths index args z xs count given past;
}
