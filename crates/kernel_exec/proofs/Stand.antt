-- Words stand for contents before and after each operation.
use Rattle.std.proofs.Common.{◌≡◌, ◌≢◌, ◌∙◌, ℕ, zero, suc, ◌<◌, ◌^◌, Bool, true, false, IsTrue, ℤ, List, [], ◌∷◌, length, set, Option, Some, None, Result, Ok, Err, refl, sym, ap, subst, arith, length-set, slice_get, ⊎_elim, inl, inr, ◌⊎◌, get_or-set_other}
use Rattle.std.specs.Prelude.{not}
use Rattle.std.specs.List.{list_all}
use Rattle.std.proofs.lemmas.Bool.{cases_lt}
use Rattle.std.proofs.lemmas.Grind.{get_or-set_at}
use Rattle.std.proofs.lemmas.Option.{slice_get_within}
use Rattle.job_base.specs.declared.Trap.{Trap}
use Rattle.frame_ast.specs.declared.kernel.Param.{Param}
use Rattle.frame_ast.specs.declared.kernel.Kernel.{Kernel}
use Rattle.frame_ast.specs.declared.kernel.ParamKind.TheVariants.{Int as IntKind}
use Rattle.frame_ast.specs.Contents.{Contents, Cells, Items}
use Rattle.frame_ast.specs.Arguments.{argument, changed, arguments, get_in, put_in, begin_in}
use Rattle.frame_ast.specs.Checked.{clearable, is_read, kind_fits, param_fits, may_write, written_param, IsChecked}
use Rattle.frame_ast.specs.Simulation.{AlikeResults, Simulates}
use Rattle.frame_ast.proofs.Demands.{written}
use Rattle.frame_ast.proofs.Simulation.{and_left, and_right}
use Rattle.native_array.proofs.Standing.{own_words_decide as array_decides}
use Rattle.native_list.proofs.OwnWords.{own_words_decide as list_decides}
use Rattle.native_map.proofs.Standing.{still_stands}
use Rattle.native_stream.proofs.Standing.{own_words_decide as stream_decides}
use Rattle.kernel_exec.specs.declared.binds.Bind.{Bind}
use Rattle.kernel_exec.specs.declared.binds.Bind.TheVariants.{Int, Array, View, List as WholeList, Ref, Map, Stream}
use Rattle.kernel_exec.specs.Binds.{end_of, IsWordOf, widths, bind_at, kind_of}
use Rattle.kernel_exec.specs.Layout.{StandFor, Holds}
use Rattle.kernel_exec.specs.Words.{words, put_word, begin_word}
use Rattle.kernel_exec.specs.Conditions.{BindsFit}
use Rattle.kernel_exec.proofs.AtBinds.{bind_is, bind_here, width_is, holds_at}
use Rattle.kernel_exec.proofs.Reading.{value_same, length_same, get_same, has_same, count_same, item_same}
use Rattle.kernel_exec.proofs.Changing.{Becomes, Goes, set_value_goes, put_goes, add_goes, remove_at_goes, add_pair_goes, remove_key_goes, clear_goes, begin_goes, write_goes}

pub same_or : (x y : ℕ) → (x ≡ y) ⊎ (x ≢ y)
same_or x y =
    ⊎_elim
    (λ lt. inr (λ e. omega arith))
    (λ le. ⊎_elim (λ lt. inr (λ e. omega arith)) (λ ge. inl (omega arith)) (cases_lt y x))
    (cases_lt x y)

-- what a bind's words stand for rests on them alone
pub still : (b : Bind) (old new : ℕ → ℤ) (c : Contents) → Holds old b c → ((w : ℕ) → IsWordOf b w → new w ≡ old w) → Holds new b c
still (Int z) old new c h same = h
still (Array at own) old new c h same = array_decides.array at old new c (λ w lo hi. same w (record { from = lo; below = hi })) h
still (View at own) old new c h same =
    let q = (list_decides.same at old new _ (λ w lo hi. same w (record { from = lo; below = hi })) (h.0, refl, h.2)) in
    (q.0, h.1 ∙ items h.0 q.0 q.1, q.2)
  where
    items : (xs ys : List ℤ) → Items at.cap xs ≡ Items at.cap ys → Cells xs ≡ Cells ys
    items xs ys e = cc
still (WholeList at) old new c h same = list_decides.same at old new c (λ w lo hi. same w (record { from = lo; below = hi })) h
still (Ref at) old new c h same = array_decides.reference at old new c (λ w lo hi. same w (record { from = lo; below = hi })) h
still (Map at) old new c h same = still_stands at old new (λ w lo hi. same w (record { from = lo; below = hi })) c h
still (Stream at own) old new c h same = stream_decides.same at old new c (λ w lo hi. same w (record { from = lo; below = hi })) h

-- the parameter that may be written has a bind
pub param_of : (o : Option Param) → IsTrue (written_param o) → (p : Param) × (o ≡ Some p) × (is_read p.access ≡ false)
param_of None h = cc
param_of (Some p) h = (p, refl, reads (is_read p.access) h)
  where
    reads : (b : Bool) → IsTrue (not b) → b ≡ false
    reads true h = cc
    reads false h = refl

pub each_of : (f : Param → Bool) (ps : List Param) (x : ℕ) (p : Param) → IsTrue (list_all f ps) → slice_get ps x ≡ Some p → IsTrue (f p)
each_of f [] x p h e = cc
each_of f (q ∷ ps) zero p h e = let same : q ≡ p = cc in subst (λ r. IsTrue (f r)) same (and_left _ _ h)
each_of f (q ∷ ps) (suc x) p h e = each_of f ps x p (and_right (f q) _ h) e

int_reads : (p : Param) → p.kind ≡ IntKind → IsTrue (param_fits p) → is_read p.access ≡ false → ⊥
int_reads p k h not_read = let e : is_read p.access ≡ true = subst (λ k. IsTrue (kind_fits p k)) k (and_left (kind_fits p p.kind) _ h) in cc

pub written_bind : (kernel : Kernel) (binds : List Bind) → BindsFit kernel binds → (x : ℕ) → IsTrue (may_write kernel.params.items x)
    → slice_get binds x ≡ Some (bind_at binds x)
written_bind kernel binds fit x h =
    let p = param_of (slice_get kernel.params.items x) h in
    let w = slice_get_within kernel.params.items x p.0 p.1 in
    let n = fit.count in
    bind_here binds x (omega arith)

-- nothing is asked of a begun index
abbrev pub AnyIndex : ℕ → ℤ → Type 0
AnyIndex x i = Unit {0}

module _ (kernel : Kernel) (binds : List Bind) (is : IsChecked kernel) (fit : BindsFit kernel binds) where
  abbrev may : ℕ → Bool
  may = may_write kernel.params.items

  here : (x : ℕ) → IsTrue (may x) → slice_get binds x ≡ Some (bind_at binds x)
  here x h = written_bind kernel binds fit x h

  fits : (x : ℕ) → IsTrue (may x) → end_of (bind_at binds x) < 2 ^ 32
  fits x h = fit.ends x (bind_at binds x) (here x h)

  -- the new contents stand for the new cells, beside those of the other parameters
  stands : (x : ℕ) (old new : ℕ → ℤ) (s : List Contents) (c : Contents) → IsTrue (may x) → StandFor binds old s → Becomes (bind_at binds x) old new c
      → StandFor binds new (set s x c)
  stands x old new s c h r to = record {
    count = simp length-set r.count;
    each = λ y b e. holds y b e (same_or y x);
  }
    where
      inside : x < length s
      inside = let n = r.count in let w = slice_get_within binds x (bind_at binds x) (here x h) in omega arith

      holds : (y : ℕ) (b : Bind) → slice_get binds y ≡ Some b → (y ≡ x) ⊎ (y ≢ x) → Holds new b (argument (set s x c) y)
      holds y b e (inl q) =
          let same : bind_at binds x ≡ b = bind_is binds x b (ap (slice_get binds) (sym q) ∙ e) in
          subst (λ t. Holds new b t) (sym (get_or-set_at s x y c (Cells []) q inside)) (subst (λ t. Holds new t c) same to.holds)
      holds y b e (inr q) =
          subst (λ t. Holds new b t) (sym (get_or-set_other s x y c (Cells []) q))
          (still b old new (argument s y) (r.each y b e) (λ w in_b. to.stays w
          (λ in_a no. fit.apart x y (bind_at binds x) b w h (λ z. q (sym z)) (here x h) e in_a no in_b)))

  goes : (x : ℕ) (old : ℕ → ℤ) (s : List Contents) (r : Result (ℕ → ℤ) Trap) (op : Result Contents Trap) → IsTrue (may x) → StandFor binds old s
      → Goes (bind_at binds x) old r op → AlikeResults (StandFor binds) r (changed s x op)
  goes x old s (Ok new) (Ok c) h r g = stands x old new s c h r g
  goes x old s (Ok new) (Err u) h r g = absurd g
  goes x old s (Err t) (Ok c) h r g = absurd g
  goes x old s (Err t) (Err u) h r g = g

  -- an `int` can't be written
  not_int : (x : ℕ) → IsTrue (may x) → (z : ℤ) → bind_at binds x ≢ Int z
  not_int x h z e =
      let p = param_of (slice_get kernel.params.items x) h in
      let kind : IntKind ≡ p.0.kind = ap kind_of (sym e) ∙ fit.kinds x p.0 (bind_at binds x) p.1 (here x h) in
      int_reads p.0 (sym kind) (each_of param_fits kernel.params.items x p.0 is.params p.1) p.2

  pub words_stand : (index : ℕ) → Simulates (StandFor binds) kernel.params.items AnyIndex (words binds index) (arguments (widths binds) index)
  words_stand index = record {
    value = λ x c s r. value_same c (bind_at binds x) (argument s x) (holds_at binds c s x r);
    len = λ x c s r. length_same c (bind_at binds x) (argument s x) (holds_at binds c s x r);
    get = λ x i c s r. get_same c (bind_at binds x) (argument s x) index i (holds_at binds c s x r)
        ∙ ap (λ w. get_in w index i (argument s x)) (sym (width_is binds x));
    has = λ x k c s r. has_same c (bind_at binds x) (argument s x) k (holds_at binds c s x r);
    count = λ x i c s read r. count_same c (bind_at binds x) (argument s x) i (holds_at binds c s x r);
    item = λ x i k c s read r. item_same c (bind_at binds x) (argument s x) i k (holds_at binds c s x r);
    set_value = λ x v c s h r. stands x c _ s _ h r (set_value_goes c (bind_at binds x) (argument s x) v (not_int x h) (holds_at binds c s x r));
    put = λ x i v c s h r. goes x c s _ _ h r (subst (λ w. Goes (bind_at binds x) c (put_word index i v (bind_at binds x) c)
        (put_in w index i v (argument s x))) (sym (width_is binds x)) (put_goes c (bind_at binds x) (argument s x) index i v (fits x h)
        (holds_at binds c s x r)));
    add = λ x v c s h r. goes x c s _ _ h r (add_goes c (bind_at binds x) (argument s x) v (holds_at binds c s x r));
    remove_at = λ x i c s h r. goes x c s _ _ h r (remove_at_goes c (bind_at binds x) (argument s x) i (holds_at binds c s x r));
    add_pair = λ x k v c s h r. goes x c s _ _ h r (add_pair_goes c (bind_at binds x) (argument s x) k v (fits x h) (holds_at binds c s x r));
    remove_key = λ x k c s h r. stands x c _ s _ h r (remove_key_goes c (bind_at binds x) (argument s x) k (fits x h) (holds_at binds c s x r));
    clear = λ x c s h r. stands x c _ s _ (written kernel.params.items x clearable refl h) r
        (clear_goes c (bind_at binds x) (argument s x) (holds_at binds c s x r));
    begin = λ x i c s h r. goes x c s _ _ h r (subst (λ w. Goes (bind_at binds x) c (begin_word index i (bind_at binds x) c)
        (begin_in w index i (argument s x))) (sym (width_is binds x)) (begin_goes c (bind_at binds x) (argument s x) index i (holds_at binds c s x r)));
    begun = λ x i c new e. tt;
    write = λ x i v c s h begun r. goes x c s _ _ h r (write_goes c (bind_at binds x) (argument s x) i v (holds_at binds c s x r));
  }
