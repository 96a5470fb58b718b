-- Two runs at an index, from cells that agree on what it reads, go on alike, and change what it writes alone.
use Rattle.std.proofs.Common.{◌≡◌, ◌≢◌, ◌∙◌, ℕ, ◌+◌, ◌<◌, ◌^◌, ℤ, pos, negsuc, Bool, true, false, IsTrue, List, Some, Result, Ok, Err, refl, sym, ap, subst, arith}
use Rattle.std.specs.Prelude.{slice_get, if◌then◌else◌}
use Rattle.std.proofs.lemmas.Bool.Decides.{nat_tests}
use Rattle.job_base.specs.declared.Trap.{Trap}
use Rattle.job_base.specs.declared.Trap.TheVariants.{OwnIndex}
use Rattle.frame_ast.specs.declared.kernel.Param.{Param}
use Rattle.frame_ast.specs.declared.kernel.Kernel.{Kernel}
use Rattle.frame_ast.specs.declared.kernel.ParamKind.TheVariants.{Stream as StreamKind}
use Rattle.frame_ast.specs.Contents.{then_value, place_in}
use Rattle.frame_ast.specs.Arguments.{owns}
use Rattle.frame_ast.specs.Checked.{param_meets, meets, read_stream, clearable, may_write, IsChecked}
use Rattle.frame_ast.specs.Kernels.{trap_after, store_after}
use Rattle.frame_ast.specs.Simulation.{AlikeResults, Simulates}
use Rattle.frame_ast.proofs.Demands.{param_met, written}
use Rattle.frame_ast.proofs.Simulation.{execution_alike}
use Rattle.native_stream.specs.Words.{begin_words}
use Rattle.native_stream.proofs.Places.{in_place}
use Rattle.kernel_exec.specs.declared.binds.Bind.{Bind}
use Rattle.kernel_exec.specs.declared.binds.Bind.TheVariants.{Int, Array, View, List as WholeList, Ref, Map, Stream}
use Rattle.kernel_exec.specs.Binds.{kind_of, end_of, IsWordOf, width_if, bind_at}
use Rattle.kernel_exec.specs.Footprint.{IsRead, IsWritten}
use Rattle.kernel_exec.specs.Conditions.{BindsFit, IsBegun}
use Rattle.kernel_exec.specs.Words.{after_call, words, begin_word}
use Rattle.kernel_exec.specs.Laws.{AgreeOn, StayAlike, at_index}
use Rattle.kernel_exec.proofs.Stand.{written_bind}
use Rattle.kernel_exec.proofs.Rights.{owned_place, not_stream, read_word, stream_word, written_word}
use Rattle.kernel_exec.proofs.Using.{AgreeAt, Moved}
use Rattle.kernel_exec.proofs.Touching as t

-- a place is the number that it is the place of
place_is : (n k : ℕ) (i : ℤ) → place_in n i ≡ Ok k → i ≡ pos k
place_is n k (pos i) e = let same : i ≡ k = grind (arith, nat_tests, e) in ap pos same
place_is n k (negsuc i) e = cc

-- `begin` goes on at an index that the job's index owns
begun_is : (b : Bind) (index : ℕ) (i : ℤ) (cells new : ℕ → ℤ) → begin_word index i b cells ≡ Ok new → IsBegun b index i
begun_is (Int z) index i cells new e = tt
begun_is (Array at own) index i cells new e = tt
begun_is (View at own) index i cells new e = tt
begun_is (WholeList at) index i cells new e = tt
begun_is (Ref at) index i cells new e = tt
begun_is (Map at) index i cells new e = tt
begun_is (Stream at own) index i cells new e = by (place_in at.count i) refl (owns (width_if own) index i) refl e
  where
    by : (p : Result ℕ Trap) → place_in at.count i ≡ p → (o : Bool) → owns (width_if own) index i ≡ o
        → then_value (then_value p (λ k. if o then Ok k else Err OwnIndex)) (λ k. after_call (begin_words at cells i)) ≡ Ok new
        → IsBegun (Stream at own) index i
    by (Ok k) e true f q = (k, place_is at.count k i e, in_place at.count k i e, owned_place at.count (width_if own) index k i e f)
    by (Ok k) e false f q = cc
    by (Err t) e o f q = cc

-- The cells of two runs at an index, which began at a and at b: they are alike where a and b were, and differ from them where the index writes.
pub record Alike (kernel : Kernel) (binds : List Bind) (index : ℕ) (a b c d : ℕ → ℤ) : Type 0 where
  pub same : StayAlike a b c d
  pub left : (w : ℕ) → (IsWritten kernel.params.items binds index (index + 1) w → ⊥) → c w ≡ a w
  pub right : (w : ℕ) → (IsWritten kernel.params.items binds index (index + 1) w → ⊥) → d w ≡ b w

module _ (kernel : Kernel) (binds : List Bind) (index : ℕ) (checked : IsChecked kernel) (fit : BindsFit kernel binds) where
  abbrev params : List Param
  params = kernel.params.items

  fits_words : (x : ℕ) → IsTrue (may_write params x) → end_of (bind_at binds x) < 2 ^ 32
  fits_words x may = fit.ends x (bind_at binds x) (written_bind kernel binds fit x may)

  -- what is cleared is no stream
  cleared : (x : ℕ) → IsTrue (meets params x clearable) → kind_of (bind_at binds x) ≢ StreamKind
  cleared x h e =
      let p = param_met clearable (slice_get params x) h in
      let kind = fit.kinds x p.0 (bind_at binds x) p.1 (written_bind kernel binds fit x (written params x clearable refl h)) in
      let met : IsTrue (param_meets clearable (Some p.0)) = subst (λ o. IsTrue (param_meets clearable o)) p.1 h in
      not_stream p.0.kind p.0.access met (sym kind ∙ e)

  -- ---- what each operation keeps

  module _ (a b : ℕ → ℤ) (alike : AgreeOn (IsRead params binds index (index + 1)) a b) where
    abbrev R : (ℕ → ℤ) → (ℕ → ℤ) → Type 0
    R c d = Alike kernel binds index a b c d

    agree : (x : ℕ) (c d : ℕ → ℤ) → R c d → AgreeAt index (bind_at binds x) c d
    agree x c d r w u = r.same w (alike w (read_word kernel binds index checked fit x w u))

    whole : (x : ℕ) (c d : ℕ → ℤ) → IsTrue (meets params x read_stream) → R c d → (w : ℕ) → IsWordOf (bind_at binds x) w → d w ≡ c w
    whole x c d h r w i = r.same w (alike w (stream_word kernel binds index checked fit x w h i))

    moves : (x : ℕ) (c d new new' : ℕ → ℤ) → IsTrue (may_write params x) → R c d → Moved index (bind_at binds x) c d new new' → R new new'
    moves x c d new new' may r m = record {
      same = λ w e. m.same w (r.same w e);
      left = λ w out. m.left w (λ u. out (written_word kernel binds index checked fit x w may u)) ∙ r.left w out;
      right = λ w out. m.right w (λ u. out (written_word kernel binds index checked fit x w may u)) ∙ r.right w out;
    }

    goes : (x : ℕ) (c d : ℕ → ℤ) (p q : Result (ℕ → ℤ) Trap) → IsTrue (may_write params x) → R c d → AlikeResults (Moved index (bind_at binds x) c d) p q
        → AlikeResults R p q
    goes x c d (Ok new) (Ok new') may r m = moves x c d new new' may r m
    goes x c d (Ok new) (Err u) may r m = absurd m
    goes x c d (Err t) (Ok new') may r m = absurd m
    goes x c d (Err t) (Err u) may r m = m

    words_alike : Simulates R params (λ x i. IsBegun (bind_at binds x) index i) (words binds index) (words binds index)
    words_alike = record {
      value = λ x c d r. t.value_same index c d (bind_at binds x) (agree x c d r);
      len = λ x c d r. t.length_same index c d (bind_at binds x) (agree x c d r);
      get = λ x i c d r. t.get_same index c d (bind_at binds x) i (agree x c d r);
      has = λ x k c d r. t.has_same index c d (bind_at binds x) k (agree x c d r);
      count = λ x i c d h r. t.count_same index c d (bind_at binds x) i (whole x c d h r);
      item = λ x i k c d h r. t.item_same index c d (bind_at binds x) i k (whole x c d h r);
      set_value = λ x v c d may r. moves x c d _ _ may r (t.set_value_moved index c d (bind_at binds x) v);
      put = λ x i v c d may r. goes x c d _ _ may r (t.put_moved index c d (bind_at binds x) i v (fits_words x may) (agree x c d r));
      add = λ x v c d may r. goes x c d _ _ may r (t.add_moved index c d (bind_at binds x) v (agree x c d r));
      remove_at = λ x i c d may r. goes x c d _ _ may r (t.remove_at_moved index c d (bind_at binds x) i (agree x c d r));
      add_pair = λ x k v c d may r. goes x c d _ _ may r (t.add_pair_moved index c d (bind_at binds x) k v (fits_words x may) (agree x c d r));
      remove_key = λ x k c d may r. moves x c d _ _ may r (t.remove_key_moved index c d (bind_at binds x) k (fits_words x may) (agree x c d r));
      clear = λ x c d h r. moves x c d _ _ (written params x clearable refl h) r (t.clear_moved index c d (bind_at binds x) (cleared x h) (agree x c d r));
      begin = λ x i c d may r. goes x c d _ _ may r (t.begin_moved index c d (bind_at binds x) i (agree x c d r));
      begun = λ x i c new e. begun_is (bind_at binds x) index i c new e;
      write = λ x i v c d may begun r. goes x c d _ _ may r (t.write_moved index c d (bind_at binds x) i v begun (agree x c d r));
    }

    pub alike_ends : (steps : ℕ) → (trap_after (at_index kernel binds steps index a) ≡ trap_after (at_index kernel binds steps index b))
        × Alike kernel binds index a b (store_after (at_index kernel binds steps index a)) (store_after (at_index kernel binds steps index b))
    alike_ends steps =
        let ends = execution_alike R kernel checked (λ x i. IsBegun (bind_at binds x) index i) (words binds index)
        (words binds index) words_alike steps index a b (record { same = λ w e. e; left = λ w out. refl; right = λ w out. refl }) in
        (ends.trap, ends.store)
