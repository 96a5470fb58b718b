-- Which words a call on an argument may use.
use Rattle.std.proofs.Common.{◌≡◌, ◌∙◌, ◌≢◌, ℕ, zero, suc, ◌+◌, ◌*◌, ◌≤◌, ◌<◌, ◌^◌, nat_le, nat_lt, Bool, true, false, IsTrue, ℤ, pos, negsuc, ◌⊎◌, inl, inr, List, [], ◌∷◌, length, Option, Some, None, Ok, slice_get, refl, sym, ap, subst, arith}
use Rattle.std.specs.Prelude.{not, nat_abs}
use Rattle.std.proofs.lemmas.Bool.Decides.{nat_tests}
use Rattle.std.proofs.lemmas.Option.{slice_get_within}
use Rattle.job_base.specs.declared.Access.{Access}
use Rattle.job_base.specs.declared.Access.TheVariants.{Read, Write as WriteOnly, Both}
use Rattle.frame_ast.specs.declared.kernel.ParamKind.{ParamKind}
use Rattle.frame_ast.specs.declared.kernel.ParamKind.TheVariants.{Int as IntKind, Array as ArrayKind, List as ListKind, Ref as RefKind, Map as MapKind, Stream as StreamKind}
use Rattle.frame_ast.specs.declared.kernel.Param.{Param}
use Rattle.frame_ast.specs.declared.kernel.Kernel.{Kernel}
use Rattle.frame_ast.specs.Contents.{place_in}
use Rattle.frame_ast.specs.Arguments.{owns}
use Rattle.frame_ast.specs.Checked.{touch_meets, param_meets, meets, read_stream, clearable, is_read, is_both, kind_fits, param_fits, may_write, IsChecked}
use Rattle.frame_ast.proofs.Demands.{param_met}
use Rattle.frame_ast.proofs.Simulation.{and_left, and_right}
use Rattle.native_array.specs.declared.array.ArrayAt.{ArrayAt}
use Rattle.native_list.specs.declared.ListAt.{ListAt}
use Rattle.native_list.specs.Words.{len_words}
use Rattle.native_list.specs.Conditions.{MayAdd, MayRemove}
use Rattle.native_list.proofs.Standing.{length_within}
use Rattle.native_stream.specs.declared.StreamAt.{StreamAt}
use Rattle.native_stream.specs.Layout.{mark_word, index_end}
use Rattle.native_stream.proofs.Places.{in_place, row_before}
use Rattle.kernel_exec.specs.declared.binds.Bind.{Bind}
use Rattle.kernel_exec.specs.declared.binds.Bind.TheVariants.{Int, Array, View, List as WholeList, Ref, Map, Stream}
use Rattle.kernel_exec.specs.Binds.{end_of, IsWordOf, width_if, no_bind, bind_at}
use Rattle.kernel_exec.specs.Footprint.{Own, Uses, IsLength, ReadsBy, WritesBy, IsRead, IsWritten}
use Rattle.kernel_exec.specs.Conditions.{BindsFit, IsCall, IsBegun}
use Rattle.kernel_exec.proofs.AtBinds.{bind_is, bind_none, bind_here}
use Rattle.kernel_exec.proofs.Stand.{each_of, param_of, written_bind}

-- a place that an index owns is one that the indexes up to it own
own_place : (width index k : ℕ) → IsTrue (owns width index (pos k)) → Own width index (index + 1) k
own_place zero index k h = tt
own_place (suc n) index k h =
    let lo : IsTrue (nat_le (index * suc n) k) = and_left _ _ h in
    let hi : IsTrue (nat_lt k (index * suc n + suc n)) = and_right (nat_le (index * suc n) k) _ h in
    (grind (arith, nat_tests, lo), grind (arith, nat_tests, hi))

pub owned_place : (n width index k : ℕ) (i : ℤ) → place_in n i ≡ Ok k → IsTrue (owns width index i) → Own width index (index + 1) k
owned_place n width index k (pos i) e h = let same : i ≡ k = grind (arith, nat_tests, e) in
    own_place width index k (subst (λ j. IsTrue (owns width index (pos j))) same h)
owned_place n width index k (negsuc i) e h = cc

pub in_stream : (at : StreamAt) (k w : ℕ) → k < at.count → mark_word at k ≤ w → w < index_end at k → IsWordOf (Stream at true) w
in_stream at k w h lo hi =
    let row = row_before k at.count (at.room + 1) h in
    record { from = omega arith; below = omega arith }

-- what is used of a bind are words of it
pub uses_word : (b : Bind) (from to w : ℕ) → Uses b from to w → IsWordOf b w
uses_word (Int z) from to w u = absurd u
uses_word (Array at own) from to w u = let e = u.is in let h = u.within in record { from = omega arith; below = omega arith }
uses_word (View at own) from to w u = let e = u.is in let h = u.within in record { from = omega arith; below = omega arith }
uses_word (WholeList at) from to w u = u
uses_word (Ref at) from to w u = u
uses_word (Map at) from to w u = u
uses_word (Stream at own) from to w u = let h = in_stream at u.index w u.within u.start u.end in record { from = h.from; below = h.below }

length_word_of : (b : Bind) (w : ℕ) → IsLength b w → IsWordOf b w
length_word_of (Int z) w u = absurd u
length_word_of (Array at own) w u = absurd u
length_word_of (View at own) w u = record { from = omega (arith, u); below = omega (arith, u) }
length_word_of (WholeList at) w u = absurd u
length_word_of (Ref at) w u = absurd u
length_word_of (Map at) w u = absurd u
length_word_of (Stream at own) w u = absurd u

-- the words of places of an array, of a view and of a list
pub array_element : (at : ArrayAt) (width index k : ℕ) (i : ℤ) → place_in at.len i ≡ Ok k → IsTrue (owns width index i)
    → Uses (Array at width) index (index + 1) (at.start + k)
array_element at width index k i e own = record { place = k; is = refl; within = in_place at.len k i e; owned = owned_place at.len width index k i e own }

pub view_element : (at : ListAt) (array : ArrayAt) (width index k : ℕ) (i : ℤ) → array.start ≡ at.start + 1 → array.len ≤ at.cap → place_in array.len i ≡ Ok k
    → IsTrue (owns width index i) → Uses (View at width) index (index + 1) (array.start + k)
view_element at array width index k i start within e own =
    let below : k < array.len = in_place array.len k i e in
    record { place = k; is = omega arith; within = omega arith; owned = owned_place array.len width index k i e own }

pub list_element : (at : ListAt) (cells : ℕ → ℤ) (k : ℕ) (i : ℤ) → place_in (len_words at cells) i ≡ Ok k → IsWordOf (WholeList at) (at.start + 1 + k)
list_element at cells k i e =
    let below : k < len_words at cells = in_place (len_words at cells) k i e in
    let within : len_words at cells ≤ at.cap = length_within at.cap (cells at.start) in
    record { from = omega arith; below = omega arith }

-- a stream that is read is only read
only_read : (k : ParamKind) (p : Param) → IsTrue (touch_meets (read_stream k) p.access) → IsTrue (kind_fits p k) → is_read p.access ≡ true
only_read IntKind p a f = cc
only_read ArrayKind p a f = cc
only_read ListKind p a f = cc
only_read RefKind p a f = cc
only_read MapKind p a f = cc
only_read StreamKind p a f = by p.access a f
  where
    by : (a : Access) → IsTrue (touch_meets (read_stream StreamKind) a) → IsTrue (not (is_both a)) → is_read a ≡ true
    by Read a f = refl
    by WriteOnly a f = cc
    by Both a f = cc

param_at : (params : List Param) (x : ℕ) → x < length params → (p : Param) × (slice_get params x ≡ Some p)
param_at [] x h = absurd (omega arith)
param_at (p ∷ more) zero h = (p, refl)
param_at (p ∷ more) (suc x) h = param_at more x (omega arith)

module _ (kernel : Kernel) (binds : List Bind) (index : ℕ) (checked : IsChecked kernel) (fit : BindsFit kernel binds) where
  abbrev params : List Param
  params = kernel.params.items

  -- ---- the words of a bind are in the footprint

  reads : (r : Bool) (b : Bind) (w : ℕ) → Uses b index (index + 1) w ⊎ IsLength b w → ReadsBy r b index (index + 1) w
  reads true b w (inl u) = uses_word b index (index + 1) w u
  reads true b w (inr u) = length_word_of b w u
  reads false b w u = u

  -- a parameter without a bind has no word
  no_word : (w : ℕ) → Uses no_bind index (index + 1) w ⊎ IsLength no_bind w → ⊥
  no_word w (inl u) = let h = u.within in absurd (omega arith)
  no_word w (inr u) = absurd u

  pub read_word : (x w : ℕ) → Uses (bind_at binds x) index (index + 1) w ⊎ IsLength (bind_at binds x) w → IsRead params binds index (index + 1) w
  read_word x w u = by (slice_get binds x) refl
    where
      by : (o : Option Bind) → slice_get binds x ≡ o → IsRead params binds index (index + 1) w
      by None e = absurd (no_word w (subst (λ b. Uses b index (index + 1) w ⊎ IsLength b w) (bind_none binds x e) u))
      by (Some b) e =
          let inside = slice_get_within binds x b e in
          let n = fit.count in
          let p = param_at params x (omega arith) in
          record {
            number = x;
            param = p.0;
            bind = b;
            has_param = p.1;
            has_bind = e;
            reads = reads (is_read p.0.access) b w (subst (λ b. Uses b index (index + 1) w ⊎ IsLength b w) (bind_is binds x b e) u);
          }

  -- a stream that is read is read whole
  pub stream_word : (x w : ℕ) → IsTrue (meets params x read_stream) → IsWordOf (bind_at binds x) w → IsRead params binds index (index + 1) w
  stream_word x w h i =
      let p = param_met read_stream (slice_get params x) h in
      let inside = slice_get_within params x p.0 p.1 in
      let n = fit.count in
      let met : IsTrue (param_meets read_stream (Some p.0)) = subst (λ o. IsTrue (param_meets read_stream o)) p.1 h in
      let fits = each_of param_fits params x p.0 checked.params p.1 in
      let only = only_read p.0.kind p.0 met (and_left (kind_fits p.0 p.0.kind) _ fits) in
      record {
        number = x;
        param = p.0;
        bind = bind_at binds x;
        has_param = p.1;
        has_bind = bind_here binds x (omega arith);
        reads = subst (λ r. ReadsBy r (bind_at binds x) index (index + 1) w) (sym only) i;
      }

  pub written_word : (x w : ℕ) → IsTrue (may_write params x) → Uses (bind_at binds x) index (index + 1) w → IsWritten params binds index (index + 1) w
  written_word x w may u =
      let p = param_of (slice_get params x) may in
      record {
        number = x;
        param = p.0;
        bind = bind_at binds x;
        has_param = p.1;
        has_bind = written_bind kernel binds fit x may;
        writes = subst (λ r. WritesBy r (bind_at binds x) index (index + 1) w) (sym p.2) u;
      }

module _ (kernel : Kernel) (binds : List Bind) (index : ℕ) (may_load may_store : ℕ → Bool) (call : IsCall kernel binds index may_load may_store) (x : ℕ)
    (b : Bind) (is : b ≡ bind_at binds x) (inside : x < length kernel.params.items) where
  pub fits : end_of b < 2 ^ 32
  fits = let n = call.fit.count in call.fit.ends x b (bind_here binds x (omega arith) ∙ ap Some (sym is))

  pub may_use : (w : ℕ) → Uses b index (index + 1) w ⊎ IsLength b w → IsTrue (may_load w)
  may_use w u = call.loads w (read_word kernel binds index call.checked call.fit x w (subst (λ b. Uses b index (index + 1) w ⊎ IsLength b w) is u))

  pub may_read_stream : IsTrue (meets kernel.params.items x read_stream) → (w : ℕ) → IsWordOf b w → IsTrue (may_load w)
  may_read_stream h w i = call.loads w (stream_word kernel binds index call.checked call.fit x w h (subst (λ b. IsWordOf b w) is i))

  pub may_change : IsTrue (may_write kernel.params.items x) → (w : ℕ) → Uses b index (index + 1) w → IsTrue (may_store w)
  may_change h w u = call.stores w (written_word kernel binds index call.checked call.fit x w h (subst (λ b. Uses b index (index + 1) w) is u))

-- the words of an index of a stream
pub stream_index : (at : StreamAt) (own : Bool) (index k : ℕ) (i : ℤ) → place_in at.count i ≡ Ok k → IsTrue (owns (width_if own) index i) → (w : ℕ)
    → mark_word at k ≤ w → w < index_end at k → Uses (Stream at own) index (index + 1) w
stream_index at own index k i e may w lo hi = record {
  index = k;
  within = in_place at.count k i e;
  owned = owned_place at.count (width_if own) index k i e may;
  start = lo;
  end = hi;
}

-- what a change of a list's length uses
pub may_add : (at : ListAt) (cells : ℕ → ℤ) (allowed : ℕ → Bool) → ((w : ℕ) → IsWordOf (WholeList at) w → IsTrue (allowed w)) → MayAdd at cells allowed
may_add at cells allowed h =
    let within : len_words at cells ≤ at.cap = length_within at.cap (cells at.start) in
    record {
      length = λ below. h at.start (record { from = omega arith; below = omega arith });
      element = λ below. h (at.start + 1 + len_words at cells) (record { from = omega arith; below = omega arith });
    }

pub may_remove : (at : ListAt) (cells : ℕ → ℤ) (i : ℤ) (readable writable : ℕ → Bool) → ((w : ℕ) → IsWordOf (WholeList at) w → IsTrue (readable w))
    → ((w : ℕ) → IsWordOf (WholeList at) w → IsTrue (writable w)) → MayRemove at cells i readable writable
may_remove at cells i readable writable r h =
    let within : len_words at cells ≤ at.cap = length_within at.cap (cells at.start) in
    record {
      length = λ some. h at.start (record { from = omega arith; below = omega arith });
      element = λ k e. h (at.start + 1 + k) (list_element at cells k i e);
      last = λ some. r (at.start + len_words at cells) (record { from = omega arith; below = omega arith });
    }

-- what is cleared is a list or a map
pub not_stream : (k : ParamKind) (a : Access) → IsTrue (touch_meets (clearable k) a) → k ≢ StreamKind
not_stream IntKind a h e = cc
not_stream ArrayKind a h e = cc
not_stream ListKind a h e = cc
not_stream RefKind a h e = cc
not_stream MapKind a h e = cc
not_stream StreamKind a h e = cc

-- the words of an index that was begun
pub begun_index : (at : StreamAt) (own : Bool) (b : Bind) (index : ℕ) (i z : ℤ) → Stream at own ≡ b → z ≡ i → IsBegun b index i → (w : ℕ)
    → mark_word at (nat_abs z) ≤ w → w < index_end at (nat_abs z) → Uses (Stream at own) index (index + 1) w
begun_index at own b index i z is e h w lo hi =
    let begun : IsBegun (Stream at own) index i = subst (λ b. IsBegun b index i) (sym is) h in
    let same : begun.0 ≡ nat_abs z = sym (ap nat_abs (e ∙ begun.1)) in
    let below = begun.2 in
    record { index = nat_abs z; within = omega arith; owned = subst (λ k. Own (width_if own) index (index + 1) k) same begun.3; start = lo; end = hi }

-- what is read or written through a bind are words of it
pub reads_word : (r : Bool) (b : Bind) (from to w : ℕ) → ReadsBy r b from to w → IsWordOf b w
reads_word true b from to w u = u
reads_word false b from to w (inl u) = uses_word b from to w u
reads_word false b from to w (inr u) = length_word_of b w u

pub writes_word : (r : Bool) (b : Bind) (from to w : ℕ) → WritesBy r b from to w → IsWordOf b w
writes_word true b from to w u = absurd u
writes_word false b from to w u = uses_word b from to w u
