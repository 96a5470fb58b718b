-- What some indexes write others don't read, where each bind that may be written has own parts.
use Rattle.std.proofs.Common.{◌≡◌, ◌≢◌, ◌∙◌, ◌⊎◌, ⊎_elim, inl, inr, ℕ, zero, suc, ◌≤◌, Bool, true, false, IsTrue, Some, slice_get, refl, sym, ap, subst, arith}
use Rattle.std.proofs.Math.Nat.{mul-le-mul_right}
use Rattle.std.specs.Prelude.{not}
use Rattle.frame_ast.specs.Checked.{is_read, may_write, written_param}
use Rattle.native_stream.specs.declared.StreamAt.{StreamAt}
use Rattle.native_stream.proofs.Places.{apart}
use Rattle.kernel_exec.specs.declared.binds.Bind.{Bind}
use Rattle.kernel_exec.specs.declared.binds.Bind.TheVariants.{Int, Array, View, List as WholeList, Ref, Map, Stream}
use Rattle.kernel_exec.specs.Binds.{own_of, width_if}
use Rattle.kernel_exec.specs.Footprint.{Own, Uses, IsLength, ReadsBy, WritesBy}
use Rattle.kernel_exec.specs.Laws.{OwnPartsAreApart}
use Rattle.kernel_exec.proofs.Stand.{same_or}
use Rattle.kernel_exec.proofs.Rights.{uses_word, reads_word}

module _ (from to from' to' : ℕ) (away : (to ≤ from') ⊎ (to' ≤ from)) where
  not_both : (width k : ℕ) → width ≢ 0 → Own width from to k → Own width from' to' k → ⊥
  not_both zero k some h h' = some refl
  not_both (suc n) k some h h' =
      ⊎_elim
      (λ le. let m = mul-le-mul_right {m = to} {n = from'} (suc n) le in omega (arith, m, h.1, h'.0))
      (λ le. let m = mul-le-mul_right {m = to'} {n = from} (suc n) le in omega (arith, m, h.0, h'.1))
      away

  -- an index of a stream has words of its own
  same_index : (at : StreamAt) (own own' : Bool) (w : ℕ) (u : Uses (Stream at own) from to w) (v : Uses (Stream at own') from' to' w) → u.index ≡ v.index
  same_index at own own' w u v =
      ⊎_elim (λ e. e) (λ ne. absurd (⊎_elim (λ lt. omega (arith, lt, v.start)) (λ ge. omega (arith, ge, v.end)) (apart at u.index v.index w ne u.start u.end)))
      (same_or u.index v.index)

  uses_once : (b : Bind) (w : ℕ) → own_of b ≢ 0 → Uses b from to w → Uses b from' to' w → ⊥
  uses_once (Int z) w some u v = absurd u
  uses_once (Array at own) w some u v = not_both own u.place some u.owned (subst (λ k. Own own from' to' k) (omega (arith, u.is, v.is)) v.owned)
  uses_once (View at own) w some u v = not_both own u.place some u.owned (subst (λ k. Own own from' to' k) (omega (arith, u.is, v.is)) v.owned)
  uses_once (WholeList at) w some u v = some refl
  uses_once (Ref at) w some u v = some refl
  uses_once (Map at) w some u v = some refl
  uses_once (Stream at own) w some u v = not_both (width_if own) u.index some u.owned
      (subst (λ k. Own (width_if own) from' to' k) (sym (same_index at own own w u v)) v.owned)

-- the length word of a view is no element
pub not_length : (b : Bind) (from to w : ℕ) → Uses b from to w → IsLength b w → ⊥
not_length (Int z) from to w u l = absurd l
not_length (Array at own) from to w u l = absurd l
not_length (View at own) from to w u l = omega (arith, u.is, l)
not_length (WholeList at) from to w u l = absurd l
not_length (Ref at) from to w u l = absurd l
not_length (Map at) from to w u l = absurd l
not_length (Stream at own) from to w u l = absurd l

-- what is written is used
pub used : (r : Bool) (b : Bind) (from to w : ℕ) → WritesBy r b from to w → (r ≡ false) × Uses b from to w
used true b from to w u = absurd u
used false b from to w u = (refl, u)

one_of : {A : Type 0} (x y : A) → Some x ≡ Some y → x ≡ y
one_of x y e = cc

pub own_parts_are_apart : OwnPartsAreApart
own_parts_are_apart kernel binds from to from' to' w fit own away x y = by (same_or x.number y.number)
  where
    use_ : (is_read x.param.access ≡ false) × Uses x.bind from to w
    use_ = used (is_read x.param.access) x.bind from to w x.writes

    may : IsTrue (may_write kernel.params.items x.number)
    may = subst (λ o. IsTrue (written_param o)) (sym x.has_param) (ap not use_.0)

    reads_it : (r : Bool) (b : Bind) → r ≡ false → x.bind ≡ b → ReadsBy r b from' to' w → ⊥
    reads_it true b never same u = cc
    reads_it false b never same (inl u) = uses_once from to from' to' away b w (subst (λ b. own_of b ≢ 0) same (own x.number x.bind may x.has_bind))
        (subst (λ b. Uses b from to w) same use_.1) u
    reads_it false b never same (inr u) = not_length b from to w (subst (λ b. Uses b from to w) same use_.1) u

    by : (x.number ≡ y.number) ⊎ (x.number ≢ y.number) → ⊥
    by (inl e) =
        let param : x.param ≡ y.param = one_of x.param y.param (sym x.has_param ∙ ap (slice_get kernel.params.items) e ∙ y.has_param) in
        let bind : x.bind ≡ y.bind = one_of x.bind y.bind (sym x.has_bind ∙ ap (slice_get binds) e ∙ y.has_bind) in
        reads_it (is_read y.param.access) y.bind (ap (λ p. is_read p.access) (sym param) ∙ use_.0) bind y.reads
    by (inr ne) = fit.apart x.number y.number x.bind y.bind w may ne x.has_bind y.has_bind (uses_word x.bind from to w use_.1)
        (not_length x.bind from to w use_.1) (reads_word (is_read y.param.access) y.bind from' to' w y.reads)
