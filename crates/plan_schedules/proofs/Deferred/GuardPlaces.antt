-- The guarded copies of kernels after one more was asked for: each is in its place, and the plain copies too.
use Rattle.std.proofs.Common.{◌≡◌, ⊎_elim, ℕ, zero, suc, ◌+◌, ◌≤◌, List, [], ◌∷◌, ◌++◌, length, Option, Some, sym, ap, subst, ◌∙◌, arith, append_assoc}
use Rattle.std.specs.Prelude.{Vec, slice_get}
use Rattle.std.specs.declared.alloc.Global.{Global}
use Rattle.std.proofs.lemmas.List.{length-append}
use Rattle.frame_ast.specs.declared.kernel.Kernel.{Kernel}
use Rattle.frame_ast.specs.declared.script.Script.{Script}
use Rattle.frame_ast.specs.Checked.{IsChecked}
use Rattle.frame_ast.specs.Orders.{Setting}
use Rattle.kernel_bytecode.specs.declared.code.Code.{Code}
use Rattle.frame_core.specs.Ordered.{AreCodesOf}
use Rattle.frame_core.proofs.Small.{some_is, none_some, get_below, get_before, get_behind, get_either}
use Rattle.plan_state.specs.declared.state.Draft.{Draft}
use Rattle.plan_state.specs.declared.state.Planner.{Planner}
use Rattle.plan_state.specs.Copies.{IsGuardOf, IsGuardedAnew, IsGuardedAt}
use Rattle.plan_state.specs.Stands.{AreKernels, IsGuardedCopy}
use Rattle.plan_state.proofs.Naming.{set_either, set_long}
use Rattle.plan_schedules.proofs.Coding.{coded_added}

module _ (script : Script) (g : Setting) (is_g : g.kernels ≡ script.kernels.items) (p : Planner) (middle : Draft) (kernel place : ℕ)
    (ks : AreKernels p g) (guarded : IsGuardedAt script p.draft middle kernel place)
    (source : Kernel) (has_source : slice_get script.kernels.items kernel ≡ Some source) where
  -- the copies so far keep their places
  grown : (k : ℕ) (it : Kernel) → slice_get p.draft.kernels.items k ≡ Some it → slice_get middle.kernels.items k ≡ Some it
  grown k it h = ⊎_elim
      (λ (l : (slice_get p.draft.guards_of.items kernel ≡ Some (Some place)) × (middle ≡ p.draft)). ap (λ (m : Draft). slice_get m.kernels.items k) l.1 ∙ h)
      (λ (r : IsGuardedAnew script p.draft middle kernel place).
      ap (λ xs. slice_get xs k) r.added.kernels
      ∙ get_before p.draft.kernels.items (r.copy ∷ []) k (get_below p.draft.kernels.items k it h) ∙ h)
      guarded

  -- and the kernel has its guarded copy
  pub record HasGuard : Type 0 where
    pub copy : Kernel
    pub here : slice_get middle.kernels.items place ≡ Some copy
    pub guards : IsGuardOf source copy

  pub has_guard : HasGuard
  has_guard = ⊎_elim
      (λ (l : (slice_get p.draft.guards_of.items kernel ≡ Some (Some place)) × (middle ≡ p.draft)).
      let c = ks.guards kernel place l.0 in
      let same : c.old ≡ source = some_is (sym c.is_old ∙ ap (λ ks. slice_get ks kernel) is_g ∙ has_source) in
      record {
        copy = c.new;
        here = grown place c.new c.is_new;
        guards = subst (λ (k : Kernel). IsGuardOf k c.new) same (record {
          guarded = c.guarded;
          checked = ks.checked place c.new c.is_new;
          contents = c.contents;
          words = c.words;
          footprint = c.footprint;
        });
      })
      (λ (r : IsGuardedAnew script p.draft middle kernel place). record {
        copy = r.copy;
        here =
            ap (λ xs. slice_get xs place) r.added.kernels
            ∙ (let e : place ≡ length p.draft.kernels.items + 0 = (let l = r.added.last in omega arith) in
            ap (slice_get (p.draft.kernels.items ++ r.copy ∷ [])) e)
            ∙ get_behind p.draft.kernels.items (r.copy ∷ []) 0;
        guards = subst (λ (k : Kernel). IsGuardOf k r.copy) (some_is (sym r.is_source ∙ has_source)) r.guards;
      })
      guarded

  pub copies_few : length middle.kernels.items ≤ suc (length p.draft.kernels.items)
  copies_few = ⊎_elim
      (λ (l : (slice_get p.draft.guards_of.items kernel ≡ Some (Some place)) × (middle ≡ p.draft)).
      let e = ap (λ (m : Draft). length m.kernels.items) l.1 in omega arith)
      (λ (r : IsGuardedAnew script p.draft middle kernel place).
      let e = ap length r.added.kernels ∙ length-append p.draft.kernels.items (r.copy ∷ []) in omega arith)
      guarded

  -- what a whole plan has after them, it has after those so far
  pub kernels_later : (all : List Kernel) → (rest : List Kernel) × (all ≡ middle.kernels.items ++ rest)
      → (rest : List Kernel) × (all ≡ p.draft.kernels.items ++ rest)
  kernels_later all r = ⊎_elim
      (λ (l : (slice_get p.draft.guards_of.items kernel ≡ Some (Some place)) × (middle ≡ p.draft)).
      (r.0, r.1 ∙ ap (λ (m : Draft). m.kernels.items ++ r.0) l.1))
      (λ (a : IsGuardedAnew script p.draft middle kernel place). (
        a.copy ∷ r.0,
        r.1 ∙ ap (λ xs. xs ++ r.0) a.added.kernels
            ∙ append_assoc p.draft.kernels.items (a.copy ∷ []) r.0,
      ))
      guarded

  -- of a planner that has them
  pub kernels_stand : (q : Planner) → q.draft.guards_of ≡ middle.guards_of → q.draft.kernels ≡ middle.kernels → q.draft.codes ≡ middle.codes
      → q.draft.copies_of ≡ p.draft.copies_of
      → AreKernels q g
  kernels_stand q guards copies codes kernels = record {
    each = ap (λ (v : Vec (Option ℕ) Global). length v.items) kernels ∙ ks.each;
    each_guard = ap (λ (v : Vec (Option ℕ) Global). length v.items) guards ∙ long ∙ ks.each_guard;
    copies = λ k at h.
        let c = ks.copies k at (ap (λ (v : Vec (Option ℕ) Global). slice_get v.items k) (sym kernels) ∙ h) in
        record { old = c.old; new = c.new; is_old = c.is_old; is_new = there at c.new (grown at c.new c.is_new); same = c.same };
    guards = λ k at h. guard_at k at (ap (λ (v : Vec (Option ℕ) Global). slice_get v.items k) (sym guards) ∙ h);
    checked = λ at k h. all_checked at k (ap (λ (v : Vec Kernel Global). slice_get v.items at) (sym copies) ∙ h);
    coded = subst (λ (v : Vec Kernel Global). AreCodesOf v.items q.draft.codes.items) (sym copies)
        (subst (λ (v : Vec Code Global). AreCodesOf middle.kernels.items v.items) (sym codes) all_coded);
  }
    where
      there : (at : ℕ) (it : Kernel) → slice_get middle.kernels.items at ≡ Some it → slice_get q.draft.kernels.items at ≡ Some it
      there at it h = ap (λ (v : Vec Kernel Global). slice_get v.items at) copies ∙ h

      long : length middle.guards_of.items ≡ length p.draft.guards_of.items
      long = ⊎_elim
          (λ (l : (slice_get p.draft.guards_of.items kernel ≡ Some (Some place)) × (middle ≡ p.draft)). ap (λ (m : Draft). length m.guards_of.items) l.1)
          (λ (r : IsGuardedAnew script p.draft middle kernel place). ap length r.places ∙ set_long p.draft.guards_of.items kernel (Some place))
          guarded

      old_guard : (k at : ℕ) → slice_get p.draft.guards_of.items k ≡ Some (Some at) → IsGuardedCopy q g k at
      old_guard k at h = (let c = ks.guards k at h in record {
        old = c.old;
        new = c.new;
        is_old = c.is_old;
        is_new = there at c.new (grown at c.new c.is_new);
        guarded = c.guarded;
        contents = c.contents;
        words = c.words;
        footprint = c.footprint;
      })

      new_guard : IsGuardedCopy q g kernel place
      new_guard = (let c = has_guard in record {
        old = source;
        new = c.copy;
        is_old = ap (λ ks. slice_get ks kernel) is_g ∙ has_source;
        is_new = there place c.copy c.here;
        guarded = c.guards.guarded;
        contents = c.guards.contents;
        words = c.guards.words;
        footprint = c.guards.footprint;
      })

      guard_at : (k at : ℕ) → slice_get middle.guards_of.items k ≡ Some (Some at) → IsGuardedCopy q g k at
      guard_at k at h = ⊎_elim
          (λ (l : (slice_get p.draft.guards_of.items kernel ≡ Some (Some place)) × (middle ≡ p.draft)). old_guard k at
          (ap (λ (m : Draft). slice_get m.guards_of.items k) (sym l.1) ∙ h))
          (λ (r : IsGuardedAnew script p.draft middle kernel place). ⊎_elim
          (λ e. subst (λ k. IsGuardedCopy q g k at) (sym e.0) (subst (λ at. IsGuardedCopy q g kernel at) (sym (some_is e.1)) new_guard))
          (λ e. old_guard k at e.1)
          (set_either p.draft.guards_of.items kernel (Some place) k (Some at) (ap (λ xs. slice_get xs k) (sym r.places) ∙ h)))
          guarded

      all_coded : AreCodesOf middle.kernels.items middle.codes.items
      all_coded = ⊎_elim
          (λ (l : (slice_get p.draft.guards_of.items kernel ≡ Some (Some place)) × (middle ≡ p.draft)).
          subst (λ (m : Draft). AreCodesOf m.kernels.items m.codes.items) (sym l.1) ks.coded)
          (λ (r : IsGuardedAnew script p.draft middle kernel place).
          coded_added p.draft (record middle { guards_of = p.draft.guards_of }) r.copy place r.added ks.coded)
          guarded

      all_checked : (at : ℕ) (k : Kernel) → slice_get middle.kernels.items at ≡ Some k → IsChecked k
      all_checked at k h = ⊎_elim
          (λ (l : (slice_get p.draft.guards_of.items kernel ≡ Some (Some place)) × (middle ≡ p.draft)). ks.checked at k
          (ap (λ (m : Draft). slice_get m.kernels.items at) (sym l.1) ∙ h))
          (λ (r : IsGuardedAnew script p.draft middle kernel place). ⊎_elim
          (λ e. ks.checked at k e.1)
          (λ e. last r e.0 e.2)
          (get_either p.draft.kernels.items (r.copy ∷ []) at k (ap (λ xs. slice_get xs at) (sym r.added.kernels) ∙ h)))
          guarded
        where
          last : (r : IsGuardedAnew script p.draft middle kernel place) (i : ℕ) → slice_get (r.copy ∷ []) i ≡ Some k → IsChecked k
          last r zero e = subst IsChecked (some_is e) r.guards.checked
          last r (suc i) e = absurd (none_some e)
