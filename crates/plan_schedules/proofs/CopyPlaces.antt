-- The copies of kernels after one more was asked for: each is in its place, and the guarded copies too.
use Rattle.std.proofs.Common.{◌≡◌, ⊎_elim, ℕ, zero, suc, ◌+◌, ◌≤◌, List, [], ◌∷◌, ◌++◌, length, Option, Some, sym, ap, subst, ◌∙◌, arith, append_assoc}
use Rattle.std.specs.Prelude.{Vec, slice_get}
use Rattle.std.specs.declared.alloc.Global.{Global}
use Rattle.std.proofs.lemmas.List.{length-append}
use Rattle.frame_ast.specs.declared.kernel.Kernel.{Kernel}
use Rattle.frame_ast.specs.declared.script.Script.{Script}
use Rattle.frame_ast.specs.Checked.{IsChecked}
use Rattle.frame_ast.specs.Orders.{Setting}
use Rattle.kernel_bytecode.specs.declared.code.Code.{Code}
use Rattle.frame_core.specs.Ordered.{AreCodesOf}
use Rattle.frame_core.proofs.Small.{some_is, none_some, get_below, get_before, get_behind, get_either}
use Rattle.tree_laws.specs.Same.{SameKernel}
use Rattle.tree_laws.proofs.Checks.{same_kernels_are_checked}
use Rattle.plan_state.specs.declared.state.Draft.{Draft}
use Rattle.plan_state.specs.declared.state.Planner.{Planner}
use Rattle.plan_state.specs.Stands.{AreKernels, IsCopy}
use Rattle.plan_state.specs.Copies.{IsCopied, IsCopiedAnew}
use Rattle.plan_state.proofs.Naming.{set_either, set_long}
use Rattle.plan_schedules.proofs.Coding.{coded_added}

module _ (script : Script) (g : Setting) (is_g : g.kernels ≡ script.kernels.items) (p : Planner) (middle : Draft) (kernel place : ℕ)
    (ks : AreKernels p g) (copied : IsCopied script p.draft middle kernel place)
    (source : Kernel) (has_source : slice_get script.kernels.items kernel ≡ Some source) (checked : IsChecked source) where
  -- the copies so far keep their places
  grown : (k : ℕ) (it : Kernel) → slice_get p.draft.kernels.items k ≡ Some it → slice_get middle.kernels.items k ≡ Some it
  grown k it h = ⊎_elim
      (λ l. ap (λ (m : Draft). slice_get m.kernels.items k) l.1 ∙ h)
      (λ r.
      ap (λ xs. slice_get xs k) r.added.kernels
      ∙ get_before p.draft.kernels.items (r.copy ∷ []) k (get_below p.draft.kernels.items k it h) ∙ h)
      copied

  pub record HasCopy : Type 0 where
    pub copy : Kernel
    pub here : slice_get middle.kernels.items place ≡ Some copy
    pub same : SameKernel source copy

  pub has_copy : HasCopy
  has_copy = ⊎_elim
      (λ l.
      let c = ks.copies kernel place l.0 in
      record {
        copy = c.new;
        here = grown place c.new c.is_new;
        same = subst (λ (k : Kernel). SameKernel k c.new) (some_is (sym c.is_old ∙ ap (λ ks. slice_get ks kernel) is_g ∙ has_source)) c.same;
      })
      (λ r. record {
        copy = r.copy;
        here =
            ap (λ xs. slice_get xs place) r.added.kernels
            ∙ (let e : place ≡ length p.draft.kernels.items + 0 = (let l = r.added.last in omega arith) in
            ap (slice_get (p.draft.kernels.items ++ r.copy ∷ [])) e)
            ∙ get_behind p.draft.kernels.items (r.copy ∷ []) 0;
        same = subst (λ (k : Kernel). SameKernel k r.copy) (some_is (sym r.is_source ∙ has_source)) r.same;
      })
      copied

  pub copies_few : length middle.kernels.items ≤ suc (length p.draft.kernels.items)
  copies_few = ⊎_elim
      (λ l. let e : length middle.kernels.items ≡ length p.draft.kernels.items = ap (λ (m : Draft). length m.kernels.items) l.1 in omega arith)
      (λ r.
      let e : length middle.kernels.items ≡ length p.draft.kernels.items + 1 = ap length r.added.kernels
      ∙ length-append p.draft.kernels.items (r.copy ∷ []) in
      omega arith)
      copied

  -- what a whole plan has after them, it has after those so far
  pub kernels_later : (all : List Kernel) → (rest : List Kernel) × (all ≡ middle.kernels.items ++ rest)
      → (rest : List Kernel) × (all ≡ p.draft.kernels.items ++ rest)
  kernels_later all r = ⊎_elim
      (λ l. (r.0, r.1 ∙ ap (λ (m : Draft). m.kernels.items ++ r.0) l.1))
      (λ a. (
        a.copy ∷ r.0,
        r.1 ∙ ap (λ xs. xs ++ r.0) a.added.kernels ∙ append_assoc p.draft.kernels.items (a.copy ∷ []) r.0,
      ))
      copied

  -- of a planner that has them
  pub kernels_stand : (q : Planner) → q.draft.copies_of ≡ middle.copies_of → q.draft.kernels ≡ middle.kernels → q.draft.codes ≡ middle.codes
      → q.draft.guards_of ≡ p.draft.guards_of
      → AreKernels q g
  kernels_stand q kernels copies codes guards = record {
    each = ap (λ (v : Vec (Option ℕ) Global). length v.items) kernels ∙ long ∙ ks.each;
    each_guard = ap (λ (v : Vec (Option ℕ) Global). length v.items) guards ∙ ks.each_guard;
    copies = λ k at h. copy_at k at (ap (λ (v : Vec (Option ℕ) Global). slice_get v.items k) (sym kernels) ∙ h);
    guards = λ k at h.
        let c = ks.guards k at (ap (λ (v : Vec (Option ℕ) Global). slice_get v.items k) (sym guards) ∙ h) in
        record {
          old = c.old;
          new = c.new;
          is_old = c.is_old;
          is_new = there at c.new (grown at c.new c.is_new);
          guarded = c.guarded;
          contents = c.contents;
          words = c.words;
          footprint = c.footprint;
        };
    checked = λ at k h. all_checked at k (ap (λ (v : Vec Kernel Global). slice_get v.items at) (sym copies) ∙ h);
    coded = subst (λ (v : Vec Kernel Global). AreCodesOf v.items q.draft.codes.items) (sym copies)
        (subst (λ (v : Vec Code Global). AreCodesOf middle.kernels.items v.items) (sym codes) all_coded);
  }
    where
      there : (at : ℕ) (it : Kernel) → slice_get middle.kernels.items at ≡ Some it → slice_get q.draft.kernels.items at ≡ Some it
      there at it h = ap (λ (v : Vec Kernel Global). slice_get v.items at) copies ∙ h

      long : length middle.copies_of.items ≡ length p.draft.copies_of.items
      long = ⊎_elim
          (λ l. ap (λ (m : Draft). length m.copies_of.items) l.1)
          (λ r. ap length r.places ∙ set_long p.draft.copies_of.items kernel (Some place))
          copied

      old_copy : (k at : ℕ) → slice_get p.draft.copies_of.items k ≡ Some (Some at) → IsCopy q g k at
      old_copy k at h = (let c = ks.copies k at h in record {
        old = c.old;
        new = c.new;
        is_old = c.is_old;
        is_new = there at c.new (grown at c.new c.is_new);
        same = c.same;
      })

      new_copy : IsCopy q g kernel place
      new_copy = (let c = has_copy in record {
        old = source;
        new = c.copy;
        is_old = ap (λ ks. slice_get ks kernel) is_g ∙ has_source;
        is_new = there place c.copy c.here;
        same = c.same;
      })

      copy_at : (k at : ℕ) → slice_get middle.copies_of.items k ≡ Some (Some at) → IsCopy q g k at
      copy_at k at h = ⊎_elim
          (λ l. old_copy k at (ap (λ (m : Draft). slice_get m.copies_of.items k) (sym l.1) ∙ h))
          (λ r. ⊎_elim
          (λ e. subst (λ k. IsCopy q g k at) (sym e.0) (subst (λ at. IsCopy q g kernel at) (sym (some_is e.1)) new_copy))
          (λ e. old_copy k at e.1)
          (set_either p.draft.copies_of.items kernel (Some place) k (Some at) (ap (λ xs. slice_get xs k) (sym r.places) ∙ h)))
          copied

      all_coded : AreCodesOf middle.kernels.items middle.codes.items
      all_coded = ⊎_elim
          (λ l. subst (λ (m : Draft). AreCodesOf m.kernels.items m.codes.items) (sym l.1) ks.coded)
          (λ r. coded_added p.draft (record middle { copies_of = p.draft.copies_of }) r.copy place r.added ks.coded)
          copied

      all_checked : (at : ℕ) (k : Kernel) → slice_get middle.kernels.items at ≡ Some k → IsChecked k
      all_checked at k h = ⊎_elim
          (λ l. ks.checked at k (ap (λ (m : Draft). slice_get m.kernels.items at) (sym l.1) ∙ h))
          (λ r. ⊎_elim
          (λ e. ks.checked at k e.1)
          (λ e. last r e.0 e.2)
          (get_either p.draft.kernels.items (r.copy ∷ []) at k (ap (λ xs. slice_get xs at) (sym r.added.kernels) ∙ h)))
          copied
        where
          last : (r : IsCopiedAnew script p.draft middle kernel place) (i : ℕ) → slice_get (r.copy ∷ []) i ≡ Some k → IsChecked k
          last r zero e = subst IsChecked (some_is e) (same_kernels_are_checked source r.copy
              (subst (λ (k : Kernel). SameKernel k r.copy) (some_is (sym r.is_source ∙ has_source)) r.same) checked)
          last r (suc i) e = absurd (none_some e)
