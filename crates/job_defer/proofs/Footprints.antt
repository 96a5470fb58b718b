-- Which words the guarded kernel reads and writes.
use Rattle.std.proofs.Common.{◌≡◌, ℕ, zero, suc, ◌<◌, inl, inr, ◌⊎◌, List, [], ◌∷◌, ◌++◌, length, Option, None, Some, refl, sym, ap, subst, ◌∙◌, arith}
use Rattle.std.specs.Prelude.{slice_get}
use Rattle.std.proofs.lemmas.Bool.{cases_lt, cases_eq}
use Rattle.job_base.specs.declared.Access.{Access}
use Rattle.job_base.specs.declared.Access.TheVariants.{Read}
use Rattle.frame_ast.specs.declared.kernel.Param.{Param}
use Rattle.frame_ast.specs.declared.kernel.Kernel.{Kernel}
use Rattle.native_array.specs.declared.ArrayAt.{ArrayAt}
use Rattle.tree_laws.specs.Same.{SameParam, Pairwise}
use Rattle.tree_laws.proofs.Checks.{same_count}
use Rattle.kernel_exec.specs.declared.binds.Bind.{Bind}
use Rattle.kernel_exec.specs.declared.binds.Bind.TheVariants.{Array}
use Rattle.kernel_exec.specs.Binds.{IsWordOf}
use Rattle.kernel_exec.specs.Footprint.{Reads, Writes, IsRead, IsWritten}
use Rattle.job_defer.specs.Guarded.{IsGuarded, GuardsFootprint}

-- A LIST WITH ONE MORE ELEMENT

at_left : {A : Type 0} (xs : List A) (y : A) (i : ℕ) → i < length xs → slice_get (xs ++ y ∷ []) i ≡ slice_get xs i
at_left [] y i lt = absurd (omega arith)
at_left (x ∷ xs) y zero lt = refl
at_left (x ∷ xs) y (suc i) lt = at_left xs y i (omega arith)

at_end : {A : Type 0} (xs : List A) (y : A) (i : ℕ) → i ≡ length xs → slice_get (xs ++ y ∷ []) i ≡ Some y
at_end [] y zero e = refl
at_end [] y (suc i) e = absurd (omega arith)
at_end (x ∷ xs) y zero e = absurd (omega arith)
at_end (x ∷ xs) y (suc i) e = at_end xs y i (omega arith)

past : {A : Type 0} (xs : List A) (y : A) (i : ℕ) → length xs < i → slice_get (xs ++ y ∷ []) i ≡ None
past [] y zero lt = absurd (omega arith)
past [] y (suc i) lt = refl
past (x ∷ xs) y zero lt = absurd (omega arith)
past (x ∷ xs) y (suc i) lt = past xs y i (omega arith)

none_is_no_one : {A : Type 0} {x : A} → None ≡ Some x → ⊥
none_is_no_one e = cc

abbrev the_value : {A : Type 0} → A → Option A → A
the_value d None = d
the_value d (Some x) = x

-- the parameter at a place of the one list, and of the other
left_param : (ps qs : List Param) → Pairwise SameParam ps qs → (i : ℕ) (q : Param) → slice_get qs i ≡ Some q
    → (p : Param) × (slice_get ps i ≡ Some p) × (p.access ≡ q.access)
left_param [] [] S zero q e = absurd (none_is_no_one e)
left_param [] [] S (suc i) q e = absurd (none_is_no_one e)
left_param [] (y ∷ ys) S i q e = absurd S
left_param (x ∷ xs) [] S i q e = absurd S
left_param (x ∷ xs) (y ∷ ys) S zero q e = (x, refl, S.0.access ∙ ap (λ o. (the_value q o).access) e)
left_param (x ∷ xs) (y ∷ ys) S (suc i) q e = left_param xs ys S.1 i q e

right_param : (ps qs : List Param) → Pairwise SameParam ps qs → (i : ℕ) (p : Param) → slice_get ps i ≡ Some p
    → (q : Param) × (slice_get qs i ≡ Some q) × (p.access ≡ q.access)
right_param [] [] S zero p e = absurd (none_is_no_one e)
right_param [] [] S (suc i) p e = absurd (none_is_no_one e)
right_param [] (y ∷ ys) S i p e = absurd S
right_param (x ∷ xs) [] S i p e = absurd S
right_param (x ∷ xs) (y ∷ ys) S zero p e = (y, refl, ap (λ o. (the_value p o).access) (sym e) ∙ S.0.access)
right_param (x ∷ xs) (y ∷ ys) S (suc i) p e = right_param xs ys S.1 i p e

within : {A : Type 0} (xs : List A) (i : ℕ) (x : A) → slice_get xs i ≡ Some x → i < length xs
within [] zero x e = absurd (none_is_no_one e)
within [] (suc i) x e = absurd (none_is_no_one e)
within (y ∷ ys) zero x e = omega arith
within (y ∷ ys) (suc i) x e = let lt = within ys i x e in omega arith

module _ (old new : Kernel) (G : IsGuarded old new) (binds : List Bind) (at : ArrayAt) (from to w : ℕ)
    (count : length binds ≡ length old.params.items) where
  abbrev last : Bind
  last = Array at 0

  abbrev all : List Bind
  all = binds ++ last ∷ []

  same_size : length old.params.items ≡ length G.same
  same_size = same_count old.params.items G.same G.are_same

  -- a use through the new kernel: through a parameter of the old one, or through the last
  module _ (Uses : Access → Bind → ℕ → ℕ → ℕ → Type 0) (number : ℕ) (param : Param) (bind : Bind)
      (has_param : slice_get new.params.items number ≡ Some param) (has_bind : slice_get all number ≡ Some bind)
      (uses : Uses param.access bind from to w) where
    abbrev IsOld : Type 0
    IsOld = (p : Param) × (slice_get old.params.items number ≡ Some p) × (slice_get binds number ≡ Some bind)
        × Uses p.access bind from to w

    split : IsOld ⊎ Uses Read last from to w
    split = elim (cases_lt number (length binds)) [
      | inl lt ↦
          let p = left_param old.params.items G.same G.are_same number param
          (sym (at_left G.same G.last number (let s = same_size in omega arith))
          ∙ ap (λ ps. slice_get ps number) (sym G.params) ∙ has_param) in
          inl (
            p.0,
            p.1,
            sym (at_left binds last number lt)
                ∙ has_bind,
            subst (λ a. Uses a bind from to w) (sym p.2) uses,
          )
      | inr ge ↦ elim (cases_eq number (length binds)) [
        | inl here ↦
            let p : Some G.last ≡ Some param = sym (at_end G.same G.last number (let s = same_size in omega arith))
            ∙ ap (λ ps. slice_get ps number) (sym G.params) ∙ has_param in
            let b : Some last ≡ Some bind = sym (at_end binds last number here) ∙ has_bind in
            inr (subst (λ x. Uses Read x from to w) (ap (λ o. the_value bind o) (sym b))
            (subst (λ a. Uses a bind from to w)
            (ap (λ o. (the_value param o).access) (sym p) ∙ G.is_length.access) uses))
        | inr ne ↦ absurd (none_is_no_one (sym (past binds last number (omega arith)) ∙ has_bind))
      ]
    ]

  module _ (Uses : Access → Bind → ℕ → ℕ → ℕ → Type 0) (number : ℕ) (param : Param) (bind : Bind)
      (has_param : slice_get old.params.items number ≡ Some param) (has_bind : slice_get binds number ≡ Some bind)
      (uses : Uses param.access bind from to w) where
    join : (q : Param) × (slice_get new.params.items number ≡ Some q) × (slice_get all number ≡ Some bind)
        × Uses q.access bind from to w
    join =
        let q = right_param old.params.items G.same G.are_same number param has_param in
        let lt = within binds number bind has_bind in (
          q.0,
          ap (λ ps. slice_get ps number) G.params ∙ at_left G.same G.last number (let s = same_size in omega arith)
              ∙ q.1,
          at_left binds last number lt ∙ has_bind,
          subst (λ a. Uses a bind from to w) q.2 uses,
        )

  pub read_splits : IsRead new.params.items all from to w → IsRead old.params.items binds from to w ⊎ IsWordOf last w
  read_splits r = elim (split Reads r.number r.param r.bind r.has_param r.has_bind r.reads) [
    | inl o ↦ inl (record {
      number = r.number;
      param = o.0;
      bind = r.bind;
      has_param = o.1;
      has_bind = o.2;
      reads = o.3;
    })
    | inr u ↦ inr u
  ]

  pub read_joins : IsRead old.params.items binds from to w ⊎ IsWordOf last w → IsRead new.params.items all from to w
  read_joins (inl r) = let q = join Reads r.number r.param r.bind r.has_param r.has_bind r.reads in
      record { number = r.number; param = q.0; bind = r.bind; has_param = q.1; has_bind = q.2; reads = q.3 }
  read_joins (inr u) = record {
    number = length binds;
    param = G.last;
    bind = last;
    has_param = ap (λ ps. slice_get ps (length binds)) G.params
        ∙ at_end G.same G.last (length binds) (let s = same_size in omega arith);
    has_bind = at_end binds last (length binds) refl;
    reads = subst (λ a. Reads a last from to w) (sym G.is_length.access) u;
  }

  pub written_splits : IsWritten new.params.items all from to w → IsWritten old.params.items binds from to w
  written_splits r = elim (split Writes r.number r.param r.bind r.has_param r.has_bind r.writes) [
    | inl o ↦ record { number = r.number; param = o.0; bind = r.bind; has_param = o.1; has_bind = o.2; writes = o.3 }
    | inr u ↦ absurd u
  ]

  pub written_joins : IsWritten old.params.items binds from to w → IsWritten new.params.items all from to w
  written_joins r = let q = join Writes r.number r.param r.bind r.has_param r.has_bind r.writes in
      record { number = r.number; param = q.0; bind = r.bind; has_param = q.1; has_bind = q.2; writes = q.3 }

pub guards_footprint : (old new : Kernel) → IsGuarded old new → GuardsFootprint old new
guards_footprint old new G = record {
  read = λ binds at from to w count.
      (read_splits old new G binds at from to w count, read_joins old new G binds at from to w count);
  written = λ binds at from to w count.
      (written_splits old new G binds at from to w count, written_joins old new G binds at from to w count);
}
