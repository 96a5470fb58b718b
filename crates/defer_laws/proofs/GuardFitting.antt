-- The binds of the arguments and of the length fit the guarded kernel.
use Rattle.std.proofs.Common.{◌≡◌, ◌≢◌, ℕ, zero, suc, ◌+◌, ◌<◌, ◌≤◌, ◌^◌, ⊎_elim, Bool, true, ◌&&◌, not, List, [], ◌∷◌, ◌++◌, length, Some, refl, sym, ap, subst, ◌∙◌, arith}
use Rattle.std.specs.Prelude.{slice_get, if◌then◌else◌}
use Rattle.std.proofs.lemmas.List.{get_or_append_left, map-append}
use Rattle.std.proofs.Math.Seq.{get_or-append_seam}
use Rattle.job_base.specs.declared.Access.TheVariants.{Read}
use Rattle.frame_ast.specs.declared.kernel.ParamKind.{ParamKind}
use Rattle.frame_ast.specs.declared.kernel.ParamKind.TheVariants.{Int as IntKind, Array as ArrayKind, List as ListKind, Ref as RefKind, Map as MapKind, Stream as StreamKind}
use Rattle.frame_ast.specs.declared.kernel.Kernel.{Kernel}
use Rattle.frame_ast.specs.declared.kernel.Param.{Param}
use Rattle.frame_ast.specs.Arguments.{argument}
use Rattle.frame_ast.specs.Checked.{is_read, may_write, written_param}
use Rattle.frame_ast.specs.Contents.{Contents, Cells as Elements}
use Rattle.frame_ast.specs.Lists.{member}
use Rattle.frame_ast.specs.Schedules.{writes_to, width_by, width_at, widths_from}
use Rattle.job_defer.specs.Guarded.{IsGuarded}
use Rattle.kernel_exec.specs.declared.binds.Bind.{Bind}
use Rattle.kernel_exec.specs.Binds.{kind_of, end_of, own_of, widths, IsWordOf}
use Rattle.kernel_exec.specs.Conditions.{BindsFit}
use Rattle.kernel_exec.specs.Footprint.{IsLength}
use Rattle.kernel_exec.specs.Laws.{HaveOwnParts}
use Rattle.kernel_exec.specs.Layout.{Holds, StandFor}
use Rattle.merge_laws.specs.Graph.{Cells}
use Rattle.frame_core.proofs.Small.{not_both, some_is, none_some, get_before, get_below, get_either}
use Rattle.tree_laws.specs.Same.{SameParam, Pairwise}
use Rattle.defer_laws.specs.GuardedRuns.{word_at}
use Rattle.plan_laws.proofs.Schedules.ArgumentBinds.{wrote}

-- ---- one more bind

only_last : {A : Type 0} (y : A) (i : ℕ) (z : A) → slice_get (y ∷ []) i ≡ Some z → (i ≡ 0) × (z ≡ y)
only_last y zero z e = (refl, some_is (sym e))
only_last y (suc i) z e = absurd (none_some e)

-- an element of a list with one more is one of the list, or the last
pub by_end : {A : Type 0} (P : A → Type 0) (xs : List A) (y : A) (i : ℕ) (z : A) → slice_get (xs ++ y ∷ []) i ≡ Some z
    → (i < length xs → slice_get xs i ≡ Some z → P z) → (i ≡ length xs → P y) → P z
by_end P xs y i z e inside last = ⊎_elim
    (λ l. inside l.0 l.1)
    (λ r. let o = only_last y r.0 z r.2 in subst P (sym o.1) (last (let at = r.1 in let none = o.0 in omega arith)))
    (get_either xs (y ∷ []) i z e)

one_longer : {A : Type 0} (xs : List A) (y : A) → length (xs ++ y ∷ []) ≡ suc (length xs)
one_longer [] y = refl
one_longer (x ∷ xs) y = ap suc (one_longer xs y)

-- its words stand for one more
pub stand_more : (binds : List Bind) (b : Bind) (cells : Cells) (args : List Contents) (c : Contents) → StandFor binds cells args → Holds cells b c
    → StandFor (binds ++ b ∷ []) cells (args ++ c ∷ [])
stand_more binds b cells args c st held = record {
  count = one_longer args c ∙ ap suc st.count ∙ sym (one_longer binds b);
  each = λ y z h. by_end (λ z. Holds cells z (argument (args ++ c ∷ []) y)) binds b y z h
      (λ lt at. subst (Holds cells z) (sym (get_or_append_left args (c ∷ []) (Elements []) y (let count = st.count in omega arith))) (st.each y z at))
      (λ at. let count = st.count in let here : y ≡ length args = omega arith in
      subst (Holds cells b) (sym (ap (argument (args ++ c ∷ [])) here ∙ get_or-append_seam args c [] (Elements []))) held);
}

-- ---- parameters that are the same

same_long : (ps qs : List Param) → Pairwise SameParam ps qs → length ps ≡ length qs
same_long [] [] e = refl
same_long [] (q ∷ qs) e = absurd e
same_long (p ∷ ps) [] e = absurd e
same_long (p ∷ ps) (q ∷ qs) e = ap suc (same_long ps qs e.1)

pub same_at : (ps qs : List Param) → Pairwise SameParam ps qs → (y : ℕ) (q : Param) → slice_get qs y ≡ Some q
    → (p : Param) × (slice_get ps y ≡ Some p) × SameParam p q
same_at [] [] e y q h = absurd (none_some h)
same_at [] (r ∷ qs) e y q h = absurd e
same_at (p ∷ ps) [] e y q h = absurd (none_some h)
same_at (p ∷ ps) (r ∷ qs) e zero q h = (p, refl, subst (SameParam p) (some_is h) e.0)
same_at (p ∷ ps) (r ∷ qs) e (suc y) q h = same_at ps qs e.1 y q h

width_by_same : (m : Bool) (p q : Param) → p.by ≡ q.by → (k : ParamKind) → width_by m p k ≡ width_by m q k
width_by_same m p q e IntKind = refl
width_by_same m p q e ArrayKind = ap (λ n. if m then 0 else n) e
width_by_same m p q e ListKind = refl
width_by_same m p q e RefKind = refl
width_by_same m p q e MapKind = refl
width_by_same m p q e StreamKind = refl

-- the length has no width
widths_more : (waive : List ℕ) (x : ℕ) (ps qs : List Param) (last : Param) → Pairwise SameParam ps qs → last.access ≡ Read
    → widths_from true waive x (qs ++ last ∷ []) ≡ widths_from true waive x ps ++ 0 ∷ []
widths_more waive x [] [] last e read = ap (λ a. (if true && writes_to a then width_by (member x waive) last last.kind else 0) ∷ []) read
widths_more waive x [] (q ∷ qs) last e read = absurd e
widths_more waive x (p ∷ ps) [] last e read = absurd e
widths_more waive x (p ∷ ps) (q ∷ qs) last e read =
    let widths_alike : width_by (member x waive) q q.kind ≡ width_by (member x waive) p p.kind =
    width_by_same (member x waive) q p (sym e.0.by) q.kind ∙ ap (width_by (member x waive) p) (sym e.0.kind) in
    let here : width_at true waive x q ≡ width_at true waive x p =
    (λ i. if true && writes_to (sym e.0.access i) then widths_alike i else 0) in
    let rest = widths_more waive (x + 1) ps qs last e.1 read in
    λ i. here i ∷ rest i

-- ---- all of it

module _ (old new : Kernel) (is : IsGuarded old new) (binds : List Bind) (start : ℕ) where
  abbrev all : List Bind
  all = binds ++ word_at start ∷ []

  -- a parameter that the guarded kernel may write is one of the old kernel's
  pub old_param : (y : ℕ) (q : Param) → slice_get new.params.items y ≡ Some q → writes_to q.access ≡ true
      → (p : Param) × (slice_get old.params.items y ≡ Some p) × SameParam p q
  old_param y q h writes = ⊎_elim
      (λ l. same_at old.params.items is.same is.are_same y q l.1)
      (λ r. let o = only_last is.last r.0 q r.2 in absurd (not_both (sym (ap (λ (p : Param). writes_to p.access) o.1) ∙ writes)
      (ap writes_to is.is_length.access)))
      (get_either is.same (is.last ∷ []) y q (ap (λ ps. slice_get ps y) (sym is.params) ∙ h))

  may_old : (y : ℕ) → may_write new.params.items y ≡ true → may_write old.params.items y ≡ true
  may_old y may =
      let q = wrote (slice_get new.params.items y) may in
      let p = old_param y q.0 q.1 q.2 in
      ap written_param p.1 ∙ ap (λ a. not (is_read a)) p.2.access ∙ sym (ap written_param q.1) ∙ may

  long : length old.params.items ≡ length is.same
  long = same_long old.params.items is.same is.are_same

  module _ (fits : BindsFit old binds) (only : (y : ℕ) (p : Param) (b : Bind) → slice_get old.params.items y ≡ Some p → writes_to p.access ≡ true
      → slice_get binds y ≡ Some b → IsWordOf b start → IsLength b start) where
    kinds : (y : ℕ) (p : Param) (b : Bind) → slice_get new.params.items y ≡ Some p → slice_get all y ≡ Some b → kind_of b ≡ p.kind
    kinds y p b hp hb =
        let count = fits.count in
        let at = long in
        by_end (λ b. kind_of b ≡ p.kind) binds (word_at start) y b hb
        (λ lt bound. by_end (λ p. kind_of b ≡ p.kind) is.same is.last y p hp'
        (λ lt' h. let q = same_at old.params.items is.same is.are_same y p h in fits.kinds y q.0 b q.1 bound ∙ q.2.kind)
        (λ end. absurd (omega arith)))
        (λ end. by_end (λ p. ArrayKind ≡ p.kind) is.same is.last y p hp' (λ lt h. absurd (omega arith)) (λ same. sym is.is_length.kind))
      where
        hp' : slice_get (is.same ++ is.last ∷ []) y ≡ Some p
        hp' = ap (λ ps. slice_get ps y) (sym is.params) ∙ hp

    apart : (y z : ℕ) (a b : Bind) (w : ℕ) → may_write new.params.items y ≡ true → y ≢ z → slice_get all y ≡ Some a → slice_get all z ≡ Some b → IsWordOf a w
        → (IsLength a w → ⊥) → IsWordOf b w → ⊥
    apart y z a b w may ne ha hb wa beyond =
        let q = wrote (slice_get new.params.items y) may in
        let p = old_param y q.0 q.1 q.2 in
        let below = get_below old.params.items y p.0 p.1 in
        let count = fits.count in
        let here : slice_get binds y ≡ Some a = sym (get_before binds (word_at start ∷ []) y (omega arith)) ∙ ha in
        by_end (λ b. IsWordOf b w → ⊥) binds (word_at start) z b hb
        (λ lt there wb. fits.apart y z a b w (may_old y may) ne here there wa beyond wb)
        (λ end wb. let lo = wb.from in let hi = wb.below in let at : w ≡ start = omega arith in
        beyond (subst (IsLength a) (sym at) (only y p.0 a p.1 (ap writes_to p.2.access ∙ q.2) here (subst (IsWordOf a) at wa))))

    pub binds_fit : start + 1 < 2 ^ 32 → BindsFit new all
    binds_fit small = record {
      count = one_longer binds (word_at start) ∙ ap suc (fits.count ∙ long) ∙ sym (one_longer is.same is.last) ∙ ap length (sym is.params);
      kinds = kinds;
      ends = λ y b hb. by_end (λ b. end_of b < 2 ^ 32) binds (word_at start) y b hb (λ lt at. fits.ends y b at) (λ end. small);
      apart = apart;
    }

  pub binds_within : (limit : ℕ) → ((y : ℕ) (b : Bind) → slice_get binds y ≡ Some b → end_of b ≤ limit) → start + 1 ≤ limit → (y : ℕ) (b : Bind)
      → slice_get all y ≡ Some b → end_of b ≤ limit
  binds_within limit each last y b hb = by_end (λ b. end_of b ≤ limit) binds (word_at start) y b hb (λ lt at. each y b at) (λ end. last)

  pub binds_have_widths : (waive : List ℕ) → old.parallel ≡ true → widths binds ≡ widths_from old.parallel waive 0 old.params.items
      → widths all ≡ widths_from new.parallel waive 0 new.params.items
  binds_have_widths waive parallel same =
      map-append own_of binds (word_at start ∷ [])
      ∙ ap (λ ws. ws ++ 0 ∷ []) (same ∙ ap (λ b. widths_from b waive 0 old.params.items) parallel)
      ∙ sym (widths_more waive 0 old.params.items is.same is.last is.are_same is.is_length.access)
      ∙ (λ i. widths_from (sym is.parallel i) waive 0 (sym is.params i))

  pub own_parts : length binds ≡ length old.params.items → HaveOwnParts old binds → HaveOwnParts new all
  own_parts count has y b may hb =
      let q = wrote (slice_get new.params.items y) may in
      let p = old_param y q.0 q.1 q.2 in
      let below = get_below old.params.items y p.0 p.1 in
      has y b (may_old y may) (sym (get_before binds (word_at start ∷ []) y (omega arith)) ∙ hb)
