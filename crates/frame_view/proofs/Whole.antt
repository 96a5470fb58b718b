-- A story on its way: each mark that a schedule left is told.
use Rattle.std.proofs.Common.{◌≡◌, ℕ, zero, suc, ◌+◌, ◌<◌, ◌≤◌, Bool, true, false, List, [], ◌∷◌, ◌++◌, length, drop, take, get_or, Option, None, Some, refl, sym, ap, subst, ◌∙◌, append_assoc, append-nil, arith}
use Rattle.std.specs.Prelude.{slice_get, if◌then◌else◌}
use Rattle.std.proofs.lemmas.List.{drop-drop, drop_at, drop_more, drop_all}
use Rattle.frame_ast.specs.declared.script.Script.{Script}
use Rattle.frame_ast.specs.declared.script.Statement.{Statement}
use Rattle.frame_core.proofs.Small.{none_some, some_is}
use Rattle.frame_view.specs.declared.marks.Mark.{Mark}
use Rattle.frame_view.specs.declared.story.Refused.{Refused}
use Rattle.frame_view.specs.Marks.{fits, next_fit}
use Rattle.frame_view.specs.Parts.{passed_with, passing_after}
use Rattle.frame_view.specs.Stories.{is_schedule, made_by, refused_by, AreOthers, LeavesOne, LeavesFrom, Leaves}

-- What is left after the first statements, where so many are passed by next: some marks of other statements, and then those of the statements to come.
pub record IsRest (script : Script) (xs : List Statement) (at passing : ℕ) (left : List Mark) (ms : List ℕ) (rs : List Refused) (made : List ℕ)
    (refused : List Refused) : Type 0 where
  pub skipped : List Mark
  pub marks : List Mark
  pub js : List ℕ
  pub qs : List Refused
  pub left_is : left ≡ skipped ++ marks
  pub others : AreOthers script skipped
  pub made_is : made ≡ ms ++ js
  pub refused_is : refused ≡ rs ++ qs
  pub leaves : Leaves script at (drop at xs) passing marks js qs

-- Here the statements are those up to the end of a part, which begins at a place and passes so many by at first.
pub IsTellingAll : Script → List Statement → ℕ → ℕ → List Mark → ℕ → ℕ → ℕ → List ℕ → List Refused → Type 0
IsTellingAll script xs from passed marks at passing next ms rs = (made : List ℕ) (refused : List Refused)
    → Leaves script from (drop from xs) passed marks made refused → IsRest script xs at passing (drop next marks) ms rs made refused

pub begins_all : (script : Script) (xs : List Statement) (from passed : ℕ) (marks : List Mark) (ms : List ℕ) (rs : List Refused) → ms ≡ [] → rs ≡ []
    → IsTellingAll script xs from passed marks from passed 0 ms rs
unfolding IsTellingAll
begins_all script xs from passed marks ms rs em er made refused leaves = record {
  skipped = [];
  marks = marks;
  js = made;
  qs = refused;
  left_is = refl;
  others = tt;
  made_is = ap (λ ys. ys ++ made) (sym em);
  refused_is = ap (λ ys. ys ++ refused) (sym er);
  leaves = leaves;
}

-- the next statement stands first among those to come
comes_first : (xs : List Statement) (at : ℕ) (x : Statement) → at < length xs → x ≡ get_or xs at x → drop at xs ≡ x ∷ drop (at + 1) xs
comes_first xs at x lt is = drop_more xs at x lt ∙ ap (λ y. y ∷ drop (at + 1) xs) (sym is)

others_on : (script : Script) (xs ys : List Mark) → AreOthers script xs → AreOthers script ys → AreOthers script (xs ++ ys)
others_on script [] ys a b = b
others_on script (x ∷ xs) ys a b = (a.0, others_on script xs ys a.1 b)

-- marks of other statements are passed over
fit_after : (script : Script) (a : ℕ) (x : Statement) → slice_get script.statements.items a ≡ Some x → is_schedule x.act ≡ true
    → (n : ℕ) (skipped : List Mark) (m : Mark) (ms : List Mark) → AreOthers script skipped → fits x.line m ≡ true
    → next_fit x.line n (skipped ++ m ∷ ms) ≡ Some (n + length skipped)
fit_after script a x has scheduled n [] m ms others fit =
    let here : n ≡ n + 0 = omega arith in
    ap (λ b. if b then Some n else next_fit x.line (n + 1) ms) fit ∙ ap Some here
fit_after script a x has scheduled n (y ∷ ys) m ms others fit =
    let on : n + 1 + length ys ≡ n + length (y ∷ ys) = omega arith in
    ap (λ b. if b then Some n else next_fit x.line (n + 1) (ys ++ m ∷ ms)) (others.0 a x has scheduled)
    ∙ fit_after script a x has scheduled (n + 1) ys m ms others.1 fit
    ∙ ap Some on

module _ (script : Script) (xs : List Statement) (from passed : ℕ) (marks : List Mark) (at next : ℕ) (ms : List ℕ) (rs : List Refused) (x : Statement)
    (lt : at < length xs) (is : x ≡ get_or xs at x) (has : slice_get script.statements.items at ≡ Some x) where
  abbrev Later : ℕ → List Mark → List ℕ → List Refused → Type 0
  Later n = Leaves script (at + 1) (drop (at + 1) xs) n

  abbrev Telling : ℕ → Type 0
  Telling passing = IsTellingAll script xs from passed marks at passing next ms rs

  -- what this statement left
  one : (passing : ℕ) (made : List ℕ) (refused : List Refused) (r : IsRest script xs at passing (drop next marks) ms rs made refused)
      → LeavesFrom passing script at x Later r.marks r.js r.qs
  one passing made refused r = subst (λ ys. Leaves script at ys passing r.marks r.js r.qs) (comes_first xs at x lt is) r.leaves

  -- it is passed by
  pub passes_by : (more : ℕ) → Telling (suc more) → IsTellingAll script xs from passed marks (at + 1) more next ms rs
  unfolding IsTellingAll
  passes_by more tell made refused leaves =
      let r = tell made refused leaves in
      record {
        skipped = r.skipped;
        marks = r.marks;
        js = r.js;
        qs = r.qs;
        left_is = r.left_is;
        others = r.others;
        made_is = r.made_is;
        refused_is = r.refused_is;
        leaves = one (suc more) made refused r;
      }

  module _ (tell : Telling 0) where
    module _ (scheduled : is_schedule x.act ≡ true) where
      marked : (made : List ℕ) (refused : List Refused) (r : IsRest script xs at 0 (drop next marks) ms rs made refused)
          → LeavesOne true script at x (Later (passed_with x.act)) r.marks r.js r.qs
      marked made refused r = subst (λ b. LeavesOne b script at x (Later (passed_with x.act)) r.marks r.js r.qs) scheduled (one 0 made refused r)

      found : (made : List ℕ) (refused : List Refused) (r : IsRest script xs at 0 (drop next marks) ms rs made refused)
          → next_fit x.line next (drop next marks) ≡ Some (next + length r.skipped)
      found made refused r =
          let w = marked made refused r in
          ap (next_fit x.line next) (r.left_is ∙ ap (λ ys. r.skipped ++ ys) w.5)
          ∙ fit_after script at x has scheduled next r.skipped w.0 w.1 r.others w.4

      -- a schedule that left a mark
      pub tells_mark : (i : ℕ) (mark : Mark) → i < length marks → mark ≡ get_or marks i mark → Some i ≡ next_fit x.line next (drop next marks)
          → (ms' : List ℕ) (rs' : List Refused) → ms' ≡ ms ++ made_by at mark → rs' ≡ rs ++ refused_by at mark
          → IsTellingAll script xs from passed marks (at + 1) (passed_with x.act) (i + 1) ms' rs'
      unfolding IsTellingAll
      tells_mark i mark within mark_is next_is ms' rs' em er made refused leaves =
          let r = tell made refused leaves in
          let w = marked made refused r in
          let place : i ≡ next + length r.skipped = some_is (next_is ∙ found made refused r) in
          let same : mark ∷ drop (i + 1) marks ≡ w.0 ∷ w.1 =
          ap (λ y. y ∷ drop (i + 1) marks) mark_is
          ∙ sym (drop_more marks i mark within)
          ∙ ap (λ k. drop k marks) place
          ∙ sym (drop-drop (length r.skipped) next marks)
          ∙ ap (drop (length r.skipped)) (r.left_is ∙ ap (λ ys. r.skipped ++ ys) w.5)
          ∙ drop_at r.skipped (w.0 ∷ w.1) (length r.skipped) refl in
          let head : mark ≡ w.0 = ap (λ ys. get_or ys 0 mark) same in
          record {
            skipped = [];
            marks = w.1;
            js = w.2;
            qs = w.3;
            left_is = ap (drop 1) same;
            others = tt;
            made_is = r.made_is ∙ ap (λ ys. ms ++ ys) w.6 ∙ sym (append_assoc ms (made_by at w.0) w.2)
                ∙ ap (λ y. (ms ++ made_by at y) ++ w.2) (sym head) ∙ ap (λ ys. ys ++ w.2) (sym em);
            refused_is = r.refused_is ∙ ap (λ ys. rs ++ ys) w.7 ∙ sym (append_assoc rs (refused_by at w.0) w.3)
                ∙ ap (λ y. (rs ++ refused_by at y) ++ w.3) (sym head) ∙ ap (λ ys. ys ++ w.3) (sym er);
            leaves = w.8;
          }

      -- there is one
      missed : None ≡ next_fit x.line next (drop next marks) → IsTellingAll script xs from passed marks (at + 1) (passed_with x.act) next ms rs
      unfolding IsTellingAll
      missed none made refused leaves = absurd (none_some (none ∙ found made refused (tell made refused leaves)))

    module _ (other : is_schedule x.act ≡ false) where
      -- another statement
      passes : IsTellingAll script xs from passed marks (at + 1) (passed_with x.act) next ms rs
      unfolding IsTellingAll
      passes made refused leaves =
          let r = tell made refused leaves in
          let w = subst (λ b. LeavesOne b script at x (Later (passed_with x.act)) r.marks r.js r.qs) other (one 0 made refused r) in
          record {
            skipped = r.skipped ++ w.0;
            marks = w.1;
            js = r.js;
            qs = r.qs;
            left_is = r.left_is ∙ ap (λ ys. r.skipped ++ ys) w.3 ∙ sym (append_assoc r.skipped w.0 w.1);
            others = others_on script r.skipped w.0 r.others w.2;
            made_is = r.made_is;
            refused_is = r.refused_is;
            leaves = w.4;
          }

    -- a statement for which no mark is taken
    pub tells_none : None ≡ (if is_schedule x.act then next_fit x.line next (drop next marks) else None)
        → IsTellingAll script xs from passed marks (at + 1) (passed_with x.act) next ms rs
    tells_none none = by (is_schedule x.act) refl none
      where
        by : (b : Bool) → is_schedule x.act ≡ b → None ≡ (if b then next_fit x.line next (drop next marks) else None)
            → IsTellingAll script xs from passed marks (at + 1) (passed_with x.act) next ms rs
        by true scheduled n = missed scheduled n
        by false other n = passes other

  -- a statement for which no mark is taken, whether it is passed by or not
  pub tells_on : (passing : ℕ) → Telling passing
      → (passing ≡ 0 → None ≡ (if is_schedule x.act then next_fit x.line next (drop next marks) else None))
      → IsTellingAll script xs from passed marks (at + 1) (passing_after passing x.act) next ms rs
  tells_on zero tell none = tells_none tell (none refl)
  tells_on (suc more) tell none = passes_by more tell

  -- a schedule that left a mark isn't passed by
  pub tells_one : (passing : ℕ) → passing ≡ 0 → Telling passing → is_schedule x.act ≡ true → (i : ℕ) (mark : Mark) → i < length marks
      → mark ≡ get_or marks i mark → Some i ≡ next_fit x.line next (drop next marks)
      → (ms' : List ℕ) (rs' : List Refused) → ms' ≡ ms ++ made_by at mark → rs' ≡ rs ++ refused_by at mark
      → IsTellingAll script xs from passed marks (at + 1) (passing_after passing x.act) (i + 1) ms' rs'
  tells_one zero e tell scheduled i mark within mark_is next_is ms' rs' em er = tells_mark tell scheduled i mark within mark_is next_is ms' rs' em er
  tells_one (suc more) e tell scheduled i mark within mark_is next_is ms' rs' em er = absurd (omega (arith, e))

-- a schedule's mark is the next one that fits
pub taken : (b : Bool) (i : ℕ) (o : Option ℕ) → b ≡ true → Some i ≡ (if b then o else None) → Some i ≡ o
taken true i o t e = e
taken false i o t e = absurd cc

pub ends_all : (script : Script) (xs : List Statement) (from passed : ℕ) (marks : List Mark) (at passing next : ℕ) (ms : List ℕ) (rs : List Refused)
    → length xs ≤ at → IsTellingAll script xs from passed marks at passing next ms rs → (made : List ℕ) (refused : List Refused)
    → Leaves script from (drop from xs) passed marks made refused → (ms ≡ made) × (rs ≡ refused)
unfolding IsTellingAll
ends_all script xs from passed marks at passing next ms rs le tell made refused leaves =
    let r = tell made refused leaves in
    let w = subst (λ ys. Leaves script at ys passing r.marks r.js r.qs) (drop_all at xs le) r.leaves in (
      sym (r.made_is ∙ ap (λ ys. ms ++ ys) w.1 ∙ append-nil ms),
      sym (r.refused_is ∙ ap (λ ys. rs ++ ys) w.2 ∙ append-nil rs),
    )

-- THE FIRST STATEMENTS

pub taken_length : (xs : List Statement) (to : ℕ) → to ≤ length xs → length (take to xs) ≡ to
taken_length xs zero le = refl
taken_length [] (suc to) le = absurd (omega (arith, le))
taken_length (x ∷ xs) (suc to) le = let rest = taken_length xs to (omega (arith, le)) in omega (arith, rest)

pub taken_at : (xs : List Statement) (to at : ℕ) (d : Statement) → at < to → get_or (take to xs) at d ≡ get_or xs at d
taken_at xs zero at d lt = absurd (omega (arith, lt))
taken_at [] (suc to) at d lt = refl
taken_at (x ∷ xs) (suc to) zero d lt = refl
taken_at (x ∷ xs) (suc to) (suc at) d lt = taken_at xs to at d (omega (arith, lt))
