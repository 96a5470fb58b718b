-- A story on its way: what was told of the first statements.
use Rattle.std.proofs.Common.{◌≡◌, ℕ, zero, suc, ◌+◌, ◌<◌, ◌≤◌, ◌⊎◌, ⊎_elim, true, List, [], ◌∷◌, ◌++◌, length, eqb-true, Some, Result, refl, sym, ap, subst, ◌∙◌, arith}
use Rattle.std.specs.Prelude.{slice_get, IfOk}
use Rattle.frame_view.specs.Parts.{whole}
use Rattle.std.proofs.lemmas.List.{length-append}
use Rattle.frame_ast.specs.declared.script.Script.{Script}
use Rattle.frame_ast.specs.declared.script.Statement.{Statement}
use Rattle.frame_core.specs.declared.plan.Plan.{Plan}
use Rattle.frame_core.proofs.Small.{get_either, get_below, none_some, some_is}
use Rattle.frame_view.specs.declared.part.Part.{Part}
use Rattle.frame_view.specs.declared.marks.Mark.{Mark}
use Rattle.frame_view.specs.declared.marks.Mark.TheVariants.{Starts, Says}
use Rattle.frame_view.specs.declared.story.Refused.{Refused}
use Rattle.frame_view.specs.declared.story.Story.{Story}
use Rattle.frame_view.specs.Marks.{fits, marks_of}
use Rattle.frame_view.specs.Stories.{is_schedule, IsScheduleAt, IsSaid, IsRefusedAt, made_by, refused_by, IsStoryIn, TellsAllIn}

pub record IsTold (script : Script) (from : ℕ) (plan : Plan) (ms : List ℕ) (rs : List Refused) (at : ℕ) : Type 0 where
  pub begun : from ≤ at
  pub made_from : (j a : ℕ) → slice_get ms j ≡ Some a → from ≤ a
  pub refused_from : (i : ℕ) (r : Refused) → slice_get rs i ≡ Some r → from ≤ r.at
  pub made : (j a : ℕ) → slice_get ms j ≡ Some a → (line : ℕ) × IsScheduleAt script a line
  pub made_below : (j a : ℕ) → slice_get ms j ≡ Some a → a < at
  pub rising : (i j a b : ℕ) → i < j → slice_get ms i ≡ Some a → slice_get ms j ≡ Some b → a < b
  pub refused : (i : ℕ) (r : Refused) → slice_get rs i ≡ Some r → IsRefusedAt script plan r
  pub refused_below : (i : ℕ) (r : Refused) → slice_get rs i ≡ Some r → r.at < at
  pub apart : (i j a : ℕ) (r : Refused) → slice_get ms j ≡ Some a → slice_get rs i ≡ Some r → r.at ≡ a → ⊥
  pub few : length rs ≤ at
  pub inside : length rs ≤ length script.statements.items

of_none : {A : Type 0} {z : A} (xs : List A) (i : ℕ) → xs ≡ [] → slice_get xs i ≡ Some z → ⊥
of_none [] i h e = none_some e
of_none (x ∷ xs) i h e = absurd (let long : length (x ∷ xs) ≡ 0 = ap length h in omega arith)

pub begins : (script : Script) (from : ℕ) (plan : Plan) (made : List ℕ) (refused : List Refused) → made ≡ [] → refused ≡ []
    → IsTold script from plan made refused from
begins script from plan made refused em er = record {
  begun = omega arith;
  made_from = λ j a e. absurd (of_none _ j em e);
  refused_from = λ i r e. absurd (of_none _ i er e);
  made = λ j a e. absurd (of_none _ j em e);
  made_below = λ j a e. absurd (of_none _ j em e);
  rising = λ i j a b lt e f. absurd (of_none _ i em e);
  refused = λ i r e. absurd (of_none _ i er e);
  refused_below = λ i r e. absurd (of_none _ i er e);
  apart = λ i j a r e f same. absurd (of_none _ j em e);
  few = let z : length refused ≡ 0 = ap length er in omega arith;
  inside = let z : length refused ≡ 0 = ap length er in omega arith;
}

pub skips : (script : Script) (from : ℕ) (plan : Plan) (made : List ℕ) (refused : List Refused) (at : ℕ)
    → IsTold script from plan made refused at → IsTold script from plan made refused (at + 1)
skips script from plan made refused at told = record {
  begun = let b = told.begun in omega arith;
  made_from = told.made_from;
  refused_from = told.refused_from;
  made = told.made;
  made_below = λ j a e. let below = told.made_below j a e in omega arith;
  rising = told.rising;
  refused = told.refused;
  refused_below = λ i r e. let below = told.refused_below i r e in omega arith;
  apart = told.apart;
  few = let some = told.few in omega arith;
  inside = told.inside;
}

-- what a mark gives

of_made : (at : ℕ) (m : Mark) (i a : ℕ) → slice_get (made_by at m) i ≡ Some a → (a ≡ at) × (m ≡ Starts)
of_made at Starts zero a e = (sym (some_is e), refl)
of_made at Starts (suc i) a e = absurd (none_some e)
of_made at (Says line name refusal) i a e = absurd (none_some e)

of_refused : (at : ℕ) (m : Mark) (i : ℕ) (r : Refused) → slice_get (refused_by at m) i ≡ Some r
    → (r.at ≡ at) × ((line : ℕ) × (m ≡ Says line r.name r.refusal))
of_refused at Starts i r e = absurd (none_some e)
of_refused at (Says line name refusal) zero r e =
    let is = some_is e in
    (ap (λ (q : Refused). q.at) (sym is), (line, ap (λ (q : Refused). Says line q.name q.refusal) is))
of_refused at (Says line name refusal) (suc i) r e = absurd (none_some e)

one_made : (at : ℕ) (m : Mark) → length (made_by at m) ≤ 1
one_made at Starts = omega arith
one_made at (Says line name refusal) = omega arith

one_refused : (at : ℕ) (m : Mark) → length (refused_by at m) ≤ 1
one_refused at Starts = omega arith
one_refused at (Says line name refusal) = omega arith

not_both : (m : Mark) (line : ℕ) (r : Refused) → m ≡ Starts → m ≡ Says line r.name r.refusal → ⊥
not_both m line r p q = cc

-- a schedule that left a mark
module _ (script : Script) (from : ℕ) (plan : Plan) (made made' : List ℕ) (refused refused' : List Refused) (at : ℕ) (x : Statement)
    (has : slice_get script.statements.items at ≡ Some x) (scheduled : is_schedule x.act ≡ true) (m : Mark) (n : ℕ)
    (marked : slice_get (marks_of plan.segments.items) n ≡ Some m) (fit : fits x.line m ≡ true)
    (em : made' ≡ made ++ made_by at m) (er : refused' ≡ refused ++ refused_by at m) (told : IsTold script from plan made refused at) where
  in_made : (j a : ℕ) → slice_get made' j ≡ Some a
      → ((j < length made) × (slice_get made j ≡ Some a)) ⊎ ((i : ℕ) × (j ≡ length made + i) × (slice_get (made_by at m) i ≡ Some a))
  in_made j a e = get_either made (made_by at m) j a (ap (λ ys. slice_get ys j) (sym em) ∙ e)

  in_refused : (k : ℕ) (r : Refused) → slice_get refused' k ≡ Some r
      → ((k < length refused) × (slice_get refused k ≡ Some r)) ⊎ ((i : ℕ) × (k ≡ length refused + i) × (slice_get (refused_by at m) i ≡ Some r))
  in_refused k r e = get_either refused (refused_by at m) k r (ap (λ ys. slice_get ys k) (sym er) ∙ e)

  here : (a : ℕ) → a ≡ at → IsScheduleAt script a x.line
  here a e = (x, ap (slice_get script.statements.items) e ∙ has, scheduled, refl)

  said : (r : Refused) (line : ℕ) → m ≡ Says line r.name r.refusal → IsSaid plan x.line r
  said r line e = (n, marked ∙ ap Some (e ∙ ap (λ k. Says k r.name r.refusal) (eqb-true line x.line (ap (fits x.line) (sym e) ∙ fit))))

  short : length made' ≤ length made + 1
  short = let sum = ap length em ∙ length-append made (made_by at m) in let one = one_made at m in omega arith

  rises : (i j a b : ℕ) → i < j → slice_get made' i ≡ Some a → slice_get made' j ≡ Some b → a < b
  rises i j a b lt e f = ⊎_elim
      (λ l. ⊎_elim
      (λ k. told.rising i j a b lt l.1 k.1)
      (λ k. let is = (of_made at m k.0 b k.2).0 in let below = told.made_below i a l.1 in omega arith)
      (in_made j b f))
      (λ r. let past = r.1 in let below = get_below made' j b f in let most = short in absurd (omega arith))
      (in_made i a e)

  apart : (i j a : ℕ) (r : Refused) → slice_get made' j ≡ Some a → slice_get refused' i ≡ Some r → r.at ≡ a → ⊥
  apart i j a r e f same = ⊎_elim
      (λ l. ⊎_elim
      (λ k. told.apart i j a r l.1 k.1 same)
      (λ k. let is = (of_refused at m k.0 r k.2).0 in let below = told.made_below j a l.1 in omega arith)
      (in_refused i r f))
      (λ l. ⊎_elim
      (λ k. let is = (of_made at m l.0 a l.2).0 in let below = told.refused_below i r k.1 in omega arith)
      (λ k. not_both m _ r (of_made at m l.0 a l.2).1 (of_refused at m k.0 r k.2).1.1)
      (in_refused i r f))
      (in_made j a e)

  pub tells : IsTold script from plan made' refused' (at + 1)
  tells = record {
    begun = let b = told.begun in omega arith;
    made_from = λ j a e. ⊎_elim
        (λ l. told.made_from j a l.1)
        (λ r. let is = (of_made at m r.0 a r.2).0 in let b = told.begun in omega arith)
        (in_made j a e);
    refused_from = λ k r e. ⊎_elim
        (λ l. told.refused_from k r l.1)
        (λ q. let is = (of_refused at m q.0 r q.2).0 in let b = told.begun in omega arith)
        (in_refused k r e);
    made = λ j a e. ⊎_elim (λ l. told.made j a l.1) (λ r. (x.line, here a (of_made at m r.0 a r.2).0)) (in_made j a e);
    made_below = λ j a e. ⊎_elim
        (λ l. let below = told.made_below j a l.1 in omega arith)
        (λ r. let is = (of_made at m r.0 a r.2).0 in omega arith)
        (in_made j a e);
    rising = rises;
    refused = λ k r e. ⊎_elim
        (λ l. told.refused k r l.1)
        (λ q. let w = of_refused at m q.0 r q.2 in (x.line, here r.at w.0, said r w.1.0 w.1.1))
        (in_refused k r e);
    refused_below = λ k r e. ⊎_elim
        (λ l. let below = told.refused_below k r l.1 in omega arith)
        (λ q. let is = (of_refused at m q.0 r q.2).0 in omega arith)
        (in_refused k r e);
    apart = apart;
    few = let sum = ap length er ∙ length-append refused (refused_by at m) in let one = one_refused at m in let some = told.few in omega arith;
    inside = let sum = ap length er ∙ length-append refused (refused_by at m) in let one = one_refused at m in let some = told.few in
        let below = get_below script.statements.items at x has in omega arith;
  }

pub ends : (script : Script) (part : Part) (plan : Plan) (story : Story) (at to : ℕ) → (at ≤ to) ⊎ (at ≤ part.from) → to ≤ part.to
    → IsTold script part.from plan story.made.items story.refused.items at → IsStoryIn script part plan story
ends script part plan story at to within inside told = record {
  made_in = λ j a e. let low = told.made_from j a e in let below = told.made_below j a e in
      (low, ⊎_elim (λ w. omega (arith, low, below, w, inside)) (λ w. absurd (omega (arith, low, below, w))) within);
  refused_in = λ i r e. let low = told.refused_from i r e in let below = told.refused_below i r e in
      (low, ⊎_elim (λ w. omega (arith, low, below, w, inside)) (λ w. absurd (omega (arith, low, below, w))) within);
  made = told.made;
  rising = told.rising;
  refused = told.refused;
  apart = λ i j a r e f same. told.apart i j a r e f same;
  few = told.inside;
}

-- THE WHOLE

pub of_whole : {E : Type 0} (script : Script) (part : Part) (plan : Plan) (r : Result Story E) → part ≡ whole script → IfOk r (IsStoryIn script part plan)
    → IfOk r (IsStoryIn script (whole script) plan)
of_whole script part plan r is all = subst (λ (p : Part). IfOk r (IsStoryIn script p plan)) is all

pub all_of_whole : {E : Type 0} (script : Script) (part : Part) (plan : Plan) (r : Result Story E) → part ≡ whole script
    → (part.to ≤ length script.statements.items → IfOk r (TellsAllIn script part plan)) → IfOk r (TellsAllIn script (whole script) plan)
all_of_whole script part plan r is all =
    subst (λ (p : Part). p.to ≤ length script.statements.items → IfOk r (TellsAllIn script p plan)) is all (omega arith)
