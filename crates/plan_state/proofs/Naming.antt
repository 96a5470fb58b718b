-- Names that stand for something else: each still stands for what it does in the script.
use Rattle.std.proofs.Common.{◌≡◌, ◌≢◌, ℕ, zero, suc, ◌+◌, ◌<◌, ◌≤◌, ◌⊎◌, inl, inr, ⊎_elim, List, [], ◌∷◌, ◌++◌, length, take, Bool, true, false, ◌||◌, Option, Some, None, refl, sym, ap, subst, ◌∙◌, arith}
use Rattle.std.specs.Prelude.{slice_get, slice_set, get_or, option_map, Vec}
use Rattle.std.specs.declared.alloc.Global.{Global}
use Rattle.std.proofs.Math.Seq.{take-suc}
use Rattle.std.proofs.lemmas.List.{length-append}
use Rattle.frame_ast.specs.Jobs.{Jobs}
use Rattle.frame_ast.specs.Refusals.{jobs_named}
use Rattle.frame_ast.specs.States as states
use Rattle.frame_ast.specs.States.{ScriptState}
use Rattle.frame_core.proofs.Small.{some_is, none_some, get_below, get_before, get_behind}
use Rattle.job_handle.specs.declared.handle.Handle.{Handle}
use Rattle.job_handle.specs.Sets.{jobs_of}
use Rattle.plan_state.specs.declared.state.Value.{Value}
use Rattle.plan_state.specs.declared.state.Value.TheVariants.{Dead, Whole, Slice, View, Jobs as Handles}
use Rattle.plan_state.specs.declared.state.Planner.{Planner}
use Rattle.plan_state.specs.declared.state.World.{World}
use Rattle.plan_state.specs.Stands.{jobs_at, value_for, IsThere, AreNames}
use Rattle.plan_state.specs.Accesses.{HasHandle, jobs_by, jobs_for, jobs_in, jobs_of_value}
use Rattle.plan_state.proofs.Accessing.{there}

-- a place of a list that was set
pub set_either : {A : Type 0} (xs : List A) (n : ℕ) (y : A) (k : ℕ) (z : A) → slice_get (slice_set xs n y) k ≡ Some z
    → ((k ≡ n) × (z ≡ y)) ⊎ ((k ≢ n) × (slice_get xs k ≡ Some z))
set_either [] n y k z e = absurd (none_some e)
set_either (x ∷ xs) zero y zero z e = inl (refl, sym (some_is e))
set_either (x ∷ xs) zero y (suc k) z e = inr (λ h. omega arith, e)
set_either (x ∷ xs) (suc n) y zero z e = inr (λ h. omega arith, e)
set_either (x ∷ xs) (suc n) y (suc k) z e = ⊎_elim (λ u. inl (ap suc u.0, u.1)) (λ u. inr (λ h. u.0 (omega arith), u.1)) (set_either xs n y k z e)

pub set_long : {A : Type 0} (xs : List A) (n : ℕ) (y : A) → length (slice_set xs n y) ≡ length xs
set_long [] n y = refl
set_long (x ∷ xs) zero y = refl
set_long (x ∷ xs) (suc n) y = ap suc (set_long xs n y)

pub set_same : {A : Type 0} (xs : List A) (n : ℕ) (y : A) → slice_get xs n ≡ Some y → slice_set xs n y ≡ xs
set_same [] n y e = refl
set_same (x ∷ xs) zero y e = ap (λ z. z ∷ xs) (sym (some_is e))
set_same (x ∷ xs) (suc n) y e = ap (λ l. x ∷ l) (set_same xs n y e)

pub get_set : {A : Type 0} (xs : List A) (n : ℕ) (y : A) → n < length xs → slice_get (slice_set xs n y) n ≡ Some y
get_set [] n y lt = absurd (omega arith)
get_set (x ∷ xs) zero y lt = refl
get_set (x ∷ xs) (suc n) y lt = get_set xs n y (omega arith)

pub get_other : {A : Type 0} (xs : List A) (n : ℕ) (y : A) (k : ℕ) → k ≢ n → slice_get (slice_set xs n y) k ≡ slice_get xs k
get_other [] n y k ne = refl
get_other (x ∷ xs) zero y zero ne = absurd (ne refl)
get_other (x ∷ xs) zero y (suc k) ne = refl
get_other (x ∷ xs) (suc n) y zero ne = refl
get_other (x ∷ xs) (suc n) y (suc k) ne = get_other xs n y k (λ e. ne (ap suc e))

-- ---- the handles of names

-- a name has a place
pub own_place : (old : World) (handles : Vec Handle Global) (name place : ℕ) (h : Handle) (jobs : Jobs)
    → slice_get old.values.items name ≡ Some (Handles place) → place < length old.handles.items
    → handles.items ≡ slice_set old.handles.items place h → jobs_of h ≡ jobs → HasHandle old (record old { handles = handles }) name jobs
own_place old handles name place h jobs is lt set them = record {
  place = place;
  values = sym (set_same old.values.items name (Handles place) is);
  here = sym (ap (λ hs. option_map jobs_of (slice_get hs place)) set ∙ ap (option_map jobs_of) (get_set old.handles.items place h lt) ∙ ap Some them);
  others = λ k ne below. ap (λ hs. slice_get hs k) set ∙ get_other old.handles.items place h k ne;
  own = inl (is, ap length set ∙ set_long old.handles.items place h);
  rest = refl;
}

-- or gets one
pub new_place : (old : World) (values : Vec Value Global) (handles : Vec Handle Global) (name place : ℕ) (h : Handle) → place ≡ length old.handles.items
    → handles.items ≡ old.handles.items ++ h ∷ [] → values.items ≡ slice_set old.values.items name (Handles place)
    → HasHandle old (record old { values = values; handles = handles }) name (jobs_of h)
new_place old values handles name place h is pushed set = record {
  place = place;
  values = set;
  here = sym (ap (λ hs. option_map jobs_of (slice_get hs place)) pushed ∙ ap (option_map jobs_of) at_end);
  others = λ k ne below. ap (λ hs. slice_get hs k) pushed ∙ get_before old.handles.items (h ∷ []) k below;
  own = inr (is, ap length pushed ∙ length-append old.handles.items (h ∷ []) ∙ (let e = is in omega arith));
  rest = refl;
}
  where
    at_end : slice_get (old.handles.items ++ h ∷ []) place ≡ Some h
    at_end = (let e : place ≡ length old.handles.items + 0 = omega arith in ap (slice_get (old.handles.items ++ h ∷ [])) e)
        ∙ get_behind old.handles.items (h ∷ []) 0

-- the jobs of some names, and of one more
jobs_both : (handles : List Handle) (values : List Value) (xs : List ℕ) (n : ℕ) (j : ℕ)
    → jobs_by handles values (xs ++ n ∷ []) j ≡ (jobs_by handles values xs j || jobs_for handles (slice_get values n) j)
jobs_both handles values [] n j = or_none (jobs_for handles (slice_get values n) j)
  where
    or_none : (b : Bool) → (b || false) ≡ b
    or_none true = refl
    or_none false = refl
jobs_both handles values (x ∷ xs) n j =
    ap (λ b. jobs_for handles (slice_get values x) j || b) (jobs_both handles values xs n j)
    ∙ or_again (jobs_for handles (slice_get values x) j) (jobs_by handles values xs j) (jobs_for handles (slice_get values n) j)
  where
    or_again : (a b c : Bool) → (a || (b || c)) ≡ ((a || b) || c)
    or_again true b c = refl
    or_again false b c = refl

pub jobs_more : (handles : List Handle) (values : List Value) (names : List ℕ) (i n d : ℕ) (v : Value) (all more : Handle)
    → ((j : ℕ) → jobs_of all j ≡ jobs_by handles values (take i names) j) → i < length names → get_or names i d ≡ n → slice_get values n ≡ Some v
    → ((j : ℕ) → jobs_of more j ≡ (jobs_of all j || jobs_of_value handles v j)) → (j : ℕ)
    → jobs_of more j ≡ jobs_by handles values (take (i + 1) names) j
jobs_more handles values names i n d v all more so_far lt is read joined j =
    let next : i + 1 ≡ suc i = omega arith in
    let split : take (i + 1) names ≡ take i names ++ n ∷ [] = ap (λ k. take k names) next ∙ take-suc names i d lt ∙ ap (λ m. take i names ++ m ∷ []) is in
    joined j
    ∙ ap (λ b. b || jobs_of_value handles v j) (so_far j)
    ∙ ap (λ f. jobs_by handles values (take i names) j || f j) (ap (jobs_for handles) (sym read))
    ∙ sym (jobs_both handles values (take i names) n j)
    ∙ ap (λ xs. jobs_by handles values xs j) (sym split)

-- a value that stands for no jobs adds none
pub none_joined : (handles : List Handle) (v : Value) → ((k : ℕ) → v ≡ Handles k → ⊥) → (b : Bool) (j : ℕ) → b ≡ (b || jobs_of_value handles v j)
none_joined handles (Handles k) none b j = absurd (none k refl)
none_joined handles v none b j = by b
  where
    by : (b : Bool) → b ≡ (b || false)
    by true = refl
    by false = refl

-- the script's names but for one
pub record IsNamed (s t : ScriptState) (name : ℕ) (v : states.Value) : Type 0 where
  pub here : t.values name ≡ v
  pub others : (m : ℕ) → m ≢ name → t.values m ≡ s.values m

-- no name changed
pub same_names : (values : List Value) (handles : List Handle) (made : ℕ) (s t : ScriptState) → t.values ≡ s.values → AreNames values handles made s
    → AreNames values handles made t
same_names values handles made s t e a = record { are = λ n v h. a.are n v h ∙ ap (λ f. f n) (sym e); there = a.there; apart = a.apart }

-- one stands for no jobs now
module _ (values new : List Value) (handles : List Handle) (made : ℕ) (s t : ScriptState) (name : ℕ) (v : Value) (w : states.Value)
    (was : AreNames values handles made s) (is : new ≡ slice_set values name v) (there : IsThere made (length handles) v) (none : (k : ℕ) → v ≡ Handles k → ⊥)
    (stands : value_for handles v ≡ w) (named : IsNamed s t name w) where
  which : (n : ℕ) (u : Value) → slice_get new n ≡ Some u → ((n ≡ name) × (u ≡ v)) ⊎ ((n ≢ name) × (slice_get values n ≡ Some u))
  which n u h = set_either values name v n u (ap (λ vs. slice_get vs n) (sym is) ∙ h)

  old_jobs : (n k : ℕ) → slice_get new n ≡ Some (Handles k) → slice_get values n ≡ Some (Handles k)
  old_jobs n k h = ⊎_elim (λ l. absurd (none k (sym l.1))) (λ r. r.1) (which n (Handles k) h)

  pub renamed_names : AreNames new handles made t
  renamed_names = record {
    are = λ n u h. ⊎_elim
        (λ l. ap (value_for handles) l.1 ∙ stands ∙ sym named.here ∙ ap t.values (sym l.0))
        (λ r. was.are n u r.1 ∙ sym (named.others n r.0))
        (which n u h);
    there = λ n u h. ⊎_elim (λ l. subst (IsThere made (length handles)) (sym l.1) there) (λ r. was.there n u r.1) (which n u h);
    apart = λ n m k hn hm. was.apart n m k (old_jobs n k hn) (old_jobs m k hm);
  }

-- the jobs at a place
here_are : (o : Option Handle) (jobs : Jobs) → Some jobs ≡ option_map jobs_of o → (jobs_at o ≡ states.Handle jobs) × ((h : Handle) × (o ≡ Some h))
here_are None jobs e = absurd (none_some (sym e))
here_are (Some h) jobs e = (ap states.Handle (sym (some_is e)), (h, refl))

-- one stands for some jobs now
module _ (p q : World) (made : ℕ) (s t : ScriptState) (name : ℕ) (jobs : Jobs)
    (was : AreNames p.values.items p.handles.items made s) (has : HasHandle p q name jobs) (named : IsNamed s t name (states.Handle jobs)) where
  given : (jobs_at (slice_get q.handles.items has.place) ≡ states.Handle jobs) × ((h : Handle) × (slice_get q.handles.items has.place ≡ Some h))
  given = here_are (slice_get q.handles.items has.place) jobs has.here

  is_there : has.place < length q.handles.items
  is_there = get_below q.handles.items has.place given.1.0 given.1.1

  pub handles_more : (length p.handles.items ≤ length q.handles.items) × (length q.handles.items ≤ suc (length p.handles.items))
  handles_more = ⊎_elim
      (λ l. (let e = l.1 in omega arith, let e = l.1 in omega arith))
      (λ r. (let e = r.0 in let f = r.1 in omega arith, let e = r.0 in let f = r.1 in omega arith))
      has.own

  which_one : (n : ℕ) (u : Value) → slice_get q.values.items n ≡ Some u → ((n ≡ name) × (u ≡ Handles has.place))
      ⊎ ((n ≢ name) × (slice_get p.values.items n ≡ Some u))
  which_one n u h = set_either p.values.items name (Handles has.place) n u (ap (λ vs. slice_get vs n) (sym has.values) ∙ h)

  -- another name's place is another one
  other_place : (n k : ℕ) → n ≢ name → slice_get p.values.items n ≡ Some (Handles k) → k ≢ has.place
  other_place n k ne h e = ⊎_elim
      (λ l. ne (was.apart n name k h (l.0 ∙ ap (λ k. Some (Handles k)) (sym e))))
      (λ r. let lt : k < length p.handles.items = was.there n (Handles k) h in let at = r.0 in omega arith)
      has.own

  kept : (n : ℕ) (u : Value) → n ≢ name → slice_get p.values.items n ≡ Some u → value_for q.handles.items u ≡ value_for p.handles.items u
  kept n Dead ne h = refl
  kept n (Whole c) ne h = refl
  kept n (Slice c start len) ne h = refl
  kept n (View c number) ne h = refl
  kept n (Handles k) ne h = ap jobs_at (has.others k (other_place n k ne h) (was.there n (Handles k) h))

  more : (u : Value) → IsThere made (length p.handles.items) u → IsThere made (length q.handles.items) u
  more Dead h = tt
  more (Whole c) h = h
  more (Slice c start len) h = h
  more (View c number) h = h
  more (Handles k) h = let le = handles_more.0 in omega arith

  one_place : (n k : ℕ) → slice_get q.values.items n ≡ Some (Handles k) → ((n ≡ name) × (k ≡ has.place))
      ⊎ ((n ≢ name) × (slice_get p.values.items n ≡ Some (Handles k)))
  one_place n k h = ⊎_elim (λ l. inl (l.0, same l.1)) (λ r. inr r) (which_one n (Handles k) h)
    where
      same : {k j : ℕ} → Handles k ≡ Handles j → k ≡ j
      same e = cc

  pub handle_names : AreNames q.values.items q.handles.items made t
  handle_names = record {
    are = λ n u h. ⊎_elim
        (λ l. ap (value_for q.handles.items) l.1 ∙ given.0 ∙ sym named.here ∙ ap t.values (sym l.0))
        (λ r. kept n u r.0 r.1 ∙ was.are n u r.1 ∙ sym (named.others n r.0))
        (which_one n u h);
    there = λ n u h. ⊎_elim (λ l. subst (IsThere made (length q.handles.items)) (sym l.1) is_there) (λ r. more u (was.there n u r.1)) (which_one n u h);
    apart = λ n m k hn hm. ⊎_elim
        (λ l. ⊎_elim (λ e. l.0 ∙ sym e.0) (λ r. absurd (other_place m k r.0 r.1 l.1)) (one_place m k hm))
        (λ r. ⊎_elim (λ e. absurd (other_place n k r.0 r.1 e.1)) (λ u. was.apart n m k r.1 u.1) (one_place m k hm))
        (one_place n k hn);
  }

-- ---- the jobs of several names

jobs_value : (handles : List Handle) (v : Value) → jobs_of_value handles v ≡ states.jobs_of (value_for handles v)
jobs_value handles Dead = refl
jobs_value handles (Whole c) = refl
jobs_value handles (Slice c start len) = refl
jobs_value handles (View c number) = refl
jobs_value handles (Handles k) = by (slice_get handles k)
  where
    by : (o : Option Handle) → jobs_in o ≡ states.jobs_of (jobs_at o)
    by None = refl
    by (Some h) = refl

pub jobs_are : (p : Planner) (s : ScriptState) (made : ℕ) → AreNames p.world.values.items p.world.handles.items made s → (names : List ℕ)
    → ((k d : ℕ) → k < length names → get_or names k d < length p.world.values.items) → (j : ℕ)
    → jobs_by p.world.handles.items p.world.values.items names j ≡ jobs_named s names j
jobs_are p s made are [] below j = refl
jobs_are p s made are (x ∷ xs) below j =
    let t = there p.world.values.items x (below 0 0 (omega arith)) in
    let here = ap (λ o. jobs_for p.world.handles.items o j) t.1 ∙ ap (λ f. f j) (jobs_value p.world.handles.items t.0)
    ∙ ap (λ v. states.jobs_of v j) (are.are x t.0 t.1) in
    λ i. here i || jobs_are p s made are xs (λ k d lt. below (suc k) d (omega arith)) j i
