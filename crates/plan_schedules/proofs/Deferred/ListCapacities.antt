-- No list of an accepted script can have more elements than the language lets a list have.
use Rattle.std.proofs.Common.{◌≡◌, ℕ, zero, suc, ◌+◌, ◌<◌, ◌≤◌, ◌⊎◌, inl, inr, ⊎_elim, true, false, List, [], ◌∷◌, take, Option, Some, None, Result, Ok, Err, refl, sym, ap, subst, ◌∙◌, arith}
use Rattle.std.specs.Prelude.{slice_get, nat_eq, if◌then◌else◌}
use Rattle.std.proofs.lemmas.Bool.{and_parts, leb-true, eq-eqb, cases_lt}
use Rattle.job_base.specs.declared.limits.TheConstants.{MOST_ELEMENTS}
use Rattle.job_base.specs.declared.Trap.{Trap}
use Rattle.frame_ast.specs.declared.name_kind.NameKind.TheVariants as kind
use Rattle.frame_ast.specs.declared.script.Order.{Order}
use Rattle.frame_ast.specs.declared.script.Order.TheVariants.{Array, Column, List as NewList, Reference, Map, Stream, Set, Add, Put, Remove, Clear, SetCapacity, Schedule, Dispose}
use Rattle.frame_ast.specs.declared.script.Script.{Script}
use Rattle.frame_ast.specs.declared.script.Statement.{Statement}
use Rattle.frame_ast.specs.Accepted.{IsAccepted, Names, makes, uses, up_to, order_fits}
use Rattle.frame_ast.specs.Checks.{refusal}
use Rattle.frame_ast.specs.Contents.{Contents, Cells, Single, Items, Pairs, Entries, cleared}
use Rattle.frame_ast.specs.Effects.{list_broken, views_broken, changed, effect}
use Rattle.frame_ast.specs.Forms.{form_of, form_after}
use Rattle.frame_ast.specs.Kinds.{HoldsKinds}
use Rattle.frame_ast.specs.Orders.{Table, Setting, setting, new_array, new_list, capacity_in}
use Rattle.frame_ast.specs.Refusals.{Refused}
use Rattle.frame_ast.specs.Scripts.{act, act_or_pass, decided, act_all}
use Rattle.frame_ast.specs.States.{ScriptState, at_start, container_at, contents_at, with_at}
use Rattle.frame_ast.proofs.Keeping.{RunsKeep, runs_keep}
use Rattle.frame_ast.proofs.Leaving.{accept_after}
use Rattle.frame_ast.proofs.NameKinds.{names_keep_their_kinds}
use Rattle.frame_ast.proofs.Naming.{args_of, fits_there}
use Rattle.frame_ast.proofs.Refusing.{refused_changes_little}
use Rattle.frame_ast.proofs.StatementForms.{statements_keep_forms}
use Rattle.frame_core.proofs.Small.{none_some}
use Rattle.defer_laws.specs.Deferring.{capacity_of}
use Rattle.plan_state.specs.Steps.{state_at}
use Rattle.plan_state.proofs.Reaching.{next_state}

abbrev pub IsSmall : Contents → Type 0
IsSmall c = capacity_of c ≤ MOST_ELEMENTS

abbrev pub AreSmall : ScriptState → Type 0
AreSmall s = (c : ℕ) → c < s.made → IsSmall (s.contents c)

-- the capacity rests on the form
form_capacity : (c : Contents) → capacity_of (form_of c) ≡ capacity_of c
form_capacity (Cells xs) = refl
form_capacity (Single z) = refl
form_capacity (Items cap xs) = refl
form_capacity (Pairs cap ps) = refl
form_capacity (Entries room es) = refl

-- ---- a statement makes a small container or none

abbrev Makes : ScriptState → ScriptState → Type 0
Makes s t = (t.made ≡ s.made) ⊎ ((t.made ≡ s.made + 1) × IsSmall (t.contents s.made))

at_made : (f : ℕ → Contents) (m : ℕ) (c : Contents) → IsSmall c → IsSmall (with_at f m c m)
at_made f m c h = subst (λ b. IsSmall (if b then c else f m)) (sym (eq-eqb m m refl)) h

array_small : (g : Setting) (len : ℕ) (values : Option ℕ) → IsSmall (new_array g len values)
array_small g len None = omega arith
array_small g len (Some n) = omega arith

changed_made : (name : ℕ) (r : Result Contents Trap) (s : ScriptState) → (changed name r s).made ≡ s.made
changed_made name (Ok c) s = refl
changed_made name (Err t) s = refl

broken_made : (contents : Contents) (c : ℕ) (s : ScriptState) → (list_broken contents c s).made ≡ s.made
broken_made (Cells xs) c s = refl
broken_made (Single z) c s = refl
broken_made (Items cap xs) c s = refl
broken_made (Pairs cap ps) c s = refl
broken_made (Entries room es) c s = refl

resized_made : (name : ℕ) (r : Result Contents Trap) (s : ScriptState) → (views_broken name (changed name r s)).made ≡ s.made
resized_made name r s = broken_made (contents_at (changed name r s) name) (container_at (changed name r s) name) (changed name r s) ∙ changed_made name r s

effect_makes : (g : Setting) → RunsKeep g.runs → (line : ℕ) (ns : Names) (rest inside : ℕ) (s : ScriptState) (x : Order)
    → order_fits ns g.literals g.kernels rest inside x ≡ true → HoldsKinds ns.kinds s → Makes s (effect g line s x)
effect_makes g keep line ns rest inside s (Array name len life values) fits k = inr (refl, at_made s.contents s.made _ (array_small g len values))
effect_makes g keep line ns rest inside s (Column name column life) fits k = inr (refl, at_made s.contents s.made _ (omega arith))
effect_makes g keep line ns rest inside s (NewList name cap life) fits k =
    inr (refl, at_made s.contents s.made _ (leb-true cap MOST_ELEMENTS (and_parts (makes ns name kind.List) (up_to MOST_ELEMENTS cap) fits).1))
effect_makes g keep line ns rest inside s (Reference name life value) fits k = inr (refl, at_made s.contents s.made _ (omega arith))
effect_makes g keep line ns rest inside s (Map name cap life) fits k = inr (refl, at_made s.contents s.made _ (omega arith))
effect_makes g keep line ns rest inside s (Stream name count room life) fits k = inr (refl, at_made s.contents s.made _ (omega arith))
effect_makes g keep line ns rest inside s (Set name at value) fits k = inl (changed_made name _ s)
effect_makes g keep line ns rest inside s (Add name first second) fits k = inl (resized_made name _ s)
effect_makes g keep line ns rest inside s (Put name key value) fits k = inl (changed_made name _ s)
effect_makes g keep line ns rest inside s (Remove name at) fits k = inl (resized_made name _ s)
effect_makes g keep line ns rest inside s (Clear name) fits k = inl (resized_made name (Ok (cleared (contents_at s name))) s)
effect_makes g keep line ns rest inside s (SetCapacity name cap) fits k = inl (resized_made name (capacity_in (contents_at s name) cap) s)
effect_makes g keep line ns rest inside s (Schedule job) fits k =
    let both = and_parts (makes ns job.value.handle kind.Handle) _ fits in
    inl (accept_after g keep ns s job.value.auto job.value.handle job.value.kernel job.value.args.items job.value.cut job.value.defer job.value.waive.items
    job.value.after.items (args_of ns (slice_get g.kernels job.value.kernel) job.value.args.items job.value.cut job.value.defer job.value.waive.items
    job.value.after.items both.1) k).made
effect_makes g keep line ns rest inside s (Dispose name after None) fits k = inl refl
effect_makes g keep line ns rest inside s (Dispose name after (Some handle)) fits k = inl refl
effect_makes g keep line ns rest inside s x fits k = inl refl

-- and `setcapacity` gives a small capacity
module _ (s : ScriptState) (small : AreSmall s) (c : ℕ) (below : c < s.made) where
  form_small : IsSmall (form_of (s.contents c))
  form_small = let e = form_capacity (s.contents c) in let h = small c below in omega arith

  after_small : (ns : Names) (g : Setting) (rest inside : ℕ) (x : Order) → order_fits ns g.literals g.kernels rest inside x ≡ true → IsSmall (form_after s x c)
  after_small ns g rest inside (SetCapacity name cap) fits =
      let le = leb-true cap MOST_ELEMENTS (and_parts (uses ns name (kind.List ∷ [])) (up_to MOST_ELEMENTS cap) fits).1 in
      elim (nat_eq c (container_at s name)) as (λ b. IsSmall (if b then new_list cap else form_of (s.contents c))) [ true ↦ le | false ↦ form_small ]
  after_small ns g rest inside x fits = form_small

-- ---- along a script

module _ (script : Script) (is : IsAccepted script) (table : Table) where
  abbrev g : Setting
  g = setting script table

  module _ (n : ℕ) (x : Statement) (at : slice_get script.statements.items n ≡ Some x) (small : AreSmall (state_at script table n)) where
    abbrev s : ScriptState
    s = state_at script table n

    effect_small : refusal g s x.act ≡ None → AreSmall (effect g x.line s x.act)
    effect_small none c below =
        let fits = fits_there g is.kinds 0 0 script.statements.items n x is.fits at in
        let ns : Names = record { kinds = is.kinds; made = fits.made } in
        let t : ScriptState = effect g x.line s x.act in
        let old : c < s.made → IsSmall (t.contents c) = λ lt.
        let form = statements_keep_forms script is table n x at none c lt in
        let e = sym (form_capacity (t.contents c)) ∙ ap capacity_of form in
        let h = after_small s small c lt ns g fits.rest fits.inside x.act fits.fits in omega arith in
        ⊎_elim
        (λ (e : t.made ≡ s.made). old (omega arith))
        (λ (u : (t.made ≡ s.made + 1) × IsSmall (t.contents s.made)). ⊎_elim old
        (λ le. let same : s.made ≡ c = (let e = u.0 in omega arith) in subst (λ c. IsSmall (t.contents c)) same u.1) (cases_lt c s.made))
        (effect_makes g (runs_keep script.kernels.items is.kernels) x.line ns fits.rest fits.inside s x.act fits.fits
        (names_keep_their_kinds script is table n))

    act_small : AreSmall (act g s x)
    act_small = passing s.passing refl
      where
        decides : s.passing ≡ 0 → (o : Option Refused) → refusal g s x.act ≡ o → act g s x ≡ decided o g s x → AreSmall (act g s x)
        decides pass None none e = subst AreSmall (sym e) (effect_small none)
        decides pass (Some r) some e = λ c below.
            let like = refused_changes_little g s x r pass some in
            let m = like.count in
            subst (λ (f : ℕ → Contents). IsSmall (f c)) (sym like.contents) (small c (omega arith))

        passing : (k : ℕ) → s.passing ≡ k → AreSmall (act g s x)
        passing zero e = decides e (refusal g s x.act) refl (ap (λ k. act_or_pass k g s x) e)
        passing (suc k) e = subst AreSmall (sym (ap (λ k. act_or_pass k g s x) e)) small

  take_all : (xs : List Statement) (n : ℕ) → slice_get xs n ≡ None → take (suc n) xs ≡ take n xs
  take_all [] zero e = refl
  take_all [] (suc n) e = refl
  take_all (x ∷ xs) zero e = absurd (none_some (sym e))
  take_all (x ∷ xs) (suc n) e = ap (λ ys. x ∷ ys) (take_all xs n e)

  pub capacities_are_small : (n : ℕ) → AreSmall (state_at script table n)
  capacities_are_small zero = λ c below. absurd (omega arith)
  capacities_are_small (suc n) = by (slice_get script.statements.items n) refl (capacities_are_small n)
    where
      by : (o : Option Statement) → slice_get script.statements.items n ≡ o → AreSmall (state_at script table n) → AreSmall (state_at script table (suc n))
      by (Some x) at small = subst AreSmall (next_state script table n x at) (act_small n x at small)
      by None at small = subst (λ xs. AreSmall (act_all g xs at_start)) (sym (take_all script.statements.items n at)) small
