-- The arguments of an accepted schedule fit as values.
use Rattle.std.proofs.Common.{◌≡◌, refl, sym, ◌∙◌, subst, ◌⊎◌, inl, inr, ℕ, ◌<◌, Bool, true, false, ◌&&◌, List, [], ◌∷◌, ◌++◌, map, Option, None, Some, slice_get}
use Rattle.std.specs.Prelude.{not, nat_eq, find}
use Rattle.std.specs.List.{list_any}
use Rattle.std.proofs.lemmas.Bool.{and_parts, eqb-true, not-false, false≢true}
use Rattle.frame_ast.specs.declared.name_kind.NameKind.{NameKind}
use Rattle.frame_ast.specs.declared.name_kind.NameKind.TheVariants as kind
use Rattle.frame_ast.specs.declared.kernel.ParamKind.{ParamKind}
use Rattle.frame_ast.specs.declared.kernel.ParamKind.TheVariants.{Int, Array, List as KindList, Ref, Map, Stream}
use Rattle.frame_ast.specs.declared.kernel.Param.{Param}
use Rattle.frame_ast.specs.declared.kernel.Kernel.{Kernel}
use Rattle.frame_ast.specs.declared.script.Arg.{Arg}
use Rattle.frame_ast.specs.declared.script.Arg.TheVariants.{Name, Number}
use Rattle.frame_ast.specs.declared.script.Order.{Order}
use Rattle.frame_ast.specs.declared.script.Order.TheVariants.{Schedule}
use Rattle.frame_ast.specs.Contents.{Contents, Cells, Single, Items, Pairs, Entries}
use Rattle.frame_ast.specs.States.{Value, ScriptState, container_of, is_alive, is_stale}
use Rattle.frame_ast.specs.Schedules.{Given, given_args, given_length, givens}
use Rattle.frame_ast.specs.Orders.{Setting, setting, params_of, is_parallel}
use Rattle.frame_ast.specs.Checks.{refusal}
use Rattle.frame_ast.specs.Accepted.{same_kind, Names, kinds_for, is_int, is_deferred, makes, uses, batch_fits, guard_fits, cut_fits, defer_fits, arg_fits, args_fit, schedule_fits, order_fits}
use Rattle.frame_ast.specs.Kinds.{kind_of, IsOfKind, HoldsKinds}
use Rattle.frame_ast.specs.Fitting.{IsWhole, HasElements, FitsKind, NameFits, ArgsFit, LengthFits, FitsAsValues, ValuesFit}
use Rattle.frame_ast.proofs.Naming.{one_kind, is_used, args_of, fits_there}
use Rattle.frame_ast.proofs.NameKinds.{names_keep_their_kinds}
use Rattle.frame_ast.proofs.GivenKinds.{none_found}
use Rattle.frame_ast.proofs.Scheduled.{no_cause_given}

whole_fits : (s : ScriptState) (k : NameKind) (v : Value) → (k ≡ kind.Slice → ⊥) → (k ≡ kind.View → ⊥) → is_alive s v ≡ true → IsOfKind s k v → IsWhole s k v
whole_fits s k Value.Dead slice view alive is = absurd (false≢true alive)
whole_fits s k (Value.Whole c) slice view alive is = sym is.0
whole_fits s k (Value.Slice c start len) slice view alive is = absurd (slice is.0)
whole_fits s k (Value.View c number) slice view alive is = absurd (view is.0)
whole_fits s k (Value.Handle jobs) slice view alive is = absurd (false≢true alive)

-- a name of one kind alone
one_fits : (s : ScriptState) (want k : NameKind) (v : Value) → (want ≡ kind.Slice → ⊥) → (want ≡ kind.View → ⊥) → list_any (same_kind k) (want ∷ []) ≡ true
    → is_alive s v ≡ true → IsOfKind s k v → IsWhole s want v
one_fits s want k v slice view fits alive is =
    let same : k ≡ want = one_kind k want fits in
    subst (λ j. IsWhole s j v) same (whole_fits s k v (λ e. slice (sym same ∙ e)) (λ e. view (sym same ∙ e)) alive is)

whole_elements : (deferred : Bool) (c : Contents) → list_any (same_kind (kind_of c)) (kinds_for Array deferred) ≡ true
    → (kind_of c ≡ kind.Array) ⊎ ((deferred ≡ true) × (kind_of c ≡ kind.List))
whole_elements deferred (Cells xs) h = inl refl
whole_elements true (Single z) h = absurd (false≢true h)
whole_elements false (Single z) h = absurd (false≢true h)
whole_elements true (Items cap xs) h = inr (refl, refl)
whole_elements false (Items cap xs) h = absurd (false≢true h)
whole_elements true (Pairs cap ps) h = absurd (false≢true h)
whole_elements false (Pairs cap ps) h = absurd (false≢true h)
whole_elements true (Entries room es) h = absurd (false≢true h)
whole_elements false (Entries room es) h = absurd (false≢true h)

elements_fit : (s : ScriptState) (deferred : Bool) (k : NameKind) (v : Value) → list_any (same_kind k) (kinds_for Array deferred) ≡ true → is_alive s v ≡ true
    → is_stale s v ≡ false → IsOfKind s k v → HasElements s deferred v
elements_fit s deferred k Value.Dead fits alive fresh is = absurd (false≢true alive)
elements_fit s deferred k (Value.Whole c) fits alive fresh is = whole_elements deferred (s.contents c)
    (subst (λ j. list_any (same_kind j) (kinds_for Array deferred) ≡ true) is.0 fits)
elements_fit s deferred k (Value.Slice c start len) fits alive fresh is = (is.2, is.3)
elements_fit s deferred k (Value.View c number) fits alive fresh is = (is.2, eqb-true number (s.view c) (not-false (nat_eq number (s.view c)) fresh))
elements_fit s deferred k (Value.Handle jobs) fits alive fresh is = absurd (false≢true alive)

kind_fits : (s : ScriptState) (deferred : Bool) (param : ParamKind) (k : NameKind) (v : Value) → list_any (same_kind k) (kinds_for param deferred) ≡ true
    → is_alive s v ≡ true → is_stale s v ≡ false → IsOfKind s k v → FitsKind s deferred param v
kind_fits s deferred Int k v fits alive fresh is = absurd (false≢true fits)
kind_fits s deferred Array k v fits alive fresh is = elements_fit s deferred k v fits alive fresh is
kind_fits s deferred KindList k v fits alive fresh is = one_fits s kind.List k v (λ e. absurd cc) (λ e. absurd cc) fits alive is
kind_fits s deferred Ref k v fits alive fresh is = one_fits s kind.Reference k v (λ e. absurd cc) (λ e. absurd cc) fits alive is
kind_fits s deferred Map k v fits alive fresh is = one_fits s kind.Map k v (λ e. absurd cc) (λ e. absurd cc) fits alive is
kind_fits s deferred Stream k v fits alive fresh is = one_fits s kind.Stream k v (λ e. absurd cc) (λ e. absurd cc) fits alive is

lives_there : (s : ScriptState) (k : NameKind) (v : Value) → is_alive s v ≡ true → IsOfKind s k v
    → (container_of v < s.made) × (s.alive (container_of v) ≡ true)
lives_there s k Value.Dead alive is = absurd (false≢true alive)
lives_there s k (Value.Whole c) alive is = (is.1, alive)
lives_there s k (Value.Slice c start len) alive is = (is.1, alive)
lives_there s k (Value.View c number) alive is = (is.1, alive)
lives_there s k (Value.Handle jobs) alive is = absurd (false≢true alive)

abbrev dead : ScriptState → ℕ → Bool
dead s n = not (is_alive s (s.values n))

abbrev old : ScriptState → ℕ → Bool
old s n = is_stale s (s.values n)

abbrev name_of : Given → ℕ
name_of v = v.need.name

module _ (ns : Names) (s : ScriptState) (holds : HoldsKinds ns.kinds s) where
  name_fits : (deferred : Bool) (param : ParamKind) (n : ℕ) → uses ns n (kinds_for param deferred) ≡ true → dead s n ≡ false → old s n ≡ false
      → NameFits s deferred param n
  name_fits deferred param n used alive fresh =
      let it = is_used ns n (kinds_for param deferred) used in
      let is = holds.names n it.kind it.at in
      let lives = not-false (is_alive s (s.values n)) alive in
      let there = lives_there s it.kind (s.values n) lives is in
      record { made = there.0; alive = there.1; value = kind_fits s deferred param it.kind (s.values n) it.fits lives fresh is }

  args_fit_values : (defer : Option (ℕ × ℕ)) (more : List Given) (params : List Param) (args : List Arg) → args_fit ns defer params args ≡ true
      → find (dead s) (map name_of (given_args s params args ++ more)) ≡ None → find (old s) (map name_of (given_args s params args ++ more)) ≡ None
      → ArgsFit s defer params args
  args_fit_values defer more [] [] fits alive fresh = tt
  args_fit_values defer more [] (a ∷ as_) fits alive fresh = absurd (false≢true fits)
  args_fit_values defer more (p ∷ ps) [] fits alive fresh = absurd (false≢true fits)
  args_fit_values defer more (p ∷ ps) (Name n ∷ as_) fits alive fresh =
      let both = and_parts (arg_fits ns defer p (Name n)) (args_fit ns defer ps as_) fits in
      let living = none_found (dead s) n (map name_of (given_args s ps as_ ++ more)) alive in
      let new = none_found (old s) n (map name_of (given_args s ps as_ ++ more)) fresh in
      (name_fits (is_deferred defer n) p.kind n both.0 living.0 new.0, args_fit_values defer more ps as_ both.1 living.1 new.1)
  args_fit_values defer more (p ∷ ps) (Number z ∷ as_) fits alive fresh =
      let both = and_parts (arg_fits ns defer p (Number z)) (args_fit ns defer ps as_) fits in
      (number_fits p.kind both.0, args_fit_values defer more ps as_ both.1 alive fresh)
    where
      number_fits : (k : ParamKind) → is_int k ≡ true → k ≡ Int
      number_fits Int h = refl
      number_fits Array h = absurd (false≢true h)
      number_fits KindList h = absurd (false≢true h)
      number_fits Ref h = absurd (false≢true h)
      number_fits Map h = absurd (false≢true h)
      number_fits Stream h = absurd (false≢true h)

  -- what isn't found among the values isn't found at the last
  none_last : (test : ℕ → Bool) (more : List Given) (params : List Param) (args : List Arg) → find test (map name_of (given_args s params args ++ more)) ≡ None
      → find test (map name_of more) ≡ None
  none_last test more [] args h = h
  none_last test more (p ∷ ps) [] h = h
  none_last test more (p ∷ ps) (Name n ∷ as_) h = none_last test more ps as_ (none_found test n (map name_of (given_args s ps as_ ++ more)) h).1
  none_last test more (p ∷ ps) (Number z ∷ as_) h = none_last test more ps as_ h

  length_fits : (k : Kernel) (defer : Option (ℕ × ℕ)) → defer_fits ns k defer ≡ true → find (dead s) (map name_of (given_length s defer)) ≡ None
      → find (old s) (map name_of (given_length s defer)) ≡ None → LengthFits s defer
  length_fits k None fits alive fresh = tt
  length_fits k (Some d) fits alive fresh =
      let used = (and_parts (uses ns d.0 (kind.List ∷ [])) (batch_fits d.1)
      (and_parts (uses ns d.0 (kind.List ∷ []) && batch_fits d.1) (guard_fits k) fits).0).0 in
      name_fits true KindList d.0 used (none_found (dead s) d.0 [] alive).0 (none_found (old s) d.0 [] fresh).0

  -- what the schedule's own fit says of the list
  defer_of : (o : Option Kernel) (args : List Arg) (cut defer : Option (ℕ × ℕ)) (waive after : List ℕ) → schedule_fits ns o args cut defer waive after ≡ true
      → (k : Kernel) × (defer_fits ns k defer ≡ true)
  defer_of None args cut defer waive after h = absurd (false≢true h)
  defer_of (Some k) args cut defer waive after h = (
    k,
    (and_parts (cut_fits cut) (defer_fits ns k defer) (and_parts (cut_fits cut && defer_fits ns k defer) _
        (and_parts (args_fit ns defer k.params.items args && _) _ h).1).0).1,
  )

  pub values_fit_at : (g : Setting) (rest inside : ℕ) (x : Order) → order_fits ns g.literals g.kernels rest inside x ≡ true → refusal g s x ≡ None
      → FitsAsValues g s x
  values_fit_at g rest inside (Schedule job) fits none =
      let params : List Param = params_of g job.value.kernel in
      let both = and_parts (makes ns job.value.handle kind.Handle) _ fits in
      let no_cause = no_cause_given s (is_parallel g job.value.kernel) job.value.auto
      (givens s params job.value.args.items job.value.defer) job.value.after.items none in
      let last = defer_of (slice_get g.kernels job.value.kernel) job.value.args.items job.value.cut job.value.defer job.value.waive.items job.value.after.items
      both.1 in (
        args_fit_values job.value.defer (given_length s job.value.defer) params job.value.args.items
            (args_of ns (slice_get g.kernels job.value.kernel) job.value.args.items job.value.cut job.value.defer job.value.waive.items job.value.after.items
            both.1) no_cause.alive no_cause.fresh,
        length_fits last.0 job.value.defer last.1 (none_last (dead s) (given_length s job.value.defer) params job.value.args.items no_cause.alive)
            (none_last (old s) (given_length s job.value.defer) params job.value.args.items no_cause.fresh),
      )
  values_fit_at g rest inside x fits none = tt

pub values_fit : ValuesFit
values_fit script is table n x at none =
    let g : Setting = setting script table in
    let fits = fits_there g is.kinds 0 0 script.statements.items n x is.fits at in
    values_fit_at (record { kinds = is.kinds; made = fits.made }) _ (names_keep_their_kinds script is table n) g fits.rest fits.inside x.act fits.fits none
