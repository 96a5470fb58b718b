-- The uses of a schedule: those of its arguments, and with `defer` the reading one of its list. No job is in their way.
use Rattle.std.proofs.Common.{◌≡◌, ℕ, ◌<◌, ◌≤◌, ⊎_elim, Bool, true, false, ◌&&◌, not, eqb-true, eq-eqb, List, [], ◌∷◌, map, Option, Some, None, refl, sym, subst, ◌∙◌}
use Rattle.std.specs.Prelude.{nat_eq, if◌then◌else◌, option_map}
use Rattle.std.proofs.lemmas.Bool.{or_cases, or_left, or_right, and_parts}
use Rattle.job_base.specs.declared.Refusal.TheVariants.{NotParallel, Alias, TempInJob}
use Rattle.frame_ast.specs.declared.kernel.Param.{Param}
use Rattle.frame_ast.specs.declared.script.Arg.{Arg}
use Rattle.frame_ast.specs.declared.script.Arg.TheVariants.{Name, Number}
use Rattle.frame_ast.specs.Conflicts.{Uses, Need, conflicts, blocking, automatic, uses_it, writes_it}
use Rattle.frame_ast.specs.Fitting as fit
use Rattle.frame_ast.specs.Fitting.{is_given, is_written, LengthFits}
use Rattle.frame_ast.specs.Jobs.{Jobs, both, happens_before}
use Rattle.frame_ast.specs.Laws.{IsKnown, AreUpTo, GreatestIsNamed}
use Rattle.frame_ast.specs.Refusals.{jobs_named, pending, refused, disposed, stale, is_temp, first_given, schedule_refusal}
use Rattle.frame_ast.specs.Schedules.{Given, writes_to, is_shared, first_alias, given_length, givens}
use Rattle.frame_ast.specs.States.{ScriptState, container_at}
use Rattle.frame_ast.proofs.Blocking.{greatest_blocker_is_named, blocking_among}
use Rattle.frame_ast.proofs.Covering.{automatic_sets_cover}
use Rattle.frame_ast.proofs.NameKinds.{first_none}
use Rattle.frame_core.proofs.Small.{not_both, or_false_left, or_false_right}

and_turned : (a b : Bool) → (a && b) ≡ (b && a)
and_turned true true = refl
and_turned true false = refl
and_turned false true = refl
and_turned false false = refl

-- who isn't in the way happens before
is_before : (a h : Bool) → a ≡ true → (a && not h) ≡ false → h ≡ true
is_before true true e f = refl
is_before true false e f = absurd (not_both refl f)
is_before false h e f = absurd (not_both e refl)

unpending : (s : ScriptState) (parallel auto : Bool) (gs : List Given) (after : List ℕ) → schedule_refusal s parallel auto gs after ≡ None
    → (if auto then None else pending s (jobs_named s after) (map (λ g. g.need) gs)) ≡ None
unpending s parallel auto gs after none =
    let first = first_none (disposed s (map (λ g. g.need.name) gs)) _ none in
    let second = first_none (stale s (map (λ g. g.need.name) gs)) _ first.1 in
    let third = first_none (option_map (refused NotParallel) (first_given (λ g. parallel && (g.need.writes && is_shared g.kind)) gs)) _ second.1 in
    let fourth = first_none (option_map (refused TempInJob) (first_given (λ g. is_temp (s.life g.need.container)) gs)) _ third.1 in
    let fifth = first_none (option_map (refused Alias) (first_alias [] gs)) _ fourth.1 in
    (first_none (if auto then None else pending s (jobs_named s after) (map (λ g. g.need) gs)) [] fifth.1).0

-- what may be written is used
pub written_used : (needs : List Need) (c : ℕ) → writes_it needs c ≡ true → uses_it needs c ≡ true
written_used [] c e = absurd (not_both e refl)
written_used (n ∷ more) c e = ⊎_elim
    (λ here. or_left (nat_eq c n.container) (uses_it more c) (and_parts n.writes (nat_eq c n.container) here).1)
    (λ there. or_right (nat_eq c n.container) (uses_it more c) (written_used more c there))
    (or_cases (n.writes && nat_eq c n.container) (writes_it more c) e)

module _ (s : ScriptState) where
  -- ---- the uses of a statement

  abbrev pub needs_by : List Param → List Arg → Option (ℕ × ℕ) → List Need
  needs_by ps as_ defer = map (λ g. g.need) (givens s ps as_ defer)

  pub argument_used : (defer : Option (ℕ × ℕ)) (ps : List Param) (as_ : List Arg) (c : ℕ) → is_given s ps as_ c ≡ true
      → uses_it (needs_by ps as_ defer) c ≡ true
  argument_used defer [] as_ c e = absurd (not_both e refl)
  argument_used defer (p ∷ ps) [] c e = absurd (not_both e refl)
  argument_used defer (p ∷ ps) (Name n ∷ as_) c e = ⊎_elim
      (λ here. or_left (nat_eq c (container_at s n)) (uses_it (needs_by ps as_ defer) c) here)
      (λ there. or_right (nat_eq c (container_at s n)) (uses_it (needs_by ps as_ defer) c) (argument_used defer ps as_ c there))
      (or_cases (nat_eq c (container_at s n)) (is_given s ps as_ c) e)
  argument_used defer (p ∷ ps) (Number z ∷ as_) c e = argument_used defer ps as_ c e

  pub argument_written : (defer : Option (ℕ × ℕ)) (ps : List Param) (as_ : List Arg) (c : ℕ) → is_written s ps as_ c ≡ true
      → writes_it (needs_by ps as_ defer) c ≡ true
  argument_written defer [] as_ c e = absurd (not_both e refl)
  argument_written defer (p ∷ ps) [] c e = absurd (not_both e refl)
  argument_written defer (p ∷ ps) (Name n ∷ as_) c e = ⊎_elim
      (λ here. or_left (writes_to p.access && nat_eq c (container_at s n)) (writes_it (needs_by ps as_ defer) c)
      (and_turned (writes_to p.access) (nat_eq c (container_at s n)) ∙ here))
      (λ there. or_right (writes_to p.access && nat_eq c (container_at s n)) (writes_it (needs_by ps as_ defer) c)
      (argument_written defer ps as_ c there))
      (or_cases (nat_eq c (container_at s n) && writes_to p.access) (is_written s ps as_ c) e)
  argument_written defer (p ∷ ps) (Number z ∷ as_) c e = argument_written defer ps as_ c e

  pub list_used : (ps : List Param) (as_ : List Arg) (defer : ℕ × ℕ) → uses_it (needs_by ps as_ (Some defer)) (container_at s defer.0) ≡ true
  list_used [] as_ defer = or_left (nat_eq (container_at s defer.0) (container_at s defer.0)) false
      (eq-eqb (container_at s defer.0) (container_at s defer.0) refl)
  list_used (p ∷ ps) [] defer = or_left (nat_eq (container_at s defer.0) (container_at s defer.0)) false
      (eq-eqb (container_at s defer.0) (container_at s defer.0) refl)
  list_used (p ∷ ps) (Name n ∷ as_) defer = or_right (nat_eq (container_at s defer.0) (container_at s n)) _ (list_used ps as_ defer)
  list_used (p ∷ ps) (Number z ∷ as_) defer = list_used ps as_ defer

  -- ---- they are alive

  list_alive : (defer : Option (ℕ × ℕ)) (c : ℕ) → LengthFits s defer → uses_it (map (λ g. g.need) (given_length s defer)) c ≡ true
      → (c < s.made) × (s.alive c ≡ true)
  list_alive None c l e = absurd (not_both e refl)
  list_alive (Some defer) c l e =
      let at : c ≡ container_at s defer.0 = eqb-true c (container_at s defer.0)
      (⊎_elim (λ h. h) (λ h. absurd (not_both h refl)) (or_cases (nat_eq c (container_at s defer.0)) false e)) in
      (subst (λ c. c < s.made) (sym at) l.made, subst (λ c. s.alive c ≡ true) (sym at) l.alive)

  pub used_alive : (defer : Option (ℕ × ℕ)) (ps : List Param) (as_ : List Arg) (c : ℕ) → fit.ArgsFit s defer ps as_ → LengthFits s defer
      → uses_it (needs_by ps as_ defer) c ≡ true
      → (c < s.made) × (s.alive c ≡ true)
  used_alive defer [] as_ c f l e = list_alive defer c l e
  used_alive defer (p ∷ ps) [] c f l e = absurd f
  used_alive defer (p ∷ ps) (Name n ∷ as_) c f l e = ⊎_elim
      (λ here. let at = eqb-true c (container_at s n) here in (subst (λ c. c < s.made) (sym at) f.0.made, subst (λ c. s.alive c ≡ true) (sym at) f.0.alive))
      (λ there. used_alive defer ps as_ c f.1 l there)
      (or_cases (nat_eq c (container_at s n)) (uses_it (needs_by ps as_ defer) c) e)
  used_alive defer (p ∷ ps) (Number z ∷ as_) c f l e = used_alive defer ps as_ c f.1 l e

  -- ---- none of them is blocked

  module _ (deps : Jobs) (c j : ℕ) where
    pub read_free : (needs : List Need) → uses_it needs c ≡ true → (s.uses c).writers j ≡ true → blocking s.book s.uses deps needs j ≡ false
        → happens_before s.book deps j ≡ true
    read_free [] g w e = absurd (not_both g refl)
    read_free (n ∷ more) g w e = ⊎_elim
        (λ here.
        let u : Uses = s.uses n.container in
        let wrote : u.writers j ≡ true = subst (λ c. (s.uses c).writers j ≡ true) (eqb-true c n.container here) w in
        is_before (conflicts u n.writes j) (happens_before s.book deps j) (or_left (u.writers j) (n.writes && u.users j) wrote) (or_false_left _ _ e))
        (λ there. read_free more there w (or_false_right _ _ e))
        (or_cases (nat_eq c n.container) (uses_it more c) g)

    pub write_free : (needs : List Need) → writes_it needs c ≡ true → (s.uses c).users j ≡ true → blocking s.book s.uses deps needs j ≡ false
        → happens_before s.book deps j ≡ true
    write_free [] g w e = absurd (not_both g refl)
    write_free (n ∷ more) g w e = ⊎_elim
        (λ here.
        let parts = and_parts n.writes (nat_eq c n.container) here in
        let wr = parts.0 in
        let u : Uses = s.uses n.container in
        let used : u.users j ≡ true = subst (λ c. (s.uses c).users j ≡ true) (eqb-true c n.container parts.1) w in
        is_before (conflicts u n.writes j) (happens_before s.book deps j) (or_right (u.writers j) (n.writes && u.users j) (λ i. wr i && used i))
        (or_false_left _ _ e))
        (λ there. write_free more there w (or_false_right _ _ e))
        (or_cases (n.writes && nat_eq c n.container) (writes_it more c) g)

  -- ---- its dependency set

  named_up : IsKnown s → (after : List ℕ) → AreUpTo s.book.count (jobs_named s after)
  named_up known [] j e = absurd (not_both e refl)
  named_up known (h ∷ more) j e = ⊎_elim (known.handles h j) (named_up known more j) (or_cases _ _ e)

  module _ (known : IsKnown s) (auto parallel : Bool) (gs : List Given) (after : List ℕ) where
    abbrev needs : List Need
    needs = map (λ v. v.need) gs

    abbrev named : Jobs
    named = jobs_named s after

    abbrev deps : Jobs
    deps = if auto then both named (automatic s.book s.uses named needs) else named

    pub unblocked : schedule_refusal s parallel auto gs after ≡ None → (j : ℕ) → 0 < j → j ≤ s.book.count → blocking s.book s.uses deps needs j ≡ false
    unblocked unrefused j pos le = by auto (unpending s parallel auto gs after unrefused)
      where
        by : (b : Bool) → (if b then None else pending s named needs) ≡ None
            → blocking s.book s.uses (if b then both named (automatic s.book s.uses named needs) else named) needs j ≡ false
        by true h = (automatic_sets_cover s.book s.uses named needs known.book known.uses).none_left j
        by false h = subst (λ r. GreatestIsNamed s named needs r) h (greatest_blocker_is_named s named needs) j pos le

    pub deps_up : AreUpTo s.book.count deps
    deps_up j = by auto
      where
        by : (b : Bool) → (if b then both named (automatic s.book s.uses named needs) else named) j ≡ true → (0 < j) × (j ≤ s.book.count)
        by true h = ⊎_elim (named_up known after j)
            (λ a. blocking_among s.book s.uses known.uses named needs j ((automatic_sets_cover s.book s.uses named needs known.book known.uses).blocks j a))
            (or_cases (named j) (automatic s.book s.uses named needs j) h)
        by false h = named_up known after j h
