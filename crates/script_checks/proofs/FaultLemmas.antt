-- The first of several faults.
use Rattle.std.proofs.Common.{◌≡◌, List, [], ◌∷◌, ◌++◌, Option, Some, None, Result, Ok, Err, IsErrAnd, refl, sym, ◌∙◌, subst}
use Rattle.kernel_raw.specs.declared.fault.StaticFault.{StaticFault}
use Rattle.frame_ast.specs.Lists.{first_some}
use Rattle.script_checks.specs.declared.fault.OrderFault.{OrderFault}
use Rattle.script_checks.specs.declared.fault.OrderFault.TheVariants.{Refused, NoMemory}
use Rattle.script_checks.specs.Checks.{Refuses, RefusesFor, Gives}

pub first_end : first_some {A = StaticFault} [] ≡ None
unfolding first_some
first_end = refl

pub first_next : (a : Option StaticFault) (more : List (Option StaticFault)) → a ≡ None → first_some (a ∷ more) ≡ first_some more
unfolding first_some
first_next None more h = refl
first_next (Some f) more h = cc

pub first_here : (a : Option StaticFault) (more : List (Option StaticFault)) (f : StaticFault) → a ≡ Some f → first_some (a ∷ more) ≡ Some f
unfolding first_some
first_here None more f h = cc
first_here (Some g) more f h = h

-- of a statement without a fault no part has one
pub first_none : (a : Option StaticFault) (more : List (Option StaticFault)) → a ≡ None → first_some more ≡ None → first_some (a ∷ more) ≡ None
first_none a more h e = first_next a more h ∙ e

pub refuses_here : (a : Option StaticFault) (more : List (Option StaticFault)) (e : OrderFault) → Refuses a e → Refuses (first_some (a ∷ more)) e
refuses_here a more (Refused f) h = first_here a more f h
refuses_here a more NoMemory h = tt

pub refuses_next : (a : Option StaticFault) (more : List (Option StaticFault)) (e : OrderFault) → a ≡ None → Refuses (first_some more) e
    → Refuses (first_some (a ∷ more)) e
refuses_next a more (Refused f) none h = first_next a more none ∙ h
refuses_next a more NoMemory none h = tt

-- the same of several lists one after another
pub first_join : (as' more : List (Option StaticFault)) → first_some as' ≡ None → first_some (as' ++ more) ≡ first_some more
unfolding first_some
first_join [] more h = refl
first_join (None ∷ as') more h = first_join as' more h
first_join (Some f ∷ as') more h = cc

pub first_both : (as' more : List (Option StaticFault)) → first_some as' ≡ None → first_some more ≡ None → first_some (as' ++ more) ≡ None
first_both as' more h e = first_join as' more h ∙ e

join_here : (as' more : List (Option StaticFault)) (f : StaticFault) → first_some as' ≡ Some f → first_some (as' ++ more) ≡ Some f
unfolding first_some
join_here [] more f h = cc
join_here (None ∷ as') more f h = join_here as' more f h
join_here (Some g ∷ as') more f h = h

pub refuses_left : (as' more : List (Option StaticFault)) (e : OrderFault) → Refuses (first_some as') e → Refuses (first_some (as' ++ more)) e
refuses_left as' more (Refused f) h = join_here as' more f h
refuses_left as' more NoMemory h = tt

pub refuses_right : (as' more : List (Option StaticFault)) (e : OrderFault) → first_some as' ≡ None → Refuses (first_some more) e
    → Refuses (first_some (as' ++ more)) e
refuses_right as' more (Refused f) none h = first_join as' more none ∙ h
refuses_right as' more NoMemory none h = tt

-- what refuses where no memory is asked for refuses where some is
pub refuses : (fault : Option StaticFault) (e : OrderFault) → RefusesFor fault e → Refuses fault e
refuses fault (Refused f) h = h
refuses fault NoMemory h = absurd h

pub ruleset checking = (first_end, first_none, refuses_here, refuses_next, first_both, refuses_left, refuses_right, refuses)

-- the exit of a `?`
pub exits : {A : Type 0} (fault : Option StaticFault) (Holds : A → Type 0) (r : Result A OrderFault) (e : OrderFault) →
    IsErrAnd r (λ d. d ≡ e) → Refuses fault e → Gives fault Holds r
exits fault Holds (Ok a) e is h = absurd is
exits fault Holds (Err d) e is h = subst (Refuses fault) (sym is) h

-- the exit of a `?` where there is no memory
pub exits_without_memory : {A : Type 0} (fault : Option StaticFault) (Holds : A → Type 0) (r : Result A OrderFault) →
    IsErrAnd r (λ d. d ≡ NoMemory) → Gives fault Holds r
exits_without_memory fault Holds r is = exits fault Holds r NoMemory is tt

-- a refusal by this fault
pub refused_by : {A : Type 0} (fault : Option StaticFault) (Holds : A → Type 0) (r : Result A OrderFault) (f : StaticFault) →
    r ≡ Err (Refused f) → fault ≡ Some f → Gives fault Holds r
refused_by fault Holds r f is h = subst (Gives fault Holds) (sym is) h
