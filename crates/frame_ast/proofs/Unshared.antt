-- Without an alias a written argument shares its container with no other.
use Rattle.std.proofs.Common.{◌≡◌, refl, sym, ◌∙◌, subst, Bool, true, false, ◌&&◌, ◌||◌, List, [], ◌∷◌, ◌++◌, None}
use Rattle.std.specs.Prelude.{nat_eq}
use Rattle.std.specs.List.{list_any}
use Rattle.std.proofs.lemmas.Bool.{eqb-true, or_from}
use Rattle.std.proofs.lemmas.List.Folds.{list_any-append}
use Rattle.frame_ast.specs.declared.kernel.Param.{Param}
use Rattle.frame_ast.specs.declared.script.Arg.{Arg}
use Rattle.frame_ast.specs.declared.script.Arg.TheVariants.{Name, Number}
use Rattle.frame_ast.specs.States.{ScriptState, container_at}
use Rattle.frame_ast.specs.Schedules.{Given, writes_to, given_args, given_length, alias, first_alias}
use Rattle.frame_ast.specs.Fitting.{is_given, is_written, AreUnshared, WrittenArgumentsAreUnshared}
use Rattle.frame_ast.proofs.Scheduled.{by_name, no_alias}

either_false : (a b : Bool) → (a || b) ≡ false → (a ≡ false) × (b ≡ false)
either_false true b h = absurd cc
either_false false b h = (refl, h)

-- a value is seen where it is among those before
abbrev Sees : Given → List Given → Type 0
Sees a before = (b : Given) → list_any (λ x. alias x b) before ≡ false → alias a b ≡ false

sees_more : (a g : Given) (before : List Given) → Sees a before → Sees a (before ++ g ∷ [])
sees_more a g before sees b h =
    sees b (either_false (list_any (λ x. alias x b) before) _ (sym (list_any-append (λ x. alias x b) before (g ∷ [])) ∙ h)).0

sees_last : (g : Given) (before : List Given) → Sees g (before ++ g ∷ [])
sees_last g before b h =
    (either_false (alias g b) false (either_false (list_any (λ x. alias x b) before) _ (sym (list_any-append (λ x. alias x b) before (g ∷ [])) ∙ h)).1).0

-- none after it is an alias of it
none_after : (a : Given) (before gs : List Given) → Sees a before → first_alias before gs ≡ None → list_any (alias a) gs ≡ false
none_after a before [] sees h = refl
none_after a before (g ∷ more) sees h =
    let parts = no_alias before g more h in
    or_from (alias a g) (list_any (alias a) more) (sees g parts.0) (none_after a (before ++ g ∷ []) more (sees_more a g before sees) parts.1)

-- uses of one container of which none writes
apart : (same one other_ : Bool) → ((same && (one || other_)) && true) ≡ false → (one ≡ true → same ≡ false) × ((same && other_) ≡ false)
apart true true other_ h = absurd cc
apart true false true h = absurd cc
apart true false false h = (λ e. absurd cc, refl)
apart false one other_ h = (λ e. refl, refl)

module _ (s : ScriptState) where
  others : (g : Given) (rest : List Given) (ps : List Param) (as_ : List Arg) → list_any (alias g) (given_args s ps as_ ++ rest) ≡ false
      → (g.need.writes ≡ true → is_given s ps as_ g.need.container ≡ false) × (is_written s ps as_ g.need.container ≡ false)
  others g rest [] as_ h = (λ e. refl, refl)
  others g rest (p ∷ ps) [] h = (λ e. refl, refl)
  others g rest (p ∷ ps) (Number z ∷ as_) h = others g rest ps as_ h
  others g rest (p ∷ ps) (Name n ∷ as_) h =
      let parts = either_false (alias g (by_name s p n)) (list_any (alias g) (given_args s ps as_ ++ rest)) h in
      let here = apart (nat_eq g.need.container (container_at s n)) g.need.writes (writes_to p.access) parts.0 in
      let more = others g rest ps as_ parts.1 in (
        λ e. or_from (nat_eq g.need.container (container_at s n)) _ (here.0 e) (more.0 e),
        or_from
            (nat_eq g.need.container (container_at s n) && writes_to p.access) _ here.1 more.1,
      )

  unshared : (before rest : List Given) (params : List Param) (args : List Arg) → first_alias before (given_args s params args ++ rest) ≡ None
      → AreUnshared s params args
  unshared before rest [] args h = tt
  unshared before rest (p ∷ ps) [] h = tt
  unshared before rest (p ∷ ps) (Number z ∷ as_) h =
      (record { written = λ c is w. absurd cc; read = λ c is. absurd cc }, unshared before rest ps as_ h)
  unshared before rest (p ∷ ps) (Name n ∷ as_) h =
      let g : Given = by_name s p n in
      let parts = no_alias before g (given_args s ps as_ ++ rest) h in
      let apart_ = others g rest ps as_ (none_after g (before ++ g ∷ []) (given_args s ps as_ ++ rest) (sees_last g before) parts.1) in (
        record {
          written = λ c is w. subst (λ d. is_given s ps as_ d ≡ false) (sym (eqb-true c (container_at s n) is)) (apart_.0 w);
          read = λ c is. subst (λ d. is_written s ps as_ d ≡ false) (sym (eqb-true c (container_at s n) is)) apart_.1;
        },
        unshared (before ++ g ∷ []) rest ps as_ parts.1,
      )

pub written_arguments_are_unshared : WrittenArgumentsAreUnshared
written_arguments_are_unshared s params args defer h = unshared s [] (given_length s defer) params args h
