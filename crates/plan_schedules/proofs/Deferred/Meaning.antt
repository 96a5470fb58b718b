-- What the use of the list after `defer` means in the script's state: that of a list given to an `ro` parameter.
use Rattle.std.proofs.Common.{◌≡◌, ℕ, true, false, List, [], ◌∷◌, ◌++◌, refl, sym, ap, subst, ◌∙◌}
use Rattle.std.specs.Prelude.{slice_get}
use Rattle.frame_ast.specs.declared.kernel.ParamKind.TheVariants.{List as ListKind}
use Rattle.frame_ast.specs.Jobs.{Jobs}
use Rattle.frame_ast.specs.Orders.{Setting}
use Rattle.frame_ast.specs.Refusals.{is_temp}
use Rattle.frame_ast.specs.Schedules.{Given, need_of, writes_to}
use Rattle.frame_ast.specs.States.{ScriptState, is_alive, container_of, container_at}
use Rattle.plan_state.specs.declared.state.Planner.{Planner}
use Rattle.plan_schedules.specs.declared.uses.NamedUse.{NamedUse}
use Rattle.plan_schedules.specs.Deferring.{IsLengthUse}
use Rattle.plan_state.specs.Stands.{Stands}
use Rattle.plan_schedules.specs.Uses.{number_of_value, IsBlockedBy}
use Rattle.plan_schedules.proofs.Meaning.{IsMeant, AreMeant, refused_value, means}

-- the list, as a value of the schedule, and as one that is given to a parameter
abbrev pub length_value : ScriptState → ℕ → Given
length_value s n = record { need = need_of s n false; kind = ListKind; is_length = true }

abbrev pub plain : Given → Given
plain g = record g { is_length = false }

module _ {p : Planner} {g : Setting} {begun : ScriptState} {m : ℕ} {s : ScriptState} {found : List ℕ} (st : Stands p g begun m s found) (after : Jobs) where
  pub length_meant : (n : ℕ) (u : NamedUse) → IsLengthUse p.world after n u → IsMeant p s after u (plain (length_value s n))
  length_meant n u is =
      let v = st.knows.names.are n is.value is.has in
      let k = means st after is.value (st.knows.names.there n is.value is.has) in
      let at : number_of_value is.value ≡ container_at s n = k.container ∙ ap container_of v in
      record {
        given = λ i. record {
          need = record { name = is.named i; container = (is.container ∙ at) i; writes = writes_to (is.access i) };
          kind = is.kind i;
          is_length = false;
        };
        container_is = refl;
        blocked =
            k.blocked false u.blocked (subst (λ o. IsBlockedBy p.world after o false u.blocked) is.tag is.blocked)
            ∙ (λ i. refused_value st after (v i) false);
        temp = λ alive.
            is.temp ∙ k.temp (ap (is_alive s) v ∙ alive) ∙ ap (λ c. is_temp (s.life c)) at;
        known_by = λ alive.
            let w = k.known_by (ap (is_alive s) v ∙ alive) in (
              w.0,
              ap (slice_get p.world.containers.items) (sym at) ∙ w.1,
              (w.2.0, is.tag ∙ w.2.1, w.2.2),
              ap s.alive (sym at) ∙ w.3,
            );
      }

-- one more of what is meant
pub meant_more : (p : Planner) (s : ScriptState) (after : Jobs) (us : List NamedUse) (gs : List Given) (u : NamedUse) (g : Given)
    → AreMeant p s after us gs → IsMeant p s after u g → AreMeant p s after (us ++ u ∷ []) (gs ++ g ∷ [])
meant_more p s after [] [] u g m one = (one, tt)
meant_more p s after [] (x ∷ gs) u g m one = absurd m
meant_more p s after (x ∷ us) [] u g m one = absurd m
meant_more p s after (x ∷ us) (y ∷ gs) u g m one = (m.0, meant_more p s after us gs u g m.1 one)
