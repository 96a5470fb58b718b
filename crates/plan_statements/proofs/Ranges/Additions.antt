-- What the steps of entering a container come to.
use Rattle.std.proofs.Common.{◌≡◌, ◌≢◌, ℕ, [], ◌∷◌, ◌++◌, length, refl, sym, ap, ◌∙◌}
use Rattle.std.specs.Prelude.{slice_set, Vec}
use Rattle.std.specs.declared.alloc.Global.{Global}
use Rattle.frame_ast.specs.declared.script.Life.{Life}
use Rattle.frame_ast.specs.Effects.{is_tempjob}
use Rattle.frame_ast.specs.Refusals.{is_temp}
use Rattle.slot_store.specs.declared.slot.Taken.{Taken}
use Rattle.safety_handle.specs.declared.book.SafetyBook.{SafetyBook}
use Rattle.safety_handle.specs.Entries.{state_of, fresh}
use Rattle.plan_state.specs.declared.state.Value.TheVariants.{Whole}
use Rattle.plan_state.specs.declared.state.Container.{Container}
use Rattle.plan_state.specs.declared.state.World.{World}
use Rattle.plan_state.specs.Accesses.{IsRenamed}
use Rattle.plan_statements.specs.Making.{HasLife, IsEntered, and_if}

module _ (old a new : World) (line name : ℕ) (life : Life) (t : Taken) (it : Container) (safety : SafetyBook) (containers : Vec Container Global) (number : ℕ)
    (number_is : number ≡ length old.containers.items) (noted : HasLife (record old { safety = safety; containers = containers }) a life number)
    (named : IsRenamed a new name (Whole number)) where
  abbrev but : World → World
  but z = record old { safety = z.safety; containers = z.containers; values = z.values; temps = z.temps; tempjobs = z.tempjobs }

  new_is : new ≡ record old { safety = safety; containers = containers; values = new.values; temps = a.temps; tempjobs = a.tempjobs }
  new_is = named.rest ∙ ap (λ (z : World). record z { values = new.values }) noted.rest

  pub entered : it.slot ≡ t.slot → it.version ≡ t.version → it.life ≡ life → it.frame ≡ old.frame → it.name ≡ name → it.line ≡ line
      → state_of safety t.slot.0 ≡ fresh t.version.0 → ((k : ℕ) → k ≢ t.slot.0 → state_of safety k ≡ state_of old.safety k)
      → containers.items ≡ old.containers.items ++ it ∷ []
      → IsEntered old new line name life t it.bind
  entered slot version life_is frame name_is line_is enrolled others held = record {
    it = it;
    bind_is = refl;
    slot_is = slot;
    version_is = version;
    life_is = life_is;
    frame_is = frame;
    name_is = name_is;
    line_is = line_is;
    enrolled = ap (λ (z : World). state_of z.safety t.slot.0) new_is ∙ enrolled;
    others = λ k ne. ap (λ (z : World). state_of z.safety k) new_is ∙ others k ne;
    containers = ap (λ (z : World). z.containers.items) new_is ∙ held;
    values = named.values
        ∙ ap (λ (z : World). slice_set z.values.items name (Whole number)) noted.rest
        ∙ ap (λ k. slice_set old.values.items name (Whole k)) number_is;
    temps = ap (λ (z : World). z.temps.items) new_is ∙ noted.temps ∙ ap (and_if (is_temp life) old.temps.items) number_is;
    tempjobs = ap (λ (z : World). z.tempjobs.items) new_is ∙ noted.tempjobs ∙ ap (and_if (is_tempjob life) old.tempjobs.items) number_is;
    rest = new_is ∙ ap but (sym new_is);
  }
