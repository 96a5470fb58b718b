-- There is a whole plan that goes on from a plan so far: that of the draft itself.
use Rattle.std.proofs.Common.{◌≡◌, ℕ, ◌+◌, List, [], length, refl, sym, arith, append-nil}
use Rattle.std.specs.Prelude.{get_or}
use Rattle.frame_ast.specs.declared.script.Script.{Script}
use Rattle.frame_ast.specs.Orders.{Table, setting}
use Rattle.frame_ast.specs.States.{ScriptState}
use Rattle.slot_store.specs.Stores.{peak_of}
use Rattle.plan_laws.specs.Planned.{Outline}
use Rattle.plan_state.specs.declared.state.Planner.{Planner}
use Rattle.plan_state.specs.Stands.{Agrees, Stands}

module _ (p : Planner) (script : Script) (table : Table) (begun : ScriptState) (n : ℕ) (s : ScriptState) (found : List ℕ)
    (st : Stands p (setting script table) begun n s found) where
  pub outline : Outline
  outline = record {
    plan = record {
      kernels = p.draft.kernels;
      codes = p.draft.codes;
      names = script.names;
      literals = p.draft.literals;
      jobs = p.draft.jobs;
      segments = p.draft.segments;
      first = p.draft.first;
      cells = peak_of p.world.store;
      words = peak_of p.world.store;
    };
    starts = λ k. get_or found k 0;
    begun = begun;
  }

  pub agrees : Agrees p (setting script table) begun found outline
  unfolding outline
  agrees = record {
    begins = refl;
    names = refl;
    kernels = ([], sym (append-nil p.draft.kernels.items));
    literals = ([], sym (append-nil p.draft.literals.items));
    jobs = ([], sym (append-nil p.draft.jobs.items));
    starts = λ k lt. refl;
    cells = omega arith;
    first = refl;
    small = (let low = st.numbers.peak_low in let few = st.numbers.created_few in omega arith);
  }

  -- the jobs of this section are those of the plan
  pub jobs_are : s.book.count ≡ begun.book.count + length p.draft.jobs.items
  unfolding outline
  jobs_are = (st.planned outline agrees).ordered.count
