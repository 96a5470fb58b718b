-- How many statements are passed by is changed, and nothing else.
use Rattle.std.proofs.Common.{◌≡◌, ℕ, suc, ◌-◌, ◌<◌, List, [], length, refl, sym, ap, subst, ◌∙◌, arith, append-nil}
use Rattle.frame_ast.specs.declared.script.Script.{Script}
use Rattle.frame_ast.specs.declared.script.Statement.{Statement}
use Rattle.frame_ast.specs.Laws.{IsKnown}
use Rattle.frame_ast.specs.Orders.{Table, Setting, setting}
use Rattle.frame_ast.specs.Scripts.{act, act_or_pass}
use Rattle.frame_ast.specs.States.{ScriptState}
use Rattle.plan_laws.proofs.Statements.Disposing.{others_are_planned}
use Rattle.plan_state.specs.declared.state.Planner.{Planner}
use Rattle.frame_plan.specs.Runs.{HasPassed, IsWithin}
use Rattle.plan_state.specs.Stands.{Stands, draft_of}
use Rattle.plan_state.specs.Steps.{state_at}
use Rattle.plan_state.proofs.Naming.{same_names}
use Rattle.plan_state.proofs.Quiet.{passed_grows, quiet_still}
use Rattle.plan_state.proofs.Reaching.{next_state}
use Rattle.plan_state.proofs.Restating.{restated, calm}

pub repassed : (p : Planner) (g : Setting) (begun : ScriptState) (n : ℕ) (s : ScriptState) (found : List ℕ) → Stands p g begun n s found
    → (k : ℕ) → Stands (record p { world = record p.world { passing = k } }) g begun (suc n) (record s { passing = k }) found
repassed p g begun n s found st k =
    let q : Planner = record p { world = record p.world { passing = k } } in
    let t : ScriptState = record s { passing = k } in
    let known : IsKnown t = (let o = st.knows.known in record { book = o.book; handles = o.handles; uses = o.uses }) in
    restated st (calm st refl refl refl refl refl refl refl (omega arith) (omega arith)) known
    (same_names p.world.values.items p.world.handles.items (length p.world.containers.items) s t refl st.knows.names)
    (λ x a. others_are_planned x s t (draft_of p) (record {
      made = refl;
      contents = refl;
      alive = refl;
      uses = refl;
      range = refl;
      book = refl;
      traps = refl;
      refused = refl;
      lines = refl;
    }) (st.planned x a))

-- a statement that is passed by
pub passed_by : (script : Script) (table : Table) (p : Planner) (x : Statement) → 0 < p.world.passing
    → HasPassed script table p (record p { world = record p.world { passing = p.world.passing - 1 } }) x
passed_by script table p x some at =
    let g = setting script table in
    let s = state_at script table at.n in
    let e : s.passing ≡ suc (p.world.passing - 1) = (let same = at.stands.numbers.passing in omega arith) in
    let now : act g s x ≡ record s { passing = p.world.passing - 1 } = ap (λ k. act_or_pass k g s x) e in
    let next : record s { passing = p.world.passing - 1 } ≡ state_at script table (suc at.n) = sym now ∙ next_state script table at.n x at.here in
    let q : Planner = record p { world = record p.world { passing = p.world.passing - 1 } } in
    record {
      more = [];
      stands = subst (Stands q g at.begun (suc at.n) (state_at script table (suc at.n))) (sym (append-nil at.found))
          (subst (λ t. Stands q g at.begun (suc at.n) t at.found) next (repassed p g at.begun at.n s at.found at.stands (p.world.passing - 1)));
      grows = λ starts same. passed_grows g s x starts at.begun.book.count p q
          (quiet_still g s x at.begun.book.count p q
          (record { spans = refl; peak = refl; works = refl; jobs = refl; kernels = refl; segments = refl; waits = refl })
          (ap (λ (u : ScriptState). u.book.completed) now))
          (p.world.passing - 1) e;
    }

-- a state that a planner stands for is within the limits
pub stands_within : (p : Planner) (g : Setting) (begun : ScriptState) (n : ℕ) (s : ScriptState) (found : List ℕ) → Stands p g begun n s found → IsWithin s
stands_within p g begun n s found st =
    let count = st.knows.jobs.count in
    let few = p.world.jobs.few in
    record { jobs = omega arith; words = st.numbers.created_few }
