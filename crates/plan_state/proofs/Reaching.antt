-- What an accepted script gives at a statement, and the state after it.
use Rattle.std.proofs.Common.{◌≡◌, ℕ, zero, suc, ◌<◌, true, List, [], ◌∷◌, ◌++◌, length, map, take, Option, Some, None, refl, sym, ap, subst, arith, append-nil}
use Rattle.std.specs.Prelude.{slice_get, vec_len, nat_lt, nat_le}
use Rattle.std.proofs.lemmas.Bool.{and_parts, leb-true}
use Rattle.job_base.specs.declared.limits.TheConstants.{MOST_STATEMENTS}
use Rattle.frame_ast.specs.declared.script.Script.{Script}
use Rattle.frame_ast.specs.declared.script.Statement.{Statement}
use Rattle.frame_ast.specs.declared.name_kind.NameKind.{NameKind}
use Rattle.frame_ast.specs.Accepted.{kind_in, uses, makes}
use Rattle.frame_ast.specs.Kinds.{HoldsKinds}
use Rattle.frame_ast.specs.Laws.{IsKnown}
use Rattle.frame_ast.specs.Orders.{Table, Setting, setting}
use Rattle.frame_ast.specs.Scripts.{act, act_all}
use Rattle.frame_ast.specs.States.{ScriptState, at_start, is_alive}
use Rattle.frame_ast.proofs.Known.{jobs_are_known}
use Rattle.frame_ast.proofs.NameKinds.{names_keep_their_kinds}
use Rattle.frame_ast.proofs.Naming.{is_used, FitsThere, fits_there}
use Rattle.frame_core.proofs.Small.{some_is, none_some, get_below}
use Rattle.plan_laws.specs.Printing.{IsUsable}
use Rattle.plan_laws.proofs.Statements.Usable.{names_are_usable}
use Rattle.plan_state.specs.declared.state.Planner.{Planner}
use Rattle.plan_state.specs.Stands.{Stands}
use Rattle.plan_state.specs.Steps.{state_at, state_after, IsStep}

pub long : {A B : Type 0} (f : A → B) (xs : List A) → length (map f xs) ≡ length xs
long f [] = refl
long f (x ∷ xs) = ap suc (long f xs)

-- ---- the state after a statement

one_more : (g : Setting) (xs : List Statement) (n : ℕ) (x : Statement) (s : ScriptState) → slice_get xs n ≡ Some x
    → act g (act_all g (take n xs) s) x ≡ act_all g (take (suc n) xs) s
one_more g [] n x s at = absurd (none_some at)
one_more g (y ∷ ys) zero x s at = ap (act g s) (sym (some_is at))
one_more g (y ∷ ys) (suc n) x s at = one_more g ys n x (act g s y) at

pub next_state : (script : Script) (table : Table) (n : ℕ) (x : Statement) → slice_get script.statements.items n ≡ Some x
    → state_after script table n x ≡ state_at script table (suc n)
next_state script table n x at = one_more (setting script table) script.statements.items n x at_start at

module _ {script : Script} {table : Table} {n : ℕ} {x : Statement} (step : IsStep script table n x) where
  pub known_after : IsKnown (state_after script table n x)
  known_after = subst IsKnown (sym (next_state script table n x step.here)) (jobs_are_known (setting script table) (take (suc n) script.statements.items))

  pub known_before : IsKnown (state_at script table n)
  known_before = jobs_are_known (setting script table) (take n script.statements.items)

  pub holds_kinds : HoldsKinds step.accepted.kinds (state_at script table n)
  holds_kinds = names_keep_their_kinds script step.accepted table n

  pub fits_at : FitsThere (setting script table) step.accepted.kinds x.act
  fits_at = fits_there (setting script table) step.accepted.kinds 0 0 script.statements.items n x step.accepted.fits step.here

  pub statements_few : n < MOST_STATEMENTS
  statements_few =
      let below = get_below script.statements.items n x step.here in
      let few = leb-true (length script.statements.items) MOST_STATEMENTS step.accepted.statement_count in
      omega arith

  -- ---- names

  pub kinds_long : length step.accepted.kinds ≡ length (setting script table).names
  kinds_long = step.accepted.each

  kind_below : (o : Option NameKind) (name : ℕ) (kinds : List NameKind) → slice_get step.accepted.kinds name ≡ o → kind_in o kinds ≡ true
      → name < length (setting script table).names
  kind_below None name kinds at is = absurd cc
  kind_below (Some k) name kinds at is = let lt = get_below step.accepted.kinds name k at in let e = kinds_long in omega arith

  pub used_below : (made name : ℕ) (kinds : List NameKind) → uses (record { kinds = step.accepted.kinds; made = made }) name kinds ≡ true
      → name < length (setting script table).names
  used_below made name kinds is = kind_below (slice_get step.accepted.kinds name) name kinds refl
      (and_parts (nat_lt name made) (kind_in (slice_get step.accepted.kinds name) kinds) is).1

  pub made_below : (made name : ℕ) (kind : NameKind) → makes (record { kinds = step.accepted.kinds; made = made }) name kind ≡ true
      → name < length (setting script table).names
  made_below made name kind is = kind_below (slice_get step.accepted.kinds name) name (kind ∷ []) refl
      (and_parts (nat_le name made) (kind_in (slice_get step.accepted.kinds name) (kind ∷ [])) is).1

  -- a name that is used is usable where its container is alive
  pub usable : (made name : ℕ) (kinds : List NameKind) → uses (record { kinds = step.accepted.kinds; made = made }) name kinds ≡ true
      → is_alive (state_at script table n) ((state_at script table n).values name) ≡ true → IsUsable (state_at script table n) name
  usable made name kinds is alive =
      let u = is_used (record { kinds = step.accepted.kinds; made = made }) name kinds is in
      names_are_usable step.accepted.kinds (state_at script table n) name u.kind holds_kinds u.at alive

-- a name of the script is one of the planner's
pub within : {p : Planner} {g : Setting} {begun : ScriptState} {n : ℕ} {s : ScriptState} {found : List ℕ} → Stands p g begun n s found → (name : ℕ)
    → name < length g.names → name < vec_len p.world.values
within {p} st name lt = let len = p.world.values.ok.0 in let e = st.knows.each in omega arith

-- no more ranges were found
pub no_more : (q : Planner) (g : Setting) (begun : ScriptState) (n : ℕ) (t : ScriptState) (found : List ℕ) → Stands q g begun n t found
    → (more : List ℕ) × Stands q g begun n t (found ++ more)
no_more q g begun n t found st = ([], subst (Stands q g begun n t) (sym (append-nil found)) st)
