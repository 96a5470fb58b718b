-- A `when` that is refused goes on: its line is said, and its block will be passed by.
use Rattle.std.proofs.Common.{◌≡◌, ℕ, zero, suc, ◌-◌, ◌<◌, ◌≤◌, inr, Bool, true, false, ◌&&◌, not, [], ◌∷◌, length, Option, Some, None, refl, sym, ap, ◌∙◌, arith}
use Rattle.std.specs.Prelude.{ℤ, vec_len, nat_eq, nat_le, option_map, if◌then◌else◌}
use Rattle.std.proofs.lemmas.Bool.{and_parts}
use Rattle.job_base.specs.declared.JobId.{JobId}
use Rattle.job_base.specs.declared.Refusal.{Refusal}
use Rattle.job_base.specs.declared.Refusal.TheVariants.{Disposed, Busy}
use Rattle.frame_ast.specs.declared.script.Order.TheVariants.{When}
use Rattle.frame_ast.specs.declared.script.Sign.{Sign}
use Rattle.frame_ast.specs.declared.script.Script.{Script}
use Rattle.frame_ast.specs.declared.script.Statement.{Statement}
use Rattle.frame_ast.specs.declared.name_kind.NameKind.TheVariants as kind
use Rattle.frame_ast.specs.Accepted.{uses}
use Rattle.frame_ast.specs.Jobs.{Jobs, greatest}
use Rattle.frame_ast.specs.Orders.{Table, setting}
use Rattle.frame_ast.specs.Refusals.{busy, busy_with}
use Rattle.frame_ast.specs.States.{is_alive}
use Rattle.frame_ast.proofs.Naming.{FitsThere}
use Rattle.job_handle.specs.Sets.{job_numbered}
use Rattle.job_handle.specs.Books.{StandsFor}
use Rattle.frame_core.specs.declared.plan.Act.TheVariants.{Say}
use Rattle.plan_state.specs.declared.state.Planner.{Planner}
use Rattle.plan_state.specs.declared.state.World.{World}
use Rattle.plan_state.specs.Accesses.{refused_as, IsPushed, IsGone, AreThere}
use Rattle.plan_state.specs.Steps.{state_at, IsStep, GoesOn, IsReady}
use Rattle.plan_statements.specs.Tests.{IsTestRefusal}
use Rattle.plan_state.proofs.Accessing.{are_there}
use Rattle.plan_statements.proofs.Disposals.{disposed_first}
use Rattle.plan_state.proofs.Reaching.{fits_at, used_below, within}
use Rattle.plan_state.proofs.Restating.{said_passing}

-- ---- the greatest job of a set, from the last one down

pub is_greatest : (set : Jobs) (n : ℕ) → 0 < n → set n ≡ true → greatest set n ≡ n
is_greatest set zero pos e = absurd (omega arith)
is_greatest set (suc n) pos e = ap (λ b. if b then suc n else greatest set n) e

pub is_less : (set : Jobs) (n : ℕ) → 0 < n → set n ≡ false → greatest set n ≡ greatest set (n - 1)
is_less set zero pos e = absurd (omega arith)
is_less set (suc n) pos e = ap (λ b. if b then suc n else greatest set n) e ∙ (let same : n ≡ suc n - 1 = omega arith in ap (greatest set) same)

pub numbered : (n : ℕ) → 0 < n → Some (record { 0 = n }) ≡ job_numbered n
numbered zero pos = absurd (omega arith)
numbered (suc n) pos = refl

pub none_left : (set : Jobs) (n : ℕ) → n ≤ 0 → None ≡ job_numbered (greatest set n)
none_left set zero le = refl
none_left set (suc n) le = absurd (omega arith)

-- ---- why the value can't be tested

busy_named : (name n : ℕ) → refused_as (option_map Busy (job_numbered n)) name ≡ busy_with name n
busy_named name zero = refl
busy_named name (suc n) = refl

flip : (a b : Bool) → a ≡ not b → b ≡ not a
flip true true e = e
flip true false e = refl
flip false true e = refl
flip false false e = e

module _ (w : World) (name : ℕ) where
  pub test_gone : IsGone w name true → IsTestRefusal w name (Some Disposed)
  test_gone gone g s found st =
      ap (λ a. if not a then Some (record { cause = Disposed; name = name }) else busy s name)
      (sym (flip true (is_alive s (s.values name)) (gone g s found st)))
      ∙ sym (disposed_first s name (busy s name))

  pub test_busy : IsGone w name false → (o : Option JobId)
      → ((b : Rattle.frame_ast.specs.Jobs.Book) → StandsFor w.jobs b → o ≡ job_numbered (greatest (λ j. not (b.completed j)) b.count))
      → IsTestRefusal w name (option_map Busy o)
  test_busy there o is g s found st =
      ap (λ q. refused_as (option_map Busy q) name) (is s.book st.jobs)
      ∙ busy_named name (greatest (λ j. not (s.book.completed j)) s.book.count)
      ∙ ap (λ a. if not a then Some (record { cause = Disposed; name = name }) else busy s name)
      (sym (flip false (is_alive s (s.values name)) (there g s found st)))
      ∙ sym (disposed_first s name (busy s name))

-- ---- at a statement
module _ (p : Planner) (line name : ℕ) (sign : Sign) (value : ℤ) (count : ℕ) where
  abbrev statement : Statement
  statement = record { line = line; act = When name sign value count }

  test_below : {script : Script} {table : Table} {n : ℕ} → IsStep script table n statement → name < length (setting script table).names
  test_below {script} {table} step =
      let fits : FitsThere (setting script table) step.accepted.kinds statement.act = fits_at step in
      used_below step fits.made name (kind.Reference ∷ [])
      (and_parts (uses (record { kinds = step.accepted.kinds; made = fits.made }) name (kind.Reference ∷ []))
      (nat_le count fits.rest && nat_eq fits.inside 0) fits.fits).0

  pub test_ready : IsReady p statement → (name < vec_len p.world.values) × AreThere (vec_len p.world.containers) (vec_len p.world.handles) p.world.values.items
  test_ready ready =
      let b = ready.2 in
      (within b.stands name (test_below b.step), are_there b.stands)

  pub test_refused : (m : Planner) (cause : Refusal) → IsTestRefusal p.world name (Some cause)
      → IsPushed p m (record { line = line; name = name; act = Say cause })
      → GoesOn p (record m { world = record m.world { passing = count } }) statement
  test_refused m cause answer i script table b =
      said_passing b (record { cause = cause; name = name })
      (sym (answer (setting script table) (state_at script table b.n) b.found b.stands.knows)) (test_below b.step) m
      (record m { world = record m.world { passing = count } }) count refl refl (inr (λ c. refl)) i refl
