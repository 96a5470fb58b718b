-- What a statement with `auto` waits for, in the code's terms.
use Rattle.std.specs.Prelude.{ℕ, ◌≡◌, ◌<◌, Bool, true, false, List, [], ◌∷◌, length, Option, None, Some, Result}
use Rattle.std.specs.Option.{MatchOption}
use Rattle.std.specs.Result.{IfOk, result_err}
use Rattle.job_base.specs.declared.Refusal.{Refusal}
use Rattle.job_base.specs.declared.Refusal.TheVariants.{StaleView}
use Rattle.frame_ast.specs.Conflicts.{Uses, Need, automatic}
use Rattle.frame_ast.specs.Jobs.{Jobs, Book, nobody}
use Rattle.frame_ast.specs.Laws.{AreUpTo, AreUses}
use Rattle.frame_ast.specs.Lists.{first_some}
use Rattle.frame_ast.specs.Orders.{Setting}
use Rattle.frame_ast.specs.Refusals.{disposed, stale}
use Rattle.frame_ast.specs.States.{ScriptState, is_alive, container_at}
use Rattle.job_handle.specs.Books.{StandsFor, count_of}
use Rattle.safety_handle.specs.Entries.{state_of}
use Rattle.safety_handle.specs.Uses.{StandForUses, users_of as latest_users}
use Rattle.plan_state.specs.declared.state.Container.{Container}
use Rattle.plan_state.specs.declared.state.World.{World}
use Rattle.plan_state.specs.Accesses.{refused_as, MayUse}
use Rattle.plan_state.specs.Stands.{Knows}

-- A name stands for this container, which is alive.
pub record IsLiveAt (w : World) (s : ScriptState) (name c : ℕ) : Type 0 where
  pub alive : is_alive s (s.values name) ≡ true
  pub at : container_at s name ≡ c
  pub below : c < length w.containers.items

-- An answer is the container of a name, where it is alive.
abbrev pub IsLive : World → ℕ → Option ℕ → Type 0
IsLive w name answer = (g : Setting) (s : ScriptState) (found : List ℕ)
    → Knows w g s found
    → MatchOption answer (is_alive s (s.values name) ≡ false) (IsLiveAt w s name)

-- the cause is that a view is stale
abbrev pub is_broken : Refusal → Bool
is_broken StaleView = true
is_broken _ = false

abbrev pub says_broken : Option Refusal → Bool
says_broken None = false
says_broken (Some cause) = is_broken cause

-- An answer is whether a name stands for a view that is stale, which is what a use of it is refused for.
pub record IsBroken (w : World) (name : ℕ) (answer : Bool) : Type 0 where
  pub refusal : Option Refusal
  pub may : MayUse w name true refusal
  pub says : answer ≡ says_broken refusal

-- An answer is the container of a name that may be used once its users ended, or why it may not.
abbrev pub IsCompletable : World → ℕ → Result ℕ Refusal → Type 0
IsCompletable w name answer = (g : Setting) (s : ScriptState) (found : List ℕ)
    → Knows w g s found
    → (refused_as (result_err answer) name ≡ first_some (disposed s (name ∷ []) ∷ stale s (name ∷ []) ∷ []))
    × IfOk answer (IsLiveAt w s name)

-- The book of jobs knows the users of a container.
abbrev pub KnowsUsers : World → Option Container → Type 0
KnowsUsers w None = ⊥
KnowsUsers w (Some it) = AreUpTo (count_of w.jobs) (latest_users (state_of w.safety it.slot.0).latest)

-- Some jobs are the automatic set of a writing use of a container, whatever uses the safety book stands for.
abbrev pub AreWaitedFor : World → Option Container → Jobs → Type 0
AreWaitedFor w None jobs = ⊥
AreWaitedFor w (Some it) jobs = (b : Book) (uses : ℕ → Uses) (need : Need)
    → StandsFor w.jobs b
    → ((c : ℕ) → AreUses b (uses c))
    → need.writes ≡ true
    → StandForUses b (state_of w.safety it.slot.0).latest (uses need.container)
    → (j : ℕ) → jobs j ≡ automatic b uses nobody (need ∷ []) j
