-- Whether a `when` acts, in the code's terms.
use Rattle.std.specs.Prelude.{ℕ, ◌≡◌, ◌≢◌, not, List, [], ◌∷◌, Option, None, Some}
use Rattle.job_base.specs.declared.JobId.{JobId}
use Rattle.job_base.specs.declared.Refusal.{Refusal}
use Rattle.frame_ast.specs.declared.script.Order.{Order}
use Rattle.frame_ast.specs.declared.script.Script.{Script}
use Rattle.frame_ast.specs.Checks.{refusal}
use Rattle.frame_ast.specs.Jobs.{Book, greatest}
use Rattle.frame_ast.specs.Lists.{first_some}
use Rattle.frame_ast.specs.Orders.{Table, Setting, setting}
use Rattle.frame_ast.specs.Refusals.{disposed, busy}
use Rattle.frame_ast.specs.States.{ScriptState}
use Rattle.job_handle.specs.declared.book.JobBook.{JobBook}
use Rattle.job_handle.specs.Books.{StandsFor}
use Rattle.job_handle.specs.Sets.{job_numbered}
use Rattle.plan_state.specs.declared.answer.Answer.{Answer}
use Rattle.plan_state.specs.declared.state.Planner.{Planner}
use Rattle.plan_state.specs.declared.state.World.{World}
use Rattle.plan_state.specs.Accesses.{refused_as}
use Rattle.plan_state.specs.Stands.{Knows}
use Rattle.plan_state.specs.Answers.{Answers}
use Rattle.plan_state.specs.Steps.{state_at, IsBefore}

-- An answer is the cause for which the value of a name can't be tested now.
abbrev pub IsTestRefusal : World → ℕ → Option Refusal → Type 0
IsTestRefusal w name answer = (g : Setting) (s : ScriptState) (found : List ℕ)
    → Knows w g s found
    → refused_as answer name ≡ first_some (disposed s (name ∷ []) ∷ busy s name ∷ [])

-- An answer is the greatest job that isn't completed, in every book that the planner's stands for.
abbrev pub IsLatestRunning : JobBook → Option JobId → Type 0
IsLatestRunning book answer = (b : Book)
    → StandsFor book b
    → answer ≡ job_numbered (greatest (λ j. not (b.completed j)) b.count)

-- A statement isn't refused, of whichever planner with this world.
abbrev pub Acts : World → Order → Type 0
Acts w x = (line : ℕ) (p : Planner) (script : Script) (table : Table)
    (b : IsBefore script table (record p { world = w }) (record { line = line; act = x }))
    → refusal (setting script table) (state_at script table b.n) x ≡ None

-- it is refused
abbrev pub IsRefused : World → Order → Type 0
IsRefused w x = (line : ℕ) (p : Planner) (script : Script) (table : Table)
    (b : IsBefore script table (record p { world = w }) (record { line = line; act = x }))
    → refusal (setting script table) (state_at script table b.n) x ≢ None

-- Where a statement is refused there is an answer, and else all is as it was.
abbrev pub IsDecided : World → World → Order → Option Answer → Type 0
IsDecided old new x None = (new ≡ old) × Acts old x
IsDecided old new x (Some answer) = Answers old new x answer × IsRefused old x
