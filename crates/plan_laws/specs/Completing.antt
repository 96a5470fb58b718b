-- `complete`: the segment at hand is closed, and the next one waits for what is newly completed.
use Rattle.std.specs.Prelude.{ℕ, ◌+◌, ◌≡◌, ◌<◌, ◌^◌, ◌&&◌, not, List, [], length, None}
use Rattle.job_base.specs.declared.JobId.{JobId}
use Rattle.frame_ast.specs.Effects.{complete}
use Rattle.frame_ast.specs.Jobs.{Jobs, ancestors_in}
use Rattle.frame_ast.specs.Laws.{IsKnown, AreUpTo}
use Rattle.frame_ast.specs.States.{ScriptState}
use Rattle.frame_core.specs.declared.plan.Segment.{Segment}
use Rattle.frame_core.specs.Names.{has_job}
use Rattle.plan_laws.specs.Drafts.{Draft}
use Rattle.plan_laws.specs.Planned.{Outline, jobs_before, AreJobsUpTo, IsPlanned, Closes}

-- a list of the section's jobs that are newly completed
abbrev pub AreNewlyCompleted : Outline → ScriptState → Jobs → List JobId → Type 0
AreNewlyCompleted x s handle ids = (j : ℕ) → 0 < j → has_job ids j
    ≡ (ancestors_in s.book handle (jobs_before x + j) && not (s.book.completed (jobs_before x + j)))

abbrev pub CompletesArePlanned : Type 0
CompletesArePlanned = (x : Outline)
    → x.plan.cells < 2 ^ 32
    → (s : ScriptState) (handle : Jobs) (d e : Draft) (closed : Segment) (after : List JobId)
    → IsPlanned x s d
    → IsKnown s
    → AreUpTo s.book.count handle
    → AreJobsUpTo (length d.jobs) after
    → AreNewlyCompleted x s handle after
    → closed.starts ≡ None
    → Closes d e closed [] after
    → IsPlanned x (complete handle s) e
