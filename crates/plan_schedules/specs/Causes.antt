-- The causes of a refused schedule, asked of its uses.
use Rattle.std.specs.Prelude.{ℕ, zero, suc, Bool, true, false, ◌&&◌, nat_eq, max, if◌then◌else◌, List, [], ◌∷◌, ◌++◌, Option, None, Some}
use Rattle.std.specs.List.{list_any}
use Rattle.job_base.specs.declared.Refusal.{Refusal}
use Rattle.job_base.specs.declared.Refusal.TheVariants.{Disposed, StaleView, NotParallel, Alias, Pending, TempInJob}
use Rattle.frame_ast.specs.Refusals.{Refused, refused}
use Rattle.frame_ast.specs.Schedules.{alias, is_shared, writes_to}
use Rattle.safety_handle.specs.declared.tag.Blocked.{Blocked}
use Rattle.safety_handle.specs.declared.tag.Blocked.TheVariants.{Disposed as NotLive, StaleView as Broken, Pending as Waits}
use Rattle.plan_schedules.specs.declared.causes.Cause.{Cause}
use Rattle.plan_schedules.specs.declared.uses.NamedUse.{NamedUse}
use Rattle.plan_schedules.specs.Uses.{given_of}

abbrev pub is_disposed : Option Blocked → Bool
is_disposed (Some NotLive) = true
is_disposed _ = false

abbrev pub is_stale : Option Blocked → Bool
is_stale (Some Broken) = true
is_stale _ = false

-- the job that blocks a use, or 0
abbrev pub blocker_number : Option Blocked → ℕ
blocker_number (Some (Waits j)) = j.0
blocker_number _ = 0

-- whether a use is refused for a cause, which is none of several uses
abbrev pub has_cause : Bool → Refusal → NamedUse → Bool
has_cause parallel Disposed u = is_disposed u.blocked
has_cause parallel StaleView u = is_stale u.blocked
has_cause parallel NotParallel u = parallel && (writes_to u.access && is_shared u.kind)
has_cause parallel TempInJob u = u.is_temp
has_cause parallel (Pending j) u = nat_eq (blocker_number u.blocked) j.0
has_cause parallel _ u = false

-- a cause, with the name of the first use of which something is so
abbrev pub first_with : Refusal → (NamedUse → Bool) → List NamedUse → Option Cause
first_with refusal test [] = None
first_with refusal test (u ∷ more) =
    if test u then Some (record { refusal = refusal; name = u.name }) else first_with refusal test more

-- the same of the first use that is an alias of one before it
abbrev pub alias_after : List NamedUse → List NamedUse → Option Cause
alias_after before [] = None
alias_after before (u ∷ more) =
    if list_any (λ a. alias (given_of a) (given_of u)) before
    then Some (record { refusal = Alias; name = u.name })
    else alias_after (before ++ u ∷ []) more

abbrev pub alias_of : List NamedUse → Option Cause
alias_of uses = alias_after [] uses

-- the greatest of the jobs that block the uses, or 0
abbrev pub greatest_blocker : List NamedUse → ℕ
greatest_blocker [] = 0
greatest_blocker (u ∷ more) = max (blocker_number u.blocked) (greatest_blocker more)

abbrev pub pending_on : List NamedUse → ℕ → Option Cause
pending_on uses zero = None
pending_on uses (suc j) =
    first_with (Pending (record { 0 = suc j })) (has_cause false (Pending (record { 0 = suc j }))) uses

abbrev pub pending_of : List NamedUse → Option Cause
pending_of uses = pending_on uses (greatest_blocker uses)

-- the first of two causes that there is
abbrev pub or_next : Option Cause → Option Cause → Option Cause
or_next None next = next
or_next (Some cause) next = Some cause

-- the first of all causes that there is
abbrev pub refusal_by : List NamedUse → Bool → Bool → Option Cause
refusal_by uses parallel auto =
    or_next (first_with Disposed (has_cause parallel Disposed) uses)
    (or_next (first_with StaleView (has_cause parallel StaleView) uses)
    (or_next (first_with NotParallel (has_cause parallel NotParallel) uses)
    (or_next (first_with TempInJob (has_cause parallel TempInJob) uses)
    (or_next (alias_of uses)
    (if auto then None else pending_of uses)))))

-- a cause as the script has it
abbrev pub as_refused : Option Cause → Option Refused
as_refused None = None
as_refused (Some cause) = Some (refused cause.refusal cause.name)
