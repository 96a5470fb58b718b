-- Where a draft was asked for a copy of a kernel, nothing but the copies and their places changes.
use Rattle.std.proofs.Common.{◌≡◌, ⊎_elim, ℕ, Bool, true, false, Some, sym, ap, ◌∙◌}
use Rattle.std.specs.Prelude.{slice_get}
use Rattle.frame_ast.specs.declared.script.Script.{Script}
use Rattle.plan_state.specs.declared.state.Draft.{Draft}
use Rattle.plan_state.specs.Copies.{IsCopied, IsGuardedAnew, IsGuardedAt}
use Rattle.plan_state.specs.Starts.{HasCopyFor}

-- of plain ones
pub plain_moved : (script : Script) (d middle : Draft) (kernel place : ℕ) → IsCopied script d middle kernel place
    → middle ≡ record d { copies_of = middle.copies_of; kernels = middle.kernels; codes = middle.codes }
plain_moved script d middle kernel place copied = ⊎_elim
    (λ l. l.1 ∙ ap (λ (m : Draft). record d { copies_of = m.copies_of; kernels = m.kernels; codes = m.codes }) (sym l.1))
    (λ r. ap (λ (m : Draft). record m { copies_of = middle.copies_of }) r.added.rest)
    copied

-- of guarded ones
pub guarded_moved : (script : Script) (d middle : Draft) (kernel place : ℕ) → IsGuardedAt script d middle kernel place
    → middle ≡ record d { guards_of = middle.guards_of; kernels = middle.kernels; codes = middle.codes }
guarded_moved script d middle kernel place guarded = ⊎_elim
    (λ (l : (slice_get d.guards_of.items kernel ≡ Some (Some place)) × (middle ≡ d)). l.1
    ∙ ap (λ (m : Draft). record d { guards_of = m.guards_of; kernels = m.kernels; codes = m.codes }) (sym l.1))
    (λ (r : IsGuardedAnew script d middle kernel place). ap (λ (m : Draft). record m { guards_of = middle.guards_of }) r.added.rest)
    guarded

-- jobs and pieces stay
pub jobs_stay : (guarded : Bool) (script : Script) (d middle : Draft) (kernel place : ℕ) → HasCopyFor guarded script d middle kernel place
    → middle.jobs ≡ d.jobs
jobs_stay false script d middle kernel place has = ap (λ (m : Draft). m.jobs) (plain_moved script d middle kernel place has)
jobs_stay true script d middle kernel place has = ap (λ (m : Draft). m.jobs) (guarded_moved script d middle kernel place has)

pub pieces_stay : (guarded : Bool) (script : Script) (d middle : Draft) (kernel place : ℕ) → HasCopyFor guarded script d middle kernel place
    → middle.pieces ≡ d.pieces
pieces_stay false script d middle kernel place has = ap (λ (m : Draft). m.pieces) (plain_moved script d middle kernel place has)
pieces_stay true script d middle kernel place has = ap (λ (m : Draft). m.pieces) (guarded_moved script d middle kernel place has)
