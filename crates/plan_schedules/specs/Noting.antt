-- What the safety book keeps after a new job was noted with its uses.
use Rattle.std.specs.Prelude.{ℕ, ◌+◌, ◌≡◌, ◌<◌, Bool, true, ◌&&◌, nat_eq, if◌then◌else◌, List, [], ◌∷◌, Option, None, Some}
use Rattle.job_base.specs.declared.limits.TheConstants.{MOST_STATEMENTS}
use Rattle.frame_ast.specs.Schedules.{is_list, writes_to}
use Rattle.safety_handle.specs.declared.tag.Tag.{Tag}
use Rattle.safety_handle.specs.Entries.{SlotState}
use Rattle.safety_handle.specs.Uses.{noted_read, noted_write}
use Rattle.plan_schedules.specs.declared.uses.NamedUse.{NamedUse}

abbrev pub breaks_views : NamedUse → Bool
breaks_views u = is_list u.kind && writes_to u.access

-- the state of its slot
abbrev pub noted_state : ℕ → NamedUse → SlotState → SlotState
noted_state job u st = record st {
  view = if breaks_views u then st.view + 1 else st.view;
  latest = if writes_to u.access then noted_write st.latest job else noted_read st.latest job;
}

-- the states of all slots after one use was noted
abbrev pub noted_by : ℕ → NamedUse → Option Tag → (ℕ → SlotState) → ℕ → SlotState
noted_by job u None states k = states k
noted_by job u (Some tag) states k = if nat_eq k tag.slot.0 then noted_state job u (states k) else states k

abbrev pub noted : ℕ → NamedUse → (ℕ → SlotState) → ℕ → SlotState
noted job u states = noted_by job u u.tag states

-- and after all of them, in their order
abbrev pub noted_all : ℕ → List NamedUse → (ℕ → SlotState) → ℕ → SlotState
noted_all job [] states = states
noted_all job (u ∷ more) states = noted_all job more (noted job u states)

-- A use may be noted: its slot is live, and its views were broken a few times alone.
abbrev pub MayNoteBy : NamedUse → Option Tag → (ℕ → SlotState) → Type 0
MayNoteBy u None states = Unit {0}
MayNoteBy u (Some tag) states =
    ((states tag.slot.0).live ≡ true)
    × (breaks_views u ≡ true → (states tag.slot.0).view < MOST_STATEMENTS)

abbrev pub MayNote : NamedUse → (ℕ → SlotState) → Type 0
MayNote u states = MayNoteBy u u.tag states

abbrev pub MayNoteAll : List NamedUse → (ℕ → SlotState) → Type 0
MayNoteAll [] states = Unit {0}
MayNoteAll (u ∷ more) states = MayNote u states × ((job : ℕ) → MayNoteAll more (noted job u states))
