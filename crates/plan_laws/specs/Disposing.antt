-- Statements that add nothing to a plan: those that dispose containers, and those that change nothing of what it knows.
use Rattle.std.specs.Prelude.{ℕ, ◌≡◌, Bool, true}
use Rattle.frame_ast.specs.Effects.{dispose}
use Rattle.frame_ast.specs.Laws.{IsKnown}
use Rattle.frame_ast.specs.States.{ScriptState}
use Rattle.plan_laws.specs.Drafts.{Draft}
use Rattle.plan_laws.specs.Planned.{Outline, IsPlanned}

-- the state in which these containers are alive
abbrev pub with_alive : (ℕ → Bool) → ScriptState → ScriptState
with_alive alive s = record s { alive = alive }

-- Any containers end at once. The words of one come back at once where all its users are completed, and else once they
-- are.
abbrev pub EndsArePlanned : Type 0
EndsArePlanned = (x : Outline) (s : ScriptState) (alive : ℕ → Bool) (d : Draft)
    → IsKnown s
    → ((c : ℕ) → alive c ≡ true → s.alive c ≡ true)
    → IsPlanned x s d
    → IsPlanned x (with_alive alive s) d

-- so a disposal adds nothing, with `after` or without
abbrev pub DisposalsArePlanned : Type 0
DisposalsArePlanned = (x : Outline) (s : ScriptState) (name : ℕ) (d : Draft)
    → IsKnown s
    → IsPlanned x s d
    → IsPlanned x (dispose name s) d

-- What a plan knows of a state. A statement that changes none of it, as `slice`, `view`, `copy`, `combine`, `flush` or
-- an accepted `when`, adds nothing.
pub record IsSameTo (s t : ScriptState) : Type 0 where
  pub made : t.made ≡ s.made
  pub contents : t.contents ≡ s.contents
  pub alive : t.alive ≡ s.alive
  pub uses : t.uses ≡ s.uses
  pub range : t.range ≡ s.range
  pub book : t.book ≡ s.book
  pub traps : t.traps ≡ s.traps
  pub refused : t.refused ≡ s.refused
  pub lines : t.lines ≡ s.lines

abbrev pub OthersArePlanned : Type 0
OthersArePlanned = (x : Outline) (s t : ScriptState) (d : Draft) → IsSameTo s t → IsPlanned x s d → IsPlanned x t d
