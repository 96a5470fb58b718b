-- What a handle of a host has: it is sound whatever the host did with it, since nobody else makes one.
use Rattle.std.specs.Prelude.{Option, None, Some, [], List}
use Rattle.frame_ast.specs.Accepted.{IsAccepted}
use Rattle.table_in.specs.Columns.{NamedColumn}
use Rattle.frame_stage.specs.Stages.{IsHelper}
use Rattle.frame_host.specs.Frames.{IsAnswer, IsBetween, IsUnderway}
use Rattle.frame_host.specs.Scripts.{tree_of}
use Rattle.frame_calls.specs.declared.held.Held.{Held}
use Rattle.frame_calls.specs.declared.held.Held.TheVariants.{Lost, Columns, Read, Between, Underway, Answered, Helping}

-- A script is accepted, a frame is where it can go on from, and a helper has a place of its section.
abbrev pub IsSoundHeld : Held → Type 0
IsSoundHeld Lost = Unit {0}
IsSoundHeld (Columns table) = Unit {0}
IsSoundHeld (Read script) = IsAccepted (tree_of script)
IsSoundHeld (Between frame) = IsBetween frame
IsSoundHeld (Underway section) = IsUnderway section
IsSoundHeld (Answered answer) = IsAnswer answer
IsSoundHeld (Helping helper) = IsHelper helper

abbrev pub IsSoundIf : Option Held → Type 0
IsSoundIf None = Unit {0}
IsSoundIf (Some held) = IsSoundHeld held

pub record IsSound (held : Option Held) : Type 0 where
  pub is : IsSoundIf held

-- the arrays of a handle for them, which has none while it is empty
abbrev pub columns_held : Option Held → Option (List NamedColumn)
columns_held None = Some []
columns_held (Some (Columns table)) = Some table
columns_held _ = None
