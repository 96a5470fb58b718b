-- Which statements of a script a plan is of: those of a section.
--
-- A section begins at the `when` at which the one before it ended. The block of that `when` is passed by where its test
-- doesn't hold, and so is the block of each `when` that is refused.
use Rattle.std.specs.Prelude.{ℕ, zero, suc, ◌+◌, ◌-◌, ◌^◌, min, Bool, true, false, List, drop, take, length, Option, None, Some, slice_get}
use Rattle.frame_ast.specs.declared.script.Order.{Order}
use Rattle.frame_ast.specs.declared.script.Order.TheVariants.{When}
use Rattle.frame_ast.specs.declared.script.Script.{Script}
use Rattle.frame_ast.specs.declared.script.Statement.{Statement}
use Rattle.frame_view.specs.declared.part.Part.{Part}

-- the block of a `when`
abbrev pub passed_with : Order → ℕ
passed_with (When name sign value count) = count
passed_with _ = 0

abbrev pub passed_by : Option Statement → ℕ
passed_by None = 0
passed_by (Some x) = passed_with x.act

-- how many are passed by after a statement: one less, or its block, where it isn't passed by itself
abbrev pub passing_after : ℕ → Order → ℕ
passing_after zero x = passed_with x
passing_after (suc more) x = more

-- the whole of a script
abbrev pub whole : Script → Part
whole script = record { from = 0; to = length script.statements.items; passed = 0 }

-- the next place, as a number of the machine
abbrev pub place_after : ℕ → ℕ
place_after at = min (at + 1) (2 ^ 64 - 1)

-- those of a section from one place to another, by whether the test held at which the section before it ended
abbrev pub part_of : Script → ℕ → ℕ → Option Bool → Part
part_of script from to None = record { from = from; to = to; passed = 0 }
part_of script from to (Some true) = record { from = place_after from; to = to; passed = 0 }
part_of script from to (Some false) = record {
  from = place_after from;
  to = to;
  passed = passed_by (slice_get script.statements.items from);
}

-- the statements of a part
abbrev pub statements_in : Script → Part → List Statement
statements_in script part = drop part.from (take part.to script.statements.items)
