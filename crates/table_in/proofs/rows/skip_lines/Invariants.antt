use Rattle.std.proofs.Common.{◌≡◌, ◌≤◌, ◌-◌, length}
use Rattle.table_in.specs.Plain.{rows_after}
use Rattle.table_in.proofs.rows.skip_lines.Given as goal

abbrev pub invariant-loop-end : goal.invariant-loop-end
invariant-loop-end l = record {
  same : rows_after l.text l.from ≡ rows_after l.text l.end;
  ahead : l.from ≤ l.end;
  within : l.end ≤ length l.text;
}

abbrev pub decreases-loop-end : goal.decreases-loop-end
decreases-loop-end l = length l.text - l.end
