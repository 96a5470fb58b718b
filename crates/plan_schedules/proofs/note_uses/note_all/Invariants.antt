use Rattle.std.proofs.Common.{◌≡◌, ℕ, drop}
use Rattle.safety_handle.specs.Entries.{state_of}
use Rattle.plan_schedules.specs.Noting.{MayNoteAll, noted_all}
use Rattle.plan_schedules.proofs.note_uses.note_all.Given as goal

abbrev pub invariant-loop-i : goal.invariant-loop-i
invariant-loop-i l = record {
  may : MayNoteAll (drop l.i l.uses) (state_of l.world.safety);
  noted : (k : ℕ) → noted_all l.job.0 (drop l.i l.uses) (state_of l.world.safety) k
      ≡ noted_all l.job.0 l.uses (state_of l.initial.world.safety) k;
  rest : l.world ≡ record l.initial.world { safety = l.world.safety };
}
