use Rattle.std.proofs.Common.{IfSome, sym, subst, ◌∙◌}
use Rattle.frame_stage.specs.Stages.{IsHelper}
use Rattle.frame_host.specs.Frames.{IsUnderway}
use Rattle.host_rows.proofs.running.run_section.Goals as goal
use Rattle.host_rows.proofs.running.run_section.Goals.{in-Some, in_default, else-loop-turn-test, then-loop-turn-test+then-not-more}

pub loop-turn-preserved : goal.loop-turn-preserved
loop-turn-preserved c = record {
  sound = c.turn-more.ensures.sound;
  helper = elim c.match-helper.branch [
    | in-Some w ↦ subst (λ h. IfSome h IsHelper) (sym w.helper-is) w.turn.ensures.sound
    | in_default w ↦ subst (λ h. IfSome h IsHelper) (sym w.helper-is) c.loop-turn.invariant.helper
  ];
  script = c.turn-more.ensures.script ∙ c.loop-turn.invariant.script;
  table = c.turn-more.ensures.table ∙ c.loop-turn.invariant.table;
}

pub end-requires : goal.end-requires
end-requires c = record {
  sound = elim c.loop-turn-test.branch [
    | else-loop-turn-test w ↦ subst IsUnderway (sym w.section-is) c.loop-turn.invariant.sound
    | then-loop-turn-test+then-not-more w ↦ subst IsUnderway (sym w.section-is) w.turn-more.ensures.sound
  ];
}
