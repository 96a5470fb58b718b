use Rattle.std.specs.Prelude.{◌≡◌, IfSome}
use Rattle.frame_stage.specs.Stages.{IsHelper}
use Rattle.frame_host.specs.Frames.{IsUnderway, columns_in, tree_in}
use Rattle.host_rows.proofs.running.run_section.Given as goal

abbrev pub invariant-loop-turn : goal.invariant-loop-turn
invariant-loop-turn l = record {
  sound : IsUnderway l.section;
  helper : IfSome l.helper IsHelper;
  script : tree_in l.section.frame ≡ tree_in l.fn.section.frame;
  table : columns_in l.section.frame ≡ columns_in l.fn.section.frame;
}
