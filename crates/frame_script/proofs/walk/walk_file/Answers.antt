use Rattle.std.proofs.Common.{[], ◌∷◌, arith}
use Rattle.script_text.specs.Items.{outside}
use Rattle.frame_script.proofs.Walking.ItemSteps.{at_first}
use Rattle.frame_script.proofs.walk.walk_file.Goals as goal

pub loop-walk-init : goal.loop-walk-init
loop-walk-init c =
    let file = c.requires.file in
    let w = c.in_ok-walk.ensures in
    record {
      within = omega arith;
      walking = record {
        whole = file.items;
        spells = file.spells;
        left = file.items ∷ [];
        opens = outside file.spells;
        is = at_first c.args.source file.items c.in_ok-walk.walk file.stand w.names w.kernels w.literals w.written w.tested w.outer_tests;
      };
      on = c.new-lines.ensures.on c.args.source;
    }
