use Rattle.kernel_exec.proofs.Ends.{stands_after}
use Rattle.kernel_exec.proofs.laws.words_stand_for_contents.Goals as goal

pub returns : goal.returns
returns c = record {
  trap = λ kernel binds steps index cells contents checked fit stand. (stands_after kernel binds checked fit index steps cells contents stand).trap;
  contents = λ kernel binds steps index cells contents checked fit stand. (stands_after kernel binds checked fit index steps cells contents stand).store;
}
