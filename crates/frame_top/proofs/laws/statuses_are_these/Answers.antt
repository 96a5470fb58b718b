use Rattle.std.specs.Prelude.{refl}
use Rattle.frame_top.proofs.laws.statuses_are_these.Goals as goal

pub returns : goal.returns
returns c = record {
  done = refl;
  statement_refused = refl;
  usage = refl;
  script_refused = refl;
  table_refused = refl;
  trapped = refl;
  unread = refl;
  unwritten = refl;
  no_memory = refl;
  past_limit = refl;
}
