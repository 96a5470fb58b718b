use Rattle.std.specs.Prelude.{refl}
use Rattle.job_base.proofs.laws.limits_are_these.Goals as goal

pub returns : goal.returns
returns c = record {
  script_bytes = refl;
  table_bytes = refl;
  statements = refl;
  repeats = refl;
  blocks = refl;
  tests = refl;
  jobs = refl;
  pieces = refl;
  kernels = refl;
  params = refl;
  locals = refl;
  nodes = refl;
  depth = refl;
  guard_params = refl;
  guard_nodes = refl;
  guard_depth = refl;
  name_bytes = refl;
  column_bytes = refl;
  elements = refl;
  indexes = refl;
  pairs = refl;
  stream_indexes = refl;
  stream_items = refl;
  width = refl;
  live_words = refl;
  created_words = refl;
  steps = refl;
  workers = refl;
  generated_jobs = refl;
  seed = refl;
}
