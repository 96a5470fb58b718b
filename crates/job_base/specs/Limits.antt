-- The table of limits as numbers: a clause that cites a limit by its name says nothing of its value, so one law says it
-- of all.
use Rattle.std.specs.Prelude.{◌≡◌}
use Rattle.job_base.specs.declared.limits.TheConstants.{MOST_SCRIPT_BYTES, MOST_TABLE_BYTES, MOST_STATEMENTS, MOST_REPEATS, MOST_BLOCKS, MOST_TESTS, MOST_JOBS, MOST_PIECES, MOST_KERNELS, MOST_PARAMS, MOST_LOCALS, MOST_NODES, MOST_DEPTH, GUARD_PARAMS, GUARD_NODES, GUARD_DEPTH, MOST_NAME_BYTES, MOST_COLUMN_BYTES, MOST_ELEMENTS, MOST_INDEXES, MOST_PAIRS, MOST_STREAM_INDEXES, MOST_STREAM_ITEMS, MOST_WIDTH, MOST_LIVE_WORDS, MOST_CREATED_WORDS, MOST_STEPS, MOST_WORKERS, MOST_GENERATED_JOBS, MOST_SEED}

pub record LimitsAreThese : Type 0 where
  pub script_bytes : MOST_SCRIPT_BYTES ≡ 16777216
  pub table_bytes : MOST_TABLE_BYTES ≡ 67108864
  pub statements : MOST_STATEMENTS ≡ 65536
  pub repeats : MOST_REPEATS ≡ 65536
  pub blocks : MOST_BLOCKS ≡ 8
  pub tests : MOST_TESTS ≡ 1024
  pub jobs : MOST_JOBS ≡ 4096
  pub pieces : MOST_PIECES ≡ 64
  pub kernels : MOST_KERNELS ≡ 256
  pub params : MOST_PARAMS ≡ 16
  pub locals : MOST_LOCALS ≡ 64
  pub nodes : MOST_NODES ≡ 4096
  pub depth : MOST_DEPTH ≡ 64
  pub guard_params : GUARD_PARAMS ≡ 1
  pub guard_nodes : GUARD_NODES ≡ 5
  pub guard_depth : GUARD_DEPTH ≡ 1
  pub name_bytes : MOST_NAME_BYTES ≡ 64
  pub column_bytes : MOST_COLUMN_BYTES ≡ 256
  pub elements : MOST_ELEMENTS ≡ 1048576
  pub indexes : MOST_INDEXES ≡ 1048576
  pub pairs : MOST_PAIRS ≡ 4096
  pub stream_indexes : MOST_STREAM_INDEXES ≡ 65536
  pub stream_items : MOST_STREAM_ITEMS ≡ 1024
  pub width : MOST_WIDTH ≡ 1024
  pub live_words : MOST_LIVE_WORDS ≡ 1048576
  pub created_words : MOST_CREATED_WORDS ≡ 8388608
  pub steps : MOST_STEPS ≡ 1000000
  pub workers : MOST_WORKERS ≡ 64
  pub generated_jobs : MOST_GENERATED_JOBS ≡ 4000
  pub seed : MOST_SEED ≡ 2147483647
