-- A sink that is kept in memory: which writes fail, how many bytes a write takes, and what it leaves.
use Rattle.std.specs.Prelude.{ℕ, ◌-◌, ◌==◌, Bool, if◌then◌else◌, ◌||◌, List, ◌++◌, length, take, min, Result, Ok, Err}
use Rattle.std.specs.List.{list_any}
use Rattle.job_base.specs.declared.sink.SinkFault.{SinkFault}
use Rattle.job_base.specs.Faults.{next_count}

-- the bytes taken, how many more find room, how many one write takes at most, the numbers of the writes that fail, and
-- the writes and the faults so far
pub record SinkInMemory : Type 0 where
  pub taken : List ℕ
  pub room : ℕ
  pub step : ℕ
  pub failing : List ℕ
  pub calls : ℕ
  pub faults : ℕ

-- whether the next write fails
abbrev pub fails : SinkInMemory → Bool
fails sink = (sink.room == 0) || list_any (λ k. k == sink.calls) sink.failing

-- how many bytes the next write takes, where it doesn't fail
abbrev pub count_of : SinkInMemory → List ℕ → ℕ
count_of sink bytes = min (min (length bytes) sink.step) sink.room

-- one more write, which failed
abbrev pub failed : SinkInMemory → SinkInMemory
failed sink = record sink { calls = next_count sink.calls; faults = next_count sink.faults }

-- one more write, which took some first bytes
abbrev pub taking : SinkInMemory → List ℕ → SinkInMemory
taking sink bytes = record sink {
  taken = sink.taken ++ take (count_of sink bytes) bytes;
  room = sink.room - count_of sink bytes;
  calls = next_count sink.calls;
}

-- what the next write answers
abbrev pub answer_of : SinkInMemory → List ℕ → Result ℕ SinkFault
answer_of sink bytes = if fails sink then Err record {} else Ok (count_of sink bytes)

-- the sink after the next write
abbrev pub after : SinkInMemory → List ℕ → SinkInMemory
after sink bytes = if fails sink then failed sink else taking sink bytes
