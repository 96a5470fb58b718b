-- The texts of events, in the Chrome trace event format. Each begins with what parts it from the one before.
--
-- Decided here: which bytes stand for each thing that was recorded. In which order they come is said in `Traces`.
use Rattle.std.specs.Prelude.{ℕ, ◌+◌, ◌/◌, ◌%◌, List, [], ◌++◌, Option, Some, None, codes, decimal, string_bytes, vec_len}
use Rattle.trace_text.specs.declared.data.Stretch.{Stretch}
use Rattle.trace_text.specs.declared.data.PieceTrace.{PieceTrace}
use Rattle.trace_text.specs.declared.data.JobTrace.{JobTrace}
use Rattle.trace_text.specs.declared.data.Lines.{Lines}
use Rattle.trace_text.specs.declared.data.Lines.TheVariants.{Nothing, One, Between}
use Rattle.trace_text.specs.declared.data.Wait.{Wait}
use Rattle.trace_text.specs.declared.data.SegmentTrace.{SegmentTrace}
use Rattle.trace_text.specs.declared.data.End.{End}
use Rattle.trace_text.specs.declared.data.ArrowTrace.{ArrowTrace}

-- TIMES

-- nanoseconds as microseconds, with three digits after the point
unfoldable pub time_text : ℕ → List ℕ
time_text t = decimal (t / 1000) ++ (codes "." ++ (decimal (t / 100 % 10) ++ (decimal (t / 10 % 10)
    ++ decimal (t % 10))))

-- where and when a slice is
unfoldable pub stretch_text : Stretch → List ℕ
stretch_text s = codes "\"ph\":\"X\",\"pid\":1,\"tid\":" ++ (decimal s.worker ++ (codes ",\"ts\":" ++ (time_text s.from
    ++ (codes ",\"dur\":" ++ time_text s.long))))

-- JOBS

-- the line of a schedule, where it is known
abbrev pub known_line : Option ℕ → List ℕ
known_line (Some line) = decimal line
known_line None = codes "null"

-- which job it is, after so many of earlier sections
unfoldable pub job_args : ℕ → JobTrace → List ℕ
job_args before j = codes "\"job\":" ++ (decimal (before + j.number) ++ (codes ",\"line\":" ++ known_line j.line))

-- which piece it is, of so many
unfoldable pub piece_args : ℕ → PieceTrace → List ℕ
piece_args pieces p = codes "\"piece\":" ++ (decimal p.number ++ (codes ",\"pieces\":" ++ (decimal pieces
    ++ (codes ",\"first\":" ++ (decimal p.first ++ (codes ",\"count\":" ++ decimal p.count))))))

-- A piece of a job: the name of its kernel, the row of its worker, when it was run, and which piece of which job it is.
unfoldable pub piece_text : ℕ → JobTrace → PieceTrace → List ℕ
piece_text before j p = codes ",\n{\"name\":\"" ++ (string_bytes j.kernel ++ (codes "\",\"cat\":\"job\","
    ++ (stretch_text p.ran ++ (codes ",\"args\":{" ++ (job_args before j ++ (codes ","
    ++ (piece_args (vec_len j.pieces) p ++ codes "}}")))))))

-- THE SCRIPT'S THREAD

-- the name of a segment: its lines
abbrev pub lines_name : Lines → List ℕ
lines_name Nothing = codes "script"
lines_name (One line) = codes "line " ++ decimal line
lines_name (Between first last) = codes "lines " ++ (decimal first ++ (codes " to " ++ decimal last))

unfoldable pub segment_args : ℕ → ℕ → List ℕ
segment_args section number = codes "\"section\":" ++ (decimal section ++ (codes ",\"segment\":" ++ decimal number))

-- a wait for so many jobs
abbrev pub wait_text : Wait → List ℕ
wait_text w = codes ",\n{\"name\":\"wait\",\"cat\":\"wait\"," ++ (stretch_text w.waited
    ++ (codes ",\"args\":{\"jobs\":" ++ (decimal w.jobs ++ codes "}}")))

abbrev pub wait_part : Option Wait → List ℕ
wait_part (Some w) = wait_text w
wait_part None = []

-- A segment of a section, and before it the wait that it ends.
abbrev pub segment_text : ℕ → SegmentTrace → List ℕ
segment_text section g = wait_part g.wait ++ (codes ",\n{\"name\":\"" ++ (lines_name g.lines
    ++ (codes "\",\"cat\":\"script\"," ++ (stretch_text g.ran ++ (codes ",\"args\":{"
    ++ (segment_args section g.number ++ codes "}}"))))))

-- the planning of a section
abbrev pub plan_text : ℕ → Stretch → List ℕ
plan_text section s = codes ",\n{\"name\":\"plan\",\"cat\":\"plan\"," ++ (stretch_text s
    ++ (codes ",\"args\":{\"section\":" ++ (decimal section ++ codes "}}")))

abbrev pub plan_part : ℕ → Option Stretch → List ℕ
plan_part section (Some s) = plan_text section s
plan_part section None = []

-- a section without jobs, which the script's thread runs at one go
abbrev pub alone_text : ℕ → Stretch → List ℕ
alone_text section s = codes ",\n{\"name\":\"section\",\"cat\":\"script\"," ++ (stretch_text s
    ++ (codes ",\"args\":{\"section\":" ++ (decimal section ++ codes "}}")))

abbrev pub alone_part : ℕ → Option Stretch → List ℕ
alone_part section (Some s) = alone_text section s
alone_part section None = []

-- ROWS AND ARROWS

-- the name of a worker's row
abbrev pub row_text : ℕ → List ℕ
row_text worker = codes ",\n{\"name\":\"thread_name\",\"ph\":\"M\",\"pid\":1,\"tid\":" ++ (decimal worker
    ++ (codes ",\"args\":{\"name\":\"worker " ++ (decimal worker ++ codes "\"}}")))

unfoldable pub end_text : ℕ → End → List ℕ
end_text number e = codes "\"id\":" ++ (decimal number ++ (codes ",\"pid\":1,\"tid\":" ++ (decimal e.worker
    ++ (codes ",\"ts\":" ++ time_text e.at))))

-- An arrow, which begins in one slice and ends in another.
abbrev pub arrow_text : ArrowTrace → List ℕ
arrow_text a = codes ",\n{\"name\":\"waits\",\"cat\":\"waits\",\"ph\":\"s\"," ++ (end_text a.number a.from
    ++ (codes "},\n{\"name\":\"waits\",\"cat\":\"waits\",\"ph\":\"f\",\"bp\":\"e\"," ++ (end_text a.number a.to
    ++ codes "}")))
