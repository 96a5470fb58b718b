-- The text of a run's timeline.
--
-- Decided here: which events a trace has, and in which order. Each segment, each piece of each job and each arrow that
-- was recorded has its event once. What an event looks like is said in `Events`.
use Rattle.std.specs.Prelude.{ℕ, zero, suc, ◌+◌, ◌-◌, List, [], ◌∷◌, ◌++◌}
use Rattle.trace_text.specs.declared.data.PieceTrace.{PieceTrace}
use Rattle.trace_text.specs.declared.data.JobTrace.{JobTrace}
use Rattle.trace_text.specs.declared.data.SegmentTrace.{SegmentTrace}
use Rattle.trace_text.specs.declared.data.ArrowTrace.{ArrowTrace}
use Rattle.trace_text.specs.declared.data.SectionTrace.{SectionTrace}
use Rattle.trace_text.specs.declared.trace.TheConstants.{TRACE_HEAD, TRACE_END}
use Rattle.trace_text.specs.Events.{piece_text, segment_text, plan_part, alone_part, row_text, arrow_text}

-- an event for each piece of a job
abbrev pub pieces_text : ℕ → JobTrace → List PieceTrace → List ℕ
pieces_text before j [] = []
pieces_text before j (p ∷ more) = piece_text before j p ++ pieces_text before j more

-- jobs of a section, before which there were so many
abbrev pub jobs_text : ℕ → List JobTrace → List ℕ
jobs_text before [] = []
jobs_text before (j ∷ more) = pieces_text before j j.pieces.items ++ jobs_text before more

abbrev pub segments_text : ℕ → List SegmentTrace → List ℕ
segments_text section [] = []
segments_text section (g ∷ more) = segment_text section g ++ segments_text section more

abbrev pub arrows_text : List ArrowTrace → List ℕ
arrows_text [] = []
arrows_text (a ∷ more) = arrow_text a ++ arrows_text more

-- A section: its segments, the pieces of its jobs, and its arrows.
abbrev pub section_text : SectionTrace → List ℕ
section_text s = plan_part s.number s.planned ++ (alone_part s.number s.alone
    ++ (segments_text s.number s.segments.items ++ (jobs_text s.jobs_before s.jobs.items
    ++ arrows_text s.arrows.items)))

abbrev pub sections_text : List SectionTrace → List ℕ
sections_text [] = []
sections_text (s ∷ more) = section_text s ++ sections_text more

-- the names of so many rows, from that of a worker on
abbrev pub rows_text : ℕ → ℕ → List ℕ
rows_text zero worker = []
rows_text (suc n) worker = row_text worker ++ rows_text n (worker + 1)

-- The trace of a run with so many workers. The script's thread is the first of them.
abbrev pub trace_text : ℕ → List SectionTrace → List ℕ
trace_text workers sections = TRACE_HEAD.now ++ (rows_text (workers - 1) 1 ++ (sections_text sections
    ++ TRACE_END.now))
