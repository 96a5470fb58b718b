-- What the operations of a segment need of the cells, so that they can be run and printed.
use Rattle.std.specs.Prelude.{ℕ, ◌≤◌, ◌<◌, Bool, IsTrue, if◌then◌else◌, List, [], Option}
use Rattle.frame_ast.specs.Contents.{Contents}
use Rattle.kernel_exec.specs.Layout.{Holds}
use Rattle.merge_laws.specs.Graph.{Cells}
use Rattle.job_base.specs.declared.Refusal.{Refusal}
use Rattle.job_base.specs.declared.Trap.{Trap}
use Rattle.kernel_exec.specs.declared.notes.Notes.{Notes}
use Rattle.frame_core.specs.declared.piece.Piece.{Piece}
use Rattle.frame_core.specs.declared.piece.Piece.TheVariants.{OfScript, OfJob}
use Rattle.frame_core.specs.declared.plan.Act.{Act}
use Rattle.frame_core.specs.declared.plan.Act.TheVariants.{Print}
use Rattle.frame_core.specs.declared.plan.Op.{Op}
use Rattle.frame_core.specs.declared.plan.Plan.{Plan}
use Rattle.frame_core.specs.Names.{name_of}
use Rattle.frame_core.specs.Output.{answer_line}
use Rattle.frame_core.specs.Pieces.{own_word, IsPieceOf, piece_numbered}
use Rattle.frame_core.specs.Effects.{part_run, piece_cells}
use Rattle.frame_core.specs.Graphs.{before_piece}
use Rattle.frame_core.specs.Laws.{TellsTraps}
use Rattle.kernel_exec.specs.Notes.{IsNoteOf}

-- the words of a container stand for contents where it is printed
abbrev pub MayPrint : Act → Cells → Type 0
MayPrint (Print at) cells = (contents : Contents) × Holds cells at contents
MayPrint _ cells = Unit {0}

-- the own words of all pieces of jobs may be read
abbrev pub MayReadOwn : Plan → (ℕ → Bool) → Type 0
MayReadOwn plan readable = (w : ℕ) → plan.cells ≤ w → w < plan.words → IsTrue (readable w)

-- the own words of all pieces of jobs tell the traps of the run in script order
abbrev pub TellAll : Plan → Cells → Type 0
TellAll plan cells = (j i : ℕ) → IsPieceOf plan (OfJob j i)
    → TellsTraps (own_word plan j i) (part_run plan j i (before_piece plan (OfJob j i))).traps cells

abbrev pub one_if : Bool → ℕ
one_if b = if b then 1 else 0

-- the notes are of the traps that the piece of that number has in the run in script order
abbrev pub piece_run : Plan → Piece → List (ℕ × Trap)
piece_run plan (OfScript k) = []
piece_run plan (OfJob j i) = (part_run plan j i (before_piece plan (OfJob j i))).traps

abbrev pub NotesPiece : Plan → ℕ → Notes → Type 0
NotesPiece plan p notes = IsNoteOf (piece_run plan (piece_numbered plan p)) notes

-- the line of an operation on these cells that was answered so
abbrev pub said_line : Plan → Op → Cells → Option Refusal → List ℕ
said_line plan op cells answer = answer_line op.line (name_of plan op.name) op.act cells answer

-- the cells after a segment
abbrev pub segment_cells : Plan → ℕ → Cells
segment_cells plan i = piece_cells plan (OfScript i) (before_piece plan (OfScript i))
