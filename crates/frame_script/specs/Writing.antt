-- The statements of a script, written out while its text is read: what has been written, and what that has to do with
-- the text.
use Rattle.std.specs.Prelude.{◌≡◌, ◌≤◌, ℕ, zero, suc, ◌+◌, ◌-◌, Bool, true, false, ◌&&◌, ◌||◌, not, nat_lt, if◌then◌else◌, List, [], ◌∷◌, ◌++◌, length, drop, slice_get, Option, None, Some}
use Rattle.std.specs.List.{AllZip}
use Rattle.job_base.specs.declared.limits.TheConstants.{MOST_STATEMENTS, MOST_TESTS}
use Rattle.frame_ast.specs.declared.kernel.Kernel.{Kernel as CheckedKernel}
use Rattle.frame_ast.specs.declared.script.Order.{Order}
use Rattle.frame_ast.specs.declared.script.Order.TheVariants as order
use Rattle.frame_ast.specs.declared.script.Statement.{Statement}
use Rattle.frame_ast.specs.Accepted.{is_when}
use Rattle.frame_script.specs.declared.written.OpenBlock.{OpenBlock}
use Rattle.frame_script.specs.declared.written.OpenBlock.TheVariants as block
use Rattle.script_text.specs.declared.raw.RawNumber.{RawNumber}
use Rattle.script_text.specs.declared.source.Source.{Source}
use Rattle.script_text.specs.Raw.{RawItems, Block, Repeat, When}
use Rattle.script_text.specs.Sources.{line_at, number_at}
use Rattle.script_names.specs.Names.{Name as Known}
use Rattle.frame_script.specs.Files.{Repeated, IsStatement, StandFor, Mark, marks_of, literals_in, too_long}
use Rattle.frame_script.specs.Copies.{IsCopy, AreCopies}

-- The statements so far, up to the first for which there is no room; how many of them are `when`; the line of that
-- first one; and the open blocks, the innermost first.
pub record Writing : Type 0 where
  pub statements : List Statement
  pub tests : ℕ
  pub over : Option ℕ
  pub blocks : List OpenBlock

abbrev pub nothing_written : Writing
nothing_written = record { statements = []; tests = 0; over = None; blocks = [] }

-- ONE STATEMENT

-- so many statements and so many `when` among them leave room for this one
abbrev pub fits_in : (statements tests : ℕ) → Order → Bool
fits_in statements tests o = nat_lt statements MOST_STATEMENTS && (not (is_when o) || nat_lt tests MOST_TESTS)

abbrev pub put_in : Bool → Writing → Statement → Writing
put_in true w x =
    record w { statements = w.statements ++ x ∷ []; tests = if is_when x.act then w.tests + 1 else w.tests }
put_in false w x = record w { over = Some x.line }

abbrev pub put_unless : Option ℕ → Writing → Statement → Writing
put_unless None w x = put_in (fits_in (length w.statements) w.tests x.act) w x
put_unless (Some line) w x = w

-- the statement comes next: behind the first for which there was no room, nothing more is written
abbrev pub put : Writing → Statement → Writing
put w x = put_unless w.over w x

abbrev pub put_all : Writing → List Statement → Writing
put_all w [] = w
put_all w (x ∷ more) = put_all (put w x) more

-- BLOCKS

abbrev pub opened : OpenBlock → Writing → Writing
opened b w = record w { blocks = b ∷ w.blocks }

abbrev pub with_count : ℕ → Order → Order
with_count n (order.When name sign value count) = order.When name sign value n
with_count n o = o

-- a `when` at this place counts the statements behind it
abbrev pub count_at : ℕ → List Statement → List Statement
count_at at [] = []
count_at zero (x ∷ more) = record x { act = with_count (length more) x.act } ∷ more
count_at (suc at) (x ∷ more) = x ∷ count_at at more

-- a copy of the statement at this place comes next
abbrev pub PutsCopyAt : ℕ → Writing → Writing → Type 0
PutsCopyAt at w v = (x copy : Statement) × (slice_get w.statements at ≡ Some x) × IsCopy x copy × (v ≡ put w copy)

-- copies of these statements come next, once or so many times
abbrev pub PutsCopies : List Statement → Writing → Writing → Type 0
PutsCopies block w v = (copies : List Statement) × AreCopies block copies × (v ≡ put_all w copies)

abbrev pub PutsRepeated : ℕ → List Statement → Writing → Writing → Type 0
PutsRepeated n block w v = (copies : List Statement) × Repeated n (AreCopies block) copies × (v ≡ put_all w copies)

-- the innermost of these blocks ends: what a `repeat` has written is copied as often as it says, a `when` counts what
-- it has written
abbrev pub ClosesIn : List OpenBlock → Writing → Writing → Type 0
ClosesIn [] w v = ⊥
ClosesIn (block.Repeat start count ∷ around) w v =
    PutsRepeated (count - 1) (drop start w.statements) (record w { blocks = around }) v
ClosesIn (block.When at ∷ around) w v = v ≡ record w { statements = count_at at w.statements; blocks = around }

abbrev pub Closes : Writing → Writing → Type 0
Closes w v = ClosesIn w.blocks w v

-- WHAT IS WRITTEN OF A TEXT

-- a written statement has this mark
abbrev pub HasMark : Source → Statement → Mark → Type 0
HasMark s x m = (x.line ≡ line_at s m.at) × (is_when x.act ≡ m.tested)

-- These statements are written of the whole, and the rest is left: behind them, whatever the rest stands for, they are
-- what the whole stands for.
pub record IsPart (s : Source) (names : List Known) (kernels : List CheckedKernel) (before literals : ℕ)
    (whole : RawItems) (done : List Statement) (marks : List Mark) (rest : RawItems) : Type 0 where
  pub literals_are : before + length (literals_in s whole) ≡ literals + length (literals_in s rest)
  pub marks_are : marks_of s whole ≡ marks ++ marks_of s rest
  pub have_marks : AllZip (HasMark s) done marks
  pub stand : (behind : List Statement) → StandFor s names kernels literals rest behind →
      StandFor s names kernels before whole (done ++ behind)

-- These statements are written of the whole where these blocks are open, behind so many lists of values. Of the
-- innermost block this is left, of the one around it that, and so on.
pub data IsWrittenOf (s : Source) (names : List Known) (kernels : List CheckedKernel) (whole : RawItems) : ℕ →
    List Statement → List Mark → List OpenBlock → List RawItems → Type 0 where
  outside : {literals : ℕ} {statements : List Statement} {marks : List Mark} {rest : RawItems} →
      IsPart s names kernels 0 literals whole statements marks rest →
      IsWrittenOf s names kernels whole literals statements marks [] (rest ∷ [])
  in_repeat : {literals start count : ℕ} {statements : List Statement} {marks : List Mark} {blocks : List OpenBlock}
      {rest more : RawItems} {around : List RawItems}
      (before at n : ℕ) (inner : RawItems) (earlier done : List Statement) (earlier_marks done_marks : List Mark) →
      IsWrittenOf s names kernels whole before earlier earlier_marks blocks (Block at (Repeat n) inner more ∷ around) →
      IsPart s names kernels before literals inner done done_marks rest →
      start ≡ length earlier → count ≡ number_at s n → 1 ≤ count →
      statements ≡ earlier ++ done → marks ≡ earlier_marks ++ done_marks →
      IsWrittenOf s names kernels whole literals statements marks (block.Repeat start count ∷ blocks)
      (rest ∷ more ∷ around)
  in_when : {literals start : ℕ} {statements : List Statement} {marks : List Mark} {blocks : List OpenBlock}
      {rest more : RawItems} {around : List RawItems}
      (before at name test : ℕ) (value : RawNumber) (inner : RawItems) (x : Statement) (earlier done : List Statement)
      (earlier_marks done_marks : List Mark) →
      IsWrittenOf s names kernels whole before earlier earlier_marks blocks
      (Block at (When name test value) inner more ∷ around) →
      IsPart s names kernels before literals inner done done_marks rest →
      start ≡ length earlier → IsStatement s names kernels before 0 at (When name test value) x →
      statements ≡ earlier ++ x ∷ done → marks ≡ earlier_marks ++ record { at = at; tested = true } ∷ done_marks →
      IsWrittenOf s names kernels whole literals statements marks (block.When start ∷ blocks) (rest ∷ more ∷ around)

-- how many `when` are among these
abbrev pub tests_in : List Mark → ℕ
tests_in [] = 0
tests_in (m ∷ more) = if m.tested then 1 + tests_in more else tests_in more

-- there was room for all these
pub record HadRoom (w : Writing) (marks : List Mark) : Type 0 where
  pub within : w.over ≡ None
  pub statements_are : length marks ≡ length w.statements
  pub tests_are : tests_in marks ≡ w.tests
  pub few_statements : length marks ≤ MOST_STATEMENTS
  pub few_tests : tests_in marks ≤ MOST_TESTS

-- The text of the whole is written so far, behind so many lists of values: all that stands before the rest, or up to
-- the first statement of the whole for which there is no room.
pub data Completes (s : Source) (names : List Known) (kernels : List CheckedKernel) (literals : ℕ) (w : Writing)
    (rest : List RawItems) (whole : RawItems) : Type 0 where
  so_far : (marks : List Mark) → HadRoom w marks →
      IsWrittenOf s names kernels whole literals w.statements marks w.blocks rest →
      Completes s names kernels literals w rest whole
  no_room : (line at : ℕ) → w.over ≡ Some line → too_long s whole ≡ Some at → line ≡ line_at s at →
      length rest ≡ 1 + length w.blocks →
      Completes s names kernels literals w rest whole
