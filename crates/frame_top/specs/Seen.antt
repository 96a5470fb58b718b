-- What whoever looks on has seen of a run: its sections.
--
-- Decided here: which sections a script's run has, and in which order. What a section is, and which test it ends at, is
-- said in `frame_plan` (`Sections`). There is no choice: the test at which a section ends is the first one after its
-- beginning that acts.
use Rattle.std.specs.Prelude.{◌≡◌, ℕ, ◌<◌, Bool, true, ◌||◌, nat_eq, List, [], ◌∷◌, ◌++◌, length, Option, None, IsSome}
use Rattle.frame_ast.specs.declared.script.Script.{Script}
use Rattle.frame_ast.specs.Orders.{Table}
use Rattle.frame_plan.specs.declared.section.Section.{Section}
use Rattle.frame_plan.specs.declared.sections.SectionBook.{SectionBook}
use Rattle.frame_plan.specs.Sections.{IsOutcome, IsSectionOf, place_of}
use Rattle.command_words.specs.Words.{Text}
use Rattle.frame_top.specs.declared.extent.Extent.{Extent}
use Rattle.frame_top.specs.Inputs.{Told, Reads}
use Rattle.frame_top.specs.Refusals.{table_of, table_refusal}
use Rattle.frame_top.specs.declared.status.TheConstants.{DONE, STATEMENT_REFUSED, TRAPPED}

-- SECTIONS

-- A section, from which place among the statements to which it goes, and whether the test holds at which the one
-- before it ended: there is none before the first one.
pub record SectionAt : Type 0 where
  pub from : ℕ
  pub to : ℕ
  pub held : Option Bool
  pub section : Section

abbrev pub section_at : Extent → Section → SectionAt
section_at extent section = record { from = extent.from; to = extent.to; held = extent.held; section = section }

-- It is the script's section from a place on.
pub record IsSectionAt (script : Script) (table : Table) (from : ℕ) (s : SectionAt) : Type 0 where
  pub begins : s.from ≡ from
  pub outcome : IsOutcome script table from s.held
  pub is_section : IsSectionOf script table from s.to s.section

-- It ends at a later test, so another one follows.
abbrev pub IsTested : ℕ → SectionAt → Type 0
IsTested from s = IsSome s.section.test × (from < s.to)

-- The script's sections from one place to another: each begins where the one before it ended, and ends at a test.
abbrev pub Lead : Script → Table → ℕ → List SectionAt → ℕ → Type 0
Lead script table from [] to = to ≡ from
Lead script table from (s ∷ more) to =
    IsSectionAt script table from s × IsTested from s × Lead script table s.to more to

-- The sections of a script's whole run: each but the last one ends at a test, and the last one at the script's end.
pub record AreSectionsOf (script : Script) (table : Table) (sections : List SectionAt) : Type 0 where
  pub earlier : List SectionAt
  pub last : SectionAt
  pub are : sections ≡ earlier ++ last ∷ []
  pub from : ℕ
  pub lead : Lead script table 0 earlier from
  pub is_last : IsSectionAt script table from last
  pub ends : last.to ≡ length script.statements.items

-- WHO LOOKS ON. Here `saw` says of some sections that they were seen.

-- The sections up to a place were seen.
pub record HasSeenTo (saw : List SectionAt → Type 0) (script : Script) (table : Table) (to : ℕ) : Type 0 where
  pub sections : List SectionAt
  pub lead : Lead script table 0 sections to
  pub seen : saw sections

-- One section more was seen, up to where the book is; another one follows where it ends at a test.
pub record SeesOne (saw : List SectionAt → Type 0) (script : Script) (table : Table) (from : ℕ) (book : SectionBook)
    (earlier : List SectionAt) (more : Bool) : Type 0 where
  pub s : SectionAt
  pub is_section : IsSectionAt script table from s
  pub place : place_of book ≡ s.to
  pub tested : more ≡ true → IsTested from s
  pub seen : saw (earlier ++ s ∷ [])

-- The sections of the script's whole run were seen.
pub record HasSeen (saw : List SectionAt → Type 0) (script : Script) (table : Table) : Type 0 where
  pub sections : List SectionAt
  pub are : AreSectionsOf script table sections
  pub seen : saw sections

-- the same of the script and the table that the words ask for
pub record HasSeenAsked (saw : Script → List SectionAt → Type 0) (words : List Text) (told : Told) : Type 0 where
  pub script : Script
  pub table : Option Text
  pub read : Reads words told script table
  pub table_stands : table_refusal table ≡ None
  pub has_seen : HasSeen (saw script) script (table_of table)

-- WHETHER A SCRIPT RAN

-- the statuses of a script that ran
abbrev pub has_run : ℕ → Bool
has_run status = nat_eq status DONE || (nat_eq status STATEMENT_REFUSED || nat_eq status TRAPPED)
