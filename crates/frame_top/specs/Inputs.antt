-- What a call reads: the bytes of the script and of the table, the script that they spell, and the table.
--
-- A file may tell its bytes or not. Where it tells them, what is read is what it tells; so each rule is said twice, of
-- what may have been read (`Reads`), and of what is told (`IsGiven`).
use Rattle.std.specs.Prelude.{◌≡◌, ◌⊎◌, ℕ, ◌≤◌, true, List, length, Option, None, Some, IfSome}
use Rattle.job_base.specs.declared.limits.TheConstants.{MOST_SCRIPT_BYTES}
use Rattle.job_base.specs.Faults.{Rose}
use Rattle.frame_ast.specs.declared.script.Script.{Script}
use Rattle.frame_script.specs.Loading.{Spells}
use Rattle.command_words.specs.Words.{Text, is_of_command}
use Rattle.frame_top.specs.Words.{script_name, table_name, made_text}

-- the bytes of each name, where told
abbrev pub Told : Type 0
Told = Text → Option Text

-- THE SCRIPT

abbrev pub told_by : Told → Option Text → Option Text
told_by told None = None
told_by told (Some name) = told name

abbrev pub made_or_told : Option Text → Option Text → Option Text
made_or_told (Some text) file = Some text
made_or_told None file = file

-- the bytes of the script, where they are made or told
abbrev pub source_told : Told → List Text → Option Text
source_told told words = made_or_told (made_text words) (told_by told (script_name words))

-- bytes that may have been read: where some are told, these
abbrev pub CanBe : Option Text → Text → Type 0
CanBe told bytes = IfSome told (λ t. bytes ≡ t)

-- the bytes spell this script, and a file may have so many
pub record Accepts (source : Text) (script : Script) : Type 0 where
  pub within : length source ≤ MOST_SCRIPT_BYTES
  pub spelled : Spells source script

-- THE TABLE: no bytes where TABLE isn't given

abbrev pub CanBeTable : Told → Option Text → Option Text → Type 0
CanBeTable told None table = table ≡ None
CanBeTable told (Some name) None = ⊥
CanBeTable told (Some name) (Some bytes) = CanBe (told name) bytes

abbrev pub IsTable : Told → Option Text → Option Text → Type 0
IsTable told None table = table ≡ None
IsTable told (Some name) None = ⊥
IsTable told (Some name) (Some bytes) = told name ≡ Some bytes

-- WHAT WAS READ

-- The words are of the command, and these may be the bytes of the script that they ask for.
pub record ReadsSource (words : List Text) (told : Told) (source : Text) : Type 0 where
  pub of_command : is_of_command words ≡ true
  pub source_is : CanBe (source_told told words) source

-- They spell this script.
pub record ReadsScript (words : List Text) (told : Told) (script : Script) : Type 0 where
  pub source : Text
  pub read : ReadsSource words told source
  pub accepted : Accepts source script

-- And these may be the bytes of the table.
pub record Reads (words : List Text) (told : Told) (script : Script) (table : Option Text) : Type 0 where
  pub script_is : ReadsScript words told script
  pub table_is : CanBeTable told (table_name words) table

-- WHAT IS GIVEN: the same where all bytes are told.

pub record IsSource (words : List Text) (told : Told) (source : Text) : Type 0 where
  pub of_command : is_of_command words ≡ true
  pub source_is : source_told told words ≡ Some source

pub record IsGiven (words : List Text) (told : Told) (script : Script) (table : Option Text) : Type 0 where
  pub source : Text
  pub given : IsSource words told source
  pub accepted : Accepts source script
  pub table_is : IsTable told (table_name words) table

-- WHICH READS FAILED

-- A read failed, and it was that of this name.
abbrev pub IsUnread : Type 0 → Option Text → Option Text → Type 0
IsUnread risen failed name = risen × (t : Text) × (name ≡ Some t) × (failed ≡ Some t)

-- A read failed: that of the script or that of the table, where the words are of the command.
pub data IsUnreadOf (words : List Text) (risen : Type 0) (failed : Option Text) : Type 0 where
  OfScript : is_of_command words ≡ true → IsUnread risen failed (script_name words) → IsUnreadOf words risen failed
  OfTable : is_of_command words ≡ true → IsUnread risen failed (table_name words) → IsUnreadOf words risen failed

abbrev pub HasUnread : {F : Type 0} → (F → ℕ) → (F → Option Text) → List Text → F → F → Type 0
HasUnread faults failed words old new = IsUnreadOf words (Rose (faults old) (faults new)) (failed new)

-- No read failed, or one of them.
abbrev pub ReadFails : {F : Type 0} → (F → ℕ) → (F → Option Text) → List Text → F → F → Type 0
ReadFails faults failed words old new =
    (faults new ≡ faults old) × (failed new ≡ failed old) ⊎ HasUnread faults failed words old new
