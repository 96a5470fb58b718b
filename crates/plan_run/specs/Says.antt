-- What the lines of a run come to, step by step, where they wait before a sink takes them and nothing is written after
-- a fault.
use Rattle.std.specs.Prelude.{◌≡◌, ℕ, ◌++◌, List, Option, take, Bool, true, false}
use Rattle.std.specs.Io.KnownBytes.{Appends, Keeps}
use Rattle.job_base.specs.Faults.{Rose}
use Rattle.frame_print.specs.Gathering.{Joins}

-- What was said so far, between two steps: what the sink took and how many faults it counted, the bytes that wait, and
-- whether a write failed.
pub record Said : Type 0 where
  pub taken : Option (List ℕ)
  pub faults : ℕ
  pub waits : List ℕ
  pub failed : Bool

-- A step says this text. While no write fails, the sink takes some first bytes of what waited and of the text, and the
-- rest waits. At the first fault the sink took some first bytes of the two, and what waits is lost. After a fault the
-- sink takes nothing.
pub record Says (old new : Said) (text : List ℕ) : Type 0 where
  pub whole : old.failed ≡ false → new.failed ≡ false
      → Joins old.taken old.waits new.taken new.waits text × (new.faults ≡ old.faults)
  pub part : old.failed ≡ false → new.failed ≡ true
      → ((n : ℕ) × Appends old.taken new.taken (take n (old.waits ++ text))) × Rose old.faults new.faults
  pub nothing : old.failed ≡ true
      → (new.failed ≡ true) × Keeps old.taken new.taken × (new.faults ≡ old.faults)

-- what was said so far, by what a sink says that it took and counted
abbrev pub said_to : {S : Type 0} → (S → Option (List ℕ)) → (S → ℕ) → S → List ℕ → Bool → Said
said_to taken faults sink waits failed = record {
  taken = taken sink;
  faults = faults sink;
  waits = waits;
  failed = failed;
}

-- the same of a sink, of the bytes that wait before and after, and of the mark whether a write failed
abbrev pub SaysTo : {S : Type 0} → (S → Option (List ℕ)) → (S → ℕ)
    → S → List ℕ → Bool → S → List ℕ → Bool → List ℕ → Type 0
SaysTo taken faults old waited failed new waits fails text =
    Says (said_to taken faults old waited failed) (said_to taken faults new waits fails) text
