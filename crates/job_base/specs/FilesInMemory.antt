-- Files that are kept in memory: the bytes of a name, which reads fail, and what each read leaves.
use Rattle.std.specs.Prelude.{ℕ, ◌==◌, Bool, if◌then◌else◌, List, length, Option, Some, None, Result, Ok, Err, nat_lt, position, slice_get, bytes_eq}
use Rattle.std.specs.List.{list_any}
use Rattle.job_base.specs.declared.files.FileFault.{FileFault}
use Rattle.job_base.specs.declared.files.FileFault.TheVariants.{Failed, TooLong}
use Rattle.job_base.specs.Faults.{next_count}

-- the names and their contents by place, the numbers of the calls that fail, the calls and the faults so far, and the
-- name of the last read that failed
pub record FilesInMemory : Type 0 where
  pub names : List (List ℕ)
  pub contents : List (List ℕ)
  pub failing : List ℕ
  pub calls : ℕ
  pub faults : ℕ
  pub last_failed : Option (List ℕ)

-- the contents at a place
abbrev pub contents_at : Option ℕ → List (List ℕ) → Option (List ℕ)
contents_at None contents = None
contents_at (Some place) contents = slice_get contents place

-- the contents at the first place of a name
abbrev pub file_bytes : FilesInMemory → List ℕ → Option (List ℕ)
file_bytes files name = contents_at (position (λ n. bytes_eq n name) files.names) files.contents

-- whether the next call is one of those that fail whatever their name
abbrev pub is_failing : FilesInMemory → Bool
is_failing files = list_any (λ k. k == files.calls) files.failing

-- the answer on the bytes of a name, of which there may be none
abbrev pub answer_on : Option (List ℕ) → ℕ → Result (List ℕ) FileFault
answer_on None limit = Err Failed
answer_on (Some bytes) limit = if nat_lt limit (length bytes) then Err TooLong else Ok bytes

-- what a read answers where it finds memory
abbrev pub answer_of : FilesInMemory → List ℕ → ℕ → Result (List ℕ) FileFault
answer_of files name limit = if is_failing files then Err Failed else answer_on (file_bytes files name) limit

-- one more call
abbrev pub called : FilesInMemory → FilesInMemory
called files = record files { calls = next_count files.calls }

-- one more call, which failed
abbrev pub failed : FilesInMemory → List ℕ → FilesInMemory
failed files name = record (called files) { faults = next_count files.faults; last_failed = Some name }
