-- The footprint of a job on its binds: which words the indexes from one on to before another read, and which they
-- write. A job that waives the own-index rule has width 0 at the binds that it waives; this file speaks of the widths
-- that binds have.
use Rattle.std.specs.Prelude.{◌≡◌, ℕ, zero, suc, ◌+◌, ◌*◌, ◌≤◌, ◌<◌, ◌⊎◌, Bool, true, false, List, Some, slice_get}
use Rattle.job_base.specs.declared.Access.{Access}
use Rattle.frame_ast.specs.declared.kernel.Param.{Param}
use Rattle.frame_ast.specs.Checked.{is_read}
use Rattle.native_stream.specs.declared.StreamAt.{StreamAt}
use Rattle.native_stream.specs.Layout.{mark_word, index_end}
use Rattle.kernel_exec.specs.declared.binds.Bind.{Bind}
use Rattle.kernel_exec.specs.declared.binds.Bind.TheVariants.{Int, Array, View, List as WholeList, Ref, Map, Stream}
use Rattle.kernel_exec.specs.Binds.{IsWordOf, width_if}

-- The indexes from one on to before another own the places from the first one's to before the last one's, as many for
-- each as the width; at width 0, where no rule holds, every place.
abbrev pub Own : ℕ → ℕ → ℕ → ℕ → Type 0
Own zero from to k = Unit {0}
Own (suc n) from to k = (from * suc n ≤ k) × (k < to * suc n)

-- the word of one of `len` elements, of a place that the indexes own
pub record IsElement (start len width from to w : ℕ) : Type 0 where
  pub place : ℕ
  pub is : w ≡ start + place
  pub within : place < len
  pub owned : Own width from to place

-- a word of an index of a stream that the indexes own
pub record IsOfStream (at : StreamAt) (own : Bool) (from to w : ℕ) : Type 0 where
  pub index : ℕ
  pub within : index < at.count
  pub owned : Own (width_if own) from to index
  pub start : mark_word at index ≤ w
  pub end : w < index_end at index

-- What they use of a bind: an array's elements and a stream's indexes that they own, and else every word. A view has no
-- more than its elements.
abbrev pub Uses : Bind → ℕ → ℕ → ℕ → Type 0
Uses (Int z) from to w = ⊥
Uses (Array at own) from to w = IsElement at.start at.len own from to w
Uses (View at own) from to w = IsElement (at.start + 1) at.cap own from to w
Uses (WholeList at) from to w = IsWordOf (WholeList at) w
Uses (Ref at) from to w = IsWordOf (Ref at) w
Uses (Map at) from to w = IsWordOf (Map at) w
Uses (Stream at own) from to w = IsOfStream at own from to w

-- the length word of a view
abbrev pub IsLength : Bind → ℕ → Type 0
IsLength (View at own) w = w ≡ at.start
IsLength _ w = ⊥

-- Through a bind that a kernel only reads they read every word; else what they use and, through a view, the list's
-- length.
abbrev pub ReadsBy : Bool → Bind → ℕ → ℕ → ℕ → Type 0
ReadsBy true b from to w = IsWordOf b w
ReadsBy false b from to w = Uses b from to w ⊎ IsLength b w

abbrev pub Reads : Access → Bind → ℕ → ℕ → ℕ → Type 0
Reads access b from to w = ReadsBy (is_read access) b from to w

-- Through a bind that it only reads they write nothing, and else what they use.
abbrev pub WritesBy : Bool → Bind → ℕ → ℕ → ℕ → Type 0
WritesBy true b from to w = ⊥
WritesBy false b from to w = Uses b from to w

abbrev pub Writes : Access → Bind → ℕ → ℕ → ℕ → Type 0
Writes access b from to w = WritesBy (is_read access) b from to w

-- a word that they read or write through some parameter
pub record IsRead (params : List Param) (binds : List Bind) (from to w : ℕ) : Type 0 where
  pub number : ℕ
  pub param : Param
  pub bind : Bind
  pub has_param : slice_get params number ≡ Some param
  pub has_bind : slice_get binds number ≡ Some bind
  pub reads : Reads param.access bind from to w

pub record IsWritten (params : List Param) (binds : List Bind) (from to w : ℕ) : Type 0 where
  pub number : ℕ
  pub param : Param
  pub bind : Bind
  pub has_param : slice_get params number ≡ Some param
  pub has_bind : slice_get binds number ≡ Some bind
  pub writes : Writes param.access bind from to w
