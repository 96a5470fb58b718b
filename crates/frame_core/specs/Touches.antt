-- Footprints as lists of spans of words.
use Rattle.std.specs.Prelude.{ℕ, zero, suc, ◌+◌, ◌*◌, min, Bool, true, false, ◌&&◌, ◌||◌, nat_le, nat_lt, if◌then◌else◌, List, [], ◌∷◌, ◌++◌}
use Rattle.job_base.specs.declared.Span.{Span}
use Rattle.frame_ast.specs.declared.kernel.Param.{Param}
use Rattle.frame_ast.specs.Checked.{is_read}
use Rattle.kernel_exec.specs.declared.binds.Bind.{Bind}
use Rattle.kernel_exec.specs.declared.binds.Bind.TheVariants.{Int, Array, View, List as WholeList, Ref, Map, Stream}
use Rattle.kernel_exec.specs.Binds.{start_of, end_of, width_if}
use Rattle.frame_core.specs.declared.touch.Touch.{Touch}
use Rattle.frame_core.specs.declared.plan.Act.{Act}
use Rattle.frame_core.specs.declared.plan.Act.TheVariants.{Fill, Move, Say, Set, AddTo, Put, Remove, Clear, Print, Report}
use Rattle.frame_core.specs.declared.plan.Op.{Op}

abbrev pub has_word : Touch → ℕ → Bool
has_word t w = nat_le t.from w && nat_lt w t.end

-- what a list of touches may read, and what it may write
abbrev pub reads_in : List Touch → ℕ → Bool
reads_in [] w = false
reads_in (t ∷ more) w = has_word t w || reads_in more w

abbrev pub writes_in : List Touch → ℕ → Bool
writes_in [] w = false
writes_in (t ∷ more) w = (t.written && has_word t w) || writes_in more w

-- one of both: what it may write, or what it may read
abbrev pub counts : Bool → Touch → Bool
counts true t = t.written
counts false t = true

abbrev pub hits : Bool → List Touch → ℕ → Bool
hits only [] w = false
hits only (t ∷ more) w = (counts only t && has_word t w) || hits only more w

-- all words of a bind
abbrev pub whole : Bind → Bool → Touch
whole b written = record { from = start_of b; end = end_of b; written = written }

-- A JOB'S PIECE, of the indexes from one on to before another.

-- Of `count` places that have `size` words each, the indexes own those from `width` times the first one to before
-- `width` times the last one. At width 0 no rule holds, and they are all places.
abbrev pub end_place : ℕ → ℕ → ℕ → ℕ
end_place count zero to = count
end_place count (suc n) to = min count (to * suc n)

abbrev pub owned : ℕ → ℕ → ℕ → ℕ → ℕ → ℕ → Touch
owned start size count width from to = record {
  from = start + min count (from * width) * size;
  end = start + end_place count width to * size;
  written = true;
}

-- Only the pieces of a parallel job own parts of what they write. A job in one piece uses whole containers.
abbrev pub width_in : Bool → ℕ → ℕ
width_in parallel width = if parallel then width else 0

-- Through a bind that a kernel may write: what the indexes own of an array or a stream, and else every word. Of a view
-- the length is read.
abbrev pub used : Bool → Bind → ℕ → ℕ → List Touch
used parallel (Int z) from to = []
used parallel (Array at own) from to = owned at.start 1 at.len (width_in parallel own) from to ∷ []
used parallel (View at own) from to =
    owned (at.start + 1) 1 at.cap (width_in parallel own) from to
    ∷ record { from = at.start; end = at.start + 1; written = false } ∷ []
used parallel (WholeList at) from to = whole (WholeList at) true ∷ []
used parallel (Ref at) from to = whole (Ref at) true ∷ []
used parallel (Map at) from to = whole (Map at) true ∷ []
used parallel (Stream at own) from to =
    owned at.start (at.room + 1) at.count (width_in parallel (width_if own)) from to ∷ []

abbrev pub through : Bool → Param → Bind → ℕ → ℕ → List Touch
through parallel p b from to = if is_read p.access then whole b false ∷ [] else used parallel b from to

abbrev pub binds_touch : Bool → List Param → List Bind → ℕ → ℕ → List Touch
binds_touch parallel [] binds from to = []
binds_touch parallel (p ∷ ps) [] from to = []
binds_touch parallel (p ∷ ps) (b ∷ bs) from to = through parallel p b from to ++ binds_touch parallel ps bs from to

-- A SEGMENT reads the container that it prints, and writes the containers of its other operations, new ranges included.

abbrev pub span_touch : Span → Touch
span_touch span = record { from = span.start; end = span.start + span.len; written = true }

abbrev pub act_touches : Act → List Touch
act_touches (Fill span literal) = span_touch span ∷ []
act_touches (Move from to) = span_touch from ∷ span_touch to ∷ []
act_touches (Say refusal) = []
act_touches (Set at i v) = whole at true ∷ []
act_touches (AddTo at k v) = whole at true ∷ []
act_touches (Put at k v) = whole at true ∷ []
act_touches (Remove at i) = whole at true ∷ []
act_touches (Clear at) = whole at true ∷ []
act_touches (Print at) = whole at false ∷ []
act_touches (Report made) = []

abbrev pub ops_touch : List Op → List Touch
ops_touch [] = []
ops_touch (op ∷ more) = act_touches op.act ++ ops_touch more
