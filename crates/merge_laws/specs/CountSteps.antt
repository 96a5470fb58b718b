-- The atomic steps on states and countdowns. Each names what one participant held before and holds after, and which
-- word changed; all other words and participants stay.
use Rattle.std.specs.Prelude.{◌≡◌, ◌≢◌, ℕ, suc, ◌+◌, ◌<◌, Bool, true, false, ◌||◌, ◌⊎◌, ◌∷◌, [], nat_eq, Some, None}
use Rattle.merge_laws.specs.Numbers.{has}
use Rattle.merge_laws.specs.Jobs.{JobGraph}
use Rattle.merge_laws.specs.Claims.{Claims, IsFirst, owes, dues, has_segment_duty}
use Rattle.merge_laws.specs.Countdowns.{open_state, begun_state, ended_state}

-- the words after are those before, but for the word i, which is x
pub record ChangesWord (before after : ℕ → ℕ) (i x : ℕ) : Type 0 where
  pub here : after i ≡ x
  pub there : (j : ℕ) → j ≢ i → after j ≡ before j

-- what the first participant knows of segments stays
pub record SameSegments (v w : Claims) : Type 0 where
  pub number : w.number ≡ v.number
  pub spent : w.spent ≡ v.spent
  pub ended : w.ended ≡ v.ended
  pub opened : w.opened ≡ v.opened

-- one duty more on each job that passes the test
pub record GainsDuties (h : JobGraph) (test : ℕ → Bool) (v w : Claims) : Type 0 where
  pub more : (j : ℕ) → j < h.jobs → test j ≡ true → dues j w ≡ suc (dues j v)
  pub same : (j : ℕ) → j < h.jobs → test j ≡ false → dues j w ≡ dues j v

-- COUNT: `rest` of the job falls by one, and the count is owed no longer. Where that was the last piece the duties
-- come, one on each job that depends on this one.
pub record Counts (h : JobGraph) (rest rest' : ℕ → ℕ) (v w : Claims) (j : ℕ) : Type 0 where
  pub job : j < h.jobs
  pub was : v.owed ≡ Some j
  pub now : w.owed ≡ None
  pub remaining : ℕ
  pub found : rest j ≡ suc remaining
  pub rests : ChangesWord rest rest' j remaining
  pub not_last : remaining ≢ 0 → w.duties ≡ v.duties
  pub last : remaining ≡ 0 → GainsDuties h (h.is_dependency j) v w
  pub segment_duties : has_segment_duty w.duties ≡ true → has_segment_duty v.duties ≡ true
  pub rights : w.rights ≡ v.rights
  pub seen : w.seen ≡ v.seen
  pub segments : SameSegments v w

-- RELEASE: `wait` of the job falls by one, and one duty on it is gone. Where that was the last predecessor the rights
-- come, to each piece of the job.
pub record Releases (h : JobGraph) (wait wait' : ℕ → ℕ) (v w : Claims) (j : ℕ) : Type 0 where
  pub job : j < h.jobs
  pub duty_gone : dues j v ≡ suc (dues j w)
  pub duties_stay : (i : ℕ) → i ≢ j → dues i w ≡ dues i v
  pub segment_duties : has_segment_duty w.duties ≡ true → has_segment_duty v.duties ≡ true
  pub remaining : ℕ
  pub found : wait j ≡ suc remaining
  pub waits : ChangesWord wait wait' j remaining
  pub owed : w.owed ≡ v.owed
  pub not_last : remaining ≢ 0 → w.rights ≡ v.rights
  pub rights_stay : (p : ℕ) → has p v.rights ≡ true → has p w.rights ≡ true
  pub rights_come : remaining ≡ 0 → (p : ℕ) → p < h.pieces → h.is_part p j ≡ true → has p w.rights ≡ true
  pub rights_only : remaining ≡ 0 → (p : ℕ) → has p w.rights ≡ true
      → (has p v.rights ≡ true) ⊎ ((p < h.pieces) × (h.is_part p j ≡ true))
  pub seen : w.seen ≡ v.seen
  pub segments : SameSegments v w

-- BEGIN: an open piece is begun. Nobody's claims change.
abbrev pub BeginsState : (ℕ → ℕ) → (ℕ → ℕ) → ℕ → Type 0
BeginsState state state' p = (state p ≡ open_state) × ChangesWord state state' p begun_state

-- END of a job's piece: it is ended, and a count is owed.
pub record EndsPart (h : JobGraph) (state state' : ℕ → ℕ) (v w : Claims) (p j : ℕ) : Type 0 where
  pub job : j < h.jobs
  pub piece : p < h.pieces
  pub part : h.is_part p j ≡ true
  pub begun : state p ≡ begun_state
  pub states : ChangesWord state state' p ended_state
  pub was : v.owed ≡ None
  pub now : w.owed ≡ Some j
  pub duties : w.duties ≡ v.duties
  pub rights : w.rights ≡ v.rights
  pub seen : w.seen ≡ v.seen
  pub segments : SameSegments v w

-- END of a segment, by the first participant: it has ended one more and not opened the next, and there is a duty on
-- each job that the segment starts.
pub record EndsSegment (h : JobGraph) (state state' : ℕ → ℕ) (v w : Claims) (k : ℕ) : Type 0 where
  pub segment : k < h.segments
  pub begun : state (h.segment_at k) ≡ begun_state
  pub states : ChangesWord state state' (h.segment_at k) ended_state
  pub first : IsFirst v
  pub number : w.number ≡ v.number
  pub spent : w.spent ≡ v.spent
  pub ended : w.ended ≡ suc v.ended
  pub opened : w.opened ≡ false
  pub owed : w.owed ≡ v.owed
  pub duties : GainsDuties h (λ j. nat_eq (h.starter j) k) v w
  pub rights : w.rights ≡ v.rights
  pub seen : w.seen ≡ v.seen

-- OPEN a job's piece, by who has the right: the right is gone.
pub record OpensPart (state state' : ℕ → ℕ) (v w : Claims) (p : ℕ) : Type 0 where
  pub right : has p v.rights ≡ true
  pub states : ChangesWord state state' p open_state
  pub gone : has p w.rights ≡ false
  pub stay : (q : ℕ) → q ≢ p → has q w.rights ≡ has q v.rights
  pub owed : w.owed ≡ v.owed
  pub duties : w.duties ≡ v.duties
  pub seen : w.seen ≡ v.seen
  pub segments : SameSegments v w

-- OPEN the next segment, by the first participant, which saw all jobs finished for which the segment waits.
pub record OpensSegment (h : JobGraph) (state state' : ℕ → ℕ) (v w : Claims) : Type 0 where
  pub segment : v.ended < h.segments
  pub unopened : v.opened ≡ false
  pub waited : (j : ℕ) → h.waits v.ended j ≡ true → has j v.seen ≡ true
  pub states : ChangesWord state state' (h.segment_at v.ended) open_state
  pub first : IsFirst v
  pub number : w.number ≡ v.number
  pub spent : w.spent ≡ v.spent
  pub ended : w.ended ≡ v.ended
  pub opened : w.opened ≡ true
  pub owed : w.owed ≡ v.owed
  pub duties : w.duties ≡ v.duties
  pub rights : w.rights ≡ v.rights
  pub seen : w.seen ≡ v.seen

-- FINISHED: a job whose `rest` is 0 is seen finished.
pub record Sees (h : JobGraph) (rest : ℕ → ℕ) (v w : Claims) (j : ℕ) : Type 0 where
  pub job : j < h.jobs
  pub none : rest j ≡ 0
  pub seen : w.seen ≡ j ∷ v.seen
  pub owed : w.owed ≡ v.owed
  pub duties : w.duties ≡ v.duties
  pub rights : w.rights ≡ v.rights
  pub segments : SameSegments v w

-- it has nothing to count, to release or to open
pub record HoldsNothing (v : Claims) : Type 0 where
  pub owed : v.owed ≡ None
  pub duties : v.duties ≡ []
  pub rights : v.rights ≡ []

-- SPLIT: a new participant holds nothing, saw nothing, and isn't the first.
pub record IsFresh (v : Claims) : Type 0 where
  pub nothing : HoldsNothing v
  pub seen : v.seen ≡ []
  pub number : v.number ≢ 0

-- JOIN: the participants of u and v become one, w, which holds what both held and is the first where one of them was.
-- The other, x, is spent.
pub record Joins (u v w x : Claims) : Type 0 where
  pub unspent : (u.spent ≡ false) × (v.spent ≡ false) × (w.spent ≡ false)
  pub owed : (j : ℕ) → owes j w ≡ owes j u + owes j v
  pub duties : (j : ℕ) → dues j w ≡ dues j u + dues j v
  pub segment_duties : has_segment_duty w.duties ≡ true
      → (has_segment_duty u.duties ≡ true) ⊎ (has_segment_duty v.duties ≡ true)
  pub rights : (p : ℕ) → has p w.rights ≡ (has p u.rights || has p v.rights)
  pub seen : (j : ℕ) → has j w.seen ≡ true → (has j u.seen ≡ true) ⊎ (has j v.seen ≡ true)
  pub first : w.number ≡ 0 → (u.number ≡ 0) ⊎ (v.number ≡ 0)
  pub first_of_u : u.number ≡ 0 → (w.number ≡ 0) × (w.ended ≡ u.ended) × (w.opened ≡ u.opened)
  pub first_of_v : v.number ≡ 0 → (w.number ≡ 0) × (w.ended ≡ v.ended) × (w.opened ≡ v.opened)
  pub spent : x.spent ≡ true
  pub left : HoldsNothing x
  pub unseen : x.seen ≡ []
