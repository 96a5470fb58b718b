-- The tables of a plan, entry by entry.
use Rattle.std.proofs.Common.{◌≡◌, ℕ, zero, suc, ◌-◌, ◌<◌, ◌≤◌, ◌⊎◌, ⊎_elim, true, false, leb, ltb, le-leb, lt-ltb, List, [], ◌∷◌, ◌++◌, length, All, refl, sym, ap, subst, ◌∙◌, arith, Option, Some}
use Rattle.std.specs.Prelude.{Vec, slice_get, slice_index}
use Rattle.std.specs.declared.alloc.Global.{Global}
use Rattle.std.proofs.lemmas.Bool.{and_from, or_left, or_right}
use Rattle.std.proofs.lemmas.List.Elements.{All-head, All-tail}
use Rattle.job_base.specs.declared.JobId.{JobId}
use Rattle.frame_core.specs.declared.plan.Segment.{Segment}
use Rattle.frame_core.specs.declared.plan.Plan.{Plan}
use Rattle.frame_core.specs.declared.touch.Touch.{Touch}
use Rattle.frame_core.specs.Names.{has_job, is_job, waits_in, starts_in, segment_at, pieces_before}
use Rattle.frame_core.specs.Pieces.{piece_numbered}
use Rattle.frame_core.specs.Touches.{has_word, reads_in, hits}
use Rattle.frame_core.specs.Ordered.{IsAbove, IsWellOrderedPlan}
use Rattle.frame_core.proofs.Boards.{job_of_is}
use Rattle.frame_core.proofs.Extents.Hitting.{hits_read}
use Rattle.frame_core.proofs.Small.{some_is, none_some}
use Rattle.frame_core.proofs.Starting.{started_within}
use Rattle.frame_core.proofs.Extents.Within.{reads_stay_within}
use Rattle.lock_board.specs.Layouts.{AreSpans, AreWithin, AreWaits, NameJobs, AreStarts, StartJobs, job_number}
use Rattle.lock_board.specs.Rooms.{spans_of}
use Rattle.lock_board.proofs.Lists.{all_more}
use Rattle.lock_board.proofs.Spans.{spans_read}

-- TOUCHES

touched : (ts : List Touch) (i : ℕ) (t : Touch) (w : ℕ) → slice_get ts i ≡ Some t → has_word t w ≡ true → reads_in ts w ≡ true
touched [] i t w e h = absurd (none_some e)
touched (x ∷ ts) zero t w e h = or_left (has_word x w) (reads_in ts w) (ap (λ y. has_word y w) (some_is e) ∙ h)
touched (x ∷ ts) (suc i) t w e h = or_right (has_word x w) (reads_in ts w) (touched ts i t w e h)

pub spans_more : (plan : Plan) (old : List (Vec Touch Global)) (x : Vec Touch Global) (n : ℕ) → length old ≡ n → x.items ≡ spans_of plan n → AreSpans plan old
    → AreSpans plan (old ++ x ∷ [])
spans_more plan old x n size is all =
    all_more (λ q (u : Vec Touch Global). u.items ≡ spans_of plan q) old x all (is ∙ ap (spans_of plan) (sym size))

pub within_more : (plan : Plan) → IsWellOrderedPlan plan → (old : List (Vec Touch Global)) (x : Vec Touch Global) (n : ℕ) → x.items ≡ spans_of plan n
    → AreWithin plan old → AreWithin plan (old ++ x ∷ [])
within_more plan well old x n is all p i v t e et lt =
    all_more (λ q (u : Vec Touch Global). (k : ℕ) (y : Touch) → slice_get u.items k ≡ Some y → y.from < y.end → y.end ≤ plan.words) old x
    (λ q u h k y. all q k u y h)
    (λ k y ey less.
    let last : has_word y (y.end - 1) ≡ true = and_from (leb y.from (y.end - 1)) (ltb (y.end - 1) y.end) (le-leb y.from (y.end - 1) (omega arith))
    (lt-ltb (y.end - 1) y.end (omega arith)) in
    let hit : hits false (spans_of plan n) (y.end - 1) ≡ true = ap (λ l. hits false l (y.end - 1)) (sym is)
    ∙ (hits_read x.items (y.end - 1) ∙ touched x.items k y (y.end - 1) ey last) in
    let below = reads_stay_within plan well n (y.end - 1) (sym (spans_read plan n (y.end - 1)) ∙ hit) in
    omega arith) p v e i t et lt

-- JOBS THAT ARE NAMED

pub above_at : (ids : List JobId) (n i : ℕ) (id : JobId) → IsAbove n ids → slice_get ids i ≡ Some id → n < id.0
above_at [] n i id up e = absurd (none_some e)
above_at (x ∷ ids) n zero id up e = subst (λ (y : JobId). n < y.0) (some_is e) up.0
above_at (x ∷ ids) n (suc i) id up e = let r = above_at ids x.0 i id up.1 e in let lt = up.0 in omega arith

pub all_at : (P : JobId → Type 0) (ids : List JobId) (i : ℕ) (id : JobId) → All P ids → slice_get ids i ≡ Some id → P id
all_at P [] i id all e = absurd (none_some e)
all_at P (x ∷ ids) zero id all e = subst P (some_is e) (All-head P x ids all)
all_at P (x ∷ ids) (suc i) id all e = all_at P ids i id (All-tail P x ids all) e

pub waits_more : (plan : Plan) (old : List (Vec JobId Global)) (x : Vec JobId Global) (n : ℕ) (s : Segment) → length old ≡ n → segment_at plan n ≡ Some s
    → x.items ≡ s.waits.items → AreWaits plan old → AreWaits plan (old ++ x ∷ [])
waits_more plan old x n s size there is all k j v e =
    all_more (λ q (u : Vec JobId Global). (y : ℕ) → has_job u.items y ≡ has_job (waits_in (segment_at plan q)) y) old x
    (λ q u h y. all q y u h)
    (λ y. ap (λ l. has_job l y) is ∙ (ap (λ o. has_job (waits_in o) y) (sym there) ∙ ap (λ q. has_job (waits_in (segment_at plan q)) y) (sym size))) k v e j

pub names_more : (plan : Plan) → IsWellOrderedPlan plan → (old : List (Vec JobId Global)) (x : Vec JobId Global) (n : ℕ) (s : Segment)
    → segment_at plan n ≡ Some s → x.items ≡ s.waits.items → NameJobs plan old → NameJobs plan (old ++ x ∷ [])
names_more plan well old x n s there is all k i v id e ei =
    all_more (λ q (u : Vec JobId Global). (m : ℕ) (y : JobId) → slice_get u.items m ≡ Some y → (0 < y.0) × (y.0 ≤ length plan.jobs.items)) old x
    (λ q u h m y. all q m u y h)
    (λ m y ey. let jobs = well.order.waits n s there in
    let at : slice_get s.waits.items m ≡ Some y = ap (λ l. slice_get l m) (sym is) ∙ ey in
    (above_at s.waits.items 0 m y jobs.0 at, all_at (λ (z : JobId). z.0 ≤ length plan.jobs.items) s.waits.items m y jobs.1 at)) k v e i id ei

-- STARTS

pub starts_more : (plan : Plan) (old : List (Option JobId)) (s : Segment) (n : ℕ) → length old ≡ n → segment_at plan n ≡ Some s → AreStarts plan old
    → AreStarts plan (old ++ s.starts ∷ [])
starts_more plan old s n size there all k o j e =
    all_more (λ q (u : Option JobId). (y : ℕ) → is_job u y ≡ is_job (starts_in (segment_at plan q)) y) old s.starts
    (λ q u h y. all q u y h)
    (λ y. ap (λ z. is_job (starts_in z) y) (sym there) ∙ ap (λ q. is_job (starts_in (segment_at plan q)) y) (sym size)) k o e j

pub starts_named : (plan : Plan) → IsWellOrderedPlan plan → (old : List (Option JobId)) (s : Segment) (n : ℕ) → segment_at plan n ≡ Some s → StartJobs plan old
    → StartJobs plan (old ++ s.starts ∷ [])
starts_named plan well old s n there all k id e =
    all_more (λ q (u : Option JobId). (y : JobId) → u ≡ Some y → (0 < y.0) × (y.0 ≤ length plan.jobs.items)) old s.starts
    (λ q u h y ey. all q y (h ∙ ap Some ey))
    (λ y ey. let w = started_within plan.segments.items 1 (length plan.jobs.items) well.order.starts n y (ap starts_in there ∙ ey) in
    let lo = w.0 in let hi = w.1 in (omega arith, omega arith)) k (Some id) e id refl

-- NUMBERS OF PIECES

number_in : (plan : Plan) (j p : ℕ) → pieces_before plan.jobs.items j ≤ p → p < pieces_before plan.jobs.items (suc j)
    → job_number (piece_numbered plan p) ≡ suc j
number_in plan j p lo hi = let o = job_of_is plan j p (and_from (leb (pieces_before plan.jobs.items j) p) (ltb p (pieces_before plan.jobs.items (suc j)))
    (le-leb (pieces_before plan.jobs.items j) p lo) (lt-ltb p (pieces_before plan.jobs.items (suc j)) hi)) in
    ap job_number o.1

below_or : (a b : ℕ) → (a < b) ⊎ (b ≤ a)
below_or a b = grind arith

pub numbered_more : (plan : Plan) (old new : List ℕ) (j end job : ℕ) → length old ≡ pieces_before plan.jobs.items j
    → ((p : ℕ) → p < pieces_before plan.jobs.items j → slice_index old p ≡ job_number (piece_numbered plan p))
    → end ≡ pieces_before plan.jobs.items (suc j) → job ≡ suc j → ((p : ℕ) → p < length old → slice_index new p ≡ slice_index old p)
    → ((p : ℕ) → length old ≤ p → p < end → slice_index new p ≡ job)
    → (p : ℕ) → p < pieces_before plan.jobs.items (suc j) → slice_index new p ≡ job_number (piece_numbered plan p)
numbered_more plan old new j end job size all ee ej same more p lt = ⊎_elim
    (λ l. same p (omega arith) ∙ all p l)
    (λ g. more p (omega arith) (omega arith) ∙ (ej ∙ sym (number_in plan j p g lt)))
    (below_or p (pieces_before plan.jobs.items j))
