-- What a seat knows after a call, from what it holds.
use Rattle.std.proofs.Common.{◌≡◌, ◌≢◌, ℕ, zero, suc, ◌+◌, ◌-◌, ◌<◌, ◌≤◌, ◌⊎◌, inl, inr, ⊎_elim, Bool, true, false, cond, not, ◌&&◌, ◌||◌, eqb, eq-eqb, ne_eqb, leb, ltb, le-leb, lt-ltb, leb-true, ltb-true, List, [], ◌∷◌, length, get_or, set, get_or-set_same, get_or-set_other, ℤ, pos, refl, sym, ap, subst, ◌∙◌, arith, Option, Some, None}
use Rattle.std.specs.Prelude.{slice_index, slice_index_or, slice_get, nat_eq}
use mathlib.Core.Logic.{dite}
use native.Mathlib.Decide.{ℕ_discrete}
use Rattle.std.proofs.lemmas.Bool.{and_parts, and_from}
use Rattle.job_base.specs.declared.JobId.{JobId}
use Rattle.job_base.specs.declared.PieceId.{PieceId}
use Rattle.job_base.specs.Cells.{cells_of, with_cell}
use Rattle.frame_core.specs.declared.piece.Piece.TheVariants.{OfScript, OfJob}
use Rattle.frame_core.specs.declared.plan.JobPlan.{JobPlan}
use Rattle.frame_core.specs.declared.plan.Plan.{Plan}
use Rattle.frame_core.specs.Names.{has_job, deps_in, starts_in, segment_at, pieces_before}
use Rattle.frame_core.specs.Pieces.{piece_numbered}
use Rattle.frame_core.specs.Effects.{touches, piece_cells}
use Rattle.frame_core.specs.Graphs.{before_number}
use Rattle.frame_core.proofs.Extents.Touching.{writes_read}
use Rattle.frame_core.specs.Know.{Know, begun, stored, ended, ended_piece, counted, released, opened, opened_by, found, due_once, due_after, less_once, is_of, no_cells, reads, writes}
use Rattle.frame_core.proofs.Small.{not_both, either_bool}
use Rattle.lock_board.specs.Rooms.{place_of, room_of, spans_of}
use Rattle.lock_board.specs.Seats.{piece_of, job_of, seen_cells, due_of, seen_of}
use Rattle.lock_board.proofs.Spans.{spans_read, stored_at}

abbrev pub knows : Plan → Option PieceId → List ℤ → Option JobId → List ℕ → List Bool → List Bool → Bool → ℕ → Bool → Know
knows plan lease room owed dues rights seen first ended opened = record {
  lease = piece_of lease;
  cells = seen_cells plan lease room;
  owed = job_of owed;
  dues = λ j. due_of dues j;
  rights = λ p. slice_index_or rights p false;
  seen = λ j. seen_of seen j;
  first = first;
  ended = ended;
  opened = opened;
}

-- past its end a list has nothing
pub past : {A : Type 0} (l : List A) (i : ℕ) (d : A) → length l ≤ i → get_or l i d ≡ d
past [] i d le = refl
past (x ∷ l) zero d le = absurd (omega arith)
past (x ∷ l) (suc i) d le = past l i d (omega arith)

below_or : (a b : ℕ) → (a < b) ⊎ (b ≤ a)
below_or a b = grind arith

module _ (plan : Plan) (owed : Option JobId) (dues : List ℕ) (rights seen : List Bool) (first : Bool) (ended_count : ℕ) (was_opened : Bool) where
  -- BEGIN
  pub know_begun : (lease : Option PieceId) (old room : List ℤ) (p : PieceId)
      → ((w : ℕ) → reads plan p.0 w ≡ true → cells_of room (place_of plan p.0 w) ≡ before_number plan p.0 w)
      → knows plan (Some p) room owed dues rights seen first ended_count was_opened ≡ begun plan
      (knows plan lease old owed dues rights seen first ended_count was_opened) p.0 true
  know_begun lease old room p copied = λ y. record {
    lease = Some p.0;
    cells = λ w. point w y;
    owed = job_of owed;
    dues = λ j. due_of dues j;
    rights = λ q. slice_index_or rights q false;
    seen = λ j. seen_of seen j;
    first = first;
    ended = ended_count;
    opened = was_opened;
  }
    where
      point : (w : ℕ) → seen_cells plan (Some p) room w ≡ before_number plan p.0 w
      point w = ⊎_elim
          (λ t. ap (λ (b : Bool). cond b (cells_of room (place_of plan p.0 w)) (before_number plan p.0 w)) t ∙ copied w t)
          (λ f. ap (λ (b : Bool). cond b (cells_of room (place_of plan p.0 w)) (before_number plan p.0 w)) f)
          (either_bool (reads plan p.0 w))

  -- LOAD AND STORE
  pub seen_cell : (p : PieceId) (room : List ℤ) (w : ℕ) → reads plan p.0 w ≡ true → seen_cells plan (Some p) room w ≡ cells_of room (place_of plan p.0 w)
  seen_cell p room w r = ap (λ (b : Bool). cond b (cells_of room (place_of plan p.0 w)) (before_number plan p.0 w)) r

  unread : (p : PieceId) (room : List ℤ) (w : ℕ) → reads plan p.0 w ≡ false → seen_cells plan (Some p) room w ≡ before_number plan p.0 w
  unread p room w f = ap (λ (b : Bool). cond b (cells_of room (place_of plan p.0 w)) (before_number plan p.0 w)) f

  pub know_stored : (p : PieceId) (room : List ℤ) (w : ℕ) (v : ℤ) → room_of (spans_of plan p.0) ≤ length room → reads plan p.0 w ≡ true
      → knows plan (Some p) (set room (place_of plan p.0 w) v) owed dues rights seen first ended_count was_opened ≡ stored
      (knows plan (Some p) room owed dues rights seen first ended_count was_opened) w v
  know_stored p room w v fits r = λ y. record {
    lease = Some p.0;
    cells = λ u. point u y;
    owed = job_of owed;
    dues = λ j. due_of dues j;
    rights = λ q. slice_index_or rights q false;
    seen = λ j. seen_of seen j;
    first = first;
    ended = ended_count;
    opened = was_opened;
  }
    where
      point : (u : ℕ) → seen_cells plan (Some p) (set room (place_of plan p.0 w) v) u ≡ with_cell (seen_cells plan (Some p) room) w v u
      point u = ⊎_elim
          (λ t. seen_cell p (set room (place_of plan p.0 w) v) u t
          ∙ (stored_at (spans_of plan p.0) room w u v fits (spans_read plan p.0 w ∙ r) (spans_read plan p.0 u ∙ t)
          ∙ ap (λ x. cond (nat_eq u w) v x) (sym (seen_cell p room u t))))
          (λ f. let ne : nat_eq u w ≡ false = ne_eqb u w (λ e. not_both r (ap (reads plan p.0) (sym e) ∙ f)) in
          unread p (set room (place_of plan p.0 w) v) u f
          ∙ (sym (unread p room u f) ∙ sym (ap (λ (b : Bool). cond b v (seen_cells plan (Some p) room u)) ne)))
          (either_bool (reads plan p.0 u))

  -- END
  pub know_part_ended : (lease : Option PieceId) (old room : List ℤ) (p j i job : ℕ) → piece_numbered plan p ≡ OfJob j i → job ≡ suc j
      → knows plan None room (Some record { 0 = job }) dues rights seen first ended_count was_opened ≡ ended plan
      (knows plan lease old owed dues rights seen first ended_count was_opened) p
  know_part_ended lease old room p j i job is e =
      ap (λ n. knows plan None room (Some record { 0 = n }) dues rights seen first ended_count was_opened) e
      ∙ ap (ended_piece plan (knows plan lease old owed dues rights seen first ended_count was_opened)) (sym is)

-- DUTIES

due_more : (dues : List ℕ) (id : JobId) (j : ℕ) → 0 < id.0 → id.0 - 1 < length dues
    → due_of (set dues (id.0 - 1) (slice_index dues (id.0 - 1) + 1)) j ≡ due_of dues j + due_once (Some id) j
due_more dues id zero low lt = let e : due_once (Some id) 0 ≡ 0 = ap (λ (b : Bool). cond b 1 0) (ne_eqb id.0 0 (λ q. omega arith)) in omega arith
due_more dues id (suc j) low lt = dite (ℕ_discrete j (id.0 - 1))
    (λ e. let one : due_once (Some id) (suc j) ≡ 1 = ap (λ (b : Bool). cond b 1 0) (eq-eqb id.0 (suc j) (omega arith)) in
    let here : slice_index (set dues (id.0 - 1) (slice_index dues (id.0 - 1) + 1)) j ≡ slice_index dues j + 1 =
    ap (slice_index (set dues (id.0 - 1) (slice_index dues (id.0 - 1) + 1))) e
    ∙ (get_or-set_same dues (id.0 - 1) (slice_index dues (id.0 - 1) + 1) 0 lt ∙ ap (λ n. slice_index dues n + 1) (sym e)) in
    here ∙ ap (λ n. slice_index dues j + n) (sym one))
    (λ ne. let none : due_once (Some id) (suc j) ≡ 0 = ap (λ (b : Bool). cond b 1 0) (ne_eqb id.0 (suc j) (λ q. ne (omega arith))) in
    let there : slice_index (set dues (id.0 - 1) (slice_index dues (id.0 - 1) + 1)) j ≡ slice_index dues j =
    get_or-set_other dues (id.0 - 1) j (slice_index dues (id.0 - 1) + 1) 0 ne in
    omega arith)

module _ (plan : Plan) (owed : Option JobId) (rights seen : List Bool) (first : Bool) where
  -- the end of a segment
  pub know_segment_ended : (lease : Option PieceId) (old room : List ℤ) (dues dues' : List ℕ) (n : ℕ) (was_opened : Bool) (p s : ℕ)
      → piece_numbered plan p ≡ OfScript s
      → ((j : ℕ) → due_of dues' j ≡ due_of dues j + due_once (starts_in (segment_at plan s)) j)
      → knows plan None room owed dues' rights seen first (n + 1) false ≡ ended plan (knows plan lease old owed dues rights seen first n was_opened) p
  know_segment_ended lease old room dues dues' n was_opened p s is more = (λ y. record {
    lease = None;
    cells = no_cells;
    owed = job_of owed;
    dues = λ j. more j y;
    rights = λ q. slice_index_or rights q false;
    seen = λ j. seen_of seen j;
    first = first;
    ended = n + 1;
    opened = false;
  }) ∙ ap (ended_piece plan (knows plan lease old owed dues rights seen first n was_opened)) (sym is)

  module _ (lease : Option PieceId) (room : List ℤ) (n : ℕ) (was_opened : Bool) where
    pub know_counted : (dues dues' : List ℕ) (id : JobId) → ((d : ℕ) → due_of dues' d ≡ due_of dues d + due_after plan id.0 d)
        → knows plan lease room None dues' rights seen first n was_opened ≡ counted plan (knows plan lease room owed dues rights seen first n was_opened)
        (Some id)
    know_counted dues dues' id more = λ y. record {
      lease = piece_of lease;
      cells = seen_cells plan lease room;
      owed = None;
      dues = λ d. more d y;
      rights = λ q. slice_index_or rights q false;
      seen = λ j. seen_of seen j;
      first = first;
      ended = n;
      opened = was_opened;
    }

    pub know_released : (dues dues' : List ℕ) (rights' : List Bool) (j : ℕ) → ((d : ℕ) → due_of dues' d ≡ less_once (λ k. due_of dues k) j d)
        → ((p : ℕ) → slice_index_or rights' p false ≡ (slice_index_or rights p false || is_of plan j p))
        → knows plan lease room owed dues' rights' seen first n was_opened ≡ released plan
        (knows plan lease room owed dues rights seen first n was_opened) j true
    know_released dues dues' rights' j less more = λ y. record {
      lease = piece_of lease;
      cells = seen_cells plan lease room;
      owed = job_of owed;
      dues = λ d. less d y;
      rights = λ p. more p y;
      seen = λ i. seen_of seen i;
      first = first;
      ended = n;
      opened = was_opened;
    }

    pub know_not_released : (dues dues' : List ℕ) (j : ℕ) → ((d : ℕ) → due_of dues' d ≡ less_once (λ k. due_of dues k) j d)
        → knows plan lease room owed dues' rights seen first n was_opened ≡ released plan
        (knows plan lease room owed dues rights seen first n was_opened) j false
    know_not_released dues dues' j less = λ y. record {
      lease = piece_of lease;
      cells = seen_cells plan lease room;
      owed = job_of owed;
      dues = λ d. less d y;
      rights = λ p. slice_index_or rights p false;
      seen = λ i. seen_of seen i;
      first = first;
      ended = n;
      opened = was_opened;
    }

    module _ (dues : List ℕ) where
      pub know_part_opened : (rights' : List Bool) (p j i : ℕ) → piece_numbered plan p ≡ OfJob j i
          → ((q : ℕ) → slice_index_or rights' q false ≡ (slice_index_or rights q false && not (nat_eq q p)))
          → knows plan lease room owed dues rights' seen first n was_opened ≡ opened plan (knows plan lease room owed dues rights seen first n was_opened) p
      know_part_opened rights' p j i is less = (λ y. record {
        lease = piece_of lease;
        cells = seen_cells plan lease room;
        owed = job_of owed;
        dues = λ d. due_of dues d;
        rights = λ q. less q y;
        seen = λ d. seen_of seen d;
        first = first;
        ended = n;
        opened = was_opened;
      }) ∙ ap (opened_by (knows plan lease room owed dues rights seen first n was_opened) p) (sym is)

      pub know_segment_opened : (p s : ℕ) → piece_numbered plan p ≡ OfScript s
          → knows plan lease room owed dues rights seen first n true ≡ opened plan (knows plan lease room owed dues rights seen first n was_opened) p
      know_segment_opened p s is = ap (opened_by (knows plan lease room owed dues rights seen first n was_opened) p) (sym is)

      pub know_found : (seen' : List Bool) (j : ℕ) (b : Bool) → ((i : ℕ) → seen_of seen' i ≡ (seen_of seen i || (nat_eq i j && b)))
          → knows plan lease room owed dues rights seen' first n was_opened ≡ found (knows plan lease room owed dues rights seen first n was_opened) j b
      know_found seen' j b more = λ y. record {
        lease = piece_of lease;
        cells = seen_cells plan lease room;
        owed = job_of owed;
        dues = λ d. due_of dues d;
        rights = λ q. slice_index_or rights q false;
        seen = λ i. more i y;
        first = first;
        ended = n;
        opened = was_opened;
      }

-- WHAT THE LISTS SAY AFTERWARDS

-- a segment that starts a job, or none
pub dues_started : (dues : List ℕ) (id : JobId) (o : Option JobId) → 0 < id.0 → id.0 - 1 < length dues → ((j : ℕ) → due_once (Some id) j ≡ due_once o j)
    → (j : ℕ) → due_of (set dues (id.0 - 1) (slice_index dues (id.0 - 1) + 1)) j ≡ due_of dues j + due_once o j
dues_started dues id o low lt same j = due_more dues id j low lt ∙ ap (λ n. due_of dues j + n) (same j)

pub dues_unstarted : (dues : List ℕ) (o : Option JobId) → ((j : ℕ) → due_once None j ≡ due_once o j) → (j : ℕ) → due_of dues j ≡ due_of dues j + due_once o j
dues_unstarted dues o same j = let e : due_once o j ≡ 0 = sym (same j) in omega arith

-- the duties that a last count brings
pub dues_counted : (plan : Plan) (dues dues' : List ℕ) (job : ℕ) → length dues ≡ length plan.jobs.items → length dues' ≡ length dues
    → ((d : ℕ) → d < length dues → slice_index dues' d ≡ slice_index dues d + due_after plan job (suc d))
    → (d : ℕ) → due_of dues' d ≡ due_of dues d + due_after plan job d
dues_counted plan dues dues' job size same each zero = refl
dues_counted plan dues dues' job size same each (suc d) = ⊎_elim
    (λ lt. each d lt)
    (λ le. let a : slice_index dues d ≡ 0 = past dues d 0 le in
    let b : slice_index dues' d ≡ 0 = past dues' d 0 (omega arith) in
    let none : due_after plan job (suc d) ≡ 0 = ap (λ o. cond (has_job (deps_in o) job) 1 0) (no_plan plan.jobs.items d (omega arith)) in
    omega arith)
    (below_or d (length dues))
  where
    no_plan : (xs : List JobPlan) (i : ℕ) → length xs ≤ i → slice_get xs i ≡ None
    no_plan [] i le = refl
    no_plan (x ∷ xs) zero le = absurd (omega arith)
    no_plan (x ∷ xs) (suc i) le = no_plan xs i (omega arith)

-- a duty less
pub dues_less : (dues : List ℕ) (j : ℕ) → 0 < j → j - 1 < length dues → (d : ℕ)
    → due_of (set dues (j - 1) (slice_index dues (j - 1) - 1)) d ≡ less_once (λ k. due_of dues k) j d
dues_less dues j low lt zero = sym (ap (λ (b : Bool). cond b (0 - 1) 0) (ne_eqb 0 j (λ e. omega arith)))
dues_less dues j low lt (suc d) = dite (ℕ_discrete d (j - 1))
    (λ e. ap (slice_index (set dues (j - 1) (slice_index dues (j - 1) - 1))) e ∙ (get_or-set_same dues (j - 1) (slice_index dues (j - 1) - 1) 0 lt
    ∙ (ap (λ n. slice_index dues n - 1) (sym e) ∙ sym (ap (λ (b : Bool). cond b (slice_index dues d - 1) (slice_index dues d))
    (eq-eqb (suc d) j (omega arith))))))
    (λ ne. get_or-set_other dues (j - 1) d (slice_index dues (j - 1) - 1) 0 ne
    ∙ sym (ap (λ (b : Bool). cond b (slice_index dues d - 1) (slice_index dues d)) (ne_eqb (suc d) j (λ e. ne (omega arith)))))

-- the rights to a range of pieces
pub rights_more : (plan : Plan) (rights rights' : List Bool) (j from end : ℕ) → from ≡ pieces_before plan.jobs.items j
    → end ≡ pieces_before plan.jobs.items (suc j)
    → ((p : ℕ) → from ≤ p → p < end → slice_index_or rights' p false ≡ true)
    → ((p : ℕ) → p < from → slice_index_or rights' p false ≡ slice_index_or rights p false)
    → ((p : ℕ) → end ≤ p → slice_index_or rights' p false ≡ slice_index_or rights p false)
    → (p : ℕ) → slice_index_or rights' p false ≡ (slice_index_or rights p false || is_of plan (suc j) p)
rights_more plan rights rights' j from end ef ee inside before behind p = ⊎_elim
    (λ t. let both = and_parts (leb (pieces_before plan.jobs.items j) p) (ltb p (pieces_before plan.jobs.items (suc j))) t in
    let lo = leb-true (pieces_before plan.jobs.items j) p both.0 in
    let hi = ltb-true p (pieces_before plan.jobs.items (suc j)) both.1 in
    inside p (omega arith) (omega arith) ∙ sym (ap (λ (b : Bool). slice_index_or rights p false || b) t ∙ or_true (slice_index_or rights p false)))
    (λ f. outside f (below_or p from) (below_or p end))
    (either_bool (is_of plan (suc j) p))
  where
    or_true : (b : Bool) → (b || true) ≡ true
    or_true true = refl
    or_true false = refl

    or_false : (b : Bool) → (b || false) ≡ b
    or_false true = refl
    or_false false = refl

    same : is_of plan (suc j) p ≡ false → slice_index_or rights p false ≡ (slice_index_or rights p false || is_of plan (suc j) p)
    same f = sym (ap (λ (b : Bool). slice_index_or rights p false || b) f ∙ or_false (slice_index_or rights p false))

    outside : is_of plan (suc j) p ≡ false → (p < from) ⊎ (from ≤ p) → (p < end) ⊎ (end ≤ p)
        → slice_index_or rights' p false ≡ (slice_index_or rights p false || is_of plan (suc j) p)
    outside f (inl lt) y = before p lt ∙ same f
    outside f (inr le) (inr ge) = behind p ge ∙ same f
    outside f (inr le) (inl lt) = absurd (not_both (and_from (leb (pieces_before plan.jobs.items j) p) (ltb p (pieces_before plan.jobs.items (suc j)))
        (le-leb (pieces_before plan.jobs.items j) p (omega arith)) (lt-ltb p (pieces_before plan.jobs.items (suc j)) (omega arith))) f)

-- a right less
pub rights_less : (rights : List Bool) (p q : ℕ) → slice_index_or (set rights p false) q false ≡ (slice_index_or rights q false && not (nat_eq q p))
rights_less rights p q = dite (ℕ_discrete q p)
    (λ e. ⊎_elim
    (λ lt. ap (λ n. slice_index_or (set rights p false) n false) e ∙ get_or-set_same rights p false false lt)
    (λ le. past (set rights p false) q false (let same = Rattle.std.proofs.Common.length-set rights p false in omega arith))
    (below_or p (length rights))
    ∙ sym (ap (λ (b : Bool). slice_index_or rights q false && not b) (eq-eqb q p e) ∙ and_no (slice_index_or rights q false)))
    (λ ne. get_or-set_other rights p q false false ne ∙ sym (ap (λ (b : Bool). slice_index_or rights q false && not b) (ne_eqb q p ne)
    ∙ and_yes (slice_index_or rights q false)))
  where
    and_no : (b : Bool) → (b && false) ≡ false
    and_no true = refl
    and_no false = refl

    and_yes : (b : Bool) → (b && true) ≡ b
    and_yes true = refl
    and_yes false = refl

-- a job more that is seen
pub seen_more : (seen : List Bool) (j : ℕ) → 0 < j → j - 1 < length seen → (i : ℕ)
    → seen_of (set seen (j - 1) true) i ≡ (seen_of seen i || (nat_eq i j && true))
seen_more seen j low lt zero = sym (ap (λ (b : Bool). b && true) (ne_eqb 0 j (λ e. omega arith)))
seen_more seen j low lt (suc i) = dite (ℕ_discrete i (j - 1))
    (λ e. ap (λ n. slice_index_or (set seen (j - 1) true) n false) e ∙ (get_or-set_same seen (j - 1) true false lt
    ∙ sym (ap (λ (b : Bool). slice_index_or seen i false || (b && true)) (eq-eqb (suc i) j (omega arith)) ∙ or_true (slice_index_or seen i false))))
    (λ ne. get_or-set_other seen (j - 1) i true false ne
    ∙ sym (ap (λ (b : Bool). slice_index_or seen i false || (b && true)) (ne_eqb (suc i) j (λ e. ne (omega arith))) ∙ or_false (slice_index_or seen i false)))
  where
    or_true : (b : Bool) → (b || true) ≡ true
    or_true true = refl
    or_true false = refl

    or_false : (b : Bool) → (b || false) ≡ b
    or_false true = refl
    or_false false = refl

pub seen_same : (seen : List Bool) (j i : ℕ) → seen_of seen i ≡ (seen_of seen i || (nat_eq i j && false))
seen_same seen j i = sym (ap (λ (b : Bool). seen_of seen i || b) (and_no (nat_eq i j)) ∙ or_false (seen_of seen i))
  where
    and_no : (b : Bool) → (b && false) ≡ false
    and_no true = refl
    and_no false = refl

    or_false : (b : Bool) → (b || false) ≡ b
    or_false true = refl
    or_false false = refl

-- A NEW SEAT

pub repeated_at : {A : Type 0} (n i : ℕ) (x : A) → get_or (Rattle.std.proofs.Common.replicate n x) i x ≡ x
repeated_at zero i x = refl
repeated_at (suc n) zero x = refl
repeated_at (suc n) (suc i) x = repeated_at n i x

pub know_new_seat : (plan : Plan) (room : List ℤ) (dues : List ℕ) (rights seen : List Bool) (first : Bool) → ((j : ℕ) → slice_index dues j ≡ 0)
    → ((p : ℕ) → slice_index_or rights p false ≡ false) → ((j : ℕ) → slice_index_or seen j false ≡ false)
    → knows plan None room None dues rights seen first 0 false ≡ Rattle.frame_core.specs.Know.new_seat first
know_new_seat plan room dues rights seen first d r s = λ y. record {
  lease = None;
  cells = no_cells;
  owed = None;
  dues = λ j. due_none j y;
  rights = λ p. r p y;
  seen = λ j. seen_none j y;
  first = first;
  ended = 0;
  opened = false;
}
  where
    due_none : (j : ℕ) → due_of dues j ≡ 0
    due_none zero = refl
    due_none (suc j) = d j

    seen_none : (j : ℕ) → seen_of seen j ≡ false
    seen_none zero = refl
    seen_none (suc j) = s j

-- BY WHAT A SEAT KNOWS

pub leased_piece : (o : Option PieceId) (p : ℕ) → piece_of o ≡ Some p → (q : PieceId) × (o ≡ Some q) × (q.0 ≡ p)
leased_piece None p e = absurd (Rattle.frame_core.proofs.Small.none_some e)
leased_piece (Some q) p e = (q, refl, Rattle.frame_core.proofs.Small.some_is e)

pub owed_job : (o : Option JobId) (j : ℕ) → job_of o ≡ Some j → (id : JobId) × (o ≡ Some id) × (id.0 ≡ j)
owed_job None j e = absurd (Rattle.frame_core.proofs.Small.none_some e)
owed_job (Some id) j e = (id, refl, Rattle.frame_core.proofs.Small.some_is e)

-- no job is numbered 0
pub none_at_zero : (o : Option JobId) (n : ℕ) → Rattle.std.specs.Prelude.IfSome o (λ id. (0 < id.0) × (id.0 < n)) → due_once o 0 ≡ 0
none_at_zero None n h = refl
none_at_zero (Some id) n h = let lt = h.0 in ap (λ (b : Bool). cond b 1 0) (ne_eqb id.0 0 (λ e. omega arith))

-- What a seat knows of the cells that a piece writes is what its room has.
pub held_cells : (plan : Plan) (o : Option PieceId) (p : PieceId) (q : ℕ) (room : List ℤ) → o ≡ Some p → piece_of o ≡ Some q
    → ((w : ℕ) → writes plan q w ≡ true → seen_cells plan o room w ≡ piece_cells plan (piece_numbered plan q) (before_number plan q) w)
    → (w : ℕ) → writes plan p.0 w ≡ true → cells_of room (place_of plan p.0 w) ≡ piece_cells plan (piece_numbered plan p.0) (before_number plan p.0) w
held_cells plan o p q room e l each w t =
    let same : p.0 ≡ q = Rattle.frame_core.proofs.Small.some_is (ap piece_of (sym e) ∙ l) in
    let r : reads plan p.0 w ≡ true = writes_read (touches plan (piece_numbered plan p.0)) w t in
    sym (ap (λ (b : Bool). cond b (cells_of room (place_of plan p.0 w)) (before_number plan p.0 w)) r)
    ∙ (ap (λ x. seen_cells plan x room w) (sym e) ∙ (each w (subst (λ n. writes plan n w ≡ true) same t)
    ∙ ap (λ n. piece_cells plan (piece_numbered plan n) (before_number plan n) w) (sym same)))

-- the leased piece reads a word
pub leased_reads : (plan : Plan) (o : Option PieceId) (p : PieceId) (q w : ℕ) → o ≡ Some p → piece_of o ≡ Some q → reads plan q w ≡ true
    → reads plan p.0 w ≡ true
leased_reads plan o p q w e l r =
    let same : p.0 ≡ q = Rattle.frame_core.proofs.Small.some_is (ap piece_of (sym e) ∙ l) in
    ap (λ n. reads plan n w) same ∙ r
