-- The diamond on a board without locks: each step, from the opening to the end.
use Rattle.std.proofs.Common.{◌≡◌, ◌≢◌, ℕ, zero, suc, ◌<◌, ◌⊎◌, inr, ⊎_elim, true, false, ◌||◌, eqb, eqb-true, ne_eqb, List, [], ◌∷◌, refl, sym, ap, ◌∙◌, arith, ℤ, pos, Option, Some, None}
use Rattle.std.proofs.lemmas.Bool.{or_cases, or_left}
use Rattle.merge_laws.specs.Numbers.{has}
use Rattle.merge_laws.specs.Graph.{Cells, cells_before}
use Rattle.merge_laws.specs.Core.{Lease}
use Rattle.merge_laws.specs.Steps.{ChangesLease}
use Rattle.merge_laws.specs.Claims.{by_segment, Duty, Claims, IsFirst, duties_on}
use Rattle.merge_laws.specs.CountSteps.{ChangesWord}
use Rattle.merge_laws.specs.BoardSteps.{Step, stores, begins, ends_part, ends_segment, counts, releases, opens_part, opens_segment, sees, Reaches, here, onward}
use Rattle.merge_laws.specs.Diamond.{diamond_reads, diamond_writes, diamond, diamond_jobs}
use Rattle.merge_laws.specs.DiamondBoard.{states, cells_of, holding, at_0, lease_at_0, board, board_at_first, board_at_last, DiamondIsRun}
use Rattle.merge_laws.proofs.Tests.{not_both, by_equal, chosen, not_chosen}
use Rattle.merge_laws.proofs.Diamond.Worked.{writes_own, reads_first, reads_second, part_is, below_one}

-- WORDS

-- what holds at four numbers and past them holds
each : (P : ℕ → Type 0) → P 0 → P 1 → P 2 → P 3 → ((n : ℕ) → P (suc (suc (suc (suc n))))) → (n : ℕ) → P n
each P a b c d more zero = a
each P a b c d more (suc zero) = b
each P a b c d more (suc (suc zero)) = c
each P a b c d more (suc (suc (suc zero))) = d
each P a b c d more (suc (suc (suc (suc n)))) = more n

module _ (a b c d x : ℕ) where
  change_0 : ChangesWord (states a b c d) (states x b c d) 0 x
  change_0 = record {
    here = refl;
    there = each (λ j. j ≢ 0 → states x b c d j ≡ states a b c d j) (λ n. absurd (n refl)) (λ n. refl) (λ n. refl) (λ n. refl)
        (λ j n. refl);
  }

  change_1 : ChangesWord (states a b c d) (states a x c d) 1 x
  change_1 = record {
    here = refl;
    there = each (λ j. j ≢ 1 → states a x c d j ≡ states a b c d j) (λ n. refl) (λ n. absurd (n refl)) (λ n. refl) (λ n. refl)
        (λ j n. refl);
  }

  change_2 : ChangesWord (states a b c d) (states a b x d) 2 x
  change_2 = record {
    here = refl;
    there = each (λ j. j ≢ 2 → states a b x d j ≡ states a b c d j) (λ n. refl) (λ n. refl) (λ n. absurd (n refl)) (λ n. refl)
        (λ j n. refl);
  }

  change_3 : ChangesWord (states a b c d) (states a b c x) 3 x
  change_3 = record {
    here = refl;
    there = each (λ j. j ≢ 3 → states a b c x j ≡ states a b c d j) (λ n. refl) (λ n. refl) (λ n. refl) (λ n. absurd (n refl))
        (λ j n. refl);
  }

count_falls : (a b : ℕ) → ChangesWord (at_0 a) (at_0 b) 0 b
count_falls a b = record { here = refl; there = λ j n. not_chosen j 0 b 0 n ∙ sym (not_chosen j 0 a 0 n) }

lease_changes : (l x : Option Lease) → ChangesLease (lease_at_0 l) (lease_at_0 x) 0 x
lease_changes l x = record { here = refl; there = λ j n. not_chosen j 0 x None n ∙ sym (not_chosen j 0 l None n) }

reads_below : (p w : ℕ) → diamond_reads p w ≡ true → w < 4
reads_below zero w r = let e = eqb-true w 0 r in omega arith
reads_below (suc zero) w r = ⊎_elim (λ e. omega arith) (λ e. omega arith) (reads_first w r)
reads_below (suc (suc zero)) w r = ⊎_elim (λ e. omega arith) (λ e. omega arith) (reads_second w r)
reads_below (suc (suc (suc zero))) w r = ⊎_elim (λ e. let q = eqb-true w 3 e in omega arith)
    (λ t. ⊎_elim (λ e. let q = eqb-true w 1 e in omega arith) (λ e. let q = eqb-true w 2 e in omega arith) (or_cases (eqb w 1) (eqb w 2) t))
    (or_cases (eqb w 3) (eqb w 1 || eqb w 2) r)
reads_below (suc (suc (suc (suc p)))) w r = absurd (not_both r refl)

-- the steps of one participant that look the same for each piece

begin : (s t : ℕ → ℕ) (r w : ℕ) (c : Cells) (v : Claims) (p : ℕ) → p < 4 → s p ≡ 1 → ChangesWord s t p 2 → IsFirst v
    → ((u : ℕ) → diamond_reads p u ≡ true → c u ≡ cells_before diamond p u)
    → Step diamond diamond_jobs (board s r w c None v) (board t r w c (Some record { piece = p; local = c }) v)
begin s t r w c v p lt found change first right = begins 0 (record {
  piece = p;
  below = lt;
  found = found;
  states = change;
  free = refl;
  local = c;
  local_is = right;
  leases = lease_changes None (Some record { piece = p; local = c });
  first = λ i il q. (v, refl, first);
  cells = refl;
  counts = record { rest = refl; wait = refl };
  claims = refl;
})

store : (s : ℕ → ℕ) (r w : ℕ) (c d : Cells) (v : Claims) (p : ℕ) (x : ℤ) → diamond_writes p p ≡ true → d p ≡ x → ((u : ℕ) → u ≢ p → d u ≡ c u)
    → Step diamond diamond_jobs (board s r w c (Some record { piece = p; local = c }) v) (board s r w d (Some record { piece = p; local = d }) v)
store s r w c d v p x writes now others = stores 0 (record {
  word = p;
  value = x;
  stores = record {
    was = record { piece = p; local = c };
    lease = refl;
    written = writes;
    now = record { piece = p; local = d };
    leases = lease_changes (Some record { piece = p; local = c }) (Some record { piece = p; local = d });
    piece = refl;
    local_here = now;
    local_there = others;
    here = now;
    there = others;
    ended = λ q. refl;
  };
  state = refl;
  counts = record { rest = refl; wait = refl };
  claims = refl;
})

-- the end of a job's piece, where the local cells are those after it
end_part : (s t : ℕ → ℕ) (r w : ℕ) (c : Cells) (p n : ℕ) (rights seen : List ℕ) → p < 4 → diamond_jobs.is_part p 0 ≡ true → s p ≡ 2 → ChangesWord s t p 3
    → ((u : ℕ) → diamond_writes p u ≡ true → c u ≡ cells_before diamond (suc p) u)
    → Step diamond diamond_jobs (board s r w c (Some record { piece = p; local = c }) (holding n false None [] rights seen))
    (board t r w c None (holding n false (Some 0) [] rights seen))
end_part s t r w c p n rights seen lt part begun change done = ends_part 0 (record {
  piece = p;
  job = 0;
  was = holding n false None [] rights seen;
  now = holding n false (Some 0) [] rights seen;
  gives_up = record {
    lease = record { piece = p; local = c };
    held = refl;
    piece = refl;
    is_done = done;
    leases = lease_changes (Some record { piece = p; local = c }) None;
    cells = refl;
    counts = record { rest = refl; wait = refl };
  };
  claims = record { was = refl; now = refl };
  ends = record {
    job = omega arith;
    piece = lt;
    part = part;
    begun = begun;
    states = change;
    was = refl;
    now = refl;
    duties = refl;
    rights = refl;
    seen = refl;
    segments = record { number = refl; spent = refl; ended = refl; opened = refl };
  };
})

-- the end of segment k, which brings these duties
end_segment : (s t : ℕ → ℕ) (r w : ℕ) (c : Cells) (k : ℕ) (duties : List Duty) (seen : List ℕ) → k < 2 → s (diamond_jobs.segment_at k) ≡ 2
    → ChangesWord s t (diamond_jobs.segment_at k) 3
    → ((u : ℕ) → diamond_writes (diamond_jobs.segment_at k) u ≡ true → c u ≡ cells_before diamond (suc (diamond_jobs.segment_at k)) u)
    → (eqb 0 k ≡ true → duties_on 0 duties ≡ 1) → (eqb 0 k ≡ false → duties_on 0 duties ≡ 0)
    → Step diamond diamond_jobs (board s r w c (Some record { piece = diamond_jobs.segment_at k; local = c }) (holding k true None [] [] seen))
    (board t r w c None (holding (suc k) false None duties [] seen))
end_segment s t r w c k duties seen lt begun change done more same = ends_segment 0 (record {
  segment = k;
  was = holding k true None [] [] seen;
  now = holding (suc k) false None duties [] seen;
  gives_up = record {
    lease = record { piece = diamond_jobs.segment_at k; local = c };
    held = refl;
    piece = refl;
    is_done = done;
    leases = lease_changes (Some record { piece = diamond_jobs.segment_at k; local = c }) None;
    cells = refl;
    counts = record { rest = refl; wait = refl };
  };
  claims = record { was = refl; now = refl };
  ends = record {
    segment = lt;
    begun = begun;
    states = change;
    first = (refl, refl);
    number = refl;
    spent = refl;
    ended = refl;
    opened = refl;
    owed = refl;
    duties = record {
      more = λ j jl t. below_one (λ i. duties_on i duties ≡ 1) j jl (more t);
      same = λ j jl f. below_one (λ i. duties_on i duties ≡ 0) j jl (same f);
    };
    rights = refl;
    seen = refl;
  };
})

open_segment : (s t : ℕ → ℕ) (r w : ℕ) (c : Cells) (k : ℕ) (seen : List ℕ) → k < 2 → ((j : ℕ) → diamond_jobs.waits k j ≡ true → has j seen ≡ true)
    → ChangesWord s t (diamond_jobs.segment_at k) 1
    → Step diamond diamond_jobs (board s r w c None (holding k false None [] [] seen)) (board t r w c None (holding k true None [] [] seen))
open_segment s t r w c k seen lt waited change = opens_segment 0 (record {
  was = holding k false None [] [] seen;
  now = holding k true None [] [] seen;
  claims = record { was = refl; now = refl };
  opens = record {
    segment = lt;
    unopened = refl;
    waited = waited;
    states = change;
    first = (refl, refl);
    number = refl;
    spent = refl;
    ended = refl;
    opened = refl;
    owed = refl;
    duties = refl;
    rights = refl;
    seen = refl;
  };
  cells = refl;
  lease = refl;
  counts = record { rest = refl; wait = refl };
})

-- a piece is opened, to which the right is the last of the list
open_part : (s t : ℕ → ℕ) (r w : ℕ) (c : Cells) (n p : ℕ) (rights left : List ℕ) → has p rights ≡ true → has p left ≡ false
    → ((q : ℕ) → q ≢ p → has q left ≡ has q rights) → ChangesWord s t p 1
    → Step diamond diamond_jobs (board s r w c None (holding n false None [] rights [])) (board t r w c None (holding n false None [] left []))
open_part s t r w c n p rights left right gone stay change = opens_part 0 (record {
  piece = p;
  was = holding n false None [] rights [];
  now = holding n false None [] left [];
  claims = record { was = refl; now = refl };
  opens = record {
    right = right;
    states = change;
    gone = gone;
    stay = stay;
    owed = refl;
    duties = refl;
    seen = refl;
    segments = record { number = refl; spent = refl; ended = refl; opened = refl };
  };
  cells = refl;
  lease = refl;
  counts = record { rest = refl; wait = refl };
})

-- a count of the job; nothing depends on it, so no duty comes
count : (s : ℕ → ℕ) (r w : ℕ) (c : Cells) (n : ℕ) (rights : List ℕ)
    → Step diamond diamond_jobs (board s (suc r) w c None (holding n false (Some 0) [] rights [])) (board s r w c None (holding n false None [] rights []))
count s r w c n rights = counts 0 (record {
  job = 0;
  was = holding n false (Some 0) [] rights [];
  now = holding n false None [] rights [];
  claims = record { was = refl; now = refl };
  falls = record {
    job = omega arith;
    was = refl;
    now = refl;
    remaining = r;
    found = refl;
    rests = count_falls (suc r) r;
    not_last = λ n. refl;
    last = λ z. record { more = λ j jl t. absurd (not_both t refl); same = λ j jl f. refl };
    segment_duties = λ t. t;
    rights = refl;
    seen = refl;
    segments = record { number = refl; spent = refl; ended = refl; opened = refl };
  };
  core = record { state = refl; cells = refl; lease = refl };
  wait = refl;
})

abbrev duty : Duty
duty = record { predecessor = by_segment 0; job = 0 }

in_both : (p : ℕ) → ((p ≡ 1) ⊎ (p ≡ 2)) → has p (2 ∷ 1 ∷ []) ≡ true
in_both p t = ⊎_elim (λ e. ap (λ x. has x (2 ∷ 1 ∷ [])) e) (λ e. ap (λ x. has x (2 ∷ 1 ∷ [])) e) t

both_only : (p : ℕ) → has p (2 ∷ 1 ∷ []) ≡ true → (p < 4) × (diamond_jobs.is_part p 0 ≡ true)
both_only p t = ⊎_elim
    (λ e. let q = eqb-true p 2 e in (omega arith, ap (λ x. diamond_jobs.is_part x 0) q))
    (λ r. ⊎_elim (λ e. let q = eqb-true p 1 e in (omega arith, ap (λ x. diamond_jobs.is_part x 0) q)) (λ f. absurd (not_both f refl))
    (or_cases (eqb p 1) false r))
    (or_cases (eqb p 2) (eqb p 1 || false) t)

-- the release of the job, whose one predecessor is segment 0: the rights come
release : (s : ℕ → ℕ) (c : Cells) → Step diamond diamond_jobs (board s 2 1 c None (holding 1 false None (duty ∷ []) [] []))
    (board s 2 0 c None (holding 1 false None [] (2 ∷ 1 ∷ []) []))
release s c = releases 0 (record {
  job = 0;
  was = holding 1 false None (duty ∷ []) [] [];
  now = holding 1 false None [] (2 ∷ 1 ∷ []) [];
  claims = record { was = refl; now = refl };
  falls = record {
    job = omega arith;
    duty_gone = refl;
    duties_stay = λ i n. sym (not_chosen 0 i 1 0 (λ q. n (sym q)));
    segment_duties = λ t. absurd (not_both t refl);
    remaining = 0;
    found = refl;
    waits = count_falls 1 0;
    owed = refl;
    not_last = λ n. absurd (n refl);
    rights_stay = λ p t. absurd (not_both t refl);
    rights_come = λ z p lt part. in_both p (part_is p 0 part).0;
    rights_only = λ z p t. inr (both_only p t);
    seen = refl;
    segments = record { number = refl; spent = refl; ended = refl; opened = refl };
  };
  core = record { state = refl; cells = refl; lease = refl };
  rest = refl;
})

look : (s : ℕ → ℕ) (c : Cells) → Step diamond diamond_jobs (board s 0 0 c None (holding 1 false None [] [] []))
    (board s 0 0 c None (holding 1 false None [] [] (0 ∷ [])))
look s c = sees 0 (record {
  job = 0;
  was = holding 1 false None [] [] [];
  now = holding 1 false None [] [] (0 ∷ []);
  claims = record { was = refl; now = refl };
  sees = record {
    job = omega arith;
    none = refl;
    seen = refl;
    owed = refl;
    duties = refl;
    rights = refl;
    segments = record { number = refl; spent = refl; ended = refl; opened = refl };
  };
  core = record { state = refl; cells = refl; lease = refl };
  counts = record { rest = refl; wait = refl };
})

-- THE RUN

-- the cells at first, and after each piece
abbrev c0 : Cells
c0 = cells_of (pos 5) (pos 5) (pos 5) (pos 5)

abbrev c1 : Cells
c1 = cells_of (pos 7) (pos 5) (pos 5) (pos 5)

abbrev c2 : Cells
c2 = cells_of (pos 7) (pos 8) (pos 5) (pos 5)

abbrev c3 : Cells
c3 = cells_of (pos 7) (pos 8) (pos 9) (pos 5)

abbrev c4 : Cells
c4 = cells_of (pos 7) (pos 8) (pos 9) (pos 17)

-- they are those of script order
right_cells : (p : ℕ) (c : Cells) → (c 0 ≡ cells_before diamond p 0) × (c 1 ≡ cells_before diamond p 1) × (c 2 ≡ cells_before diamond p 2)
    × (c 3 ≡ cells_before diamond p 3) → (u : ℕ) → u < 4 → c u ≡ cells_before diamond p u
right_cells p c e = each (λ u. u < 4 → c u ≡ cells_before diamond p u) (λ lt. e.0) (λ lt. e.1) (λ lt. e.2) (λ lt. e.3) (λ n lt. absurd (omega arith))

writes_below : (p u : ℕ) → p < 4 → diamond_writes p u ≡ true → u < 4
writes_below p u lt t = let e = writes_own p u t in omega arith

reaches_middle : Reaches diamond diamond_jobs board_at_first (board (states 3 1 1 0) 2 0 c1 None (holding 1 false None [] [] []))
reaches_middle = onward (onward (onward (onward (onward (onward (onward here
    (open_segment (states 0 0 0 0) (states 1 0 0 0) 2 1 c0 0 [] (omega arith) (λ j t. absurd (not_both t refl)) (change_0 0 0 0 0 1)))
    (begin (states 1 0 0 0) (states 2 0 0 0) 2 1 c0 (holding 0 true None [] [] []) 0 (omega arith) refl (change_0 1 0 0 0 2) (refl, refl)
    (λ u r. right_cells 0 c0 (refl, refl, refl, refl) u (reads_below 0 u r))))
    (store (states 2 0 0 0) 2 1 c0 c1 (holding 0 true None [] [] []) 0 (pos 7) refl refl
    (each (λ u. u ≢ 0 → c1 u ≡ c0 u) (λ n. absurd (n refl)) (λ n. refl) (λ n. refl) (λ n. refl) (λ u n. refl))))
    (end_segment (states 2 0 0 0) (states 3 0 0 0) 2 1 c1 0 (duty ∷ []) [] (omega arith) refl (change_0 2 0 0 0 3)
    (λ u t. right_cells 1 c1 (refl, refl, refl, refl) u (writes_below 0 u (omega arith) t)) (λ t. refl) (λ f. absurd (not_both refl f))))
    (release (states 3 0 0 0) c1))
    (open_part (states 3 0 0 0) (states 3 1 0 0) 2 0 c1 1 1 (2 ∷ 1 ∷ []) (2 ∷ []) refl refl
    (λ q n. ap (λ b. eqb q 2 || b) (sym (ap (λ b. b || false) (ne_eqb q 1 n)))) (change_1 3 0 0 0 1)))
    (open_part (states 3 1 0 0) (states 3 1 1 0) 2 0 c1 1 2 (2 ∷ []) [] refl refl (λ q n. sym (ap (λ b. b || false) (ne_eqb q 2 n))) (change_2 3 1 0 0 1))

reaches_counted : Reaches diamond diamond_jobs board_at_first (board (states 3 3 3 0) 0 0 c3 None (holding 1 false None [] [] (0 ∷ [])))
reaches_counted = onward (onward (onward (onward (onward (onward (onward (onward (onward reaches_middle
    (begin (states 3 1 1 0) (states 3 2 1 0) 2 0 c1 (holding 1 false None [] [] []) 1 (omega arith) refl (change_1 3 1 1 0 2) (refl, refl)
    (λ u r. right_cells 1 c1 (refl, refl, refl, refl) u (reads_below 1 u r))))
    (store (states 3 2 1 0) 2 0 c1 c2 (holding 1 false None [] [] []) 1 (pos 8) refl refl
    (each (λ u. u ≢ 1 → c2 u ≡ c1 u) (λ n. refl) (λ n. absurd (n refl)) (λ n. refl) (λ n. refl) (λ u n. refl))))
    (end_part (states 3 2 1 0) (states 3 3 1 0) 2 0 c2 1 1 [] [] (omega arith) refl refl (change_1 3 2 1 0 3)
    (λ u t. right_cells 2 c2 (refl, refl, refl, refl) u (writes_below 1 u (omega arith) t))))
    (count (states 3 3 1 0) 1 0 c2 1 []))
    (begin (states 3 3 1 0) (states 3 3 2 0) 1 0 c2 (holding 1 false None [] [] []) 2 (omega arith) refl (change_2 3 3 1 0 2) (refl, refl)
    (λ u r. right_cells 2 c2 (refl, refl, refl, refl) u (reads_below 2 u r))))
    (store (states 3 3 2 0) 1 0 c2 c3 (holding 1 false None [] [] []) 2 (pos 9) refl refl
    (each (λ u. u ≢ 2 → c3 u ≡ c2 u) (λ n. refl) (λ n. refl) (λ n. absurd (n refl)) (λ n. refl) (λ u n. refl))))
    (end_part (states 3 3 2 0) (states 3 3 3 0) 1 0 c3 2 1 [] [] (omega arith) refl refl (change_2 3 3 2 0 3)
    (λ u t. right_cells 3 c3 (refl, refl, refl, refl) u (writes_below 2 u (omega arith) t))))
    (count (states 3 3 3 0) 0 0 c3 1 []))
    (look (states 3 3 3 0) c3)

reaches_last : Reaches diamond diamond_jobs board_at_first board_at_last
reaches_last = onward (onward (onward (onward reaches_counted
    (open_segment (states 3 3 3 0) (states 3 3 3 1) 0 0 c3 1 (0 ∷ []) (omega arith) (λ j t. or_left (eqb j 0) false t) (change_3 3 3 3 0 1)))
    (begin (states 3 3 3 1) (states 3 3 3 2) 0 0 c3 (holding 1 true None [] [] (0 ∷ [])) 3 (omega arith) refl (change_3 3 3 3 1 2) (refl, refl)
    (λ u r. right_cells 3 c3 (refl, refl, refl, refl) u (reads_below 3 u r))))
    (store (states 3 3 3 2) 0 0 c3 c4 (holding 1 true None [] [] (0 ∷ [])) 3 (pos 17) refl refl
    (each (λ u. u ≢ 3 → c4 u ≡ c3 u) (λ n. refl) (λ n. refl) (λ n. refl) (λ n. absurd (n refl)) (λ u n. refl))))
    (end_segment (states 3 3 3 2) (states 3 3 3 3) 0 0 c4 1 [] (0 ∷ []) (omega arith) refl (change_3 3 3 3 2 3)
    (λ u t. right_cells 4 c4 (refl, refl, refl, refl) u (writes_below 3 u (omega arith) t)) (λ t. absurd (not_both t refl)) (λ f. refl))

pub diamond_is_run : DiamondIsRun
diamond_is_run = record {
  opening = record {
    states = each (λ p. states 0 0 0 0 p ≡ 0) refl refl refl refl (λ n. refl);
    rests = λ j lt. below_one (λ i. at_0 2 i ≡ Rattle.merge_laws.specs.Numbers.tally (λ p. diamond_jobs.is_part p i) 4) j lt refl;
    waits = λ j lt. below_one (λ i. at_0 1 i ≡ 1) j lt refl;
    cells = each (λ w. c0 w ≡ pos 5) refl refl refl refl (λ n. refl);
    leases = λ k. by_equal k 0 (λ q. chosen k 0 None None q) (λ n. not_chosen k 0 None None n);
    claims = refl;
  };
  reaches = reaches_last;
  over = record { place = 0; first = holding 2 false None [] [] (0 ∷ []); there = refl; is_first = (refl, refl); all = refl };
}
