-- What a piece touches is what its indexes use.
use Rattle.std.proofs.Common.{◌≡◌, ℕ, zero, suc, ◌+◌, ◌-◌, ◌*◌, ◌<◌, ◌≤◌, ◌⊎◌, inl, inr, ⊎_elim, Bool, true, false, min, ◌||◌, List, [], ◌∷◌, refl, sym, ◌∙◌, arith}
use Rattle.std.specs.Prelude.{if◌then◌else◌}
use Rattle.job_base.specs.declared.Access.{Access}
use Rattle.job_base.specs.declared.Access.TheVariants.{Read, Write, Both}
use Rattle.std.proofs.lemmas.Bool.{or_cases}
use Rattle.frame_ast.specs.declared.kernel.Param.{Param}
use Rattle.frame_ast.specs.Checked.{is_read}
use Rattle.frame_ast.specs.Schedules.{writes_to}
use Rattle.kernel_exec.specs.declared.binds.Bind.{Bind}
use Rattle.kernel_exec.specs.declared.binds.Bind.TheVariants.{Int, Array, View, List as WholeList, Ref, Map, Stream}
use Rattle.kernel_exec.specs.Binds.{IsWordOf, width_if}
use Rattle.kernel_exec.specs.Footprint.{Own, IsElement, Uses, IsLength, Reads, ReadsBy, Writes, WritesBy, IsRead, IsWritten}
use Rattle.frame_core.specs.Touches.{has_word, reads_in, writes_in, whole, owned, end_place, width_in, used, through, binds_touch}
use Rattle.frame_core.proofs.Small.{not_both}
use Rattle.frame_core.proofs.Extents.Touching.{reads_append, writes_append, writes_read, it_has}
use Rattle.frame_core.specs.Touched.{IsBound, IsBoundToWrite, TouchedWordsAreUsed}

or_none : (b : Bool) → (b || false) ≡ true → b ≡ true
or_none true e = refl
or_none false e = e

-- the place that has a word
pub record IsOwned (start size count width from to w : ℕ) : Type 0 where
  pub place : ℕ
  pub within : place < count
  pub owned : Own width from to place
  pub low : start + place * size ≤ w
  pub high : w < start + place * size + size

-- the place of an offset
pub record IsPlace (size offset : ℕ) : Type 0 where
  pub place : ℕ
  pub low : place * size ≤ offset
  pub high : offset < place * size + size

first_place : (size : ℕ) → 0 < size → IsPlace size 0
first_place size pos = let z : 0 * size ≡ 0 = grind arith in record { place = 0; low = omega arith; high = omega arith }

next_place : (size k : ℕ) → 0 < size → IsPlace size k → IsPlace size (suc k)
next_place size k pos p =
    let lo = p.low in
    let hi = p.high in
    let next : suc p.place * size ≡ p.place * size + size = grind arith in
    ⊎_elim
    (λ e. record { place = suc p.place; low = omega arith; high = omega arith })
    (λ ne. record { place = p.place; low = omega arith; high = omega arith })
    (Rattle.std.proofs.lemmas.Bool.cases_eq (suc k) (p.place * size + size))

place_of : (size offset : ℕ) → 0 < size → IsPlace size offset
place_of size zero pos = first_place size pos
place_of size (suc k) pos = next_place size k pos (place_of size k pos)

-- a greater product has a greater factor
times_less : (size a b : ℕ) → a * size < b * size → a < b
times_less size a zero lt = let z : zero * size ≡ 0 = grind arith in absurd (omega arith)
times_less size zero (suc b) lt = omega arith
times_less size (suc a) (suc b) lt =
    let x : suc a * size ≡ a * size + size = grind arith in
    let y : suc b * size ≡ b * size + size = grind arith in
    let r = times_less size a b (omega arith) in
    omega arith

owned_by : (count width from to k : ℕ) → min count (from * width) ≤ k → k < end_place count width to → (k < count) × Own width from to k
owned_by count zero from to k lo hi = (hi, tt)
owned_by count (suc n) from to k lo hi =
    let below : k < count = omega arith in
    (below, (omega arith, omega arith))

owned_is : (start size count width from to w : ℕ) → 0 < size → has_word (owned start size count width from to) w ≡ true
    → IsOwned start size count width from to w
owned_is start size count width from to w pos e =
    let b = it_has (owned start size count width from to) w e in
    let from_word = b.0 in
    let to_word = b.1 in
    let p = place_of size (w - start) pos in
    let low = p.low in
    let high = p.high in
    let next : suc p.place * size ≡ p.place * size + size = grind arith in
    let after : min count (from * width) ≤ p.place = (let lt : min count (from * width) < suc p.place =
    times_less size (min count (from * width)) (suc p.place) (omega arith) in omega arith) in
    let before : p.place < end_place count width to = times_less size p.place (end_place count width to) (omega arith) in
    let o = owned_by count width from to p.place after before in
    record { place = p.place; within = o.0; owned = o.1; low = omega arith; high = omega arith }

element_is : (start len width from to w : ℕ) → has_word (owned start 1 len width from to) w ≡ true → IsElement start len width from to w
element_is start len width from to w e =
    let o = owned_is start 1 len width from to w (omega arith) e in
    let one : o.place * 1 ≡ o.place = grind arith in
    let lo = o.low in
    let hi = o.high in
    record { place = o.place; is = omega arith; within = o.within; owned = o.owned }

-- through a bind that may be written, in a parallel job
used_is : (b : Bind) (from to w : ℕ) → reads_in (used true b from to) w ≡ true → Uses b from to w ⊎ IsLength b w
used_is (Int z) from to w e = absurd (not_both e refl)
used_is (Array at own) from to w e = inl (element_is at.start at.len own from to w (or_none _ e))
used_is (View at own) from to w e = ⊎_elim (λ u. inl (element_is (at.start + 1) at.cap own from to w u))
    (λ u. inr (let b = it_has (record { from = at.start; end = at.start + 1; written = false }) w (or_none _ u) in let lo = b.0 in let hi = b.1 in omega arith))
    (or_cases _ _ e)
used_is (WholeList at) from to w e = let b = it_has (whole (WholeList at) true) w (or_none _ e) in inl (record { from = b.0; below = b.1 })
used_is (Ref at) from to w e = let b = it_has (whole (Ref at) true) w (or_none _ e) in inl (record { from = b.0; below = b.1 })
used_is (Map at) from to w e = let b = it_has (whole (Map at) true) w (or_none _ e) in inl (record { from = b.0; below = b.1 })
used_is (Stream at own) from to w e =
    let o = owned_is at.start (at.room + 1) at.count (width_if own) from to w (omega arith) (or_none _ e) in
    inl (record { index = o.place; within = o.within; owned = o.owned; start = o.low; end = o.high })

-- a length isn't written
used_written : (b : Bind) (from to w : ℕ) → writes_in (used true b from to) w ≡ true → Uses b from to w
used_written (Int z) from to w e = absurd (not_both e refl)
used_written (Array at own) from to w e = element_is at.start at.len own from to w (or_none _ e)
used_written (View at own) from to w e = ⊎_elim (λ u. element_is (at.start + 1) at.cap own from to w u) (λ u. absurd (not_both u refl)) (or_cases _ _ e)
used_written (WholeList at) from to w e = let b = it_has (whole (WholeList at) true) w (or_none _ e) in record { from = b.0; below = b.1 }
used_written (Ref at) from to w e = let b = it_has (whole (Ref at) true) w (or_none _ e) in record { from = b.0; below = b.1 }
used_written (Map at) from to w e = let b = it_has (whole (Map at) true) w (or_none _ e) in record { from = b.0; below = b.1 }
used_written (Stream at own) from to w e =
    let o = owned_is at.start (at.room + 1) at.count (width_if own) from to w (omega arith) (or_none _ e) in
    record { index = o.place; within = o.within; owned = o.owned; start = o.low; end = o.high }

through_reads : (p : Param) (b : Bind) (from to w : ℕ) → reads_in (through true p b from to) w ≡ true → Reads p.access b from to w
through_reads p b from to w e = by (is_read p.access) e
  where
    by : (r : Bool) → reads_in (if r then whole b false ∷ [] else used true b from to) w ≡ true → ReadsBy r b from to w
    by true e = let u = it_has (whole b false) w (or_none _ e) in record { from = u.0; below = u.1 }
    by false e = used_is b from to w e

through_writes : (p : Param) (b : Bind) (from to w : ℕ) → writes_in (through true p b from to) w ≡ true → Writes p.access b from to w
through_writes p b from to w e = by (is_read p.access) e
  where
    by : (r : Bool) → writes_in (if r then whole b false ∷ [] else used true b from to) w ≡ true → WritesBy r b from to w
    by true e = absurd (not_both e refl)
    by false e = used_written b from to w e

all_reads : (ps : List Param) (bs : List Bind) (from to w : ℕ) → reads_in (binds_touch true ps bs from to) w ≡ true → IsRead ps bs from to w
all_reads [] bs from to w e = absurd (not_both e refl)
all_reads (p ∷ ps) [] from to w e = absurd (not_both e refl)
all_reads (p ∷ ps) (b ∷ bs) from to w e = ⊎_elim
    (λ u. record { number = 0; param = p; bind = b; has_param = refl; has_bind = refl; reads = through_reads p b from to w u })
    (λ u. let r = all_reads ps bs from to w u in record {
      number = suc r.number;
      param = r.param;
      bind = r.bind;
      has_param = r.has_param;
      has_bind = r.has_bind;
      reads = r.reads;
    })
    (or_cases _ _ (sym (reads_append (through true p b from to) (binds_touch true ps bs from to) w) ∙ e))

all_writes : (ps : List Param) (bs : List Bind) (from to w : ℕ) → writes_in (binds_touch true ps bs from to) w ≡ true → IsWritten ps bs from to w
all_writes [] bs from to w e = absurd (not_both e refl)
all_writes (p ∷ ps) [] from to w e = absurd (not_both e refl)
all_writes (p ∷ ps) (b ∷ bs) from to w e = ⊎_elim
    (λ u. record { number = 0; param = p; bind = b; has_param = refl; has_bind = refl; writes = through_writes p b from to w u })
    (λ u. let r = all_writes ps bs from to w u in record {
      number = suc r.number;
      param = r.param;
      bind = r.bind;
      has_param = r.has_param;
      has_bind = r.has_bind;
      writes = r.writes;
    })
    (or_cases _ _ (sym (writes_append (through true p b from to) (binds_touch true ps bs from to) w) ∙ e))

-- in any job: words of the bind

element_word : (start len width from to w : ℕ) → has_word (owned start 1 len width from to) w ≡ true → (start ≤ w) × (w < start + len)
element_word start len width from to w e = let u = element_is start len width from to w e in let is = u.is in let lt = u.within in (omega arith, omega arith)

used_word : (parallel : Bool) (b : Bind) (from to w : ℕ) → reads_in (used parallel b from to) w ≡ true → IsWordOf b w
used_word parallel (Int z) from to w e = absurd (not_both e refl)
used_word parallel (Array at own) from to w e = let u = element_word at.start at.len (width_in parallel own) from to w (or_none _ e) in
    record { from = u.0; below = u.1 }
used_word parallel (View at own) from to w e = ⊎_elim
    (λ u. let v = element_word (at.start + 1) at.cap (width_in parallel own) from to w u in let lo = v.0 in let hi = v.1 in
    record { from = omega arith; below = omega arith })
    (λ u. let v = it_has (record { from = at.start; end = at.start + 1; written = false }) w (or_none _ u) in let lo = v.0 in let hi = v.1 in
    record { from = omega arith; below = omega arith })
    (or_cases _ _ e)
used_word parallel (WholeList at) from to w e = let b = it_has (whole (WholeList at) true) w (or_none _ e) in record { from = b.0; below = b.1 }
used_word parallel (Ref at) from to w e = let b = it_has (whole (Ref at) true) w (or_none _ e) in record { from = b.0; below = b.1 }
used_word parallel (Map at) from to w e = let b = it_has (whole (Map at) true) w (or_none _ e) in record { from = b.0; below = b.1 }
used_word parallel (Stream at own) from to w e =
    let o = owned_is at.start (at.room + 1) at.count (width_in parallel (width_if own)) from to w (omega arith) (or_none _ e) in
    let lo = o.low in
    let hi = o.high in
    let more : suc o.place * (at.room + 1) ≤ at.count * (at.room + 1) = times_more (at.room + 1) (suc o.place) at.count o.within in
    let next : suc o.place * (at.room + 1) ≡ o.place * (at.room + 1) + (at.room + 1) = grind arith in
    record { from = omega arith; below = omega arith }
  where
    times_more : (size a b : ℕ) → a ≤ b → a * size ≤ b * size
    times_more size a b le = Rattle.std.proofs.lemmas.Nat.mul-le a size b size le (omega arith)

bound_by : (parallel : Bool) (ps : List Param) (bs : List Bind) (from to w : ℕ) → reads_in (binds_touch parallel ps bs from to) w ≡ true → IsBound ps bs w
bound_by parallel [] bs from to w e = absurd (not_both e refl)
bound_by parallel (p ∷ ps) [] from to w e = absurd (not_both e refl)
bound_by parallel (p ∷ ps) (b ∷ bs) from to w e = ⊎_elim
    (λ u. record { number = 0; param = p; bind = b; has_param = refl; has_bind = refl; word = here (is_read p.access) u })
    (λ u. let r = bound_by parallel ps bs from to w u in record {
      number = suc r.number;
      param = r.param;
      bind = r.bind;
      has_param = r.has_param;
      has_bind = r.has_bind;
      word = r.word;
    })
    (or_cases _ _ (sym (reads_append (through parallel p b from to) (binds_touch parallel ps bs from to) w) ∙ e))
  where
    here : (r : Bool) → reads_in (if r then whole b false ∷ [] else used parallel b from to) w ≡ true → IsWordOf b w
    here true e = let u = it_has (whole b false) w (or_none _ e) in record { from = u.0; below = u.1 }
    here false e = used_word parallel b from to w e

writes_if : (a : Access) → is_read a ≡ false → writes_to a ≡ true
writes_if Read e = sym e
writes_if Write e = refl
writes_if Both e = refl

bound_written : (parallel : Bool) (ps : List Param) (bs : List Bind) (from to w : ℕ) → writes_in (binds_touch parallel ps bs from to) w ≡ true
    → IsBoundToWrite ps bs w
bound_written parallel [] bs from to w e = absurd (not_both e refl)
bound_written parallel (p ∷ ps) [] from to w e = absurd (not_both e refl)
bound_written parallel (p ∷ ps) (b ∷ bs) from to w e = ⊎_elim
    (λ u. let h = here (is_read p.access) refl u in record {
      bound = record { number = 0; param = p; bind = b; has_param = refl; has_bind = refl; word = h.0 };
      writes = writes_if p.access h.1;
    })
    (λ u. let r = bound_written parallel ps bs from to w u in record {
      bound =
          record {
            number = suc r.bound.number;
            param = r.bound.param;
            bind = r.bound.bind;
            has_param = r.bound.has_param;
            has_bind = r.bound.has_bind;
            word = r.bound.word;
          };
      writes = r.writes;
    })
    (or_cases _ _ (sym (writes_append (through parallel p b from to) (binds_touch parallel ps bs from to) w) ∙ e))
  where
    here : (r : Bool) → is_read p.access ≡ r → writes_in (if r then whole b false ∷ [] else used parallel b from to) w ≡ true
        → IsWordOf b w × (is_read p.access ≡ false)
    here true f e = absurd (not_both e refl)
    here false f e = (used_word parallel b from to w (writes_read (used parallel b from to) w e), f)

pub touched_words_are_used : TouchedWordsAreUsed
touched_words_are_used = record { reads = all_reads; writes = all_writes; bound = bound_by; bound_to_write = bound_written }
