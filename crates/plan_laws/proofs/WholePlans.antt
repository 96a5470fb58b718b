-- The pieces of a plan from the last one back, and what precedes them.
use Rattle.std.proofs.Common.{◌≡◌, ◌≢◌, ℕ, zero, suc, ◌+◌, ◌-◌, ◌<◌, ◌≤◌, ◌⊎◌, inl, inr, ⊎_elim, Bool, true, false, cond, eq-eqb, eqb-true, ne_eqb, not, ◌&&◌, ◌||◌, List, [], ◌∷◌, ◌++◌, length, map, Option, Some, None, refl, sym, ap, subst, ◌∙◌, arith}
use Rattle.std.specs.Prelude.{slice_get, nat_eq, nat_lt, if◌then◌else◌}
use Rattle.std.proofs.lemmas.Bool.{cases_lt, cases_eq}
use Rattle.job_base.specs.declared.JobId.{JobId}
use Rattle.merge_laws.specs.Graph.{IsWellOrdered}
use Rattle.merge_laws.specs.Pieces as made
use Rattle.merge_laws.specs.Pieces.{is_before, precedes_in, latest_segment, no_piece, graph_from}
use Rattle.merge_laws.proofs.Places.{leads_along, precedes_below, at_new, at_old, latest_new, latest_old}
use Rattle.frame_core.specs.declared.piece.Piece.{Piece}
use Rattle.frame_core.specs.declared.piece.Piece.TheVariants.{OfScript, OfJob}
use Rattle.frame_core.specs.declared.plan.JobPlan.{JobPlan}
use Rattle.frame_core.specs.declared.plan.Segment.{Segment}
use Rattle.frame_core.specs.declared.plan.Plan.{Plan}
use Rattle.frame_core.specs.Names.{is_job, starts_in, segment_at, pieces_of}
use Rattle.frame_core.specs.Pieces.{parts_from, parts_of, started, order_from, script_order}
use Rattle.frame_core.specs.Touches.{reads_in, writes_in}
use Rattle.frame_core.specs.Effects.{touches}
use Rattle.frame_core.specs.Graphs.{is_predecessor, precedes_at, touches_at, piece_at, graph_of, cells_at_first}
use Rattle.frame_core.specs.Ordered.{ConflictsLead}
use Rattle.frame_core.proofs.Small.{not_both, some_is, none_some}
use Rattle.plan_laws.specs.WholePlans.{made_piece, turned, order_back, whole_pieces, StartJobs, ListsOrderPlans}

-- ---- lists from the last element back

abbrev pub at_back : {A : Type 0} → List A → ℕ → Option A
at_back [] p = None
at_back (x ∷ more) p = if nat_eq p (length more) then Some x else at_back more p

module _ {A : Type 0} where
  by_eq : (b : Bool) (x : A) (o : Option A) → b ≡ false → (cond b (Some x) o) ≡ o
  by_eq true x o e = absurd (not_both refl e)
  by_eq false x o e = refl

  pub back_old : (x : A) (top : List A) (p : ℕ) → p ≢ length top → at_back (x ∷ top) p ≡ at_back top p
  back_old x top p ne = by_eq (nat_eq p (length top)) x (at_back top p) (ne_eqb p (length top) ne)

  pub back_new : (x : A) (top : List A) → at_back (x ∷ top) (length top) ≡ Some x
  back_new x top = ap (λ b. cond b (Some x) (at_back top (length top))) (eq-eqb (length top) (length top) refl)

  pub back_past : (top : List A) (p : ℕ) → length top ≤ p → at_back top p ≡ None
  back_past [] p le = refl
  back_past (x ∷ top) p le = back_old x top p (λ e. omega arith) ∙ back_past top p (omega arith)

  pub back_below : (top : List A) (p : ℕ) (x : A) → at_back top p ≡ Some x → p < length top
  back_below top p x e = ⊎_elim (λ lt. lt) (λ ge. absurd (none_some (sym (back_past top p ge) ∙ e))) (cases_lt p (length top))

  pub back_some : (top : List A) (p : ℕ) → p < length top → (x : A) × (at_back top p ≡ Some x)
  back_some [] p lt = absurd (omega arith)
  back_some (x ∷ top) p lt = ⊎_elim (λ e. (x, ap (at_back (x ∷ top)) e ∙ back_new x top))
      (λ ne. let r = back_some top p (omega arith) in (r.0, back_old x top p ne ∙ r.1)) (cases_eq p (length top))

  pub turned_top : (xs top : List A) (p : ℕ) → p < length top → at_back (turned top xs) p ≡ at_back top p
  turned_top [] top p lt = refl
  turned_top (x ∷ xs) top p lt = turned_top xs (x ∷ top) p (omega arith) ∙ back_old x top p (λ e. omega arith)

  pub turned_at : (xs top : List A) (i : ℕ) → at_back (turned top xs) (length top + i) ≡ slice_get xs i
  turned_at [] top i = back_past top (length top + i) (omega arith)
  turned_at (x ∷ xs) top zero =
      let e : length top + 0 ≡ length top = omega arith in
      turned_top xs (x ∷ top) (length top + 0) (omega arith) ∙ ap (at_back (x ∷ top)) e ∙ back_new x top
  turned_at (x ∷ xs) top (suc i) =
      let e : length top + suc i ≡ length (x ∷ top) + i = omega arith in
      ap (at_back (turned top (x ∷ xs))) e ∙ turned_at xs (x ∷ top) i

  pub turned_get : (xs : List A) (p : ℕ) → at_back (turned [] xs) p ≡ slice_get xs p
  turned_get xs p = let e : p ≡ length {A = A} [] + p = omega arith in ap (at_back (turned [] xs)) e ∙ turned_at xs [] p

  pub turned_append : (xs ys top : List A) → turned top (xs ++ ys) ≡ turned (turned top xs) ys
  turned_append [] ys top = refl
  turned_append (x ∷ xs) ys top = turned_append xs ys (x ∷ top)

  pub length-turned : (xs top : List A) → length (turned top xs) ≡ length top + length xs
  length-turned [] top = omega arith
  length-turned (x ∷ xs) top = length-turned xs (x ∷ top) ∙ omega arith

length-map' : {A B : Type 0} (f : A → B) (xs : List A) → length (map f xs) ≡ length xs
length-map' f [] = refl
length-map' f (x ∷ xs) = ap suc (length-map' f xs)

-- ---- what precedes a piece

module _ (plan : Plan) where
  abbrev pub make : Piece → made.Piece
  make x = made_piece plan x

  abbrev pub all : List Piece → List made.Piece
  all top = map make top

  long : (top : List Piece) → length (all top) ≡ length top
  long top = length-map' make top

  pub made_at : (top : List Piece) (p : ℕ) (x : Piece) → at_back top p ≡ Some x → made.piece_at (all top) p ≡ make x
  made_at [] p x e = absurd (none_some e)
  made_at (y ∷ top) p x e = ⊎_elim
      (λ here.
      let n : p ≡ length (all top) = here ∙ sym (long top) in
      ap (made.piece_at (all (y ∷ top))) n ∙ at_new (make y) (all top)
      ∙ ap make (some_is (sym (back_new y top) ∙ ap (at_back (y ∷ top)) (sym here) ∙ e)))
      (λ ne. at_old (make y) (all top) p (λ h. ne (h ∙ long top)) ∙ made_at top p x (sym (back_old y top p ne) ∙ e))
      (cases_eq p (length top))

  abbrev ArePreceded : List Piece → Type 0
  ArePreceded top = (p q : ℕ) → precedes_in (all top) q p ≡ true → precedes_at plan (at_back top q) (at_back top p) ≡ true

  -- a piece of a job, and what comes after it
  job_before : (x y : Piece) → (make y).job ≢ 0 → (make x).after (make y).job ≡ true → is_predecessor plan y x ≡ true
  job_before x (OfScript l) ne e = absurd (ne refl)
  job_before (OfScript k) (OfJob d h) ne e = e
  job_before (OfJob j i) (OfJob d h) ne e = e

  abbrev AfterLatest : Piece → List Piece → Type 0
  AfterLatest x top = latest_segment (all top) < length top → precedes_at plan (at_back top (latest_segment (all top))) (Some x) ≡ true

  and_both : (a b : Bool) → (a && b) ≡ true → (a ≡ true) × (b ≡ true)
  and_both true b e = (refl, e)
  and_both false b e = absurd (not_both e refl)

  or_one : (a b : Bool) → (a || b) ≡ true → (a ≡ true) ⊎ (b ≡ true)
  or_one true b e = inl refl
  or_one false b e = inr e

  not_true : (b : Bool) → not b ≡ true → b ≡ false
  not_true true e = absurd (not_both refl (sym e))
  not_true false e = refl

  lt_true : (a b : ℕ) → nat_lt a b ≡ true → a < b
  lt_true a b e = grind arith

  head : (x : Piece) (top : List Piece) → AfterLatest x top → (q : ℕ) → is_before (all top) (make x) q ≡ true → precedes_at plan (at_back top q) (Some x) ≡ true
  head x top latest q e =
      let l = latest_segment (all top) in
      let a = and_both (nat_lt q (length (all top))) _ e in
      let lt : q < length top = subst (λ n. q < n) (long top) (lt_true q (length (all top)) a.0) in
      ⊎_elim
      (λ same.
      let here : q ≡ l = eqb-true q l same in
      subst (λ k. precedes_at plan (at_back top k) (Some x) ≡ true) (sym here) (latest (subst (λ k. k < length top) here lt)))
      (λ of_job.
      let s = back_some top q lt in
      let m = made_at top q s.0 s.1 in
      let b = and_both _ _ of_job in
      let ne : (make s.0).job ≢ 0 = λ z. not_both (eq-eqb (made.piece_at (all top) q).job 0 (ap (λ (y : made.Piece). y.job) m ∙ z)) (not_true _ b.0) in
      let after : (make x).after (make s.0).job ≡ true = subst (λ (y : made.Piece). (make x).after y.job ≡ true) m b.1 in
      subst (λ o. precedes_at plan o (Some x) ≡ true) (sym s.1) (job_before x s.0 ne after))
      (or_one (nat_eq q l) _ a.1)

  add : (x : Piece) (top : List Piece) → ArePreceded top → AfterLatest x top → ArePreceded (x ∷ top)
  add x top old latest p q e =
      let below = precedes_below (all (x ∷ top)) q p e in
      let len : length (all (x ∷ top)) ≡ suc (length top) = ap suc (long top) in
      let q_old : at_back (x ∷ top) q ≡ at_back top q = back_old x top q (λ h. let b0 = below.0 in let b1 = below.1 in omega arith) in
      ⊎_elim
      (λ here.
      let p_new : at_back (x ∷ top) p ≡ Some x = ap (at_back (x ∷ top)) here ∙ back_new x top in
      let is : is_before (all top) (make x) q ≡ true = sym (ap (λ b. cond b (is_before (all top) (make x) q) (precedes_in (all top) q p))
      (eq-eqb p (length (all top)) (here ∙ sym (long top)))) ∙ e in
      (λ i. precedes_at plan (q_old i) (p_new i)) ∙ head x top latest q is)
      (λ ne.
      let p_old : at_back (x ∷ top) p ≡ at_back top p = back_old x top p ne in
      let is : precedes_in (all top) q p ≡ true = sym (ap (λ b. cond b (is_before (all top) (make x) q) (precedes_in (all top) q p))
      (ne_eqb p (length (all top)) (λ h. ne (h ∙ long top)))) ∙ e in
      (λ i. precedes_at plan (q_old i) (p_old i)) ∙ old p q is)
      (cases_eq p (length top))

  -- the latest segment is the one of a number
  abbrev LatestIs : List Piece → ℕ → Type 0
  LatestIs top k = at_back top (latest_segment (all top)) ≡ Some (OfScript k)

  record Follows (top : List Piece) (k : ℕ) : Type 0 where
    pub preceded : ArePreceded top
    pub latest : LatestIs top k

  latest_kept : (j i : ℕ) (top : List Piece) (k : ℕ) → LatestIs top k → LatestIs (OfJob j i ∷ top) k
  latest_kept j i top k e =
      let lt = back_below top (latest_segment (all top)) (OfScript k) e in
      let same : latest_segment (all (OfJob j i ∷ top)) ≡ latest_segment (all top) = latest_old (make (OfJob j i)) (all top) (λ z. omega arith) in
      ap (at_back (OfJob j i ∷ top)) same ∙ back_old (OfJob j i) top (latest_segment (all top)) (λ h. omega arith) ∙ e

  add_parts : (j i n : ℕ) (top : List Piece) (k : ℕ) → is_job (starts_in (segment_at plan k)) (suc j) ≡ true → Follows top k
      → Follows (turned top (parts_from j i n)) k
  add_parts j i zero top k starts f = f
  add_parts j i (suc n) top k starts f = add_parts j (suc i) n (OfJob j i ∷ top) k starts (record {
    preceded = add (OfJob j i) top f.preceded (λ lt. ap (λ o. precedes_at plan o (Some (OfJob j i))) f.latest ∙ starts);
    latest = latest_kept j i top k f.latest;
  })

  add_started : (o : Option JobId) (top : List Piece) (k : ℕ) → starts_in (segment_at plan k) ≡ o → ((id : JobId) → o ≡ Some id → 0 < id.0)
      → Follows top k → Follows (turned top (started plan.jobs.items o)) k
  add_started None top k e one f = f
  add_started (Some id) top k e one f = by (slice_get plan.jobs.items (id.0 - 1))
    where
      by : (x : Option JobPlan) → Follows (turned top (parts_of (id.0 - 1) x)) k
      by None = f
      by (Some x) =
          let pos = one id refl in
          let number : is_job (Some id) (suc (id.0 - 1)) ≡ true = eq-eqb id.0 (suc (id.0 - 1)) (omega arith) in
          add_parts (id.0 - 1) 0 (pieces_of x) top k (ap (λ o. is_job o (suc (id.0 - 1))) e ∙ number) f

  -- a segment, after the one before it or at first
  abbrev Comes : List Piece → ℕ → Type 0
  Comes top zero = top ≡ []
  Comes top (suc l) = Follows top l

  nothing_before : ArePreceded []
  nothing_before p q e = absurd (not_both e refl)

  comes_after : (k : ℕ) (top : List Piece) → Comes top k → ArePreceded top × AfterLatest (OfScript k) top
  comes_after zero top c = (
    subst ArePreceded (sym c) nothing_before,
    λ lt. let none : length top ≡ 0 = ap (λ (xs : List Piece). length xs) c in
        absurd (omega arith),
  )
  comes_after (suc l) top c = (c.preceded, λ lt. ap (λ o. precedes_at plan o (Some (OfScript (suc l)))) c.latest ∙ eq-eqb (suc l) (suc l) refl)

  add_segment : (k : ℕ) (top : List Piece) → Comes top k → Follows (OfScript k ∷ top) k
  add_segment k top c =
      let a = comes_after k top c in
      record {
        preceded = add (OfScript k) top a.0 a.1;
        latest = ap (at_back (OfScript k ∷ top)) (latest_new (make (OfScript k)) (all top) refl ∙ long top) ∙ back_new (OfScript k) top;
      }

  add_segments : StartJobs plan → (segments : List Segment) (k : ℕ) (top : List Piece) → ((i : ℕ) → segment_at plan (k + i) ≡ slice_get segments i)
      → Comes top k → (ArePreceded top) → ArePreceded (turned top (order_from plan.jobs.items k segments))
  add_segments start [] k top are c old = old
  add_segments start (s ∷ more) k top are c old =
      let here : segment_at plan k ≡ Some s = (let e : k ≡ k + 0 = omega arith in ap (segment_at plan) e) ∙ are 0 in
      let one : Follows (OfScript k ∷ top) k = add_segment k top c in
      let two : Follows (turned (OfScript k ∷ top) (started plan.jobs.items s.starts)) k =
      add_started s.starts (OfScript k ∷ top) k (ap starts_in here) (λ id e. start k s id here e) one in
      subst ArePreceded (sym (turned_append (started plan.jobs.items s.starts) (order_from plan.jobs.items (suc k) more) (OfScript k ∷ top)))
      (add_segments start more (suc k) _ (λ i. (let e : suc k + i ≡ k + suc i = omega arith in ap (segment_at plan) e) ∙ are (suc i)) two two.preceded)

  preceded : StartJobs plan → ArePreceded (order_back plan)
  unfolding script_order
  preceded start = add_segments start plan.segments.items 0 [] (λ i. let e : 0 + i ≡ i = omega arith in ap (segment_at plan) e) refl nothing_before

  count_is : length (whole_pieces plan) ≡ length (script_order plan)
  count_is = long (order_back plan) ∙ length-turned (script_order plan) [] ∙ omega arith

  get_back : (p : ℕ) → at_back (order_back plan) p ≡ piece_at plan p
  get_back p = turned_get (script_order plan) p

  made_reads : (x : Piece) (w : ℕ) → (make x).reads w ≡ reads_in (touches plan x) w
  made_reads (OfScript k) w = refl
  made_reads (OfJob j i) w = refl

  made_writes : (x : Piece) (w : ℕ) → (make x).writes w ≡ writes_in (touches plan x) w
  made_writes (OfScript k) w = refl
  made_writes (OfJob j i) w = refl

  record IsSeen (p : ℕ) : Type 0 where
    pub reads : (w : ℕ) → (made.piece_at (whole_pieces plan) p).reads w ≡ reads_in (touches_at plan (piece_at plan p)) w
    pub writes : (w : ℕ) → (made.piece_at (whole_pieces plan) p).writes w ≡ writes_in (touches_at plan (piece_at plan p)) w

  seen : (p : ℕ) → p < length (script_order plan) → IsSeen p
  seen p lt =
      let s = back_some (order_back plan) p (let e = length-turned (script_order plan) [] in omega arith) in
      let m = made_at (order_back plan) p s.0 s.1 in
      let g : piece_at plan p ≡ Some s.0 = sym (get_back p) ∙ s.1 in
      record {
        reads = λ w. ap (λ (y : made.Piece). y.reads w) m ∙ made_reads s.0 w ∙ ap (λ o. reads_in (touches_at plan o) w) (sym g);
        writes = λ w. ap (λ (y : made.Piece). y.writes w) m ∙ made_writes s.0 w ∙ ap (λ o. writes_in (touches_at plan o) w) (sym g);
      }

  conflicts_lead : StartJobs plan → IsWellOrdered (graph_from (cells_at_first plan) (whole_pieces plan)) → ConflictsLead (graph_of plan)
  unfolding graph_of
  conflicts_lead start well p q w p<q q<n c =
      let sp = seen p (omega arith) in
      let sq = seen q q<n in
      leads_along
      (λ a b e. let x = sym (get_back a) in let y = sym (get_back b) in (λ i. precedes_at plan (x i) (y i)) ∙ preceded start b a e)
      (well.conflicts_lead p q w p<q (let e = count_is in omega arith)
      (⊎_elim (λ u. inl (sp.writes w ∙ u.0, sq.reads w ∙ u.1)) (λ u. inr (sp.reads w ∙ u.0, sq.writes w ∙ u.1)) c))

pub lists_order_plans : ListsOrderPlans
lists_order_plans plan start well = conflicts_lead plan start well
