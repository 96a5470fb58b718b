-- `complete`.
use Rattle.std.proofs.Common.{◌≡◌, ℕ, zero, suc, ◌+◌, ◌<◌, ◌≤◌, ◌^◌, ◌⊎◌, inl, inr, ⊎_elim, Bool, true, false, ne_eqb, ◌&&◌, ◌||◌, not, List, [], ◌∷◌, ◌++◌, length, map, None, refl, sym, ap, subst, ◌∙◌, arith, append-nil}
use Rattle.std.specs.Prelude.{nat_eq, nat_lt}
use Rattle.std.specs.List.{All}
use Rattle.std.proofs.lemmas.Bool.{or_left}
use Rattle.job_base.specs.declared.JobId.{JobId}
use Rattle.frame_ast.specs.Effects.{complete}
use Rattle.frame_ast.specs.Jobs.{Jobs, greatest, any_job, ancestors_in}
use Rattle.frame_ast.specs.Conflicts.{Uses, has_pending}
use Rattle.frame_ast.specs.Laws.{IsKnown, AreUpTo}
use Rattle.frame_ast.specs.States.{ScriptState, is_live}
use Rattle.frame_ast.proofs.Ancestry.{greatest_in, greatest_below, greatest_above, greatest_none}
use Rattle.merge_laws.specs.Pieces.{Piece}
use Rattle.merge_laws.specs.Ledger.{Ledger, IsLedger, AreInOrder}
use Rattle.merge_laws.specs.Planning.{BeginsSegment, GoesOn}
use Rattle.merge_laws.proofs.Places.{at_old}
use Rattle.merge_laws.proofs.Proceeding.{ledgers_keep_order, new_segments_keep_order}
use Rattle.frame_core.specs.declared.plan.Segment.{Segment}
use Rattle.frame_core.specs.Names.{has_job, starts_from, number_in}
use Rattle.frame_core.specs.Ordered.{OpFits, OpsStand}
use Rattle.kernel_exec.specs.Layout.{Holds}
use Rattle.frame_core.specs.Graphs.{cells_at_first}
use Rattle.plan_laws.specs.Binds.{bind_of_container}
use Rattle.merge_laws.specs.Pieces.{AreFramed}
use Rattle.frame_core.proofs.Small.{not_both, either_bool}
use Rattle.plan_laws.specs.Drafts.{Draft, segment_piece, pieces_onto, closed_pieces, pieces_of, cells_of, output_closed, output_of, no_output, Output, with_ops, with_traps, started_traps, cells_past}
use Rattle.plan_laws.specs.Ledgers.{Owner, Held, Own, owner, later, owner_live, owner_words, owner_users, owner_writers}
use Rattle.plan_laws.specs.Planned.{StartedStand, renumbered, Outline, ledger_at, jobs_before, HasPieceOf, AreJobsUpTo, SegmentFits, IsPlanned}
use Rattle.plan_laws.specs.Completing.{AreNewlyCompleted, CompletesArePlanned}
use Rattle.plan_laws.proofs.Closing.{pieces_onto-one, output_onto-one, closed_stand-one, starts_from-one, segments_fit-one, jobs_started}
use Rattle.plan_laws.proofs.Operations.{segment_framed}

pub All-nothing : {A : Type 0} (P : A → Type 0) → All P []
All-nothing P k d lt = absurd (omega arith)

-- fewer pending jobs
pub any_true : (set : Jobs) (n : ℕ) → any_job set n ≡ true → 0 < greatest set n
any_true set n e = by (greatest set n) refl
  where
    by : (k : ℕ) → greatest set n ≡ k → 0 < k
    by zero h = absurd (not_both e (ap (λ m. not (nat_eq m 0)) h))
    by (suc k) h = omega arith

pub true_any : (set : Jobs) (n : ℕ) → 0 < greatest set n → any_job set n ≡ true
true_any set n lt = ap not (ne_eqb (greatest set n) 0 (λ h. omega arith))

any_more : (p q : Jobs) (n : ℕ) → ((j : ℕ) → p j ≡ true → q j ≡ true) → any_job p n ≡ true → any_job q n ≡ true
any_more p q n more e =
    let pos = any_true p n e in
    let above = greatest_above q n (greatest p n) (greatest_below p n) (more (greatest p n) (greatest_in p n pos)) in
    true_any q n (omega arith)

pub none_any : (set : Jobs) (n : ℕ) → any_job set n ≡ false → (j : ℕ) → 0 < j → j ≤ n → set j ≡ false
none_any set n e = greatest_none set n (by (greatest set n) refl)
  where
    by : (k : ℕ) → greatest set n ≡ k → k ≡ 0
    by zero h = refl
    by (suc k) h = absurd (not_both (true_any set n (omega arith)) e)

module _ (x : Outline) (small : x.plan.cells < 2 ^ 32) (s : ScriptState) (handle : Jobs) (d : Draft) (was : IsPlanned x s d) (known : IsKnown s)
    (up : AreUpTo s.book.count handle)
    (after : List JobId) (news : AreNewlyCompleted x s handle after) where
  abbrev t : ScriptState
  t = complete handle s

  -- the ledger before, the one with what is completed now and the same live containers, and the one afterwards
  abbrev l : Ledger
  l = ledger_at x s d

  abbrev m : Ledger
  m = ledger_at x t d

  abbrev middle : Ledger
  middle = record m { live = l.live }

  and_both : (a b : Bool) → (a && b) ≡ true → (a ≡ true) × (b ≡ true)
  and_both true b e = (refl, e)
  and_both false b e = absurd (not_both e refl)

  less_pending : (u : Uses) → has_pending t.book u ≡ true → has_pending s.book u ≡ true
  less_pending u e = any_more _ _ s.book.count (λ j h. pending j (u.users j) (s.book.completed j) (ancestors_in s.book handle j) h) e
    where
      pending : (j : ℕ) (a c b : Bool) → (a && not (c || b)) ≡ true → (a && not c) ≡ true
      pending j true false b h = refl
      pending j true true b h = h
      pending j false c b h = h

  live_before : (c : ℕ) → is_live t c ≡ true → is_live s c ≡ true
  live_before c e = by (nat_lt c s.made) (s.alive c) (has_pending t.book (s.uses c)) (has_pending s.book (s.uses c)) (less_pending (s.uses c)) e
    where
      by : (b a p q : Bool) → (p ≡ true → q ≡ true) → (b && (a || p)) ≡ true → (b && (a || q)) ≡ true
      by true true p q f e = refl
      by true false p q f e = f e
      by false a p q f e = e

  -- a container that is live no longer has no pending user
  gone : (c : ℕ) → is_live s c ≡ true → is_live t c ≡ false → (j : ℕ) → (s.uses c).users j ≡ true → t.book.completed j ≡ true
  gone c live dead j u =
      let none = by (nat_lt c s.made) (s.alive c) (has_pending t.book (s.uses c)) (has_pending s.book (s.uses c)) live dead in
      let range = (known.uses c).users j u in
      ends ((s.uses c).users j) (t.book.completed j) u (none_any (λ j. (s.uses c).users j && not (t.book.completed j)) s.book.count none j range.0 range.1)
    where
      by : (b a p q : Bool) → (b && (a || q)) ≡ true → (b && (a || p)) ≡ false → p ≡ false
      by true true p q e f = absurd (not_both refl f)
      by true false p q e f = f
      by false a p q e f = absurd (not_both e refl)

      ends : (a b : Bool) → a ≡ true → (a && not b) ≡ false → b ≡ true
      ends a true e f = refl
      ends true false e f = absurd (not_both refl f)
      ends false false e f = absurd (not_both e refl)

  later_completed : (j : ℕ) → later (jobs_before x) s.book.completed j ≡ true → later (jobs_before x) t.book.completed j ≡ true
  later_completed j e = by (nat_lt 0 j) (s.book.completed (jobs_before x + j)) e
    where
      by : (a b : Bool) → (a && b) ≡ true → (a && (b || ancestors_in s.book handle (jobs_before x + j))) ≡ true
      by true true e = refl
      by true false e = absurd (not_both e refl)
      by false b e = e

  positive : (j : ℕ) → nat_lt 0 (suc j) ≡ true
  positive j = grind arith

  newly : (j : ℕ) → later (jobs_before x) t.book.completed j ≡ true → (later (jobs_before x) s.book.completed j ≡ true) ⊎ (has_job after j ≡ true)
  newly zero e = inl e
  newly (suc j) e = by (s.book.completed (jobs_before x + suc j)) (ancestors_in s.book handle (jobs_before x + suc j)) refl refl
      (sym (ap (λ b. b && t.book.completed (jobs_before x + suc j)) (positive j)) ∙ e)
    where
      by : (b a : Bool) → s.book.completed (jobs_before x + suc j) ≡ b → ancestors_in s.book handle (jobs_before x + suc j) ≡ a → (b || a) ≡ true
          → (later (jobs_before x) s.book.completed (suc j) ≡ true) ⊎ (has_job after (suc j) ≡ true)
      by true a f h e = inl (ap (λ b. b && s.book.completed (jobs_before x + suc j)) (positive j) ∙ f)
      by false true f h e = inr (news (suc j) (omega arith) ∙ (λ i. h i && not (f i)))
      by false false f h e = absurd (not_both e refl)

  no_depends : (k : ℕ) → m.depends 0 k ≡ false
  no_depends k = by (nat_lt 0 k)
    where
      by : (a : Bool) → (a && (nat_lt 0 0 && s.book.deps (jobs_before x + 0) (jobs_before x + k))) ≡ false
      by true = refl
      by false = refl

  users_same : (o : Owner) (j : ℕ) → owner_users (jobs_before x) t o j ≡ owner_users (jobs_before x) s o j
  users_same (Held c) j = refl
  users_same (Own i) j = refl

  writers_same : (o : Owner) (j : ℕ) → owner_writers (jobs_before x) t o j ≡ owner_writers (jobs_before x) s o j
  writers_same (Held c) j = refl
  writers_same (Own i) j = refl

  words_same : (o : Owner) (w : ℕ) → owner_words x.plan x.starts t o w ≡ owner_words x.plan x.starts s o w
  words_same (Held c) w = refl
  words_same (Own i) w = refl

  begins : BeginsSegment l middle (segment_piece x.plan after [])
  begins = record {
    segment = refl;
    reads = λ w. refl;
    writes = λ w. refl;
    jobs = refl;
    depends = λ j k e. e;
    no_depends = no_depends;
    completed = newly;
    still_completed = later_completed;
    live = λ c. refl;
    words = λ c w. words_same (owner c) w;
    users = λ c j. users_same (owner c) j;
    writers = λ c j. writers_same (owner c) j;
  }

  is_l : IsLedger l
  is_l = was.ordered.ledger

  is_middle : IsLedger middle
  is_middle = record {
    older = is_l.older;
    written = λ c j e. users_same (owner c) j ∙ is_l.written c j (sym (writers_same (owner c) j) ∙ e);
    apart = λ c k w lc lk wc wk. is_l.apart c k w lc lk (sym (words_same (owner c) w) ∙ wc) (sym (words_same (owner k) w) ∙ wk);
  }

  live_owner : (o : Owner) → owner_live t (length d.jobs) o ≡ true → owner_live s (length d.jobs) o ≡ true
  live_owner (Held c) e = live_before c e
  live_owner (Own j) e = e

  is_m : IsLedger m
  is_m = record {
    older = is_l.older;
    written = is_middle.written;
    apart = λ c k w lc lk wc wk. is_middle.apart c k w (live_owner (owner c) lc) (live_owner (owner k) lk) wc wk;
  }

  stays_or_goes : (o : Owner) → owner_live s (length d.jobs) o ≡ true → ((j : ℕ) → owner_users (jobs_before x) t o j ≡ true
      → later (jobs_before x) t.book.completed j ≡ true) ⊎ (owner_live t (length d.jobs) o ≡ true)
  stays_or_goes (Held c) e = ⊎_elim (λ live. inr live)
      (λ dead. inl (λ j u. by j (nat_lt 0 j) u (gone c e dead (jobs_before x + j)))) (either_bool (is_live t c))
    where
      by : (j : ℕ) (a : Bool) → (a && (s.uses c).users (jobs_before x + j)) ≡ true
          → ((s.uses c).users (jobs_before x + j) ≡ true → t.book.completed (jobs_before x + j) ≡ true) → (a && t.book.completed (jobs_before x + j)) ≡ true
      by j true u f = f u
      by j false u f = absurd (not_both u refl)
  stays_or_goes (Own j) e = inr e

  goes_on : GoesOn middle m
  goes_on = record {
    jobs = omega arith;
    depends = λ j k le e. e;
    completed = λ j. refl;
    containers = λ c live. ⊎_elim (λ done. inl done) (λ still. inr (record { live = still; words = λ w e. e; users = λ j e. e; writers = λ j e. e }))
        (stays_or_goes (owner c) live);
  }

  order : AreInOrder m (segment_piece x.plan after [] ∷ pieces_of x.plan d)
  order = ledgers_keep_order middle m _ is_middle (new_segments_keep_order l middle (pieces_of x.plan d)
      (segment_piece x.plan after []) was.ordered.pieces begins) goes_on

  -- the plan afterwards
  module _ (segment : Segment) (waits_were : segment.waits.items ≡ d.waits) (ops_were : segment.ops.items ≡ d.ops) (starts : segment.starts ≡ None) where
    abbrev e : Draft
    e = record { segments = d.segments ++ segment ∷ []; jobs = d.jobs; waits = after; ops = [] }

    pieces_are : closed_pieces x.plan e ≡ pieces_of x.plan d
    pieces_are = pieces_onto-one x.plan [] d.segments segment ∙ (λ i. Rattle.plan_laws.specs.Drafts.started_parts x.plan (starts i)
        ++ segment_piece x.plan (waits_were i) (ops_were i) ∷ closed_pieces x.plan d)

    told_is : output_closed x.plan e ≡ with_traps [] (output_of x.plan d)
    told_is = output_onto-one x.plan [] no_output d.segments segment
        ∙ (λ i. with_traps (started_traps x.plan (segment_piece x.plan (waits_were i) (ops_were i) ∷ closed_pieces x.plan d) (starts i))
        (with_ops x.plan (ops_were i) (cells_past x.plan (closed_pieces x.plan d)) (output_closed x.plan d)))

    -- a piece keeps its place below a new one
    part_below : (j : ℕ) → HasPieceOf (pieces_of x.plan d) j → HasPieceOf (segment_piece x.plan after [] ∷ pieces_of x.plan d) j
    part_below j h = (
      h.0,
      (let lt = h.1 in omega arith),
      ap (λ (z : Piece). z.job)
          (at_old (segment_piece x.plan after []) (pieces_of x.plan d) h.0 (λ z. let lt = h.1 in omega arith)) ∙ h.2,
    )

    fits_closed : SegmentFits x.plan (length d.jobs) segment
    fits_closed = record {
      waits = subst (AreJobsUpTo (length d.jobs)) (sym waits_were) was.fitting.waits;
      ops = subst (All (OpFits x.plan)) (sym ops_were) was.fitting.ops;
    }

    planned : AreJobsUpTo (length d.jobs) after → IsPlanned x t e
    planned fits =
        record {
          ordered = record {
            count = was.ordered.count;
            before = λ j pos le. or_left (s.book.completed j) (ancestors_in s.book handle j) (was.ordered.before j pos le);
            ledger = is_m;
            pieces = subst (λ ps. AreInOrder m (segment_piece x.plan after [] ∷ ps)) (sym pieces_are) order;
            parts = λ j pos le. subst (λ ps. HasPieceOf (segment_piece x.plan after [] ∷ ps) j) (sym pieces_are) (part_below j (was.ordered.parts j pos le));
            framed = subst (λ ps. AreFramed (cells_at_first x.plan) (segment_piece x.plan after [] ∷ ps)) (sym pieces_are)
                (segment_framed x.plan small after [] (cells_past x.plan (pieces_of x.plan d)) (All-nothing (OpFits x.plan)), was.ordered.framed);
          };
          fitting = record {
            first = was.fitting.first;
            jobs_later = was.fitting.jobs_later;
            jobs_are = was.fitting.jobs_are;
            jobs_fit = was.fitting.jobs_fit;
            firsts = was.fitting.firsts;
            deps = was.fitting.deps;
            starts = starts_from-one d.segments segment ∙ ap (λ o. starts_from d.segments ++ number_in o) starts ∙ append-nil (starts_from d.segments)
                ∙ was.fitting.starts;
            closed = segments_fit-one x.plan 0 d.segments segment was.fitting.closed
                (subst (λ k. SegmentFits x.plan k segment) (sym (jobs_started d.segments (length d.jobs) was.fitting.starts)) fits_closed);
            waits = fits;
            ops = All-nothing (OpFits x.plan);
          };
          standing = record {
            closed = closed_stand-one x.plan [] d.segments segment was.standing.closed
                (subst (λ ops. OpsStand x.plan ops (cells_past x.plan (closed_pieces x.plan d))) (sym ops_were) was.standing.ops)
                (subst (λ o. StartedStand x.plan (segment_piece x.plan segment.waits.items segment.ops.items ∷ closed_pieces x.plan d) o) (sym starts) tt);
            ops = tt;
            contents = λ c below alive. subst (λ ps. Holds (cells_past x.plan ps) (bind_of_container x.starts s c) (s.contents c)) (sym pieces_are)
                (was.standing.contents c below alive);
            within = λ c live. was.standing.within c (live_before c live);
          };
          output = record {
            lines = was.output.lines ∙ ap (λ l. x.begun.lines ++ l) (sym (append-nil (output_of x.plan d).lines)
                ∙ ap (λ (k : Output). k.lines ++ []) (sym told_is));
            refused = let r = was.output.refused in let q = ap (λ (k : Output). k.refused) told_is in omega arith;
            traps = was.output.traps ∙ ap (λ ts. x.begun.traps ++ map (renumbered (jobs_before x)) ts)
                (sym (append-nil (output_of x.plan d).traps) ∙ ap (λ (k : Output). k.traps) (sym told_is));
          };
        }

pub completes_are_planned : CompletesArePlanned
completes_are_planned x small s handle d e segment after was known up fits news starts closes =
    let is : record { segments = d.segments ++ segment ∷ []; jobs = d.jobs; waits = after; ops = [] } ≡ e = (
    let segments = sym closes.segments in
    let jobs = append-nil d.jobs in
    let jobs_are = sym jobs ∙ sym closes.jobs in
    let waits = sym closes.waits in
    let ops = sym closes.ops in
    λ i. record { segments = segments i; jobs = jobs_are i; waits = waits i; ops = ops i }) in
    subst (IsPlanned x (complete handle s)) is (planned x small s handle d was known up after news segment closes.waits_were closes.ops_were starts fits)
