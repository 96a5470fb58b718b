-- A new board meets the rule, each step is a step of the core, states go up one by one, and so for whatever a board reaches.
use Rattle.std.proofs.Common.{◌≡◌, ◌≢◌, ℕ, zero, suc, ◌+◌, ◌<◌, ◌≤◌, ◌⊎◌, inl, inr, ⊎_elim, Bool, true, false, cond, not, ◌&&◌, eqb, ne_eqb, [], ◌∷◌, refl, sym, ap, subst, ◌∙◌, arith, Some}
use Rattle.std.specs.Prelude.{slice_get}
use Rattle.merge_laws.specs.Numbers.{has, tally}
use Rattle.merge_laws.specs.Graph.{PieceGraph, cells_before, IsWellOrdered}
use Rattle.merge_laws.specs.Core.{Lease}
use Rattle.merge_laws.specs.Merge.{after_latest}
use Rattle.merge_laws.specs.Jobs.{JobGraph, IsJobGraph, HasParts, IsOf}
use Rattle.merge_laws.specs.Claims.{Claims, total, owes, dues}
use Rattle.merge_laws.specs.Countdowns.{is_unended, unended_parts, AreExact}
use Rattle.merge_laws.specs.CountSteps.{ChangesWord}
use Rattle.merge_laws.specs.Rule.{Moment, core_at, IsRuled, first_claims, IsOpening}
use Rattle.merge_laws.specs.BoardSteps.{Step, stores, begins, ends_part, ends_segment, counts, releases, opens_part, opens_segment, sees, splits, joins, Reaches, here, onward}
use Rattle.merge_laws.specs.BoardLaws.{NewBoardsAreRuled, CoreStep, StepsAreCoreSteps, StatesGoOneByOne, BoardsStayRuled, StatesNeverFall, PiecesBeginOnce, CountdownsNeverRise, RightsComeOnce}
use Rattle.merge_laws.specs.BoardLaws as laws
use Rattle.merge_laws.proofs.Tests.{not_both, none_some, some_is, by_equal}
use Rattle.merge_laws.proofs.Order.{latest_none}
use Rattle.merge_laws.proofs.Sums.{tally_same, tally_none}
use Rattle.merge_laws.proofs.Opening.{segment_open_closed}
use Rattle.merge_laws.proofs.Leasing.{begin_may, begin_core, end_core}
use Rattle.merge_laws.proofs.Ruling.{steps_keep_the_rule}

-- THE OPENING

and_true : (a : Bool) → (a && true) ≡ a
and_true true = refl
and_true false = refl

-- a list of one
pub one_at_first : (v u : Claims) (k : ℕ) → slice_get (v ∷ []) k ≡ Some u → (k ≡ 0) × (v ≡ u)
one_at_first v u zero e = (refl, some_is e)
one_at_first v u (suc k) e = absurd (none_some e)

module _ (g : PieceGraph) (h : JobGraph) (m : Moment) (full : HasParts h) (O : IsOpening g h m) where
  opening_unended : (p : ℕ) → is_unended (m.state p) ≡ true
  opening_unended p = ap is_unended (O.states p)

  -- a job has a piece, so something of it is left to count
  opening_left : (i : ℕ) → i < h.jobs → m.rest i ≢ 0
  opening_left i lt z = let f = full i lt in not_both f.2 (tally_none (λ p. h.is_part p i) h.pieces (sym (O.rests i lt) ∙ z) f.0 f.1)

  opening_rest : (j : ℕ) → j < h.jobs → m.rest j ≡ unended_parts h m.state j + (0 + 0)
  opening_rest j lt =
      let L : ℕ = unended_parts h m.state j in
      let same : tally (λ p. h.is_part p j) h.pieces ≡ L = tally_same (λ p. h.is_part p j) (λ p. h.is_part p j && is_unended (m.state p)) h.pieces
      (λ p l. sym (ap (λ (b : Bool). h.is_part p j && b) (opening_unended p) ∙ and_true (h.is_part p j))) in
      let r : m.rest j ≡ L = O.rests j lt ∙ same in omega arith

  opening_wait : (j : ℕ) → j < h.jobs → m.wait j ≡ (cond (is_unended (m.state (h.segment_at (h.starter j)))) 1 0 + tally
      (λ i. h.is_dependency i j && not (eqb (m.rest i) 0)) h.jobs) + (0 + 0)
  opening_wait j lt =
      let T : ℕ = tally (λ i. h.is_dependency i j && not (eqb (m.rest i) 0)) h.jobs in
      let same : tally (λ i. h.is_dependency i j) h.jobs ≡ T = tally_same (λ i. h.is_dependency i j) (λ i. h.is_dependency i j && not (eqb (m.rest i) 0)) h.jobs
      (λ i l. sym (ap (λ (b : Bool). h.is_dependency i j && b) (ap not (ne_eqb (m.rest i) 0 (opening_left i l))) ∙ and_true (h.is_dependency i j))) in
      let O' : ℕ = cond (is_unended (m.state (h.segment_at (h.starter j)))) 1 0 in
      let one : O' ≡ 1 = ap (λ (b : Bool). cond b 1 0) (opening_unended (h.segment_at (h.starter j))) in
      let r : m.wait j ≡ 1 + T = O.waits j lt ∙ ap (λ n. 1 + n) same in omega arith

  opening_exact : AreExact h m.state m.rest m.wait (first_claims ∷ [])
  opening_exact = record {
    rest_is = opening_rest;
    wait_is = opening_wait;
    rights_are = λ k p u e a. absurd (not_both (ap (λ (x : Claims). has p x.rights) (one_at_first first_claims u k e).1 ∙ a) refl);
    rights_once = λ i k p t u e f a b. absurd (not_both (ap (λ (x : Claims). has p x.rights) (one_at_first first_claims t i e).1 ∙ a) refl);
    rights_all = λ p j pl jl part z st. let r = O.waits j jl in absurd (omega arith);
    unblocked = λ p z. absurd (z (O.states p));
    started = λ p j pl jl part z. absurd (z (O.states p));
    seen = λ k j u e a. absurd (not_both (ap (λ (x : Claims). has j x.seen) (one_at_first first_claims u k e).1 ∙ a) refl);
    led = record {
      place = 0;
      first = first_claims;
      there = refl;
      is_first = (refl, refl);
      only = λ k u e f. (one_at_first first_claims u k e).0;
      below = λ k lt b. absurd (omega arith);
      next_opened = λ lt e. absurd (not_both e refl);
      next_closed = λ lt e. O.states (h.segment_at 0);
      later = λ k lt b. O.states (h.segment_at k);
    };
    segment_duties = λ k u e a. absurd (not_both (ap (λ (x : Claims). Rattle.merge_laws.specs.Claims.has_segment_duty x.duties)
        (one_at_first first_claims u k e).1 ∙ a) refl);
  }

pub new_boards_are_ruled : NewBoardsAreRuled
new_boards_are_ruled g h m full O =
    let no_lease : (k : ℕ) (x : Lease) → m.lease k ≡ Some x → ⊥ = λ k x e. none_some (sym (O.leases k) ∙ e) in
    let none_ended : (core_at m).ended ≡ (λ p. false) = λ i p. eqb (O.states p i) 3 in
    record {
      held = record {
        begun = λ k l e. absurd (no_lease k l e);
        leased = λ p e. let z = O.states p in absurd (omega arith);
        once = λ j k l n e f q. absurd (no_lease j l e);
        ready = λ p z. absurd (z (O.states p));
        merged = λ w none. O.cells w ∙ sym (ap (λ (f : ℕ → Bool). cells_before g (after_latest g f w g.count) w) none_ended
            ∙ ap (λ k. cells_before g k w) (latest_none g w g.count));
        in_place = λ k l w e r. absurd (no_lease k l e);
      };
      exact = subst (λ c. AreExact h m.state m.rest m.wait c) (sym O.claims) (opening_exact g h m full O);
      segment_leases = λ k i l e lt q. absurd (no_lease k l e);
    }

-- EACH STEP

-- what stays of a core where states, cells and leases stay, or a closed piece is opened
same_core : (g : PieceGraph) (m n : Moment) → n.state ≡ m.state → n.lease ≡ m.lease → n.cells ≡ m.cells → CoreStep g (core_at m) (core_at n)
same_core g m n s l c = laws.stays (λ p. ap (λ (f : ℕ → ℕ). eqb (f p) 3) s) l c

opened_core : (g : PieceGraph) (m n : Moment) (p : ℕ) → m.state p ≡ 0 → ChangesWord m.state n.state p 1 → n.lease ≡ m.lease → n.cells ≡ m.cells
    → CoreStep g (core_at m) (core_at n)
opened_core g m n p z S l c = laws.stays (λ q. by_equal q p
    (λ e. ap (λ x. eqb (n.state x) 3) e ∙ (ap (λ (x : ℕ). eqb x 3) S.here ∙ (sym (ap (λ (x : ℕ). eqb x 3) z) ∙ ap (λ x. eqb (m.state x) 3) (sym e))))
    (λ ne. ap (λ (x : ℕ). eqb x 3) (S.there q ne))) l c

pub steps_are_core_steps : StepsAreCoreSteps
steps_are_core_steps g h o G T m n R (stores k X) = laws.stores k X.word X.value X.stores
steps_are_core_steps g h o G T m n R (begins k B) = laws.begins k B.piece (begin_may g h m n R.held k B) (begin_core g h m n R.held k B)
steps_are_core_steps g h o G T m n R (ends_part k E) = let W = E.ends in laws.ends k (end_core g m n o R.held k E.piece E.gives_up W.states)
steps_are_core_steps g h o G T m n R (ends_segment k E) = let W = E.ends in laws.ends k (end_core g m n o R.held k (h.segment_at E.segment) E.gives_up W.states)
steps_are_core_steps g h o G T m n R (counts k X) = same_core g m n X.core.state X.core.lease X.core.cells
steps_are_core_steps g h o G T m n R (releases k X) = same_core g m n X.core.state X.core.lease X.core.cells
steps_are_core_steps g h o G T m n R (opens_part k X) = let W = X.opens in let E = R.exact in
    opened_core g m n X.piece (E.rights_are k X.piece X.was X.claims.was W.right).0 W.states X.lease X.cells
steps_are_core_steps g h o G T m n R (opens_segment k X) = let W = X.opens in
    opened_core g m n (h.segment_at X.was.ended) (segment_open_closed h m.state m.rest m.wait n.state m.claims G R.exact k X.was X.now X.claims.was W) W.states
    X.lease X.cells
steps_are_core_steps g h o G T m n R (sees k X) = same_core g m n X.core.state X.core.lease X.core.cells
steps_are_core_steps g h o G T m n R (splits X) = same_core g m n X.core.state X.core.lease X.core.cells
steps_are_core_steps g h o G T m n R (joins k j X) = ⊎_elim (λ t. same_core g m n X.state t.1 X.cells)
    (λ t. laws.hands_over k j X.apart t (λ p. ap (λ (f : ℕ → ℕ). eqb (f p) 3) X.state) X.cells) X.leases

same_state : (m n : Moment) → n.state ≡ m.state → (p : ℕ) → (n.state p ≡ m.state p) ⊎ (n.state p ≡ suc (m.state p))
same_state m n s p = inl (ap (λ (f : ℕ → ℕ). f p) s)

-- one piece goes to the next state
next_state : (m n : Moment) (q x : ℕ) → m.state q ≡ x → ChangesWord m.state n.state q (suc x) → (p : ℕ)
    → (n.state p ≡ m.state p) ⊎ (n.state p ≡ suc (m.state p))
next_state m n q x was S p = by_equal p q
    (λ e. inr (ap n.state e ∙ (S.here ∙ ap suc (sym was ∙ ap m.state (sym e)))))
    (λ ne. inl (S.there p ne))

pub states_go_one_by_one : StatesGoOneByOne
states_go_one_by_one g h o G T m n R (stores k X) = same_state m n X.state
states_go_one_by_one g h o G T m n R (begins k B) = next_state m n B.piece 1 B.found B.states
states_go_one_by_one g h o G T m n R (ends_part k E) = let W = E.ends in next_state m n E.piece 2 W.begun W.states
states_go_one_by_one g h o G T m n R (ends_segment k E) = let W = E.ends in next_state m n (h.segment_at E.segment) 2 W.begun W.states
states_go_one_by_one g h o G T m n R (counts k X) = same_state m n X.core.state
states_go_one_by_one g h o G T m n R (releases k X) = same_state m n X.core.state
states_go_one_by_one g h o G T m n R (opens_part k X) = let W = X.opens in let E = R.exact in
    next_state m n X.piece 0 (E.rights_are k X.piece X.was X.claims.was W.right).0 W.states
states_go_one_by_one g h o G T m n R (opens_segment k X) = let W = X.opens in
    next_state m n (h.segment_at X.was.ended) 0 (segment_open_closed h m.state m.rest m.wait n.state m.claims G R.exact k X.was X.now X.claims.was W) W.states
states_go_one_by_one g h o G T m n R (sees k X) = same_state m n X.core.state
states_go_one_by_one g h o G T m n R (splits X) = same_state m n X.core.state
states_go_one_by_one g h o G T m n R (joins k j X) = same_state m n X.state

-- WHATEVER IS REACHED

module _ (g : PieceGraph) (h : JobGraph) (o : IsWellOrdered g) (G : IsJobGraph h) (T : IsOf h g) where
  pub reached_ruled : (m n : Moment) → IsRuled g h m → Reaches g h m n → IsRuled g h n
  reached_ruled m n R here = R
  reached_ruled m n R (onward {n = l} r s) = steps_keep_the_rule g h o G T l n (reached_ruled m l R r) s

  pub reached_higher : (m n : Moment) → IsRuled g h m → Reaches g h m n → (p : ℕ) → m.state p ≤ n.state p
  reached_higher m n R here p = omega arith
  reached_higher m n R (onward {n = l} r s) p =
      let below : m.state p ≤ l.state p = reached_higher m l R r p in
      ⊎_elim (λ e. omega arith) (λ e. omega arith) (states_go_one_by_one g h o G T l n (reached_ruled m l R r) s p)

pub boards_stay_ruled : BoardsStayRuled
boards_stay_ruled g h o G T full m n O r = reached_ruled g h o G T m n (new_boards_are_ruled g h m full O) r

pub states_never_fall : StatesNeverFall
states_never_fall g h o G T m n R r p = reached_higher g h o G T m n R r p

-- a piece that is begun stays so, and who begins a piece finds it open
pub pieces_begin_once : PiecesBeginOnce
pieces_begin_once g h o G T m n l q R j k A r B same =
    let after : IsRuled g h n = steps_keep_the_rule g h o G T m n R (begins j A) in
    let low : n.state A.piece ≤ l.state A.piece = reached_higher g h o G T n l after r A.piece in
    let two : n.state A.piece ≡ 2 = A.states.here in
    let one : l.state A.piece ≡ 1 = ap l.state same ∙ B.found in
    omega arith

-- COUNTDOWNS

same_counts : (m n : Moment) → n.rest ≡ m.rest → n.wait ≡ m.wait → (j : ℕ) → (n.rest j ≤ m.rest j) × (n.wait j ≤ m.wait j)
same_counts m n r w j = let a : n.rest j ≡ m.rest j = ap (λ (f : ℕ → ℕ). f j) r in let b : n.wait j ≡ m.wait j = ap (λ (f : ℕ → ℕ). f j) w in
    (omega arith, omega arith)

-- a word that falls by one
falls_by_one : (f h : ℕ → ℕ) (i x : ℕ) → f i ≡ suc x → ChangesWord f h i x → (j : ℕ) → h j ≤ f j
falls_by_one f h i x found S j = by_equal j i
    (λ q. let now : h j ≡ x = ap h q ∙ S.here in let was : f j ≡ suc x = ap f q ∙ found in omega arith)
    (λ n. let same = S.there j n in omega arith)

step_lower : (g : PieceGraph) (h : JobGraph) (m n : Moment) → Step g h m n → (j : ℕ) → (n.rest j ≤ m.rest j) × (n.wait j ≤ m.wait j)
step_lower g h m n (stores k X) = same_counts m n X.counts.rest X.counts.wait
step_lower g h m n (begins k X) = same_counts m n X.counts.rest X.counts.wait
step_lower g h m n (ends_part k X) = let U = X.gives_up in same_counts m n U.counts.rest U.counts.wait
step_lower g h m n (ends_segment k X) = let U = X.gives_up in same_counts m n U.counts.rest U.counts.wait
step_lower g h m n (counts k X) = λ j. let W = X.falls in let b : n.wait j ≡ m.wait j = ap (λ (f : ℕ → ℕ). f j) X.wait in
    (falls_by_one m.rest n.rest X.job W.remaining W.found W.rests j, omega arith)
step_lower g h m n (releases k X) = λ j. let W = X.falls in let a : n.rest j ≡ m.rest j = ap (λ (f : ℕ → ℕ). f j) X.rest in
    (omega arith, falls_by_one m.wait n.wait X.job W.remaining W.found W.waits j)
step_lower g h m n (opens_part k X) = same_counts m n X.counts.rest X.counts.wait
step_lower g h m n (opens_segment k X) = same_counts m n X.counts.rest X.counts.wait
step_lower g h m n (sees k X) = same_counts m n X.counts.rest X.counts.wait
step_lower g h m n (splits X) = same_counts m n X.counts.rest X.counts.wait
step_lower g h m n (joins k j X) = same_counts m n X.counts.rest X.counts.wait

pub countdowns_never_rise : CountdownsNeverRise
countdowns_never_rise g h m n here j = (omega arith, omega arith)
countdowns_never_rise g h m n (onward {n = l} r s) j = let a = countdowns_never_rise g h m l r j in let b = step_lower g h l n s j in
    let r0 : l.rest j ≤ m.rest j = a.0 in let r1 : n.rest j ≤ l.rest j = b.0 in let w0 : l.wait j ≤ m.wait j = a.1 in let w1 : n.wait j ≤ l.wait j = b.1 in
    (omega arith, omega arith)

-- after the last release the job's `wait` is 0 for good, and who releases a job finds more
pub rights_come_once : RightsComeOnce
rights_come_once g h m n l q j k A last r B same =
    let W = A.falls in let V = B.falls in
    let zero' : n.wait A.job ≡ 0 = W.waits.here ∙ last in
    let low : l.wait A.job ≤ n.wait A.job = (countdowns_never_rise g h n l r A.job).1 in
    let found : l.wait A.job ≡ suc V.remaining = ap l.wait same ∙ V.found in
    omega arith
