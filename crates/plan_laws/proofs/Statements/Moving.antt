-- `setcapacity`.
use Rattle.std.proofs.Common.{◌≡◌, ◌≢◌, ℕ, suc, ◌+◌, ◌<◌, ◌≤◌, ◌^◌, ◌⊎◌, inl, inr, ⊎_elim, Bool, true, false, cond, eq-eqb, ne_eqb, ◌&&◌, ◌||◌, not, List, [], ◌∷◌, ◌++◌, length, Option, Some, None, Ok, Err, refl, sym, ap, subst, ◌∙◌, arith, append-nil}
use Rattle.std.specs.Prelude.{option_map, nat_eq, nat_lt, nat_le, if◌then◌else◌, get_or, pos, ℤ}
use Rattle.std.proofs.lemmas.Bool.{cases_lt, cases_eq, or_right}
use Rattle.job_base.specs.declared.Refusal.TheVariants.{Disposed, StaleView}
use Rattle.job_base.specs.declared.Span.{Span}
use Rattle.job_base.specs.declared.Trap.TheVariants.{Range}
use Rattle.job_base.specs.Cells.{cell_list, write_cells}
use Rattle.job_base.proofs.Windows.{write_cells-outside, write_cells-inside, length-cell_list, get_or-cell_list, cell_list-is}
use Rattle.frame_ast.specs.declared.script.Order.TheVariants.{SetCapacity}
use Rattle.frame_ast.specs.Jobs.{nobody}
use Rattle.frame_ast.specs.Contents.{Contents, Items, words_of}
use Rattle.frame_ast.specs.Effects.{effect, changed, views_broken, list_broken, regrown}
use Rattle.frame_ast.specs.Laws.{IsKnown}
use Rattle.frame_ast.specs.Orders.{Setting, capacity_in}
use Rattle.frame_ast.specs.Ranges.{has_word, is_live_word, IsFirstFit}
use Rattle.frame_ast.specs.Refusals.{Refused, refused, pending, store_full, unchanged}
use Rattle.frame_ast.specs.Lists.{first_some}
use Rattle.frame_ast.specs.Schedules.{need_of}
use Rattle.frame_ast.specs.States.{ScriptState, with_at, with_contents, is_alive, is_stale, is_live, container_at, contents_at}
use Rattle.frame_ast.specs.Checks.{refusal}
use Rattle.native_list.specs.Layout.{HoldsItems}
use Rattle.kernel_exec.specs.Binds.{end_of}
use Rattle.kernel_exec.specs.Layout.{Holds}
use Rattle.kernel_exec.proofs.Stand.{still}
use Rattle.merge_laws.specs.Graph.{Cells}
use Rattle.merge_laws.specs.Ledger.{Ledger, IsLedger, AreInOrder}
use Rattle.merge_laws.specs.Planning.{MovesContainer, with_words}
use Rattle.merge_laws.proofs.Proceeding.{moves_keep_order}
use Rattle.frame_core.specs.declared.plan.Act.TheVariants.{Move}
use Rattle.frame_core.specs.declared.plan.Op.{Op}
use Rattle.frame_core.specs.Touches as touch
use Rattle.frame_core.specs.Touches.{span_touch, reads_in, writes_in, act_touches, ops_touch}
use Rattle.frame_core.specs.Operations.{op_cells, op_answer}
use Rattle.frame_core.specs.Output.{op_line}
use Rattle.frame_core.proofs.Small.{not_both}
use Rattle.frame_core.proofs.Extents.Touching.{it_has, has_it, writes_read}
use Rattle.plan_laws.specs.Binds.{bind_of, bind_of_container}
use Rattle.plan_laws.specs.Drafts.{Draft, segment_piece, closed_pieces, cells_of}
use Rattle.plan_laws.specs.Ledgers.{Owner, Held, Own, owner, number_of, owner_live, owner_words, owner_users, owner_writers}
use Rattle.plan_laws.specs.Operations.{StaysOrdered}
use Rattle.plan_laws.specs.Planned.{Outline, ledger_at, jobs_before, IsPlanned, Adds}
use Rattle.plan_laws.specs.Moving.{MovesArePlanned}
use Rattle.plan_laws.proofs.Operations.{operations_are_planned, more_reads, more_writes, added}
use Rattle.plan_laws.proofs.Owners.{owner_held, number_owner, held_once, end_is, word_has, own_above}
use Rattle.plan_laws.proofs.Statements.Making.{at_here, at_other, word_is_live, live_below, alive_is_live}
use Rattle.plan_laws.proofs.Statements.Changing.{AreSame, same_ledger, same_order}
use Rattle.plan_laws.proofs.Statements.Printing.{IsAllowed, allowed, conflict_completed, alive_at}

-- the cells of a list that was copied to other words
copied : (cells : Cells) (from to n cap cap' : ℕ) (xs : List ℤ) → HoldsItems (record { start = from; cap = cap }) cells xs → n ≡ cap + 1 → cap ≤ cap'
    → HoldsItems (record { start = to; cap = cap' }) (write_cells cells to (cell_list cells from n)) xs
copied cells from to n cap cap' xs h len le =
    let within = h.within in
    let long = length-cell_list cells from n in
    let at : (i : ℕ) → i < n → write_cells cells to (cell_list cells from n) (to + i) ≡ cells (from + i) =
    (λ i lt. write_cells-inside cells to (cell_list cells from n) i (pos 0) (omega arith) ∙ get_or-cell_list cells from n i (pos 0) lt) in
    let z : to ≡ to + 0 = omega arith in
    let z' : from + 0 ≡ from = omega arith in
    record {
      count = ap (write_cells cells to (cell_list cells from n)) z ∙ at 0 (omega arith) ∙ ap cells z' ∙ h.count;
      within = omega arith;
      elements = cell_list-is (write_cells cells to (cell_list cells from n)) (to + 1) (length xs) xs refl (λ k lt.
          let a : to + 1 + k ≡ to + (1 + k) = omega arith in
          let b : from + (1 + k) ≡ from + 1 + k = omega arith in
          ap (write_cells cells to (cell_list cells from n)) a ∙ at (1 + k) (omega arith) ∙ ap cells b
          ∙ sym (get_or-cell_list cells (from + 1) (length xs) k (pos 0) lt) ∙ ap (λ ys. get_or ys k (pos 0)) h.elements);
    }

module _ (x : Outline) (small : x.plan.cells < 2 ^ 32) (g : Setting) (s : ScriptState) (line name cap old : ℕ) (xs : List ℤ) (d : Draft) (known : IsKnown s)
    (was : IsPlanned x s d) where
  abbrev c : ℕ
  c = container_at s name

  -- the state afterwards, but for views
  abbrev t : ScriptState
  t = record s {
    contents = with_at s.contents c (Items cap xs);
    view = with_at s.view c (s.view c + 1);
    takes = s.takes + 1;
    range = with_at s.range c s.takes;
    created = s.created + (cap + 1);
  }

  module _ (is : contents_at s name ≡ Items old xs) (grows : old ≤ cap) where
    t_is : effect g line s (SetCapacity name cap) ≡ t
    t_is =
        ap (λ k. regrown name cap (views_broken name (changed name (capacity_in k cap) s))) is
        ∙ ap (λ b. regrown name cap (views_broken name (changed name (if b then Err Range else Ok (Items cap xs)) s)))
        (let f : nat_lt cap old ≡ false = grind arith in f)
        ∙ ap (λ k. regrown name cap (list_broken k c (with_contents c (Items cap xs) s))) (at_here s.contents c (Items cap xs))

    module _ (below : c < s.made) (alive : s.alive c ≡ true) (done : (j : ℕ) → (s.uses c).users j ≡ true → s.book.completed j ≡ true)
        (fit : IsFirstFit (is_live_word x.starts s) (cap + 1) (x.starts s.takes)) (le : x.starts s.takes + (cap + 1) ≤ x.plan.cells) where
      abbrev from : Span
      from = record { start = x.starts (s.range c); len = old + 1 }

      abbrev to : Span
      to = record { start = x.starts s.takes; len = cap + 1 }

      abbrev l : Ledger
      l = ledger_at x s d

      new : ℕ → Bool
      new w = touch.has_word (span_touch to) w

      abbrev m : Ledger
      m = with_words l (number_of (Held c)) new

      live_c : is_live s c ≡ true
      live_c = alive_is_live s c below alive

      old_words : (w : ℕ) → has_word x.starts s c w ≡ touch.has_word (span_touch from) w
      old_words w = ap (λ k. nat_le (x.starts (s.range c)) w && nat_lt w (x.starts (s.range c) + words_of k)) is

      unheld : (k w : ℕ) → is_live s k ≡ true → has_word x.starts s k w ≡ true → to.start ≤ w → w < to.start + to.len → ⊥
      unheld k w live has lo hi = not_both (word_is_live x.starts s s.made k w (live_below s k live) live has) (fit.free w lo hi)

      new_range : (w : ℕ) → new w ≡ true → (to.start ≤ w) × (w < to.start + to.len)
      unfolding new
      new_range w e = it_has (span_touch to) w e

      unused : (o : Owner) (w : ℕ) → owner_live s (length d.jobs) o ≡ true → owner_words x.plan x.starts s o w ≡ true → new w ≡ true → ⊥
      unused (Held k) w live has n = let b = new_range w n in unheld k w live has b.0 b.1
      unused (Own j) w live has n = let b = (new_range w n).1 in let a = own_above x.plan j w has in omega arith

      or_cases : (a b : Bool) → (a || b) ≡ true → (a ≡ true) ⊎ (b ≡ true)
      or_cases true b e = inl refl
      or_cases false b e = inr e

      or_none : (b : Bool) → (b || false) ≡ true → b ≡ true
      or_none true e = refl
      or_none false e = e

      abbrev op : Op
      op = record { line = line; name = name; act = Move from to }

      either : (w : ℕ) → (touch.has_word (span_touch from) w || (touch.has_word (span_touch to) w || false)) ≡ true
          → (l.words (number_of (Held c)) w ≡ true) ⊎ (new w ≡ true)
      unfolding new
      either w e = ⊎_elim
          (λ u. inl (ap (λ o. owner_words x.plan x.starts s o w) (owner_held c) ∙ old_words w ∙ u))
          (λ u. inr (or_none _ u))
          (or_cases (touch.has_word (span_touch from) w) _ e)

      completed : (j : ℕ) → l.users (number_of (Held c)) j ≡ true → l.completed j ≡ true
      completed j e = by (nat_lt 0 j) (sym (ap (λ o. owner_users (jobs_before x) s o j) (owner_held c)) ∙ e)
        where
          by : (b : Bool) → (b && (s.uses c).users (jobs_before x + j)) ≡ true → (b && s.book.completed (jobs_before x + j)) ≡ true
          by true e = done (jobs_before x + j) e
          by false e = absurd (not_both e refl)

      moves : MovesContainer l (segment_piece x.plan d.waits d.ops) (segment_piece x.plan d.waits (d.ops ++ op ∷ [])) (number_of (Held c)) new
      moves = record {
        segment = refl;
        job = refl;
        after = λ j. refl;
        live = ap (owner_live s (length d.jobs)) (owner_held c) ∙ live_c;
        completed = completed;
        unused = λ k w live has n. unused (owner k) w live has n;
        reads = λ w e. ⊎_elim (λ u. inl u) (λ u. inr (either w u)) (more_reads x.plan l d.waits d.ops op (closed_pieces x.plan d) w e);
        writes = λ w e. ⊎_elim (λ u. inl u) (λ u. inr (either w u)) (more_writes x.plan l d.waits d.ops op (closed_pieces x.plan d) w e);
        reads_written = λ w e. writes_read (ops_touch (d.ops ++ op ∷ [])) w e;
      }

      moved : IsLedger m × AreInOrder m (segment_piece x.plan d.waits (d.ops ++ op ∷ []) ∷ closed_pieces x.plan d)
      moved = moves_keep_order l (segment_piece x.plan d.waits d.ops) (segment_piece x.plan d.waits (d.ops ++ op ∷ [])) (closed_pieces x.plan d)
          (number_of (Held c)) new was.ordered.ledger was.ordered.pieces moves

      -- that ledger is the one of the new state
      words_here : (w : ℕ) → has_word x.starts t c w ≡ new w
      unfolding new
      words_here w = λ i. nat_le (x.starts (at_here s.range c s.takes i)) w
          && nat_lt w (x.starts (at_here s.range c s.takes i) + words_of (at_here s.contents c (Items cap xs) i))

      words_there : (k w : ℕ) → k ≢ c → has_word x.starts t k w ≡ has_word x.starts s k w
      words_there k w ne = λ i. nat_le (x.starts (at_other s.range c s.takes k ne i)) w
          && nat_lt w (x.starts (at_other s.range c s.takes k ne i) + words_of (at_other s.contents c (Items cap xs) k ne i))

      same_words : (k w : ℕ) → (ledger_at x t d).words k w ≡ m.words k w
      same_words k w = by (owner k) refl
        where
          by : (o : Owner) → owner k ≡ o → owner_words x.plan x.starts t (owner k) w ≡ cond (nat_eq k (number_of (Held c))) (new w)
              (owner_words x.plan x.starts s (owner k) w)
          by (Held e) o = ⊎_elim
              (λ here.
              let k_is : k ≡ number_of (Held c) = sym (number_owner k) ∙ ap number_of o ∙ ap (λ n. number_of (Held n)) here in
              ap (λ q. owner_words x.plan x.starts t q w) (o ∙ ap Held here) ∙ words_here w
              ∙ sym (ap (λ b. cond b (new w) (owner_words x.plan x.starts s (owner k) w)) (eq-eqb k (number_of (Held c)) k_is)))
              (λ ne.
              let k_not : k ≢ number_of (Held c) = (λ h. ne (held_once e c (sym (ap number_of o) ∙ number_owner k ∙ h))) in
              ap (λ q. owner_words x.plan x.starts t q w) o ∙ words_there e w ne ∙ ap (λ q. owner_words x.plan x.starts s q w) (sym o)
              ∙ sym (ap (λ b. cond b (new w) (owner_words x.plan x.starts s (owner k) w)) (ne_eqb k (number_of (Held c)) k_not)))
              (cases_eq e c)
          by (Own j) o =
              let k_not : k ≢ number_of (Held c) = (λ h. let two = sym (ap number_of o) ∙ number_owner k ∙ h in odd j c two) in
              ap (λ q. owner_words x.plan x.starts t q w) o ∙ ap (λ q. owner_words x.plan x.starts s q w) (sym o)
              ∙ sym (ap (λ b. cond b (new w) (owner_words x.plan x.starts s (owner k) w)) (ne_eqb k (number_of (Held c)) k_not))
            where
              odd : (j c : ℕ) → suc (j + j) ≡ c + c → ⊥
              odd j c e = omega arith

      live_same : (o : Owner) → owner_live t (length d.jobs) o ≡ owner_live s (length d.jobs) o
      live_same (Held k) = refl
      live_same (Own j) = refl

      users_same : (o : Owner) (j : ℕ) → owner_users (jobs_before x) t o j ≡ owner_users (jobs_before x) s o j
      users_same (Held k) j = refl
      users_same (Own i) j = refl

      writers_same : (o : Owner) (j : ℕ) → owner_writers (jobs_before x) t o j ≡ owner_writers (jobs_before x) s o j
      writers_same (Held k) j = refl
      writers_same (Own i) j = refl

      same : AreSame m (ledger_at x t d)
      same = record {
        jobs = refl;
        depends = λ j k. refl;
        completed = λ j. refl;
        live = λ k. live_same (owner k);
        words = same_words;
        users = λ k j. users_same (owner k) j;
        writers = λ k j. writers_same (owner k) j;
      }

      abbrev new_cells : Cells
      new_cells = write_cells (cells_of x.plan d) to.start (cell_list (cells_of x.plan d) from.start from.len)

      Kept : ℕ → Contents → Type 0
      Kept range k = Holds new_cells (bind_of (x.starts range) k) k

      held_here : Holds new_cells (bind_of_container x.starts t c) (t.contents c)
      unfolding Kept
      held_here =
          let h : Holds (cells_of x.plan d) (bind_of (x.starts (s.range c)) (Items old xs)) (Items old xs) =
          subst (λ k. Holds (cells_of x.plan d) (bind_of (x.starts (s.range c)) k) k) is (was.standing.contents c below alive) in
          let same_xs : xs ≡ h.0 = ap Rattle.frame_ast.specs.Contents.elements h.1 in
          let items : HoldsItems (record { start = x.starts (s.range c); cap = old }) (cells_of x.plan d) xs =
          subst (λ ys. HoldsItems (record { start = x.starts (s.range c); cap = old }) (cells_of x.plan d) ys) (sym same_xs) h.2 in
          let there : Kept s.takes (Items cap xs) = (
            xs,
            refl,
            copied (cells_of x.plan d) (x.starts (s.range c)) (x.starts s.takes)
                (old + 1) old cap xs items refl grows,
          ) in
          subst (λ r. Kept r (t.contents c)) (sym (at_here s.range c s.takes)) (subst (λ k. Kept s.takes k) (sym (at_here s.contents c (Items cap xs))) there)

      held_there : (k : ℕ) → k ≢ c → k < s.made → s.alive k ≡ true → Holds new_cells (bind_of_container x.starts t k) (t.contents k)
      unfolding Kept
      held_there k ne below_k alive_k =
          let live = alive_is_live s k below_k alive_k in
          let long = length-cell_list (cells_of x.plan d) from.start from.len in
          let there : Kept (s.range k) (s.contents k) = still (bind_of_container x.starts s k) (cells_of x.plan d) new_cells (s.contents k)
          (was.standing.contents k below_k alive_k)
          (λ w is. write_cells-outside (cells_of x.plan d) to.start (cell_list (cells_of x.plan d) from.start from.len) w
          (⊎_elim (λ lt. inl lt) (λ ge. ⊎_elim (λ lt. absurd (unheld k w live (word_has x.starts s k w is) ge lt)) (λ past. inr (omega arith))
          (cases_lt w (to.start + to.len))) (cases_lt w to.start))) in
          subst (λ r. Kept r (t.contents k)) (sym (at_other s.range c s.takes k ne))
          (subst (λ z. Kept (s.range k) z) (sym (at_other s.contents c (Items cap xs) k ne)) there)

      within : (k : ℕ) → is_live t k ≡ true → end_of (bind_of_container x.starts t k) ≤ x.plan.cells
      within k live = ⊎_elim
          (λ here.
          let e : end_of (bind_of_container x.starts t k) ≡ to.start + to.len =
          end_is (x.starts (t.range k)) (t.contents k)
          ∙ ap (λ r. x.starts r + words_of (t.contents k)) (ap t.range here ∙ at_here s.range c s.takes)
          ∙ ap (λ z. x.starts s.takes + words_of z) (ap t.contents here ∙ at_here s.contents c (Items cap xs)) in
          omega arith)
          (λ ne.
          let e : end_of (bind_of_container x.starts t k) ≡ end_of (bind_of_container x.starts s k) =
          (λ i. end_of (bind_of (x.starts (at_other s.range c s.takes k ne i)) (at_other s.contents c (Items cap xs) k ne i))) in
          let o = was.standing.within k live in
          omega arith)
          (cases_eq k c)

      -- old words and new ones are apart
      old_apart : (from.start + from.len ≤ to.start) ⊎ (to.start + to.len ≤ from.start)
      old_apart = ⊎_elim
          (λ lt. ⊎_elim (λ lt2. absurd (clash (max_of from.start to.start) refl lt lt2)) (λ ge. inl ge) (cases_lt to.start (from.start + from.len)))
          (λ ge. inr ge)
          (cases_lt from.start (to.start + to.len))
        where
          max_of : ℕ → ℕ → ℕ
          max_of a b = Rattle.std.specs.Prelude.max a b

          clash : (w : ℕ) → w ≡ Rattle.std.specs.Prelude.max from.start to.start → from.start < to.start + to.len → to.start < from.start + from.len → ⊥
          clash w e lt lt2 = unheld c w live_c (old_words w ∙ has_it (span_touch from) w (omega arith) (omega arith)) (omega arith) (omega arith)

      planned : (e : Draft) → Adds d e (op ∷ []) → name < length x.plan.names → IsPlanned x t e
      unfolding op_line op_answer op_cells
      planned e add shown =
          let old_in = was.standing.within c live_c in
          let old_end : end_of (bind_of_container x.starts s c) ≡ from.start + from.len = end_is (x.starts (s.range c)) (s.contents c)
          ∙ ap (λ k. x.starts (s.range c) + words_of k) is in
          operations_are_planned x small s t d e op was add
          (record { name = shown; act = (omega arith, le, omega arith, old_apart) }) tt
          (subst (StaysOrdered x s t d) (added d e op add) (record {
            count = was.ordered.count;
            before = was.ordered.before;
            ledger = same_ledger m (ledger_at x t d) same moved.0;
            pieces = same_order m (ledger_at x t d) _ same moved.0 moved.1;
            within = within;
          }))
          (λ k below_k alive_k. ⊎_elim (λ here. subst (λ k. Holds new_cells (bind_of_container x.starts t k) (t.contents k)) (sym here) held_here)
          (λ ne. held_there k ne below_k alive_k) (cases_eq k c))
          (record { lines = sym (append-nil s.lines); refused = omega arith; traps = refl })

-- what isn't refused
record IsMoved (s : ScriptState) (name cap old : ℕ) : Type 0 where
  pub allowed : IsAllowed s name true
  pub grows : old ≤ cap

accepted : (g : Setting) (s : ScriptState) (name cap old : ℕ) (xs : List ℤ) → contents_at s name ≡ Items old xs → refusal g s (SetCapacity name cap) ≡ None
    → IsMoved s name cap old
unfolding first_some
accepted g s name cap old xs is e =
    let parts = split (is_alive s (s.values name)) (is_stale s (s.values name)) (pending s nobody (need_of s name true ∷ [])) (store_full s (cap + 1) name)
    (unchanged name (capacity_in (contents_at s name) cap)) e in
    record {
      allowed = allowed s name true parts.0;
      grows = grow (nat_lt cap old) refl (sym (ap (λ k. unchanged name (capacity_in k cap)) is) ∙ parts.1);
    }
  where
    split : (a o : Bool) (p q r : Option Refused) → first_some (option_map (refused Disposed) (cond (not a) (Some name) None)
        ∷ option_map (refused StaleView) (cond o (Some name) None) ∷ p ∷ q ∷ r ∷ []) ≡ None
        → (first_some (option_map (refused Disposed) (cond (not a) (Some name) None) ∷ option_map (refused StaleView) (cond o (Some name) None) ∷ p ∷ [])
        ≡ None) × (r ≡ None)
    split false o p q r e = cc
    split true true p q r e = cc
    split true false (Some u) q r e = cc
    split true false None (Some u) r e = cc
    split true false None None None e = (refl, refl)
    split true false None None (Some u) e = cc

    grow : (b : Bool) → nat_lt cap old ≡ b → unchanged name (if b then Err Range else Ok (Items cap xs)) ≡ None → old ≤ cap
    grow true f u = cc
    grow false f u = grind arith

pub moves_are_planned : MovesArePlanned
moves_are_planned x g s line name cap old xs d e small known was refused_none below is fit le shown add =
    let a = accepted g s name cap old xs is refused_none in
    let alive = alive_at s (s.values name) a.allowed.alive in
    subst (λ t. IsPlanned x t e) (sym (t_is x small g s line name cap old xs d known was is a.grows))
    (planned x small g s line name cap old xs d known was is a.grows below alive
    (λ j u. conflict_completed s name true known a.allowed j (or_right ((s.uses (container_at s name)).writers j) ((s.uses (container_at s name)).users j) u) u)
    fit le e add shown)
