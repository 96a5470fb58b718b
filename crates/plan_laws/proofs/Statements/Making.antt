-- A new container.
use Rattle.std.proofs.Common.{◌≡◌, ◌≢◌, ℕ, zero, suc, ◌+◌, ◌<◌, ◌≤◌, ◌⊎◌, inl, inr, ⊎_elim, Bool, true, false, cond, eq-eqb, ne_eqb, ◌&&◌, ◌||◌, length, Option, refl, sym, ap, subst, ◌∙◌, arith, append-nil}
use Rattle.std.specs.Prelude.{nat_lt, nat_le}
use Rattle.std.proofs.lemmas.Bool.{cases_lt, cases_eq, or_left, or_right}
use Rattle.job_base.specs.declared.Span.{Span}
use Rattle.job_base.specs.Cells.{write_cells}
use Rattle.job_base.proofs.Windows.{write_cells-outside}
use Rattle.frame_ast.specs.declared.script.Life.{Life}
use Rattle.frame_ast.specs.Conflicts.{unused, has_pending}
use Rattle.frame_ast.specs.Contents.{Contents, words_of}
use Rattle.frame_ast.specs.Effects.{make}
use Rattle.frame_ast.specs.Ranges.{Starts, has_word, live_word_below, is_live_word, IsFirstFit}
use Rattle.frame_ast.specs.States.{ScriptState, with_at, is_live}
use Rattle.kernel_exec.specs.Binds.{end_of}
use Rattle.kernel_exec.specs.Layout.{Holds}
use Rattle.kernel_exec.proofs.Stand.{still}
use Rattle.merge_laws.specs.Graph.{Cells}
use Rattle.merge_laws.specs.Ledger.{Ledger, IsLedger}
use Rattle.merge_laws.specs.Planning.{IsSettled, GoesOn}
use Rattle.merge_laws.proofs.Proceeding.{ledgers_keep_order}
use Rattle.frame_core.specs.declared.plan.Act.TheVariants.{Fill}
use Rattle.frame_core.specs.declared.plan.Op.{Op}
use Rattle.frame_core.specs.Touches.{span_touch}
use Rattle.frame_core.specs.Operations.{first_cells, op_cells, op_answer}
use Rattle.frame_core.specs.Output.{op_line}
use Rattle.frame_core.proofs.Small.{not_both}
use Rattle.frame_core.proofs.Extents.Touching.{it_has}
use Rattle.plan_laws.specs.Binds.{bind_of, bind_of_container}
use Rattle.plan_laws.specs.Drafts.{Draft, pieces_of, cells_of}
use Rattle.plan_laws.specs.Ledgers.{Owner, Held, Own, owner, number_of, later, owner_live, owner_words, owner_users, owner_writers}
use Rattle.plan_laws.specs.Leaving.{AllHeld}
use Rattle.plan_laws.specs.Operations.{StaysOrdered, IsSettledFor}
use Rattle.plan_laws.specs.Planned.{Outline, ledger_at, jobs_before, IsPlanned}
use Rattle.plan_laws.specs.Making.{next_span, FillsAs, ContainersArePlanned}
use Rattle.plan_laws.proofs.Operations.{operations_are_planned, op_in_order, added}
use Rattle.plan_laws.proofs.Owners.{owner_held, held_once, number_owner, start_is, end_is, word_has, has_is_word, words_apart, own_above}

pub at_here : {A : Type 0} (table : ℕ → A) (n : ℕ) (x : A) → with_at table n x n ≡ x
at_here table n x = ap (λ b. cond b x (table n)) (eq-eqb n n refl)

pub at_other : {A : Type 0} (table : ℕ → A) (n : ℕ) (x : A) (k : ℕ) → k ≢ n → with_at table n x k ≡ table k
at_other table n x k ne = ap (λ b. cond b x (table k)) (ne_eqb k n ne)

pub word_is_live : (starts : Starts) (s : ScriptState) (n c w : ℕ) → c < n → is_live s c ≡ true → has_word starts s c w ≡ true
    → live_word_below starts s n w ≡ true
word_is_live starts s zero c w lt live has = absurd (omega arith)
word_is_live starts s (suc n) c w lt live has = ⊎_elim
    (λ e. or_left (is_live s n && has_word starts s n w) (live_word_below starts s n w)
    (subst (λ d. (is_live s d && has_word starts s d w) ≡ true) e (both live has)))
    (λ ne. or_right (is_live s n && has_word starts s n w) (live_word_below starts s n w) (word_is_live starts s n c w (omega arith) live has))
    (cases_eq c n)
  where
    both : {a b : Bool} → a ≡ true → b ≡ true → (a && b) ≡ true
    both p q = λ i. p i && q i

pub live_below : (s : ScriptState) (c : ℕ) → is_live s c ≡ true → c < s.made
live_below s c e = by (cases_lt c s.made)
  where
    by : (c < s.made) ⊎ (s.made ≤ c) → c < s.made
    by (inl lt) = lt
    by (inr ge) = absurd (not_both e (ap (λ b. b && (s.alive c || has_pending s.book (s.uses c))) (let f : nat_lt c s.made ≡ false = grind arith in f)))

pub alive_is_live : (s : ScriptState) (c : ℕ) → c < s.made → s.alive c ≡ true → is_live s c ≡ true
alive_is_live s c lt alive = (λ i. (let f : nat_lt c s.made ≡ true = grind arith in f) i && (alive i || has_pending s.book (s.uses c)))

module _ (x : Outline) (s : ScriptState) (line name : ℕ) (life : Life) (contents : Contents) (d : Draft) (was : IsPlanned x s d)
    (fit : IsFirstFit (is_live_word x.starts s) (words_of contents) (x.starts s.takes)) (le : x.starts s.takes + words_of contents ≤ x.plan.cells) where
  abbrev t : ScriptState
  t = make line name life contents s

  abbrev l : Ledger
  l = ledger_at x s d

  abbrev m : Ledger
  m = ledger_at x t d

  abbrev span : Span
  span = next_span x s contents

  -- older containers
  old_live : (c : ℕ) → c ≢ s.made → is_live t c ≡ is_live s c
  old_live c ne =
      let same : nat_lt c (s.made + 1) ≡ nat_lt c s.made = lt_same in
      λ i. same i && (at_other s.alive s.made true c ne i || has_pending s.book (at_other s.uses s.made unused c ne i))
    where
      lt_same : nat_lt c (s.made + 1) ≡ nat_lt c s.made
      lt_same = ⊎_elim
          (λ lt. (let a : nat_lt c (s.made + 1) ≡ true = grind arith in a) ∙ sym (let b : nat_lt c s.made ≡ true = grind arith in b))
          (λ ge. (let a : nat_lt c (s.made + 1) ≡ false = grind arith in a) ∙ sym (let b : nat_lt c s.made ≡ false = grind arith in b))
          (cases_lt c s.made)

  old_words : (c w : ℕ) → c ≢ s.made → has_word x.starts t c w ≡ has_word x.starts s c w
  old_words c w ne = λ i. nat_le (x.starts (at_other s.range s.made s.takes c ne i)) w
      && nat_lt w (x.starts (at_other s.range s.made s.takes c ne i) + words_of (at_other s.contents s.made contents c ne i))

  new_live : is_live t s.made ≡ true
  new_live = λ i. (let f : nat_lt s.made (s.made + 1) ≡ true = grind arith in f) i
      && (at_here s.alive s.made true i || has_pending s.book (with_at s.uses s.made unused s.made))

  new_words : (w : ℕ) → has_word x.starts t s.made w ≡ (nat_le span.start w && nat_lt w (span.start + span.len))
  new_words w = λ i. nat_le (x.starts (at_here s.range s.made s.takes i)) w
      && nat_lt w (x.starts (at_here s.range s.made s.takes i) + words_of (at_here s.contents s.made contents i))

  -- no live container has a word of the new range
  unheld : (c w : ℕ) → is_live s c ≡ true → has_word x.starts s c w ≡ true → span.start ≤ w → w < span.start + span.len → ⊥
  unheld c w live has lo hi = not_both (word_is_live x.starts s s.made c w (live_below s c live) live has) (fit.free w lo hi)

  in_span : (w : ℕ) → has_word x.starts t s.made w ≡ true → (span.start ≤ w) × (w < span.start + span.len)
  in_span w e = it_has (span_touch span) w (sym (new_words w) ∙ e)

  live_number : (o : Owner) → owner_live t (length d.jobs) o ≡ true → (o ≡ Held s.made) ⊎ (owner_live s (length d.jobs) o ≡ true)
  live_number (Held c) e = ⊎_elim (λ h. inl (ap Held h)) (λ ne. inr (sym (old_live c ne) ∙ e)) (cases_eq c s.made)
  live_number (Own j) e = inr e

  live_old : (o : Owner) → owner_live s (length d.jobs) o ≡ true → (owner_live t (length d.jobs) o ≡ true)
      × ((w : ℕ) → owner_words x.plan x.starts t o w ≡ owner_words x.plan x.starts s o w)
      × ((j : ℕ) → owner_users (jobs_before x) t o j ≡ owner_users (jobs_before x) s o j)
      × ((j : ℕ) → owner_writers (jobs_before x) t o j ≡ owner_writers (jobs_before x) s o j)
  live_old (Held c) e =
      let ne : c ≢ s.made = λ h. let lt = live_below s c e in omega arith in (
        old_live c ne ∙ e,
        λ w. old_words c w ne,
        λ j. ap (λ u. later (jobs_before x) u.users j) (at_other s.uses s.made unused c ne),
        λ j. ap (λ u. later (jobs_before x) u.writers j) (at_other s.uses s.made unused c ne),
      )
  live_old (Own j) e = (e, λ w. refl, λ k. refl, λ k. refl)

  goes_on : GoesOn l m
  goes_on = record {
    jobs = omega arith;
    depends = λ j k le e. e;
    completed = λ j. refl;
    containers = λ c live. inr (let o = live_old (owner c) live in record {
      live = o.0;
      words = λ w e. o.1 w ∙ e;
      users = λ j e. o.2 j ∙ e;
      writers = λ j e. o.3 j ∙ e;
    });
  }

  -- the new container has no user
  no_user : (j : ℕ) → owner_users (jobs_before x) t (Held s.made) j ≡ false
  no_user j = ap (λ u. later (jobs_before x) u.users j) (at_here s.uses s.made unused) ∙ none (nat_lt 0 j)
    where
      none : (b : Bool) → (b && false) ≡ false
      none true = refl
      none false = refl

  written : (o : Owner) (j : ℕ) → owner_writers (jobs_before x) t o j ≡ true → owner_users (jobs_before x) t o j ≡ true
  written (Held c) j e = ⊎_elim
      (λ h. absurd (not_both (ap (λ u. later (jobs_before x) u.writers j) (sym (ap (with_at s.uses s.made unused) h ∙ at_here s.uses s.made unused)) ∙ e)
      (none (nat_lt 0 j))))
      (λ ne. let same = at_other s.uses s.made unused c ne in
      ap (λ u. later (jobs_before x) u.users j) same
      ∙ sym (ap (λ o. owner_users (jobs_before x) s o j) (owner_held c))
      ∙ was.ordered.ledger.written (number_of (Held c)) j (ap (λ o. owner_writers (jobs_before x) s o j) (owner_held c)
      ∙ sym (ap (λ u. later (jobs_before x) u.writers j) same) ∙ e))
      (cases_eq c s.made)
    where
      none : (b : Bool) → (b && false) ≡ false
      none true = refl
      none false = refl
  written (Own k) j e = e

  -- an owner that was live has no word of the new range
  off_span : (o : Owner) (w : ℕ) → owner_live s (length d.jobs) o ≡ true → owner_words x.plan x.starts s o w ≡ true → has_word x.starts t s.made w ≡ true → ⊥
  off_span (Held c) w live has new = let b = in_span w new in unheld c w live has b.0 b.1
  off_span (Own j) w live has new = let a = own_above x.plan j w has in let b = (in_span w new).1 in omega arith

  apart : (o p : Owner) (w : ℕ) → owner_live t (length d.jobs) o ≡ true → owner_live t (length d.jobs) p ≡ true → owner_words x.plan x.starts t o w ≡ true
      → owner_words x.plan x.starts t p w ≡ true
      → number_of o ≡ number_of p
  apart o p w lo lp wo wp = ⊎_elim
      (λ eo. ⊎_elim (λ ep. ap number_of (eo ∙ sym ep))
      (λ op. absurd (off_span p w op (sym ((live_old p op).1 w) ∙ wp) (subst (λ q. owner_words x.plan x.starts t q w ≡ true) eo wo)))
      (live_number p lp))
      (λ oo. ⊎_elim
      (λ ep. absurd (off_span o w oo (sym ((live_old o oo).1 w) ∙ wo) (subst (λ q. owner_words x.plan x.starts t q w ≡ true) ep wp)))
      (λ op. was.ordered.ledger.apart (number_of o) (number_of p) w
      (ap (owner_live s (length d.jobs)) (owner_number o) ∙ oo) (ap (owner_live s (length d.jobs)) (owner_number p) ∙ op)
      (ap (λ q. owner_words x.plan x.starts s q w) (owner_number o) ∙ sym ((live_old o oo).1 w) ∙ wo)
      (ap (λ q. owner_words x.plan x.starts s q w) (owner_number p) ∙ sym ((live_old p op).1 w) ∙ wp))
      (live_number p lp))
      (live_number o lo)
    where
      owner_number : (o : Owner) → owner (number_of o) ≡ o
      owner_number (Held c) = owner_held c
      owner_number (Own j) = Rattle.plan_laws.proofs.Owners.owner_own j

  ledger_is : IsLedger m
  ledger_is = record {
    older = was.ordered.ledger.older;
    written = λ c j e. written (owner c) j e;
    apart = λ c e w lc le wc we. sym (number_owner c) ∙ apart (owner c) (owner e) w lc le wc we ∙ number_owner e;
  }

  settled_word : (jobs : ℕ → ℕ → Bool) → ((j : ℕ) → jobs (number_of (Held s.made)) j ≡ true → ⊥) → (w : ℕ) → (span.start ≤ w) × (w < span.start + span.len)
      → IsSettled m jobs w
  settled_word jobs none w b = record {
    container = number_of (Held s.made);
    live = ap (owner_live t (length d.jobs)) (owner_held s.made) ∙ new_live;
    word = ap (λ o. owner_words x.plan x.starts t o w) (owner_held s.made) ∙ new_words w
        ∙ Rattle.frame_core.proofs.Extents.Touching.has_it (span_touch span) w b.0 b.1;
    completed = λ j e. absurd (none j e);
  }

  no_users : (j : ℕ) → m.users (number_of (Held s.made)) j ≡ true → ⊥
  no_users j e = not_both e (ap (λ o. owner_users (jobs_before x) t o j) (owner_held s.made) ∙ no_user j)

  or_none : (a : Bool) → (a || false) ≡ true → a ≡ true
  or_none true e = refl
  or_none false e = absurd (not_both e refl)

  settled : (literal : Option ℕ) → IsSettledFor m (Fill span literal)
  settled literal = record {
    reads = λ w e. settled_word m.writers (λ j u. no_users j (ledger_is.written (number_of (Held s.made)) j u)) w (it_has (span_touch span) w (or_none _ e));
    writes = λ w e. settled_word m.users no_users w (it_has (span_touch span) w (or_none _ e));
  }

  -- the words of all containers
  abbrev new_cells : Option ℕ → Cells
  new_cells literal = write_cells (cells_of x.plan d) span.start (first_cells x.plan span literal)

  Kept : Cells → ℕ → Contents → Type 0
  Kept cells range c = Holds cells (bind_of (x.starts range) c) c

  new_held : (literal : Option ℕ) → FillsAs x.plan span literal contents → Holds (new_cells literal) (bind_of_container x.starts t s.made) (t.contents s.made)
  unfolding Kept
  new_held literal fills =
      let at_range = sym (at_here s.range s.made s.takes) in
      let at_contents = sym (at_here s.contents s.made contents) in
      subst (λ r. Kept (new_cells literal) r (t.contents s.made)) at_range
      (subst (λ c. Kept (new_cells literal) s.takes c) at_contents (fills.1 (cells_of x.plan d)))

  old_held : (literal : Option ℕ) → FillsAs x.plan span literal contents → (c : ℕ) → c ≢ s.made → c < s.made → s.alive c ≡ true
      → Holds (new_cells literal) (bind_of_container x.starts t c) (t.contents c)
  unfolding Kept
  old_held literal fills c ne below alive =
      let live = alive_is_live s c below alive in
      let same : Holds (new_cells literal) (bind_of_container x.starts s c) (s.contents c) =
      still (bind_of_container x.starts s c) (cells_of x.plan d) (new_cells literal) (s.contents c) (was.standing.contents c below alive)
      (λ w is. write_cells-outside (cells_of x.plan d) span.start (first_cells x.plan span literal) w
      (⊎_elim (λ lt. inl lt)
      (λ ge. ⊎_elim (λ lt. absurd (unheld c w live (word_has x.starts s c w is) ge lt)) (λ past. inr (let long = fills.0 in omega arith))
      (cases_lt w (span.start + span.len)))
      (cases_lt w span.start))) in
      let at_range = sym (at_other s.range s.made s.takes c ne) in
      let at_contents = sym (at_other s.contents s.made contents c ne) in
      subst (λ r. Kept (new_cells literal) r (t.contents c)) at_range (subst (λ k. Kept (new_cells literal) (s.range c) k) at_contents same)

  held : (literal : Option ℕ) → FillsAs x.plan span literal contents → AllHeld x.starts t (new_cells literal)
  held literal fills c below alive = ⊎_elim
      (λ here. subst (λ k. Holds (new_cells literal) (bind_of_container x.starts t k) (t.contents k)) (sym here) (new_held literal fills))
      (λ ne. old_held literal fills c ne (omega arith) (sym (at_other s.alive s.made true c ne) ∙ alive))
      (cases_eq c s.made)

  within : span.start + span.len ≤ x.plan.cells → (c : ℕ) → is_live t c ≡ true → end_of (bind_of_container x.starts t c) ≤ x.plan.cells
  within le c live = ⊎_elim
      (λ here.
      let e : end_of (bind_of_container x.starts t c) ≡ span.start + span.len =
      end_is (x.starts (t.range c)) (t.contents c)
      ∙ ap (λ r. x.starts r + words_of (t.contents c)) (ap t.range here ∙ at_here s.range s.made s.takes)
      ∙ ap (λ k. x.starts s.takes + words_of k) (ap t.contents here ∙ at_here s.contents s.made contents) in
      omega arith)
      (λ ne.
      let e : end_of (bind_of_container x.starts t c) ≡ end_of (bind_of_container x.starts s c) =
      (λ i. end_of (bind_of (x.starts (at_other s.range s.made s.takes c ne i)) (at_other s.contents s.made contents c ne i))) in
      let old = was.standing.within c (sym (old_live c ne) ∙ live) in
      omega arith)
      (cases_eq c s.made)

pub containers_are_planned : ContainersArePlanned
unfolding op_line op_answer op_cells
containers_are_planned x small s line name life contents literal shown d e was fit le is_literal fills below add =
    let op : Op = record { line = line; name = shown; act = Fill (next_span x s contents) literal } in
    let old = was.ordered in
    let is = ledger_is x s line name life contents d was fit le in
    let going = ledgers_keep_order (ledger_at x s d) (ledger_at x (make line name life contents s) d) (pieces_of x.plan d) old.ledger old.pieces
    (goes_on x s line name life contents d was fit le) in
    operations_are_planned x small s (make line name life contents s) d e op was add
    (record { name = below; act = (le, is_literal) }) tt
    (subst (StaysOrdered x s (make line name life contents s) d) (added d e op add) (record {
      count = old.count;
      before = old.before;
      ledger = is;
      pieces = op_in_order x.plan (ledger_at x (make line name life contents s) d) d.waits d.ops op _ is going
          (settled x s line name life contents d was fit le literal);
      within = within x s line name life contents d was fit le le;
    }))
    (held x s line name life contents d was fit le literal fills)
    (record { lines = sym (append-nil s.lines); refused = omega arith; traps = refl })
