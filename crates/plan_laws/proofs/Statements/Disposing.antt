-- Statements that add nothing to the plan: disposals, and those that change nothing of what it knows.
use Rattle.std.proofs.Common.{◌≡◌, ℕ, ◌+◌, ◌⊎◌, inl, inr, ⊎_elim, Bool, true, false, cond, eq-eqb, ne_eqb, ◌&&◌, ◌||◌, not, length, refl, sym, ap, subst, ◌∙◌, arith}
use Rattle.std.specs.Prelude.{nat_lt}
use Rattle.std.proofs.lemmas.Bool.{cases_eq}
use Rattle.frame_ast.specs.Conflicts.{has_pending}
use Rattle.frame_ast.specs.Laws.{IsKnown}
use Rattle.frame_ast.specs.States.{ScriptState, with_at, is_live, container_at}
use Rattle.merge_laws.specs.Ledger.{IsLedger}
use Rattle.merge_laws.specs.Planning.{GoesOn}
use Rattle.merge_laws.proofs.Proceeding.{ledgers_keep_order}
use Rattle.frame_core.proofs.Small.{not_both, either_bool}
use Rattle.plan_laws.specs.Drafts.{Draft, pieces_of}
use Rattle.plan_laws.specs.Ledgers.{Owner, Held, Own, owner, later, owner_live, owner_words, owner_users, owner_writers}
use Rattle.plan_laws.specs.Planned.{Outline, ledger_at, jobs_before, IsPlanned}
use Rattle.plan_laws.specs.Disposing.{with_alive, EndsArePlanned, OthersArePlanned, DisposalsArePlanned}
use Rattle.plan_laws.proofs.Statements.Completing.{none_any}

pub others_are_planned : OthersArePlanned
others_are_planned x s t d same was =
    let made = sym same.made in
    let contents = sym same.contents in
    let alive = sym same.alive in
    let uses = sym same.uses in
    let range = sym same.range in
    let book = sym same.book in
    let traps = sym same.traps in
    let refused = sym same.refused in
    let lines = sym same.lines in
    let like : ScriptState = record t {
      made = s.made;
      contents = s.contents;
      alive = s.alive;
      uses = s.uses;
      range = s.range;
      book = s.book;
      traps = s.traps;
      refused = s.refused;
      lines = s.lines;
    } in
    let is : like ≡ t = (λ i. record t {
      made = made i;
      contents = contents i;
      alive = alive i;
      uses = uses i;
      range = range i;
      book = book i;
      traps = traps i;
      refused = refused i;
      lines = lines i;
    }) in
    let o = was.ordered in
    let st = was.standing in
    subst (λ t. IsPlanned x t d) is (record {
      ordered = record { count = o.count; before = o.before; ledger = o.ledger; pieces = o.pieces; parts = o.parts; framed = o.framed };
      fitting = was.fitting;
      standing = record { closed = st.closed; ops = st.ops; contents = st.contents; within = st.within };
      output = record { lines = was.output.lines; refused = was.output.refused; traps = was.output.traps };
    })

module _ (x : Outline) (s : ScriptState) (alive : ℕ → Bool) (d : Draft) (known : IsKnown s) (alive_was : (k : ℕ) → alive k ≡ true → s.alive k ≡ true)
    (was : IsPlanned x s d) where
  abbrev t : ScriptState
  t = with_alive alive s

  live_was : (k : ℕ) → is_live t k ≡ true → is_live s k ≡ true
  live_was k e = by (nat_lt k s.made) (t.alive k) (s.alive k) (has_pending s.book (s.uses k)) (alive_was k) e
    where
      by : (b a a' p : Bool) → (a ≡ true → a' ≡ true) → (b && (a || p)) ≡ true → (b && (a' || p)) ≡ true
      by true true a' p f e = ap (λ b. b || p) (f refl)
      by true false true p f e = refl
      by true false false p f e = e
      by false a a' p f e = e

  -- what is live no longer has no pending user
  gone : (k : ℕ) → is_live s k ≡ true → is_live t k ≡ false → (j : ℕ) → (s.uses k).users j ≡ true → s.book.completed j ≡ true
  gone k live dead j u =
      let none = by (nat_lt k s.made) (s.alive k) (t.alive k) (has_pending s.book (s.uses k)) live dead in
      let range = (known.uses k).users j u in
      ends ((s.uses k).users j) (s.book.completed j) u (none_any (λ j. (s.uses k).users j && not (s.book.completed j)) s.book.count none j range.0 range.1)
    where
      by : (b a a' p : Bool) → (b && (a || p)) ≡ true → (b && (a' || p)) ≡ false → p ≡ false
      by true a true p e f = absurd (not_both refl f)
      by true a false p e f = f
      by false a a' p e f = absurd (not_both e refl)

      ends : (a b : Bool) → a ≡ true → (a && not b) ≡ false → b ≡ true
      ends a true e f = refl
      ends true false e f = absurd (not_both refl f)
      ends false false e f = absurd (not_both e refl)

  users_same : (o : Owner) (j : ℕ) → owner_users (jobs_before x) t o j ≡ owner_users (jobs_before x) s o j
  users_same (Held k) j = refl
  users_same (Own i) j = refl

  writers_same : (o : Owner) (j : ℕ) → owner_writers (jobs_before x) t o j ≡ owner_writers (jobs_before x) s o j
  writers_same (Held k) j = refl
  writers_same (Own i) j = refl

  words_same : (o : Owner) (w : ℕ) → owner_words x.plan x.starts t o w ≡ owner_words x.plan x.starts s o w
  words_same (Held k) w = refl
  words_same (Own i) w = refl

  owner_was : (o : Owner) → owner_live t (length d.jobs) o ≡ true → owner_live s (length d.jobs) o ≡ true
  owner_was (Held k) e = live_was k e
  owner_was (Own j) e = e

  stays_or_goes : (o : Owner) → owner_live s (length d.jobs) o ≡ true → ((j : ℕ) → owner_users (jobs_before x) s o j ≡ true
      → later (jobs_before x) s.book.completed j ≡ true) ⊎ (owner_live t (length d.jobs) o ≡ true)
  stays_or_goes (Held k) e = ⊎_elim (λ live. inr live) (λ dead. inl (λ j u. by j (nat_lt 0 j) u (gone k e dead (jobs_before x + j))))
      (either_bool (is_live t k))
    where
      by : (j : ℕ) (a : Bool) → (a && (s.uses k).users (jobs_before x + j)) ≡ true
          → ((s.uses k).users (jobs_before x + j) ≡ true → s.book.completed (jobs_before x + j) ≡ true) → (a && s.book.completed (jobs_before x + j)) ≡ true
      by j true u f = f u
      by j false u f = absurd (not_both u refl)
  stays_or_goes (Own j) e = inr e

  is_l : IsLedger (ledger_at x s d)
  is_l = was.ordered.ledger

  is_m : IsLedger (ledger_at x t d)
  is_m = record {
    older = is_l.older;
    written = λ k j e. users_same (owner k) j ∙ is_l.written k j (sym (writers_same (owner k) j) ∙ e);
    apart = λ k e w lk le wk we. is_l.apart k e w (owner_was (owner k) lk) (owner_was (owner e) le) (sym (words_same (owner k) w) ∙ wk)
        (sym (words_same (owner e) w) ∙ we);
  }

  goes_on : GoesOn (ledger_at x s d) (ledger_at x t d)
  goes_on = record {
    jobs = omega arith;
    depends = λ j k le e. e;
    completed = λ j. refl;
    containers = λ k live. ⊎_elim (λ done. inl done)
        (λ still. inr (record {
          live = still;
          words = λ w e. words_same (owner k) w ∙ e;
          users = λ j e. users_same (owner k) j ∙ e;
          writers = λ j e. writers_same (owner k) j ∙ e;
        })) (stays_or_goes (owner k) live);
  }

  disposed : IsPlanned x t d
  disposed =
      let o = was.ordered in
      let st = was.standing in
      record {
        ordered = record {
          count = o.count;
          before = o.before;
          ledger = is_m;
          pieces = ledgers_keep_order (ledger_at x s d) (ledger_at x t d) (pieces_of x.plan d) is_l o.pieces goes_on;
          parts = o.parts;
          framed = o.framed;
        };
        fitting = was.fitting;
        standing = record {
          closed = st.closed;
          ops = st.ops;
          contents = λ k below alive. st.contents k below (alive_was k alive);
          within = λ k live. st.within k (live_was k live);
        };
        output = record { lines = was.output.lines; refused = was.output.refused; traps = was.output.traps };
      }

pub ends_are_planned : EndsArePlanned
ends_are_planned x s alive d known falls was = disposed x s alive d known falls was

pub disposals_are_planned : DisposalsArePlanned
disposals_are_planned x s name d known was = ends_are_planned x s (with_at s.alive (container_at s name) false) d known alive_was was
  where
    alive_was : (k : ℕ) → with_at s.alive (container_at s name) false k ≡ true → s.alive k ≡ true
    alive_was k e = ⊎_elim
        (λ here. absurd (not_both e (ap (λ b. cond b false (s.alive k)) (eq-eqb k (container_at s name) here))))
        (λ ne. sym (ap (λ b. cond b false (s.alive k)) (ne_eqb k (container_at s name) ne)) ∙ e)
        (cases_eq k (container_at s name))
