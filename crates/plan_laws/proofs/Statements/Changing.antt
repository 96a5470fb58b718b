-- A statement on one container.
use Rattle.std.proofs.Common.{◌≡◌, ℕ, ◌+◌, ◌<◌, ◌^◌, inr, ⊎_elim, Bool, true, false, ◌&&◌, List, length, refl, sym, ap, subst, ◌∙◌, arith}
use Rattle.std.specs.Prelude.{nat_lt, nat_le}
use Rattle.std.proofs.lemmas.Bool.{cases_eq}
use Rattle.frame_ast.specs.Contents.{words_of}
use Rattle.frame_ast.specs.Ranges.{has_word}
use Rattle.frame_ast.specs.States.{ScriptState, is_live}
use Rattle.kernel_exec.specs.Binds.{end_of}
use Rattle.kernel_exec.specs.Layout.{Holds}
use Rattle.kernel_exec.proofs.Stand.{still}
use Rattle.merge_laws.specs.Pieces.{Piece}
use Rattle.merge_laws.specs.Ledger.{Ledger, IsLedger, AreInOrder}
use Rattle.merge_laws.proofs.Proceeding.{ledgers_keep_order}
use Rattle.frame_core.specs.declared.plan.Op.{Op}
use Rattle.frame_core.specs.Touches.{writes_in, act_touches}
use Rattle.frame_core.specs.Operations.{op_cells}
use Rattle.frame_core.specs.Ordered.{OpFits}
use Rattle.frame_core.proofs.Small.{not_both}
use Rattle.frame_core.proofs.Extents.Touching.{writes_read}
use Rattle.frame_core.proofs.Acting.{op_keeps}
use Rattle.plan_laws.specs.Binds.{bind_of, bind_of_container}
use Rattle.plan_laws.specs.Drafts.{Draft, cells_of}
use Rattle.plan_laws.specs.Ledgers.{Owner, Held, Own, owner, number_of, later, owner_live, owner_words, owner_users, owner_writers}
use Rattle.plan_laws.specs.Leaving.{AllHeld}
use Rattle.plan_laws.specs.Operations.{StaysOrdered, IsSettledFor}
use Rattle.plan_laws.specs.Planned.{Outline, ledger_at, jobs_before, IsPlanned}
use Rattle.plan_laws.specs.Changing.{ChangesOne, TouchesOne, ChangesArePlanned}
use Rattle.plan_laws.proofs.Operations.{operations_are_planned, op_in_order, added}
use Rattle.plan_laws.proofs.Owners.{owner_held, end_is, word_has, words_apart}
use Rattle.plan_laws.proofs.Statements.Making.{alive_is_live}

-- two ledgers that agree in all
pub record AreSame (l m : Ledger) : Type 0 where
  pub jobs : m.jobs ≡ l.jobs
  pub depends : (j k : ℕ) → m.depends j k ≡ l.depends j k
  pub completed : (j : ℕ) → m.completed j ≡ l.completed j
  pub live : (c : ℕ) → m.live c ≡ l.live c
  pub words : (c w : ℕ) → m.words c w ≡ l.words c w
  pub users : (c j : ℕ) → m.users c j ≡ l.users c j
  pub writers : (c j : ℕ) → m.writers c j ≡ l.writers c j

pub same_ledger : (l m : Ledger) → AreSame l m → IsLedger l → IsLedger m
same_ledger l m a is = record {
  older = λ j k e. let o = is.older j k (sym (a.depends j k) ∙ e) in (let le = o.0 in let same = a.jobs in omega arith, o.1);
  written = λ c j e. a.users c j ∙ is.written c j (sym (a.writers c j) ∙ e);
  apart = λ c d w lc ld wc wd. is.apart c d w (sym (a.live c) ∙ lc) (sym (a.live d) ∙ ld) (sym (a.words c w) ∙ wc) (sym (a.words d w) ∙ wd);
}

pub same_order : (l m : Ledger) (pieces : List Piece) → AreSame l m → IsLedger l → AreInOrder l pieces → AreInOrder m pieces
same_order l m pieces a is order = ledgers_keep_order l m pieces is order (record {
  jobs = let same = a.jobs in omega arith;
  depends = λ j k le e. sym (a.depends j k) ∙ e;
  completed = a.completed;
  containers = λ c live. inr (record {
    live = a.live c ∙ live;
    words = λ w e. a.words c w ∙ e;
    users = λ j e. a.users c j ∙ e;
    writers = λ j e. a.writers c j ∙ e;
  });
})

module _ (x : Outline) (s t : ScriptState) (c : ℕ) (d : Draft) (was : IsPlanned x s d) (one : ChangesOne s t c) where
  -- the new state, with the fields that stay as those before
  abbrev like : ScriptState
  like = record t { made = s.made; alive = s.alive; uses = s.uses; range = s.range; book = s.book }

  is_like : like ≡ t
  is_like =
      let made = sym one.made in
      let alive = sym one.alive in
      let uses = sym one.uses in
      let range = sym one.range in
      let book = sym one.book in
      λ i. record t { made = made i; alive = alive i; uses = uses i; range = range i; book = book i }

  forms : (start k : ℕ) → bind_of start (t.contents k) ≡ bind_of start (s.contents k)
  forms start k = ⊎_elim (λ e. subst (λ c. bind_of start (t.contents c) ≡ bind_of start (s.contents c)) (sym e) (one.form start))
      (λ ne. ap (bind_of start) (one.others k ne)) (cases_eq k c)

  words_same : (k : ℕ) → words_of (t.contents k) ≡ words_of (s.contents k)
  words_same k =
      let a = end_is 0 (t.contents k) in
      let b = end_is 0 (s.contents k) in
      let e = ap end_of (forms 0 k) in
      omega arith

  owner_same : (o : Owner) (w : ℕ) → owner_words x.plan x.starts like o w ≡ owner_words x.plan x.starts s o w
  owner_same (Held k) w = ap (λ n. nat_le (x.starts (s.range k)) w && nat_lt w (x.starts (s.range k) + n)) (words_same k)
  owner_same (Own j) w = refl

  live_same : (o : Owner) → owner_live like (length d.jobs) o ≡ owner_live s (length d.jobs) o
  live_same (Held k) = refl
  live_same (Own j) = refl

  users_same : (o : Owner) (j : ℕ) → owner_users (jobs_before x) like o j ≡ owner_users (jobs_before x) s o j
  users_same (Held k) j = refl
  users_same (Own i) j = refl

  writers_same : (o : Owner) (j : ℕ) → owner_writers (jobs_before x) like o j ≡ owner_writers (jobs_before x) s o j
  writers_same (Held k) j = refl
  writers_same (Own i) j = refl

  same : AreSame (ledger_at x s d) (ledger_at x like d)
  same = record {
    jobs = refl;
    depends = λ j k. refl;
    completed = λ j. refl;
    live = λ k. live_same (owner k);
    words = λ k w. owner_same (owner k) w;
    users = λ k j. users_same (owner k) j;
    writers = λ k j. writers_same (owner k) j;
  }

  module _ (op : Op) (small : x.plan.cells < 2 ^ 32) (below : c < s.made) (alive : s.alive c ≡ true) (touch : TouchesOne x s op c)
      (fits : OpFits x.plan op) where
    l : Ledger
    l = ledger_at x s d

    live_here : is_live s c ≡ true
    live_here = alive_is_live s c below alive

    completed : (u : ℕ → Bool) → ((j : ℕ) → u j ≡ true → s.book.completed j ≡ true) → (j : ℕ) → later (jobs_before x) u j ≡ true
        → later (jobs_before x) s.book.completed j ≡ true
    completed u all j e = by (nat_lt 0 j) e
      where
        by : (b : Bool) → (b && u (jobs_before x + j)) ≡ true → (b && s.book.completed (jobs_before x + j)) ≡ true
        by true e = all (jobs_before x + j) e
        by false e = absurd (not_both e refl)

    settled_for : IsSettledFor (ledger_at x s d) op.act
    settled_for = record {
      reads = λ w e. record {
        container = number_of (Held c);
        live = ap (owner_live s (length d.jobs)) (owner_held c) ∙ live_here;
        word = ap (λ o. owner_words x.plan x.starts s o w) (owner_held c) ∙ touch.reads w e;
        completed = λ j u. completed (s.uses c).writers touch.unread j (sym (ap (λ o. owner_writers (jobs_before x) s o j) (owner_held c)) ∙ u);
      };
      writes = λ w e. record {
        container = number_of (Held c);
        live = ap (owner_live s (length d.jobs)) (owner_held c) ∙ live_here;
        word = ap (λ o. owner_words x.plan x.starts s o w) (owner_held c) ∙ touch.reads w (writes_read (act_touches op.act) w e);
        completed = λ j u. completed (s.uses c).users (λ k. touch.unwritten w k e) j (sym (ap (λ o. owner_users (jobs_before x) s o j) (owner_held c)) ∙ u);
      };
    }

    -- what isn't a word of the container stays
    stays : (w : ℕ) → (has_word x.starts s c w ≡ true → ⊥) → op_cells x.plan op (cells_of x.plan d) w ≡ cells_of x.plan d w
    stays w out = op_keeps x.plan small op (cells_of x.plan d) w fits (none (writes_in (act_touches op.act) w) refl)
      where
        none : (b : Bool) → writes_in (act_touches op.act) w ≡ b → b ≡ false
        none true e = absurd (out (touch.reads w (writes_read (act_touches op.act) w e)))
        none false e = refl

    held : Holds (op_cells x.plan op (cells_of x.plan d)) (bind_of (x.starts (s.range c)) (t.contents c)) (t.contents c)
        → AllHeld x.starts like (op_cells x.plan op (cells_of x.plan d))
    held new k below_k alive_k = ⊎_elim
        (λ here. subst (λ k. Holds (op_cells x.plan op (cells_of x.plan d)) (bind_of_container x.starts like k) (t.contents k)) (sym here) new)
        (λ ne. subst (λ it. Holds (op_cells x.plan op (cells_of x.plan d)) (bind_of (x.starts (s.range k)) it) it) (sym (one.others k ne))
        (still (bind_of_container x.starts s k) (cells_of x.plan d) (op_cells x.plan op (cells_of x.plan d)) (s.contents k)
        (was.standing.contents k below_k alive_k)
        (λ w is. stays w (λ has. ne (words_apart x.plan x.starts (jobs_before x) (length d.jobs) s was.ordered.ledger k c w
        (alive_is_live s k below_k alive_k) live_here (word_has x.starts s k w is) has)))))
        (cases_eq k c)

pub changes_are_planned : ChangesArePlanned
changes_are_planned x small s t c op d e was below alive one touch fits stands new tell add =
    let old = was.ordered in
    let u = like x s t c d was one in
    let a = same x s t c d was one in
    subst (λ t. IsPlanned x t e) (is_like x s t c d was one)
    (operations_are_planned x small s u d e op was add fits stands
    (subst (StaysOrdered x s u d) (added d e op add) (record {
      count = old.count;
      before = old.before;
      ledger = same_ledger (ledger_at x s d) (ledger_at x u d) a old.ledger;
      pieces = same_order (ledger_at x s d) (ledger_at x u d) _ a old.ledger
          (op_in_order x.plan (ledger_at x s d) d.waits d.ops op _ old.ledger old.pieces (settled_for x s t c d was one op small below alive touch fits));
      within = λ k live. let e = ap end_of (forms x s t c d was one (x.starts (s.range k)) k) in let le = was.standing.within k live in omega arith;
    }))
    (held x s t c d was one op small below alive touch fits new)
    (record { lines = tell.lines; refused = tell.refused; traps = tell.traps }))
