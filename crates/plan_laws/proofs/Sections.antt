-- A section begins.
use Rattle.std.proofs.Common.{◌≡◌, ℕ, ◌+◌, ◌<◌, ◌≤◌, ◌^◌, Bool, true, false, ◌&&◌, [], length, refl, sym, ap, ◌∙◌, arith, append-nil}
use Rattle.std.specs.Prelude.{nat_lt, nat_le}
use Rattle.frame_ast.specs.Laws.{IsKnown}
use Rattle.frame_ast.specs.States.{ScriptState, is_live}
use Rattle.kernel_exec.specs.Binds.{end_of}
use Rattle.kernel_exec.proofs.Stand.{still}
use Rattle.merge_laws.specs.Graph.{Cells}
use Rattle.merge_laws.specs.Ledger.{Ledger, IsLedger}
use Rattle.merge_laws.proofs.Proceeding.{first_segments_are_in_order}
use Rattle.frame_core.specs.Graphs.{cells_at_first}
use Rattle.frame_core.specs.Ordered.{OpFits}
use Rattle.frame_core.proofs.Small.{not_both, none_some}
use Rattle.plan_laws.specs.Binds.{bind_of_container}
use Rattle.plan_laws.specs.Drafts.{empty_draft, segment_piece}
use Rattle.plan_laws.specs.Ledgers.{Owner, Held, Own, owner, number_of, owner_live, owner_words, owner_users, owner_writers}
use Rattle.plan_laws.specs.Leaving.{AllHeld}
use Rattle.plan_laws.specs.Planned.{Outline, jobs_before, ledger_at, IsPlanned}
use Rattle.plan_laws.specs.Sections.{SectionsBegin}
use Rattle.plan_laws.proofs.Statements.Completing.{All-nothing}
use Rattle.plan_laws.proofs.Operations.{segment_framed}
use Rattle.plan_laws.proofs.Schedules.Enrolling.{later_in, in_later}
use Rattle.plan_laws.proofs.Statements.Making.{alive_is_live}
use Rattle.plan_laws.proofs.Owners.{number_owner}

module _ (x : Outline) (carried : Cells) (len : ℕ) (small : x.plan.cells < 2 ^ 32) (known : IsKnown x.begun)
    (held : AllHeld x.starts x.begun carried) (below : (c : ℕ) → is_live x.begun c ≡ true → end_of (bind_of_container x.starts x.begun c) ≤ len)
    (fits : len ≤ x.plan.cells) (few : length x.plan.first.items ≤ x.plan.cells)
    (first : (w : ℕ) → w < len → cells_at_first x.plan w ≡ carried w)
    (apart : (c e w : ℕ) → is_live x.begun c ≡ true → is_live x.begun e ≡ true → Rattle.frame_ast.specs.Ranges.has_word x.starts x.begun c w ≡ true
    → Rattle.frame_ast.specs.Ranges.has_word x.starts x.begun e w ≡ true → c ≡ e)
    (done : (j : ℕ) → 0 < j → j ≤ x.begun.book.count → x.begun.book.completed j ≡ true) where
  abbrev s : ScriptState
  s = x.begun

  abbrev m : Ledger
  m = ledger_at x s empty_draft

  and_both : (a b : Bool) → (a && b) ≡ true → (a ≡ true) × (b ≡ true)
  and_both true b e = (refl, e)
  and_both false b e = absurd (not_both e refl)

  no_depends : (j k : ℕ) → m.depends j k ≡ true → ⊥
  no_depends j k e =
      let u = later_in (jobs_before x) (λ k. nat_lt 0 j && s.book.deps (jobs_before x + j) k) k e in
      let b = and_both (nat_lt 0 j) (s.book.deps (jobs_before x + j) (jobs_before x + k)) u.1 in
      let le = (known.book.older (jobs_before x + j) (jobs_before x + k) b.1).0 in
      let pos : 0 < j = lt_of 0 j b.0 in
      absurd (omega arith)
    where
      lt_of : (a b : ℕ) → nat_lt a b ≡ true → a < b
      lt_of a b e = grind arith

  no_own : (j : ℕ) → owner_live s 0 (Own j) ≡ true → ⊥
  no_own j e = by j (and_both (nat_lt 0 j) (nat_le j 0) e)
    where
      by : (j : ℕ) → (nat_lt 0 j ≡ true) × (nat_le j 0 ≡ true) → ⊥
      by j h = bad (h.0) (h.1)
        where
          bad : nat_lt 0 j ≡ true → nat_le j 0 ≡ true → ⊥
          bad a b = let pos : 0 < j = grind arith in let le : j ≤ 0 = grind arith in absurd (omega arith)

  written : (o : Owner) (j : ℕ) → owner_writers (jobs_before x) s o j ≡ true → owner_users (jobs_before x) s o j ≡ true
  written (Held c) j e = let u = later_in (jobs_before x) (s.uses c).writers j e in
      in_later (jobs_before x) (s.uses c).users j u.0 ((known.uses c).writers (jobs_before x + j) u.1)
  written (Own k) j e = e

  two : (o p : Owner) (w : ℕ) → owner_live s 0 o ≡ true → owner_live s 0 p ≡ true → owner_words x.plan x.starts s o w ≡ true
      → owner_words x.plan x.starts s p w ≡ true → number_of o ≡ number_of p
  two (Held c) (Held e) w lc le wc we = ap (λ k. number_of (Held k)) (apart c e w lc le wc we)
  two (Held c) (Own j) w lc le wc we = absurd (no_own j le)
  two (Own j) p w lc le wc we = absurd (no_own j lc)

  is_m : IsLedger m
  is_m = record {
    older = λ j k e. absurd (no_depends j k e);
    written = λ c j e. written (owner c) j e;
    apart = λ c e w lc le wc we. sym (number_owner c) ∙ two (owner c) (owner e) w lc le wc we ∙ number_owner e;
  }

  begins : IsPlanned x s empty_draft
  begins = record {
    ordered = record {
      count = omega arith;
      before = done;
      ledger = is_m;
      pieces = first_segments_are_in_order m (segment_piece x.plan [] []) is_m refl (λ w. refl) (λ w. refl);
      parts = λ j pos le. absurd (omega arith);
      framed = (segment_framed x.plan small [] [] _ (All-nothing (OpFits x.plan)), tt);
    };
    fitting = record {
      first = few;
      jobs_later = x.plan.jobs.items;
      jobs_are = refl;
      jobs_fit = λ j job e. absurd (none_some e);
      firsts = λ j job e. absurd (none_some e);
      deps = λ j job e. absurd (none_some e);
      starts = refl;
      closed = tt;
      waits = (tt, All-nothing _);
      ops = All-nothing (OpFits x.plan);
    };
    standing = record {
      closed = tt;
      ops = tt;
      contents = λ c lt alive. still (bind_of_container x.starts s c) carried (cells_at_first x.plan) (s.contents c) (held c lt alive)
          (λ w is. first w (let le = below c (alive_is_live s c lt alive) in let hi = is.below in omega arith));
      within = λ c live. let le = below c live in omega arith;
    };
    output = record { lines = sym (append-nil s.lines); refused = omega arith; traps = sym (append-nil s.traps) };
  }

pub sections_begin : SectionsBegin
sections_begin x carried len small known done c = begins x carried len small known c.held c.below c.within c.first c.are c.apart done
