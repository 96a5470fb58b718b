-- A script begins with nothing planned.
use Rattle.std.proofs.Common.{◌≡◌, ℕ, ◌<◌, ◌≤◌, ◌^◌, Bool, true, false, ◌&&◌, [], length, refl, arith}
use Rattle.std.specs.Prelude.{nat_lt, nat_le}
use Rattle.frame_ast.specs.Ranges.{Starts}
use Rattle.frame_ast.specs.States.{at_start}
use Rattle.merge_laws.specs.Ledger.{IsLedger}
use Rattle.merge_laws.proofs.Proceeding.{first_segments_are_in_order}
use Rattle.frame_core.specs.declared.plan.Plan.{Plan}
use Rattle.frame_core.specs.Ordered.{OpFits}
use Rattle.frame_core.proofs.Small.{not_both, none_some}
use Rattle.plan_laws.specs.Drafts.{empty_draft, segment_piece}
use Rattle.plan_laws.specs.Ledgers.{Owner, Held, Own, owner, owner_live, owner_users, owner_writers}
use Rattle.plan_laws.specs.Planned.{Outline, ledger_at, SegmentFits}
use Rattle.plan_laws.specs.AtStart.{NothingIsPlanned}
use Rattle.plan_laws.proofs.Statements.Completing.{All-nothing}
use Rattle.plan_laws.proofs.Operations.{segment_framed}
use Rattle.plan_laws.proofs.Statements.Making.{live_below}

and_second : (a b : Bool) → (a && b) ≡ true → b ≡ true
and_second true b e = e
and_second false b e = absurd (not_both e refl)

and_none : (a : Bool) → (a && false) ≡ false
and_none true = refl
and_none false = refl

module _ (plan : Plan) (starts : Starts) (small : plan.cells < 2 ^ 32) (fits : length plan.first.items ≤ plan.cells) where
  x : Outline
  x = record { plan = plan; starts = starts; begun = at_start }

  none_live : (o : Owner) → owner_live at_start 0 o ≡ true → ⊥
  none_live (Held c) e = let lt = live_below at_start c e in absurd (omega arith)
  none_live (Own j) e = both j (nat_lt 0 j) (nat_le j 0) refl refl e
    where
      both : (j : ℕ) (a b : Bool) → nat_lt 0 j ≡ a → nat_le j 0 ≡ b → (a && b) ≡ true → ⊥
      both j true true f h e = let pos : 0 < j = grind arith in let le : j ≤ 0 = grind arith in absurd (omega arith)
      both j true false f h e = not_both e refl
      both j false b f h e = not_both e refl

  written : (o : Owner) (j : ℕ) → owner_writers 0 at_start o j ≡ true → owner_users 0 at_start o j ≡ true
  written (Held c) j e = e
  written (Own k) j e = e

  is_ledger : IsLedger (ledger_at (record { plan = plan; starts = starts; begun = at_start }) at_start empty_draft)
  is_ledger = record {
    older = λ j k e. absurd (not_both (and_second (nat_lt 0 j) false (and_second (nat_lt 0 k) (nat_lt 0 j && false) e)) refl);
    written = λ c j e. written (owner c) j e;
    apart = λ c d w lc ld wc wd. absurd (none_live (owner c) lc);
  }

  pub nothing_planned : Rattle.plan_laws.specs.Planned.IsPlanned (record { plan = plan; starts = starts; begun = at_start }) at_start empty_draft
  nothing_planned = record {
    ordered = record {
      count = omega arith;
      before = λ j pos le. absurd (omega arith);
      ledger = is_ledger;
      pieces = first_segments_are_in_order (ledger_at (record { plan = plan; starts = starts; begun = at_start }) at_start empty_draft)
          (segment_piece plan [] []) is_ledger refl (λ w. refl) (λ w. refl);
      parts = λ j pos le. absurd (omega arith);
      framed = (segment_framed plan small [] [] _ (All-nothing (OpFits plan)), tt);
    };
    fitting = record {
      first = fits;
      jobs_later = plan.jobs.items;
      jobs_are = refl;
      jobs_fit = λ j job e. absurd (none_some e);
      firsts = λ j job e. absurd (none_some e);
      deps = λ j job e. absurd (none_some e);
      starts = refl;
      closed = tt;
      waits = (tt, All-nothing _);
      ops = All-nothing (OpFits plan);
    };
    standing = record {
      closed = tt;
      ops = tt;
      contents = λ c lt alive. absurd (omega arith);
      within = λ c live. let lt = live_below at_start c live in absurd (omega arith);
    };
    output = record { lines = refl; refused = omega arith; traps = refl };
  }

pub nothing_is_planned : NothingIsPlanned
nothing_is_planned plan starts small fits = nothing_planned plan starts small fits
