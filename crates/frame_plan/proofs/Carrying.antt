-- A section that begins after a test is laid out: the one range of its plan so far has all words that were ever taken.
use Rattle.std.proofs.Common.{◌≡◌, ℕ, suc, ◌+◌, ◌<◌, Bool, true, false, ◌&&◌, ℤ, List, [], ◌++◌, Option, Some, refl, sym, ap, subst, ◌∙◌, arith}
use Rattle.std.specs.Prelude.{◌-◌, max, nat_lt, slice_get}
use Rattle.frame_ast.specs.declared.script.Order.{Order}
use Rattle.frame_ast.specs.declared.script.Order.TheVariants.{When}
use Rattle.frame_ast.specs.declared.script.Script.{Script}
use Rattle.frame_ast.specs.declared.script.Statement.{Statement}
use Rattle.frame_ast.specs.Jobs.{Book}
use Rattle.frame_ast.specs.Orders.{Table, Setting, setting}
use Rattle.frame_ast.specs.Ranges.{Starts}
use Rattle.frame_ast.specs.States.{ScriptState}
use Rattle.merge_laws.specs.Graph.{Cells}
use Rattle.slot_store.specs.Stores.{peak_of}
use Rattle.frame_core.specs.declared.plan.Plan.{Plan}
use Rattle.frame_core.specs.Names.{has_job}
use Rattle.frame_core.proofs.Small.{some_is}
use Rattle.plan_laws.specs.Drafts.{Draft}
use Rattle.plan_laws.specs.Ledgers.{later}
use Rattle.frame_plan.specs.declared.sections.SectionBook.{SectionBook}
use Rattle.plan_state.specs.declared.state.Planner.{Planner}
use Rattle.plan_state.specs.Growth.{given_from, given_in, span_by, greatest_end, waits_in, waits_of, unless_none, deps_after, StartAs}
use Rattle.frame_plan.specs.Layouts.{spans_between, completed_between, HasRanges, HasGrown}
use Rattle.frame_plan.specs.Runs.{IsActingTest}
use Rattle.frame_plan.specs.Sections.{IsHandedOut, IsOutcome, AreLeft}
use Rattle.plan_state.specs.Steps.{state_at}
use Rattle.frame_plan.proofs.Laying.{completed_more, no_spans, none_so_far, ranges_more, span_here, spans_more}
use Rattle.plan_state.proofs.Quiet.{IsPlain, none_newly, plain_awaits, plain_schedules, plain_span, plain_takes}
use Rattle.plan_state.proofs.Reaching.{next_state}
use Rattle.frame_plan.proofs.Resuming.{IsResumedWith, outcome_is, q_is, test_acts}

plain_test : (g : Setting) (s : ScriptState) (a : Order) → IsActingTest g s a → IsPlain g a
plain_test g s (When name sign value count) h = (refl, tt)
plain_test g s a h = absurd h

module _ (script : Script) (table : Table) (book : SectionBook) (plan : Plan) (n : ℕ) (carried : Cells) (len : ℕ)
    (b : IsHandedOut book plan script table n carried len) (q : Planner) (mem : List ℤ) (left : AreLeft mem carried len)
    (r : IsResumedWith plan book.planner q mem) where
  resumed_is : q ≡ record b.old {
    world = record b.old.world { jobs_before = q.world.jobs_before };
    draft = record book.planner.draft { kernels = q.draft.kernels; codes = q.draft.codes; first = q.draft.first };
  }
  resumed_is = q_is script table book plan n carried len b q mem left r

  module _ (x : Statement) (here : slice_get script.statements.items n ≡ Some x) (held : Bool) (out : IsOutcome script table n (Some held)) (k : ℕ) where
    test_is : b.test ≡ x
    test_is = some_is (sym b.here ∙ here)

    x_acts : IsActingTest (setting script table) (state_at script table n) x.act
    x_acts = subst (λ (y : Statement). IsActingTest (setting script table) (state_at script table n) y.act) test_is b.acts

    plain : IsPlain (setting script table) x.act
    plain = plain_test (setting script table) (state_at script table n) x.act x_acts

    -- the script's jobs stay as they are
    book_is : (state_at script table (suc n)).book ≡ (state_at script table n).book
    book_is =
        ap (λ (t : ScriptState). t.book)
        (sym (next_state script table n x here) ∙ test_acts (setting script table) (state_at script table n) x held x.act refl x_acts
        (outcome_is script table n x held out here))

    no_later : (j : ℕ) → 0 < j → later (state_at script table n).book.count (state_at script table n).book.completed j ≡ false
    no_later j pos = by (nat_lt 0 j) ((state_at script table n).book.completed ((state_at script table n).book.count + j)) refl
      where
        by : (a c : Bool) → (state_at script table n).book.completed ((state_at script table n).book.count + j) ≡ c → (a && c) ≡ false
        by true true e = let few = (b.stood.knows.known.book.completed ((state_at script table n).book.count + j) e).1 in absurd (omega arith)
        by true false e = refl
        by false c e = refl

    module _ (starts : Starts) (same : StartAs starts b.found) where
      was : HasRanges script table starts b.old n
      was = b.ranges starts same

      no_span : span_by (setting script table) starts (state_at script table n) (state_at script table n).passing x.act ≡ []
      no_span = plain_span (setting script table) starts (state_at script table n) x.act (state_at script table n).passing plain.0

      none_between : spans_between script table starts n (suc n) ≡ []
      none_between =
          spans_more script table starts n n (omega arith)
          ∙ (let a = no_spans script table starts n in let c = span_here script table starts n x here ∙ no_span in λ i. a i ++ c i)

      none_completed : completed_between script table n (suc n) ≡ []
      none_completed =
          completed_more script table starts n n (omega arith)
          ∙ (let a = none_so_far script table starts n in
          let c = none_newly (state_at script table n).book.count (state_at script table n) (state_at script table (suc n))
          (ap (λ (e : Book). e.completed) book_is) in
          λ i. a i ++ unless_none (c i))

      peak_now : peak_of q.world.store ≡ peak_of b.old.world.store
      peak_now = ap (λ (k : Planner). peak_of k.world.store) resumed_is

      abbrev works : List (Option ℕ)
      works = q.world.works.items

      pub grown_again : HasGrown script table starts (record q { world = record q.world { passing = k } }) n (suc n)
      grown_again = record {
        ranges = ranges_more script table starts b.old (record q { world = record q.world { passing = k } }) n x here was
            (plain_takes (setting script table) starts (state_at script table n) x.act (state_at script table n).passing plain.0)
            (peak_now ∙ (let e : peak_of b.old.world.store ≡ max (peak_of b.old.world.store) 0 = omega arith in e)
            ∙ ap (λ l. max (peak_of b.old.world.store) (greatest_end l)) (sym no_span));
        spans = (let segments = ap (λ (p : Planner). p.draft.segments.items) resumed_is ∙ ap (λ (d : Draft). d.segments) b.emptied.draft in
            let ops = ap (λ (p : Planner). p.draft.ops.items) resumed_is ∙ ap (λ (d : Draft). d.ops) b.emptied.draft in
            λ i. given_from (segments i) ++ given_in (ops i))
            ∙ sym none_between;
        jobs = λ m y low high there.
            let at : m ≡ n = omega arith in
            let y_is : x ≡ y = some_is (sym here ∙ ap (slice_get script.statements.items) (sym at) ∙ there) in
            let g = setting script table in
            let before = (state_at script table n).book.count in
            let s = state_at script table m in
            let y_plain = subst (λ (z : Statement). IsPlain g z.act) y_is plain in
            record {
              job = plain_schedules g works starts before s (deps_after g s y) q.draft.kernels.items
                  (slice_get q.draft.jobs.items (s.book.count - before)) y.act s.passing y_plain.1;
              after = plain_awaits g before s q.draft.segments.items y.act s.passing y_plain.1;
            };
        waited = λ j pos.
            (let segments = ap (λ (p : Planner). p.draft.segments.items) resumed_is ∙ ap (λ (d : Draft). d.segments) b.emptied.draft in
            let waits = ap (λ (p : Planner). p.draft.waits.items) resumed_is ∙ ap (λ (d : Draft). d.waits) b.emptied.draft in
            λ i. has_job (waits_in (segments i) ++ waits i) j)
            ∙ sym (no_later j pos)
            ∙ ap (λ (e : Book). later (state_at script table n).book.count e.completed j) (sym book_is);
        waits =
            (let segments = ap (λ (p : Planner). p.draft.segments.items) resumed_is ∙ ap (λ (d : Draft). d.segments) b.emptied.draft in
            let waits = ap (λ (p : Planner). p.draft.waits.items) resumed_is ∙ ap (λ (d : Draft). d.waits) b.emptied.draft in
            λ i. waits_of (segments i) ++ unless_none (waits i))
            ∙ sym none_completed;
      }

  pub growing_on : (held : Bool) (x : Statement) (at k : ℕ) → at ≡ book.at → slice_get script.statements.items at ≡ Some x
      → IsOutcome script table n (Some held)
      → (starts : Starts) → StartAs starts b.found → HasGrown script table starts (record q { world = record q.world { passing = k } }) n (at + 1)
  growing_on held x at k at_is there_is out starts same =
      let there : n ≡ at = sym (at_is ∙ b.at) in
      let here : slice_get script.statements.items n ≡ Some x = ap (slice_get script.statements.items) there ∙ there_is in
      let next : suc n ≡ at + 1 = omega arith in
      subst (HasGrown script table starts (record q { world = record q.world { passing = k } }) n) next (grown_again x here held out k starts same)
