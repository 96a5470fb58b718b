-- A statement that takes a range: the definition has it where the store found it, and the plan gives it.
use Rattle.std.proofs.Common.{◌≡◌, ℕ, suc, ◌+◌, [], ◌∷◌, ◌++◌, None, Some, sym, ap, subst, ◌∙◌, arith, append-nil}
use Rattle.std.specs.Prelude.{max, slice_get, ◌-◌}
use Rattle.std.proofs.lemmas.List.{append_assoc}
use Rattle.job_base.specs.declared.Span.{Span}
use Rattle.frame_ast.specs.declared.script.Script.{Script}
use Rattle.frame_ast.specs.declared.script.Statement.{Statement}
use Rattle.frame_ast.specs.Checks.{refusal}
use Rattle.frame_ast.specs.Orders.{Table, Setting, setting}
use Rattle.frame_ast.specs.Ranges as ranges
use Rattle.frame_ast.specs.Ranges.{Starts, IsFirstFit, IsTaken, Takes, TakesUnless, takes_words}
use Rattle.frame_ast.specs.Scripts.{act}
use Rattle.frame_ast.specs.States.{ScriptState}
use Rattle.slot_store.specs.Stores.{peak_of, is_live_word}
use Rattle.frame_core.specs.declared.plan.Op.{Op}
use Rattle.frame_core.specs.Names.{has_job}
use Rattle.plan_laws.specs.Ledgers.{later}
use Rattle.plan_state.specs.declared.state.Planner.{Planner}
use Rattle.plan_state.specs.Growth.{given_by, given_in, given_from, given_so_far, span_at, span_unless, span_by, greatest_end, waits_in, deps_after, StartAs, unless_none, waits_of, waits_by, Grows}
use Rattle.plan_state.specs.Stands.{Stands}
use Rattle.plan_state.specs.Steps.{state_at, state_after, IsBefore, HasStepped}
use Rattle.plan_statements.proofs.Ranges.Entering.{get_new, get_old, one_more}
use Rattle.plan_state.proofs.Quiet.{IsNoSchedule, given_more, plain_awaits, plain_schedules, waits_stay}
use Rattle.plan_statements.proofs.Ranges.Storing.{live_words_are_alike}

-- The plan does one operation more, and nothing else.
pub record HasOneMore (p q : Planner) (op : Op) : Type 0 where
  pub ops : q.draft.ops.items ≡ p.draft.ops.items ++ op ∷ []
  pub segments : q.draft.segments ≡ p.draft.segments
  pub waits : q.draft.waits ≡ p.draft.waits
  pub jobs : q.draft.jobs ≡ p.draft.jobs
  pub kernels : q.draft.kernels ≡ p.draft.kernels

-- The store gave so many words, which are the first fit. What is kept of the work of kernels stays.
pub record HasFound (p q : Planner) (words : ℕ) (span : Span) : Type 0 where
  pub fit : IsFirstFit (is_live_word p.world.store) words span.start
  pub len : span.len ≡ words
  pub peak : peak_of q.world.store ≡ max (peak_of p.world.store) (span.start + words)
  pub works : q.world.works ≡ p.world.works

module _ {script : Script} {table : Table} {p : Planner} {x : Statement} (b : IsBefore script table p x) (q : Planner)
    (words : ℕ) (span : Span) (op : Op) (has : HasFound p q words span) (more : HasOneMore p q op) (gives : given_by op.act ≡ span ∷ [])
    (none : refusal (setting script table) (state_at script table b.n) x.act ≡ None) (takes : takes_words (setting script table) x.act ≡ Some words)
    (job : IsNoSchedule x.act) (completed : (state_after script table b.n x).book.completed ≡ (state_at script table b.n).book.completed) where
  open b use {begun, n, found, step, stands as st}

  abbrev g : Setting
  g = setting script table

  abbrev s : ScriptState
  s = state_at script table n

  abbrev before : ℕ
  before = begun.book.count

  module _ (starts : Starts) (same : StartAs starts (found ++ span.start ∷ [])) where
    start : starts s.takes ≡ span.start
    start =
        same s.takes (let e = one_more found span.start in let k = st.knows.takes in omega arith)
        ∙ get_new found span.start s.takes (sym st.knows.takes)

    alike : is_live_word p.world.store ≡ ranges.is_live_word starts s
    alike = λ i w. live_words_are_alike p g begun n s found starts st
        (λ k lt. same k (let e = one_more found span.start in omega arith) ∙ get_old found span.start k lt) w i

    fit : IsFirstFit (ranges.is_live_word starts s) words (starts s.takes)
    fit = subst (λ live. IsFirstFit live words (starts s.takes)) alike (subst (IsFirstFit (is_live_word p.world.store) words) (sym start) has.fit)

    abbrev here : Span
    here = record { start = starts s.takes; len = words }

    span_is : span_by g starts s s.passing x.act ≡ here ∷ []
    span_is =
        ap (λ k. span_by g starts s k x.act) step.acts
        ∙ ap (span_unless g starts s x.act) none
        ∙ ap (span_at starts s) takes

    given : given_in q.draft.ops.items ≡ given_in p.draft.ops.items ++ here ∷ []
    given =
        ap given_in more.ops
        ∙ given_more p.draft.ops.items (op ∷ [])
        ∙ ap (λ l. given_in p.draft.ops.items ++ l)
        (append-nil (given_by op.act) ∙ gives ∙ (let e = sym start in let l = has.len in λ i. record { start = e i; len = l i } ∷ []))

    grows : Grows g s x starts before p q
    grows =
        let segments = more.segments in
        let waits = more.waits in
        record {
          first_fit = subst (λ k. Takes g starts s k x.act) (sym step.acts)
              (subst (TakesUnless g starts s x.act) (sym none) (subst (IsTaken starts s) (sym takes) fit));
          spans = (λ i. given_from (segments i).items ++ given i)
              ∙ sym (append_assoc (given_from p.draft.segments.items) (given_in p.draft.ops.items) (here ∷ []))
              ∙ ap (λ l. given_so_far p ++ l) (sym span_is);
          peak = has.peak
              ∙ (let e = start in
              let m : max (peak_of p.world.store) (span.start + words) ≡ max (peak_of p.world.store) (max (starts s.takes + words) 0) = omega arith in m)
              ∙ ap (λ l. max (peak_of p.world.store) (greatest_end l)) (sym span_is);
          segments_later = [];
          segments_are = (λ i. (segments i).items) ∙ sym (append-nil p.draft.segments.items);
          jobs_later = [];
          jobs_are = (let e = more.jobs in λ i. (e i).items) ∙ sym (append-nil p.draft.jobs.items);
          kernels_later = [];
          kernels_are = (let e = more.kernels in λ i. (e i).items) ∙ sym (append-nil p.draft.kernels.items);
          works = has.works;
          schedules = plain_schedules g p.world.works.items starts before s (deps_after g s x) q.draft.kernels.items
              (slice_get q.draft.jobs.items (s.book.count - before)) x.act s.passing job;
          waited = λ h j pos. (λ i. has_job (waits_in (segments i).items ++ (waits i).items) j) ∙ h j pos ∙ ap (λ jobs. later before jobs j) (sym completed);
          awaited = λ h. plain_awaits g before s q.draft.segments.items x.act s.passing job;
          waits = (λ i. waits_of (segments i).items ++ unless_none (waits i).items) ∙ waits_stay before s (act g s x) (waits_by p) completed;
        }

  pub range_steps : Stands q g begun (suc n) (state_after script table n x) (found ++ span.start ∷ []) → HasStepped b q
  range_steps stands = record { more = span.start ∷ []; stands = stands; grows = grows }
