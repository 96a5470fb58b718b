-- A script is planned, run and refused alike with two tables that answer alike for the columns that it names.
use Rattle.std.proofs.Common.{◌≡◌, refl, sym, ap, ◌∙◌, subst, ℕ, zero, suc, ◌+◌, ◌-◌, Bool, true, false, List, [], ◌∷◌, ◌++◌, length, map, take, Option, None, Some, option_map}
use Rattle.std.specs.Prelude.{if◌then◌else◌, nat_le, slice_get}
use Rattle.std.specs.Str.{bytes_eq}
use Rattle.frame_ast.specs.declared.kernel.Kernel.{Kernel}
use Rattle.frame_ast.specs.declared.script.Arg.{Arg}
use Rattle.frame_ast.specs.declared.script.Order.{Order}
use Rattle.frame_ast.specs.declared.script.Order.TheVariants.{Column, Schedule, When}
use Rattle.frame_ast.specs.declared.script.Script.{Script}
use Rattle.frame_ast.specs.declared.script.Statement.{Statement}
use Rattle.frame_ast.specs.Answers.{no_column_line, limit_line}
use Rattle.frame_ast.specs.Checks.{refusal}
use Rattle.frame_ast.specs.Jobs.{Jobs}
use Rattle.frame_ast.specs.Lists.{first_some}
use Rattle.frame_ast.specs.Orders.{Table, Setting, setting}
use Rattle.frame_ast.specs.Ranges.{Starts, takes_words, IsTaken, TakesUnless, Takes, AreFirstFits}
use Rattle.frame_ast.specs.Refusals.{Refused}
use Rattle.frame_ast.specs.Scripts.{act, final}
use Rattle.frame_ast.specs.States.{ScriptState, at_start}
use Rattle.merge_laws.specs.Graph.{Cells}
use Rattle.frame_core.specs.declared.plan.JobPlan.{JobPlan}
use Rattle.frame_core.specs.declared.plan.Plan.{Plan}
use Rattle.frame_core.specs.declared.plan.Segment.{Segment}
use Rattle.frame_core.specs.Graphs.{cells_after}
use Rattle.frame_core.specs.Output.{plan_lines, plan_refused, plan_traps}
use Rattle.plan_laws.specs.Leaving.{AllHeld}
use Rattle.plan_laws.specs.Planned.{renumbered}
use Rattle.plan_state.specs.Growth.{span_at, span_unless, span_by, greatest_end, IsJobOf, HasJobOf, SchedulesUnless, Schedules, deps_after, AwaitsUnless, Awaits, first_jobs, unless_none, newly_completed}
use Rattle.plan_state.specs.Steps.{state_at}
use Rattle.frame_plan.specs.declared.section.Section.{Section}
use Rattle.frame_plan.specs.declared.section.Test.{Test}
use Rattle.frame_plan.specs.declared.small_jobs.SmallJobs.{SmallJobs}
use Rattle.frame_plan.specs.declared.small_jobs.SmallJobs.TheVariants.{Cut}
use Rattle.frame_plan.specs.Works.{works_by}
use Rattle.frame_plan.specs.Layouts.{span_of, spans_at, spans_between, greatest_end_at, HasItsJob, completed_at, completed_between, IsLaidOut}
use Rattle.frame_plan.specs.Missing.{is_none, lacks_column}
use Rattle.frame_plan.specs.Runs.{IsActingTest}
use Rattle.frame_plan.specs.Sections.{IsTestOf, EndsBy, IsSectionOf, outcome_by, IsOutcome, IsPlanOf}
use Rattle.table_laws.specs.Laws.{AnswerAlike, AnswerAllAlike, MeansAlike, with_table}
use Rattle.table_laws.proofs.Columns.{same_refusal, same_words, same_act, alike_take, alike_at, scripts_see_their_columns}
use Rattle.command_words.specs.Words.{Text}
use Rattle.frame_top.specs.Answers.{IsDepthReport, FrameCause, Refused as IsRefusedFor, Ran, Reported, IsCut}
use Rattle.frame_top.specs.Refusals.{Answer, answer, column_name, column_refusal, depth_refusal, frame_refusal}
use Rattle.frame_top.specs.Seen.{SectionAt, IsSectionAt, Lead, AreSectionsOf, HasSeen}
use Rattle.frame_top.specs.declared.status.TheConstants.{TABLE_REFUSED, PAST_LIMIT}

-- ONE STATEMENT, in a setting with another table

module _ (g : Setting) (u : Table) where
  abbrev h : Setting
  h = with_table g u

  same_takes : (x : Order) → AnswerAlike g.table u x → takes_words g x ≡ takes_words h x
  same_takes (Column name column life) same = ap Some (same_words g u (Column name column life) same)
  same_takes x same = refl

  module _ (starts : Starts) (s : ScriptState) where
    takes_unless : (x : Order) → AnswerAlike g.table u x → (r : Option Refused) → TakesUnless g starts s x r → TakesUnless h starts s x r
    takes_unless x same None f = subst (IsTaken starts s) (same_takes x same) f
    takes_unless x same (Some r) f = f

    takes : (n : ℕ) (x : Order) → AnswerAlike g.table u x → Takes g starts s n x → Takes h starts s n x
    takes zero x same f = subst (TakesUnless h starts s x) (same_refusal g u s x same) (takes_unless x same (refusal g s x) f)
    takes (suc n) x same f = f

    same_span_unless : (x : Order) → AnswerAlike g.table u x → (r : Option Refused) → span_unless g starts s x r ≡ span_unless h starts s x r
    same_span_unless x same None = ap (span_at starts s) (same_takes x same)
    same_span_unless x same (Some r) = refl

    same_span_by : (n : ℕ) (x : Order) → AnswerAlike g.table u x → span_by g starts s n x ≡ span_by h starts s n x
    same_span_by zero x same = same_span_unless x same (refusal g s x) ∙ ap (span_unless h starts s x) (same_refusal g u s x same)
    same_span_by (suc n) x same = refl

    same_span_of : (o : Option Statement) → ((x : Statement) → o ≡ Some x → AnswerAlike g.table u x.act) → span_of g starts s o ≡ span_of h starts s o
    same_span_of None same = refl
    same_span_of (Some x) same = same_span_by s.passing x.act (same x refl)

  first_fits : (starts : Starts) (xs : List Statement) → AnswerAllAlike g.table u xs → (s : ScriptState) → AreFirstFits g starts xs s
      → AreFirstFits h starts xs s
  first_fits starts [] same s f = tt
  first_fits starts (x ∷ xs) same s f = (
    takes starts s s.passing x.act same.0 f.0,
    subst (AreFirstFits h starts xs) (same_act g u s x same.0) (first_fits starts xs same.1 (act g s x) f.1),
  )

  -- jobs

  module _ (works : List (Option ℕ)) (starts : Starts) (before : ℕ) (s : ScriptState) (deps : Jobs) (kernels : List Kernel) where
    same_job : (kernel : ℕ) (args : List Arg) (cut defer : Option (ℕ × ℕ)) (waive : List ℕ) (job : JobPlan)
        → IsJobOf g works starts before s deps kernel args cut defer waive kernels job
        → IsJobOf h works starts before s deps kernel args cut defer waive kernels job
    same_job kernel args cut defer waive job j = record {
      source = j.source;
      is_source = j.is_source;
      copy = j.copy;
      is_copy = j.is_copy;
      copied = j.copied;
      binds = j.binds;
      indexes = j.indexes;
      step = j.step;
      parallel = j.parallel;
      deps = j.deps;
    }

    has_job_of : (kernel : ℕ) (args : List Arg) (cut defer : Option (ℕ × ℕ)) (waive : List ℕ) (place : Option JobPlan)
        → HasJobOf g works starts before s deps kernel args cut defer waive kernels place
        → HasJobOf h works starts before s deps kernel args cut defer waive kernels place
    has_job_of kernel args cut defer waive None f = f
    has_job_of kernel args cut defer waive (Some job) f = same_job kernel args cut defer waive job f

    schedules_unless : (x : Order) (r : Option Refused) (place : Option JobPlan) → SchedulesUnless g works starts before s deps x r kernels place
        → SchedulesUnless h works starts before s deps x r kernels place
    schedules_unless (Schedule job) None place f =
        has_job_of job.value.kernel job.value.args.items job.value.cut job.value.defer job.value.waive.items place f
    schedules_unless (Schedule job) (Some r) place f = f
    schedules_unless x r place f = f

    schedules : (n : ℕ) (x : Order) → AnswerAlike g.table u x → (place : Option JobPlan) → Schedules g works starts before s deps n x kernels place
        → Schedules h works starts before s deps n x kernels place
    schedules zero x same place f =
        subst (λ r. SchedulesUnless h works starts before s deps x r kernels place) (same_refusal g u s x same) (schedules_unless x (refusal g s x) place f)
    schedules (suc n) x same place f = f

  awaits : (before : ℕ) (s : ScriptState) (n : ℕ) (x : Order) → AnswerAlike g.table u x → (segments : List Segment) → Awaits g before s n x segments
      → Awaits h before s n x segments
  awaits before s zero x same segments f = subst (λ r. AwaitsUnless before s x r segments) (same_refusal g u s x same) f
  awaits before s (suc n) x same segments f = f

  has_its_job : (works : List (Option ℕ)) (starts : Starts) (before : ℕ) (s : ScriptState) (x : Statement) → AnswerAlike g.table u x.act
      → (kernels : List Kernel) (jobs : List JobPlan) (segments : List Segment)
      → HasItsJob g works starts before s x kernels jobs segments → HasItsJob h works starts before s x kernels jobs segments
  has_its_job works starts before s x same kernels jobs segments j = record {
    job = subst (λ (deps : Jobs). Schedules h works starts before s deps s.passing x.act kernels (slice_get jobs (s.book.count - before)))
        (ap (λ (t : ScriptState). t.book.deps (suc s.book.count)) (same_act g u s x same))
        (schedules works starts before s (deps_after g s x) kernels s.passing x.act same (slice_get jobs (s.book.count - before)) j.job);
    after = awaits before s s.passing x.act same segments j.after;
  }

  -- tests

  acting : (s : ScriptState) (x : Order) → IsActingTest h s x → IsActingTest g s x
  acting s (When name sign value count) f = f
  acting s x f = f

  test_of : (s : ScriptState) (cells : Cells) (test : Test) (x : Order) → IsTestOf g s cells test x → IsTestOf h s cells test x
  test_of s cells test (When name sign value count) f = f
  test_of s cells test x f = f

  ends_by : (s : ScriptState) (cells : Cells) (o : Option Statement) (test : Option Test) → EndsBy g s cells o test → EndsBy h s cells o test
  ends_by s cells None None f = f
  ends_by s cells None (Some test) f = f
  ends_by s cells (Some x) None f = f
  ends_by s cells (Some x) (Some test) f = test_of s cells test x.act f

-- COLUMNS

same_lack : (t u : Table) (x : Order) → AnswerAlike t u x → lacks_column t x ≡ lacks_column u x
same_lack t u (Column name column life) same = ap is_none same
same_lack t u x same = refl

same_missing : (t u : Table) (xs : List Statement) → AnswerAllAlike t u xs → column_refusal t xs ≡ column_refusal u xs
same_missing t u [] same = refl
same_missing t u (x ∷ xs) same = λ i.
    if same_lack t u x.act same.0 i
    then Some (answer TABLE_REFUSED (no_column_line (column_name x.act)))
    else same_missing t u xs same.1 i

-- A SCRIPT with two tables

module _ (script : Script) (t u : Table) (alike : AnswerAllAlike t u script.statements.items) where
  abbrev g : Setting
  g = setting script t

  abbrev xs : List Statement
  xs = script.statements.items

  means : MeansAlike script t u
  means = scripts_see_their_columns script t u alike

  states : (n : ℕ) → state_at script t n ≡ state_at script u n
  states n = means.states n

  counts : (n : ℕ) → (state_at script t n).book.count ≡ (state_at script u n).book.count
  counts n = ap (λ (s : ScriptState). s.book.count) (states n)

  at : (n : ℕ) (x : Statement) → slice_get script.statements.items n ≡ Some x → AnswerAlike t u x.act
  at n x e = alike_at t u script.statements.items n x alike e

  -- ranges

  module _ (starts : Starts) where
    same_spans_at : (n : ℕ) → spans_at script t starts n ≡ spans_at script u starts n
    same_spans_at n =
        same_span_of g u starts (state_at script t n) (slice_get xs n) (at n)
        ∙ ap (λ s. span_of (setting script u) starts s (slice_get xs n)) (states n)

    same_spans : (from n : ℕ) → spans_between script t starts from n ≡ spans_between script u starts from n
    same_spans from zero = refl
    same_spans from (suc n) = λ i. if nat_le from n then same_spans from n i ++ same_spans_at n i else []

    same_end : (n : ℕ) → greatest_end_at script t starts n ≡ greatest_end_at script u starts n
    same_end n = ap greatest_end (same_spans 0 n)

  -- waits

  same_completed : (from n : ℕ) → completed_between script t from n ≡ completed_between script u from n
  same_completed from zero = refl
  same_completed from (suc n) = λ i.
      if nat_le from n
      then same_completed from n i ++ unless_none (newly_completed (counts from i) (states n i) (states (suc n) i))
      else []

  -- plans

  same_layout : (small : SmallJobs) (from to : ℕ) (plan : Plan) → IsLaidOut script t small from to plan → IsLaidOut script u small from to plan
  same_layout small from to plan l = record {
    starts = l.starts;
    ranges = first_fits g u l.starts (take to xs) (alike_take t u xs to alike) at_start l.ranges;
    spans = l.spans ∙ same_spans l.starts from to;
    cells = l.cells ∙ same_end l.starts to;
    count = ap (λ n. length plan.jobs.items + n) (sym (counts from)) ∙ l.count ∙ counts to;
    jobs = λ n x low high here.
        subst (λ before. HasItsJob (setting script u) (works_by small script.kernels.items) l.starts before (state_at script u n) x plan.kernels.items
        plan.jobs.items plan.segments.items)
        (counts from)
        (subst (λ s. HasItsJob (setting script u) (works_by small script.kernels.items) l.starts (state_at script t from).book.count s x plan.kernels.items
        plan.jobs.items plan.segments.items)
        (states n)
        (has_its_job g u (works_by small script.kernels.items) l.starts (state_at script t from).book.count (state_at script t n) x (at n x here)
        plan.kernels.items plan.jobs.items
        plan.segments.items (l.jobs n x low high here)));
    waits = l.waits ∙ ap (λ c. c ++ unless_none (first_jobs (length plan.jobs.items))) (same_completed from to);
    contents = subst (λ s. AllHeld l.starts s (cells_after plan)) (states to) l.contents;
  }

  same_plan : (plan : Plan) → IsPlanOf script t plan → IsPlanOf script u plan
  same_plan plan p = record {
    well_ordered = p.well_ordered;
    lines = sym (ap (λ (s : ScriptState). s.lines) means.last) ∙ p.lines;
    refused = sym (ap (λ (s : ScriptState). s.refused) means.last) ∙ p.refused;
    traps = sym (ap (λ (s : ScriptState). s.traps) means.last) ∙ p.traps;
    laid_out = same_layout Cut 0 (length xs) plan p.laid_out;
  }

  -- sections

  same_section : (from to : ℕ) (section : Section) → IsSectionOf script t from to section → IsSectionOf script u from to section
  same_section from to section p = record {
    rising = p.rising;
    between = λ n x low high here acts. p.between n x low high here
        (acting g u (state_at script t n) x.act (subst (λ s. IsActingTest (setting script u) s x.act) (sym (states n)) acts));
    well_ordered = p.well_ordered;
    names = p.names;
    jobs_before = p.jobs_before ∙ counts from;
    lines = sym (ap (λ (s : ScriptState). s.lines) (states to)) ∙ p.lines
        ∙ ap (λ (s : ScriptState). s.lines ++ plan_lines section.plan) (states from);
    refused = sym (ap (λ (s : ScriptState). s.refused) (states to)) ∙ p.refused
        ∙ ap (λ (s : ScriptState). s.refused + plan_refused section.plan) (states from);
    traps = sym (ap (λ (s : ScriptState). s.traps) (states to)) ∙ p.traps
        ∙ ap (λ (s : ScriptState). s.traps ++ map (renumbered section.jobs_before) (plan_traps section.plan)) (states from);
    laid_out = same_layout section.small_jobs from to section.plan p.laid_out;
    test = subst (λ s. EndsBy (setting script u) s (cells_after section.plan) (slice_get xs to) section.test) (states to)
        (ends_by g u (state_at script t to) (cells_after section.plan) (slice_get xs to) section.test p.test);
  }

  same_outcome : (n : ℕ) (held : Option Bool) → IsOutcome script t n held → IsOutcome script u n held
  same_outcome zero held f = f
  same_outcome (suc n) held f = f ∙ ap (λ s. Some (outcome_by s (slice_get xs (suc n)))) (states (suc n))

  same_section_at : (from : ℕ) (s : SectionAt) → IsSectionAt script t from s → IsSectionAt script u from s
  same_section_at from s p = record {
    begins = p.begins;
    outcome = same_outcome from s.held p.outcome;
    is_section = same_section from s.to s.section p.is_section;
  }

  same_lead : (from : ℕ) (sections : List SectionAt) (to : ℕ) → Lead script t from sections to → Lead script u from sections to
  same_lead from [] to f = f
  same_lead from (s ∷ more) to f = (same_section_at from s f.0, f.1, same_lead s.to more to f.2)

  pub same_seen : (saw : List SectionAt → Type 0) → HasSeen saw script t → HasSeen saw script u
  same_seen saw p = record {
    sections = p.sections;
    are = record {
      earlier = p.are.earlier;
      last = p.are.last;
      are = p.are.are;
      from = p.are.from;
      lead = same_lead 0 p.are.earlier p.are.from p.are.lead;
      is_last = same_section_at p.are.from p.are.last p.are.is_last;
      ends = p.are.ends;
    };
    seen = p.seen;
  }

  -- answers

  same_frame : (depth : Bool) → frame_refusal script t depth ≡ frame_refusal script u depth
  same_frame depth = λ i. first_some (
      same_missing t u script.statements.items alike i
      ∷ depth_refusal depth script.statements.items
      ∷ option_map (λ limit. answer PAST_LIMIT (limit_line limit)) (means.limit i)
      ∷ []
      )

  pub same_cause : (depth : Bool) (workers : ℕ) (a : Answer) → FrameCause script t depth workers a → FrameCause script u depth workers a
  same_cause depth workers a (IsRefusedFor e) = IsRefusedFor (sym (same_frame depth) ∙ e)
  same_cause depth workers a (Ran none plain is) = Ran (sym (same_frame depth) ∙ none) plain (is ∙ (λ i. answer (means.status i) (means.output i)))
  same_cause depth workers a (Reported none asked text report is) =
      let same : IsDepthReport script u workers text = record {
        plan = report.plan;
        is_plan = same_plan report.plan report.is_plan;
        depth = report.depth;
        is_depth = report.is_depth;
        text_is = report.text_is;
      } in
      Reported (sym (same_frame depth) ∙ none) asked text same is

  pub same_cut : (depth : Bool) (text : Text) → IsCut script t depth text → IsCut script u depth text
  same_cut depth text c = record {
    accepted = sym (same_frame depth) ∙ c.accepted;
    run = c.run;
    tested = c.tested;
    output = c.output ∙ means.output;
  }
