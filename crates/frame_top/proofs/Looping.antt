-- The loop over sections.
use Rattle.std.proofs.Common.{◌≡◌, ◌⊎◌, inl, inr, refl, sym, ap, ◌∙◌, subst, ℕ, zero, suc, ◌≤◌, Bool, true, false, pos, List, [], ◌∷◌, ◌++◌, length, take, Option, None, append-nil, arith}
use Rattle.frame_ast.specs.declared.script.Script.{Script}
use Rattle.frame_ast.specs.declared.script.Statement.{Statement}
use Rattle.frame_ast.specs.Accepted.{is_when}
use Rattle.frame_ast.specs.Orders.{Table}
use Rattle.frame_ast.specs.States.{ScriptState}
use Rattle.frame_ast.specs.Scripts.{status_of, output_of}
use Rattle.frame_ast.specs.Texts.{traps_text}
use Rattle.frame_ast.specs.Scripts.{status_by}
use Rattle.merge_laws.specs.Graph.{Cells}
use Rattle.frame_plan.specs.declared.sections.SectionBook.{SectionBook}
use Rattle.frame_plan.specs.Sections.{IsAt}
use Rattle.plan_state.specs.Steps.{state_at}
use Rattle.plan_run.specs.Says.{SaysTo, said_to}
use Rattle.plan_run.proofs.Saying.{says_none, says_after, says_as}
use Rattle.frame_top.specs.declared.sections.Progress.{Progress}
use Rattle.frame_top.specs.declared.status.TheConstants.{NO_MEMORY}
use Rattle.frame_top.specs.Answers.{SaidTo, AnswersTo, has_when}
use Rattle.frame_top.specs.Refusals.{answer}
use Rattle.frame_top.specs.Running.{IsReportAt, HasRun, RunsOn, Closes}
use Rattle.frame_top.proofs.Growing.{lines_begin}
use Rattle.frame_top.proofs.Saying.{closed, stop_answers}
use Rattle.frame_top.proofs.Whens.{any_counted}

take_whole : {A : Type 0} (xs : List A) → take (length xs) xs ≡ xs
take_whole [] = refl
take_whole (x ∷ xs) = ap (λ ys. x ∷ ys) (take_whole xs)

-- so many sections were run, and their lines were said
pub record InSections {S : Type 0} (taken : S → Option (List ℕ)) (faults : S → ℕ) (script : Script) (table : Table) (sections : ℕ) (book : SectionBook)
    (p : Progress) (old new : S) : Type 0 where
  pub from : ℕ
  pub ran : HasRun script table sections from book p
  pub said : SaysTo taken faults old [] false new p.out p.failed (state_at script table from).lines
  pub later : faults old ≤ faults new

module _ {S : Type 0} (taken : S → Option (List ℕ)) (faults : S → ℕ) where
  -- a text was said, and then what waited was written
  pub closes_after : (old mid new : S) (p m q : Progress) (text : List ℕ) (status wanted result : ℕ) → Closes taken faults mid m new q [] status result
      → SaysTo taken faults old p.out p.failed mid m.out m.failed text → status ≡ wanted → Closes taken faults old p new q text wanted result
  closes_after old mid new p m q text status wanted result last says same = record {
    said = says_as (said_to taken faults old p.out p.failed) (said_to taken faults new q.out q.failed) (text ++ []) text (append-nil text)
        (says_after (said_to taken faults old p.out p.failed) (said_to taken faults mid m.out m.failed)
        (said_to taken faults new q.out q.failed) text [] says last.said);
    none = last.none;
    whole = λ e. last.whole e ∙ same;
    unwritten = last.unwritten;
  }

module _ {S : Type 0} (taken : S → Option (List ℕ)) (faults : S → ℕ) (script : Script) (table : Table) where
  pub at_first : (book : SectionBook) (p : Progress) (sink : S) → ((carried : Cells) (len : ℕ) → IsAt book script table 0 carried len)
      → p.held ≡ None → p.out ≡ [] → p.failed ≡ false → IsReportAt (state_at script table 0) p.report
      → InSections taken faults script table 0 book p sink sink
  at_first book p sink at held out failed report =
      let none = report.traps.number in
      let nothing = report.refused in
      record {
        from = 0;
        ran = record {
          carried = λ w. pos 0;
          len = 0;
          at = at (λ w. pos 0) 0;
          outcome = held;
          left = (omega arith, λ w l. absurd (omega (arith, l)));
          report = report;
          few = record { traps = omega arith; refused = omega arith };
          tests = omega arith;
          begins = λ e. refl;
        };
        said = subst (λ b. SaysTo taken faults sink [] false sink p.out b []) (sym failed)
            (subst (λ w. SaysTo taken faults sink [] false sink w false []) (sym out) (says_none (said_to taken faults sink [] false)));
        later = omega arith;
      }

  module _ (sections : ℕ) (old_book book : SectionBook) (p q : Progress) (old mid new : S)
      (was : InSections taken faults script table sections old_book p old mid) where
    all_said : (more : Bool) (next : RunsOn taken faults script table sections was.from mid p new book q more)
        → SaysTo taken faults old [] false new q.out q.failed (state_at script table next.goes.to).lines
    all_said more next = subst (λ l. SaysTo taken faults old [] false new q.out q.failed l) (sym next.goes.lines_are)
        (says_after (said_to taken faults old [] false) (said_to taken faults mid p.out p.failed) (said_to taken faults new q.out q.failed)
        (state_at script table was.from).lines next.lines was.said next.said)

    pub one_more : (next : RunsOn taken faults script table sections was.from mid p new book q true) → faults mid ≤ faults new
        → (here : InSections taken faults script table (suc sections) book q old new) × (here.from ≡ next.goes.to)
    one_more next later = let was_later = was.later in (
      record {
        from = next.goes.to;
        ran = next.goes.next refl;
        said = all_said true next;
        later = omega (arith, was_later, later);
      },
      refl,
    )

    -- the last section was run, and the traps were told
    pub at_last : (next : RunsOn taken faults script table sections was.from mid p new book q false) (end : S) (e : Progress) (result : ℕ)
        → ((s : ScriptState) → IsReportAt s q.report → Closes taken faults new q end e (traps_text s.traps) (status_by s.traps s.refused) result)
        → SaidTo taken faults old end (answer (status_of script table) (output_of script table)) result
    at_last next end e result closes =
        let s = state_at script table next.goes.to in
        let last = closes s next.goes.report in
        let says = says_after (said_to taken faults old [] false) (said_to taken faults new q.out q.failed) (said_to taken faults end e.out e.failed) s.lines
        (traps_text s.traps) (all_said false next) last.said in
        let said = closed taken faults old end e.out e.failed (s.lines ++ traps_text s.traps)
        (status_by s.traps s.refused) result says last.none last.whole last.unwritten in
        subst (λ a. SaidTo taken faults old end a result) (λ i. answer (status_by (whole next i).traps (whole next i).refused)
        ((whole next i).lines ++ traps_text (whole next i).traps)) said
      where
        whole : (n : RunsOn taken faults script table sections was.from mid p new book q false)
            → state_at script table n.goes.to
            ≡ Rattle.frame_ast.specs.Scripts.final (Rattle.frame_ast.specs.Orders.setting script table) script.statements.items
        whole n = ap (state_at script table) (n.goes.last refl) ∙ ap (λ xs. Rattle.frame_ast.specs.Scripts.final
            (Rattle.frame_ast.specs.Orders.setting script table) xs) (take_whole script.statements.items)

  -- memory was wanting for the next section: the lines so far are written, and what is cut is the output
  pub at_none : (sections : ℕ) (book : SectionBook) (p q : Progress) (old mid new end : S) (e : Progress) (result : ℕ)
      → InSections taken faults script table sections book p old mid
      → new ≡ mid → q.out ≡ p.out → q.failed ≡ p.failed → Closes taken faults new q end e [] NO_MEMORY result
      → AnswersTo taken faults old end (λ a. a ≡ answer (status_of script table) (output_of script table))
      (λ text. (has_when script ≡ true) × (text ≡ output_of script table)) result
  at_none sections book p q old mid new end e result was same waits failed last =
      let rest = lines_begin script table was.from in
      let lines = (state_at script table was.from).lines in
      let here : SaysTo taken faults old [] false new q.out q.failed lines =
      subst (λ b. SaysTo taken faults old [] false new q.out b lines) (sym failed)
      (subst (λ w. SaysTo taken faults old [] false new w p.failed lines) (sym waits)
      (subst (λ (x : S). SaysTo taken faults old [] false x p.out p.failed lines) (sym same) was.said)) in
      let says = says_as (said_to taken faults old [] false) (said_to taken faults end e.out e.failed) (lines ++ []) lines (append-nil lines)
      (says_after (said_to taken faults old [] false) (said_to taken faults new q.out q.failed)
      (said_to taken faults end e.out e.failed) lines [] here last.said) in
      stop_answers _ _ (taken old) (taken end) (faults old) (faults end) (status_of script table) result lines rest.0
      (ap (λ l. answer (status_of script table) l) (sym rest.1)) (by sections was rest.0 rest.1)
      (closed taken faults old end e.out e.failed lines NO_MEMORY result says last.none last.whole last.unwritten)
    where
      tested : (n : ℕ) → InSections taken faults script table (suc n) book p old mid → has_when script ≡ true
      tested n w = let t = w.ran.tests in any_counted (λ (x : Statement). is_when x.act) (suc w.from) script.statements.items (omega (arith, t))

      -- before the first section there is no line, and after one there is a test
      by : (n : ℕ) (w : InSections taken faults script table n book p old mid) (more : List ℕ)
          → output_of script table ≡ (state_at script table w.from).lines ++ more
          → ((state_at script table w.from).lines ≡ []) ⊎ ((has_when script ≡ true) × ((state_at script table w.from).lines ++ more ≡ output_of script table))
      by zero w more e = inl (ap (λ n. (state_at script table n).lines) (w.ran.begins refl))
      by (suc n) w more e = inr (tested n w, sym e)
