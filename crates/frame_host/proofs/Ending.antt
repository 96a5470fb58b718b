-- The end of a section.
use Rattle.std.proofs.Common.{◌≡◌, ◌≢◌, sym, ap, ◌∙◌, subst, ℕ, suc, ◌≤◌, Bool, cond, true, false, ℤ, List, ◌++◌, length, Option, None, Some, arith}
use Rattle.std.proofs.lemmas.Bool.{leb-true}
use Rattle.std.proofs.lemmas.List.Sums.{sum_by-take-le}
use Rattle.std.specs.Prelude.{count_by}
use Rattle.frame_ast.specs.declared.script.Script.{Script}
use Rattle.frame_ast.specs.declared.script.Statement.{Statement}
use Rattle.frame_ast.specs.Accepted.{IsAccepted, is_when}
use Rattle.frame_ast.specs.Scripts.{output_of, status_by, status_of}
use Rattle.frame_ast.specs.States.{ScriptState, contents_at}
use Rattle.frame_ast.specs.Texts.{traps_text}
use Rattle.job_base.specs.declared.limits.TheConstants.{MOST_TESTS}
use Rattle.job_base.specs.Cells.{cells_of}
use Rattle.frame_core.specs.declared.plan.Plan.{Plan}
use Rattle.frame_core.specs.Graphs.{cells_after}
use Rattle.frame_core.specs.Output.{plan_lines}
use Rattle.kernel_exec.specs.declared.binds.Bind.{Bind}
use Rattle.kernel_exec.proofs.Stand.{still}
use Rattle.frame_plan.specs.declared.sections.SectionBook.{SectionBook}
use Rattle.frame_plan.specs.Bindings.{IsBindAt, bind_in}
use Rattle.frame_plan.specs.Sections.{place_of}
use Rattle.frame_top.specs.Cells.{AreCellsOf}
use Rattle.plan_run.specs.Runs.{is_fault}
use Rattle.plan_run.specs.Says.{SaysTo}
use Rattle.plan_run.specs.declared.run_end.RunEnd.{RunEnd}
use Rattle.plan_state.specs.Steps.{state_at}
use Rattle.plan_statements.specs.Tables.{columns_of}
use Rattle.steal_pool.specs.declared.place.Place.{Place}
use Rattle.word_board.specs.declared.seat.WordSeat.{WordSeat}
use Rattle.frame_stage.specs.declared.stage.Stage.{Stage}
use Rattle.frame_top.specs.Refusals.{answer}
use Rattle.frame_top.specs.Running.{Closes, GoesOn, IsReportAt, tests_before}
use Rattle.frame_top.specs.declared.sections.Progress.{Progress}
use Rattle.frame_top.specs.declared.status.TheConstants.{UNWRITTEN}
use Rattle.frame_top.proofs.Saying.{closed}
use Rattle.frame_host.specs.declared.answer.FrameAnswer.{FrameAnswer}
use Rattle.frame_host.specs.declared.frame.Frame.{Frame}
use Rattle.frame_host.specs.declared.text.KeptText.{KeptText}
use Rattle.frame_host.specs.Reports.{IsFrameReport}
use Rattle.frame_host.specs.Frames.{AreReadable, IsAnswer, IsBetween, IsRun, IsToFinish, WasSaid, faults_of, table_in, taken_of, tree_in}
use Rattle.frame_host.proofs.Lines.{at_end, given, said_as, said_on, said_still}

-- there are no more sections than tests
pub few : (script : Script) (sections from : ℕ) → IsAccepted script → sections ≤ tests_before script (suc from) → sections ≤ MOST_TESTS
few script sections from accepted tests =
    let most : count_by (λ (x : Statement). is_when x.act) script.statements.items ≤ MOST_TESTS =
    leb-true (count_by (λ (x : Statement). is_when x.act) script.statements.items) MOST_TESTS accepted.when_count in
    let whole : tests_before script (suc from) ≤ count_by (λ (x : Statement). is_when x.act) script.statements.items =
    sum_by-take-le (λ (x : Statement). cond (is_when x.act) 1 0) script.statements.items (suc from) in
    omega (arith, tests, most, whole)

-- the cells that a plan leaves hold what they do after its run
still_bound : (s : ScriptState) (plan : Plan) (left : List ℤ) → AreCellsOf plan left → plan.cells ≤ plan.words → (name : ℕ) (o : Option Bind)
    → IsBindAt s (cells_after plan) plan.cells name o → IsBindAt s (cells_of left) (length left) name o
still_bound s plan left cells few name None h = h
still_bound s plan left cells few name (Some b) h = (
  h.0,
  h.1,
  still b (cells_after plan) (cells_of left) (contents_at s name) h.2
      (λ w is. let below = is.below in let inside = h.3 in cells.each w (omega (arith, few))),
  (let inside = h.3 in let size = cells.size in omega (arith, few)),
)

-- What a section came to is taken over.
module _ (frame : Frame) (stage : Stage) (place : Place WordSeat) (left : List ℤ) (end : RunEnd) (book : SectionBook) (q : Progress) (more : Bool)
    (r : IsRun frame stage place left end)
    (goes : GoesOn (tree_in frame) (table_in frame) r.sections r.from (plan_lines stage.section.plan) book q more)
    (waits : q.out ≡ frame.progress.out) (failed : q.failed ≡ is_fault end) (whole : is_fault end ≡ false) where
  was_said : WasSaid frame.text q.out false (state_at (tree_in frame) (table_in frame) goes.to).lines
  was_said = said_as frame.text q.out _ _ goes.lines_are
      (said_still frame.text frame.progress.out q.out _ waits (subst (λ b. WasSaid frame.text frame.progress.out b
      ((state_at (tree_in frame) (table_in frame) r.from).lines ++ plan_lines stage.section.plan)) whole r.said))

  -- there is another section
  pub goes_on : more ≡ true
      → IsBetween record { tree = frame.tree; table = frame.table; book = book; progress = q; text = frame.text }
  goes_on is = record {
    accepted = r.after.accepted;
    sections = suc r.sections;
    from = goes.to;
    ran = goes.next is;
    said = was_said;
    written = failed ∙ whole;
  }

  -- it was the last one
  pub to_finish : (cells : List ℤ) → more ≡ false → book ≡ frame.book → AreCellsOf stage.section.plan cells
      → IsToFinish record { tree = frame.tree; table = frame.table; book = book; progress = q; text = frame.text } cells
  to_finish cells is same held = record {
    to = goes.to;
    last = goes.last is;
    report = goes.report;
    said = was_said;
    written = failed ∙ whole;
    reads = λ name low.
        let next = r.after.made.next in
        let bind = ap (λ (b : SectionBook). bind_in b name) same in
        subst (λ n. IsBindAt (state_at (tree_in frame) (table_in frame) n) (cells_of cells) (length cells) name (bind_in book name))
        (sym next.place ∙ sym (ap place_of same) ∙ goes.place)
        (subst (IsBindAt (state_at (tree_in frame) (table_in frame) next.to) (cells_of cells) (length cells) name) (sym bind)
        (still_bound (state_at (tree_in frame) (table_in frame) next.to) stage.section.plan cells held
        (let w = next.is_section.well_ordered.sized.words_are in omega arith) name (bind_in frame.book name) (next.binds name low)));
  }

-- an answer has the script and the columns of its frame
answered : (a : FrameAnswer) (frame : Frame) → a.tree ≡ frame.tree → a.table ≡ frame.table → a.status ≡ status_of (tree_in frame) (table_in frame)
    → a.text.items ≡ output_of (tree_in frame) (table_in frame)
    → IsFrameReport (state_at (tree_in frame) (table_in frame) (length (tree_in frame).statements.items)) a.report
    → a.book ≡ frame.book
    → AreReadable (tree_in frame) (state_at (tree_in frame) (table_in frame) (length (tree_in frame).statements.items)) frame.book a.cells.items → IsAnswer a
answered a frame is_tree is_table status text report is_book reads = record {
  status = status ∙ sym (λ i. status_of (is_tree i).value (columns_of (is_table i)));
  text = text ∙ sym (λ i. output_of (is_tree i).value (columns_of (is_table i)));
  report = subst (λ (r : Frame). IsFrameReport (state_at (tree_in r) (table_in r) (length (tree_in r).statements.items)) a.report)
      (sym (λ i. record frame { tree = is_tree i; table = is_table i })) report;
  reads = subst (λ (r : Frame). AreReadable (tree_in r) (state_at (tree_in r) (table_in r) (length (tree_in r).statements.items)) r.book a.cells.items)
      (sym (λ i. record frame { tree = is_tree i; table = is_table i; book = is_book i })) reads;
}

-- the lines of traps were said, and what waited was written
pub answers : (frame : Frame) (q : Progress) (text : KeptText) (status : ℕ) (a : FrameAnswer) (cells : List ℤ) → (last : IsToFinish frame cells)
    → ((s : ScriptState) → IsReportAt s frame.progress.report → Closes taken_of faults_of frame.text frame.progress text q (traps_text s.traps)
    (status_by s.traps s.refused) status)
    → status ≢ UNWRITTEN → a.status ≡ status → a.text.items ≡ text.bytes.items
    → ((s : ScriptState) → IsReportAt s frame.progress.report → IsFrameReport s a.report)
    → a.tree ≡ frame.tree → a.table ≡ frame.table → a.book ≡ frame.book → a.cells.items ≡ cells → IsAnswer a
answers frame q text status a cells last closes other is_status is_text reports is_tree is_table is_book is_cells =
    let script = tree_in frame in
    let table = table_in frame in
    let s = state_at script table last.to in
    let end = closes s last.report in
    let says = subst (λ b. SaysTo taken_of faults_of frame.text frame.progress.out b text q.out q.failed (traps_text s.traps)) last.written end.said in
    let was = said_on frame.text frame.progress.out text q.out q.failed s.lines (traps_text s.traps) last.said says in
    let both = given was.first text (answer (status_by s.traps s.refused) (s.lines ++ traps_text s.traps)) status was.none other
    (closed taken_of faults_of was.first text q.out q.failed (s.lines ++ traps_text s.traps) (status_by s.traps s.refused) status was.said end.none end.whole
    end.unwritten) in
    let whole = at_end script table last.to last.last in
    answered a frame is_tree is_table
    (is_status ∙ both.0 ∙ ap (λ (t : ScriptState). status_by t.traps t.refused) whole)
    (is_text ∙ both.1 ∙ ap (λ (t : ScriptState). t.lines ++ traps_text t.traps) whole)
    (subst (λ n. IsFrameReport (state_at script table n) a.report) last.last (reports s last.report))
    is_book
    (subst (λ n. AreReadable script (state_at script table n) frame.book a.cells.items) last.last
    (subst (λ cs. AreReadable script s frame.book cs) (sym is_cells) last.reads))
