-- Segments that are run one after another.
use Rattle.std.proofs.Common.{◌≡◌, ℕ, suc, ◌+◌, ◌<◌, ◌^◌, false, List, [], ◌++◌, length, take, Option, sym, ap, subst, ◌∙◌, arith, append-nil}
use Rattle.std.specs.Io.KnownBytes.{Appends}
use Rattle.frame_core.specs.declared.report.Report.{Report}
use Rattle.frame_print.specs.Gathering.{Joins}
use Rattle.frame_core.specs.Reports.{IsReportOf}
use Rattle.frame_core.specs.declared.plan.Plan.{Plan}
use Rattle.frame_core.specs.Output.{lines_of, segment_lines, refused_of, segment_refused, plan_lines, plan_refused, plan_traps}
use Rattle.frame_core.specs.Ordered.{IsWellOrderedPlan}
use Rattle.frame_core.proofs.Reported.Tallies.{refusals_are_few}
use Rattle.plan_run.specs.declared.run_end.RunEnd.{RunEnd}
use Rattle.plan_run.specs.declared.run_end.RunEnd.TheVariants.{Done, WriteFault}
use Rattle.plan_run.specs.Runs.{IsReport, IsRun, is_fault, report_of}
use Rattle.plan_run.specs.Says.{Said, Says}
use Rattle.plan_run.proofs.Saying.{says_after, says_as}

-- ONE SEGMENT MORE

pub lines_next : (plan : Plan) (a b c : Said) (i : ℕ) → Says a b (lines_of plan i) → Says b c (segment_lines plan i) → Says a c (lines_of plan (i + 1))
lines_next plan a b c i p q = let e : suc i ≡ i + 1 = omega arith in subst (λ (k : ℕ). Says a c (lines_of plan k)) e
    (says_after a b c (lines_of plan i) (segment_lines plan i) p q)

pub refused_next : (plan : Plan) (i r s : ℕ) → r ≡ refused_of plan i → s ≡ r + segment_refused plan i → s ≡ refused_of plan (i + 1)
refused_next plan i r s p q = let e : suc i ≡ i + 1 = omega arith in subst (λ (k : ℕ). s ≡ refused_of plan k) e
    (q ∙ ap (λ (x : ℕ). x + segment_refused plan i) p)

-- A count of 64 bits holds the refused statements of the next segment too.
pub refused_few : (plan : Plan) (i r : ℕ) → IsWellOrderedPlan plan → r ≡ refused_of plan i → r + segment_refused plan i < 2 ^ 64
refused_few plan i r well is =
    let few : refused_of plan i + segment_refused plan i < 2 ^ 32 = (refusals_are_few plan well).so_far (suc i) in
    omega (arith, few, is)

-- ALL SEGMENTS

pub all_lines : (plan : Plan) (a b : Said) (i : ℕ) → i ≡ length plan.segments.items → Says a b (lines_of plan i) → Says a b (plan_lines plan)
unfolding plan_lines
all_lines plan a b i at says = subst (λ (k : ℕ). Says a b (lines_of plan k)) at says

pub all_reported : (plan : Plan) (i refused : ℕ) (report : Report) → i ≡ length plan.segments.items → refused ≡ refused_of plan i → report.refused ≡ refused
    → IsReportOf (plan_traps plan) report → IsReport plan report
unfolding plan_refused
all_reported plan i refused report at count same traps = record { traps = traps; refused = same ∙ (count ∙ ap (refused_of plan) at) }

-- A RUN THAT BEGINS AND ENDS WITH NOTHING THAT WAITS

-- what waits is written, and nothing is said
pub says_flushed : (a b c : Said) (text : List ℕ) → Says a b text → Says b c [] → Says a c text
says_flushed a b c text p q = says_as a c (text ++ []) text (append-nil text) (says_after a b c text [] p q)

joins_all : (old new : Option (List ℕ)) (waited waits text : List ℕ) → waited ≡ [] → waits ≡ [] → Joins old waited new waits text → Appends old new text
joins_all old new waited waits text none empty p =
    let same : text ≡ p.bytes = sym (ap (λ l. l ++ text) none) ∙ (p.whole ∙ (ap (λ l. p.bytes ++ l) empty ∙ append-nil p.bytes)) in
    subst (Appends old new) (sym same) p.taken

stops_all : (old new : Option (List ℕ)) (waited text : List ℕ) → waited ≡ [] → (n : ℕ) × Appends old new (take n (waited ++ text))
    → (n : ℕ) × Appends old new (take n text)
stops_all old new waited text none p = subst (λ l. (n : ℕ) × Appends old new (take n l)) (ap (λ l. l ++ text) none) p

module _ (plan : Plan) (text : List ℕ) (a b : Said) (begins : a.failed ≡ false) (none : a.waits ≡ []) (says : Says a b text) where
  -- which ends so
  pub whole_run : (r : RunEnd) → is_fault r ≡ b.failed → (b.failed ≡ false → b.waits ≡ []) → IsReport plan (report_of r)
      → IsRun plan text a.taken b.taken a.faults b.faults r
  whole_run (Done r) e empty is =
      let w = says.whole begins (sym e) in
      (joins_all a.taken b.taken a.waits b.waits text none (empty (sym e)) w.0, w.1, is)
  whole_run (WriteFault r) e empty is =
      let w = says.part begins (sym e) in
      (stops_all a.taken b.taken a.waits text none w.0, w.1, is)
