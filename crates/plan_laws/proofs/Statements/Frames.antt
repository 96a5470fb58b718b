-- `frame`: the reports one by one, and then the end of temp containers.
use Rattle.std.proofs.Common.{◌≡◌, ℕ, zero, suc, ◌<◌, ◌≤◌, ◌^◌, Bool, true, false, ◌&&◌, not, List, [], ◌∷◌, ◌++◌, refl, sym, ap, subst, arith, append_assoc, append-nil}
use Rattle.std.specs.Prelude.{if◌then◌else◌}
use Rattle.frame_ast.specs.Effects.{is_overdue, report, reports, next_frame}
use Rattle.frame_ast.specs.Laws.{IsKnown}
use Rattle.frame_ast.specs.Orders.{Setting}
use Rattle.frame_ast.specs.Refusals.{is_temp}
use Rattle.frame_ast.specs.States.{ScriptState}
use Rattle.frame_ast.specs.Texts.{overdue_line}
use Rattle.frame_core.specs.declared.plan.Op.{Op}
use Rattle.frame_core.specs.Operations.{op_answer, op_cells}
use Rattle.frame_core.specs.Output.{op_line}
use Rattle.frame_core.proofs.Small.{not_both}
use Rattle.plan_laws.specs.Disposing.{with_alive}
use Rattle.plan_laws.specs.Drafts.{Draft}
use Rattle.plan_laws.specs.Frames.{report_op, report_ops, HasNames, FramesArePlanned}
use Rattle.plan_laws.specs.Planned.{Outline, ledger_at, IsPlanned}
use Rattle.plan_laws.proofs.Statements.Disposing.{others_are_planned, ends_are_planned}
use Rattle.plan_laws.proofs.Operations.{operations_are_planned, op_in_order}

module _ (x : Outline) (small : x.plan.cells < 2 ^ 32) (g : Setting) (s : ScriptState) (line : ℕ) (d : Draft) (known : IsKnown s)
    (named : HasNames x.plan g s) where
  -- with other lines, and other operations
  abbrev at_lines : List ℕ → ScriptState
  at_lines lines = record s { lines = lines }

  abbrev at_ops : List Op → Draft
  at_ops ops = record { segments = d.segments; jobs = d.jobs; waits = d.waits; ops = ops }

  one_more : (c : ℕ) → c < s.made → (lines : List ℕ) (ops : List Op) → IsPlanned x (at_lines lines) (at_ops ops)
      → IsPlanned x (at_lines (lines ++ report g line (s.making c))) (at_ops (ops ++ report_op s line c ∷ []))
  unfolding op_line op_answer op_cells
  one_more c below lines ops was =
      let u : ScriptState = at_lines lines in
      let t : ScriptState = at_lines (lines ++ report g line (s.making c)) in
      let op : Op = report_op s line c in
      let order = was.ordered in
      operations_are_planned x small u t (at_ops ops) (at_ops (ops ++ op ∷ [])) op was
      (record { segments = refl; jobs = refl; waits = refl; ops = refl })
      (record { name = named.below c below; act = tt }) tt
      (record {
        count = order.count;
        before = order.before;
        ledger = order.ledger;
        pieces = op_in_order x.plan (ledger_at x u (at_ops ops)) d.waits ops op _ order.ledger order.pieces
            (record { reads = λ w h. absurd (not_both h refl); writes = λ w h. absurd (not_both h refl) });
        within = was.standing.within;
      })
      was.standing.contents
      (record {
        lines = ap (λ name. lines ++ overdue_line line name (s.making c).line) (sym (named.text c below));
        refused = omega arith;
        traps = refl;
      })

  reported : IsPlanned x s d → (n : ℕ) → n ≤ s.made → IsPlanned x (at_lines (s.lines ++ reports g line s n)) (at_ops (d.ops ++ report_ops s line n))
  reported was zero le =
      subst (λ ops. IsPlanned x (at_lines (s.lines ++ [])) (at_ops ops)) (sym (append-nil d.ops))
      (others_are_planned x s (at_lines (s.lines ++ [])) d
      (record { made = refl; contents = refl; alive = refl; uses = refl; range = refl; book = refl; traps = refl; refused = refl; lines = append-nil s.lines })
      was)
  reported was (suc c) le = by (is_overdue s c) (reported was c (omega arith))
    where
      by : (b : Bool) → IsPlanned x (at_lines (s.lines ++ reports g line s c)) (at_ops (d.ops ++ report_ops s line c))
          → IsPlanned x (at_lines (s.lines ++ (reports g line s c ++ (if b then report g line (s.making c) else []))))
          (at_ops (d.ops ++ (report_ops s line c ++ (if b then report_op s line c ∷ [] else []))))
      by true p =
          let lines = append_assoc s.lines (reports g line s c) (report g line (s.making c)) in
          let ops = append_assoc d.ops (report_ops s line c) (report_op s line c ∷ []) in
          subst (λ l. IsPlanned x (at_lines l) (at_ops (d.ops ++ (report_ops s line c ++ report_op s line c ∷ [])))) lines
          (subst (λ o. IsPlanned x (at_lines ((s.lines ++ reports g line s c) ++ report g line (s.making c))) (at_ops o)) ops
          (one_more c (omega arith) (s.lines ++ reports g line s c) (d.ops ++ report_ops s line c) p))
      by false p =
          let lines = sym (append-nil (reports g line s c)) in
          let ops = sym (append-nil (report_ops s line c)) in
          subst (λ l. IsPlanned x (at_lines (s.lines ++ l)) (at_ops (d.ops ++ (report_ops s line c ++ [])))) lines
          (subst (λ o. IsPlanned x (at_lines (s.lines ++ reports g line s c)) (at_ops (d.ops ++ o))) ops p)

  abbrev stays : ℕ → Bool
  stays c = s.alive c && not (is_temp (s.life c))

  stays_was : (c : ℕ) → stays c ≡ true → s.alive c ≡ true
  stays_was c e = by (s.alive c) (not (is_temp (s.life c))) e
    where
      by : (a b : Bool) → (a && b) ≡ true → a ≡ true
      by true b e = refl
      by false b e = e

  framed : IsPlanned x s d → IsPlanned x (next_frame g line s) (at_ops (d.ops ++ report_ops s line s.made))
  framed was =
      let u : ScriptState = at_lines (s.lines ++ reports g line s s.made) in
      others_are_planned x (with_alive stays u) (next_frame g line s) (at_ops (d.ops ++ report_ops s line s.made))
      (record { made = refl; contents = refl; alive = refl; uses = refl; range = refl; book = refl; traps = refl; refused = refl; lines = refl })
      (ends_are_planned x u stays (at_ops (d.ops ++ report_ops s line s.made))
      (record { book = known.book; handles = known.handles; uses = known.uses }) stays_was
      (reported was s.made (omega arith)))

pub frames_are_planned : FramesArePlanned
frames_are_planned x g s line d e small known was named add =
    let segments = sym add.segments in
    let jobs = sym add.jobs in
    let waits = sym add.waits in
    let ops = sym add.ops in
    subst (IsPlanned x (next_frame g line s)) (λ i. record { segments = segments i; jobs = jobs i; waits = waits i; ops = ops i })
    (framed x small g s line d known named was)
