use Rattle.std.proofs.Common.{◌≡◌, ◌∙◌, sym, subst, ℕ, zero, suc, Bool, Option, Some}
use Rattle.frame_ast.specs.declared.script.Script.{Script}
use Rattle.frame_ast.specs.Orders.{Table}
use Rattle.frame_core.proofs.Small.{none_some}
use Rattle.merge_laws.specs.Graph.{Cells}
use Rattle.frame_plan.specs.declared.sections.SectionBook.{SectionBook}
use Rattle.frame_plan.specs.Sections.{IsAt, IsBetween, IsOutcome, AreLeft}
use Rattle.plan_statements.specs.Tables.{columns_of}
use Rattle.frame_plan.proofs.Resuming.{respared}
use Rattle.frame_plan.proofs.sections.SectionBook.next.Goals as goal

-- where there is an answer, the book stands at a test
answered : (book : SectionBook) (script : Script) (table : Table) (n : ℕ) (carried : Cells) (len : ℕ) (held : Option Bool) (b : Bool) → held ≡ Some b
    → IsAt book script table n carried len → IsOutcome script table n held → IsBetween book script table n carried len
answered book script table zero carried len held b e at out = absurd (none_some (sym out ∙ e))
answered book script table (suc n) carried len held b e at out = at

pub hand_out-requires-in-Some : goal.hand_out-requires-in-Some
hand_out-requires-in-Some c =
    let r = c.requires.at in
    let t = columns_of c.args.table.now in
    record {
      planned = (
        t,
        r.0,
        c.in_ok-resume-in-Some.ensures.planned r.0 r.1 r.2
            (respared c.args.self.now c.args.script.now t r.0 r.1 r.2 _
            (answered c.args.self.now c.args.script.now t r.0 r.1 r.2 c.args.held c.in-Some.held c.in-Some.is r.3 r.4))
            (subst (IsOutcome c.args.script.now t r.0) c.in-Some.is r.4)
            (subst (λ m. AreLeft m r.1 r.2) (sym c.replace-left.ensures.value) r.5),
      );
    }

pub resume-requires : goal.resume-requires
resume-requires c =
    let r = c.requires.at in
    let t = columns_of c.args.table.now in
    record {
      at = (
        r.0,
        r.1,
        r.2,
        respared c.args.self.now c.args.script.now t r.0 r.1 r.2 _
            (answered c.args.self.now c.args.script.now t r.0 r.1 r.2 c.args.held c.in-Some.held c.in-Some.is r.3 r.4),
        subst (IsOutcome c.args.script.now t r.0) c.in-Some.is r.4,
        subst (λ m. AreLeft m r.1 r.2) (sym c.replace-left.ensures.value) r.5,
      );
    }

pub returns-in_ok-resume-in-Some : goal.returns-in_ok-resume-in-Some
returns-in_ok-resume-in-Some c =
    let t = columns_of c.args.table.now in
    record {
      section = λ from carried len at out left.
          c.hand_out-in-Some.ensures.section t from
          (c.in_ok-resume-in-Some.ensures.planned from carried len
          (respared c.args.self.now c.args.script.now t from carried len _
          (answered c.args.self.now c.args.script.now t from carried len c.args.held c.in-Some.held c.in-Some.is at out))
          (subst (IsOutcome c.args.script.now t from) c.in-Some.is out)
          (subst (λ m. AreLeft m carried len) (sym c.replace-left.ensures.value) left));
      small_jobs = c.hand_out-in-Some.ensures.small_jobs ∙ c.in_ok-resume-in-Some.ensures.small_jobs;
    }
