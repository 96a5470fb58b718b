use Rattle.std.proofs.Common.{◌≡◌, ℕ, Option, ap, ◌⊎◌, inl, inr, [], refl, sym, ◌∙◌, arith}
use Rattle.std.specs.Prelude.{Vec}
use Rattle.std.specs.declared.alloc.Global.{Global}
use Rattle.frame_ast.specs.Limits.{limit_of}
use Rattle.frame_ast.specs.Orders.{setting}
use Rattle.frame_ast.specs.States.{at_start}
use Rattle.plan_state.specs.declared.state.PlanFault.TheVariants.{NoMemory}
use Rattle.frame_plan.specs.Sections.{limit_told}
use Rattle.plan_state.specs.Steps.{state_at}
use Rattle.plan_statements.specs.Tables.{columns_of}
use Rattle.frame_plan.proofs.Acting.{err_is}
use Rattle.frame_plan.proofs.Handing.{IsAsked, limit_fails, limit_none, first_later}
use Rattle.frame_plan.proofs.Passing.{stands_within}
use Rattle.frame_plan.proofs.sections.SectionBook.new.Goals as goal
use Rattle.frame_plan.proofs.sections.SectionBook.new.Goals.{then-has_test+in_ok-check_text, else-has_test}

pub run-requires-clause-stands : goal.run-requires-clause-stands
run-requires-clause-stands c = (at_start, [], (c.in_ok-planner.ensures.begun (columns_of c.args.table.now)).stands)

pub returns-in_err-at-clause-limit : goal.returns-in_err-at-clause-limit
returns-in_err-at-clause-limit c =
    let t = columns_of c.args.table.now in
    let asked : IsAsked c.args.script.now t = elim c.if-has_test.branch [
      | then-has_test+in_ok-check_text w ↦ inl (sym c.has_test.ensures ∙ w.if-has_test.true, w.in_ok-check_text.ensures)
      | else-has_test w ↦ inr (sym c.has_test.ensures ∙ w.if-has_test.false)
    ] in
    err_is c.from_residual-in_err-at.result c.in_err-at.field-0.0 (λ fault. (fault ≡ NoMemory)
    ⊎ (limit_of (setting c.args.script.now t) c.args.script.now.statements.items ≡ limit_told fault)) c.from_residual-in_err-at.ensures.1
    (limit_fails c.args.script.now t c.in_err-at.field-0.0 asked c.in_err-at.ensures.fails)

pub returns-clause-within : goal.returns-clause-within
returns-clause-within c =
    let t = columns_of c.args.table.now in
    let asked : IsAsked c.args.script.now t = elim c.if-has_test.branch [
      | then-has_test+in_ok-check_text w ↦ inl (sym c.has_test.ensures ∙ w.if-has_test.true, w.in_ok-check_text.ensures)
      | else-has_test w ↦ inr (sym c.has_test.ensures ∙ w.if-has_test.false)
    ] in
    let ran = c.in_ok-at.ensures.ran at_start [] (c.in_ok-planner.ensures.begun t).stands in
    limit_none c.args.script.now t c.in_ok-at.at asked ran.stops (stands_within c.run.new.planner (setting c.args.script.now t) at_start c.in_ok-at.at
    (state_at c.args.script.now t c.in_ok-at.at) ran.gone.more ran.gone.stands)

pub returns-clause-at : goal.returns-clause-at
returns-clause-at c carried len =
    let t = columns_of c.args.table.now in
    let asked : IsAsked c.args.script.now t = elim c.if-has_test.branch [
      | then-has_test+in_ok-check_text w ↦ inl (sym c.has_test.ensures ∙ w.if-has_test.true, w.in_ok-check_text.ensures)
      | else-has_test w ↦ inr (sym c.has_test.ensures ∙ w.if-has_test.false)
    ] in
    let ran = c.in_ok-at.ensures.ran at_start [] (c.in_ok-planner.ensures.begun t).stands in
    record {
      accepted = c.requires.accepted;
      within = limit_none c.args.script.now t c.in_ok-at.at asked ran.stops
          (stands_within c.run.new.planner (setting c.args.script.now t) at_start c.in_ok-at.at
          (state_at c.args.script.now t c.in_ok-at.at) ran.gone.more ran.gone.stands);
      works = ap (λ (v : Vec (Option ℕ) Global). v.items) ran.gone.works ∙ c.in_ok-planner.ensures.works;
      names = c.in_ok-names.ensures;
      found = ran.gone.more;
      stands = ran.gone.stands;
      grown = λ starts same. ran.gone.grown 0 starts (omega arith) refl same ((c.in_ok-planner.ensures.begun t).grown starts);
      rising = omega arith;
      inside = ran.inside;
      stops = ran.stops;
      between = λ n x low. ran.between n x (omega arith);
      later = first_later c.args.script.now t c.requires.accepted c.in_ok-at.at ran.stops;
    }
