-- A refused statement says so, and the rest stays.
use Rattle.std.proofs.Common.{◌≡◌, ◌++◌, refl, sym, ap, subst, ◌∙◌}
use Rattle.frame_ast.specs.declared.script.Statement.{Statement}
use Rattle.frame_ast.specs.Laws.{IsLikeBefore}
use Rattle.frame_ast.specs.Refusals.{Refused}
use Rattle.frame_ast.specs.Orders.{Setting}
use Rattle.frame_ast.specs.States.{ScriptState}
use Rattle.frame_ast.specs.Texts.{refused_line}
use Rattle.frame_ast.specs.Effects.{refuse}
use Rattle.frame_ast.specs.Scripts.{act, act_or_pass, decided}
use Rattle.frame_ast.proofs.Refusing.{refused_changes_little}
use Rattle.frame_core.specs.declared.plan.Act.TheVariants.{Say}
use Rattle.frame_core.specs.declared.plan.Op.{Op}
use Rattle.frame_core.specs.Operations.{op_cells, op_answer}
use Rattle.frame_core.specs.Output.{op_line}
use Rattle.plan_laws.specs.Operations.{StaysOrdered}
use Rattle.plan_laws.specs.Planned.{ledger_at, IsPlanned}
use Rattle.plan_laws.specs.Refusing.{RefusalsArePlanned}
use Rattle.plan_laws.proofs.Operations.{operations_are_planned, op_in_order, added}
use Rattle.frame_core.proofs.Small.{not_both}

abbrev but : ScriptState → ScriptState → ScriptState
but s t = record s { values = t.values; view = t.view; refused = t.refused; passing = t.passing; lines = t.lines }

like : (g : Setting) (st : Statement) (r : Refused) (s t : ScriptState) → IsLikeBefore g st r s t → but s t ≡ t
like g st r s t h =
    let frame = sym h.frame in
    let made = sym h.count in
    let contents = sym h.contents in
    let alive = sym h.alive in
    let life = sym h.life in
    let making = sym h.making in
    let uses = sym h.uses in
    let takes = sym h.takes in
    let range = sym h.range in
    let created = sym h.created in
    let book = sym h.book in
    let traps = sym h.traps in
    λ i. record {
      frame = frame i;
      values = t.values;
      made = made i;
      contents = contents i;
      alive = alive i;
      life = life i;
      making = making i;
      view = t.view;
      uses = uses i;
      takes = takes i;
      range = range i;
      created = created i;
      book = book i;
      traps = traps i;
      refused = t.refused;
      passing = t.passing;
      lines = t.lines;
    }

pub refusals_are_planned : RefusalsArePlanned
unfolding op_line op_answer op_cells
refusals_are_planned x small g s st r name d e was pass refused below named add =
    let is : act g s st ≡ refuse g s st r = ap (λ n. act_or_pass n g s st) pass ∙ ap (λ o. decided o g s st) refused in
    let t = act g s st in
    let op : Op = record { line = st.line; name = name; act = Say r.cause } in
    let order = was.ordered in
    subst (λ t. IsPlanned x t e) (like g st r s t (refused_changes_little g s st r pass refused))
    (operations_are_planned x small s (but s t) d e op was add
    (record { name = below; act = tt }) tt
    (subst (StaysOrdered x s (but s t) d) (added d e op add) (record {
      count = order.count;
      before = order.before;
      ledger = order.ledger;
      pieces = op_in_order x.plan (ledger_at x s d) d.waits d.ops op _ order.ledger order.pieces
          (record { reads = λ w h. absurd (not_both h refl); writes = λ w h. absurd (not_both h refl) });
      within = was.standing.within;
    }))
    was.standing.contents
    (record {
      lines = ap (λ (t : ScriptState). t.lines) is ∙ ap (λ n. s.lines ++ refused_line st.line r.cause n) (sym named);
      refused = ap (λ (t : ScriptState). t.refused) is;
      traps = refl;
    }))
