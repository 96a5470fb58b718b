use Rattle.std.proofs.Common.{◌≡◌, ◌∙◌, sym, ap, refl, Ok}
use Rattle.frame_ast.specs.declared.script.Order.TheVariants as order
use Rattle.script_text.specs.Raw as form
use Rattle.script_text.specs.Raw.{form_of, OrderForm}
use Rattle.script_checks.specs.Checks.{among}
use Rattle.script_checks.proofs.FaultLemmas.{first_end}
use Rattle.script_checks.proofs.OrderLemmas.{by_form}
use Rattle.script_checks.proofs.order_checks.check_order.Goals as goal

pub returns-in-Column : goal.returns-in-Column
returns-in-Column c =
    by_form c.args.source (among c.args.names.now c.args.kernels.now) 0 0 (form_of c.args.raw.now)
    (form.NewColumn c.in-Column.name c.in-Column.column c.in-Column.life) c.column.result
    (ap form_of c.in-Column.is) c.column.ensures

pub returns-in-Schedule : goal.returns-in-Schedule
returns-in-Schedule c =
    let a = c.in-Schedule in
    let text : OrderForm = form.Schedule a.auto a.handle a.kernel a.args.items a.sizes a.waive.items a.after.items in
    let read : OrderForm = form.Schedule a.auto a.handle a.kernel c.as_slice.result.now a.sizes c.as_slice-in-Schedule.result.now
    c.as_slice-in-Schedule-2.result.now in
    let same : text ≡ read = cc (c.as_slice.ensures.value, c.as_slice-in-Schedule.ensures.value, c.as_slice-in-Schedule-2.ensures.value) in
    by_form c.args.source (among c.args.names.now c.args.kernels.now) 0 0 (form_of c.args.raw.now) read c.check_schedule.result
    (ap form_of a.is ∙ same) c.check_schedule.ensures

pub returns-in-Combine : goal.returns-in-Combine
returns-in-Combine c =
    by_form c.args.source (among c.args.names.now c.args.kernels.now) 0 0 (form_of c.args.raw.now)
    (form.Combine c.in-Combine.name c.as_slice-in-Combine.result.now) c.combine.result
    (ap form_of c.in-Combine.is ∙ ap (λ xs. form.Combine c.in-Combine.name xs) (sym c.as_slice-in-Combine.ensures.value)) c.combine.ensures

pub returns-in-Dispose : goal.returns-in-Dispose
returns-in-Dispose c =
    by_form c.args.source (among c.args.names.now c.args.kernels.now) 0 0 (form_of c.args.raw.now)
    (form.Dispose c.in-Dispose.name c.as_slice-in-Dispose.result.now c.in-Dispose.handle) c.dispose.result
    (ap form_of c.in-Dispose.is ∙ ap (λ xs. form.Dispose c.in-Dispose.name xs c.in-Dispose.handle) (sym c.as_slice-in-Dispose.ensures.value)) c.dispose.ensures

pub returns-in-Flush : goal.returns-in-Flush
returns-in-Flush c =
    by_form c.args.source (among c.args.names.now c.args.kernels.now) 0 0 (form_of c.args.raw.now) form.Flush (Ok order.Flush) (ap form_of c.in-Flush.is)
    (first_end, refl)

pub returns-in-Frame : goal.returns-in-Frame
returns-in-Frame c =
    by_form c.args.source (among c.args.names.now c.args.kernels.now) 0 0 (form_of c.args.raw.now) form.Frame (Ok order.Frame) (ap form_of c.in-Frame.is)
    (first_end, refl)
