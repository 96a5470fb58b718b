use Rattle.std.proofs.Common.{◌≡◌, [], Ok, Some, None, refl, ap}
use Rattle.frame_ast.specs.declared.script.Order.TheVariants as order
use Rattle.frame_ast.specs.declared.script.Life.TheVariants.{Persistent}
use Rattle.script_text.specs.Raw as form
use Rattle.script_text.specs.Raw.{OrderForm}
use Rattle.script_text.specs.Known.{known_form, plain}
use Rattle.script_checks.proofs.FaultLemmas.{first_end}
use Rattle.script_checks.proofs.OrderLemmas.{makes_by, makes_none}
use Rattle.script_checks.proofs.order_checks.known.check_known.Goals as goal

pub returns-in-Array : goal.returns-in-Array
returns-in-Array c =
    let a = c.in-Array in
    makes_by c.args.source c.args.names.now c.array.new.names (known_form c.args.order)
    (form.NewArray a.name a.len Persistent None) c.array.result (ap known_form a.is) c.array.ensures

pub returns-in-List : goal.returns-in-List
returns-in-List c =
    let a = c.in-List in
    makes_by c.args.source c.args.names.now c.list.new.names (known_form c.args.order)
    (form.NewList a.name a.cap Persistent) c.list.result (ap known_form a.is) c.list.ensures

pub returns-in-Reference : goal.returns-in-Reference
returns-in-Reference c =
    let a = c.in-Reference in
    makes_by c.args.source c.args.names.now c.reference.new.names (known_form c.args.order)
    (form.NewReference a.name Persistent (Some (plain a.value))) c.reference.result (ap known_form a.is) c.reference.ensures

pub returns-in-Map : goal.returns-in-Map
returns-in-Map c =
    let a = c.in-Map in
    makes_by c.args.source c.args.names.now c.map.new.names (known_form c.args.order)
    (form.NewMap a.name a.cap Persistent) c.map.result (ap known_form a.is) c.map.ensures

pub returns-in-Slice : goal.returns-in-Slice
returns-in-Slice c =
    let a = c.in-Slice in
    makes_by c.args.source c.args.names.now c.slice.new.names (known_form c.args.order)
    (form.Slice a.name a.of a.start a.len) c.slice.result (ap known_form a.is) c.slice.ensures

pub returns-in-View : goal.returns-in-View
returns-in-View c =
    let a = c.in-View in
    makes_by c.args.source c.args.names.now c.view.new.names (known_form c.args.order)
    (form.View a.name a.of) c.view.result (ap known_form a.is) c.view.ensures

pub returns-in-Set : goal.returns-in-Set
returns-in-Set c =
    let a = c.in-Set in
    let read : OrderForm = form.Set a.name (Some c.plain.result) c.plain-in-Set.result in
    let same : known_form c.args.order ≡ read = cc (ap known_form a.is, c.plain.ensures, c.plain-in-Set.ensures) in
    makes_none c.args.source c.args.names.now (known_form c.args.order) read c.set.result same refl c.set.ensures

pub returns-in-Add : goal.returns-in-Add
returns-in-Add c =
    let a = c.in-Add in
    let read : OrderForm = form.Add a.name c.plain-in-Add.result None in
    let same : known_form c.args.order ≡ read = cc (ap known_form a.is, c.plain-in-Add.ensures) in
    makes_none c.args.source c.args.names.now (known_form c.args.order) read c.add.result same refl c.add.ensures

pub returns-in-Put : goal.returns-in-Put
returns-in-Put c =
    let a = c.in-Put in
    let read : OrderForm = form.Put a.name c.plain-in-Put.result c.plain-in-Put-2.result in
    let same : known_form c.args.order ≡ read = cc (ap known_form a.is, c.plain-in-Put.ensures, c.plain-in-Put-2.ensures) in
    makes_none c.args.source c.args.names.now (known_form c.args.order) read c.put.result same refl c.put.ensures

pub returns-in-Remove : goal.returns-in-Remove
returns-in-Remove c =
    let a = c.in-Remove in
    let read : OrderForm = form.Remove a.name c.plain-in-Remove.result in
    let same : known_form c.args.order ≡ read = cc (ap known_form a.is, c.plain-in-Remove.ensures) in
    makes_none c.args.source c.args.names.now (known_form c.args.order) read c.remove.result same refl c.remove.ensures

pub returns-in-Dispose : goal.returns-in-Dispose
returns-in-Dispose c =
    let a = c.in-Dispose in
    let read : OrderForm = form.Dispose a.name [] None in
    let same : known_form c.args.order ≡ read = ap known_form a.is in
    makes_none c.args.source c.args.names.now (known_form c.args.order) read c.dispose.result same refl c.dispose.ensures

pub returns-in-Print : goal.returns-in-Print
returns-in-Print c =
    let a = c.in-Print in
    let read : OrderForm = form.Print a.name in
    let same : known_form c.args.order ≡ read = ap known_form a.is in
    makes_none c.args.source c.args.names.now (known_form c.args.order) read c.print.result same refl c.print.ensures

pub returns-in-Flush : goal.returns-in-Flush
returns-in-Flush c =
    makes_none c.args.source c.args.names.now (known_form c.args.order) form.Flush (Ok order.Flush) (ap known_form c.in-Flush.is) refl (first_end, refl)
