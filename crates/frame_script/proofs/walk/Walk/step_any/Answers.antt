use Rattle.std.proofs.Common.{◌-◌, Err, length, drop, refl, sym, ◌∙◌, ap, subst}
use Rattle.frame_parser.specs.Notes.{events_of}
use Rattle.frame_script.specs.declared.fault.LoadFault.TheVariants as load
use Rattle.kernel_raw.specs.RawEvents.{IsKernel}
use Rattle.kernel_text.specs.Tokens.{kinds}
use Rattle.kernel_raw.specs.Legible.{NamesStand}
use Rattle.kernel_raw.proofs.Derived.Names.{names_stand-take, names_stand-drop}
use Rattle.script_text.specs.Sources.{file_tokens}
use Rattle.script_text.specs.Raw.{form_of}
use Rattle.script_text.specs.Items.{Leads}
use Rattle.frame_script.specs.Walking.{AddsKernel, RefusesKernel}
use Rattle.script_text.proofs.Noted.{noted_between}
use Rattle.frame_script.proofs.Walking.EventSteps.{kernel_stands, went_past_kernel, refused_in_kernel, order_stands, went_past_order, refused_in_order, written_inside, went_out, exit_is}
use Rattle.frame_script.proofs.walk.Walk.step_any.Goals as goal

pub add_kernel-requires-clause-kernel : goal.add_kernel-requires-clause-kernel
add_kernel-requires-clause-kernel c =
    let g = c.requires.walking in
    let notes = c.args.notes.now in
    let all = events_of notes in
    let leads = subst (λ x. Leads all c.args.at x g.left) c.in-Kernel.is (c.in_ok-raw_item.ensures g.left g.opens) in
    subst (λ es. IsKernel es (length (file_tokens c.args.source))) (sym (noted_between notes c.args.at (c.in-Kernel.next - c.args.at)))
    (kernel_stands c.args.source all c.args.at c.in-Kernel.next c.args.self.now g leads.2)

pub add_kernel-requires-clause-named : goal.add_kernel-requires-clause-named
add_kernel-requires-clause-named c =
    let notes = c.args.notes.now in
    let all = events_of notes in
    let n = c.in-Kernel.next - c.args.at in
    let kinds_are = kinds (file_tokens c.args.source) in
    subst (NamesStand kinds_are) (sym (noted_between notes c.args.at n))
    (names_stand-take kinds_are n (drop c.args.at all) (names_stand-drop kinds_are c.args.at all c.requires.named))

pub returns-in_err-add_kernel-in-Kernel-clause-refused :
    goal.returns-in_err-add_kernel-in-Kernel-clause-refused
returns-in_err-add_kernel-in-Kernel-clause-refused c line kind is =
    let g = c.requires.walking in
    let all = events_of c.args.notes.now in
    let leads = subst (λ x. Leads all c.args.at x g.left) c.in-Kernel.is (c.in_ok-raw_item.ensures g.left g.opens) in
    let told = exit_is c.from_residual-in_err-add_kernel-in-Kernel.result _ (load.Refused line kind) c.from_residual-in_err-add_kernel-in-Kernel.ensures.1 is in
    refused_in_kernel c.args.source all c.args.at c.in-Kernel.next c.args.self.now line kind g leads.2
    (subst (λ es. RefusesKernel c.args.source es c.args.self.now.kernels line kind)
    (noted_between c.args.notes.now c.args.at (c.in-Kernel.next - c.args.at) ∙ leads.2.events_are)
    (c.in_err-add_kernel-in-Kernel.ensures.refused line kind (ap (λ e. Err e) told)))

pub returns-in-Kernel-clause-walked : goal.returns-in-Kernel-clause-walked
returns-in-Kernel-clause-walked c =
    let g = c.requires.walking in
    let all = events_of c.args.notes.now in
    let leads = subst (λ x. Leads all c.args.at x g.left) c.in-Kernel.is (c.in_ok-raw_item.ensures g.left g.opens) in (
      leads.0,
      leads.1,
      went_past_kernel c.args.source all c.args.at c.in-Kernel.next c.args.self.now _ c.add_kernel.new.kernels g leads.2
          (subst (λ es. AddsKernel c.args.source es c.args.self.now.kernels c.add_kernel.new.kernels)
          (noted_between c.args.notes.now c.args.at (c.in-Kernel.next - c.args.at) ∙ leads.2.events_are) c.in_ok-add_kernel-in-Kernel.ensures.added) refl,
    )

pub take_statement-requires-clause-stands : goal.take_statement-requires-clause-stands
take_statement-requires-clause-stands c =
    let g = c.requires.walking in
    let all = events_of c.args.notes.now in
    let leads = subst (λ x. Leads all c.args.at x g.left) c.in-Order.is (c.in_ok-raw_item.ensures g.left g.opens) in
    order_stands c.args.source all c.args.at c.in-Order.first (form_of c.in-Order.order) c.in-Order.next c.args.self.now g leads.2

pub returns-in-Ok-clause-walked : goal.returns-in-Ok-clause-walked
returns-in-Ok-clause-walked c =
    let g = c.requires.walking in
    let all = events_of c.args.notes.now in
    let leads = subst (λ x. Leads all c.args.at x g.left) c.in-Order.is (c.in_ok-raw_item.ensures g.left g.opens) in (
      leads.0,
      leads.1,
      went_past_order c.args.source all c.args.at c.in-Order.first (form_of c.in-Order.order) c.in-Order.next c.args.self.now c.take_statement.new.self
          c.requires.text g leads.2 c.in-Ok.ensures.0 c.in-Ok.ensures.1,
    )

pub returns-in-Order-clause-refused : goal.returns-in-Order-clause-refused
returns-in-Order-clause-refused c line kind is =
    let g = c.requires.walking in
    let all = events_of c.args.notes.now in
    let leads = subst (λ x. Leads all c.args.at x g.left) c.in-Order.is (c.in_ok-raw_item.ensures g.left g.opens) in
    refused_in_order c.args.source all c.args.at c.in-Order.first (form_of c.in-Order.order) c.in-Order.next c.args.self.now c.in-Err.fault line kind g leads.2
    c.in-Err.ensures (c.refusal_for.ensures line kind cc)

pub close-requires-clause-open : goal.close-requires-clause-open
close-requires-clause-open c =
    let g = c.requires.walking in
    let all = events_of c.args.notes.now in
    let leads = subst (λ x. Leads all c.args.at x g.left) c.in-End.is (c.in_ok-raw_item.ensures g.left g.opens) in
    written_inside c.args.source all c.args.at c.in-End.next c.args.self.now g leads.2

pub returns-clause-walked : goal.returns-clause-walked
returns-clause-walked c =
    let g = c.requires.walking in
    let all = events_of c.args.notes.now in
    let leads = subst (λ x. Leads all c.args.at x g.left) c.in-End.is (c.in_ok-raw_item.ensures g.left g.opens) in
    (leads.0, leads.1, went_out c.args.source all c.args.at c.in-End.next c.args.self.now c.close.new.self g leads.2 c.in_ok-close-in-End.ensures)
