use Rattle.std.proofs.Common.{rules, ◌≡◌, ◌∙◌, refl, ap, Some, None, unwrap_or, map}
use Rattle.frame_ast.specs.declared.name_kind.NameKind.TheVariants.{Handle}
use Rattle.script_text.specs.Sources.{text_at}
use Rattle.script_checks.specs.Spelling.{params_of, param_place}
use Rattle.script_checks.specs.Faults.{kernel_in}
use Rattle.script_checks.specs.KernelIndex.{kernel_at}
use Rattle.script_checks.proofs.FaultLemmas.{exits, refused_by, checking}
use Rattle.script_checks.proofs.ScheduleLemmas.{kernel_missing, kernel_found, schedule_unknown, schedule_refused, schedule_good, job_said}
use Rattle.script_checks.proofs.order_checks.jobs.check_schedule.Goals as goal

pub returns-in_err-handle : goal.returns-in_err-handle
returns-in_err-handle c = exits _ _ c.from_residual.result _ c.from_residual.ensures.1 (search (rules, checking))

pub returns-in_default : goal.returns-in_default
returns-in_default c =
    let text = text_at c.args.source c.args.text.now.kernel in
    let none : None ≡ kernel_at c.args.kernels.now text = search rules in
    refused_by _ _ c.refuse.result _ c.refuse.ensures
    (schedule_unknown c.args.source c.args.names.now (kernel_in c.args.kernels.now text) c.args.text.now.kernel c.args.text.now.args.now c.args.text.now.sizes
    c.args.text.now.waive.now c.args.text.now.after.now _
    c.in_ok-handle.ensures.0 (kernel_missing c.args.kernels.now text none))

pub returns-in_err-rest : goal.returns-in_err-rest
returns-in_err-rest c =
    let text = text_at c.args.source c.args.text.now.kernel in
    let found : Some c.in-Some.place ≡ kernel_at c.args.kernels.now text = search rules in
    exits _ _ c.from_residual-in_err-rest.result _ c.from_residual-in_err-rest.ensures.1
    (schedule_refused c.args.source c.args.names.now (kernel_in c.args.kernels.now text) c.kernel-kernel.result.now c.args.text.now.kernel
    c.args.text.now.args.now c.args.text.now.sizes c.args.text.now.waive.now c.args.text.now.after.now _ _
    c.in_ok-handle.ensures.0 (kernel_found c.args.kernels.now text c.in-Some.place c.kernel-kernel.result.now found c.kernel-kernel.ensures.kernel)
    c.in_err-rest.ensures)

pub returns : goal.returns
returns c =
    let text = text_at c.args.source c.args.text.now.kernel in
    let found : Some c.in-Some.place ≡ kernel_at c.args.kernels.now text = search rules in
    let is : Some c.kernel-kernel.result.now ≡ kernel_in c.args.kernels.now text =
    kernel_found c.args.kernels.now text c.in-Some.place c.kernel-kernel.result.now found c.kernel-kernel.ensures.kernel in
    let says = c.in_ok-rest.ensures.1 in
    let made = Some (c.args.text.now.handle, Handle) in (
      schedule_good c.args.source c.args.names.now (kernel_in c.args.kernels.now text) c.kernel-kernel.result.now c.args.text.now.kernel
          c.args.text.now.args.now c.args.text.now.sizes c.args.text.now.waive.now c.args.text.now.after.now _
          c.in_ok-handle.ensures.0 is c.in_ok-rest.ensures.0,
      (
        c.in_ok-job.job,
        job_said c.in_ok-job.ensures.ok (record {
          auto_is = refl;
          handle_is = c.in_ok-handle.ensures.1;
          kernel_is = ap (λ o. unwrap_or o 0) found;
          args_are = says.args_are made;
          cut_is = says.cut_is;
          defer_is = says.defer_is made;
          waive_are = says.waive_are ∙ ap (λ o. map (λ at. param_place (params_of o) (text_at c.args.source at)) c.args.text.now.waive.now) is;
          after_are = says.after_are made;
        }),
        refl,
      ),
    )
