use Rattle.std.proofs.Common.{◌≡◌, List, Option, Some, None, rules, ◌∙◌, sym, subst}
use Rattle.std.specs.Option.{option_or}
use Rattle.frame_ast.specs.declared.kernel.Kernel.{Kernel}
use Rattle.kernel_raw.specs.declared.fault.StaticFault.{StaticFault}
use Rattle.kernel_raw.specs.declared.raw.RawKernel.{RawKernel}
use Rattle.kernel_raw.specs.RawTexts.{text_at}
use Rattle.kernel_code.specs.StaticFaults.{fault_at, kernel_name_fault, params_fault, nodes_fault, first_fault, TellsFault}
use Rattle.kernel_code.proofs.NoFaults.{option_or-none}
use Rattle.kernel_code.proofs.Built.Kernels.{few-params}
use Rattle.kernel_code.proofs.Checking.{checked}
use Rattle.kernel_code.proofs.check.check_kernel.Goals as goal

pub resolve-requires : goal.resolve-requires
resolve-requires c = few-params c.args.raw.now (option_or-none _ _ (sym c.head_fault.ensures ∙ c.in_default.is)).1

first-of-both : (a b c : Option StaticFault) (fault : StaticFault) → option_or a b ≡ Some fault → option_or a (option_or b c) ≡ Some fault
first-of-both (Some x) b c fault h = h
first-of-both None (Some y) c fault h = h
first-of-both None None c fault h = cc

-- a fault of the name or of the parameters is the first one
head-first : (raw : RawKernel) (earlier : List Kernel) (fault : StaticFault) →
    option_or (fault_at raw.name (kernel_name_fault earlier (text_at raw raw.name))) (params_fault raw 0 raw.params.items) ≡ Some fault
    → first_fault raw earlier ≡ Some fault
head-first raw earlier fault h =
    first-of-both (fault_at raw.name (kernel_name_fault earlier (text_at raw raw.name))) (params_fault raw 0 raw.params.items)
    (nodes_fault raw 0 raw.nodes.items) fault h

pub returns-in-Some-clause-refused : goal.returns-in-Some-clause-refused
returns-in-Some-clause-refused c =
    let found = head-first c.args.raw.now c.args.earlier.now c.in-Some.fault (sym c.head_fault.ensures ∙ c.in-Some.is) in
    subst (λ fault. TellsFault c.args.raw.now fault c.refusal.result) (sym found) c.refusal.ensures

pub returns-in_ok-kernel_of-in-Ok-clause-checked : goal.returns-in_ok-kernel_of-in-Ok-clause-checked
returns-in_ok-kernel_of-in-Ok-clause-checked c =
    let none : first_fault c.args.raw.now c.args.earlier.now ≡ None = search rules in
    checked c.requires.is_raw.events c.args.raw.now c.in_ok-kernel_of-in-Ok.field-0 c.args.earlier.now c.requires.is_raw.spells none
    c.in_ok-kernel_of-in-Ok.ensures
