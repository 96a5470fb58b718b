use Rattle.std.proofs.Common.{◌≡◌, None, sym, ◌∙◌, ap, subst}
use Rattle.frame_parser.specs.Notes.{events_of}
use Rattle.kernel_code.specs.StaticFaults.{first_fault, TellsFault}
use Rattle.kernel_code.proofs.Limits.Rooms as rooms
use Rattle.kernel_raw.specs.declared.fault.KernelFault.TheVariants.{Refused}
use Rattle.frame_script.specs.Walking.{RefusesKernel}
use Rattle.frame_script.specs.Files.{IsRawOf}
use Rattle.frame_script.proofs.KernelWalks.{raw_of, name_free, same_text, kernel_refused, of_refusal}
use Rattle.frame_script.proofs.walk_kernel.add_kernel.Goals as goal

pub returns-in-Err-Refused-clause-refused : goal.returns-in-Err-Refused-clause-refused
returns-in-Err-Refused-clause-refused c line kind is =
    let raw = c.in_ok-raw.raw in
    let known = c.args.kernels.now in
    let is_raw : IsRawOf c.args.source (events_of c.args.notes.now) raw =
    raw_of c.args.source (events_of c.args.notes.now) raw c.in_ok-raw.ensures.source c.in_ok-raw.ensures.marks c.in_ok-raw.ensures.line
    c.in_ok-raw.ensures.spelled in
    let tells = subst (λ ks. TellsFault raw (first_fault raw ks) (Refused c.in-Err-Refused.line c.in-Err-Refused.kind)) c.as_slice.ensures
    (subst (TellsFault raw (first_fault raw c.as_slice.result.now)) c.in-Err-Refused.field-0-is c.in-Err-Refused.ensures.refused) in
    of_refusal (RefusesKernel c.args.source (events_of c.args.notes.now) known) _ line _ kind is
    (kernel_refused c.args.source (events_of c.args.notes.now) raw known _ _ is_raw tells)

pub has_guard_room-has_room-requires-clause-nodes : goal.has_guard_room-has_room-requires-clause-nodes
has_guard_room-has_room-requires-clause-nodes c =
    let events = events_of c.args.notes.now in
    let raw = c.in_ok-raw.raw in
    let kernel = c.in-Ok.kernel in
    let known = c.as_slice.result.now in
    let spells = c.in_ok-raw.ensures.spelled in
    let none = c.in-Ok.ensures.faultless in
    let is = c.in-Ok.ensures.kernel in
    record { nodes = rooms.nodes events raw kernel known spells none is; depth = rooms.depth events raw kernel known spells none is }

pub add-requires-clause-other : goal.add-requires-clause-other
add-requires-clause-other c =
    let raw = c.in_ok-raw.raw in
    let none : first_fault raw c.args.kernels.now ≡ None = ap (first_fault raw) (sym c.as_slice.ensures) ∙ c.in-Ok.ensures.faultless in
    name_free raw c.args.kernels.now c.text.result.now none (c.text.ensures
    ∙ same_text c.args.source (events_of c.args.notes.now) raw raw.name
    (raw_of c.args.source (events_of c.args.notes.now) raw c.in_ok-raw.ensures.source c.in_ok-raw.ensures.marks c.in_ok-raw.ensures.line
    c.in_ok-raw.ensures.spelled))

pub returns-clause-added : goal.returns-clause-added
returns-clause-added c = record {
  raw = c.in_ok-raw.raw;
  kernel = c.in-Ok.kernel;
  is_raw = raw_of c.args.source (events_of c.args.notes.now) c.in_ok-raw.raw c.in_ok-raw.ensures.source c.in_ok-raw.ensures.marks c.in_ok-raw.ensures.line
      c.in_ok-raw.ensures.spelled;
  faultless = ap (first_fault c.in_ok-raw.raw) (sym c.as_slice.ensures) ∙ c.in-Ok.ensures.faultless;
  kernel_is = c.in-Ok.ensures.kernel;
  checked = c.in-Ok.ensures.checked;
  added = c.in_ok-add.ensures;
}
