use Rattle.std.proofs.Common.{rules, ◌≡◌, ◌∙◌, ◌<◌, ◌-◌, ◌^◌, ◌++◌, ◌∷◌, [], None, sym, length}
use Rattle.script_checks.specs.KernelIndex.{kernel_at}
use Rattle.script_names.proofs.NameLemmas.{on_ok}
use Rattle.script_checks.proofs.KernelLemmas.{kernel_added}
use Rattle.script_checks.proofs.kernels.Kernels.add.Goals as goal

pub invariant_of-self-else-is_err-2 : goal.invariant_of-self-else-is_err-2
invariant_of-self-else-is_err-2 c =
    let kernels = c.self.inside.kernels.items in
    let rooms = c.self.inside.rooms.items in
    let more_rooms : c.push.new.self.items ≡ rooms ++ c.args.has_room ∷ [] = search rules in
    let more : c.push-2.new.self.items ≡ kernels ++ c.args.kernel ∷ [] = search rules in
    let place : c.len-place.result ≡ length kernels = search rules in
    let few : length kernels < 2 ^ 32 - 1 = search rules in
    let other : kernel_at kernels c.args.text.now ≡ None = search rules in
    rw (more, more_rooms)
    (kernel_added c.self.inside.places c.insert.new.self kernels rooms c.args.kernel c.args.has_room c.args.text c.len-place.result place c.self.invariant few
    c.requires.name other c.requires.small c.requires.room
    (on_ok _ _ (sym c.is_err-2.ensures.value ∙ c.if-is_err-2.false) c.insert.ensures.updates))
