use denote.Param.Send.{IsSend, owning_send, struct_send, sendable}
use denote.Builtin.{RawPtr}
use denote.Struct.Struct.{exits_of}
use denote.Struct.Owning.{shape, fields, to}
use Rattle.std.proofs.alloc.Global.TheSendSync as heap
use Rattle.frame_handle.proofs.Sent.{held_keyless, quiet}
use Rattle.frame_calls.specs.contracts.held.Held as row_of_held
use Rattle.frame_calls.specs.contracts.host.HostHandle.{the_row, the_type}
use Rattle.frame_calls.proofs.Sent.{held_send}

pub send : IsSend the_row
send =
    let O = the_type in let ps : IsSend RawPtr = search sendable in
    owning_send O (ps, (heap.the_field_send, tt)) (λ d. (held_keyless row_of_held.the_row held_send d.alloc d.at d.value, λ sound. tt))
    (λ k. quiet (to O) (exits_of k (fields O)) ((struct_send (shape O) (ps, (heap.the_field_send, tt))).leaving k))
