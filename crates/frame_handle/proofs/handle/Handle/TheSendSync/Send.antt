use denote.RattleType.{RattleType}
use denote.Param.Send.{IsSend, owning_send, struct_send, sendable}
use denote.Builtin.{RawPtr}
use denote.Struct.Struct.{exits_of}
use denote.Struct.Owning.{shape, fields, to}
use Rattle.std.proofs.alloc.Global.TheSendSync as heap
use Rattle.frame_handle.proofs.Sent.{held_keyless, quiet}
use Rattle.frame_handle.specs.contracts.handle.Handle.{the_row, the_type}

pub send : (T : RattleType) → IsSend T → IsSend (the_row T)
send T s =
    let O = the_type T in let ps : IsSend RawPtr = search sendable in
    owning_send O (ps, (heap.the_field_send, tt)) (λ d. held_keyless T s d.alloc d.at d.value)
    (λ k. quiet (to O) (exits_of k (fields O)) ((struct_send (shape O) (ps, (heap.the_field_send, tt))).leaving k))
