-- What a handle owns: its value in a block of its own, or nothing, at null.
use base.Fml.{Fml, feq}
use denote.RattleType.{RattleType}
use denote.RawPtr.{Ptr, null_ptr}
use Rattle.std.specs.Box.Ownership.{box_owns}
use Rattle.std.specs.declared.alloc.Global.{Global}
use Rattle.std.specs.declared.option.Option.{Option}
use Rattle.std.specs.declared.option.Option.TheVariants.{None, Some}
use Rattle.std.specs.contracts.impls.GlobalAllocator.TheImpl.{ghosts}

-- the pointer is null where there is no value, and else that of a box with the value
abbrev pub held : (R : RattleType) → Global → Ptr → Option R.Denot → Fml
held R a p None = feq Ptr p null_ptr
held R a p (Some x) = box_owns (ghosts.dealloc_token a) R p x
