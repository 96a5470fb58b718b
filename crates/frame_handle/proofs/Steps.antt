-- Steps that the walks share. Assumes `Logic`.
use lib.Dec.{T, lit<}
use seplogic.Ra.Ura.{Ura}
use mir.Syntax.{Ty, ty_ptr}
use mir.Val.{Val, WT, has_ty}
use types.Logic.{Logic}
use prog.Model.{Model}
use contract.Running.{Running, tables}
use denote.RawPtr.{Ptr, block_ptr, null_ptr, ptr_val}
use denote.Triple.Table
use sound.WpLaws

-- a machine value has a type's layout
abbrev pub Good : Ty → Val → Type 0
Good τ v = T (has_ty τ v) × WT v

pub Ptr-Good : (p : Ptr) → Good ty_ptr (ptr_val p)
Ptr-Good (block_ptr b o) = (tt, tt)
Ptr-Good null_ptr = (tt, record { fits = lit< tt })

-- a call may be framed
pub fm : {M : Type 1} {𝓤 : Ura M} (𝓛 : Logic 𝓤) (𝓜 : Model 𝓤 𝓛.H) (𝓡 : Running 𝓤 𝓛.H 𝓜)
    → sound.WpLaws.FmC 𝓤 𝓛.H 𝓛.laws ((tables 𝓤 𝓛.H 𝓜 𝓡 𝓡.env).C)
fm {M} {𝓤} 𝓛 𝓜 𝓡 f = denote.Triple.Table.framed 𝓤 𝓛.H 𝓜 (tables 𝓤 𝓛.H 𝓜 𝓡 𝓡.env) f
