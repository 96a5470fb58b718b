-- Names that are text.
use Rattle.std.specs.Prelude.{◌≡◌, ◌<◌, ◌^◌, ◌+◌, ℕ, List, length, slice_get, Some, IsUtf8}
use Rattle.frame_grammar.specs.declared.token_kind.TokenKind.{TokenKind}
use Rattle.frame_grammar.specs.declared.token_kind.TokenKind.TheVariants.{Name}
use Rattle.frame_grammar.specs.declared.symbols.Action.TheVariants as action
use Rattle.frame_grammar.specs.declared.symbols.Event.{Event}
use Rattle.kernel_raw.specs.declared.raw.RawParam.{RawParam}
use Rattle.kernel_raw.specs.declared.raw.RawKernel.{RawKernel}
use Rattle.kernel_raw.specs.RawTexts.{text_at}
use Rattle.kernel_raw.specs.RawEvents.{IsRaw}

-- each name of which events tell stands at a token that is a name
abbrev pub NamesStand : List TokenKind → List Event → Type 0
NamesStand kinds events =
    (k : ℕ) (event : Event) → slice_get events k ≡ Some event → event.action ≡ action.Name →
    slice_get kinds event.place ≡ Some Name

-- the names of a kernel and of its parameters are text
pub record IsLegible (raw : RawKernel) : Type 0 where
  pub name : IsUtf8 (text_at raw raw.name)
  pub params : (k : ℕ) (p : RawParam) → slice_get raw.params.items k ≡ Some p → IsUtf8 (text_at raw p.name)

-- what reading a kernel of a file gives: its raw form, whose names are text and whose lines can be counted
pub record IsParsed (raw : RawKernel) : Type 0 where
  pub is_raw : IsRaw raw
  pub legible : IsLegible raw
  pub few : raw.line + length raw.marks.now < 2 ^ 32
