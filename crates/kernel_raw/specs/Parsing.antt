-- What it means that a kernel stands among the tokens of a file.
use Rattle.std.specs.Prelude.{◌≡◌, ℕ, ◌+◌, List, drop, slice_get, Option, Some, None}
use Rattle.frame_grammar.specs.declared.symbols.Nonterminal.TheVariants.{Kernel}
use Rattle.frame_grammar.specs.declared.symbols.Event.{Event}
use Rattle.frame_grammar.specs.Sentences.{IsOnlySentence, IsFault}
use Rattle.frame_ast.specs.declared.kernel.FaultKind.TheVariants as kind
use Rattle.frame_parser.specs.declared.parser.ParseError.{ParseError}
use Rattle.frame_parser.specs.declared.parser.ParseError.TheVariants as error
use Rattle.kernel_text.specs.Tokens.{kinds}
use Rattle.kernel_text.specs.declared.token.Token.{Token}
use Rattle.kernel_raw.specs.declared.fault.KernelFault.{KernelFault}
use Rattle.kernel_raw.specs.declared.fault.KernelFault.TheVariants as fault
use Rattle.kernel_raw.specs.declared.raw.RawKernel.{RawKernel}
use Rattle.kernel_raw.specs.RawTexts.{raw_tokens}
use Rattle.kernel_raw.specs.RawEvents.{SpellsRaw, IsWithin}

-- A kernel of this raw form stands among the tokens from one place to another, and no other kernel begins there.
pub record StandsAt (source : List ℕ) (tokens : List Token) (at next : ℕ) (raw : RawKernel) : Type 0 where
  pub events : List Event
  pub read : ℕ
  pub sentence : IsOnlySentence Kernel (kinds (drop at tokens)) read events
  pub spells : SpellsRaw events raw
  pub within : IsWithin raw
  pub source_is : raw.source.now ≡ source
  pub tokens_are : raw_tokens raw ≡ drop at tokens
  pub next_is : next ≡ at + read

-- No kernel stands there, and a token of this line is the first that continues none.
pub record StopsAt (tokens : List Token) (at line : ℕ) : Type 0 where
  pub place : ℕ
  pub token : Token
  pub fault : IsFault Kernel (kinds (drop at tokens)) place
  pub stands : slice_get tokens (at + place) ≡ Some token
  pub on_line : token.line ≡ line

abbrev pub line_of : Option Token → ℕ
line_of None = 0
line_of (Some token) = token.line

-- how what the parser finds is told
abbrev pub refusal_of : ParseError → List Token → KernelFault
refusal_of error.Memory ahead = fault.NoMemory
refusal_of (error.Syntax place) ahead = fault.Refused (line_of (slice_get ahead place)) kind.Syntax
