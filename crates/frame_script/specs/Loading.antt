-- Which script the bytes of a file spell, or for what they are refused.
use Rattle.std.specs.Prelude.{◌≡◌, ℕ, true, List, All, slice_get, Some, None}
use Rattle.frame_ast.specs.declared.kernel.FaultKind.{FaultKind}
use Rattle.frame_ast.specs.declared.kernel.FaultKind.TheVariants.{Syntax, TooLong}
use Rattle.frame_ast.specs.declared.script.Script.{Script}
use Rattle.frame_grammar.specs.declared.symbols.Nonterminal.TheVariants.{File}
use Rattle.frame_grammar.specs.declared.symbols.Event.{Event}
use Rattle.frame_parser.specs.declared.parser.ParseError.{ParseError}
use Rattle.frame_parser.specs.declared.parser.ParseError.TheVariants as error
use Rattle.frame_grammar.specs.Sentences.{IsOnlySentence, IsFault}
use Rattle.kernel_text.specs.declared.token.Token.{Token}
use Rattle.kernel_raw.specs.declared.fault.StaticFault.{StaticFault}
use Rattle.kernel_text.specs.Tokens.{tokens_of, kinds, token_line}
use Rattle.kernel_text.specs.Marks.{IsOfKind}
use Rattle.frame_script.specs.declared.fault.LoadFault.{LoadFault}
use Rattle.frame_script.specs.declared.fault.LoadFault.TheVariants as fault
use Rattle.script_text.specs.declared.source.Source.{Source}
use Rattle.script_text.specs.Raw.{RawItems}
use Rattle.script_text.specs.Events.{SpellsItems}
use Rattle.script_text.specs.Sources.{file_tokens, line_at}
use Rattle.script_checks.specs.Faults.{Scope}
use Rattle.frame_script.specs.Files.{at_start, IsFaultless, HasFault, too_long, IsScriptOf}

-- The bytes of a file and its tokens, each by its one mark, which derive a file of these items.
pub record HasItems (bytes : List ℕ) (s : Source) (items : RawItems) : Type 0 where
  pub bytes_are : s.bytes.now ≡ bytes
  pub tokens_are : file_tokens s ≡ tokens_of bytes
  pub exact : All IsOfKind s.marks.now
  pub read : ℕ
  pub events : List Event
  pub sentence : IsOnlySentence File (kinds (tokens_of bytes)) read events
  pub spells : SpellsItems true events items

-- The bytes spell this script.
pub record Spells (bytes : List ℕ) (script : Script) : Type 0 where
  pub source : Source
  pub items : RawItems
  pub has_items : HasItems bytes source items
  pub within : too_long source items ≡ None
  pub script_is : IsScriptOf source items script

-- The tokens derive no file, and this is the line of the first token with which none goes on.
pub record HasNoSyntax (bytes : List ℕ) (line : ℕ) : Type 0 where
  pub place : ℕ
  pub token : Token
  pub fault : IsFault File (kinds (tokens_of bytes)) place
  pub stands : slice_get (tokens_of bytes) place ≡ Some token
  pub on_line : line ≡ token.line

-- The items have a static fault, and the first one is of this kind, at a token of this line.
pub record HasStaticFault (bytes : List ℕ) (line : ℕ) (kind : FaultKind) : Type 0 where
  pub source : Source
  pub items : RawItems
  pub has_items : HasItems bytes source items
  pub fault : StaticFault
  pub has_fault : HasFault source fault at_start items
  pub on_line : line ≡ line_at source fault.at
  pub of_kind : kind ≡ fault.kind

-- The items have no fault, but stand for too many statements, and the first one too many begins on this line.
pub record HasTooMany (bytes : List ℕ) (line : ℕ) : Type 0 where
  pub source : Source
  pub items : RawItems
  pub has_items : HasItems bytes source items
  pub known : Scope
  pub faultless : IsFaultless source at_start items known
  pub at : ℕ
  pub excess : too_long source items ≡ Some at
  pub on_line : line ≡ line_at source at

-- The bytes are refused for a token of this line.
pub data IsRefused (bytes : List ℕ) (line : ℕ) (kind : FaultKind) : Type 0 where
  syntax : kind ≡ Syntax → HasNoSyntax bytes line → IsRefused bytes line kind
  static : HasStaticFault bytes line kind → IsRefused bytes line kind
  too_many : kind ≡ TooLong → HasTooMany bytes line → IsRefused bytes line kind

-- What a file is refused for where the parser finds none among its tokens: syntax, on the line of the first token that
-- continues none, unless the parser ran out of memory.
abbrev pub refusal_of : ParseError → List Token → LoadFault
refusal_of error.Memory tokens = fault.NoMemory
refusal_of (error.Syntax place) tokens = fault.Refused (token_line (slice_get tokens place)) Syntax
