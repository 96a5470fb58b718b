-- The tokens of a raw kernel, and what stands at their places: kinds, bytes, lines, values and depths.
use Rattle.std.specs.Prelude.{ℕ, List, Option, Some, None, slice_get, unwrap_or}
use Rattle.frame_grammar.specs.declared.token_kind.TokenKind.{TokenKind}
use Rattle.frame_grammar.specs.declared.token_kind.TokenKind.TheVariants as token
use Rattle.kernel_text.specs.declared.token.Token.{Token}
use Rattle.kernel_raw.specs.declared.raw.RawKernel.{RawKernel}
use Rattle.kernel_text.specs.Marks.{tokens_in}
use Rattle.kernel_text.specs.Tokens.{token_text, token_line}
use Rattle.kernel_text.specs.Numbers.{value_of}

-- the tokens of a kernel
abbrev pub raw_tokens : RawKernel → List Token
raw_tokens raw = tokens_in raw.source.now raw.line raw.marks.now

-- the kind of a token; where none stands it is the end of the file
abbrev pub kind_of_token : Option Token → TokenKind
kind_of_token None = token.End
kind_of_token (Some t) = t.kind

-- the kind of the token at a place
abbrev pub kind_at : RawKernel → ℕ → TokenKind
kind_at raw at = kind_of_token (slice_get (raw_tokens raw) at)

-- the bytes of the token at a place
abbrev pub text_at : RawKernel → ℕ → List ℕ
text_at raw at = token_text raw.source.now (slice_get (raw_tokens raw) at)

-- the line of the token at a place
abbrev pub line_at : RawKernel → ℕ → ℕ
line_at raw at = token_line (slice_get (raw_tokens raw) at)

-- the value of the Number at a place
abbrev pub value_at : RawKernel → ℕ → ℕ
value_at raw at = value_of (text_at raw at)

-- how deep node i stands among all nodes of the kernel, also among those that are not kept
abbrev pub depth_at : RawKernel → ℕ → ℕ
depth_at raw i = unwrap_or (slice_get raw.depths.items i) 0
