-- Tokens of one letter.
use Rattle.std.specs.Prelude.{ℕ, ◌+◌, ◌&&◌, not, Bool, true, false, List, length, nat_lt, slice_index}
use Rattle.std.specs.Char.{is_ascii_alphabetic}
use Rattle.frame_grammar.specs.declared.token_kind.TokenKind.{TokenKind}
use Rattle.frame_grammar.specs.declared.token_kind.TokenKind.TheVariants.{End}
use Rattle.kernel_text.specs.declared.mark.Mark.{Mark}
use Rattle.kernel_text.specs.Marks.{kind_of, start_of}
use Rattle.kernel_text.specs.Words.{continues_name}

abbrev pub is_end : TokenKind → Bool
is_end End = true
is_end _ = false

-- whether a token is a letter that the next byte of the file doesn't continue
abbrev pub is_letter : List ℕ → Mark → Bool
is_letter source mark =
    let start = start_of mark in
    nat_lt (start + 1) (length source)
    && (not (is_end (kind_of mark)) && (is_ascii_alphabetic (slice_index source start)
    && not (continues_name (slice_index source (start + 1)))))
