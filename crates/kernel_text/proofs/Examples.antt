-- The definition of a file's tokens, tried on small files.
use Rattle.std.proofs.Common.{◌≡◌, ℕ, [], ◌∷◌, ◌++◌, refl, codes}
use Rattle.frame_grammar.specs.declared.token_kind.TokenKind.{TokenKind}
use Rattle.frame_grammar.specs.declared.token_kind.TokenKind.TheVariants.{Name, Number, Text, Line, End, Bad, DotDot, Less, LessEqual, Temp, OpenBrace, Assign}
use Rattle.kernel_text.specs.declared.token.Token.{Token}
use Rattle.kernel_text.specs.Spellings.{spelling_of, symbols, reserved_words}
use Rattle.kernel_text.specs.Words.{is_name, is_number, is_text, closes_text, is_blank, is_comment, kind_of}
use Rattle.kernel_text.specs.Tokens.{longest_up_to, front_len, front_kind, tokens_from, tokens_of}

abbrev at : TokenKind → ℕ → ℕ → ℕ → Token
at kind start end line = record { kind = kind; start = start; end = end; line = line }

an_empty_file : tokens_of [] ≡ at End 0 0 1 ∷ []
unfolding tokens_of tokens_from
an_empty_file = refl

a_range : tokens_of (codes "1..2") ≡ at Number 0 1 1 ∷ at DotDot 1 3 1 ∷ at Number 3 4 1 ∷ at End 4 4 1 ∷ []
unfolding spelling_of symbols reserved_words is_name is_number is_text closes_text is_blank is_comment kind_of longest_up_to front_len front_kind tokens_from
    tokens_of
a_range = refl

two_lines : tokens_of (codes "4temp" ++ 10 ∷ codes "x<=<") ≡ at Number 0 1 1 ∷ at Temp 1 5 1 ∷ at Line 5 6 1 ∷ at Name 6 7 2 ∷ at LessEqual 7 9 2
    ∷ at Less 9 10 2 ∷ at End 10 10 2 ∷ []
unfolding spelling_of symbols reserved_words is_name is_number is_text closes_text is_blank is_comment kind_of longest_up_to front_len front_kind tokens_from
    tokens_of
two_lines = refl

a_mark : tokens_of (0xEF ∷ 0xBB ∷ 0xBF ∷ codes "jobs # =" ++ 10 ∷ []) ≡ at Name 3 7 1 ∷ at Line 11 12 1 ∷ at End 12 12 2 ∷ []
unfolding spelling_of symbols reserved_words is_name is_number is_text closes_text is_blank is_comment kind_of longest_up_to front_len front_kind tokens_from
    tokens_of
a_mark = refl

texts : tokens_of (codes "=" ++ 34 ∷ codes "a b" ++ 34 ∷ 34 ∷ 34 ∷ 255 ∷ codes "{") ≡ at Assign 0 1 1 ∷ at Text 1 6 1 ∷ at Bad 6 7 1 ∷ at Bad 7 8 1
    ∷ at Bad 8 9 1 ∷ at OpenBrace 9 10 1 ∷ at End 10 10 1 ∷ []
unfolding spelling_of symbols reserved_words is_name is_number is_text closes_text is_blank is_comment kind_of longest_up_to front_len front_kind tokens_from
    tokens_of
texts = refl
