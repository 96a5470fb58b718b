-- The kinds of a file's tokens, as a parser takes them.
use Rattle.std.proofs.Common.{◌≡◌, ◌≢◌, ℕ, zero, suc, ◌+◌, ◌-◌, ◌≤◌, List, [], ◌∷◌, ◌++◌, length, map, Option, Some, None, sym, ◌∙◌, ap, subst, arith, length-append}
use Rattle.std.proofs.lemmas.List.{length-map, map-append}
use Rattle.std.proofs.lemmas.List.Elements.{All-map}
use Rattle.frame_grammar.specs.declared.token_kind.TokenKind.{TokenKind}
use Rattle.frame_grammar.specs.declared.token_kind.TokenKind.TheVariants.{End}
use Rattle.frame_grammar.specs.declared.symbols.Nonterminal.TheVariants.{File}
use Rattle.frame_grammar.specs.declared.symbols.Event.{Event}
use Rattle.frame_grammar.specs.Sentences.{IsEnded, IsOnlySentence}
use Rattle.frame_grammar.proofs.Ends.{file_is_all}
use Rattle.kernel_text.specs.declared.token.Token.{Token}
use Rattle.kernel_text.specs.Tokens.{front_kind, front_len, token_at, line_after, mark_len, tokens_from, tokens_of}
use Rattle.kernel_text.proofs.Tokens.TokenLemmas.{tokens_of-ended}

-- the kinds of tokens
abbrev pub kinds_of : List Token → List TokenKind
kinds_of tokens = map (λ token. token.kind) tokens

token_at-few : (found : Option TokenKind) (start end line : ℕ) → length (token_at found start end line) ≤ 1
token_at-few None start end line = omega arith
token_at-few (Some kind) start end line = omega arith

tokens_from-few : (begun place line : ℕ) (bytes : List ℕ) → length (tokens_from begun place line bytes) ≤ length bytes + 1
unfolding tokens_from
tokens_from-few begun place line [] = omega arith
tokens_from-few (suc begun) place line (byte ∷ bytes) = omega (arith, tokens_from-few begun (place + 1) line bytes)
tokens_from-few zero place line (byte ∷ bytes) =
    let len = front_len (byte ∷ bytes) in
    let word = token_at (front_kind (byte ∷ bytes)) place (place + len) line in
    let behind = tokens_from (len - 1) (place + 1) (line_after byte line) bytes in
    let one = token_at-few (front_kind (byte ∷ bytes)) place (place + len) line in
    let more = tokens_from-few (len - 1) (place + 1) (line_after byte line) bytes in
    let joined : length (word ++ behind) ≡ length word + length behind = length-append word behind in
    omega arith

-- a file has at most one token more than bytes
pub tokens_of-few : (source : List ℕ) → length (tokens_of source) ≤ length source + 1
unfolding tokens_of
tokens_of-few source = tokens_from-few (mark_len source) 0 1 source

kinds_of-is : (source : List ℕ) → kinds_of (tokens_of source) ≡ kinds_of (tokens_of-ended source).front ++ End ∷ []
kinds_of-is source =
    let ended = tokens_of-ended source in
    ap kinds_of ended.whole ∙ map-append (λ (token : Token). token.kind) ended.front (ended.last ∷ []) ∙ ap (λ k. kinds_of ended.front ++ k ∷ []) ended.last_is

-- the last kind is the end
pub kinds_of-ended : (source : List ℕ) → IsEnded (kinds_of (tokens_of source))
kinds_of-ended source = (kinds_of (tokens_of-ended source).front, kinds_of-is source)

-- the file that the tokens begin with is all of them
pub file_is_whole : (source : List ℕ) (n : ℕ) (events : List Event) → IsOnlySentence File (kinds_of (tokens_of source)) n events → n ≡ length (tokens_of source)
file_is_whole source n events found =
    let ended = tokens_of-ended source in
    let kinds = kinds_of ended.front in
    let all = file_is_all kinds n events (All-map (λ k. k ≢ End) (λ (token : Token). token.kind) ended.front ended.no_other)
    (subst (λ ks. IsOnlySentence File ks n events) (kinds_of-is source) found) in
    all ∙ sym (ap length (kinds_of-is source)) ∙ length-map (tokens_of source) (λ (token : Token). token.kind)
