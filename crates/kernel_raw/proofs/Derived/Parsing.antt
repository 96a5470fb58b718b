-- The tokens from a place on.
use Rattle.std.proofs.Common.{◌≡◌, ℕ, ◌+◌, ◌-◌, ◌<◌, ◌≤◌, ◌^◌, List, [], ◌∷◌, length, take, drop, slice_get, get_or, get_or-drop, Option, Some, None, option_map, refl, subst, take_all, length-drop, length-take, length-append, sym, ◌∙◌, ap, arith}
use Rattle.std.proofs.lemmas.List.{drop-map, length-map, drop-append-le}
use Rattle.std.proofs.lemmas.Option.{slice_get-get_or, slice_get-map, slice_get_within, get_or_from_slice_get}
use Rattle.frame_grammar.specs.declared.token_kind.TokenKind.TheVariants.{End, Bad}
use Rattle.frame_grammar.specs.declared.symbols.Nonterminal.TheVariants.{Kernel}
use Rattle.frame_grammar.specs.declared.symbols.Event.{Event}
use Rattle.frame_grammar.specs.Sentences.{IsEnded, IsOnlySentence, IsFault}
use Rattle.kernel_text.specs.declared.token.Token.{Token}
use Rattle.kernel_text.specs.declared.mark.Mark.{Mark}
use Rattle.kernel_text.specs.Marks.{tokens_in}
use Rattle.kernel_text.specs.Tokens.{token_line, tokens_of, up_to_bad, kinds}
use Rattle.kernel_text.proofs.Marks.{drop-tokens_in, line-tokens_in, lines_in-le}
use Rattle.kernel_raw.specs.RawEvents.{IsKernel}
use Rattle.kernel_raw.specs.Parsing.{StopsAt, line_of, refusal_of}
use Rattle.kernel_raw.specs.declared.fault.KernelFault.{KernelFault}
use Rattle.kernel_raw.specs.declared.fault.KernelFault.TheVariants as refusal
use Rattle.frame_ast.specs.declared.kernel.FaultKind.{FaultKind}
use Rattle.frame_ast.specs.declared.kernel.FaultKind.TheVariants as syntax
use Rattle.frame_parser.specs.declared.parser.ParseError.{ParseError}
use Rattle.frame_parser.specs.declared.parser.ParseError.TheVariants as stop
use Rattle.kernel_text.proofs.Tokens.Lexed.{lexed-ended, lexed-few}
use Rattle.kernel_raw.proofs.Derived.Meanings.{is_kernel_up}
use Rattle.kernel_raw.proofs.Derived.Derivations.{kernel_derived}

pub ahead_is : (marks : List Mark) (at : ℕ) → take (length marks - at) (drop at marks) ≡ drop at marks
ahead_is marks at = take_all (length marks - at) (drop at marks) (omega (arith, length-drop at marks))

-- they are the file's
pub ahead_tokens : (source : List ℕ) (marks : List Mark) (at line : ℕ) → at < length marks → line ≡ token_line (slice_get (tokens_in source 1 marks) at) →
    tokens_in source line (take (length marks - at) (drop at marks)) ≡ drop at (tokens_in source 1 marks)
ahead_tokens source marks at line within line_is =
    (λ i. tokens_in source (line_is i) (ahead_is marks at i))
    ∙ ap (λ l. tokens_in source l (drop at marks)) (line-tokens_in source 1 marks at within)
    ∙ sym (drop-tokens_in source 1 at marks)

-- their lines can be counted
pub ahead_lines : (source : List ℕ) (marks : List Mark) (at line : ℕ) → at < length marks → line ≡ token_line (slice_get (tokens_in source 1 marks) at) →
    line + length (take (length marks - at) (drop at marks)) ≤ length marks + 1
ahead_lines source marks at line within line_is =
    omega (
      arith,
      line_is,
      line-tokens_in source 1 marks at within,
      lines_in-le (take at marks),
      length-take at marks,
      ap length (ahead_is marks at),
      length-drop at marks,
    )

-- they end as the file does
pub ahead_ended : (source : List ℕ) (at : ℕ) → at < length (up_to_bad (tokens_of source)) → IsEnded (kinds (drop at (up_to_bad (tokens_of source))))
ahead_ended source at within =
    let all = up_to_bad (tokens_of source) in
    let e = lexed-ended source in
    let size : length (kinds all) ≡ length e.0 + 1 = ap length e.1 ∙ length-append e.0 (End ∷ []) in
    let le : at ≤ length e.0 = omega (arith, size, length-map all (λ token. token.kind)) in
    (drop at e.0, sym (drop-map (λ token. token.kind) at all) ∙ ap (drop at) e.1 ∙ drop-append-le at e.0 (End ∷ []) le)

pub ahead_few : (source : List ℕ) (at : ℕ) → length source ≤ 16777216 → length (drop at (up_to_bad (tokens_of source))) < 2 ^ 25
ahead_few source at few = omega (arith, lexed-few source, length-drop at (up_to_bad (tokens_of source)))

-- the events of a sentence spell a kernel among the tokens
pub sentence_spells : (tokens : List Token) (read : ℕ) (events : List Event) → IsOnlySentence Kernel (kinds tokens) read events
    → IsKernel events (length tokens)
sentence_spells tokens read events found =
    let k = kernel_derived found.sentence in
    is_kernel_up _ (length tokens) events (omega (arith, length-take read (kinds tokens), length-map tokens (λ token. token.kind))) k

found : (tokens : List Token) (at place line : ℕ) (token : Option Token) → IsFault Kernel (kinds (drop at tokens)) place
    → slice_get (drop at tokens) place ≡ token → line_of token ≡ line → StopsAt tokens at line
found tokens at place line None fault is told =
    let none = slice_get-get_or (kinds (drop at tokens)) place Bad fault.within in
    let clash = sym none ∙ slice_get-map (λ (t : Token). t.kind) (drop at tokens) place ∙ ap (option_map (λ (t : Token). t.kind)) is in
    cc
found tokens at place line (Some token) fault is told =
    let within = slice_get_within (drop at tokens) place token is in
    let same : get_or tokens (at + place) token ≡ token = sym (get_or-drop at tokens place token)
    ∙ get_or_from_slice_get (drop at tokens) place token token is in
    record {
      place = place;
      token = token;
      fault = fault;
      stands = slice_get-get_or tokens (at + place) token (omega (arith, within, length-drop at tokens)) ∙ ap Some same;
      on_line = told;
    }

-- the token with which the parser stops is told by its line
pub stops : (tokens ahead : List Token) (at : ℕ) (error : ParseError) (refused : KernelFault) (line : ℕ) (kind : FaultKind) → refused ≡ refusal_of error ahead
    → ahead ≡ drop at tokens →
    ((place : ℕ) → error ≡ stop.Syntax place → IsFault Kernel (kinds ahead) place) → refused ≡ refusal.Refused line kind
    → (kind ≡ syntax.Syntax) × StopsAt tokens at line
stops tokens ahead at stop.Memory refused line kind is ahead_is fault told = let clash = sym is ∙ told in cc
stops tokens ahead at (stop.Syntax place) refused line kind is ahead_is fault told =
    let same : refusal.Refused (line_of (slice_get ahead place)) syntax.Syntax ≡ refusal.Refused line kind = sym is ∙ told in
    let line_same : line_of (slice_get ahead place) ≡ line = cc in (
      cc,
      found tokens at place line _ (subst (λ ts. IsFault Kernel (kinds ts) place) ahead_is (fault place refl)) refl
          (ap (λ ts. line_of (slice_get ts place)) (sym ahead_is) ∙ line_same),
    )
