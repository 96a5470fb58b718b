-- The tokens that a lexer answers, which stops at the first Bad one: what a parser finds among them stands among all.
use Rattle.std.proofs.Common.{◌≡◌, ℕ, ◌+◌, ◌<◌, ◌≤◌, List, [], ◌∷◌, ◌++◌, length, sym, ◌∙◌, ap, subst, arith, length-append, get_or}
use Rattle.std.proofs.lemmas.List.{length-map, map-append}
use Rattle.std.proofs.Math.ListN.{get_or-append}
use Rattle.frame_grammar.specs.declared.token_kind.TokenKind.TheVariants.{Name, End, Bad}
use Rattle.frame_grammar.specs.declared.symbols.Event.{Event}
use Rattle.frame_grammar.specs.declared.symbols.Nonterminal.{Nonterminal}
use Rattle.frame_grammar.specs.declared.symbols.Nonterminal.TheVariants.{File}
use Rattle.frame_grammar.specs.Sentences.{IsEnded, IsOnlySentence, IsFault}
use Rattle.kernel_text.specs.declared.token.Token.{Token}
use Rattle.kernel_text.specs.Tokens.{end_at, up_to_bad, tokens_of, NamesAreText}
use Rattle.kernel_text.proofs.Tokens.Sentences.{kinds_of, kinds_of-ended, tokens_of-few, file_is_whole}
use Rattle.kernel_text.proofs.Tokens.NameTexts.{names_are_text}
use Rattle.kernel_text.proofs.Tokens.Cuts.{whole, at_bad, cut_of, cut-few, cut-keeps}
use Rattle.kernel_text.proofs.Tokens.BadTokens.{sentence_short, only_sentence_stands, fault_stands, fault_short}

-- a lexer answers at most two tokens more than bytes
pub lexed-few : (source : List ℕ) → length (up_to_bad (tokens_of source)) ≤ length source + 2
lexed-few source = omega (arith, cut-few (tokens_of source), tokens_of-few source)

-- the names among them are text
pub lexed-text : (source : List ℕ) → NamesAreText source (up_to_bad (tokens_of source))
lexed-text source k token is named =
    names_are_text source k token (cut-keeps (tokens_of source) k token is (λ end. let clash : Name ≡ End = sym named ∙ end in cc)) named

-- the kinds of the first tokens up to a Bad one, and of those behind it
kinds_at : (front : List Token) (bad : Token) (rest : List Token) → bad.kind ≡ Bad
    → kinds_of ((front ++ bad ∷ []) ++ rest) ≡ (kinds_of front ++ Bad ∷ []) ++ kinds_of rest
kinds_at front bad rest is =
    map-append (λ (token : Token). token.kind) (front ++ bad ∷ []) rest
    ∙ ap (λ ks. ks ++ kinds_of rest) (map-append (λ (token : Token). token.kind) front (bad ∷ []) ∙ ap (λ k. kinds_of front ++ k ∷ []) is)

-- they end as a file does
pub lexed-ended : (source : List ℕ) → IsEnded (kinds_of (up_to_bad (tokens_of source)))
lexed-ended source =
    elim (cut_of (tokens_of source)) [
      | whole is ↦ subst (λ ts. IsEnded (kinds_of ts)) (sym is) (kinds_of-ended source)
      | at_bad front bad rest bad_is is cut ↦
          (kinds_of front ++ Bad ∷ [], ap kinds_of cut ∙ kinds_at front bad (end_at bad.end bad.line ∷ []) bad_is)
    ]

-- where they are a file, they are all
pub lexed_file_is_whole : (source : List ℕ) (n : ℕ) (events : List Event) → IsOnlySentence File (kinds_of (up_to_bad (tokens_of source))) n events →
    up_to_bad (tokens_of source) ≡ tokens_of source
lexed_file_is_whole source n events found =
    elim (cut_of (tokens_of source)) [
      | whole is ↦ is
      | at_bad front bad rest bad_is is cut ↦
          let end = end_at bad.end bad.line ∷ [] in
          let there = subst (λ ks. IsOnlySentence File ks n events) (ap kinds_of cut ∙ kinds_at front bad end bad_is) found in
          let le = sentence_short File (kinds_of front) (kinds_of end) (kinds_of rest) n events there.sentence in
          let all = only_sentence_stands File (kinds_of front) (kinds_of end) (kinds_of rest) n events there in
          let size = file_is_whole source n events (subst (λ ks. IsOnlySentence File ks n events)
          (sym (ap kinds_of is ∙ kinds_at front bad rest bad_is)) all) in
          absurd (omega (
            arith,
            le,
            size,
            length-map front (λ (token : Token). token.kind),
            ap length is,
            length-append (front ++ bad ∷ []) rest,
            length-append front (bad ∷ []),
          ))
    ]

-- their first fault is that of all
pub lexed_fault_stands : (source : List ℕ) (start : Nonterminal) (place : ℕ) → IsFault start (kinds_of (up_to_bad (tokens_of source))) place →
    IsFault start (kinds_of (tokens_of source)) place
lexed_fault_stands source start place fault =
    elim (cut_of (tokens_of source)) [
      | whole is ↦ subst (λ ts. IsFault start (kinds_of ts) place) is fault
      | at_bad front bad rest bad_is is cut ↦
          let end = end_at bad.end bad.line ∷ [] in
          subst (λ ks. IsFault start ks place) (sym (ap kinds_of is ∙ kinds_at front bad rest bad_is))
          (fault_stands start (kinds_of front) (kinds_of end) (kinds_of rest) place
          (subst (λ ks. IsFault start ks place) (ap kinds_of cut ∙ kinds_at front bad end bad_is) fault))
    ]

-- it is told at the token that stands there among all
pub lexed_fault_token : (source : List ℕ) (start : Nonterminal) (place : ℕ) (d : Token) → IsFault start (kinds_of (up_to_bad (tokens_of source))) place →
    get_or (up_to_bad (tokens_of source)) place d ≡ get_or (tokens_of source) place d
lexed_fault_token source start place d fault =
    elim (cut_of (tokens_of source)) [
      | whole is ↦ ap (λ ts. get_or ts place d) is
      | at_bad front bad rest bad_is is cut ↦
          let end = end_at bad.end bad.line ∷ [] in
          let le = fault_short start (kinds_of front) (kinds_of end) (kinds_of rest) place
          (subst (λ ks. IsFault start ks place) (ap kinds_of cut ∙ kinds_at front bad end bad_is) fault) in
          let within : place < length (front ++ bad ∷ []) = omega (
            arith,
            le,
            length-map front (λ (token : Token). token.kind),
            length-append front
                (bad ∷ []),
          ) in
          ap (λ ts. get_or ts place d) cut ∙ get_or-append (front ++ bad ∷ []) end d place within
          ∙ sym (ap (λ ts. get_or ts place d) is ∙ get_or-append (front ++ bad ∷ []) rest d place within)
    ]
