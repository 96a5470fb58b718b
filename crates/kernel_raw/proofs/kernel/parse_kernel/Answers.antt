use Rattle.std.proofs.Common.{◌≡◌, ℕ, ◌+◌, ◌<◌, ◌≤◌, ◌^◌, ◌-◌, List, length, map, take, drop, slice_get, Err, length-drop, sym, ◌∙◌, ap, subst, arith}
use Rattle.std.proofs.lemmas.List.{length-map}
use Rattle.frame_parser.specs.Notes.{events_of}
use Rattle.frame_grammar.specs.Sentences.{IsEnded, IsOnlySentence, IsFault}
use Rattle.frame_grammar.specs.declared.symbols.Nonterminal.TheVariants.{Kernel}
use Rattle.kernel_text.specs.declared.mark.Mark.{Mark}
use Rattle.kernel_text.specs.Marks.{kind_of, tokens_in}
use Rattle.kernel_text.specs.Tokens.{tokens_of, up_to_bad, token_line, kinds, NamesAreText}
use Rattle.kernel_raw.specs.RawEvents.{SpellsRaw}
use Rattle.kernel_raw.proofs.Derived.Names.{names_stand}
use Rattle.kernel_raw.proofs.Derived.NameTexts.{names_are_text-drop}
use Rattle.kernel_text.proofs.Tokens.Lexed.{lexed-few, lexed-text}
use Rattle.kernel_text.proofs.Marks.{length-tokens_in, kinds-tokens_in}
use Rattle.kernel_raw.proofs.Derived.Parsing.{ahead_is, ahead_tokens, ahead_lines, ahead_ended, sentence_spells, stops}
use Rattle.kernel_raw.proofs.kernel.parse_kernel.Goals as goal

-- there are about as many tokens as bytes
few_marks : (source : List ℕ) (marks : List Mark) → tokens_in source 1 marks ≡ up_to_bad (tokens_of source) → length marks ≤ length source + 2
few_marks source marks lexed = omega (arith, length-tokens_in source 1 marks, ap length lexed, lexed-few source)

-- their lines can be counted
few_lines : (source : List ℕ) (marks : List Mark) (at line : ℕ) → tokens_in source 1 marks ≡ up_to_bad (tokens_of source) → length source ≤ 16777216
    → at < length marks →
    ((source : List ℕ) → line ≡ token_line (slice_get (tokens_in source 1 marks) at)) → line + length (take (length marks - at) (drop at marks)) < 2 ^ 32
few_lines source marks at line lexed few within line_is =
    omega (arith, few_marks source marks lexed, ahead_lines source marks at line within (line_is source), few)

-- the line of a place is that of the same place
line_moved : (marks : List Mark) (at other line : ℕ) → at ≡ other → ((source : List ℕ) → line ≡ token_line (slice_get (tokens_in source 1 marks) at)) →
    (source : List ℕ) → line ≡ token_line (slice_get (tokens_in source 1 marks) other)
line_moved marks at other line same line_is source = line_is source ∙ ap (λ n. token_line (slice_get (tokens_in source 1 marks) n)) same

-- the parser has seen the kinds of the tokens from the place on
ahead_kinds : (source : List ℕ) (marks : List Mark) (at line : ℕ) → at < length marks
    → ((source : List ℕ) → line ≡ token_line (slice_get (tokens_in source 1 marks) at)) →
    map kind_of (take (length marks - at) (drop at marks)) ≡ kinds (drop at (tokens_in source 1 marks))
ahead_kinds source marks at line within line_is =
    sym (kinds-tokens_in source line (take (length marks - at) (drop at marks))) ∙ ap kinds (ahead_tokens source marks at line within (line_is source))

pub line_at-line-requires : goal.line_at-line-requires
line_at-line-requires c = omega (arith, few_marks c.args.source.now c.args.marks.now c.requires.lexed, c.requires.few)

pub parse-requires-clause-few : goal.parse-requires-clause-few
parse-requires-clause-few c =
    omega (
      arith,
      ap length (ahead_is c.args.marks.now c.index.result),
      length-drop c.index.result c.args.marks.now,
      few_marks c.args.source.now c.args.marks.now c.requires.lexed,
      c.requires.few,
    )

pub parse-requires-clause-ended : goal.parse-requires-clause-ended
parse-requires-clause-ended c =
    let source = c.args.source.now in
    let within = subst (λ ts. c.index.result < length ts) c.requires.lexed
    (omega (arith, length-tokens_in source 1 c.args.marks.now, c.requires.within, c.index.ensures)) in
    subst IsEnded (sym (ahead_kinds source c.args.marks.now c.index.result c.line_at-line.result (omega (arith, c.requires.within, c.index.ensures))
    (line_moved c.args.marks.now _ _ c.line_at-line.result (sym c.index.ensures) c.line_at-line.ensures)
    ∙ ap (λ ts. kinds (drop c.index.result ts)) c.requires.lexed))
    (ahead_ended source c.index.result within)

pub refusal-requires : goal.refusal-requires
refusal-requires c = few_lines c.args.source.now c.args.marks.now c.index.result c.line_at-line.result c.requires.lexed c.requires.few
    (omega (arith, c.requires.within, c.index.ensures)) (line_moved c.args.marks.now _ _ c.line_at-line.result (sym c.index.ensures) c.line_at-line.ensures)

pub returns-in-Err-clause-fault : goal.returns-in-Err-clause-fault
returns-in-Err-clause-fault c line kind told =
    let source = c.args.source.now in
    let tokens = tokens_in source 1 c.args.marks.now in
    let ahead = ahead_tokens source c.args.marks.now c.index.result c.line_at-line.result (omega (arith, c.requires.within, c.index.ensures))
    (line_moved c.args.marks.now _ _ c.line_at-line.result (sym c.index.ensures) c.line_at-line.ensures source) ∙ ap (λ n. drop n tokens) c.index.ensures in
    stops tokens _ c.args.at c.in-Err.error c.refusal.result line kind (c.refusal.ensures source) ahead
    (λ place is. subst (λ ks. IsFault Kernel ks place) (sym (kinds-tokens_in source c.line_at-line.result _)) (c.in-Err.ensures.fault place (ap Err is)))
    (cc)

pub raw_kernel-requires-clause-few : goal.raw_kernel-requires-clause-few
raw_kernel-requires-clause-few c = few_lines c.args.source.now c.args.marks.now c.index.result c.line_at-line.result c.requires.lexed c.requires.few
    (omega (arith, c.requires.within, c.index.ensures)) (line_moved c.args.marks.now _ _ c.line_at-line.result (sym c.index.ensures) c.line_at-line.ensures)

pub raw_kernel-requires-clause-kernel : goal.raw_kernel-requires-clause-kernel
raw_kernel-requires-clause-kernel c =
    let events = events_of c.in-Ok.sentence.events.items in
    rw c.deref.ensures.value
    (sentence_spells _ _ events
    (subst (λ ks. IsOnlySentence Kernel ks c.in-Ok.sentence.read events) (sym (kinds-tokens_in c.args.source.now c.line_at-line.result _))
    c.in-Ok.ensures.sentence))

pub raw_kernel-requires-clause-text : goal.raw_kernel-requires-clause-text
raw_kernel-requires-clause-text c =
    let source = c.args.source.now in
    let tokens = tokens_in source 1 c.args.marks.now in
    let text = names_are_text-drop source c.index.result tokens (subst (NamesAreText source) (sym c.requires.lexed) (lexed-text source)) in
    subst (NamesAreText source) (sym (ahead_tokens source c.args.marks.now c.index.result c.line_at-line.result
    (omega (arith, c.requires.within, c.index.ensures)) (line_moved c.args.marks.now _ _ c.line_at-line.result
    (sym c.index.ensures) c.line_at-line.ensures source))) text

pub raw_kernel-requires-clause-named : goal.raw_kernel-requires-clause-named
raw_kernel-requires-clause-named c =
    let events = events_of c.in-Ok.sentence.events.items in
    rw c.deref.ensures.value
    (names_stand _ _ _ events
    (subst (λ ks. IsOnlySentence Kernel ks c.in-Ok.sentence.read events) (sym (kinds-tokens_in c.args.source.now c.line_at-line.result _))
    c.in-Ok.ensures.sentence))

pub overflow_add-place : goal.overflow_add-place
overflow_add-place c =
    let ahead = take (length c.args.marks.now - c.index.result) (drop c.index.result c.args.marks.now) in
    omega (
      arith,
      c.in-Ok.ensures.sentence.within,
      length-map ahead kind_of,
      ap length (ahead_is c.args.marks.now c.index.result),
      length-drop c.index.result c.args.marks.now,
      few_marks c.args.source.now c.args.marks.now c.requires.lexed,
      c.requires.few,
      c.requires.within,
      c.index.ensures,
      c.place.ensures,
    )

pub returns-clause-kernel : goal.returns-clause-kernel
returns-clause-kernel c =
    let source = c.args.source.now in
    let marks = c.args.marks.now in
    let tokens = tokens_in source 1 marks in
    let raw = c.in_ok-raw.ensures in
    let events = events_of c.in-Ok.sentence.events.items in
    record {
      events = events;
      read = c.in-Ok.sentence.read;
      sentence = subst (λ ks. IsOnlySentence Kernel ks c.in-Ok.sentence.read events)
          (ahead_kinds source marks c.index.result c.line_at-line.result (omega (arith, c.requires.within, c.index.ensures))
          (line_moved c.args.marks.now _ _ c.line_at-line.result (sym c.index.ensures) c.line_at-line.ensures)
          ∙ ap (λ n. kinds (drop n tokens)) c.index.ensures) c.in-Ok.ensures.sentence;
      spells = subst (λ notes. SpellsRaw (events_of notes) c.in_ok-raw.raw) c.deref.ensures.value raw.spelled;
      within = raw.parsed.is_raw.within;
      source_is = raw.source;
      tokens_are = (λ i. tokens_in (raw.source i) (raw.line i) (raw.marks i))
          ∙ ahead_tokens source marks c.index.result c.line_at-line.result (omega (arith, c.requires.within, c.index.ensures))
          (line_moved c.args.marks.now _ _ c.line_at-line.result (sym c.index.ensures) c.line_at-line.ensures source)
          ∙ ap (λ n. drop n tokens) c.index.ensures;
      next_is = c.of.ensures ∙ ap (λ n. n + c.in-Ok.sentence.read) c.place.ensures;
    }
