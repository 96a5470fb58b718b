-- What reading a file gives: the script that its bytes spell, or why they are refused.
use Rattle.std.proofs.Common.{◌≡◌, ℕ, ◌+◌, ◌<◌, Bool, true, List, All, [], ◌∷◌, length, map, reverse, Some, None, Result, Ok, Err, IfOk, refl, sym, ◌∙◌, ap, subst, arith, get_or, unwrap_or}
use Rattle.std.specs.Prelude.{All}
use Rattle.std.specs.List.{slice_get}
use Rattle.std.proofs.lemmas.List.{append-nil, length-map}
use Rattle.std.proofs.lemmas.List.Elements.{All-get_or}
use Rattle.std.proofs.lemmas.Option.{slice_get_within, slice_get-get_or, unwrap_or-slice_get}
use Rattle.frame_ast.specs.declared.kernel.FaultKind.{FaultKind}
use Rattle.frame_ast.specs.declared.kernel.FaultKind.TheVariants.{Syntax, TooLong}
use Rattle.frame_ast.specs.declared.kernel.Kernel.{Kernel as CheckedKernel}
use Rattle.frame_ast.specs.declared.script.Script.{Script}
use Rattle.frame_ast.specs.Accepted.{IsAccepted}
use Rattle.frame_ast.specs.Checked.{IsChecked}
use Rattle.frame_grammar.specs.declared.symbols.Nonterminal.TheVariants.{File}
use Rattle.frame_grammar.specs.declared.symbols.Event.{Event}
use Rattle.frame_parser.specs.declared.note.Note.{Note}
use Rattle.frame_parser.specs.Notes.{events_of}
use Rattle.frame_grammar.specs.Sentences.{IsOnlySentence, IsFault}
use Rattle.frame_parser.specs.declared.parser.ParseError.{ParseError}
use Rattle.frame_parser.specs.declared.parser.ParseError.TheVariants as stop
use Rattle.kernel_text.specs.declared.token.Token.{Token}
use Rattle.kernel_text.specs.declared.mark.Mark.{Mark}
use Rattle.kernel_text.specs.Marks.{IsOfKind, kind_of, tokens_in}
use Rattle.kernel_text.specs.Tokens.{token_line, end_at, tokens_of, up_to_bad, kinds}
use Rattle.kernel_text.proofs.Tokens.Lexed.{lexed_file_is_whole, lexed_fault_stands, lexed_fault_token}
use Rattle.kernel_text.proofs.Marks.{kinds-tokens_in}
use Rattle.frame_script.specs.declared.fault.LoadFault.{LoadFault}
use Rattle.frame_script.specs.declared.fault.LoadFault.TheVariants as load
use Rattle.script_text.specs.declared.source.Source.{Source}
use Rattle.frame_script.specs.declared.walk.Walk.{Walk}
use Rattle.script_text.specs.Raw.{RawItems, Nothing}
use Rattle.script_text.specs.Events.{SpellsItems}
use Rattle.script_text.specs.Sources.{file_tokens}
use Rattle.frame_script.specs.Files.{IsFaultless, IsScriptOf, StandFor, at_start, too_long, nothing}
use Rattle.frame_script.specs.Writing.{Completes}
use Rattle.frame_script.specs.Loading.{HasItems, Spells, IsRefused, syntax, static, too_many, refusal_of}
use Rattle.frame_script.specs.Walking.{scope_of, lists_in, LeftFaultless, IsAt, IsThrough, RefusesItems, Gathers}
use Rattle.frame_script.proofs.Writing.Items.{ends_within, ends_over}
use Rattle.frame_script.proofs.Accepting.Scripts.{accepted}
use Rattle.script_text.proofs.FileTokens.{kinds_in_file}

-- THE WHOLE IS READ

closed : (w : Walk) (items : RawItems) → length (items ∷ []) ≡ 1 + length w.outer_tests.items → reverse w.outer_tests.items ≡ []
closed w items deep = ap reverse (by w.outer_tests.items (omega (arith, deep))) where
  by : (bs : List Bool) → length bs ≡ 0 → bs ≡ []
  by [] h = refl
  by (b ∷ bs) h = cc

whole_faultless : (s : Source) (whole : RawItems) (w : Walk) → IsAt s whole w (Nothing ∷ []) → IsFaultless s at_start whole (scope_of w)
whole_faultless s whole w is =
    is.faultless (scope_of w) (subst (λ bs. LeftFaultless s (scope_of w) bs (Nothing ∷ []) (scope_of w)) (sym (closed w Nothing is.deep)) nothing)

whole_written : (s : Source) (whole : RawItems) (w : Walk) → IsAt s whole w (Nothing ∷ [])
    → Completes s w.names w.kernels (length w.literals.items) w.written (Nothing ∷ []) whole
whole_written s whole w is = is.written w.names w.kernels (λ text place h. h) (λ text k h. (h, refl))

pub script_read : (s : Source) (events : List Event) (w : Walk) (script : Script) (t : IsThrough s events w) → Gathers w script → IsScriptOf s t.whole script
script_read s events w script t g = record {
  known = scope_of w;
  faultless = whole_faultless s t.whole w t.is;
  kernels = g.kernels;
  names = g.names;
  literals = ap lists_in g.literals ∙ (sym (append-nil (lists_in w.literals)) ∙ t.is.literals);
  statements = subst (StandFor s w.names w.kernels 0 t.whole) (sym g.statements) (ends_within g.within (whole_written s t.whole w t.is)).0;
}

within_room : (s : Source) (events : List Event) (w : Walk) (script : Script) (t : IsThrough s events w) → Gathers w script → too_long s t.whole ≡ None
within_room s events w script t g = (ends_within g.within (whole_written s t.whole w t.is)).1

checked_at : (kernels : List CheckedKernel) → All IsChecked kernels → (k : ℕ) (it : CheckedKernel) → slice_get kernels k ≡ Some it → IsChecked it
checked_at kernels all k it h =
    subst IsChecked (sym (unwrap_or-slice_get kernels k it) ∙ ap (λ o. unwrap_or o it) h)
    (All-get_or IsChecked kernels k it (slice_get_within kernels k it h) all)

pub script_accepted : (s : Source) (events : List Event) (w : Walk) (script : Script) → IsThrough s events w → Gathers w script → IsAccepted script
script_accepted s events w script t g =
    accepted s events t.whole script t.spells (script_read s events w script t g) (within_room s events w script t g)
    (λ k it h. checked_at w.kernels t.is.checked k it (subst (λ ks. slice_get ks k ≡ Some it) g.kernels h))

-- FILES

-- the bytes of a file, its tokens and the events that they derive
pub record IsRead (bytes : List ℕ) (s : Source) (events : List Event) : Type 0 where
  pub bytes_are : s.bytes.now ≡ bytes
  pub tokens_are : file_tokens s ≡ tokens_of bytes
  pub exact : All IsOfKind s.marks.now
  pub read : ℕ
  pub sentence : IsOnlySentence File (kinds (tokens_of bytes)) read events

-- what the parser answers of the tokens that the lexer answers: they are all, since they are a file
pub read_of : (bytes : List ℕ) (s : Source) (marks : List Mark) (read : ℕ) (notes found : List Note) → s.bytes.now ≡ bytes → marks ≡ s.marks.now
    → tokens_in bytes 1 marks ≡ up_to_bad (tokens_of bytes) →
    All IsOfKind marks → notes ≡ found → IsOnlySentence File (map kind_of marks) read (events_of found) → IsRead bytes s (events_of notes)
read_of bytes s marks read notes found bytes_are marks_are lexed_is exact derived sentence =
    let events = events_of notes in
    let tokens_are : file_tokens s ≡ up_to_bad (tokens_of bytes) =
    ap (λ b. tokens_in b 1 s.marks.now) bytes_are ∙ ap (tokens_in bytes 1) (sym marks_are) ∙ lexed_is in
    let there : IsOnlySentence File (kinds (file_tokens s)) read events =
    subst (λ ks. IsOnlySentence File ks read events) (kinds_in_file s marks marks_are)
    (subst (λ ns. IsOnlySentence File (map kind_of marks) read (events_of ns)) (sym derived) sentence) in
    let all : file_tokens s ≡ tokens_of bytes = tokens_are ∙ lexed_file_is_whole bytes read events
    (subst (λ ts. IsOnlySentence File (kinds ts) read events) tokens_are there) in
    record {
      bytes_are = bytes_are;
      tokens_are = all;
      exact = subst (All IsOfKind) marks_are exact;
      read = read;
      sentence = subst (λ ts. IsOnlySentence File (kinds ts) read events) all there;
    }

has_items : (bytes : List ℕ) (s : Source) (events : List Event) (items : RawItems) → IsRead bytes s events → SpellsItems true events items
    → HasItems bytes s items
has_items bytes s events items r spells = record {
  bytes_are = r.bytes_are;
  tokens_are = r.tokens_are;
  exact = r.exact;
  read = r.read;
  events = events;
  sentence = r.sentence;
  spells = spells;
}

pub spelled : (bytes : List ℕ) (s : Source) (events : List Event) (w : Walk) (script : Script) → IsRead bytes s events → IsThrough s events w → Gathers w script
    → Spells bytes script
spelled bytes s events w script r t g = record {
  source = s;
  items = t.whole;
  has_items = has_items bytes s events t.whole r t.spells;
  within = within_room s events w script t g;
  script_is = script_read s events w script t g;
}

pub no_syntax : (bytes : List ℕ) (marks : List Mark) (place line : ℕ) → tokens_in bytes 1 marks ≡ up_to_bad (tokens_of bytes)
    → IsFault File (map kind_of marks) place → line ≡ token_line (slice_get (tokens_in bytes 1 marks) place) →
    IsRefused bytes line Syntax
no_syntax bytes marks place line lexed fault is =
    let there = subst (λ ks. IsFault File ks place) (sym (kinds-tokens_in bytes 1 marks) ∙ ap kinds lexed) fault in
    let stands = lexed_fault_stands bytes File place there in
    let d : Token = end_at 0 0 in
    let first = up_to_bad (tokens_of bytes) in
    let within : place < length first = subst (λ n. place < n) (length-map first (λ t. t.kind)) there.within in
    syntax refl (record {
      place = place;
      token = get_or (tokens_of bytes) place d;
      fault = stands;
      stands = slice_get-get_or (tokens_of bytes) place d (subst (λ n. place < n) (length-map (tokens_of bytes) (λ t. t.kind)) stands.within);
      on_line =
          is ∙ ap (λ ts. token_line (slice_get ts place)) lexed
          ∙ ap token_line (slice_get-get_or first place d within)
          ∙ ap (λ (t : Token). t.line) (lexed_fault_token bytes File place d there);
    })

-- the token with which the parser stops is reported by its line
pub stopped : (bytes : List ℕ) (marks : List Mark) (error : ParseError) (refused : LoadFault) (line : ℕ) (kind : FaultKind)
    → tokens_in bytes 1 marks ≡ up_to_bad (tokens_of bytes) →
    refused ≡ refusal_of error (tokens_in bytes 1 marks) → ((place : ℕ) → error ≡ stop.Syntax place → IsFault File (map kind_of marks) place)
    → refused ≡ load.Refused line kind → IsRefused bytes line kind
stopped bytes marks stop.Memory refused line kind lexed is fault reported = let clash = sym is ∙ reported in cc
stopped bytes marks (stop.Syntax place) refused line kind lexed is fault reported =
    let same : load.Refused (token_line (slice_get (tokens_in bytes 1 marks) place)) Syntax ≡ load.Refused line kind = sym is ∙ reported in
    let kind_same : Syntax ≡ kind = cc in
    subst (IsRefused bytes line) kind_same (no_syntax bytes marks place line lexed (fault place refl) cc)

pub refused_statically : (bytes : List ℕ) (s : Source) (events : List Event) (line : ℕ) (kind : FaultKind) → IsRead bytes s events
    → RefusesItems s events line kind → IsRefused bytes line kind
refused_statically bytes s events line kind r f = static (record {
  source = s;
  items = f.whole;
  has_items = has_items bytes s events f.whole r f.spells;
  fault = f.fault;
  has_fault = f.has_fault;
  on_line = f.on_line;
  of_kind = f.of_kind;
})

pub refused_as_long : (bytes : List ℕ) (s : Source) (events : List Event) (w : Walk) (line : ℕ) (kind : FaultKind) → IsRead bytes s events
    → IsThrough s events w →
    kind ≡ TooLong → w.written.over ≡ Some line → IsRefused bytes line kind
refused_as_long bytes s events w line kind r t is over =
    let e = ends_over over (whole_written s t.whole w t.is) in
    too_many is (record {
      source = s;
      items = t.whole;
      has_items = has_items bytes s events t.whole r t.spells;
      known = scope_of w;
      faultless = whole_faultless s t.whole w t.is;
      at = e.0;
      excess = e.1;
      on_line = e.2;
    })

pub if_ok : {A E : Type 0} {P Q : A → Type 0} (r : Result A E) → ((a : A) → P a → Q a) → IfOk r P → IfOk r Q
if_ok (Ok a) f h = f a h
if_ok (Err e) f h = tt
