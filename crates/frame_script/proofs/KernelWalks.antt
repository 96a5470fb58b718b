-- A kernel of a file that is checked behind those that are known.
use Rattle.std.proofs.Common.{◌≡◌, ℕ, ◌+◌, Bool, true, false, ◌||◌, List, [], ◌∷◌, Option, Some, None, Result, Err, refl, sym, ◌∙◌, ap, subst, slice_get}
use Rattle.std.specs.List.{list_any, position_from}
use Rattle.std.specs.Str.{bytes_eq}
use Rattle.std.specs.String.{string_bytes}
use Rattle.std.proofs.lemmas.Iterator.Adapters.{position_from-zero}
use Rattle.frame_ast.specs.declared.kernel.FaultKind.{FaultKind}
use Rattle.frame_ast.specs.declared.kernel.FaultKind.TheVariants.{DuplicateName, Limit}
use Rattle.frame_ast.specs.declared.kernel.Kernel.{Kernel}
use Rattle.frame_grammar.specs.declared.symbols.Event.{Event}
use Rattle.kernel_raw.specs.declared.raw.RawKernel.{RawKernel}
use Rattle.kernel_raw.specs.declared.fault.StaticFault.{StaticFault}
use Rattle.kernel_raw.specs.RawEvents.{SpellsRaw}
use Rattle.kernel_text.specs.Marks.{tokens_in}
use Rattle.kernel_raw.specs.RawTexts.{raw_tokens, text_at}
use Rattle.kernel_raw.specs.declared.fault.KernelFault.TheVariants.{Refused}
use Rattle.std.specs.Option.{option_or}
use Rattle.frame_ast.specs.Lists.{some_if}
use Rattle.kernel_text.specs.Tokens.{token_text, token_line}
use Rattle.kernel_code.specs.StaticFaults.{first_fault, fault_at, length_fault, lowest, kernel_name_fault, params_fault, nodes_fault, TellsFault}
use Rattle.kernel_code.proofs.NoFaults.{option_or-none, fault_at-none, lowest-none, some_if-none}
use Rattle.frame_script.specs.declared.fault.LoadFault.{LoadFault}
use Rattle.frame_script.specs.declared.fault.LoadFault.TheVariants as load
use Rattle.script_text.specs.declared.source.Source.{Source}
use Rattle.script_checks.specs.KernelIndex.{kernel_at}
use Rattle.script_text.specs.Sources.{file_tokens, text_at as said_at}
use Rattle.frame_script.specs.Files.{IsRawOf}
use Rattle.frame_script.specs.Walking.{RefusesKernel}
use Rattle.script_names.proofs.NameLemmas.{bytes_eq-swap}

neither : (a b : Bool) → (a || b) ≡ false → (a ≡ false) × (b ≡ false)
neither true b h = cc
neither false b h = (refl, h)

not_called : (text : List ℕ) (k : Kernel) (ks : List Kernel) → list_any (λ j. bytes_eq (string_bytes j.name) text) (k ∷ ks) ≡ false →
    (bytes_eq (string_bytes k.name) text ≡ false) × (list_any (λ j. bytes_eq (string_bytes j.name) text) ks ≡ false)
not_called text k ks h = neither (bytes_eq (string_bytes k.name) text) (list_any (λ j. bytes_eq (string_bytes j.name) text) ks) h

called_from : (text : List ℕ) (kernels : List Kernel) (n : ℕ) → list_any (λ j. bytes_eq (string_bytes j.name) text) kernels ≡ false →
    position_from (λ k. bytes_eq text (string_bytes k.name)) n kernels ≡ None
called_from text [] n h = refl
called_from text (k ∷ ks) n h =
    let both = not_called text k ks h in
    let other : bytes_eq text (string_bytes k.name) ≡ false = bytes_eq-swap text (string_bytes k.name) ∙ both.0 in
    rw other (called_from text ks (n + 1) both.1)

-- no known kernel has the name of one that has no fault
pub name_free : (raw : RawKernel) (kernels : List Kernel) (text : List ℕ) → first_fault raw kernels ≡ None → text ≡ text_at raw raw.name
    → kernel_at kernels text ≡ None
name_free raw kernels text none is =
    let name = text_at raw raw.name in
    let first = option_or-none (fault_at raw.name (kernel_name_fault kernels name))
    (option_or (params_fault raw 0 raw.params.items) (nodes_fault raw 0 raw.nodes.items)) none in
    let clear = fault_at-none raw.name (kernel_name_fault kernels name) first.0 in
    let any = list_any (λ k. bytes_eq (string_bytes k.name) name) kernels in
    let rest = lowest (some_if (_) Limit) (length_fault name) in
    let other : any ≡ false = some_if-none any DuplicateName ((lowest-none (some_if any DuplicateName) rest clear).0) in
    subst (λ t. kernel_at kernels t ≡ None) (sym is) (position_from-zero (λ k. bytes_eq name (string_bytes k.name)) kernels ∙ called_from name kernels 0 other)

-- the raw form of a kernel of a file
pub raw_of : (s : Source) (events : List Event) (raw : RawKernel) → raw.source.now ≡ s.bytes.now → raw.marks.now ≡ s.marks.now → raw.line ≡ 1
    → SpellsRaw events raw → IsRawOf s events raw
raw_of s events raw source marks line spells = record { source = source; marks = marks; line = line; spells = spells }

-- its tokens are those of the file
same_tokens : (s : Source) (events : List Event) (raw : RawKernel) → IsRawOf s events raw → raw_tokens raw ≡ file_tokens s
same_tokens s events raw is =
    ap (λ bytes. tokens_in bytes raw.line raw.marks.now) is.source
    ∙ ap (λ n. tokens_in s.bytes.now n raw.marks.now) is.line
    ∙ ap (tokens_in s.bytes.now 1) is.marks

-- a token of a kernel is one of the file
pub same_text : (s : Source) (events : List Event) (raw : RawKernel) (at : ℕ) → IsRawOf s events raw → said_at s at ≡ text_at raw at
same_text s events raw at is = sym (ap (λ bytes. token_text bytes (slice_get (raw_tokens raw) at)) is.source
    ∙ ap (λ ts. token_text s.bytes.now (slice_get ts at)) (same_tokens s events raw is))

refused_for : (s : Source) (events : List Event) (raw : RawKernel) (known : List Kernel) (line : ℕ) (kind : FaultKind) → IsRawOf s events raw →
    (o : Option StaticFault) → first_fault raw known ≡ o → TellsFault raw o (Refused line kind) → RefusesKernel s events known line kind
refused_for s events raw known line kind is None found tells = absurd tells
refused_for s events raw known line kind is (Some fault) found tells = record {
  raw = raw;
  fault = fault;
  is_raw = is;
  has_fault = found;
  on_line = tells.0 ∙ ap (λ ts. token_line (slice_get ts fault.at)) (same_tokens s events raw is);
  of_kind = tells.1;
}

pub kernel_refused : (s : Source) (events : List Event) (raw : RawKernel) (known : List Kernel) (line : ℕ) (kind : FaultKind) → IsRawOf s events raw →
    TellsFault raw (first_fault raw known) (Refused line kind) → RefusesKernel s events known line kind
kernel_refused s events raw known line kind is tells = refused_for s events raw known line kind is (first_fault raw known) refl tells

-- what holds of a refusal's line and kind
pub of_refusal : {T : Type 0} (P : ℕ → FaultKind → Type 0) (l line : ℕ) (k kind : FaultKind) →
    ◌≡◌ {A = Result T LoadFault} (Err (load.Refused l k)) (Err (load.Refused line kind)) → P l k → P line kind
of_refusal P l line k kind e p =
    let same : (l ≡ line) × (k ≡ kind) = (cc, cc) in
    subst (λ n. P n kind) same.0 (subst (P l) same.1 p)
