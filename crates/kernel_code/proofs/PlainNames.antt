-- Plain nodes: those that have no name or only use it, and with which nothing is wrong.
use Rattle.std.proofs.Common.{ℕ, ◌≡◌, ◌+◌, ◌==◌, Bool, true, false, cond, List, [], ◌∷◌, ◌++◌, length, slice_get, Option, Some, None, append-nil, refl, ap, sym, ◌∙◌}
use Rattle.std.specs.Prelude.{◌||◌, ◌&&◌, not, is_none, if◌then◌else◌}
use Rattle.std.proofs.lemmas.Option.{slice_get_within, get_or_from_slice_get}
use Rattle.std.specs.Option.{option_or}
use Rattle.frame_ast.specs.Lists.{some_if}
use Rattle.frame_ast.specs.declared.kernel.FaultKind.TheVariants.{Limit}
use Rattle.frame_ast.specs.declared.kernel.FaultKind.{FaultKind}
use Rattle.kernel_raw.specs.declared.raw.RawForm.{RawForm}
use Rattle.kernel_raw.specs.declared.raw.RawForm.TheVariants as form
use Rattle.kernel_raw.specs.declared.raw.RawNode.{RawNode}
use Rattle.kernel_raw.specs.declared.raw.RawKernel.{RawKernel}
use Rattle.kernel_code.specs.declared.check.names.Local.{Local}
use Rattle.kernel_code.specs.declared.check.names.Meaning.{Meaning}
use Rattle.kernel_code.specs.declared.check.names.Named.{Named}
use Rattle.kernel_code.specs.declared.check.streams.StreamBlock.{StreamBlock}
use Rattle.kernel_raw.specs.RawTexts.{text_at}
use Rattle.kernel_code.specs.StaticFaults.{is_over_limit, lowest, fault_at, used_fault, token_fault, size_fault, name_fault, first_of_two, node_fault}
use Rattle.kernel_code.specs.Scopes.{meaning_of, declares, as_local, locals_before, local_of, local_if, is_begin, is_inside, is_number, parameter}
use Rattle.kernel_code.specs.Known.{has_name, has_answer, only_uses, meaning_if, name_named, used_name, plain_name, name_stored, stands_in, IsKnown}
use Rattle.kernel_code.proofs.Passing.{known_next, meaning_pushed}

-- a node of this form is plain, and its name is this
record IsPlain (raw : RawKernel) (i at name : ℕ) (f : RawForm) (named : Option Named) : Type 0 where
  token : token_fault raw i at f ≡ None
  called : name_fault raw i name f ≡ None
  no_answer : has_answer f ≡ false
  no_local : declares f ≡ false
  no_block : is_begin f ≡ false
  is : named ≡ meaning_if (has_name f) raw i name

chosen : (fault : Option FaultKind) (a b : Option Named) → cond (is_none fault) (Some a) None ≡ Some b → (fault ≡ None) × (b ≡ a)
chosen None a b h = (refl, cc)
chosen (Some k) a b h = cc

of_use : (raw : RawKernel) (i at name : ℕ) (f : RawForm) (named : Option Named) → token_fault raw i at f ≡ None
    → name_fault raw i name f ≡ used_fault raw i f (text_at raw name) →
    has_answer f ≡ false → declares f ≡ false → is_begin f ≡ false → has_name f ≡ true → used_name raw i f (text_at raw name) ≡ Some named
    → IsPlain raw i at name f named
of_use raw i at name f named token called answer local block has h =
    let found = chosen (used_fault raw i f (text_at raw name)) (meaning_of raw i (text_at raw name)) named h in
    record {
      token = token;
      called = called ∙ found.0;
      no_answer = answer;
      no_local = local;
      no_block = block;
      is = found.1 ∙ sym (ap (λ b. meaning_if b raw i name) has);
    }

of_none : (raw : RawKernel) (i at name : ℕ) (f : RawForm) (named : Option Named) → name_fault raw i name f ≡ None → has_answer f ≡ false → declares f ≡ false
    → is_begin f ≡ false → has_name f ≡ false →
    cond (is_none (token_fault raw i at f)) (Some None) None ≡ Some named → IsPlain raw i at name f named
of_none raw i at name f named called answer local block has h =
    let found = chosen (token_fault raw i at f) None named h in
    record {
      token = found.0;
      called = called;
      no_answer = answer;
      no_local = local;
      no_block = block;
      is = found.1 ∙ sym (ap (λ b. meaning_if b raw i name) has);
    }

plain : (raw : RawKernel) (i at name : ℕ) (f : RawForm) (named : Option Named) →
    cond (not (has_name f)) (cond (is_none (token_fault raw i at f)) (Some None) None)
    (cond (only_uses f) (used_name raw i f (text_at raw name)) None) ≡ Some named → IsPlain raw i at name f named
plain raw i at name form.Number named h = of_none raw i at name form.Number named refl refl refl refl refl h
plain raw i at name form.Index named h = of_none raw i at name form.Index named refl refl refl refl refl h
plain raw i at name form.Unary named h = of_none raw i at name form.Unary named refl refl refl refl refl h
plain raw i at name form.Binary named h = of_none raw i at name form.Binary named refl refl refl refl refl h
plain raw i at name form.If named h = of_none raw i at name form.If named refl refl refl refl refl h
plain raw i at name form.IfElse named h = of_none raw i at name form.IfElse named refl refl refl refl refl h
plain raw i at name form.While named h = of_none raw i at name form.While named refl refl refl refl refl h
plain raw i at name form.Name named h = of_use raw i at name form.Name named refl refl refl refl refl refl h
plain raw i at name form.Element named h = of_use raw i at name form.Element named refl refl refl refl refl refl h
plain raw i at name form.Length named h = of_use raw i at name form.Length named refl refl refl refl refl refl h
plain raw i at name form.Has named h = of_use raw i at name form.Has named refl refl refl refl refl refl h
plain raw i at name form.Count named h = of_use raw i at name form.Count named refl refl refl refl refl refl h
plain raw i at name form.Item named h = of_use raw i at name form.Item named refl refl refl refl refl refl h
plain raw i at name form.SetName named h = of_use raw i at name form.SetName named refl refl refl refl refl refl h
plain raw i at name form.SetPlace named h = of_use raw i at name form.SetPlace named refl refl refl refl refl refl h
plain raw i at name form.AddItem named h = of_use raw i at name form.AddItem named refl refl refl refl refl refl h
plain raw i at name form.AddPair named h = of_use raw i at name form.AddPair named refl refl refl refl refl refl h
plain raw i at name form.Remove named h = of_use raw i at name form.Remove named refl refl refl refl refl refl h
plain raw i at name form.Clear named h = of_use raw i at name form.Clear named refl refl refl refl refl refl h
plain raw i at name f named h = cc

no_faults : (same : Bool) (first second : ℕ) → cond same (fault_at first (lowest None None)) (option_or (fault_at first None) (fault_at second None)) ≡ None
no_faults true first second = refl
no_faults false first second = refl

-- nothing is wrong with a plain node that isn't one too many or too deep
plain_faultless : (raw : RawKernel) (i : ℕ) (node : RawNode) (named : Option Named) → IsPlain raw i node.at node.name node.form named → size_fault raw i ≡ None
    → node_fault raw i node ≡ None
plain_faultless raw i node named p small =
    (λ j. first_of_two node.at (lowest (p.token j) (small j)) node.name (p.called j)) ∙ no_faults (node.at == node.name) node.at node.name

pub small_size : (raw : RawKernel) (i : ℕ) (over : Bool) → over ≡ is_over_limit raw i → over ≡ false → size_fault raw i ≡ None
small_size raw i over is small = ap (λ b. some_if b Limit) (sym is ∙ small)

or-false : (b : Bool) → b ≡ (b || false)
or-false true = refl
or-false false = refl

-- one plain node more
pub plain_next : (raw : RawKernel) (i : ℕ) (node : RawNode) (named : Option Named) (locals : List Local) (blocks : List StreamBlock)
    (meanings meanings' : List Meaning) →
    IsKnown raw i locals blocks meanings → slice_get raw.nodes.items i ≡ Some node → plain_name raw i node ≡ Some named → size_fault raw i ≡ None →
    meanings' ≡ meanings ++ (record { answer = None; name = named }) ∷ [] → IsKnown raw (i + 1) locals blocks meanings'
plain_next raw i node named locals blocks meanings meanings' known here is small pushed =
    let p = plain raw i node.at node.name node.form named is in
    let local = local_of raw.nodes.items i node in
    let stored : named ≡ name_stored raw i node = p.is ∙ sym (ap (λ b. if b then Some
    (as_local local (length (locals_before raw.nodes.items i))) else name_named raw i node) p.no_local) in
    known_next raw i node node locals locals blocks blocks meanings meanings' known
    (slice_get_within raw.nodes.items i node here) (sym (get_or_from_slice_get raw.nodes.items i node node here)) (plain_faultless raw i node named p small)
    (sym (append-nil locals) ∙ sym (ap (λ b. locals ++ local_if b local) p.no_local))
    (λ x j. or-false (stands_in x j blocks) ∙ sym (ap (λ b. stands_in x j blocks
    || (b && (is_inside j i node && is_number x (parameter raw (text_at raw node.name))))) p.no_block))
    (meaning_pushed raw i node None named meanings meanings' (sym (ap (λ b. meaning_if b raw i node.at) p.no_answer)) stored pushed)
