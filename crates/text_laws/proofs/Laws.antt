-- A file is spelled or refused once.
use Rattle.std.proofs.Common.{◌≡◌, ℕ, true, List, map, refl, sym, ap, ◌∙◌, subst}
use Rattle.std.specs.Prelude.{slice_get}
use Rattle.frame_ast.specs.declared.script.Script.{Script}
use Rattle.frame_grammar.specs.declared.symbols.Nonterminal.TheVariants.{File}
use Rattle.kernel_text.specs.declared.token.Token.{Token}
use Rattle.kernel_raw.specs.declared.fault.StaticFault.{StaticFault}
use Rattle.kernel_text.specs.Tokens.{tokens_of, kinds}
use Rattle.kernel_text.specs.Marks.{tokens_in}
use Rattle.kernel_text.proofs.Marks.{marks_once}
use Rattle.script_text.specs.declared.source.Source.{Source}
use Rattle.script_text.specs.Sources.{line_at}
use Rattle.script_names.specs.Names.{Name}
use Rattle.script_text.specs.Raw.{RawItems}
use Rattle.script_text.specs.Events.{SpellsItems}
use Rattle.script_checks.specs.Faults.{Scope}
use Rattle.frame_script.specs.Files.{at_start, IsFaultless, HasFault, too_long, IsScriptOf, StandFor}
use Rattle.frame_script.specs.Loading.{HasItems, HasNoSyntax, syntax, static, too_many}
use Rattle.tree_laws.specs.Same.{SameKernel, SameScript, Pairwise}
use Rattle.text_laws.specs.Once.{ScriptsAreSpelledOnce, RefusalsAreOnce, SpelledIsNotRefused}
use Rattle.text_laws.proofs.Sources.{SameFile, same_line}
use Rattle.text_laws.proofs.Items.{bare, file_once}
use Rattle.text_laws.proofs.Bare.{faultless_there, faulty_there, too_long_there, script_there}
use Rattle.text_laws.proofs.Scopes.{SameScope}
use Rattle.text_laws.proofs.Faults.{ends_once, never_both, fault_once}
use Rattle.text_laws.proofs.Statements.{stand_once}
use Rattle.text_laws.proofs.Syntax.{place_once}

-- TWO READINGS OF A FILE

same_file : (bytes : List ℕ) (s t : Source) (a b : RawItems) → HasItems bytes s a → HasItems bytes t b → SameFile s t
same_file bytes s t a b h k =
    let first = ap (λ b. tokens_in b 1 s.marks.now) (sym h.bytes_are) ∙ h.tokens_are in
    let second = ap (λ b. tokens_in b 1 t.marks.now) (sym k.bytes_are) ∙ k.tokens_are in
    record { bytes = h.bytes_are ∙ sym k.bytes_are; marks = marks_once bytes 1 s.marks.now t.marks.now h.exact k.exact (first ∙ sym second) }

same_items : (bytes : List ℕ) (s t : Source) (a b : RawItems) → HasItems bytes s a → HasItems bytes t b → bare a ≡ bare b
same_items bytes s t a b h k =
    let events : k.events ≡ h.events = (h.sentence.only k.read k.events k.sentence.within k.sentence.sentence).1 in
    file_once h.events a b h.spells (subst (λ es. SpellsItems true es b) events k.spells)

-- tokens that are a file have no fault of syntax
no_syntax : (bytes : List ℕ) (s : Source) (items : RawItems) (line : ℕ) → HasItems bytes s items → HasNoSyntax bytes line → ⊥
no_syntax bytes s items line h f = f.fault.none h.read h.events h.sentence.within h.sentence.sentence

start_is : SameScope at_start at_start
start_is = record { others = refl; kernels = tt }

module _ (bytes : List ℕ) (s t : Source) (a b : RawItems) (h : HasItems bytes s a) (k : HasItems bytes t b) where
  file : SameFile s t
  file = same_file bytes s t a b h k

  itself : SameFile t t
  itself = record { bytes = refl; marks = refl }

  items : bare a ≡ bare b
  items = same_items bytes s t a b h k

  -- what the first reading says, of the second one

  faultless : (end : Scope) → IsFaultless s at_start a end → IsFaultless t at_start (bare b) end
  faultless end f = subst (λ x. IsFaultless t at_start x end) items (faultless_there s t file f)

  faulty : (fault : StaticFault) → HasFault s fault at_start a → HasFault t fault at_start (bare b)
  faulty fault f = subst (λ x. HasFault t fault at_start x) items (faulty_there s t file f)

  length_once : too_long s a ≡ too_long t b
  length_once = too_long_there s t file a ∙ ap (too_long t) items ∙ sym (too_long_there t t itself b)

  faults_once : (f g : StaticFault) → HasFault s f at_start a → HasFault t g at_start b → f ≡ g
  faults_once f g x y = fault_once t start_is (faulty f x) (faulty_there t t itself y)

  no_fault : (end : Scope) (f : StaticFault) → IsFaultless s at_start a end → HasFault t f at_start b → ⊥
  no_fault end f x y = never_both t start_is (faultless end x) (faulty_there t t itself y)

  scripts_once : (x y : Script) → IsScriptOf s a x → IsScriptOf t b y → SameScript x y
  scripts_once x y is was =
      let first : IsScriptOf t (bare b) x = subst (λ z. IsScriptOf t z x) items (script_there s t file a x is) in
      let second : IsScriptOf t (bare b) y = script_there t t itself b y was in
      let scopes : SameScope first.known second.known = ends_once t start_is first.faultless second.faultless in
      let names : first.known.names ≡ second.known.names = ap (λ (c : Scope). c.names) scopes.others in
      record {
        kernels = subst (λ ks. Pairwise SameKernel ks y.kernels.items) (sym first.kernels)
            (subst (λ ks. Pairwise SameKernel first.known.kernels ks) (sym second.kernels) scopes.kernels);
        names = first.names ∙ ap (map (λ (n : Name). n.text)) names ∙ sym second.names;
        literals = first.literals ∙ sym second.literals;
        statements = stand_once t second.known.names first.known.kernels second.known.kernels scopes.kernels 0 (bare b) x.statements.items y.statements.items
            (subst (λ ns. StandFor t ns first.known.kernels 0 (bare b) x.statements.items) names first.statements) second.statements;
      }

-- LAWS

pub scripts_are_spelled_once : ScriptsAreSpelledOnce
scripts_are_spelled_once bytes x y a b = scripts_once bytes a.source b.source a.items b.items a.has_items b.has_items x y a.script_is b.script_is

pub spelled_is_not_refused : SpelledIsNotRefused
spelled_is_not_refused bytes script line kind a (syntax is f) = no_syntax bytes a.source a.items line a.has_items f
spelled_is_not_refused bytes script line kind a (static f) =
    no_fault bytes a.source f.source a.items f.items a.has_items f.has_items a.script_is.known f.fault a.script_is.faultless f.has_fault
spelled_is_not_refused bytes script line kind a (too_many is f) =
    let e = sym a.within ∙ length_once bytes a.source f.source a.items f.items a.has_items f.has_items ∙ f.excess in absurd cc

lines_once : (bytes : List ℕ) (s t : Source) (a b : RawItems) → HasItems bytes s a → HasItems bytes t b → (x y : ℕ) → x ≡ y → line_at s x ≡ line_at t y
lines_once bytes s t a b h k x y e = same_line s t (same_file bytes s t a b h k) x ∙ ap (line_at t) e

pub refusals_are_once : RefusalsAreOnce
refusals_are_once bytes line other kind kind' (syntax is f) (syntax is' g) =
    let place = place_once File (kinds (tokens_of bytes)) f.place g.place f.fault g.fault in
    let both = sym f.stands ∙ ap (slice_get (tokens_of bytes)) place ∙ g.stands in
    let token : f.token ≡ g.token = cc in
    (f.on_line ∙ ap (λ (x : Token). x.line) token ∙ sym g.on_line, is ∙ sym is')
refusals_are_once bytes line other kind kind' (syntax is f) (static g) = absurd (no_syntax bytes g.source g.items line g.has_items f)
refusals_are_once bytes line other kind kind' (syntax is f) (too_many is' g) = absurd (no_syntax bytes g.source g.items line g.has_items f)
refusals_are_once bytes line other kind kind' (static f) (syntax is g) = absurd (no_syntax bytes f.source f.items other f.has_items g)
refusals_are_once bytes line other kind kind' (static f) (static g) =
    let same = faults_once bytes f.source g.source f.items g.items f.has_items g.has_items f.fault g.fault f.has_fault g.has_fault in (
      f.on_line ∙ lines_once bytes f.source g.source f.items g.items f.has_items g.has_items f.fault.at g.fault.at (ap (λ (x : StaticFault). x.at) same)
          ∙ sym g.on_line,
      f.of_kind ∙ ap (λ (x : StaticFault). x.kind) same ∙ sym g.of_kind,
    )
refusals_are_once bytes line other kind kind' (static f) (too_many is g) =
    absurd (no_fault bytes g.source f.source g.items f.items g.has_items f.has_items g.known f.fault g.faultless f.has_fault)
refusals_are_once bytes line other kind kind' (too_many is f) (syntax is' g) = absurd (no_syntax bytes f.source f.items other f.has_items g)
refusals_are_once bytes line other kind kind' (too_many is f) (static g) =
    absurd (no_fault bytes f.source g.source f.items g.items f.has_items g.has_items f.known g.fault f.faultless g.has_fault)
refusals_are_once bytes line other kind kind' (too_many is f) (too_many is' g) =
    let both = sym f.excess ∙ length_once bytes f.source g.source f.items g.items f.has_items g.has_items ∙ g.excess in
    let at : f.at ≡ g.at = cc in
    (f.on_line ∙ lines_once bytes f.source g.source f.items g.items f.has_items g.has_items f.at g.at at ∙ sym g.on_line, is ∙ sym is')
