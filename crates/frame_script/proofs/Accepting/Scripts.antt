-- A script that a text spells is one that the meaning of scripts accepts.
use Rattle.std.proofs.Common.{◌≡◌, ℕ, ◌≤◌, true, List, [], ◌++◌, length, None, Some, slice_get, refl, sym, ◌∙◌, ap, subst, arith, append-nil}
use Rattle.std.proofs.lemmas.List.{length-map}
use Rattle.frame_grammar.specs.declared.symbols.Event.{Event}
use Rattle.frame_ast.specs.declared.kernel.Kernel.{Kernel}
use Rattle.frame_ast.specs.declared.script.Script.{Script}
use Rattle.frame_ast.specs.Checked.{IsChecked}
use Rattle.frame_ast.specs.Accepted.{IsAccepted, statements_fit}
use Rattle.script_text.specs.declared.source.Source.{Source}
use Rattle.script_text.specs.Raw.{RawItems}
use Rattle.script_text.specs.Events.{SpellsItems}
use Rattle.frame_script.specs.Files.{IsScriptOf, literals_in, too_long}
use Rattle.frame_script.proofs.Accepting.Places.{le_test}
use Rattle.frame_script.proofs.Accepting.Names.{leads_all, scene, kinds_of}
use Rattle.frame_script.proofs.Accepting.Fits.{Stands}
use Rattle.frame_script.proofs.Accepting.Items.{items_fit}
use Rattle.frame_script.proofs.Accepting.Counts.{few_statements, few_kernels}

pub accepted : (s : Source) (events : List Event) (items : RawItems) (script : Script) → SpellsItems true events items → IsScriptOf s items script
    → too_long s items ≡ None →
    ((k : ℕ) (it : Kernel) → slice_get script.kernels.items k ≡ Some it → IsChecked it) → IsAccepted script
accepted s events items script spells is short checked =
    let names = is.known.names in
    let xs = script.statements.items in
    let all : Stands (literals_in s items) 0 (literals_in s items) = record {
      before = [];
      after = [];
      are = sym (append-nil (literals_in s items));
      many = refl;
    } in
    let fits : statements_fit (scene names 0) (literals_in s items) is.known.kernels 0 (xs ++ []) ≡ true =
    items_fit s names is.known.kernels (literals_in s items) items is.faultless spells (leads_all names) (leads_all is.known.kernels) 0 all xs is.statements
    [] 0 (λ made enough. refl) 0 (omega arith) in
    let few = few_statements s names is.known.kernels items xs spells is.statements short in
    let kernels : length is.known.kernels ≤ 256 = few_kernels s items is.faultless (omega arith) in
    record {
      kinds = kinds_of names;
      each = length-map names _ ∙ (sym (length-map names _) ∙ ap length (sym is.names));
      fits = subst (λ l. statements_fit (scene names 0) l script.kernels.items 0 xs ≡ true) (sym is.literals)
          (subst (λ ks. statements_fit (scene names 0) (literals_in s items) ks 0 xs ≡ true) (sym is.kernels)
          (subst (λ ys. statements_fit (scene names 0) (literals_in s items) is.known.kernels 0 ys ≡ true) (append-nil xs) fits));
      kernels = checked;
      kernel_count = le_test _ _ (subst (λ ks. length ks ≤ 256) (sym is.kernels) kernels);
      statement_count = le_test _ _ few.0;
      when_count = le_test _ _ few.1;
    }
