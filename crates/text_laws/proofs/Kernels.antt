-- Events spell one kernel, but for where its parts lie in memory.
use Rattle.std.proofs.Common.{◌≡◌, List, [], ◌∷◌, map, sym, ◌∙◌, ap}
use Rattle.frame_grammar.specs.declared.symbols.Event.{Event}
use Rattle.frame_ast.specs.declared.kernel.Param.{Param}
use Rattle.frame_ast.specs.declared.kernel.Kernel.{Kernel}
use Rattle.kernel_raw.specs.declared.raw.RawKernel.{RawKernel}
use Rattle.kernel_raw.specs.RawTexts.{text_at}
use Rattle.kernel_code.specs.Trees.{IsKernelOf, ParamText, param_text}
use Rattle.script_text.specs.declared.source.Source.{Source}
use Rattle.frame_script.specs.Files.{IsRawOf}
use Rattle.tree_laws.specs.Same.{SameParam, SameKernel, Pairwise}
use Rattle.text_laws.proofs.Raws.{Parts, same_text, same_params, same_locals}
use Rattle.text_laws.proofs.RawKernels.{same_parts, respelled}
use Rattle.text_laws.proofs.Blocks.{block_once}

-- parameters that say the same
same_param : (p q : Param) → param_text p ≡ param_text q → SameParam p q
same_param p q e = record {
  name = ap (λ (x : ParamText). x.name) e;
  kind = ap (λ (x : ParamText). x.kind) e;
  access = ap (λ (x : ParamText). x.access) e;
  by = ap (λ (x : ParamText). x.by) e;
}

params_once : (ps qs : List Param) → map param_text ps ≡ map param_text qs → Pairwise SameParam ps qs
params_once [] [] e = tt
params_once [] (q ∷ qs) e = absurd cc
params_once (p ∷ ps) [] e = absurd cc
params_once (p ∷ ps) (q ∷ qs) e =
    let first : param_text p ≡ param_text q = cc in
    let more : map param_text ps ≡ map param_text qs = cc in
    (same_param p q first, params_once ps qs more)

pub kernel_once : (s : Source) (events : List Event) (r t : RawKernel) (k l : Kernel) → IsRawOf s events r → IsRawOf s events t → IsKernelOf r k
    → IsKernelOf t l → SameKernel k l
kernel_once s events r t k l a b is is' =
    let same = same_parts s events r t a b in
    let name : r.name ≡ t.name = ap (λ (p : Parts). p.name) same in
    let parallel : r.parallel ≡ t.parallel = ap (λ (p : Parts). p.parallel) same in
    record {
      name = is.name ∙ same_text r t same r.name ∙ ap (λ at. text_at t at) name ∙ sym is'.name;
      parallel = is.parallel ∙ parallel ∙ sym is'.parallel;
      params = params_once k.params.items l.params.items (is.params ∙ same_params r t same ∙ sym is'.params);
      locals = is.locals ∙ same_locals r t same ∙ sym is'.locals;
      body = block_once r t same (is.body events a.spells) (is'.body events (respelled events r t a.spells b.spells));
    }
