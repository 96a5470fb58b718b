-- What is read of a raw kernel: its parts, wherever they lie in memory.
use Rattle.std.proofs.Common.{ℕ, ◌≡◌, ◌<◌, ◌^◌, refl, sym, ◌∙◌, subst, List, map, Bool, length, arith, Vec, Global}
use Rattle.frame_ast.specs.declared.kernel.Kernel.{Kernel}
use Rattle.kernel_text.specs.declared.mark.Mark.{Mark}
use Rattle.kernel_raw.specs.declared.raw.RawKernel.{RawKernel}
use Rattle.kernel_raw.specs.declared.raw.RawParam.{RawParam}
use Rattle.kernel_raw.specs.declared.raw.RawNode.{RawNode}
use Rattle.kernel_raw.specs.RawTexts.{kind_at, text_at, value_at}
use Rattle.kernel_code.specs.Scopes.{meaning_of, locals_before, locals_of}
use Rattle.kernel_code.specs.StaticFaults.{first_fault}
use Rattle.kernel_code.specs.Trees.{raw_param_text}

pub record Parts : Type 0 where
  pub source : List ℕ
  pub marks : List Mark
  pub line : ℕ
  pub parallel : Bool
  pub name : ℕ
  pub params : List RawParam
  pub nodes : List RawNode
  pub depths : List ℕ

abbrev pub parts_of : RawKernel → Parts
parts_of r = record {
  source = r.source.now;
  marks = r.marks.now;
  line = r.line;
  parallel = r.parallel;
  name = r.name;
  params = r.params.items;
  nodes = r.nodes.items;
  depths = r.depths.items;
}

-- a vector can have so many items
abbrev pub Fits : {A : Type 0} → List A → Type 0
Fits xs = length xs < 2 ^ 63

abbrev pub with_items : {A : Type 0} → Vec A Global → (xs : List A) → Fits xs → Vec A Global
with_items v xs few = record v { items = xs; len = length xs; cap = length xs; ok = (refl, omega arith); small = few }

abbrev pub placed : RawKernel → (p : Parts) → Fits p.params → Fits p.nodes → Fits p.depths → RawKernel
placed r p few few_nodes few_depths = record r {
  source = record r.source { now = p.source };
  marks = record r.marks { now = p.marks };
  line = p.line;
  parallel = p.parallel;
  name = p.name;
  params = with_items r.params p.params few;
  nodes = with_items r.nodes p.nodes few_nodes;
  depths = with_items r.depths p.depths few_depths;
}

fits : {A : Type 0} (v : Vec A Global) → Fits v.items
fits v = omega (arith, v.ok.0, v.ok.1, v.small)

-- what depends on the parts alone
abbrev pub ByParts : {X : Type 0} → (RawKernel → X) → Type 0
ByParts f = (r t : RawKernel) (few : Fits t.params.items) (few_nodes : Fits t.nodes.items) (few_depths : Fits t.depths.items) →
    f (placed r (parts_of t) few few_nodes few_depths) ≡ f t

pub by_parts : {X : Type 0} (f : RawKernel → X) → ByParts f → (r t : RawKernel) → parts_of r ≡ parts_of t → f r ≡ f t
by_parts f by r t same =
    let P : Parts → Type 0 = λ p. (few : Fits p.params) (few_nodes : Fits p.nodes) (few_depths : Fits p.depths)
    → f (placed r p few few_nodes few_depths) ≡ f t in
    let here : P (parts_of r) = subst P (sym same) (λ few few_nodes few_depths. by r t few few_nodes few_depths) in
    sym (by r r (fits r.params) (fits r.nodes) (fits r.depths)) ∙ here (fits r.params) (fits r.nodes) (fits r.depths)

module _ (r t : RawKernel) (same : parts_of r ≡ parts_of t) where
  pub same_fault : (earlier : List Kernel) → first_fault r earlier ≡ first_fault t earlier
  same_fault earlier = by_parts (λ x. first_fault x earlier) (λ r t f g d. refl) r t same

  pub same_text : (at : ℕ) → text_at r at ≡ text_at t at
  same_text at = by_parts (λ x. text_at x at) (λ r t f g d. refl) r t same

  pub same_value : (at : ℕ) → value_at r at ≡ value_at t at
  same_value at = by_parts (λ x. value_at x at) (λ r t f g d. refl) r t same

  pub same_kind : (at : ℕ) → kind_at r at ≡ kind_at t at
  same_kind at = by_parts (λ x. kind_at x at) (λ r t f g d. refl) r t same

  pub same_meaning : (i at : ℕ) → meaning_of r i (text_at r at) ≡ meaning_of t i (text_at t at)
  same_meaning i at = by_parts (λ x. meaning_of x i (text_at x at)) (λ r t f g d. refl) r t same

  pub same_before : (i : ℕ) → length (locals_before r.nodes.items i) ≡ length (locals_before t.nodes.items i)
  same_before i = by_parts (λ x. length (locals_before x.nodes.items i)) (λ r t f g d. refl) r t same

  pub same_locals : length (locals_of r.nodes.items) ≡ length (locals_of t.nodes.items)
  same_locals = by_parts (λ x. length (locals_of x.nodes.items)) (λ r t f g d. refl) r t same

  pub same_params : map (raw_param_text r) r.params.items ≡ map (raw_param_text t) t.params.items
  same_params = by_parts (λ x. map (raw_param_text x) x.params.items) (λ r t f g d. refl) r t same
