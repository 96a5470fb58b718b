-- The parameters of a kernel that a raw kernel without faults is.
use Rattle.std.proofs.Common.{ℕ, ◌≡◌, ◌+◌, Bool, true, false, ◌&&◌, ◌||◌, not, List, [], ◌∷◌, map, None, refl, ◌∙◌, ap}
use Rattle.std.specs.Prelude.{nat_le, nat_eq}
use Rattle.std.specs.List.{list_all}
use Rattle.std.proofs.lemmas.Bool.{and_from, le-leb}
use Rattle.job_base.specs.declared.Access.{Access}
use Rattle.job_base.specs.declared.Access.TheVariants.{Read, Write as WriteOnly, Both}
use Rattle.frame_grammar.specs.declared.symbols.Event.{Event}
use Rattle.frame_ast.specs.declared.kernel.ParamKind.{ParamKind}
use Rattle.frame_ast.specs.declared.kernel.ParamKind.TheVariants as kind
use Rattle.frame_ast.specs.declared.kernel.Param.{Param}
use Rattle.frame_ast.specs.Checked.{is_both, is_read, kind_fits, param_fits, width_fits}
use Rattle.frame_ast.specs.Schedules.{is_array, writes_to}
use Rattle.kernel_raw.specs.declared.raw.RawParam.{RawParam}
use Rattle.kernel_raw.specs.declared.raw.RawKernel.{RawKernel}
use Rattle.kernel_raw.specs.RawEvents.{SpellsKind, SpellsParams}
use Rattle.kernel_raw.specs.RawEvents as raw
use Rattle.kernel_raw.specs.RawTexts.{value_at}
use Rattle.kernel_code.specs.StaticFaults.{fault_at, param_kind_fault, params_fault, stream_fault, width_word_fault, width_fault}
use Rattle.kernel_code.specs.Trees.{ParamText, param_text, raw_param_text}
use Rattle.kernel_code.proofs.NoFaults.{option_or-none, fault_at-none}
use Rattle.kernel_code.proofs.Built.Kernels.{width-of}

-- an `int` is read, a stream isn't `rw`
abbrev access_fits : Access → ParamKind → Bool
access_fits a kind.Int = is_read a
access_fits a kind.Stream = not (is_both a)
access_fits a _ = true

abbrev text_fits : ParamText → Bool
text_fits t = access_fits t.access t.kind && (nat_le 1 t.by && nat_le t.by 1024)

kind_same : (p : Param) (k : ParamKind) → kind_fits p k ≡ access_fits p.access k
kind_same p kind.Int = refl
kind_same p _ = refl

param_same : (p : Param) → param_fits p ≡ text_fits (param_text p)
param_same p = ap (λ b. b && (nat_le 1 p.by && nat_le p.by 1024)) (kind_same p p.kind)

-- a width other than 1 stands at a `wo` or `rw` array of a parallel kernel
abbrev text_wide : Bool → ParamText → Bool
text_wide parallel t = nat_eq t.by 1 || (parallel && (is_array t.kind && writes_to t.access))

or-right : (a b : Bool) → b ≡ true → (a || b) ≡ true
or-right true b h = refl
or-right false b h = h

word_wide : (parallel : Bool) (a : Access) → width_word_fault parallel a ≡ None → (parallel && (is_array kind.Array && writes_to a)) ≡ true
word_wide true Read h = cc
word_wide true WriteOnly h = refl
word_wide true Both h = refl
word_wide false Read h = cc
word_wide false WriteOnly h = cc
word_wide false Both h = cc

kind_wide : (r : RawKernel) {events : List Event} {p : RawParam} → SpellsKind events p → param_kind_fault r p p.width ≡ None
    → text_wide r.parallel (raw_param_text r p) ≡ true
kind_wide r (raw.int q is) h = refl
kind_wide r (raw.array q n a is) h = refl
kind_wide r (raw.wide {w = w} {n = at} q n a is) h =
    or-right _ _ (word_wide r.parallel a (fault_at-none w (width_word_fault r.parallel a)
    (option_or-none (fault_at w (width_word_fault r.parallel a)) (fault_at at (width_fault (value_at r at))) h).0))
kind_wide r (raw.list q n a is) h = refl
kind_wide r (raw.reference q n a is) h = refl
kind_wide r (raw.map q n a is) h = refl
kind_wide r (raw.stream q a is) h = refl

stream_fits : (at : ℕ) (a : Access) → stream_fault kind.Stream a ≡ None → access_fits a kind.Stream ≡ true
stream_fits at Read h = refl
stream_fits at WriteOnly h = refl
stream_fits at Both h = cc

kind_is : (r : RawKernel) {events : List Event} {p : RawParam} → SpellsKind events p → param_kind_fault r p p.width ≡ None → access_fits p.access p.kind ≡ true
kind_is r (raw.int q is) h = refl
kind_is r (raw.array q n a is) h = refl
kind_is r (raw.wide q n a is) h = refl
kind_is r (raw.list q n a is) h = refl
kind_is r (raw.reference q n a is) h = refl
kind_is r (raw.map q n a is) h = refl
kind_is r (raw.stream {w = w} q a is) h = stream_fits w a (fault_at-none w (stream_fault kind.Stream a) h)

abbrev AllFit : RawKernel → List RawParam → Type 0
AllFit r [] = Unit {0}
AllFit r (p ∷ more) = (text_fits (raw_param_text r p) ≡ true) × (text_wide r.parallel (raw_param_text r p) ≡ true) × AllFit r more

all_fit : (r : RawKernel) (k : ℕ) {events : List Event} {ps : List RawParam} → SpellsParams events ps → params_fault r k ps ≡ None → AllFit r ps
all_fit r k (raw.none is) h = tt
all_fit r k (raw.param q ks rest {p = p} d more is) h =
    let parts = option_or-none _ _ h in
    let own = (option_or-none _ _ parts.0).1 in
    let width = width-of r p p.width own in
    (and_from _ _ (kind_is r d own) (and_from _ _ (le-leb _ _ width.0) (le-leb _ _ width.1)), kind_wide r d own, all_fit r (k + 1) more parts.1)

texts_fit : (r : RawKernel) (ps : List Param) (ts : List RawParam) → map param_text ps ≡ map (raw_param_text r) ts → AllFit r ts → list_all param_fits ps ≡ true
texts_fit r [] [] e h = refl
texts_fit r [] (t ∷ ts) e h = cc
texts_fit r (p ∷ ps) [] e h = cc
texts_fit r (p ∷ ps) (t ∷ ts) e h =
    let head : param_text p ≡ raw_param_text r t = cc in
    let tail : map param_text ps ≡ map (raw_param_text r) ts = cc in
    and_from _ _ (param_same p ∙ ap text_fits head ∙ h.0) (texts_fit r ps ts tail h.2)

-- the parameters that these are fit
pub params : (r : RawKernel) {events : List Event} (ps : List Param) → SpellsParams events r.params.items → params_fault r 0 r.params.items ≡ None
    → map param_text ps ≡ map (raw_param_text r) r.params.items →
    list_all param_fits ps ≡ true
params r ps spells h same = texts_fit r ps r.params.items same (all_fit r 0 spells h)

texts_wide : (r : RawKernel) (parallel : Bool) → parallel ≡ r.parallel → (ps : List Param) (ts : List RawParam) → map param_text ps ≡ map (raw_param_text r) ts
    → AllFit r ts →
    list_all (width_fits parallel) ps ≡ true
texts_wide r parallel same [] [] e h = refl
texts_wide r parallel same [] (t ∷ ts) e h = cc
texts_wide r parallel same (p ∷ ps) [] e h = cc
texts_wide r parallel same (p ∷ ps) (t ∷ ts) e h =
    let head : param_text p ≡ raw_param_text r t = cc in
    let tail : map param_text ps ≡ map (raw_param_text r) ts = cc in
    and_from _ _ (ap (text_wide parallel) head ∙ ap (λ b. text_wide b (raw_param_text r t)) same ∙ h.1) (texts_wide r parallel same ps ts tail h.2)

-- their widths stand where they may
pub widths : (r : RawKernel) {events : List Event} (parallel : Bool) (ps : List Param) → parallel ≡ r.parallel → SpellsParams events r.params.items
    → params_fault r 0 r.params.items ≡ None →
    map param_text ps ≡ map (raw_param_text r) r.params.items → list_all (width_fits parallel) ps ≡ true
widths r parallel ps same spells h texts = texts_wide r parallel same ps r.params.items texts (all_fit r 0 spells h)
