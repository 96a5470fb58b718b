-- A kernel that is a raw kernel without faults fits: its numbers name parameters and locals that fit where they stand.
use Rattle.std.proofs.Common.{ℕ, zero, suc, ◌≡◌, IsTrue, List, [], map, length, Some, None, slice_get, refl, ap, subst, ◌∙◌, arith}
use Rattle.job_base.specs.declared.Access.TheVariants.{Read}
use Rattle.frame_grammar.specs.declared.symbols.Event.{Event}
use Rattle.frame_ast.specs.declared.kernel.ParamKind.TheVariants as kind
use Rattle.frame_ast.specs.declared.kernel.Kernel.{Kernel}
use Rattle.frame_ast.specs.Checked.{all_fit, stmt_fits}
use Rattle.kernel_raw.specs.declared.raw.RawParam.{RawParam}
use Rattle.kernel_raw.specs.declared.raw.RawKernel.{RawKernel}
use Rattle.kernel_raw.specs.RawEvents.{SpellsKind, SpellsParams, SpellsRaw}
use Rattle.kernel_raw.specs.RawEvents as raw
use Rattle.kernel_code.specs.StaticFaults.{first_fault}
use Rattle.kernel_code.specs.Trees.{IsKernelOf}
use Rattle.kernel_code.proofs.Built.Counting.{all-kept}
use Rattle.kernel_code.proofs.Built.Kernels.{body-here, body-size}
use Rattle.kernel_code.proofs.Limits.Kernels.{faultless}
use Rattle.kernel_code.proofs.Fitting.Streams.{none-open}
use Rattle.kernel_code.proofs.Fitting.Expressions.{IsSound}
use Rattle.kernel_code.proofs.Fitting.Statements.{block-fits}

-- an `int` is written without an access
int-read : {events : List Event} {p : RawParam} → SpellsKind events p → p.kind ≡ kind.Int → p.access ≡ Read
int-read (raw.int q h) e = refl
int-read (raw.array q r a h) e = cc
int-read (raw.wide q r a h) e = cc
int-read (raw.list q r a h) e = cc
int-read (raw.reference q r a h) e = cc
int-read (raw.map q r a h) e = cc
int-read (raw.stream q a h) e = cc

ints-read : {events : List Event} {ps : List RawParam} → SpellsParams events ps → (x : ℕ) (p : RawParam) → slice_get ps x ≡ Some p → p.kind ≡ kind.Int
    → p.access ≡ Read
ints-read (raw.none h) x p s e = cc
ints-read (raw.param q ks rest {p = first} k more h) zero p s e =
    let same : first ≡ p = cc in subst (λ z. z.access ≡ Read) same (int-read k (ap (λ z. z.kind) same ∙ e))
ints-read (raw.param q ks rest k more h) (suc x) p s e = ints-read more x p s e

pub fits : (events : List Event) (raw : RawKernel) (k : Kernel) (earlier : List Kernel) → SpellsRaw events raw → first_fault raw earlier ≡ None
    → IsKernelOf raw k →
    IsTrue (all_fit (map (stmt_fits k.parallel k.params.items k.locals) k.body.statements.items) [])
fits events raw k earlier s h is =
    let sound : IsSound raw k.parallel k.params.items k.locals = record {
      faultless = (faultless raw earlier h).1;
      is_parallel = is.parallel;
      same = is.params;
      count = is.locals;
      ints = ints-read s.with_params;
    } in
    let all = all-kept events raw s (faultless raw earlier h).1 in
    let here = body-here events raw s all in
    let size = body-size events raw s all in
    block-fits raw k.parallel k.params.items k.locals sound (is.body events s) None (length raw.nodes.items) [] here.stands (omega arith)
    (none-open raw (length raw.nodes.items))
