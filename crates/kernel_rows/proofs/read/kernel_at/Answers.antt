use Rattle.std.proofs.Common.{◌≡◌, inl, inr, ℕ, List, [], Result, Err, IsErrAnd, refl, sym, ap, subst}
use Rattle.frame_ast.specs.declared.kernel.FaultKind.TheVariants.{Syntax}
use Rattle.kernel_raw.specs.declared.fault.KernelFault.TheVariants.{Refused}
use Rattle.kernel_raw.specs.declared.raw.RawKernel.{RawKernel}
use Rattle.kernel_text.specs.declared.token.Token.{Token}
use Rattle.kernel_text.specs.Marks.{tokens_in}
use Rattle.kernel_raw.specs.Parsing.{StandsAt, StopsAt}
use Rattle.kernel_code.specs.StaticFaults.{first_fault, TellsFault}
use Rattle.kernel_rows.proofs.read.kernel_at.Goals as goal

-- a call that ends with an error hands on this one
handed : {A E : Type 0} (r : Result A E) (e d : E) → IsErrAnd r (λ x. x ≡ e) → r ≡ Err d → e ≡ d
handed r e d h is = sym (subst (λ x. IsErrAnd x (λ y. y ≡ e)) is h)

-- where it stands, told by places
placed : (source : List ℕ) (tokens : List Token) (raw : RawKernel) (at at' next next' : ℕ) → at ≡ at' → next ≡ next' → StandsAt source tokens at next raw
    → StandsAt source tokens at' next' raw
placed source tokens raw at at' next next' p q stands = subst (λ n. StandsAt source tokens n next' raw) p
    (subst (λ n. StandsAt source tokens at n raw) q stands)

pub returns-in_err-raw-clause-refused : goal.returns-in_err-raw-clause-refused
returns-in_err-raw-clause-refused c line kind is =
    let told = handed c.from_residual.result _ (Refused line kind) c.from_residual.ensures.1 is in
    inl (subst (λ n. (kind ≡ Syntax) × StopsAt (tokens_in c.args.source.now 1 c.args.marks.now) n line) c.of.ensures
    (c.in_err-raw.ensures.fault line kind (ap (λ e. Err e) told)))

pub returns-in_err-kernel-clause-refused : goal.returns-in_err-kernel-clause-refused
returns-in_err-kernel-clause-refused c line kind is =
    let told = handed c.from_residual-in_err-kernel.result _ (Refused line kind) c.from_residual-in_err-kernel.ensures.1 is in
    inr (record {
      raw = c.in_ok-raw.raw;
      next = c.in_ok-raw.next;
      stands = placed _ _ c.in_ok-raw.raw _ _ _ _ c.of.ensures refl c.in_ok-raw.ensures.kernel;
      tells = subst (TellsFault c.in_ok-raw.raw (first_fault c.in_ok-raw.raw [])) told c.in_err-kernel.ensures.refused;
    })

pub returns-clause-kernel : goal.returns-clause-kernel
returns-clause-kernel c = record {
  raw = c.in_ok-raw.raw;
  stands = placed _ _ c.in_ok-raw.raw _ _ _ _ c.of.ensures
      (sym c.place.ensures) c.in_ok-raw.ensures.kernel;
  is = c.in_ok-kernel.ensures.kernel;
}
