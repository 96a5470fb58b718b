-- A name of the right kind that nothing blocks may be written through.
use Rattle.std.proofs.Common.{◌≡◌, ℕ, true, List, [], length, take, Some, refl, ap, subst, arith}
use Rattle.std.specs.Prelude.{get_or, slice_get}
use Rattle.frame_ast.specs.declared.kernel.Kernel.{Kernel}
use Rattle.frame_ast.specs.declared.name_kind.NameKind.{NameKind}
use Rattle.frame_ast.specs.declared.script.Order.{Order}
use Rattle.frame_ast.specs.declared.script.Order.TheVariants as order
use Rattle.frame_ast.specs.Accepted.{Names, kind_in, uses, order_fits}
use Rattle.frame_ast.specs.Kinds.{IsOfKind}
use Rattle.frame_ast.specs.Orders.{setting}
use Rattle.frame_ast.specs.Scripts.{final}
use Rattle.frame_ast.specs.States.{ScriptState, Value, is_alive, container_of}
use Rattle.frame_ast.proofs.NameKinds.{names_keep_their_kinds}
use Rattle.frame_ast.proofs.Naming.{is_used, fits_there}
use Rattle.frame_core.proofs.Small.{not_both, some_is, none_some, get_below}
use Rattle.plan_laws.specs.Accessing.{kind_seen, written_by, NamesAreWritable, AcceptedNamesAreWritable}
use Rattle.plan_laws.proofs.Statements.Printing.{allowed}
use Rattle.plan_laws.proofs.Statements.Usable.{names_are_usable}

kind_is : (s : ScriptState) (k : NameKind) (v : Value) → IsOfKind s k v → is_alive s v ≡ true → Some k ≡ kind_seen v (s.contents (container_of v))
kind_is s k Value.Dead h alive = absurd (not_both alive refl)
kind_is s k (Value.Whole c) h alive = ap Some h.0
kind_is s k (Value.Slice c from len) h alive = ap Some h.0
kind_is s k (Value.View c number) h alive = ap Some h.0
kind_is s k (Value.Handle jobs) h alive = absurd (not_both alive refl)

pub names_are_writable : NamesAreWritable
names_are_writable x g s name k all kinds names each holds is among unblocked =
    let alive = (allowed s name true unblocked).alive in
    let lt = get_below all name k is in
    let same : length x.plan.names ≡ length g.names = ap length names in
    record {
      unblocked = unblocked;
      usable = names_are_usable all s name k holds is alive;
      kind = subst (λ o. kind_in o kinds ≡ true) (kind_is s k (s.values name) (holds.names name k is) alive) among;
      below = omega arith;
      named = ap (λ texts. get_or texts name []) names;
    }

used_by : (ns : Names) (literals : List (List Rattle.std.specs.Prelude.ℤ)) (kernels : List Kernel) (rest inside name : ℕ) (kinds : List NameKind) (o : Order)
    → written_by o ≡ Some (name, kinds)
    → order_fits ns literals kernels rest inside o ≡ true → uses ns name kinds ≡ true
used_by ns literals kernels rest inside name kinds (order.Set n at v) e fits = subst (λ p. uses ns p.0 p.1 ≡ true) (some_is e) fits
used_by ns literals kernels rest inside name kinds (order.Add n first second) e fits = subst (λ p. uses ns p.0 p.1 ≡ true) (some_is e) fits
used_by ns literals kernels rest inside name kinds (order.Put n key v) e fits = subst (λ p. uses ns p.0 p.1 ≡ true) (some_is e) fits
used_by ns literals kernels rest inside name kinds (order.Remove n i) e fits = subst (λ p. uses ns p.0 p.1 ≡ true) (some_is e) fits
used_by ns literals kernels rest inside name kinds (order.Clear n) e fits = subst (λ p. uses ns p.0 p.1 ≡ true) (some_is e) fits
used_by ns literals kernels rest inside name kinds o e fits = absurd (none_some e)

pub accepted_names_are_writable : AcceptedNamesAreWritable
accepted_names_are_writable script is table n st at name kinds by x names unblocked =
    let g = setting script table in
    let there = fits_there g is.kinds 0 0 script.statements.items n st is.fits at in
    let ns : Names = record { kinds = is.kinds; made = there.made } in
    let used = is_used ns name kinds (used_by ns g.literals g.kernels there.rest there.inside name kinds st.act by there.fits) in
    names_are_writable x g (final g (take n script.statements.items)) name used.kind is.kinds kinds names
    is.each
    (names_keep_their_kinds script is table n) used.at used.fits unblocked
