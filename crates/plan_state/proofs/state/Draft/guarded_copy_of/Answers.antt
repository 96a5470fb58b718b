use Rattle.std.proofs.Common.{◌≡◌, ℕ, Option, Some, inr, ap, subst}
use Rattle.std.specs.Prelude.{Vec, slice_set}
use Rattle.std.specs.declared.alloc.Global.{Global}
use Rattle.plan_state.specs.declared.state.Draft.{Draft}
use Rattle.plan_state.specs.Copies.{IsAdded}
use Rattle.plan_state.proofs.Accessing.{read_some}
use Rattle.plan_state.proofs.state.Draft.guarded_copy_of.Goals as goal

pub returns : goal.returns
returns c =
    let old = c.args.self.now in
    let added = c.in_ok-place.ensures in
    let same : c.add_kernel.new.self.guards_of ≡ old.guards_of = ap (λ (d : Draft). d.guards_of) added.rest in
    inr (record {
      source = c.index-2.result.now;
      copy = c.in_ok-copy.copy;
      is_source = read_some c.args.script.now.kernels c.args.kernel c.index-2.result.now c.requires.kernel c.index-2.ensures;
      guards = c.in_ok-copy.ensures;
      added = subst (λ d. IsAdded old d c.in_ok-copy.copy c.in_ok-place.place) (λ i. record c.add_kernel.new.self { guards_of = same i }) added;
      places = ap (λ (v : Vec (Option ℕ) Global). slice_set v.items c.args.kernel (Some c.in_ok-place.place)) same;
    })
