use Rattle.std.proofs.Common.{ℕ, ◌<◌, List, length, IfSome, Err, Some, subst, sym, ap, ◌∙◌, option_map, string_bytes}
use Rattle.job_base.specs.declared.limits.TheConstants.{MOST_TABLE_BYTES}
use Rattle.frame_top.proofs.Asked.{long_some, table_by_name, same_fault}
use Rattle.frame_top.proofs.inputs.read_named.Goals as goal

pub returns-in-Err-clause-too_long : goal.returns-in-Err-clause-too_long
returns-in-Err-clause-too_long g c e =
    let long = subst (λ (most : ℕ). IfSome (g.F.Files.bytes c.args.files.now c.deref.result.now) (λ (b : List ℕ). most < length b)) c.from.ensures
    (c.in-Err.ensures.too_long (ap Err (same_fault _ _ e))) in
    let l = long_some (g.F.Files.bytes c.args.files.now c.deref.result.now) MOST_TABLE_BYTES long in (
      l.0,
      table_by_name (g.F.Files.bytes c.args.files.now) _ c.deref.result.now l.0
          (ap (option_map string_bytes) c.in-Some.is ∙ ap Some (sym c.deref.ensures)) l.1,
      l.2,
    )
