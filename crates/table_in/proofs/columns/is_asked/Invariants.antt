use Rattle.std.proofs.Common.{◌≡◌, map, drop}
use Rattle.table_in.specs.Columns.{is_asked}
use Rattle.table_in.proofs.columns.is_asked.Given as goal

abbrev pub invariant-loop-one : goal.invariant-loop-one
invariant-loop-one l =
    is_asked (map (λ v. v.items) (drop l.one-index l.asked)) l.name ≡ is_asked (map (λ v. v.items) l.asked) l.name
