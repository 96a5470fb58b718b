use Rattle.std.proofs.Common.{◌≡◌, ◌<◌, ◌∙◌, ◌++◌, ◌∷◌, [], ap, sym, length, map, arith, to_z, of_z, to_z-of_z, FitsSigned, w64}
use Rattle.std.specs.List.{slice_set, slice_index_or}
use Rattle.table_in.specs.Columns.{with_value, empty_column}
use Rattle.table_in.proofs.ColumnLemmas.{seen, pushed, length-seen}
use Rattle.table_in.proofs.columns.Table.push_value.Goals as goal

pub returns : goal.returns
returns c =
    let columns = c.self.inside.columns.items in
    let fits : FitsSigned w64 c.args.value = c.ranges.value in
    let value : to_z w64 (of_z w64 c.args.value) ≡ c.args.value = to_z-of_z fits in
    let view : map seen columns ≡ c.args.self.now = c.self.view_is in
    let count : length columns ≡ length c.args.self.now = sym (length-seen columns) ∙ ap length view in
    let lt : c.args.i < length columns = let inside = c.requires in omega (arith, count, inside) in
    pushed seen columns c.args.i c.index_mut-column.result.now (record { name = c.index_mut-column.result.now.name; values = c.push.new.self }) c.args.value lt
    c.index_mut-column.ensures.value
    (ap (λ vs. record { name = c.index_mut-column.result.now.name.items; values = vs })
    (c.in_ok-push.ensures.items ∙ ap (λ v. c.index_mut-column.result.now.values.items ++ v ∷ []) value))
    ∙ ap (λ cs. slice_set cs c.args.i (with_value (slice_index_or cs c.args.i (empty_column [])) c.args.value)) view
