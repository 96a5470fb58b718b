use Rattle.std.proofs.Common.{◌≡◌, ◌<◌, ◌∙◌, ap, sym, length, map, arith}
use Rattle.table_in.proofs.ColumnLemmas.{seen, kept, length-seen}
use Rattle.table_in.proofs.columns.Table.make_room_in.Goals as goal

pub returns : goal.returns
returns c =
    let columns = c.self.inside.columns.items in
    let view : map seen columns ≡ c.args.self.now = c.self.view_is in
    let count : length columns ≡ length c.args.self.now = sym (length-seen columns) ∙ ap length view in
    let lt : c.args.i < length columns = let inside = c.requires in omega (arith, count, inside) in
    kept seen columns c.args.i c.index_mut-column.result.now (record { name = c.index_mut-column.result.now.name; values = c.reserve.new.self }) lt
    c.index_mut-column.ensures.value
    (ap (λ vs. record { name = c.index_mut-column.result.now.name.items; values = vs }) c.in_ok-reserve.ensures.items)
    ∙ view
