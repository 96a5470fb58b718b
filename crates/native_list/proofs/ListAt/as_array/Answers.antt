use Rattle.std.proofs.Common.{◌+◌, sym, subst}
use Rattle.native_list.specs.Views.{IsViewOf}
use Rattle.native_list.proofs.Views.{is_view}
use Rattle.native_list.proofs.ListAt.as_array.Goals as goal

pub returns-clause-view : goal.returns-clause-view
returns-clause-view g c =
    subst (λ n. IsViewOf c.args.self.now (g.M.Mem.cells c.args.mem.now) (record { start = c.args.self.now.start + 1; len = n })) (sym c.len-len.ensures.words)
    (is_view c.args.self.now (g.M.Mem.cells c.args.mem.now))
