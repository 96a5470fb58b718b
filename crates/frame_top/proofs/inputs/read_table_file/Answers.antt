use Rattle.std.proofs.Common.{ℕ, ◌<◌, List, length, Option, Some, IfOk, subst, sym}
use Rattle.job_base.specs.declared.limits.TheConstants.{MOST_TABLE_BYTES}
use Rattle.job_base.specs.Faults.{Rose}
use Rattle.frame_top.specs.Asking.{IsAsked, bytes_in}
use Rattle.frame_top.specs.Inputs.{CanBeTable, IsUnread}
use Rattle.frame_top.proofs.Asked.{table_is}
use Rattle.frame_top.proofs.inputs.read_table_file.Goals as goal

pub returns-in-Run-clause-table : goal.returns-in-Run-clause-table
returns-in-Run-clause-table g c words asked =
    subst (λ (o : Option (List ℕ)). IfOk c.read_named.result (λ bytes. CanBeTable (g.F.Files.bytes c.args.files.now) o (bytes_in bytes)))
    (sym (table_is _ _ _ _ _ (subst (IsAsked words) c.in-Run.is asked))) c.read_named.ensures.table

pub returns-in-Run-clause-too_long : goal.returns-in-Run-clause-too_long
returns-in-Run-clause-too_long g c e words asked =
    subst (λ (o : Option (List ℕ)). (x : List ℕ) × CanBeTable (g.F.Files.bytes c.args.files.now) o (Some x) × (MOST_TABLE_BYTES < length x))
    (sym (table_is _ _ _ _ _ (subst (IsAsked words) c.in-Run.is asked))) (c.read_named.ensures.too_long e)

pub returns-in-Run-clause-failed : goal.returns-in-Run-clause-failed
returns-in-Run-clause-failed g c e words asked =
    subst (λ (o : Option (List ℕ)). IsUnread (Rose (g.F.Files.faults c.args.files.now) (g.F.Files.faults c.read_named.new.files))
    (g.F.Files.last_failed c.read_named.new.files) o)
    (sym (table_is _ _ _ _ _ (subst (IsAsked words) c.in-Run.is asked))) (c.read_named.ensures.failed e)
