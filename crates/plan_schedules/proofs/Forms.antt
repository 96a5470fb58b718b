-- A schedule's job, said by what it says: without `defer` and with it.
use Rattle.std.proofs.Common.{◌≡◌, ◌∙◌, ap, sym, None, Some}
use Rattle.std.specs.Prelude.{Box, ℕ}
use Rattle.std.specs.declared.alloc.Global.{Global}
use Rattle.frame_ast.specs.declared.script.NewJob.{NewJob}
use Rattle.frame_ast.specs.declared.script.Order.{Order}
use Rattle.frame_ast.specs.declared.script.Order.TheVariants.{Schedule}
use Rattle.plan_schedules.specs.Starting.{in_box, undeferred}
use Rattle.plan_schedules.specs.Deferring.{by_list}

pub without_list : (asked : NewJob) → asked.defer ≡ None → asked ≡ undeferred asked
without_list asked none = λ i. record asked { defer = none i }

pub with_list : (asked : NewJob) (d : ℕ × ℕ) → asked.defer ≡ Some d → asked ≡ by_list asked asked.cut d
with_list asked d some = λ i. record asked { defer = some i }

-- a statement whose box has this job
pub boxed : (x : Order) (home : Box NewJob Global) (asked : NewJob) → x ≡ Schedule home → asked ≡ home.value → x ≡ Schedule (in_box home asked)
boxed x home asked is same = is ∙ ap (λ j. Schedule (in_box home j)) (sym same)
