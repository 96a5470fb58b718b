use Rattle.std.proofs.Common.{◌≡◌, ◌∙◌, refl, sym, subst}
use Rattle.frame_ast.specs.declared.script.Order.TheVariants as order
use Rattle.frame_ast.specs.SameJobs.{SameJob}
use Rattle.frame_script.specs.Copies.{IsCopyOf}
use Rattle.frame_script.proofs.copies.order_copy.Goals as goal

pub returns-in_ok-to_vec-in-Column : goal.returns-in_ok-to_vec-in-Column
returns-in_ok-to_vec-in-Column c =
    let bytes = c.in_ok-to_vec-in-Column.field-0 in
    let same : bytes.items ≡ c.in-Column.column.items = c.in_ok-to_vec-in-Column.ensures.items_if_clones_equal (λ x y e. e) ∙ c.deref.ensures.value in
    subst (λ o. IsCopyOf o (order.Column c.in-Column.name bytes c.in-Column.life)) (sym c.in-Column.is) (bytes, same, refl)

pub returns-in_ok-copy-in-Schedule : goal.returns-in_ok-copy-in-Schedule
returns-in_ok-copy-in-Schedule c =
    let copy = c.in_ok-copy-in-Schedule.copy in
    let same = subst (SameJob c.in_ok-job_copy-in-Schedule.field-0) c.deref-in-Schedule.ensures c.in_ok-job_copy-in-Schedule.ensures in
    subst (λ o. IsCopyOf o (order.Schedule copy)) (sym c.in-Schedule.is)
    (copy, subst (λ j. SameJob j c.in-Schedule.job.value) (sym c.in_ok-copy-in-Schedule.ensures.ok) same, refl)

pub returns-in_ok-to_vec-in-Combine : goal.returns-in_ok-to_vec-in-Combine
returns-in_ok-to_vec-in-Combine c =
    let handles = c.in_ok-to_vec-in-Combine.field-0 in
    let same : handles.items ≡ c.in-Combine.of.items = c.in_ok-to_vec-in-Combine.ensures.items_if_clones_equal (λ x y e. e)
    ∙ c.deref-in-Combine.ensures.value in
    subst (λ o. IsCopyOf o (order.Combine c.in-Combine.name handles)) (sym c.in-Combine.is) (handles, same, refl)

pub returns-in_ok-to_vec-in-Dispose : goal.returns-in_ok-to_vec-in-Dispose
returns-in_ok-to_vec-in-Dispose c =
    let handles = c.in_ok-to_vec-in-Dispose.field-0 in
    let same : handles.items ≡ c.in-Dispose.after.items = c.in_ok-to_vec-in-Dispose.ensures.items_if_clones_equal (λ x y e. e)
    ∙ c.deref-in-Dispose.ensures.value in
    subst (λ o. IsCopyOf o (order.Dispose c.in-Dispose.name handles c.in-Dispose.handle)) (sym c.in-Dispose.is) (handles, same, refl)
