use Rattle.std.proofs.Common.{◌≡◌, true, sym, ◌∙◌}
use Rattle.std.proofs.lemmas.Bool.{or_left, or_right}
use Rattle.frame_ast.specs.Jobs.{ancestors_in, happens_before}
use Rattle.frame_ast.proofs.Ancestry.{contains}
use Rattle.job_handle.specs.Sets.{jobs_of}
use Rattle.job_handle.proofs.book.JobBook.is_before.Goals as goal
use Rattle.job_handle.proofs.book.JobBook.is_before.Goals.{then-has, else-has}

pub returns-then-has-2 : goal.returns-then-has-2
returns-then-has-2 c b F =
    let j = c.args.j.0 in
    let after = jobs_of c.args.after.now in
    let before : happens_before b after j ≡ true =
    elim c.if-has.branch [
      | then-has w ↦ or_left (b.completed j) (ancestors_in b after j) (sym (F.completed j) ∙ (sym c.has.ensures ∙ w.if-has.true))
      | else-has w ↦ or_right (b.completed j) (ancestors_in b after j)
          (contains b.deps b.count after j (sym w.has-else-has.ensures ∙ (sym w.value-is ∙ c.if-has-2.true)))
    ] in
    c.if-has-2.true ∙ sym before
