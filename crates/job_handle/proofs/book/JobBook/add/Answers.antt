use Rattle.std.proofs.Common.{◌≡◌, ℕ, ◌+◌, List, vec_len, is_ok, sym, ap, subst₂, ◌∙◌}
use Rattle.frame_ast.specs.Jobs.{Book, only, both, with_job}
use Rattle.job_handle.specs.declared.handle.Handle.{Handle}
use Rattle.job_handle.specs.Sets.{jobs_of}
use Rattle.job_handle.specs.Books.{StandsFor, AreRowsOf}
use Rattle.job_handle.proofs.Rows.{adds, own_grown}
use Rattle.job_handle.proofs.book.JobBook.add.Goals as goal

row_is : (count made : ℕ) (all row : Handle) → count ≡ made → jobs_of row ≡ both (jobs_of all) (only (count + 1))
    → jobs_of row ≡ both (jobs_of all) (only (made + 1))
row_is count made all row same e = e ∙ ap (λ n. both (jobs_of all) (only (n + 1))) same

pub returns-in-Ok-clause-book : goal.returns-in-Ok-clause-book
returns-in-Ok-clause-book c =
    let book = c.args.self.now in
    let deps = c.args.deps.now in
    subst₂ (λ (n : ℕ) (rows : List Handle). (b : Book) → StandsFor book b → AreRowsOf n rows book.completed (with_job b (jobs_of deps)))
    (sym c.in-Ok.ensures.len) (sym c.in-Ok.ensures.items)
    (adds (vec_len book.rows) book.rows.items book.completed deps c.set_to_closure.new.all c.insert.new.self (sym book.rows.ok.0) c.set_to_closure.ensures.all
    (row_is c.count.result (vec_len book.rows) c.set_to_closure.new.all c.insert.new.self c.count.ensures.count c.insert.ensures) c.requires)

pub invariant_of-self-clause-own : goal.invariant_of-self-clause-own
invariant_of-self-clause-own c =
    let book = c.args.self.now in
    own_grown (is_ok c.push.result) (vec_len book.rows) (vec_len c.push.new.self) book.rows.items c.push.new.self.items c.set_to_closure.new.all
    c.insert.new.self (sym book.rows.ok.0) book.own
    (row_is c.count.result (vec_len book.rows) c.set_to_closure.new.all c.insert.new.self c.count.ensures.count c.insert.ensures) c.push.ensures.len
    c.push.ensures.items
