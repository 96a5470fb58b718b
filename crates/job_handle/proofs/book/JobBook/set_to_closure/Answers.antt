use Rattle.std.proofs.Common.{◌≡◌, suc, true, ◌-◌, vec_len, sym, ap, subst, ◌∙◌, arith}
use Rattle.job_handle.specs.declared.handle.Handle.{Handle}
use Rattle.job_handle.specs.Sets.{jobs_of}
use Rattle.job_handle.specs.Books.{IsUnion}
use Rattle.job_handle.proofs.Rows.{none_yet, next_row, none_left, all_there, all_own}
use Rattle.job_handle.proofs.book.JobBook.set_to_closure.Goals as goal

pub loop-j-init : goal.loop-j-init
loop-j-init c =
    let book = c.args.self.now in
    record {
      within = let count = c.count-left.ensures.count in omega arith;
      union = subst (λ n. IsUnion (vec_len book.rows) book.rows.items book.completed c.args.h.now c.clear.new.self n) (sym c.count-left.ensures.count)
          (none_yet (vec_len book.rows) book.rows.items book.completed c.args.h.now c.clear.new.self c.clear.ensures);
    }

pub loop-j-preserved : goal.loop-j-preserved
loop-j-preserved c =
    let book = c.args.self.now in
    let j = c.in-Some.j.0 in
    let found = c.in-Some.ensures in
    let within = c.loop-j.invariant.within in
    let some : suc (j - 1) ≡ j = let low = found.0 in omega arith in
    let row = c.index.result.now in
    record {
      within = let high = found.1 in omega arith;
      union = next_row (vec_len book.rows) book.rows.items book.completed c.args.h.now c.loop-j.all c.add_all.new.self row c.loop-j.left j
          c.loop-j.invariant.union within found.0 found.1 found.2 found.3 c.index.ensures
          (subst (λ k. jobs_of row k ≡ true) some
          (ap (λ (x : Handle). jobs_of x (suc (j - 1))) c.index.ensures ∙ book.own (j - 1) row (let low = found.0 in let high = found.1 in omega arith)))
          c.add_all.ensures;
    }

pub returns-clause-all : goal.returns-clause-all
returns-clause-all c =
    let book = c.args.self.now in
    all_there (vec_len book.rows) book.rows.items book.completed c.args.h.now c.loop-j.all
    (none_left (vec_len book.rows) book.rows.items book.completed c.args.h.now c.loop-j.all c.loop-j.left c.loop-j.invariant.union c.in_default.ensures)
    c.requires

pub returns-clause-own : goal.returns-clause-own
returns-clause-own c =
    let book = c.args.self.now in
    all_own (vec_len book.rows) book.rows.items book.completed c.args.h.now c.loop-j.all
    (none_left (vec_len book.rows) book.rows.items book.completed c.args.h.now c.loop-j.all c.loop-j.left c.loop-j.invariant.union c.in_default.ensures)
    c.requires
