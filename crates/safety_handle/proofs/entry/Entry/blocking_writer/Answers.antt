use Rattle.std.proofs.Common.{◌≡◌, true, false, refl, sym, ap, subst, ◌∙◌}
use Rattle.frame_ast.specs.Jobs.{Jobs, happens_before}
use Rattle.job_handle.specs.Sets.{jobs_of}
use Rattle.safety_handle.specs.Entries.{writer_in, readers_in}
use Rattle.safety_handle.specs.Uses.{Latest}
use Rattle.safety_handle.specs.declared.entry.Entry.{Entry}
use Rattle.safety_handle.proofs.Conflicting.{writer_blocks, waited_for, nothing_blocks, only_writer, unwritten}
use Rattle.safety_handle.proofs.entry.Entry.blocking_writer.Goals as goal

abbrev latest : Entry → Jobs → Latest
latest e them = record { writer = writer_in e.writer; readers = readers_in e.is_read them }

pub is_before-requires-clause-job : goal.is_before-requires-clause-job
is_before-requires-clause-job c = c.args.self.now.writer_known c.in-Some.j.0 c.in-Some.is

pub returns-then-is_before : goal.returns-then-is_before
returns-then-is_before c them b u F U S =
    let e = c.args.self.now in
    waited_for c.args.jobs.now (latest e them) c.args.deps.now false
    (λ b F k t. subst (λ k. happens_before b (jobs_of c.args.deps.now) k ≡ true)
    (sym (only_writer (latest e them) false k (λ k. refl) t ∙ ap (λ w. writer_in w) c.in-Some.is)) (sym (c.is_before.ensures b F) ∙ c.if-is_before.true))
    b u F U S

pub returns-else-is_before : goal.returns-else-is_before
returns-else-is_before c them b u F U S =
    let e = c.args.self.now in
    let known = e.writer_known c.in-Some.j.0 c.in-Some.is in
    writer_blocks c.args.jobs.now (latest e them) c.args.deps.now c.in-Some.j.0 (sym (ap (λ w. writer_in w) c.in-Some.is)) known.0
    (λ b F. sym (c.is_before.ensures b F) ∙ c.if-is_before.false) b u F U S

pub returns-in-None : goal.returns-in-None
returns-in-None c them b u F U S =
    let e = c.args.self.now in
    nothing_blocks c.args.jobs.now (latest e them) c.args.deps.now false (λ k. unwritten (latest e them) k (ap (λ w. writer_in w) c.in-None.is)) b u F U S
