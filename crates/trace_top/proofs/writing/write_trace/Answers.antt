use Rattle.std.proofs.Common.{refl, subst, take, ◌∙◌}
use Rattle.std.specs.Io.KnownBytes.{Appends}
use Rattle.trace_top.specs.Traced.{Whole, Part}
use Rattle.trace_top.proofs.writing.write_trace.Goals as goal

pub returns-in-Ok-print_text-clause-written : goal.returns-in-Ok-print_text-clause-written
returns-in-Ok-print_text-clause-written g c =
    Whole refl c.args.sections.now refl
    (subst (λ t. Appends (g.S.Sink.taken c.args.sink.now) (g.S.Sink.taken c.print_text.new.sink) t) (c.as_bytes.ensures.value ∙ c.in-Ok.ensures)
    c.in-Ok-print_text.ensures.text)
    c.in-Ok-print_text.ensures.count

pub returns-clause-written : goal.returns-clause-written
returns-clause-written g c =
    let some = c.in-Err.ensures.text in
    Part refl c.args.sections.now refl some.0
    (subst (λ t. Appends (g.S.Sink.taken c.args.sink.now) (g.S.Sink.taken c.print_text.new.sink) (take some.0 t)) (c.as_bytes.ensures.value ∙ c.in-Ok.ensures)
    some.1)
    c.in-Err.ensures.cause
