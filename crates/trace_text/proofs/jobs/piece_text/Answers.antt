use Rattle.std.proofs.Common.{ap, ◌∙◌}
use Rattle.trace_text.specs.Events.{piece_text, piece_args}
use Rattle.trace_text.proofs.jobs.piece_text.Goals as goal

pub returns : goal.returns
unfolding piece_text
returns c =
    let part = c.in_ok-part.ensures ∙ ap (λ n. piece_args n c.args.piece) c.len.ensures in
    rw (c.as_str-kernel.ensures.value, c.in_ok-when.ensures, c.in_ok-which.ensures, part) at c.format.ensures.ok
