use Rattle.std.proofs.Common.{ap, ◌∙◌}
use Rattle.kernel_raw.specs.Keeping.{kept_of, begun_named}
use Rattle.kernel_raw.proofs.Reading.FirstEvents.{takes_statement}
use Rattle.kernel_raw.proofs.first.take_named_statement.Goals as goal

pub returns : goal.returns
returns c =
    takes_statement _ c.args.at c.args.name _ _ c.requires.first c.requires.second c.requires.space c.requires.room
    (c.in_ok-begin_named.ensures ∙ ap (λ owner. begun_named c.args.at owner c.args.name (kept_of c.args.reader.now)) c.innermost-owner.ensures)
