use Rattle.std.proofs.Common.{◌≡◌, ◌+◌, ◌-◌, ap, take, drop, ◌∙◌, arith}
use Rattle.frame_host.proofs.Numbering.{window}
use Rattle.frame_host.proofs.reading.part.Goals as goal

pub returns : goal.returns
returns c =
    let len : c.args.start + c.args.len - c.args.start ≡ c.args.len = omega arith in
    ap (λ n. take n (drop c.args.start c.args.cells.now)) len
    ∙ window c.args.cells.now c.args.start c.args.len c.requires.within
