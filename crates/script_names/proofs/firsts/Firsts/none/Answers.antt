use Rattle.std.proofs.Common.{rules, ◌≡◌, ◌∙◌, ap, map, replicate}
use Rattle.script_names.specs.Firsts.{place_noted}
use Rattle.script_names.proofs.FirstLemmas.{none_noted}
use Rattle.script_names.proofs.firsts.Firsts.none.Goals as goal

pub returns : goal.returns
returns c =
    let zeros : c.resize.new.self.items ≡ replicate c.args.count 0 = search rules in
    ap (map place_noted) zeros ∙ none_noted c.args.count
